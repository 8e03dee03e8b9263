-- `bundle::repeated` meets its contract. Assumes nothing.
use mathlib.Core.Path.{sym, ◌∙◌}
use mathlib.Core.List.{[]}
use Rattle.twice.proofs.Laws.{twice-good}
use Rattle.framed.proofs.Laws.{rises-apart}
use Rattle.bundle.proofs.repeated.Goals as goal

pub returns-then-ascending : goal.returns-then-ascending
returns-then-ascending c = sym (rises-apart [] _ (sym c.ascending.ensures ∙ c.if-ascending.true))

pub returns : goal.returns
returns c = c.id_twice.ensures ∙ twice-good _ c.requires.s_len_bound _ c.requires.s_value
