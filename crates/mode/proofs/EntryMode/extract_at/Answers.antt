-- `mode::EntryMode::extract_at` meets its contract: the text's bits make the mode. Assumes nothing.
use mathlib.Core.Path.{sym, ap, ◌∙◌}
use Rattle.mode.specs.Read.{made}
use Rattle.mode.proofs.Laws.{made_at}
use Rattle.mode.proofs.EntryMode.extract_at.Goals as goal

pub returns-in-Some : goal.returns-in-Some
returns-in-Some c = ap made (sym c.in-Some.is ∙ c.read_at.ensures) ∙ made_at _ _

pub returns-in-None : goal.returns-in-None
returns-in-None c = ap made (sym c.in-None.is ∙ c.read_at.ensures) ∙ made_at _ _
