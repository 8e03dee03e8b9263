-- `finding::find_object` meets its contract. Assumes nothing.
use mathlib.Core.Path.{sym, ◌∙◌}
use Rattle.frame.proofs.Laws.{place-good, place-bad}
use Rattle.finding.proofs.find_object.Goals as goal

pub returns-in-Some : goal.returns-in-Some
returns-in-Some c = c.find_from.ensures ∙ sym (place-good _ _ _ _ (sym c.read_header.ensures ∙ c.in-Some.is))

pub returns-in-None : goal.returns-in-None
returns-in-None c = sym (place-bad _ _ _ (sym c.read_header.ensures ∙ c.in-None.is))
