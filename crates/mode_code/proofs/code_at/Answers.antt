-- `mode_code::code_at` meets its contract: the reader of modes says mode and place, and these make the code. Assumes nothing.
use mathlib.Core.Path.{sym, ◌∙◌}
use native.Mathlib.Omega.{arith}
use Rattle.mode_code.proofs.Laws.{code_of_mode, code_of_bad}
use Rattle.mode_code.proofs.code_at.Goals as goal

pub overflow_sub-n : goal.overflow_sub-n
overflow_sub-n c = omega (arith, code_of_mode _ _ _ _ (sym c.extract_at.ensures ∙ c.in-Some.is))

pub overflow_add-result : goal.overflow_add-result
overflow_add-result c = omega (arith, code_of_mode _ _ _ _ (sym c.extract_at.ensures ∙ c.in-Some.is))

pub returns-in-Some : goal.returns-in-Some
returns-in-Some c = sym (code_of_mode _ _ _ _ (sym c.extract_at.ensures ∙ c.in-Some.is)).2

pub returns-in-None : goal.returns-in-None
returns-in-None c = sym (code_of_bad _ _ (sym c.extract_at.ensures ∙ c.in-None.is))
