-- `mend::kept_size` meets its contract. Assumes nothing.
use native.Mathlib.Omega.{arith}
use Rattle.fate.proofs.Laws.{own-fits, own-length}
use Rattle.mend_kept.proofs.Walk.{size-kept-is, size-none-is}
use Rattle.mend.proofs.kept_size.Goals as goal

pub overflow_add-result : goal.overflow_add-result
overflow_add-result c = omega (arith, (own-fits _ _ c.own_text-own.ensures).0)

pub overflow_add-result-then-fate-lt2 : goal.overflow_add-result-then-fate-lt2
overflow_add-result-then-fate-lt2 c = omega (arith, (own-fits _ _ c.own_text-own.ensures).0, c.requires)

pub returns-then-fate-lt2 : goal.returns-then-fate-lt2
returns-then-fate-lt2 c = size-kept-is _ _ _ c.if-fate-lt2.true _ (own-length _ _ c.own_text-own.ensures)

pub returns : goal.returns
returns c = size-none-is _ _ _ c.if-fate-lt2.false
