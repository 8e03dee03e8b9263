-- `tree_write::text_size` meets its contract. Assumes nothing.
use mathlib.Core.Path.{sym}
use native.Mathlib.Omega.{arith}
use Rattle.tree_write.proofs.Laws.{text-one, text_five, text_six}
use Rattle.tree_write.proofs.text_size.Goals as goal

pub returns-then-mode-eq0 : goal.returns-then-mode-eq0
returns-then-mode-eq0 c = record { size = sym (text-one _ c.if-mode-eq0.true); small = omega arith }

pub returns-then-mode-eq4 : goal.returns-then-mode-eq4
returns-then-mode-eq4 c = record { size = sym (text_five _ c.if-mode-eq4.true); small = omega arith }

pub returns : goal.returns
returns c = record { size = sym (text_six _ c.requires c.if-mode-eq0.false c.if-mode-eq4.false); small = omega arith }
