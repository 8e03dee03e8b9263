-- `tree_export::settle` meets its contract. Assumes nothing.
use mathlib.Core.Path.{refl}
use Rattle.tree_export.proofs.Laws.{settled-some, settled_other}
use Prim.Native.Nat.{ℕ}
use lib.ListN.{replicate}
use Rattle.tree_export.proofs.settle.Goals as goal

pub returns-then-number-eq-FEW_RECORDS : goal.returns-then-number-eq-FEW_RECORDS
returns-then-number-eq-FEW_RECORDS c =
    let args = c.args in
    let read_tree_strict = c.read_tree_strict-a in
    let pre = c.requires in
    let if1 = c.if-number-eq-FEW_RECORDS in
    settled-some args.rules args.h args.bytes.now (replicate {A = ℕ} 1 0) _ read_tree_strict.ensures.answer refl pre if1.true

pub returns : goal.returns
returns c =
    let args = c.args in
    let read_tree_strict = c.read_tree_strict-a in
    let pre = c.requires in
    let if1 = c.if-number-eq-FEW_RECORDS in
    settled_other args.rules args.h args.bytes.now (replicate {A = ℕ} 1 0) _ read_tree_strict.ensures.answer refl pre if1.false
