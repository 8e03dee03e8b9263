-- `commit_write::encoding_refusal` meets its contract. Assumes nothing.
use Rattle.commit_write.proofs.Laws.{encoding_range, fault-absent, fault-given}
use mathlib.Core.Path.{sym, ◌∙◌}
use native.Mathlib.Omega.{arith}
use Rattle.commit_write.proofs.encoding_refusal.Goals as goal

pub slice_bounds-encoding_fault-count : goal.slice_bounds-encoding_fault-count
slice_bounds-encoding_fault-count c =
    let args = c.args in
    let pre = c.requires in
    omega (arith, encoding_range args.bytes.now args.p pre c.if-p-eq1.true)

pub slice_bounds-encoding_fault-start : goal.slice_bounds-encoding_fault-start
slice_bounds-encoding_fault-start c =
    let args = c.args in
    let pre = c.requires in
    omega (arith, encoding_range args.bytes.now args.p pre c.if-p-eq1.true)

pub slice_bounds-encoding_fault-end : goal.slice_bounds-encoding_fault-end
slice_bounds-encoding_fault-end c =
    let args = c.args in
    let pre = c.requires in
    omega (arith, encoding_range args.bytes.now args.p pre c.if-p-eq1.true)

pub returns-then-p-eq1 : goal.returns-then-p-eq1
returns-then-p-eq1 c =
    let args = c.args in
    c.encoding_fault.ensures ∙ sym (fault-given args.bytes.now args.p c.if-p-eq1.true)

pub returns : goal.returns
returns c = sym (fault-absent c.args.bytes.now c.args.p c.if-p-eq1.false)
