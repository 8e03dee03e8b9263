-- `keys::next_at` meets its contract. Assumes nothing.
use native.Mathlib.Omega.{arith}
use Prim.Native.Nat.{◌+◌}
use Rattle.keys.proofs.Keys.{next-over, next_nul, next_byte_nul, next-past-width, next_byte_wide}
use Rattle.keys.proofs.next_at.Goals as goal

pub returns-then-text-from : goal.returns-then-text-from
returns-then-text-from c =
    let args = c.args in
    next-over args.text.now args.width args.from args.i c.if-text-from.true

pub returns-then-text-at-eq0 : goal.returns-then-text-at-eq0
returns-then-text-at-eq0 c =
    let args = c.args in
    next_nul args.text.now args.width args.from args.i c.if-width-eq0.true c.if-text-from.false c.if-text-at-eq0.true

pub overflow_cast-result : goal.overflow_cast-result
overflow_cast-result c =
    let args = c.args in
    omega (arith, c.type_inv.text (args.from + args.i))

pub overflow_add-result : goal.overflow_add-result
overflow_add-result c =
    let args = c.args in
    omega (arith, c.type_inv.text (args.from + args.i))

pub returns-then-width-eq0 : goal.returns-then-width-eq0
returns-then-width-eq0 c =
    let args = c.args in
    let if1 = c.if-text-from in
    let if2 = c.if-width-eq0 in
    let if3 = c.if-text-at-eq0 in
    next_byte_nul args.text.now args.width args.from args.i if2.true if1.false c.requires.i_in_bounds if3.false

pub returns-then-width-i : goal.returns-then-width-i
returns-then-width-i c =
    let args = c.args in
    next-past-width args.text.now args.width args.from args.i c.if-width-eq0.false c.if-width-i.true

pub overflow_cast-result-2 : goal.overflow_cast-result-2
overflow_cast-result-2 c =
    let args = c.args in
    omega (arith, c.type_inv.text (args.from + args.i))

pub overflow_add-result-2 : goal.overflow_add-result-2
overflow_add-result-2 c =
    let args = c.args in
    omega (arith, c.type_inv.text (args.from + args.i))

pub returns : goal.returns
returns c =
    let args = c.args in
    let if1 = c.if-text-from in
    let if2 = c.if-width-eq0 in
    let if4 = c.if-width-i in
    next_byte_wide args.text.now args.width args.from args.i if2.false if1.false if4.false
