use Prim.Native.Nat.{◌+◌}
use mathlib.Core.Path.{refl}
use native.Mathlib.Omega.{arith}
use Rattle.compare.proofs.Laws.{byte-below, byte_above, byte_same, told-from}
use Rattle.compare.proofs.order_few.Goals as goal

pub loop-i-init : goal.loop-i-init
loop-i-init c = refl

pub bounds-a-i : goal.bounds-a-i
bounds-a-i c = omega (arith, c.requires.0)

pub bounds-b-i : goal.bounds-b-i
bounds-b-i c = omega (arith, c.requires.1)

pub returns-then-a-i : goal.returns-then-a-i
returns-then-a-i c =
    let args = c.args in
    let pre = c.requires in
    let loop = c.loop-i in
    let if1 = c.if-a-i in
    byte-below args.a.now args.b.now loop.i (omega (arith, pre.0)) (omega (arith, pre.1)) loop.invariant _ if1.true

pub bounds-b-i-in-loop-i : goal.bounds-b-i-in-loop-i
bounds-b-i-in-loop-i c = omega (arith, c.requires.1)

pub bounds-a-i-in-loop-i : goal.bounds-a-i-in-loop-i
bounds-a-i-in-loop-i c = omega (arith, c.requires.0)

pub returns-then-b-i : goal.returns-then-b-i
returns-then-b-i c =
    let args = c.args in
    let pre = c.requires in
    let loop = c.loop-i in
    let if2 = c.if-b-i in
    byte_above args.a.now args.b.now loop.i (omega (arith, pre.0)) (omega (arith, pre.1)) loop.invariant _ if2.true

pub loop-i-preserved : goal.loop-i-preserved
loop-i-preserved c =
    let args = c.args in
    let pre = c.requires in
    let loop = c.loop-i in
    let if1 = c.if-a-i in
    let if2 = c.if-b-i in
    byte_same args.a.now args.b.now loop.i (omega (arith, pre.0)) (omega (arith, pre.1)) loop.invariant (loop.i + 1) (omega arith) if1.false if2.false

pub returns : goal.returns
returns c = told-from c.args.a.now c.args.b.now c.loop-i.i _ (omega arith) c.loop-i.invariant
