-- `piece_first::first_byte` meets its contract. Assumes nothing.
use Prim.Native.Nat.{◌+◌}
use native.Mathlib.Omega.{arith}
use Rattle.arriving.specs.Feed.{together}
use Rattle.piece_head.proofs.Laws.{head_led, head_near, head-long}
use Rattle.piece_first.proofs.Laws.{inside, outside}
use Rattle.piece_first.proofs.first_byte.Goals as goal

pub returns-then-m-ge-MOST_BYTES : goal.returns-then-m-ge-MOST_BYTES
returns-then-m-ge-MOST_BYTES c =
    let args = c.args in
    outside (together args.held.now args.ends.now args.m) args.k args.b c.if-m-ge-MOST_BYTES.true

pub bodies-requires : goal.bodies-requires
bodies-requires c =
    let if1 = c.if-m-ge-MOST_BYTES in
    let first = c.head_byte-t in
    let m = c.args.m in
    let eight = head-long m _ c.well_formed.1.1.0 in
    omega (arith, if1.false, head_near m (m.at + 1) c.args.k c.args.b eight first.ensures)

pub returns : goal.returns
returns c =
    let if1 = c.if-m-ge-MOST_BYTES in
    let first = c.head_byte-t in
    let args = c.args in
    let eight = head-long args.m _ c.well_formed.1.1.0 in
    inside (together args.held.now args.ends.now args.m) args.k args.b if1.false
    (head_led args.held.now args.ends.now args.m args.k args.b eight first.ensures c.bodies.ensures)
