-- `piece_some::some_in` meets its contract. Assumes nothing.
use native.Mathlib.Omega.{arith}
use Rattle.piece_some.proofs.Bytes.{line-within, in_head, in_name, in-id}
use Rattle.piece_some.proofs.some_in.Goals as goal

pub returns-in-Head : goal.returns-in-Head
returns-in-Head c =
    let r = (let args = c.args in
    let phase = c.in-Head in
    in_head args.held.now args.m args.bytes.now _ phase.is _ c.head_some.ensures) in
    record { taken = r.0; held = r.1 }

pub overflow_sub-result : goal.overflow_sub-result
overflow_sub-result c =
    let args = c.args in
    let name-some = c.name_some-line in
    omega (arith, line-within args.held.now args.m.last _ args.bytes.now name-some.result name-some.ensures.line)

pub returns-in-Name : goal.returns-in-Name
returns-in-Name c =
    let r = (let args = c.args in
    let phase2 = c.in-Name in
    let name-some = c.name_some-line in
    in_name args.held.now args.m args.bytes.now _ phase2.is name-some.result _ (c.name_some-line.ensures.line, c.name_some-line.ensures.held)) in
    record { taken = r.0; held = r.1 }

pub returns-in-Id : goal.returns-in-Id
returns-in-Id c =
    let r = (let args = c.args in
    let phase3 = c.in-Id in
    in-id args.held.now args.m args.bytes.now _ _ phase3.is _ (omega (arith, c.min-n.ensures, c.saturating_sub.ensures))) in
    record { taken = r.0; held = r.1 }
