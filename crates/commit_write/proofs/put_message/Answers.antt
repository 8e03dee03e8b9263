-- `commit_write::put_message` meets its contract. Assumes nothing.
use Rattle.commit_write.proofs.Laws.{after-lf}
use Rattle.ground.specs.Basics.{part}
use Prim.Native.Nat.{◌+◌, ◌-◌}
use Rattle.grammar.proofs.Laws.{part_length}
use mathlib.Core.Path.{refl}
use Rattle.commit_write.proofs.put_message.Goals as goal

pub returns : goal.returns
returns c =
    let args = c.args in
    let w = after-lf args.out.now _ _ (part args.from args.to args.bytes.now) args.at (args.at + 1 + (args.to - args.from))
    (args.to - args.from) (part_length args.bytes.now args.from args.to c.requires.from_le_to.0 c.requires.from_le_to.1) refl c.put_byte.ensures
    c.put.ensures in
    record { value = w.past; out_after = w.holds }
