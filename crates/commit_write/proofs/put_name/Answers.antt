-- `commit_write::put_name` meets its contract. Assumes nothing.
use Rattle.commit_write.proofs.Laws.{ended-put}
use mathlib.Core.Path.{refl}
use Rattle.commit_write.proofs.put_name.Goals as goal

pub returns : goal.returns
returns c =
    let r = (let args = c.args in
    ended-put args.out.now _ args.bytes.now args.at args.from args.to _ 32 c.requires.from_le_to.0 c.requires.from_le_to.1 refl
    c.put_ended.ensures) in
    record { value = r.0; out_after = r.1 }
