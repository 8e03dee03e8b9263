-- `border_commit_write::write_commit` meets its contract. Assumes nothing.
use mathlib.Core.Path.{◌∙◌, ap}
use lib.ListN.{length}
use Rattle.ground.specs.Verdict.{stored}
use Prim.Native.Nat.{ℕ}
use mathlib.Core.List.{List}
use Rattle.ground.specs.declared.Answer.{Answer}
use Rattle.header.specs.declared.CommitParts.{CommitParts}
use Rattle.commit_write.specs.Write.{commit_answer, parts_written}
use Rattle.border.proofs.Laws.{handed_with}
use Rattle.border_commit_write.proofs.write_commit.Goals as goal

pub returns : goal.returns
returns c =
    let r = (let e = c.write_commit.ensures in
    let x = c.parts_in-p.ensures in
    let a = c.args in
    let answer : CommitParts → Answer = λ p. commit_answer a.h a.bytes.now p a.parents.now a.headers.now (length a.out.now) in
    let after : CommitParts → List ℕ = λ p. stored (answer p).verdict (parts_written a.h a.bytes.now p a.parents.now a.headers.now) a.out.now
    in
    handed_with (c.hand.ensures.value, c.hand.ensures.answer_after) (e.value ∙ ap answer x) (e.out_after ∙ ap after x)) in
    record { value = r.0; answer_after = r.1.0; out_after = r.1.1 }
