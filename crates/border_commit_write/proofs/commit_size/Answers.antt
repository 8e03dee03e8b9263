-- `border_commit_write::commit_size` meets its contract. Assumes nothing.
use mathlib.Core.Path.{◌∙◌, ap}
use Rattle.ground.specs.declared.Answer.{Answer}
use Rattle.header.specs.declared.CommitParts.{CommitParts}
use Rattle.commit_write.specs.Write.{commit_size}
use Rattle.border.proofs.Laws.{handed}
use Rattle.border_commit_write.proofs.commit_size.Goals as goal

pub returns : goal.returns
returns c =
    let r = (let x = c.parts_in-p.ensures in
    let a = c.args in
    let answer : CommitParts → Answer = λ p. commit_size a.h a.bytes.now p a.parents.now a.headers.now in
    handed (c.hand.ensures.value, c.hand.ensures.answer_after) (c.commit_size.ensures ∙ ap answer x)) in
    record { value = r.0; answer_after = r.1 }
