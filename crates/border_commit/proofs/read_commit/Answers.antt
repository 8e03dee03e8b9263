-- `border_commit::read_commit` meets its contract. Assumes nothing.
use mathlib.Core.Path.{◌∙◌, ap}
use Rattle.border_commit.specs.Border.{commit_numbers}
use Rattle.border_commit.proofs.read_commit.Goals as goal

pub returns : goal.returns
returns c =
    let p = c.hand_commit.ensures in
    let e = c.read_commit.ensures in record {
      value = p.value ∙ ap (λ a. a.verdict.number) e.answer;
      answer_after = p.answer_after ∙ ap commit_numbers e.answer;
      parents_after = e.parents;
      headers_after = e.headers;
    }
