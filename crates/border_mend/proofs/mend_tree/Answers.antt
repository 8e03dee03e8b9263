-- `border_mend::mend_tree` meets its contract. Assumes nothing.
use mathlib.Core.Path.{ap}
use Rattle.mend.specs.declared.Mended.{Mended}
use Rattle.border_mend.specs.Border.{mend_numbers}
use Rattle.border_mend.proofs.mend_tree.Goals as goal

pub returns : goal.returns
returns c =
    let m = c.mend_tree-a.ensures in record {
      value = ap (λ (a : Mended). a.verdict.number) m.answer;
      answer_after = ap mend_numbers m.answer;
      fates_after = m.fates;
      out_after = m.out;
    }
