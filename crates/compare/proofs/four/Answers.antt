-- `compare::four` meets its contract. Assumes nothing.
use native.Mathlib.Omega.{arith}
use Rattle.scan.proofs.Word.{word-four}
use Rattle.compare.proofs.four.Goals as goal

pub returns : goal.returns
returns c =
    let args = c.args in
    let wide = c.wide-a in
    let wide2 = c.wide-b in
    let wide3 = c.wide-c in record {
      made = word-four args.s.now args.i _ _ _ _ (omega arith)
          wide.ensures.same wide2.ensures.same wide3.ensures.same c.wide-d.ensures.same
          wide.ensures.small wide2.ensures.small wide3.ensures.small c.wide-d.ensures.small;
      small = omega arith;
    }
