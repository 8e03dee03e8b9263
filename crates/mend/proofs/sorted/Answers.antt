-- `mend::sorted` meets its contract. Assumes nothing.
use native.Mathlib.Omega.{arith}
use Rattle.mend.proofs.Whole.{sorted_front}
use Rattle.mend.proofs.Whole.{sorted_front, sorted-length}
use Rattle.keys.specs.Key.{key_at, below_by}
use Rattle.reading.specs.Listing.{listing, records_in}
use Rattle.mend_kept.specs.Code.{elements}
use Rattle.mend.proofs.sorted.Goals as goal

pub returns : goal.returns
returns c =
    let args = c.args in
    let gather = c.gather-m in
    let sort_front = c.sort_front in (
      omega (
        arith,
        gather.ensures.value,
        c.requires.s_in_bounds,
        sorted-length (below_by (key_at args.s.now 32 0)) args.list.now
            (elements args.second args.s.now args.fates.now 0 (records_in (listing args.h args.s.now))) c.requires.s_in_bounds _ gather.ensures.value _ _
            gather.ensures.list_after sort_front.ensures,
      ),
      sorted_front _ _ _ c.requires.s_in_bounds _ gather.ensures.value _ _ gather.ensures.list_after sort_front.ensures,
    )
