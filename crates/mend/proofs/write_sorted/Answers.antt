-- `mend::write_sorted` meets its contract. Assumes nothing.
use mathlib.Core.Path.{sym}
use Rattle.mend.proofs.Whole.{written-front}
use lib.Seq.{length-take-le}
use Rattle.mend.proofs.Whole.{written-front, front_few}
use Rattle.mend.proofs.write_sorted.Goals as goal

pub sorted-k-requires : goal.sorted-k-requires
sorted-k-requires c = record { s_len_bound = c.requires.0; s_in_bounds = c.requires.1 }

pub slice_bounds-write_all-end-2 : goal.slice_bounds-write_all-end-2
slice_bounds-write_all-end-2 c = sym (length-take-le _ _ c.sorted-k.ensures.0)

pub write_all-requires : goal.write_all-requires
write_all-requires c =
    let args = c.args in
    let pre = c.requires in
    let sorted = c.sorted-k in
    record { s_len_bound = pre.0; list_len_bound = front_few sorted.result sorted.new.list args.list.now sorted.ensures.0 sorted.auto.list pre.2 }

pub returns : goal.returns
returns c = written-front _ _ _ _ _ _ c.sorted-k.ensures.1 c.write_all.ensures
