-- `difference::compare_large` meets its contract: it calls itself only on a way that its `requires` shuts. Assumes nothing.
use native.Mathlib.Omega.{arith}
use Rattle.difference.proofs.Roots.{never}
use Rattle.difference.proofs.+compare_large.Goals as goal

pub compare_large-requires : goal.compare_large-requires
compare_large-requires t c =
    let pre = c.requires in
    let if1 = c.if-k-gt-MOST_RECORDS in
    absurd (never _ if1.true pre.count_le_most_records)

pub shape_of-items-then-k-gt-MOST_RECORDS : goal.shape_of-items-then-k-gt-MOST_RECORDS
shape_of-items-then-k-gt-MOST_RECORDS t c =
    let pre = c.requires in
    let if1 = c.if-k-gt-MOST_RECORDS in
    absurd (never _ if1.true pre.count_le_most_records)

pub shape_of-paths-then-k-gt-MOST_RECORDS : goal.shape_of-paths-then-k-gt-MOST_RECORDS
shape_of-paths-then-k-gt-MOST_RECORDS t c =
    let pre = c.requires in
    let if1 = c.if-k-gt-MOST_RECORDS in
    absurd (never _ if1.true pre.count_le_most_records)

pub returns-then-k-gt-MOST_RECORDS : goal.returns-then-k-gt-MOST_RECORDS
returns-then-k-gt-MOST_RECORDS t c =
    let pre = c.requires in
    let if1 = c.if-k-gt-MOST_RECORDS in
    absurd (never _ if1.true pre.count_le_most_records)

pub compare_own-requires : goal.compare_own-requires
compare_own-requires t c = let pre = c.requires in record { bundle_len_bound = pre.bundle_len_bound; index = pre.index; room = omega arith }

pub shape_of-items : goal.shape_of-items
shape_of-items t c = c.compare_own.auto.items

pub shape_of-paths : goal.shape_of-paths
shape_of-paths t c = c.compare_own.auto.paths

pub returns : goal.returns
returns t c =
    let e = c.compare_own.ensures in
    record { value = e.value; after = e.after; paths_after = e.paths_after }
