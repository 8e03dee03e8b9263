-- `walk::measured` meets its contract. Assumes nothing.
use native.Mathlib.Omega.{arith}
use mathlib.Core.Path.{refl, ◌∙◌}
use mathlib.Core.List.{[]}
use Rattle.walk.proofs.Ending as ending
use Rattle.walk.proofs.measured.Goals as goal

pub returns-then-bundle-gt-MOST_BYTES : goal.returns-then-bundle-gt-MOST_BYTES
returns-then-bundle-gt-MOST_BYTES c =
    let args = c.args in
    ending.measured-over args.k args.bundle.now args.index.now args.left.now args.right.now args.room args.bytes c.if-bundle-gt-MOST_BYTES.true

pub compare_folders-w-requires : goal.compare_folders-w-requires
compare_folders-w-requires c =
    let levels = c.levels in
    record { bundle_len_bound = c.if-bundle-gt-MOST_BYTES.false; pl_bound = omega arith; short = ending.levels-short _ levels.ensures; small = (omega arith, omega arith) }

pub returns : goal.returns
returns c =
    let args = c.args in
    let if1 = c.if-bundle-gt-MOST_BYTES in
    let levels = c.levels in
    let compare-folders = c.compare_folders-w in
    c.by_room.ensures
    ∙ ending.measured-within args.k args.bundle.now args.index.now args.left.now args.right.now args.room args.bytes levels.result
    levels.ensures if1.false compare-folders.result _ _ _ _ _ (compare-folders.ensures.by_index [] refl)
