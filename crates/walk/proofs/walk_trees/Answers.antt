-- `walk::walk_trees` meets its contract. Assumes nothing.
use native.Mathlib.Omega.{arith}
use mathlib.Core.Path.{refl}
use mathlib.Core.List.{[]}
use Rattle.walk.specs.Code.{walk_in}
use Rattle.walk.proofs.Ending as ending
use Rattle.walk.proofs.walk_trees.Goals as goal

pub returns-then-a-ne-DONE : goal.returns-then-a-ne-DONE
returns-then-a-ne-DONE c =
    let r = (let args = c.args in
    let measured = c.measured-a in
    ending.ends-refused (walk_in args.k args.bundle.now args.index.now args.left.now args.right.now) args.items.now args.paths.now
    measured.result measured.ensures c.if-a-ne-DONE.true) in
    record { answer = r.0; items = r.1.0; paths = r.1.1 }

pub compare_folders-requires : goal.compare_folders-requires
compare_folders-requires c =
    let args = c.args in
    let measured = c.measured-a in
    let if1 = c.if-a-ne-DONE in
    let levels = c.levels in record {
      bundle_len_bound = ending.bounded args.k args.bundle.now args.index.now args.left.now args.right.now _ _ measured.result measured.ensures
          if1.false;
      pl_bound = omega arith;
      short = ending.levels-short _ levels.ensures;
      small = (omega arith, omega arith);
    }

pub returns : goal.returns
returns c =
    let r = (let args = c.args in
    let measured = c.measured-a in
    let if1 = c.if-a-ne-DONE in
    let levels = c.levels in
    let compare-folders = c.compare_folders in
    ending.walk_stored args.k args.bundle.now args.index.now args.left.now args.right.now levels.result levels.ensures
    (ending.bounded args.k args.bundle.now args.index.now args.left.now args.right.now _ _ measured.result measured.ensures
    if1.false)
    args.items.now args.paths.now measured.result measured.ensures if1.false compare-folders.result
    compare-folders.new.items compare-folders.new.paths (compare-folders.ensures.by_index [] refl)) in
    record { answer = r.0; items = r.1.0; paths = r.1.1 }
