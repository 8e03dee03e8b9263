-- `difference::compare_trees` meets its contract. Assumes nothing.
use lib.ListN.{length}
use Rattle.difference.proofs.Ending as ending
use Rattle.difference.proofs.Roots as roots
use Rattle.difference.proofs.compare_trees.Goals as goal

pub compare_in-requires : goal.compare_in-requires
compare_in-requires c =
    let args = c.args in
    let longer = c.longer in
    let longer2 = c.longer-2 in
    let longer3 = c.longer-most in
    let sizes = c.sizes in
    let enum_told = c.in-Ok in
    let open-roots = c.open_roots in
    let k = c.in-Ok-open_roots in record {
      bundle_len_bound = ending.size-within (length args.bundle.now) (length args.paths.now) (length args.left.now) (length args.right.now) _ sizes.result
          (ending.gate_is _ _ _ _ (length args.bundle.now) (length args.paths.now) (length args.left.now) (length args.right.now) _ sizes.ensures
          longer3.ensures longer.ensures longer2.ensures) enum_told.is;
      index = roots.roots_indexed _ _ _ _ open-roots.ensures _ k.is;
      count_le_most_records = roots.roots_few _ _ _ _ open-roots.ensures _ k.is;
    }

pub returns-in-Err : goal.returns-in-Err
returns-in-Err c =
    let r = (let args = c.args in
    let longer = c.longer in
    let longer2 = c.longer-2 in
    let longer3 = c.longer-most in
    let sizes = c.sizes in
    let v = c.in-Err in
    ending.answers_gate args.bundle.now args.left.now args.right.now args.items.now args.paths.now sizes.result
    (ending.gate_is _ _ _ _ (length args.bundle.now) (length args.paths.now) (length args.left.now) (length args.right.now) _ sizes.ensures
    longer3.ensures longer.ensures longer2.ensures) v.v v.is (ending.size-shut _ _ _ _ sizes.ensures v.is)) in
    record { answer = r.0; items = r.1.0; paths = r.1.1 }

pub returns-in-Err-open_roots : goal.returns-in-Err-open_roots
returns-in-Err-open_roots c =
    let r = (let args = c.args in
    let longer = c.longer in
    let longer2 = c.longer-2 in
    let longer3 = c.longer-most in
    let sizes = c.sizes in
    let enum_told = c.in-Ok in
    let open-roots = c.open_roots in
    let w = c.in-Err-open_roots in
    ending.answers-roots args.bundle.now args.left.now args.right.now args.items.now args.paths.now sizes.result
    (ending.gate_is _ _ _ _ (length args.bundle.now) (length args.paths.now) (length args.left.now) (length args.right.now) _ sizes.ensures
    longer3.ensures longer.ensures longer2.ensures) enum_told.is open-roots.result open-roots.ensures w.w w.is
    (roots.roots-refuse _ _ _ _ open-roots.ensures _ w.is)) in
    record { answer = r.0; items = r.1.0; paths = r.1.1 }

pub returns-in-Ok-open_roots : goal.returns-in-Ok-open_roots
returns-in-Ok-open_roots c =
    let r = (let args = c.args in
    let longer = c.longer in
    let longer2 = c.longer-2 in
    let longer3 = c.longer-most in
    let sizes = c.sizes in
    let enum_told = c.in-Ok in
    let open-roots = c.open_roots in
    let k = c.in-Ok-open_roots in
    let compare-in = c.compare_in in
    ending.answers_walk args.bundle.now args.left.now args.right.now args.items.now args.paths.now sizes.result
    (ending.gate_is _ _ _ _ (length args.bundle.now) (length args.paths.now) (length args.left.now) (length args.right.now) _ sizes.ensures
    longer3.ensures longer.ensures longer2.ensures) enum_told.is open-roots.result open-roots.ensures k.k k.is
    compare-in.result compare-in.new.items compare-in.new.paths (c.compare_in.ensures.value, (c.compare_in.ensures.after, c.compare_in.ensures.paths_after))) in
    record { answer = r.0; items = r.1.0; paths = r.1.1 }
