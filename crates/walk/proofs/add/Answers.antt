-- `walk::add` meets its contract. Assumes nothing.
use Rattle.item.proofs.Laws.{numbers-room, path_room}
use Rattle.walk.proofs.Doing as doing
use Rattle.walk.proofs.Turning as turning
use Rattle.walk.specs.Code.{item_of}
use native.Mathlib.Omega.{arith}
use Rattle.walk.proofs.add.Goals as goal

pub returns-then-n-ge-MOST_RECORDS : goal.returns-then-n-ge-MOST_RECORDS
returns-then-n-ge-MOST_RECORDS c =
    let args = c.args in
    let if1 = c.if-n-ge-MOST_RECORDS in record { by_index = λ prefix e. doing.did_full args.m _ args.items.now args.paths.now (item_of args.bundle.now prefix args.c) if1.true; added = (c.requires.small, omega arith, omega arith) }

pub overflow_add-end : goal.overflow_add-end
overflow_add-end c =
    let args = c.args in
    let if1 = c.if-n-ge-MOST_RECORDS in
    let joined = c.joined in
    let f = turning.add-fits args.m args.pl _ _ c.requires.small c.requires.pl_bound_2 (omega (arith, c.requires.bundle_len_bound, c.requires.change_within.0, c.requires.change_within.1))
    joined.ensures if1.false in
    omega (arith, f)

pub returns : goal.returns
returns c =
    let args = c.args in
    let if1 = c.if-n-ge-MOST_RECORDS in
    let joined = c.joined in
    let put_item = c.put_item in
    let put_path = c.put_path in record {
      by_index = λ prefix e. doing.did_put args.m _ args.items.now args.paths.now (item_of args.bundle.now prefix args.c) if1.false _
          (doing.path-length args.bundle.now prefix args.c args.pl _ e c.requires.change_within.0 c.requires.change_within.1 joined.ensures) _ _
          (numbers-room _ _ _ _ _ _ put_item.ensures) (path_room _ _ _ _ prefix _ _ e put_path.ensures c.requires.pl_bound);
      added = turning.added args.m args.pl _ _
          c.requires.small c.requires.pl_bound_2 (omega (arith, c.requires.bundle_len_bound, c.requires.change_within.0, c.requires.change_within.1)) joined.ensures if1.false;
    }
