-- `piece_name::name_some` meets its contract. Assumes nothing.
use mathlib.Core.Path.{sym}
use lib.Seq.{length-take-le}
use Rattle.piece_name.proofs.Names.{line_full, held_full, more-fits, line-more, held_more}
use Rattle.piece_name.proofs.name_some.Goals as goal

pub returns-then-size-ge-MOST_HELD : goal.returns-then-size-ge-MOST_HELD
returns-then-size-ge-MOST_HELD c =
    let args = c.args in record {
      line = line_full args.held.now args.last args.l args.bytes.now c.if-size-ge-MOST_HELD.true;
      held = held_full args.held.now args.last args.l
          args.bytes.now c.if-size-ge-MOST_HELD.true;
    }

pub slice_bounds-some-end : goal.slice_bounds-some-end
slice_bounds-some-end c =
    let args = c.args in
    let name-bytes = c.name_bytes-k in
    sym
    (length-take-le name-bytes.result args.bytes.now (more-fits args.held.now args.last args.l args.bytes.now
    name-bytes.result name-bytes.ensures).1)

pub returns : goal.returns
returns c =
    let args = c.args in
    let name-bytes = c.name_bytes-k in
    let stand-after = c.stand_after-s in record {
      line = line-more args.held.now args.last args.l args.bytes.now name-bytes.result name-bytes.ensures stand-after.result
          stand-after.ensures;
      held = held_more args.held.now args.last args.l args.bytes.now name-bytes.result name-bytes.ensures _
          c.put.ensures;
    }
