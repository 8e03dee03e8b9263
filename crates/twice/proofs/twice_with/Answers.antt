-- `twice::twice_with` meets its contract. Assumes nothing.
use Rattle.twice.proofs.Sorted.{twice-is}
use Rattle.twice.proofs.twice_with.Goals as goal

pub returns : goal.returns
returns c =
    let args = c.args in
    let neighbours = c.neighbours in
    twice-is args.s.now args.k args.list.now _ _ _ c.requires.fact c.requires.count_in_bounds c.requires.s_len_bound (c.make_index-n.ensures.count, c.make_index-n.ensures.list) neighbours.ensures
