-- `text_pairs::pair_here` meets its contract. Assumes nothing.
use Rattle.text_pairs.proofs.Laws.{with_file, with_other, folder-file}
use Rattle.text_pairs.proofs.pair_here.Goals as goal

pub returns-then-z-eq0 : goal.returns-then-z-eq0
returns-then-z-eq0 c = with_file _ _ _ _ _ c.if-z-eq0.true

pub file_place-k-requires : goal.file_place-k-requires
file_place-k-requires c =
    let w = folder-file _ c.if-z-eq0.false in
    record { ascends = c.requires.ascends; j_in_bounds = (c.requires.j_in_bounds, w.0, w.1) }

pub returns : goal.returns
returns c = with_other _ _ _ _ _ c.if-z-eq0.false c.file_place-k.ensures c.beside.ensures c.min.ensures
