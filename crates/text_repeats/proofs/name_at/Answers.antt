-- `text_repeats::name_at` meets its contract. Assumes nothing.
use Rattle.text_repeats.proofs.Laws.{name-ends, name-is}
use Rattle.text_repeats.proofs.name_at.Goals as goal

pub slice_bounds-result-count : goal.slice_bounds-result-count
slice_bounds-result-count c =
    let args = c.args in
    let name-start = c.name_start-from in
    let find-nul = c.find_nul-end in
    (name-ends args.text.now args.x _ _ name-start.ensures find-nul.ensures).0

pub slice_bounds-result-start : goal.slice_bounds-result-start
slice_bounds-result-start c =
    let args = c.args in
    let name-start = c.name_start-from in
    let find-nul = c.find_nul-end in
    (name-ends args.text.now args.x _ _ name-start.ensures find-nul.ensures).0

pub slice_bounds-result-end : goal.slice_bounds-result-end
slice_bounds-result-end c =
    let args = c.args in
    let name-start = c.name_start-from in
    let find-nul = c.find_nul-end in
    (name-ends args.text.now args.x _ _ name-start.ensures find-nul.ensures).1

pub returns : goal.returns
returns c =
    let args = c.args in
    let name-start = c.name_start-from in
    let find-nul = c.find_nul-end in
    name-is args.text.now args.x _ _ name-start.ensures find-nul.ensures
