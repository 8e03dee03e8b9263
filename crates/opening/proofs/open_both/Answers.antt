-- `opening::open_both` meets its contract. Assumes nothing.
use Rattle.opening.proofs.Laws.{both_left, both_right, both_open}
use Rattle.opening.proofs.open_both.Goals as goal

pub returns-in-Err : goal.returns-in-Err
returns-in-Err c = both_left _ _ _ _ _ _ _ c.open_level.ensures _ c.in-Err.is

pub returns-in-Err-open_level : goal.returns-in-Err-open_level
returns-in-Err-open_level c =
    let open-level = c.open_level in
    let l = c.in-Ok in
    let open-level2 = c.open_level-in-Ok in
    let w = c.in-Err-open_level in
    both_right _ _ _ _ _ _ _ open-level.ensures _ l.is _ open-level2.ensures _ w.is

pub returns-in-Ok-open_level : goal.returns-in-Ok-open_level
returns-in-Ok-open_level c =
    let open-level = c.open_level in
    let l = c.in-Ok in
    let open-level2 = c.open_level-in-Ok in
    let r = c.in-Ok-open_level in
    both_open _ _ _ _ _ _ _ open-level.ensures _ l.is _ open-level2.ensures _ r.is
