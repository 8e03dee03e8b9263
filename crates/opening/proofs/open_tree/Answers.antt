-- `opening::open_tree` meets its contract. Assumes nothing.
use Rattle.seeking.proofs.Laws.{seek_inside}
use Rattle.opening.proofs.Laws.{open_empty, open_absent, open_found}
use Rattle.opening.proofs.open_tree.Goals as goal

pub returns-then-id-eq0 : goal.returns-then-id-eq0
returns-then-id-eq0 c = open_empty _ _ _ _ c.if-id-eq0.true

pub open_object-requires : goal.open_object-requires
open_object-requires c = seek_inside _ _ _ _ _ _ c.seek_object.ensures c.in-Some.is

pub returns-in-None : goal.returns-in-None
returns-in-None c = open_absent _ _ _ c.if-id-eq0.false _ c.seek_object.ensures c.in-None.is

pub returns-in-Some : goal.returns-in-Some
returns-in-Some c =
    let if1 = c.if-id-eq0 in
    let seek-object = c.seek_object in
    let f = c.in-Some in
    open_found _ _ _ if1.false _ seek-object.ensures _ f.is _ c.open_object.ensures
