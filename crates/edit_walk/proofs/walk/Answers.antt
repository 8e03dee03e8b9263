-- `edit_walk::walk` meets its contract. Assumes nothing.
use mathlib.Core.Path.{sym, ap, ◌∙◌}
use Prim.Native.Nat.{max}
use lib.ListN.{length}
use Rattle.edit_walk.specs.Walk.{new_entry}
use Rattle.edit_walk.proofs.Laws.{walk_shut, walk_open, walk_small}
use Rattle.edit_walk.proofs.walk.Goals as goal

pub carry-requires : goal.carry-requires
carry-requires c =
    let args = c.args in
    let longer2 = c.longer-2 in
    let longer = c.longer in
    let sizes = c.sizes in
    walk_small args.h args.s.now args.count (new_entry args.mode args.name.now args.id.now) args.done args.out.now _
    (longer2.ensures ∙ ap (max (length args.s.now)) longer.ensures) (sym sizes.ensures ∙ c.in-Ok.is)

pub returns-in-Err : goal.returns-in-Err
returns-in-Err c =
    let r = (let args = c.args in
    let longer2 = c.longer-2 in
    let longer = c.longer in
    let sizes = c.sizes in
    walk_shut args.h args.s.now args.count (new_entry args.mode args.name.now args.id.now) args.done args.out.now _
    (longer2.ensures ∙ ap (max (length args.s.now)) longer.ensures) _ (sym sizes.ensures ∙ c.in-Err.is)) in
    record { walked = r.0; out = r.1 }

pub returns-in-Ok : goal.returns-in-Ok
returns-in-Ok c =
    let r = (let args = c.args in
    let carry = c.carry in
    let longer2 = c.longer-2 in
    let longer = c.longer in
    let sizes = c.sizes in
    let enum-told2 = c.in-Ok in
    walk_open args.h args.s.now args.count (new_entry args.mode args.name.now args.id.now) args.done args.out.now _
    (longer2.ensures ∙ ap (max (length args.s.now)) longer.ensures) (sym sizes.ensures ∙ enum-told2.is)
    carry.result _ carry.ensures.used carry.ensures.kept carry.ensures.out) in
    record { walked = r.0; out = r.1 }
