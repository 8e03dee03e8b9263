-- `commit_fields::decide` meets its contract. Assumes nothing.
use mathlib.Core.Path.{sym, ◌∙◌}
use lib.ListN.{length}
use Prim.Native.Nat.{max}
use Rattle.std.proofs.lemmas.Result.{err_from_is_err_and}
use Rattle.ground.specs.Verdict.{gate_of}
use Rattle.header.proofs.Laws.{told}
use Rattle.ground.proofs.Laws.{gate_open, id_small}
use Rattle.commit_fields.proofs.Laws.{outcome_shut, outcome_field, outcome_parents, outcome_headers, outcome_whole}
use Rattle.commit_fields.proofs.decide.Goals as goal

pub returns-in-Err : goal.returns-in-Err
returns-in-Err c =
    let a = c.args in
    sym (outcome_shut a.s.now a.h a.np a.nh _ (told (gate_of a.h (length a.s.now)) c.longer.ensures c.bounds.ensures c.in-Err.is))

pub fields-requires : goal.fields-requires
fields-requires c =
    let a = c.args in
    let g = told (gate_of a.h (length a.s.now)) c.longer.ensures c.bounds.ensures c.in-Ok.is in
    (id_small a.h (gate_open a.h (length a.s.now) (max a.np a.nh) g).0).1

pub returns-in_err-f : goal.returns-in_err-f
returns-in_err-f c =
    let a = c.args in
    let g = told (gate_of a.h (length a.s.now)) c.longer.ensures c.bounds.ensures c.in-Ok.is in
    let p = err_from_is_err_and c.from_residual.result c.from_residual.ensures.1 in
    rw (p.1, p.2) (sym (outcome_field a.s.now a.h a.np a.nh g _ (sym c.fields.ensures ∙ c.in_err-f.was)))

pub returns-then-np-n : goal.returns-then-np-n
returns-then-np-n c =
    let a = c.args in
    let g = told (gate_of a.h (length a.s.now)) c.longer.ensures c.bounds.ensures c.in-Ok.is in
    sym (outcome_parents a.s.now a.h a.np a.nh g _ (sym c.fields.ensures ∙ c.in_ok-f.was) c.if-np-n.true)

pub returns-then-nh-m : goal.returns-then-nh-m
returns-then-nh-m c =
    let a = c.args in
    let g = told (gate_of a.h (length a.s.now)) c.longer.ensures c.bounds.ensures c.in-Ok.is in
    sym (outcome_headers a.s.now a.h a.np a.nh g _ (sym c.fields.ensures ∙ c.in_ok-f.was) c.if-np-n.false c.if-nh-m.true)

pub returns : goal.returns
returns c =
    let a = c.args in
    let g = told (gate_of a.h (length a.s.now)) c.longer.ensures c.bounds.ensures c.in-Ok.is in
    sym (outcome_whole a.s.now a.h a.np a.nh g _ (sym c.fields.ensures ∙ c.in_ok-f.was) c.if-np-n.false c.if-nh-m.false)
