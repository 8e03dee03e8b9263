-- `commit_fields::fields` meets its contract. Assumes nothing.
use mathlib.Core.Path.{sym, ◌∙◌}
use Prim.Native.Nat.{◌+◌, ◌*◌}
use native.Mathlib.Omega.{arith}
use Rattle.commit_fields.proofs.Laws.{parents-fit, fields-no, fields-are, tree-fits}
use Rattle.commit_fields.proofs.fields.Goals as goal

pub overflow_mul-p-then-id_line : goal.overflow_mul-p-then-id_line
overflow_mul-p-then-id_line c =
    let args = c.args in
    let f = parents-fit args.h args.s.now (6 + 2 * args.h)
    (tree-fits args.s.now args.h (sym c.id_line.ensures ∙ c.if-id_line.true)) in
    let g = rw (← c.count_parents-n.ensures) at f in
    omega (arith, g)

pub overflow_add-p-then-id_line : goal.overflow_add-p-then-id_line
overflow_add-p-then-id_line c =
    let args = c.args in
    let f = parents-fit args.h args.s.now (6 + 2 * args.h)
    (tree-fits args.s.now args.h (sym c.id_line.ensures ∙ c.if-id_line.true)) in
    let g = rw (← c.count_parents-n.ensures) at f in
    omega (arith, g)

pub returns-then-id_line : goal.returns-then-id_line
returns-then-id_line c =
    let id-line = c.id_line in
    let args = c.args in
    c.people.ensures ∙ sym (fields-are args.s.now args.h (sym id-line.ensures ∙ c.if-id_line.true) _
    c.count_parents-n.ensures)

pub returns : goal.returns
returns c =
    let args = c.args in
    sym (fields-no args.s.now args.h (sym c.id_line.ensures ∙ c.if-id_line.false))
