-- `commit_fields::ending` meets its contract. Assumes nothing.
use mathlib.Core.Path.{sym, ◌∙◌}
use native.Mathlib.Omega.{arith}
use Rattle.commit_fields.proofs.Laws.{ending-no, ending-is, blank_fits}
use Rattle.commit_fields.proofs.ending.Goals as goal

pub overflow_add-message : goal.overflow_add-message
overflow_add-message c =
    let args = c.args in
    omega (arith, blank_fits args.s.now c.count_headers-k.result.end (sym c.byte_at.ensures ∙ c.if-byte_at-eq10.true))

pub returns-then-byte_at-eq10 : goal.returns-then-byte_at-eq10
returns-then-byte_at-eq10 c =
    let encoding-at = c.encoding_at-enc in
    let args = c.args in
    sym (ending-is args.s.now args.n args.a args.e args.b args.f _ _ encoding-at.ensures c.count_headers-k.ensures
    (sym c.byte_at.ensures ∙ c.if-byte_at-eq10.true))

pub returns : goal.returns
returns c =
    let encoding-at = c.encoding_at-enc in
    let args = c.args in
    sym (ending-no args.s.now args.n args.a args.e args.b args.f _ _ encoding-at.ensures c.count_headers-k.ensures
    (λ e. c.if-byte_at-eq10.false (c.byte_at.ensures ∙ e)))
