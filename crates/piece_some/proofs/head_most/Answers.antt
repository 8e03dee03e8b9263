-- `piece_some::head_most` meets its contract. Assumes nothing.
use mathlib.Core.Path.{sym, ◌∙◌}
use native.Mathlib.Omega.{arith}
use Rattle.piece_some.proofs.Bytes.{head_full, head_more}
use Rattle.piece_some.proofs.head_most.Goals as goal

pub returns-then-is_full : goal.returns-then-is_full
returns-then-is_full c =
    let args = c.args in
    head_full args.k args.count args.most (sym c.is_full.ensures ∙ c.if-is_full.true)

pub returns : goal.returns
returns c =
    let args = c.args in
    head_more args.k args.count args.most (sym c.is_full.ensures ∙ c.if-is_full.false) _ (omega (arith, c.min.ensures, c.saturating_sub.ensures))
