-- `piece_first::bodies` meets its contract. Assumes nothing.
use borrow.Author.Rules.{rules}
use mathlib.Core.Path.{refl, sym, ◌∙◌}
use native.Mathlib.Omega.{arith}
use Rattle.arriving.specs.Feed.{together}
use Rattle.arriving.proofs.Laws.{bodies-turn, bodies_end}
use Rattle.piece_body.proofs.Laws.{within}
use Rattle.piece_first.proofs.bodies.Goals as goal

pub loop-k-init : goal.loop-k-init
loop-k-init c = (refl, search rules)

pub loop-k-preserved : goal.loop-k-preserved
loop-k-preserved c =
    let args = c.args in
    let loop = c.loop-k in
    let here = together loop.held loop.ends loop.out in
    bodies-turn _ here args.head loop.k 2147483648 (omega arith) _ (within here _ (omega arith) c.body_within-out.ensures) loop.invariant

pub returns : goal.returns
returns c =
    let args = c.args in
    let loop = c.loop-k in
    sym (loop.invariant.0 ∙ bodies_end (together loop.held loop.ends loop.out) args.head loop.k (omega arith))
