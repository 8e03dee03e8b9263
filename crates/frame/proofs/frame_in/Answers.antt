-- `frame::frame_in` meets its contract. Assumes nothing.
use Prim.Native.Nat.{◌+◌}
use native.Mathlib.Omega.{arith}
use mathlib.Core.Path.{refl, sym}
use mathlib.Core.Logic.{⊎_elim}
use Rattle.frame.proofs.Laws.{frame-low, frame-high, frame-long, frame-whole}
use Rattle.frame.proofs.frame_in.Goals as goal

pub overflow_cast-kind : goal.overflow_cast-kind
overflow_cast-kind c = omega (arith, c.type_inv.s (c.args.at + c.args.h))

pub returns-then-kind-lt1 : goal.returns-then-kind-lt1
returns-then-kind-lt1 c =
    sym (⊎_elim (λ w. frame-low c.args.s.now c.args.h c.args.at c.requires _ refl w)
    (λ w. frame-high c.args.s.now c.args.h c.args.at c.requires _ refl w.0 w.1) c.then-kind-lt1.either)

pub returns-then-s-start : goal.returns-then-s-start
returns-then-s-start c =
    sym (frame-long c.args.s.now c.args.h
    c.args.at c.requires _ refl
    c.if-kind-lt1.false c.if-kind-gt4.false _ c.four_at-size.ensures.made (omega arith))

pub returns : goal.returns
returns c =
    sym (frame-whole c.args.s.now c.args.h
    c.args.at c.requires _ refl
    c.if-kind-lt1.false c.if-kind-gt4.false _ c.four_at-size.ensures.made (omega arith))
