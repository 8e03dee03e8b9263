-- `listing_text::add_lines` meets its contract. Assumes nothing.
use native.Mathlib.Omega.{arith}
use mathlib.Core.Path.{refl, ◌∙◌}
use Prim.Native.Nat.{◌-◌}
use Rattle.listing_text.proofs.Laws.{rest_all, rest-none, lines-turn, lines_end}
use Rattle.listing_text.proofs.add_lines.Goals as goal

pub loop-i-init : goal.loop-i-init
loop-i-init c = (refl, refl, omega arith, omega arith, rest_all _ _ _)

pub add_line-p-requires : goal.add_line-p-requires
add_line-p-requires c =
    let at-args = c in (
      omega (arith, c.loop-i.invariant.1, c.loop-i.invariant.3, c.loop-i-test.true, c.requires.0, c.requires.3),
      c.requires.1,
      c.requires.2,
    )

pub loop-i-preserved : goal.loop-i-preserved
loop-i-preserved c =
    let l = c.loop-i in
    let e = c.add_line-p.ensures in (
      c.add_line-p.auto.out ∙ l.invariant.0,
      l.invariant.1,
      omega arith,
      omega (arith, e.1, l.invariant.3),
      lines-turn c.args.h c.args.s.now c.args.records.now l.i
          (omega (arith, l.invariant.1, c.loop-i-test.true)) c.entry_at.ensures l.invariant.4 e.0,
    )

pub shape_of-out : goal.shape_of-out
shape_of-out c = c.loop-i.invariant.0

pub returns : goal.returns
returns c =
    let loop-test = c.loop-i-test in
    let l = c.loop-i in
    rest-none l.invariant.4 (lines_end c.args.h c.args.s.now c.args.records.now l.i
    (omega (arith, l.invariant.1, loop-test.false)))
