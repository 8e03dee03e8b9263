-- `scan::find_nul_or_slash` meets its contract. Assumes nothing.
use Prim.Native.Nat.{◌+◌}
use mathlib.Core.Path.{refl, sym, ◌∙◌}
use native.Mathlib.Omega.{arith}
use Rattle.ground.proofs.Laws.{place_end, place-from}
use Rattle.scan.proofs.Laws.{place-clear, place-met, only-first, neither-some}
use Rattle.scan.proofs.find_nul_or_slash.Goals as goal

pub returns-then-s-from : goal.returns-then-s-from
returns-then-s-from c =
    let args = c.args in
    omega (arith, place_end 0 args.s.now args.from (omega arith), place_end 47 args.s.now args.from (omega arith))

pub loop-i-init : goal.loop-i-init
loop-i-init c = (omega arith, refl, refl)

pub first_of-requires : goal.first_of-requires
first_of-requires c =
    let i = c.loop-i.i in
    let only = only-first c.lacks-nul.result _ c.if-nul-slash.true c.if-slash.false in
    record { in_bounds = omega arith; found = place-met 0 c.args.s.now i _ (i + 16) (omega arith) (omega arith) (sym c.lacks-nul.ensures ∙ only) }

pub returns-then-nul-slash : goal.returns-then-nul-slash
returns-then-nul-slash c =
    let s = c.args.s.now in
    let i = c.loop-i.i in
    let only = only-first c.lacks-nul.result _ c.if-nul-slash.true c.if-slash.false in
    let clear = place-clear 47 s i _ (i + 16) (omega arith) (omega arith) (sym c.lacks-slash.ensures ∙ c.if-slash.false) in
    let met = place-met 0 s i _ (i + 16) (omega arith) (omega arith) (sym c.lacks-nul.ensures ∙ only) in
    omega (arith, c.first_of.ensures, c.loop-i.invariant.1, c.loop-i.invariant.2, clear, met, place-from 47 s (i + 16))

pub loop-i-preserved : goal.loop-i-preserved
loop-i-preserved c =
    let s = c.args.s.now in
    let i = c.loop-i.i in
    let none = neither-some _ _ c.if-nul-slash.false in
    let inv = c.loop-i.invariant in (
      omega arith,
      inv.1 ∙ place-clear 0 s i _ (i + 16) (omega arith) (omega arith) (sym c.lacks-nul.ensures ∙ none.0),
      inv.2 ∙ place-clear 47 s i _ (i + 16) (omega arith) (omega arith) (sym c.lacks-slash.ensures ∙ none.1),
    )

pub returns : goal.returns
returns c =
    let inv = c.loop-i.invariant in
    rw (c.shorter.ensures, c.find_near-2.ensures, c.find_near.ensures, inv.1, inv.2)
