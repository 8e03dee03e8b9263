-- `keys::begin` meets its contract. Assumes nothing.
use Rattle.ground.proofs.Laws.{place-within}
use Rattle.keys.proofs.Keys.{begin-past, begin-here, begin-found, begin_lost}
use Prim.Native.Nat.{◌+◌}
use mathlib.Core.Path.{◌≡◌}
use native.Mathlib.Decide.{dec_lt}
use native.Mathlib.Omega.{arith}
use lib.ListN.{length}
use Rattle.keys.proofs.begin.Goals as goal

pub returns-then-text-place : goal.returns-then-text-place
returns-then-text-place c =
    let args = c.args in
    (omega arith, begin-past args.mark args.text.now args.place c.if-text-place.true)

pub returns-then-mark-eq0 : goal.returns-then-mark-eq0
returns-then-mark-eq0 c =
    let args = c.args in
    (omega arith, begin-here args.mark args.text.now args.place c.if-mark-eq0.true)

pub overflow_add-at : goal.overflow_add-at
overflow_add-at c =
    let args = c.args in
    omega (arith, c.find_byte-at.ensures, place-within args.mark args.text.now args.place (omega arith), c.well_formed)

pub returns : goal.returns
returns c =
    let args = c.args in
    let at = c.find_byte-at.result in
    elim (dec_lt at (length args.text.now)) [
      | yes h ↦
          let e : c.min.result ≡ at + 1 = omega (arith, c.min.ensures, h) in
          (omega arith, rw e (begin-found args.mark args.text.now args.place c.if-mark-eq0.false _ c.find_byte-at.ensures h))
      | no h ↦
          let e : c.min.result ≡ length args.text.now = omega (arith, c.min.ensures, h) in
          (omega arith, rw e (begin_lost args.mark args.text.now args.place c.if-mark-eq0.false _ c.find_byte-at.ensures (omega arith)))
    ]
