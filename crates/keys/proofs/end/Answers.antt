-- `keys::end` meets its contract. Assumes nothing.
use Rattle.keys.proofs.Keys.{end_nul, end_wide, end_last}
use Prim.Native.Nat.{◌+◌, ◌-◌}
use mathlib.Core.Path.{◌≡◌}
use native.Mathlib.Decide.{dec_lt}
use native.Mathlib.Omega.{arith}
use lib.ListN.{length}
use Rattle.keys.proofs.end.Goals as goal

pub returns-then-width-eq0 : goal.returns-then-width-eq0
returns-then-width-eq0 c =
    let args = c.args in
    end_nul args.width args.text.now args.from c.requires _ c.if-width-eq0.true c.find_nul.ensures

pub returns : goal.returns
returns c =
    let args = c.args in
    elim (dec_lt args.width (length args.text.now - args.from)) [
      | yes h ↦
          let e : c.min.result ≡ args.width = omega (arith, c.min.ensures, h) in
          rw e (end_wide args.width args.text.now args.from c.requires c.if-width-eq0.false h)
      | no h ↦
          let e : args.from + c.min.result ≡ length args.text.now = omega (arith, c.requires, c.min.ensures, h) in
          rw e (end_last args.width args.text.now args.from c.requires c.if-width-eq0.false (omega arith))
    ]
