-- `loose_header::decimal_of` meets its contract. Assumes nothing.
use Rattle.loose_header.specs.Header.{digits, decimal}
use lib.ListN.{length, take, drop, replicate}
use mathlib.Core.List.{◌++◌}
use mathlib.Core.Path.{◌≡◌}
use Prim.Native.Nat.{◌^◌, ◌<◌, ◌≤◌}
use Rattle.loose_header.proofs.decimal_of.Given as goal

abbrev pub invariant-loop-rest : goal.invariant-loop-rest
invariant-loop-rest l =
    (0 < l.at) × (l.at ≤ 20) × (length l.text ≡ 20) × (l.rest < 10 ^ l.at) × (decimal l.n ≡ digits l.at l.rest ++ drop l.at l.text) × (take l.at l.text ≡ replicate l.at 0)

abbrev pub decreases-loop-rest : goal.decreases-loop-rest
decreases-loop-rest l = l.rest
