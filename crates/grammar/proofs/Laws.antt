-- The lengths of a part and of a line. Assumes nothing.
use Prim.Native.Nat.{ℕ, ◌+◌, ◌-◌, ◌≤◌}
use mathlib.Core.Path.{◌≡◌}
use mathlib.Core.List.{List, [], ◌∷◌, ◌++◌}
use native.Mathlib.Omega.{arith}
use lib.ListN.{length, drop, length-append, length-drop}
use lib.Seq.{length-take-le}
use Rattle.ground.specs.Basics.{part}
use Rattle.grammar.specs.Grammar.{line}

pub part_length : (s : List ℕ) (at e : ℕ) → at ≤ e → e ≤ length s → length (part at e s) ≡ e - at
part_length s at e p q = length-take-le (e - at) (drop at s) (rw (length-drop at s) (omega arith))

pub line-length : (w v : List ℕ) → length (line w v) ≡ length w + length v + 2
line-length w v = omega (arith, length-append w (32 ∷ (v ++ 10 ∷ [])), length-append v (10 ∷ []))
