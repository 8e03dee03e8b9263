-- Where fewer bytes have come, which is wherever a step is taken, it is the byte's own step; elsewhere nothing changes. Assumes nothing.
use Prim.Native.Nat.{ℕ, ◌<◌, ◌≤◌}
use mathlib.Core.Path.{◌≡◌, ap, sym, ◌∙◌}
use mathlib.Core.Bool.{Bool}
use borrow.Author.Tests.{lt-ltb, le-ltb}
use Rattle.ground.specs.Basics.{pick}
use Rattle.ground.specs.Verdict.{most_bytes}
use Rattle.arriving.specs.Feed.{head_step}
use Rattle.arriving.specs.declared.Check.{Check}
use Rattle.piece_first.specs.Within.{first_within}

within-is : (c : Check) (k b : ℕ) → c.marks.at < most_bytes → first_within c k b ≡ head_step c k b
unfolding first_within
within-is c k b q = ap (λ (t : Bool). pick t (head_step c k b) c) (lt-ltb c.marks.at most_bytes q)

pub within : (c : Check) (k b : ℕ) {d : Check} → c.marks.at < most_bytes → d ≡ first_within c k b → d ≡ head_step c k b
within c k b q e = e ∙ within-is c k b q

pub inside : (c : Check) (k b : ℕ) {d : Check} → c.marks.at < most_bytes → d ≡ head_step c k b → d ≡ first_within c k b
inside c k b q e = e ∙ sym (within-is c k b q)

pub outside : (c : Check) (k b : ℕ) → most_bytes ≤ c.marks.at → c ≡ first_within c k b
unfolding first_within
outside c k b q = sym (ap (λ (t : Bool). pick t (head_step c k b) c) (le-ltb c.marks.at most_bytes q))
