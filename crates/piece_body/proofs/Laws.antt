-- Where fewer bytes have come, which is wherever a step is taken, it is the byte's own step; elsewhere nothing changes. Assumes nothing.
use Prim.Native.Nat.{ℕ, ◌<◌, ◌≤◌}
use mathlib.Core.Path.{◌≡◌, ap, sym, ◌∙◌}
use mathlib.Core.Bool.{Bool}
use borrow.Author.Tests.{lt-ltb, le-ltb}
use Rattle.ground.specs.Basics.{pick}
use Rattle.arriving.specs.Feed.{body}
use Rattle.arriving.specs.declared.Check.{Check}
use Rattle.piece_body.specs.Within.{body_within}

within-is : (c : Check) (b : ℕ) → c.marks.at < 4294967296 → body_within c b ≡ body c b
unfolding body_within
within-is c b q = ap (λ (t : Bool). pick t (body c b) c) (lt-ltb c.marks.at 4294967296 q)

pub within : (c : Check) (b : ℕ) {d : Check} → c.marks.at < 4294967296 → d ≡ body_within c b → d ≡ body c b
within c b q e = e ∙ within-is c b q

pub inside : (c : Check) (b : ℕ) {d : Check} → c.marks.at < 4294967296 → d ≡ body c b → d ≡ body_within c b
inside c b q e = e ∙ sym (within-is c b q)

pub outside : (c : Check) (b : ℕ) → 4294967296 ≤ c.marks.at → c ≡ body_within c b
unfolding body_within
outside c b q = sym (ap (λ (t : Bool). pick t (body c b) c) (le-ltb c.marks.at 4294967296 q))
