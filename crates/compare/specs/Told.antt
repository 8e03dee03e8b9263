-- What a comparison of the first bytes of two names tells of their order (docs/FORMAT.md, "Order"). Assumes nothing.
use Rattle.std.specs.Prelude.{ℕ, zero, suc, ◌+◌, ◌*◌, ◌/◌, ◌%◌, ◌^◌, ◌≤◌, ◌≡◌, Bool, List, length, take}
use Rattle.order.specs.Order.{name_order}
use Rattle.std.specs.declared.cmp.Ordering.{Ordering}
use Rattle.std.specs.declared.cmp.Ordering.TheVariants.{Equal, Greater, Less}

-- the so many lowest bytes of a number, turned round: the lowest becomes the highest
unfoldable pub turned : ℕ → ℕ → ℕ
turned zero w = 0
turned (suc k) w = w % 256 * 256 ^ k + turned k (w / 256)

-- both names have so many bytes
abbrev pub Within : List ℕ → List ℕ → ℕ → Type 0
Within a b n = (n ≤ length a) × (n ≤ length b)

-- the names agree up to i, and both have k bytes more
abbrev pub Ready : List ℕ → List ℕ → ℕ → ℕ → Type 0
Ready a b i k = Within a b (i + k) × (take i a ≡ take i b)

-- what is told by the first k bytes: that they agree, or how the names stand, of whatever sorts they are
unfoldable pub Told : List ℕ → List ℕ → ℕ → Ordering → Type 0
Told a b k Less = (s t : Bool) → name_order a s b t ≡ Less
Told a b k Equal = take k a ≡ take k b
Told a b k Greater = (s t : Bool) → name_order a s b t ≡ Greater
