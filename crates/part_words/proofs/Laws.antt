-- Laws of the words for a part. Assumes nothing.
use Prim.Native.Nat.{ℕ, zero, suc}
use mathlib.Core.Path.{◌≡◌, refl, ap, ◌∙◌}
use mathlib.Core.List.{List}
use lib.ListN.{length}
use lib.Seq.{sets}
use Rattle.part_words.specs.Words.{part_words, Stored}

pub part-words : {out after words : List ℕ} {r : ℕ} (k : ℕ) → words ≡ part_words k → Stored out words after r
    → (r ≡ length (part_words k)) × (after ≡ sets out 0 (part_words k))
part-words {out} k e x = (x.many ∙ ap (λ (l : List ℕ). length l) e, x.stores ∙ ap (sets out 0) e)

pub part_other : (out : List ℕ) (k : ℕ) → (k ≡ 1 → ⊥) → (k ≡ 2 → ⊥) → (k ≡ 3 → ⊥) → (0 ≡ length (part_words k)) × (out ≡ sets out 0 (part_words k))
unfolding part_words
part_other out zero a b c = (refl, refl)
part_other out (suc zero) a b c = absurd (a refl)
part_other out (suc (suc zero)) a b c = absurd (b refl)
part_other out (suc (suc (suc zero))) a b c = absurd (c refl)
part_other out (suc (suc (suc (suc k)))) a b c = (refl, refl)
