-- The id of an element, and neighbours among the first elements. Assumes nothing.
use Prim.Native.Nat.{ℕ, suc, ◌+◌, ◌-◌, ◌<◌, ◌≤◌, min}
use native.Mathlib.Decide.{dec_lt}
use native.Mathlib.Omega.{arith}
use mathlib.Core.Path.{◌≡◌, refl, ap, sym, ◌∙◌}
use mathlib.Core.Bool.{Bool, true, false}
use mathlib.Core.List.{List, [], ◌∷◌}
use lib.ListN.{length, get_or, take, drop, length-drop, drop_of_length-le}
use lib.Seq.{take_all, take-nil, drop-cons, get_or-take, length-take-le}
use Rattle.ground.specs.Scan.{same_bytes}
use Rattle.sorting.specs.Repeats as sorting

-- ---- the id of an element

take_min : (h : ℕ) (l : List ℕ) → take (min h (length l)) l ≡ take h l
take_min h l =
    elim (dec_lt h (length l)) [
      | yes p ↦ (let z : min h (length l) ≡ h = omega arith in ap (λ (n : ℕ). take n l) z)
      | no p ↦ (let z : min h (length l) ≡ length l = omega arith in ap (λ (n : ℕ). take n l) z ∙ take_all (length l) l (omega arith) ∙ sym (take_all h l (omega arith)))
    ]

pub short-part : (s : List ℕ) (h p a m b : ℕ) → a ≡ min p (length s) → m ≡ min h (length s - a) → b ≡ a + m → take (b - a) (drop a s) ≡ take h (drop p s)
short-part s h p a m b x y z =
    elim (dec_lt p (length s)) [
      | yes q ↦ (
          let e : a ≡ p = omega arith in
          let n : b - a ≡ min h (length (drop p s)) = omega (arith, length-drop p s) in
          ap (λ (k : ℕ). take k (drop a s)) n ∙ ap (λ (k : ℕ). take (min h (length (drop p s))) (drop k s)) e ∙ take_min h (drop p s))
      | no q ↦ (
          let e : length s ≤ a = omega arith in
          let f : length s ≤ p = omega arith in
          ap (take (b - a)) (drop_of_length-le s {i = a} e) ∙ take-nil (b - a) ∙ sym (ap (take h) (drop_of_length-le s {i = p} f) ∙ take-nil h))
    ]

pub same-both : {a b c d : List ℕ} → a ≡ c → b ≡ d → same_bytes a b ≡ same_bytes c d
same-both p q = cc

-- ---- neighbours

-- the first n are as many as there are
pub most-is : (n most : ℕ) (list : List ℕ) → most ≡ min n (length list) → take n list ≡ take most list
most-is n most list e = sym (ap (λ (k : ℕ). take k list) e ∙ take_min n list)

touch_end : (same : ℕ → ℕ → Bool) (l : List ℕ) → length l ≤ 1 → sorting.touches same l ≡ false
unfolding sorting.touches
touch_end same [] p = refl
touch_end same (x ∷ []) p = refl
touch_end same (x ∷ y ∷ l) p = absurd (omega arith)

module _ (same : ℕ → ℕ → Bool) (list : List ℕ) (n : ℕ) (p : n ≤ length list) (i : ℕ) (low : 1 ≤ i) where
  size : length (take n list) ≡ n
  size = length-take-le n list p

  pub touch_none : n ≤ i → sorting.touches same (drop (i - 1) (take n list)) ≡ false
  touch_none q = touch_end same (drop (i - 1) (take n list)) (omega (arith, length-drop (i - 1) (take n list), size))

  module _ (q : i < n) where
    before : drop (i - 1) (take n list) ≡ get_or list (i - 1) 0 ∷ drop i (take n list)
    before =
        let z : suc (i - 1) ≡ i = omega arith in
        drop-cons (take n list) (i - 1) 0 (omega (arith, size))
        ∙ rw (get_or-take n list (i - 1) 0 (omega arith), z)

    after : drop i (take n list) ≡ get_or list i 0 ∷ drop (suc i) (take n list)
    after = drop-cons (take n list) i 0 (omega (arith, size)) ∙ rw (get_or-take n list i 0 q)

    pub touch_here : same (get_or list (i - 1) 0) (get_or list i 0) ≡ true → sorting.touches same (drop (i - 1) (take n list)) ≡ true
    unfolding sorting.touches
    touch_here t = rw (before, after) (rw t)

    pub touch_on : same (get_or list (i - 1) 0) (get_or list i 0) ≡ false → sorting.touches same (drop (i - 1) (take n list)) ≡ sorting.touches same (drop (i + 1 - 1) (take n list))
    unfolding sorting.touches
    touch_on t =
        let z : i + 1 - 1 ≡ i = omega arith in
        rw (z, before, after) (rw t)
