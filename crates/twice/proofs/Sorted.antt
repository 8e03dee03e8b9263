-- Repeated ids by the neighbours among the sorted ones. Assumes nothing.
use Prim.Native.Nat.{ℕ, ◌*◌, ◌/◌, ◌%◌, ◌≤◌}
use native.Mathlib.Omega.{arith}
use mathlib.Core.Path.{◌≡◌, refl, ap, sym, ◌∙◌}
use mathlib.Core.Bool.{Bool}
use mathlib.Core.List.Memᴰ
use mathlib.Core.List.{List, [], ◌∷◌, append-nil, Memᴰ}
use mathlib.Core.Logic.{⊎_elim}
use lib.ListN.{length, take, drop}
use borrow.Author.Tests.{ne_eqb}
use Rattle.ground.specs.Scan.{same_bytes}
use Rattle.ground.specs.Verdict.{most_bytes}
use Rattle.ground.proofs.Laws.{same_test, same_true, same_refl}
use Rattle.sorting.specs.Sort.{sort_by}
use Rattle.keys.specs.Key.{past_mark, cut_to, name_at, key_at, below_by}
use Rattle.sorting.specs.Repeats as sorting
use Rattle.sorting.proofs.Sorted.{sort_perm}
use Rattle.sorting.proofs.Repeats.{perm_mem, touches-sorted}
use Rattle.frame.specs.Frame.{Frames, done, fault, frame, frames_by}
use Rattle.frame.specs.Place.{id_in}
use Rattle.twice.specs.Ids.{ids_in, among, repeats}
use Rattle.indexing.specs.Indexing.{elements_in}
use Rattle.indexing.proofs.Laws.{Made, front-is, whole_is}
use Rattle.neighbours.specs.Sorted.{same_short}
use Rattle.frame.specs.declared.Header.{Header}

same-flip : (a b : List ℕ) → same_bytes a b ≡ same_bytes b a
same-flip a b = same_test (same_bytes a b) (same_bytes b a) (λ e. rw (same_true a b e) (same_refl b)) (λ e. rw (same_true b a e) (same_refl a))

module _ (s : List ℕ) (h : ℕ) (some : h ≡ 0 → ⊥) where
  key_even : (p : ℕ) → key_at s 0 h (p * 2) ≡ take h (drop p s)
  unfolding key_at name_at past_mark cut_to
  key_even p =
      let a : p * 2 / 2 ≡ p = omega arith in
      let b : p * 2 % 2 ≡ 0 = omega arith in
      rw (a, b, ne_eqb h 0 some) (append-nil (take h (drop p s)))

  element_key : (l : Frames) (x : ℕ) → Memᴰ x (elements_in l) → key_at s 0 h x ≡ take h (drop (x / 2) s)
  unfolding elements_in
  element_key done x m = absurd (Memᴰ.not-nil m)
  element_key fault x m = absurd (Memᴰ.not-nil m)
  element_key (frame f l) x m =
      ⊎_elim (λ (e : x ≡ f.id * 2). let a : f.id * 2 / 2 ≡ f.id = omega arith in rw (e, a) (key_even f.id)) (λ k. element_key l x k) (Memᴰ.cases_cons m)

  has-among : (p : ℕ) (l : Frames) → sorting.has (λ x y. same_bytes (key_at s 0 h x) (key_at s 0 h y)) (p * 2) (elements_in l) ≡ among (take h (drop p s)) (ids_in h s l)
  unfolding elements_in ids_in among sorting.has id_in
  has-among p done = refl
  has-among p fault = refl
  has-among p (frame f l) = rw (key_even p, key_even f.id, has-among p l, same-flip (take h (drop p s)) (take h (drop f.id s)))

  elements_repeat : (l : Frames) → sorting.repeats (λ x y. same_bytes (key_at s 0 h x) (key_at s 0 h y)) (elements_in l) ≡ repeats (ids_in h s l)
  unfolding elements_in ids_in repeats sorting.repeats id_in
  elements_repeat done = refl
  elements_repeat fault = refl
  elements_repeat (frame f l) = rw (has-among f.id l, elements_repeat l)

touches-same : (key other : ℕ → List ℕ) (l : List ℕ) → ((x : ℕ) → Memᴰ x l → key x ≡ other x)
    → sorting.touches (λ x y. same_bytes (key x) (key y)) l ≡ sorting.touches (λ x y. same_bytes (other x) (other y)) l
unfolding sorting.touches
touches-same key other [] f = refl
touches-same key other (x ∷ []) f = refl
touches-same key other (x ∷ y ∷ l) f =
    rw (f x (Memᴰ.head refl), f y (Memᴰ.tail (Memᴰ.head refl)), touches-same key other (y ∷ l) (λ z m. f z (Memᴰ.tail m)))

-- the index made and looked through: an id stands twice exactly where two neighbours are the same
pub twice-is : (s : List ℕ) (k : Header) (list after : List ℕ) (n : ℕ) (r : Bool) → (k.h ≡ 0 → ⊥) → k.count ≤ length list → length s ≤ most_bytes → Made s k list n after
    → r ≡ sorting.touches (same_short s k.h) (take n after) → r ≡ repeats (ids_in k.h s (frames_by s k))
twice-is s k list after n r some room p m er =
    let h = k.h in
    let l : Frames = frames_by s k in
    er ∙ ap (sorting.touches (same_short s h)) (front-is s k list after n m ∙ whole_is s k (length list) p room)
    ∙ sym (touches-same (key_at s 0 h) (λ x. take h (drop (x / 2) s)) (sort_by (below_by (key_at s 0 h)) (elements_in l))
    (λ x i. element_key s h some l x (perm_mem (sort_perm (below_by (key_at s 0 h)) (elements_in l)) i)))
    ∙ touches-sorted (key_at s 0 h) (elements_in l) ∙ elements_repeat s h some l
