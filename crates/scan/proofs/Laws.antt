-- Laws of the scans: eight bytes of a list passed over, or stopped at, by the word that is made of them. Assumes nothing.
use Prim.Native.Nat.{ℕ, zero, suc, ◌+◌, ◌-◌, ◌<◌, ◌≤◌, min}
use mathlib.Core.Path.{◌≡◌, refl, sym, ap, ◌∙◌}
use mathlib.Core.Bool.{Bool, true, false, not, ◌&&◌, ◌||◌, false≢true}
use mathlib.Core.List.{List, [], ◌∷◌}
use mathlib.Core.Logic.{⊎_elim}
use native.Mathlib.Decide.{dec_lt}
use native.Mathlib.Numerals.{add-one}
use native.Mathlib.Omega.{arith}
use lib.Bits.{bit_xor, xor_self}
use lib.Dec.{eqb}
use lib.ListN.{length, get_or, take, drop, length-drop}
use lib.Seq.{drop-drop, get_or-drop}
use Rattle.ground.specs.Basics.{pick}
use Rattle.ground.specs.Scan.{count_to, place_from, common_start, free_of}
use Rattle.ground.proofs.Laws.{equal, count-take, count_at, place-from, free_whole, whole_free, common_same, common_differ, common_left, common_right}
use Rattle.scan.specs.Word.{WordOf, marks_of, zeros, FirstAt}
use Rattle.scan.proofs.Word.{part_length, xors, xors_length, word_xors, xor-zero, zeros_all, zeros-some}

free_suc : (x : ℕ) (s : List ℕ) (k : ℕ) → k < length s → free_of x (take (suc k) s) ≡ (free_of x (take k s) && not (eqb (get_or s k 0) x))
free_suc x [] k h = absurd (omega arith)
free_suc x (b ∷ bs) zero h = go (eqb b x)
  where
    go : (v : Bool) → (not v && true) ≡ not v
    go true = refl
    go false = refl
free_suc x (b ∷ bs) (suc k) h = go (eqb b x) (free_suc x bs k (omega arith))
  where
    go : (v : Bool) → free_of x (take (suc k) bs) ≡ (free_of x (take k bs) && not (eqb (get_or bs k 0) x))
        → (not v && free_of x (take (suc k) bs)) ≡ ((not v && free_of x (take k bs)) && not (eqb (get_or bs k 0) x))
    go true e = refl
    go false e = e

-- a byte more that is looked at
pub free-step : (x : ℕ) (s : List ℕ) (k : ℕ) → k < length s → free_of x (take (k + 1) s) ≡ (free_of x (take k s) && not (eqb (get_or s k 0) x))
free-step x s k h = rw (add-one k) (free_suc x s k h)

-- an x is no further than where one stands
pub place-most : (x : ℕ) (s : List ℕ) (at k : ℕ) → at + k < length s → get_or s (at + k) 0 ≡ x → place_from x s at ≤ at + k
unfolding place_from
place-most x s at k h e = omega (arith, count_at x (drop at s) k (omega (arith, length-drop at s)) (get_or-drop at s k 0 ∙ e))

-- what counting goes over, and the count from there on
pub count-over : (x k : ℕ) (s : List ℕ) → k ≤ count_to x s → count_to x s ≡ k + count_to x (drop k s)
count-over x zero s h = omega arith
count-over x (suc k) [] h = absurd (omega arith)
count-over x (suc k) (b ∷ bs) h = go (count-over x k bs) (eqb b x) h
  where
    go : (k ≤ count_to x bs → count_to x bs ≡ k + count_to x (drop k bs)) → (v : Bool) → suc k ≤ pick v 0 (suc (count_to x bs))
        → pick v 0 (suc (count_to x bs)) ≡ suc k + count_to x (drop k bs)
    go ih true q = absurd (omega arith)
    go ih false q = omega (arith, ih (omega arith))

place-over : (x : ℕ) (s : List ℕ) (i k : ℕ) → k ≤ count_to x (drop i s) → place_from x s i ≡ place_from x s (i + k)
unfolding place_from
place-over x s i k h = rw (← drop-drop k i s) (omega (arith, count-over x k (drop i s) h))

-- where none is x up to a place, none is up to one before it
pub place-part : (x : ℕ) (s : List ℕ) (i k j : ℕ) → i ≤ k → k ≤ j → place_from x s i ≡ place_from x s j → place_from x s i ≡ place_from x s k
unfolding place_from
place-part x s i k j g h e =
    place-over x s i (k - i) (omega (arith, e, place-from x s j)) ∙ ap (place_from x s) (omega arith)

-- some bytes of which none is x
pub place-clear : (x : ℕ) (s : List ℕ) (i k j : ℕ) → j ≡ i + k → j ≤ length s → free_of x (take k (drop i s)) ≡ true → place_from x s i ≡ place_from x s j
place-clear x s i k j f h e =
    place-over x s i k (omega (arith, whole_free x (take k (drop i s)) e, part_length s i k (omega arith), count-take x k (drop i s)))
    ∙ ap (place_from x s) (sym f)

-- some bytes of which one is x
pub place-met : (x : ℕ) (s : List ℕ) (i k j : ℕ) → j ≡ i + k → j ≤ length s → free_of x (take k (drop i s)) ≡ false → place_from x s i < j
unfolding place_from
place-met x s i k j f h e =
    elim (dec_lt (count_to x (drop i s)) k) [
      | yes g ↦ omega arith
      | no g ↦ absurd (false≢true (sym e ∙ free_whole x (take k (drop i s)) (omega (arith, part_length s i k (omega arith), count-take x k (drop i s)))))
    ]

-- the first mark stands where the first x stands
zeros-marks : (x : ℕ) (bs : List ℕ) → zeros (marks_of x bs) ≡ count_to x bs
unfolding zeros marks_of
zeros-marks x [] = refl
zeros-marks x (b ∷ bs) = go (eqb b x) (zeros-marks x bs)
  where
    go : (v : Bool) → zeros (marks_of x bs) ≡ count_to x bs → zeros (pick v 128 0 ∷ marks_of x bs) ≡ pick v 0 (suc (count_to x bs))
    go true h = refl
    go false h = ap suc h

marks-length : (x : ℕ) (bs : List ℕ) → length (marks_of x bs) ≡ length bs
unfolding marks_of
marks-length x [] = refl
marks-length x (b ∷ bs) = ap suc (marks-length x bs)

module _ (x : ℕ) (s : List ℕ) (i m : ℕ) (h : i + 8 ≤ length s) (p : WordOf (marks_of x (take 8 (drop i s))) m) where
  -- how far x is, up to eight
  marked : zeros (marks_of x (take 8 (drop i s))) ≡ count_to x (take 8 (drop i s))
  marked = zeros-marks x (take 8 (drop i s))

  marks_eight : length (marks_of x (take 8 (drop i s))) ≡ 8
  marks_eight = marks-length x (take 8 (drop i s)) ∙ part_length s i 8 h

  -- no mark: on past the eight bytes
  pub place-past : (j : ℕ) → m ≡ 0 → j ≡ i + 8 → place_from x s i ≡ place_from x s j
  place-past j e f =
      place-over x s i 8 (omega (arith, marked, marks_eight, zeros_all _ m p e, count-take x 8 (drop i s))) ∙ ap (place_from x s) (sym f)

  -- a mark: there it is
  pub place_in : (r : ℕ) → FirstAt m r → (m ≡ 0 → ⊥) → place_from x s i ≡ i + r
  unfolding place_from
  place_in r f n =
      omega (arith, f (marks_of x (take 8 (drop i s))) marks_eight p n, marked, marks_eight, zeros-some _ m p n, count-take x 8 (drop i s))

  -- where one of the eight is x there is a mark
  pub place-among : (r : ℕ) → FirstAt m r → place_from x s i < i + 8 → place_from x s i ≡ i + r
  place-among r g l = place_in r g (λ e. absurd (omega (arith, place-past (i + 8) e refl, place-from x s (i + 8))))

-- ---- a block that lacks both of two bytes, or one

-- it lacks the second: not the first
pub only-first : (a b : Bool) → (not a || not b) ≡ true → b ≡ true → a ≡ false
only-first true true t f = absurd (false≢true t)
only-first true false t f = absurd (false≢true f)
only-first false b t f = refl

-- it lacks both
pub neither-some : (a b : Bool) → (not a || not b) ≡ false → (a ≡ true) × (b ≡ true)
neither-some true true t = (refl, refl)
neither-some true false t = absurd (false≢true (sym t))
neither-some false b t = absurd (false≢true (sym t))

-- ---- how far two lists agree

zeros-stop : (b : ℕ) (bs : List ℕ) → (b ≡ 0 → ⊥) → zeros (b ∷ bs) ≡ 0
unfolding zeros
zeros-stop zero bs n = absurd (n refl)
zeros-stop (suc b) bs n = refl

-- the first of them that is not 0 stands where the lists part
zeros_xors : (bs cs : List ℕ) → length bs ≡ length cs → zeros (xors bs cs) ≡ common_start bs cs
unfolding zeros common_start
zeros_xors [] cs n = refl
zeros_xors (x ∷ bs) [] n = refl
zeros_xors (x ∷ bs) (y ∷ cs) n =
    ⊎_elim
    (λ (e : x ≡ y). let z : bit_xor x y ≡ 0 = rw e (xor_self y) in rw z (ap suc (zeros_xors bs cs (omega arith)) ∙ sym (common_same x bs y cs e)))
    (λ (e : x ≡ y → ⊥). zeros-stop (bit_xor x y) (xors bs cs) (λ z. e (xor-zero x y z)) ∙ sym (common_differ x bs y cs e))
    (equal x y)

-- of the first k bytes it is cut off at k
common_take : (k : ℕ) (a b : List ℕ) → common_start (take k a) (take k b) ≡ min k (common_start a b)
unfolding common_start
common_take zero a b = omega arith
common_take (suc k) [] b = omega arith
common_take (suc k) (x ∷ a) [] = omega arith
common_take (suc k) (x ∷ a) (y ∷ b) = go (eqb x y) (common_take k a b)
  where
    go : (t : Bool) → common_start (take k a) (take k b) ≡ min k (common_start a b)
        → pick t (suc (common_start (take k a) (take k b))) 0 ≡ min (suc k) (pick t (suc (common_start a b)) 0)
    go true h = omega arith
    go false h = omega arith

-- what they share, and how far they agree from there on
common_over : (k : ℕ) (a b : List ℕ) → k ≤ common_start a b → common_start a b ≡ k + common_start (drop k a) (drop k b)
unfolding common_start
common_over zero a b h = omega arith
common_over (suc k) [] b h = absurd (omega arith)
common_over (suc k) (x ∷ a) [] h = absurd (omega arith)
common_over (suc k) (x ∷ a) (y ∷ b) h = go (common_over k a b) (eqb x y) h
  where
    go : (k ≤ common_start a b → common_start a b ≡ k + common_start (drop k a) (drop k b)) → (v : Bool) → suc k ≤ pick v (suc (common_start a b)) 0
        → pick v (suc (common_start a b)) 0 ≡ suc k + common_start (drop k a) (drop k b)
    go ih true q = omega (arith, ih (omega arith))
    go ih false q = absurd (omega arith)

-- past the end of the shorter they share nothing
pub common-end : (a b : List ℕ) (i : ℕ) → min (length a) (length b) ≤ i → common_start (drop i a) (drop i b) ≡ 0
common-end a b i h = omega (arith, common_left (drop i a) (drop i b), common_right (drop i a) (drop i b), length-drop i a, length-drop i b)

module _ (a b : List ℕ) (i u v : ℕ) (ha : i + 8 ≤ length a) (hb : i + 8 ≤ length b)
    (p : WordOf (take 8 (drop i a)) u) (q : WordOf (take 8 (drop i b)) v) where
  -- the bits in which their next eight bytes differ
  abbrev differing : List ℕ
  differing = xors (take 8 (drop i a)) (take 8 (drop i b))

  alike : length (take 8 (drop i a)) ≡ length (take 8 (drop i b))
  alike = part_length a i 8 ha ∙ sym (part_length b i 8 hb)

  differ_word : WordOf differing (bit_xor u v)
  differ_word = word_xors (take 8 (drop i a)) (take 8 (drop i b)) u v alike p q

  differ_length : length differing ≡ 8
  differ_length = xors_length (take 8 (drop i a)) (take 8 (drop i b)) alike ∙ part_length a i 8 ha

  -- how far they agree, up to eight
  shared : zeros differing ≡ min 8 (common_start (drop i a) (drop i b))
  shared = zeros_xors (take 8 (drop i a)) (take 8 (drop i b)) alike ∙ common_take 8 (drop i a) (drop i b)

  -- no bit differs: on past the eight bytes
  pub common_past : bit_xor u v ≡ 0 → common_start (drop i a) (drop i b) ≡ 8 + common_start (drop (i + 8) a) (drop (i + 8) b)
  common_past e =
      rw (← drop-drop 8 i a, ← drop-drop 8 i b)
      (common_over 8 (drop i a) (drop i b) (omega (arith, shared, differ_length, zeros_all differing _ differ_word e)))

  -- a bit differs: there they part
  pub common_in : (r : ℕ) → FirstAt (bit_xor u v) r → (bit_xor u v ≡ 0 → ⊥) → common_start (drop i a) (drop i b) ≡ r
  common_in r f n = omega (arith, f differing differ_length differ_word n, shared, differ_length, zeros-some differing _ differ_word n)
