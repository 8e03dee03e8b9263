-- Laws of the values that are written, and of pieces stored one after another. Assumes nothing.
use native.Mathlib.Numerals.{add-one}
use native.Mathlib.Omega.{arith}
use Prim.Native.Nat.{ℕ, suc, ◌+◌, ◌*◌, ◌<◌, ◌≤◌}
use mathlib.Core.Path.{◌≡◌, refl, ap, sym, ◌∙◌}
use mathlib.Core.Bool.{Bool, true, false}
use mathlib.Core.List.{List, [], ◌∷◌, ◌++◌}
use lib.Dec.{eqb}
use lib.ListN.{length, get_or, drop, length-append, drop_of_length-le}
use lib.Seq.{sets, drop-cons}
use borrow.Author.Tests.{eq-eqb, ne_eqb, le-leb}
use Rattle.ground.specs.Basics.{pick}
use Rattle.ground.specs.Verdict.{most_bytes}
use Rattle.ground.specs.Scan.{count_to, free_of}
use Rattle.ground.proofs.Laws.{is_false, free_whole, whole_free, sets_append}
use Rattle.grammar.specs.Grammar.{given}
use Rattle.commit_value.specs.Fold.{fold_rest, fold_value, value_written, most_place, value_at}
use Rattle.commit_value.specs.Encoding.{encoding_refusal}

-- ---- pieces stored one after another

-- a walk that stores a whole piece by piece: what is left to store from a place on
pub record Left (l : List ℕ) (at : ℕ) (whole m : List ℕ) (to : ℕ) (rest : List ℕ) : Type 0 where
  pub holds : sets l at whole ≡ sets m to rest
  pub past : at + length whole ≡ to + length rest

pub left_all : (l : List ℕ) (at : ℕ) (whole : List ℕ) → Left l at whole l at whole
left_all l at whole = record { holds = refl; past = refl }

pub left-next : {l : List ℕ} {at : ℕ} {whole m : List ℕ} {to : ℕ} {rest : List ℕ} (p q n : List ℕ) (next : ℕ) → Left l at whole m to rest → rest ≡ p ++ q → n ≡ sets m to p
    → next ≡ to + length p → Left l at whole n next q
left-next {l} {at} {whole} {m} {to} {rest} p q n next k e f g =
    record {
      holds = k.holds ∙ rw (e, f, g) (sets_append m to p q);
      past = omega (arith, k.past, ap length e, length-append p q, g);
    }

pub left-none : {l : List ℕ} {at : ℕ} {whole m : List ℕ} {to : ℕ} {rest : List ℕ} → Left l at whole m to rest → rest ≡ [] → (to ≡ at + length whole) × (m ≡ sets l at whole)
left-none {l} {at} {whole} {m} {to} {rest} k e =
    (omega (arith, k.past, ap length e), sym (k.holds ∙ ap (sets m to) e))

-- ---- a value from a place on, prev the byte before it

module _ (prev : ℕ) (v : List ℕ) (i : ℕ) where
  pub fold_done : length v ≤ i → prev ≡ 10 → fold_rest prev (drop i v) ≡ []
  unfolding fold_rest
  fold_done p e = rw (drop_of_length-le v {i = i} p) (simp (eq-eqb prev 10 e))

  pub fold_last : length v ≤ i → (prev ≡ 10 → ⊥) → fold_rest prev (drop i v) ≡ 10 ∷ []
  unfolding fold_rest
  fold_last p e = rw (drop_of_length-le v {i = i} p) (simp (ne_eqb prev 10 e))

  module _ (p : i < length v) where
    pub fold_space : prev ≡ 10 → fold_rest prev (drop i v) ≡ 32 ∷ get_or v i 0 ∷ fold_rest (get_or v i 0) (drop (i + 1) v)
    unfolding fold_rest
    fold_space e = rw (add-one i, drop-cons v i 0 p) (simp (eq-eqb prev 10 e))

    pub fold_on : (prev ≡ 10 → ⊥) → fold_rest prev (drop i v) ≡ get_or v i 0 ∷ fold_rest (get_or v i 0) (drop (i + 1) v)
    unfolding fold_rest
    fold_on e = rw (add-one i, drop-cons v i 0 p) (simp (ne_eqb prev 10 e))

-- a space a byte and an LF at most
rest_le : (prev : ℕ) (v : List ℕ) → length (fold_rest prev v) ≤ 2 * length v + 1
unfolding fold_rest
rest_le prev [] = go (eqb prev 10)
  where
    go : (t : Bool) → length {A = ℕ} (pick t [] (10 ∷ [])) ≤ 1
    go true = omega arith
    go false = omega arith
rest_le prev (b ∷ bs) = go (eqb prev 10) (rest_le b bs)
  where
    go : (t : Bool) → length (fold_rest b bs) ≤ 2 * length bs + 1 → length (pick t (32 ∷ b ∷ fold_rest b bs) (b ∷ fold_rest b bs)) ≤ 2 * suc (length bs) + 1
    go true ih = omega arith
    go false ih = omega arith

pub fold_le : (v : List ℕ) → length (fold_value v) ≤ 2 * length v + 1
unfolding fold_value
fold_le v = rest_le 0 v

-- ---- a value at a place, neither past its bound

module _ (at mark : ℕ) (v : List ℕ) where
  pub value_inside : at ≤ most_place → length v ≤ most_bytes → value_at at mark v ≡ value_written mark v
  unfolding value_at
  value_inside p q = simp (le-leb at most_place p, le-leb (length v) most_bytes q)

-- ---- what refuses an encoding

fault-some : (v : List ℕ) → (length v ≡ 0 → ⊥) → encoding_refusal (given v) ≡ pick (free_of 10 v) 0 14
unfolding encoding_refusal
fault-some [] n = absurd (n refl)
fault-some (b ∷ bs) n = refl

fault-nothing : (v : List ℕ) → length v ≡ 0 → encoding_refusal (given v) ≡ 13
unfolding encoding_refusal
fault-nothing [] n = refl
fault-nothing (b ∷ bs) n = absurd (omega arith)

module _ (v : List ℕ) where
  pub fault-empty : length v ≡ 0 → encoding_refusal (given v) ≡ 13
  fault-empty z = fault-nothing v z

  pub fault-none : (length v ≡ 0 → ⊥) → count_to 10 v ≡ length v → encoding_refusal (given v) ≡ 0
  fault-none z c = fault-some v z ∙ rw (free_whole 10 v c)

  pub fault-lf : (length v ≡ 0 → ⊥) → (count_to 10 v ≡ length v → ⊥) → encoding_refusal (given v) ≡ 14
  fault-lf z c = fault-some v z ∙ rw (is_false (free_of 10 v) (λ q. c (whole_free 10 v q)))
