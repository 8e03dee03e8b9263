-- Laws of digits from a place on and of the answer, which the proofs of the functions cite. Assumes nothing.
use Prim.Native.Nat.{ℕ, suc, ◌+◌, ◌*◌, ◌/◌, ◌%◌, ◌<◌, ◌≤◌}
use native.Mathlib.Numerals.{add-one}
use native.Mathlib.Omega.{arith}
use mathlib.Core.Path.{◌≡◌, refl, ap, sym, ◌∙◌}
use mathlib.Core.Bool.{Bool, true, false, not, false≢true}
use mathlib.Core.List.{List, [], ◌∷◌}
use lib.Dec.{eqb}
use lib.ListN.{length, get_or, drop, set, length-drop}
use lib.Seq.{sets, drop-cons}
use borrow.Author.Tests.{eq-eqb, ne_eqb}
use Rattle.ground.specs.Basics.{pick}
use Rattle.ground.specs.Verdict.{verdict, counted, refused, gate_of}
use Rattle.ground.specs.declared.Verdict.{Verdict}
use Rattle.ground.proofs.Laws.{and_left, and_right}
use Rattle.output.specs.Output.{fitted}
use Rattle.output.proofs.Laws.{gated_open, gated-shut, gated-done}
use Rattle.hex_digits.specs.Hex.{hex_value, is_hex}
use Rattle.hex_digits.proofs.Laws.{hex-small}
use Rattle.id_of_hex.specs.Id.{bytes_of, halved, digits_read, id_answer}
use Rattle.std.specs.Prelude.{Err, Ok}

-- ---- half of a number

pub halved_even : (n : ℕ) → n % 2 ≡ 0 → halved n ≡ n / 2
unfolding halved
halved_even n e = simp (eq-eqb (n % 2) 0 e)

pub halved_odd : (n : ℕ) → (n % 2 ≡ 0 → ⊥) → halved n ≡ 0
unfolding halved
halved_odd n e = simp (ne_eqb (n % 2) 0 e)

-- ---- digits from a place on

-- a byte that passes the test has a value
not_none : (b : ℕ) → not (eqb (hex_value b) 255) ≡ true → hex_value b ≡ 255 → ⊥
not_none b e z = go (eqb (hex_value b) 255) (eq-eqb (hex_value b) 255 z) e
  where
    go : (u : Bool) → u ≡ true → not u ≡ true → ⊥
    go true p q = false≢true q
    go false p q = false≢true p

-- the first of some digits, and the rest
pub hex-first : (b : ℕ) (bs : List ℕ) → is_hex (b ∷ bs) ≡ true → (hex_value b ≡ 255 → ⊥) × (is_hex bs ≡ true)
hex-first b bs e = (not_none b (and_left (not (eqb (hex_value b) 255)) (is_hex bs) e), and_right (not (eqb (hex_value b) 255)) (is_hex bs) e)

module _ (d : List ℕ) (at next : ℕ) (e : next ≡ at + 1) (p : next < length d) where
  two : drop at d ≡ get_or d at 0 ∷ get_or d next 0 ∷ drop (next + 1) d
  two =
      let z : suc at ≡ next = sym (add-one at) ∙ sym e in
      drop-cons d at 0 (omega (arith, e, p))
      ∙ ap (λ (k : ℕ). get_or d at 0 ∷ drop k d) z
      ∙ ap (λ (l : List ℕ). get_or d at 0 ∷ l) (drop-cons d next 0 p ∙ ap (λ (k : ℕ). get_or d next 0 ∷ drop k d) (sym (add-one next)))

  pub bytes-more : bytes_of (drop at d) ≡ (hex_value (get_or d at 0) * 16 + hex_value (get_or d next 0)) ∷ bytes_of (drop (next + 1) d)
  unfolding bytes_of
  bytes-more = ap bytes_of two

  pub hex-two : is_hex (drop at d) ≡ true → (hex_value (get_or d at 0) < 16) × (hex_value (get_or d next 0) < 16) × (is_hex (drop (next + 1) d) ≡ true)
  hex-two h =
      let a = hex-first (get_or d at 0) (get_or d next 0 ∷ drop (next + 1) d) (ap is_hex (sym two) ∙ h) in
      let b = hex-first (get_or d next 0) (drop (next + 1) d) a.1 in
      (hex-small (get_or d at 0) a.0, hex-small (get_or d next 0) b.0, b.1)

-- one byte of an id more, of the two digits that begin at twice its place
module _ (d : List ℕ) (i : ℕ) (p : i < length d / 2) (h : is_hex (drop (2 * i) d) ≡ true) where
  past : 2 * i + 1 + 1 ≡ 2 * (i + 1)
  past = omega arith

  pub turn_small : (hex_value (get_or d (2 * i) 0) < 16) × (hex_value (get_or d (2 * i + 1) 0) < 16)
  turn_small = let t = hex-two d (2 * i) (2 * i + 1) refl (omega (arith, p)) h in (t.0, t.1)

  pub turn-hex : is_hex (drop (2 * (i + 1)) d) ≡ true
  turn-hex = ap (λ (k : ℕ). is_hex (drop k d)) (sym past) ∙ (hex-two d (2 * i) (2 * i + 1) refl (omega (arith, p)) h).2

  pub turn-bytes : (l : List ℕ)
      → sets l i (bytes_of (drop (2 * i) d))
      ≡ sets (set l i (hex_value (get_or d (2 * i) 0) * 16 + hex_value (get_or d (2 * i + 1) 0))) (i + 1) (bytes_of (drop (2 * (i + 1)) d))
  turn-bytes l =
      let x : ℕ = hex_value (get_or d (2 * i) 0) * 16 + hex_value (get_or d (2 * i + 1) 0) in
      ap (sets l i) (bytes-more d (2 * i) (2 * i + 1) refl (omega (arith, p)))
      ∙ ap (λ (k : ℕ). sets (set l i x) k (bytes_of (drop (2 * i + 1 + 1) d))) (sym (add-one i))
      ∙ ap (λ (k : ℕ). sets (set l i x) (i + 1) (bytes_of (drop k d))) past

pub bytes-none : (d : List ℕ) (at : ℕ) → length d ≤ at + 1 → bytes_of (drop at d) ≡ []
unfolding bytes_of
bytes-none d at p = go (drop at d) (omega (arith, length-drop at d))
  where
    go : (l : List ℕ) → length l ≤ 1 → bytes_of l ≡ []
    go [] q = refl
    go (a ∷ []) q = refl
    go (a ∷ b ∷ l) q = absurd (omega arith)

pub bytes-length : (d : List ℕ) → length (bytes_of d) ≡ length d / 2
unfolding bytes_of
bytes-length [] = omega arith
bytes-length (a ∷ []) = omega arith
bytes-length (a ∷ b ∷ ds) = omega (arith, bytes-length ds)

-- ---- the answers

pub read-hex : (d : List ℕ) → is_hex d ≡ true → digits_read d ≡ counted (length d / 2)
unfolding digits_read
read-hex d e = rw e

-- digits that are read are hex
pub read_done : (d : List ℕ) → (digits_read d).verdict.number ≡ 0 → (is_hex d ≡ true) × ((digits_read d).count ≡ length d / 2)
unfolding digits_read
read_done d = go (is_hex d) refl
  where
    go : (u : Bool) → is_hex d ≡ u → (pick u (counted (length d / 2)) (refused (verdict 10 0))).verdict.number ≡ 0
        → (u ≡ true) × ((pick u (counted (length d / 2)) (refused (verdict 10 0))).count ≡ length d / 2)
    go true q z = (refl, refl)
    go false q z = absurd (omega arith)

module _ (d : List ℕ) (room h : ℕ) (e : h ≡ halved (length d)) where
  pub id-shut : (v : Verdict) → gate_of h room 0 ≡ Err v → id_answer d room ≡ refused v
  unfolding id_answer
  id-shut v g = gated-shut (gate_of (halved (length d)) room 0) v (fitted room (digits_read d)) (ap (λ (k : ℕ). gate_of k room 0) (sym e) ∙ g)

  pub id_open : gate_of h room 0 ≡ Ok tt → id_answer d room ≡ fitted room (digits_read d)
  unfolding id_answer
  id_open g = gated_open (gate_of (halved (length d)) room 0) (fitted room (digits_read d)) (ap (λ (k : ℕ). gate_of k room 0) (sym e) ∙ g)

-- a call that is done began
pub id_began : (d : List ℕ) (room : ℕ) → (id_answer d room).verdict.number ≡ 0 → gate_of (halved (length d)) room 0 ≡ Ok tt
unfolding id_answer
id_began d room z = gated-done (halved (length d)) room 0 (fitted room (digits_read d)) z
