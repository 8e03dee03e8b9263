-- Laws of bytes from a place on and of the answer, which the proofs of the functions cite. Assumes nothing.
use Prim.Native.Nat.{ℕ, suc, ◌+◌, ◌*◌, ◌/◌, ◌%◌, ◌<◌, ◌≤◌}
use native.Mathlib.Numerals.{add-one}
use native.Mathlib.Omega.{arith}
use mathlib.Core.Path.{◌≡◌, ap, sym, ◌∙◌}
use mathlib.Core.List.{List, [], ◌∷◌}
use lib.ListN.{length, get_or, drop, set, drop_of_length-le}
use lib.Seq.{sets, drop-cons}
use Rattle.ground.specs.Verdict.{counted, refused, gate_of}
use Rattle.ground.specs.declared.Verdict.{Verdict}
use Rattle.output.specs.Output.{fitted}
use Rattle.output.proofs.Laws.{gated_open, gated-shut, gated-done}
use Rattle.hex_digits.specs.Hex.{digit_of}
use Rattle.hex_of_id.specs.Hex.{hex_of, hex_answer}
use Rattle.std.specs.Prelude.{Err, Ok}

-- ---- bytes from a place on

module _ (id : List ℕ) (i : ℕ) where
  pub hex-more : i < length id → hex_of (drop i id) ≡ digit_of (get_or id i 0 / 16) ∷ digit_of (get_or id i 0 % 16) ∷ hex_of (drop (i + 1) id)
  unfolding hex_of
  hex-more p = rw (add-one i, drop-cons id i 0 p)

  pub hex-none : length id ≤ i → hex_of (drop i id) ≡ []
  unfolding hex_of
  hex-none p = rw (drop_of_length-le id {i = i} p)

-- two digits more, at twice the place of their byte
pub turn-digits : (l id : List ℕ) (i : ℕ) → i < length id → get_or id i 0 < 256
    → sets l (2 * i) (hex_of (drop i id))
    ≡ sets (set (set l (2 * i) (digit_of (get_or id i 0 / 16 % 16))) (2 * i + 1) (digit_of (get_or id i 0 % 16))) (2 * (i + 1)) (hex_of (drop (i + 1) id))
turn-digits l id i p q =
    let b : ℕ = get_or id i 0 in
    let z : b / 16 ≡ b / 16 % 16 = omega (arith, q) in
    let n : suc (suc (2 * i)) ≡ 2 * (i + 1) = omega arith in
    let r : List ℕ = hex_of (drop (i + 1) id) in
    ap (sets l (2 * i)) (hex-more id i p)
    ∙ ap (λ (x : ℕ). sets (set (set l (2 * i) (digit_of x)) (suc (2 * i)) (digit_of (b % 16))) (suc (suc (2 * i))) r) z
    ∙ ap (λ (k : ℕ). sets (set (set l (2 * i) (digit_of (b / 16 % 16))) k (digit_of (b % 16))) (suc (suc (2 * i))) r) (sym (add-one (2 * i)))
    ∙ ap (λ (k : ℕ). sets (set (set l (2 * i) (digit_of (b / 16 % 16))) (2 * i + 1) (digit_of (b % 16))) k r) n

pub hex-length : (id : List ℕ) → length (hex_of id) ≡ 2 * length id
unfolding hex_of
hex-length [] = omega arith
hex-length (b ∷ bs) = omega (arith, hex-length bs)

-- ---- the answer

module _ (id : List ℕ) (room : ℕ) where
  pub hex-shut : (v : Verdict) → gate_of (length id) room 0 ≡ Err v → hex_answer id room ≡ refused v
  unfolding hex_answer
  hex-shut v g = gated-shut (gate_of (length id) room 0) v (fitted room (counted (2 * length id))) g

  pub hex_open : gate_of (length id) room 0 ≡ Ok tt → hex_answer id room ≡ fitted room (counted (2 * length id))
  unfolding hex_answer
  hex_open g = gated_open (gate_of (length id) room 0) (fitted room (counted (2 * length id))) g

  pub hex_began : (hex_answer id room).verdict.number ≡ 0 → gate_of (length id) room 0 ≡ Ok tt
  unfolding hex_answer
  hex_began z = gated-done (length id) room 0 (fitted room (counted (2 * length id))) z
