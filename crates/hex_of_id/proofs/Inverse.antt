-- Each way is the other's inverse. Assumes nothing.
use Prim.Native.Nat.{ℕ, ◌+◌, ◌*◌, ◌/◌, ◌%◌, ◌<◌}
use native.Mathlib.Omega.{arith}
use mathlib.Core.Path.{◌≡◌, refl, ap, sym, ◌∙◌}
use mathlib.Core.Bool.{true}
use mathlib.Core.List.{List, [], ◌∷◌}
use mathlib.Core.Logic.{⊎_elim}
use lib.ListN.{length}
use borrow.Author.Tests.{ne_eqb}
use Rattle.ground.specs.Verdict.{counted, gate_of}
use Rattle.ground.specs.declared.Answer.{Answer}
use Rattle.ground.proofs.Laws.{equal, id_small, gate_open, gate_fine}
use Rattle.output.specs.Output.{fitted}
use Rattle.output.proofs.Laws.{fitted-done, fitted-fine}
use Rattle.hex_digits.specs.Hex.{hex_value, is_hex, digit_of, lower_digit, lower_hex}
use Rattle.hex_digits.proofs.Laws.{digit_value, value_digit, hex-small}
use Rattle.id_of_hex.specs.Id.{bytes_of, halved, digits_read}
use Rattle.hex_of_id.specs.Hex.{hex_of}
use Rattle.hex_of_id.specs.Demand.{Bytes, IdBack, HexBack}
use Rattle.id_of_hex.proofs.Laws.{hex-first, halved_even, halved_odd, bytes-length, read-hex, read_done, id_open, id_began}
use Rattle.hex_of_id.proofs.Laws.{hex-length, hex_open, hex_began}
use Rattle.std.specs.Prelude.{Ok}

-- ---- the digits of bytes

-- a number's digit is a hex digit, and in lower case
digit_hex : (x : ℕ) → x < 16 → hex_value (digit_of x) ≡ 255 → ⊥
digit_hex x p e = omega (arith, digit_value x p)

digit_lower : (x : ℕ) → x < 16 → lower_digit (digit_of x) ≡ digit_of x
digit_lower x p = sym (value_digit (digit_of x) (digit_hex x p)) ∙ ap digit_of (digit_value x p)

digits-hex : (id : List ℕ) → Bytes id → is_hex (hex_of id) ≡ true
unfolding hex_of
digits-hex [] f = refl
digits-hex (b ∷ bs) f =
    rw (
      ne_eqb (hex_value (digit_of (b / 16))) 255 (digit_hex (b / 16) (omega (arith, f.0))),
      ne_eqb (hex_value (digit_of (b % 16))) 255 (digit_hex (b % 16) (omega arith)),
    ) (digits-hex bs f.1)

digits-lower : (id : List ℕ) → Bytes id → lower_hex (hex_of id) ≡ hex_of id
unfolding hex_of
digits-lower [] f = refl
digits-lower (b ∷ bs) f = rw (digit_lower (b / 16) (omega (arith, f.0)), digit_lower (b % 16) (omega arith), digits-lower bs f.1)

bytes_back : (id : List ℕ) → Bytes id → bytes_of (hex_of id) ≡ id
unfolding hex_of bytes_of
bytes_back [] f = refl
bytes_back (b ∷ bs) f =
    let z : b / 16 * 16 + b % 16 ≡ b = omega arith in
    rw (digit_value (b / 16) (omega (arith, f.0)), digit_value (b % 16) (omega arith), z, bytes_back bs f.1)

-- ---- the bytes of digits

digits-back : (d : List ℕ) → length d % 2 ≡ 0 → is_hex d ≡ true → hex_of (bytes_of d) ≡ lower_hex d
unfolding hex_of bytes_of
digits-back [] z e = refl
digits-back (a ∷ []) z e = absurd (omega arith)
digits-back (a ∷ b ∷ ds) z e =
    let f = hex-first a (b ∷ ds) e in
    let g = hex-first b ds f.1 in
    let p : hex_value a < 16 = hex-small a f.0 in
    let q : hex_value b < 16 = hex-small b g.0 in
    let u : (hex_value a * 16 + hex_value b) / 16 ≡ hex_value a = omega arith in
    let v : (hex_value a * 16 + hex_value b) % 16 ≡ hex_value b = omega arith in
    rw (u, v, value_digit a f.0, value_digit b g.0, digits-back ds (omega arith) g.1)

-- ---- the two ways

pub id_back : IdBack
id_back id room n back f a fits small =
    let d : List ℕ = hex_of id in
    let l : length d ≡ 2 * length id = hex-length id in
    let began : gate_of (length id) room 0 ≡ Ok tt = hex_began id room (ap (λ (x : Answer). x.verdict.number) a) in
    let m : fitted room (counted (2 * length id)) ≡ counted n = sym (hex_open id room began) ∙ a in
    let done = fitted-done room (counted (2 * length id)) (ap (λ (x : Answer). x.verdict.number) m) in
    let k : length id ≡ halved (length d) = omega (arith, l, halved_even (length d) (omega (arith, l))) in
    let again : gate_of (length id) back 0 ≡ Ok tt = gate_fine (length id) back 0 (gate_open (length id) room 0 began).0 small (omega arith) in
    let e : length d / 2 ≡ length id = omega (arith, l) in
    let r : digits_read d ≡ counted (length id) = read-hex d (digits-hex id f) ∙ ap counted e in (
      ap (λ (x : Answer). x.count) (sym m ∙ done.2) ∙ sym l,
      digits-lower id f,
      id_open d back (length id) k again ∙ ap (fitted back) r ∙ fitted-fine back (counted (length id)) refl fits,
      bytes_back id f,
    )

pub hex_back : HexBack
hex_back d room n back a fits small =
    let began : gate_of (halved (length d)) room 0 ≡ Ok tt = id_began d room (ap (λ (x : Answer). x.verdict.number) a) in
    let i = (gate_open (halved (length d)) room 0 began).0 in
    let even : length d % 2 ≡ 0
    = ⊎_elim (λ e. e) (λ e. absurd (omega (arith, id_small (halved (length d)) i, halved_odd (length d) e))) (equal (length d % 2) 0) in
    let m : fitted room (digits_read d) ≡ counted n = sym (id_open d room (halved (length d)) refl began) ∙ a in
    let done = fitted-done room (digits_read d) (ap (λ (x : Answer). x.verdict.number) m) in
    let read = read_done d done.0 in
    let l : length (bytes_of d) ≡ length d / 2 = bytes-length d in
    let k : halved (length d) ≡ length (bytes_of d) = halved_even (length d) even ∙ sym l in
    let again : gate_of (length (bytes_of d)) back 0 ≡ Ok tt
    = ap (λ (h : ℕ). gate_of h back 0) (sym k) ∙ gate_fine (halved (length d)) back 0 i small (omega arith) in
    let e : 2 * length (bytes_of d) ≡ length d = omega (arith, l, even) in (
      ap (λ (x : Answer). x.count) (sym m ∙ done.2) ∙ read.1 ∙ sym l,
      hex_open (bytes_of d) back again ∙ ap (λ (x : ℕ). fitted back (counted x)) e ∙ fitted-fine back (counted (length d)) refl fits,
      digits-back d even read.0,
    )
