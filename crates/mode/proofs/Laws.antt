-- Laws of the definitions of `mode`: what the proofs of its functions and of the layers above cite. Assumes nothing.
use native.Mathlib.Omega.{arith}
use Prim.Native.Nat.{ℕ, ◌/◌, ◌%◌, ◌<◌, ◌≤◌}
use mathlib.Core.Path.{◌≡◌, refl, ap, sym, ◌∙◌}
use mathlib.Core.Bool.{Bool, true, false, not, ◌||◌, or-true, false≢true}
use mathlib.Core.List.{List}
use lib.Bits.{bit_and, and_high}
use lib.Dec.{eqb}
use lib.ListN.{length, get_or, take, drop}
use borrow.Author.Tests.{eq-eqb, ne_eqb, eqb-true}
use Rattle.ground.specs.Verdict.{verdict, size_gate}
use Rattle.ground.specs.declared.Verdict.{Verdict}
use Rattle.ground.proofs.Laws.{same_test}
use Rattle.mode_text.specs.Read.{octal_from, text_len, settle, rest_at, read_text, read_text_at}
use Rattle.mode_text.specs.Read as reads
use Rattle.mode_text.proofs.Laws as texts
use Rattle.mode.specs.Mode.{top_bits, value_of, executes, accepted, rejected, from_number}
use Rattle.mode.specs.Read.{made, mode_of, read_mode, moved, read_mode_at, alone, mode_alone}
use Rattle.mode.specs.declared.EntryMode.{EntryMode}
pub use Rattle.mode_text.proofs.Laws.{text_six, text-count, text_le, rest_more, rest_end, Parts, mode_le, text-is}
pub use Rattle.mode_table.proofs.Laws.{row-text-is}
use Rattle.std.specs.Prelude.{Err, None, Ok, Option, Some}
use Rattle.ground.proofs.Pairs.{some_parts}

-- ---- masks and tests

-- the mask of the sort takes the top four bits
pub mask_top : (m : ℕ) → bit_and m 0o170000 ≡ top_bits m
mask_top m = and_high m 4 12

-- the mask of the execute bit tells whether it is set
pub mask_execute : (v : ℕ) → eqb (bit_and v 0o100) 0o100 ≡ eqb (v / 0o100 % 2) 1
mask_execute v =
    same_test _ _
    (λ e. eq-eqb (v / 0o100 % 2) 1 (omega (arith, and_high v 1 6, eqb-true (bit_and v 0o100) 0o100 e)))
    (λ e. eq-eqb (bit_and v 0o100) 0o100 (omega (arith, and_high v 1 6, eqb-true (v / 0o100 % 2) 1 e)))

-- by the value of a mode
pub executes-told : (m v : ℕ) → v ≡ value_of m → executes m ≡ eqb (bit_and v 0o100) 0o100
unfolding executes
executes-told m v e = sym (mask_execute v ∙ ap (λ (v : ℕ). eqb (v / 0o100 % 2) 1) e)

-- equal numbers answer a test alike
pub test : {a b : ℕ} (k : ℕ) → a ≡ b → eqb a k ≡ eqb b k
test k e = ap (λ (v : ℕ). eqb v k) e

-- ---- a mode from a number: a tree's, one without bit 15, one with it

module _ (n : ℕ) where
  number-tree : n ≡ 0o40000 → from_number n ≡ accepted (record { internal = 0o40000 })
  unfolding from_number
  number-tree e = simp e

  number-low : (n ≡ 0o40000 → ⊥) → bit_and n 0o100000 ≡ 0 → from_number n ≡ rejected (verdict 23 0)
  unfolding from_number
  number-low h e =
      let z : n / 0o100000 % 2 ≡ 0 = omega (arith, and_high n 1 15) in
      simp (ne_eqb n 16384 h, ne_eqb n 40960 (λ q. omega arith), ne_eqb n 57344 (λ q. omega arith), z)

  number-high : (bit_and n 0o100000 ≡ 0 → ⊥) → from_number n ≡ accepted (record { internal = n % 0o200000 })
  unfolding from_number
  number-high h =
      let z : n / 0o100000 % 2 ≡ 1 = omega (arith, and_high n 1 15) in
      simp (z, or-true)

  -- by the one test that the code makes
  pub number-good : (eqb n 0o40000 || not (eqb (bit_and n 0o100000) 0)) ≡ true → from_number n ≡ accepted (record { internal = n % 0o200000 })
  number-good e = go (eqb n 0o40000) refl (eqb (bit_and n 0o100000) 0) refl e
    where
      go : (v : Bool) → eqb n 0o40000 ≡ v → (w : Bool) → eqb (bit_and n 0o100000) 0 ≡ w → (v || not w) ≡ true
          → from_number n ≡ accepted (record { internal = n % 0o200000 })
      go true q w r e = let z = eqb-true n 0o40000 q in number-tree z ∙ rw z
      go false q false r e = number-high (λ z. false≢true (sym r ∙ eq-eqb (bit_and n 0o100000) 0 z))
      go false q true r e = absurd (false≢true e)

  pub number-bad : (eqb n 0o40000 || not (eqb (bit_and n 0o100000) 0)) ≡ false → from_number n ≡ rejected (verdict 23 0)
  number-bad e = go (eqb n 0o40000) refl (eqb (bit_and n 0o100000) 0) refl e
    where
      go : (v : Bool) → eqb n 0o40000 ≡ v → (w : Bool) → eqb (bit_and n 0o100000) 0 ≡ w → (v || not w) ≡ false → from_number n ≡ rejected (verdict 23 0)
      go true q w r e = absurd (false≢true (sym e))
      go false q false r e = absurd (false≢true (sym e))
      go false q true r e = number-low (λ z. false≢true (sym q ∙ eq-eqb n 0o40000 z)) (eqb-true (bit_and n 0o100000) 0 r)

-- ---- reading: what `mode_text` says of a text, of the mode that it makes

module _ (i : List ℕ) (some : length i ≡ 0 → ⊥) (k : ℕ) (e : k ≡ text_len i) (h : k ≤ 7) where
  pub read-text : read_mode i ≡ mode_of (get_or i 0 0) (rest_at k (length i)) (octal_from 0 (take k i))
  unfolding read_mode
  read-text = ap made (texts.read-text i some k e h)

  pub read_number : (v : ℕ) → octal_from 0 (take k i) ≡ Some v → read_mode i ≡ Some (record { internal = settle v (get_or i 0 0) }, rest_at k (length i))
  read_number v o = read-text ∙ ap (mode_of _ _) o

-- a mode is made from its own bits alone
made-from : (r : Option (ℕ × ℕ)) (m n : ℕ) → made r ≡ Some (record { internal = m }, n) → r ≡ Some (m, n)
made-from (Some (v, k)) m n e =
    let w = some_parts e in
    let a : v ≡ m = ap (λ (y : EntryMode). y.internal) w.0 in
    rw (a, w.1)
made-from None m n e = let z : ◌≡◌ {A = ℕ} 0 1 = cc in absurd (omega arith)

module _ (b : List ℕ) (m n : ℕ) (e : read_mode b ≡ Some (record { internal = m }, n)) where
  bits : read_text b ≡ Some (m, n)
  unfolding read_mode
  bits = made-from (read_text b) m n e

  -- what a mode that was read says of its bytes
  pub read-parts : Parts b m n
  read-parts = texts.read-parts b m n bits

  -- The rest begins behind the first byte and not behind the end.
  pub read_next : (0 < n) × (n ≤ length b)
  read_next = texts.read_next b m n bits

-- The first eight bytes decide a mode.
pub eight_decide : (i : List ℕ) → read_mode (take 8 i) ≡ read_mode i
unfolding read_mode
eight_decide i = ap made (texts.eight_decide i)

-- ---- from a place on, and alone

made-moved : (at : ℕ) (r : Option (ℕ × ℕ)) → made (reads.moved at r) ≡ moved at (made r)
made-moved at (Some (m, n)) = refl
made-moved at None = refl

-- the text from a place on makes the mode from there
pub made_at : (s : List ℕ) (at : ℕ) → made (read_text_at s at) ≡ read_mode_at s at
unfolding read_mode_at read_mode read_text_at
made_at s at = made-moved at (read_text (drop at s))

alone-moved : (at : ℕ) (r : Option (EntryMode × ℕ)) → alone (moved at r) ≡ alone r
alone-moved at (Some (m, n)) = refl
alone-moved at None = refl

module _ (i : List ℕ) where
  pub alone_open : size_gate (length i) 0 ≡ Ok tt → mode_alone i ≡ alone (read_mode_at i 0)
  unfolding mode_alone read_mode_at
  alone_open e = rw e (sym (alone-moved 0 (read_mode i)))

  pub alone-shut : (v : Verdict) → size_gate (length i) 0 ≡ Err v → mode_alone i ≡ rejected v
  unfolding mode_alone
  alone-shut v e = rw e
