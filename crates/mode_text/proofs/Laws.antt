-- Laws of the definitions of `mode_text`: what the proofs of its functions and of the layers above cite. Assumes nothing.
use native.Mathlib.Decide.{dec_lt}
use native.Mathlib.Nat.{lt_of_not-le}
use native.Mathlib.Numerals.{add-one}
use native.Mathlib.Omega.{arith}
use Prim.Native.Nat.{ℕ, suc, ◌+◌, ◌-◌, ◌*◌, ◌/◌, ◌%◌, ◌<◌, ◌≤◌, min}
use mathlib.Core.Path.{◌≡◌, refl, ap, sym, ◌∙◌}
use mathlib.Core.Bool.{Bool, true, false, true≢false, ◌&&◌}
use mathlib.Core.List.{List, [], ◌∷◌}
use lib.Dec.{eqb, ltb, leb}
use lib.ListN.{length, get_or, take, drop, replicate, drop_of_length-le, get_or-eq_default, length-take, length-drop, length-append}
use lib.Seq.{drop-cons, get_or-take, take-take, take_all, take-append_seam}
use borrow.Author.Tests.{eq-eqb, ne_eqb, leb-true, ltb-true, le-leb, lt-leb, lt-ltb, le-ltb}
use Rattle.ground.specs.Basics.{pick}
use Rattle.ground.specs.Scan.{count_to}
use Rattle.ground.proofs.Laws.{count-le, count-take}
use Rattle.mode_text.specs.Read.{octal_from, has_six, text_len, settle, rest_at, text_of, read_text, moved, read_text_at}
use Rattle.mode_text.specs.Write.{six_digits, trimmed, write_mode, short, shown, mode_text}
use Rattle.mode_text.specs.declared.ShortText.{ShortText}
use Rattle.std.specs.Prelude.{None, Option, Some}
use Rattle.ground.proofs.Pairs.{some_parts}

-- ---- octal digits from a place on: a digit, a byte below the digits, one above them, the end

module _ (t : List ℕ) (sum n : ℕ) where
  module _ (h : n < length t) where
    pub octal_digit : 48 ≤ get_or t n 0 → get_or t n 0 ≤ 55
        → octal_from sum (drop n t) ≡ octal_from (sum % 0o20000 * 8 + (get_or t n 0 - 48)) (drop (n + 1) t)
    unfolding octal_from
    octal_digit lo hi =
        rw (add-one n, drop-cons t n 0 h)
        (simp (le-leb 48 (get_or t n 0) lo, le-leb (get_or t n 0) 55 hi)
        (ap (λ (v : ℕ). octal_from v (drop (suc n) t)) (omega arith)))

    pub octal-low : get_or t n 0 < 48 → octal_from sum (drop n t) ≡ None
    unfolding octal_from
    octal-low lo = rw (drop-cons t n 0 h) (simp (lt-leb 48 (get_or t n 0) lo))

    pub octal-high : 55 < get_or t n 0 → octal_from sum (drop n t) ≡ None
    unfolding octal_from
    octal-high hi = rw (drop-cons t n 0 h) (simp (le-leb 48 (get_or t n 0) (omega arith), lt-leb (get_or t n 0) 55 hi))

  pub octal_end : length t ≤ n → octal_from sum (drop n t) ≡ Some sum
  unfolding octal_from
  octal_end e = rw (drop_of_length-le t {i = n} e)

-- ---- the mode text: six bytes, or all up to the first space; it stands within the bytes

module _ (i : List ℕ) where
  pub text_six : has_six i ≡ true → text_len i ≡ 6
  unfolding text_len
  text_six e = simp e

  pub text-count : has_six i ≡ false → text_len i ≡ count_to 32 i
  unfolding text_len
  text-count e = simp e

  pub six_short : length i ≤ 6 → has_six i ≡ false
  unfolding has_six
  six_short h = rw (get_or-eq_default i 0 h)

  pub text_le : text_len i ≤ length i
  text_le = go (has_six i) refl
    where
      go : (t : Bool) → has_six i ≡ t → text_len i ≤ length i
      go true e = omega (arith, text_six e, lt_of_not-le {n = length i} {m = 6} (λ h. true≢false (sym e ∙ six_short h)))
      go false e = omega (arith, text-count e, count-le 32 i)

-- ---- reading: no bytes, too long a text, a byte that is no digit, a number

module _ (i : List ℕ) where
  pub read_none : length i ≡ 0 → read_text i ≡ None
  unfolding read_text
  read_none e = simp (le-ltb 0 (length i) (omega arith))

  module _ (some : length i ≡ 0 → ⊥) (k : ℕ) (e : k ≡ text_len i) where
    pub read-long : 7 < k → read_text i ≡ None
    unfolding read_text
    read-long h = simp (lt-ltb 0 (length i) (omega arith), lt-leb (text_len i) 7 (omega arith))

    module _ (h : k ≤ 7) where
      pub read-text : read_text i ≡ text_of (get_or i 0 0) (rest_at k (length i)) (octal_from 0 (take k i))
      unfolding read_text
      read-text = rw e (simp (lt-ltb 0 (length i) (omega arith), le-leb (text_len i) 7 (omega arith)))

      pub read-other : octal_from 0 (take k i) ≡ None → read_text i ≡ None
      read-other o = read-text ∙ ap (text_of _ _) o

      read_number : (v : ℕ) → octal_from 0 (take k i) ≡ Some v → read_text i ≡ Some (settle v (get_or i 0 0), rest_at k (length i))
      read_number v o = read-text ∙ ap (text_of _ _) o

      pub read_bits : (v : ℕ) → octal_from 0 (take k i) ≡ Some v → (m rest : ℕ) → m ≡ settle v (get_or i 0 0) → rest ≡ rest_at k (length i)
          → Some (m, rest) ≡ read_text i
      read_bits v o m rest e f = ap (λ (x : ℕ). Some (x, rest)) e ∙ ap ((λ y. Some ((settle v (get_or i 0 0)), y))) f ∙ sym (read_number v o)

-- ---- where the rest begins

module _ (n len : ℕ) where
  pub rest_more : n < len → rest_at n len ≡ n + 1
  unfolding rest_at
  rest_more p = simp (lt-ltb n len p)

  pub rest_end : len ≤ n → rest_at n len ≡ 1
  unfolding rest_at
  rest_end p = simp (le-ltb n len p)

-- ---- what a text that was read says of its bytes

-- there is a byte, the text is short, its digits say a sum, and mode and rest are as the definition makes them from these
pub record Parts (b : List ℕ) (m n : ℕ) : Type 0 where
  pub some : 0 < length b
  pub few : text_len b ≤ 7
  pub sum : ℕ
  pub digits : octal_from 0 (take (text_len b) b) ≡ Some sum
  pub made : settle sum (get_or b 0 0) ≡ m
  pub rest : n ≡ rest_at (text_len b) (length b)

pub read-parts : (b : List ℕ) (m n : ℕ) → read_text b ≡ Some (m, n) → Parts b m n
unfolding read_text
read-parts b m n e = go (ltb 0 (length b)) refl (leb (text_len b) 7) refl (octal_from 0 (take (text_len b) b)) refl e
  where
    go : (u : Bool) → ltb 0 (length b) ≡ u → (v : Bool) → leb (text_len b) 7 ≡ v → (o : Option ℕ) → octal_from 0 (take (text_len b) b) ≡ o
        → pick (u && v) (text_of (get_or b 0 0) (rest_at (text_len b) (length b)) o) None ≡ Some (m, n) → Parts b m n
    go true p true q (Some x) r e =
        let w = some_parts e in record { some = ltb-true _ _ p; few = leb-true _ _ q; sum = x; digits = r; made = w.0; rest = sym w.1 }
    go true p true q None r e = let z : ◌≡◌ {A = ℕ} 0 1 = cc in absurd (omega arith)
    go true p false q o r e = let z : ◌≡◌ {A = ℕ} 0 1 = cc in absurd (omega arith)
    go false p v q o r e = let z : ◌≡◌ {A = ℕ} 0 1 = cc in absurd (omega arith)

-- The rest begins behind the first byte and not behind the end.
pub read_next : (b : List ℕ) (m n : ℕ) → read_text b ≡ Some (m, n) → (0 < n) × (n ≤ length b)
read_next b m n e =
    let p = read-parts b m n e in
    elim (dec_lt (text_len b) (length b)) [
      | yes h ↦ let r = p.rest ∙ rest_more (text_len b) (length b) h in (omega arith, omega arith)
      | no h ↦ let r = p.rest ∙ rest_end (text_len b) (length b) (omega arith) in (omega arith, omega (arith, p.some))
    ]

-- ---- the first eight bytes decide

six_take : (k : ℕ) (i : List ℕ) → 8 ≤ k → has_six (take k i) ≡ has_six i
unfolding has_six
six_take k i p = rw (get_or-take k i 6 0 (omega arith), get_or-take k i 5 0 (omega arith))

-- the text of the first k bytes, eight or more, is cut off at k
text-take : (k : ℕ) (i : List ℕ) → 8 ≤ k → text_len (take k i) ≡ min k (text_len i)
text-take k i p = go (has_six i) refl
  where
    go : (t : Bool) → has_six i ≡ t → text_len (take k i) ≡ min k (text_len i)
    go true e = omega (arith, text_six i e, text_six (take k i) (six_take k i p ∙ e))
    go false e = omega (arith, text-count i e, text-count (take k i) (six_take k i p ∙ e), count-take 32 k i)

-- a cut behind the eighth byte changes no reading
cut-reads : (k : ℕ) (i : List ℕ) → 8 ≤ k → k < length i → read_text (take k i) ≡ read_text i
cut-reads k i p q = elim (dec_lt 7 (text_len i)) [ yes h ↦ long h | no h ↦ fits (omega arith) ]
  where
    some : length (take k i) ≡ 0 → ⊥
    some z = omega (arith, length-take k i)

    long : 7 < text_len i → read_text (take k i) ≡ read_text i
    long h = read-long (take k i) some _ refl (omega (arith, text-take k i p)) ∙ sym (read-long i (λ z. omega arith) _ refl h)

    fits : text_len i ≤ 7 → read_text (take k i) ≡ read_text i
    fits h =
        let n : text_len i ≡ text_len (take k i) = omega (arith, text-take k i p) in
        let r : rest_at (text_len i) (length (take k i)) ≡ rest_at (text_len i) (length i)
        = rest_more (text_len i) (length (take k i)) (omega (arith, length-take k i)) ∙ sym (rest_more (text_len i) (length i) (omega arith)) in
        cc (
          read-text (take k i) some (text_len i) n h,
          read-text i (λ z. omega arith) (text_len i) refl h,
          get_or-take k i 0 0 (omega arith),
          take-take (text_len i) k i (omega arith),
        )

-- so does one at the end
pub first-decide : (k : ℕ) (i : List ℕ) → min 8 (length i) ≤ k → read_text (take k i) ≡ read_text i
first-decide k i p = elim (dec_lt k (length i)) [ yes h ↦ cut-reads k i (omega arith) h | no h ↦ rw (take_all k i (omega arith)) ]

-- The first eight bytes decide a text.
pub eight_decide : (i : List ℕ) → read_text (take 8 i) ≡ read_text i
eight_decide i = first-decide 8 i (omega arith)

-- ---- from a place on

module _ (s : List ℕ) (at : ℕ) where
  pub past-reads : length s < at → read_text_at s at ≡ None
  unfolding read_text_at
  past-reads h = ap (moved at) (read_none (drop at s) (simp length-drop (omega arith)))

  -- the bytes that the code looks at are enough
  pub window_reads : at ≤ length s → (end : ℕ) → end ≡ min (at + 8) (length s) → read_text (take (end - at) (drop at s)) ≡ read_text (drop at s)
  window_reads h end e = first-decide (end - at) (drop at s) (simp length-drop (omega arith))

-- ---- writing: mode 0, and any other

module _ (m : ℕ) where
  pub text-zero : m ≡ 0 → mode_text m ≡ short (48 ∷ [])
  unfolding mode_text write_mode
  text-zero e = simp (eq-eqb m 0 e)

  pub text-more : (m ≡ 0 → ⊥) → mode_text m ≡ short (trimmed (six_digits m))
  unfolding mode_text write_mode
  text-more n = simp (ne_eqb m 0 n)

-- six digits that are the number's own make its text
pub text-made : (m a b c d e f : ℕ) → (m ≡ 0 → ⊥) → a ≡ 48 + m / 0o100000 % 8 → b ≡ 48 + m / 0o10000 % 8 → c ≡ 48 + m / 0o1000 % 8
    → d ≡ 48 + m / 0o100 % 8 → e ≡ 48 + m / 0o10 % 8 → f ≡ 48 + m % 8 → short (trimmed (a ∷ b ∷ c ∷ d ∷ e ∷ f ∷ [])) ≡ mode_text m
text-made m a b c d e f n p q r s t u = rw (p, q, r, s, t, u) (sym (text-more m n))

-- ---- a mode's text as a writer has it

-- it has at most six bytes
pub mode_le : (m : ℕ) → length (write_mode m) ≤ 6
unfolding write_mode trimmed
mode_le m = go (eqb m 0) (eqb (get_or (six_digits m) 1 0) 52) (eqb (get_or (six_digits m) 0 0) 48)
  where
    go : (p q r : Bool) → length (pick p (48 ∷ []) (pick q (pick r (drop 1 (six_digits m)) (48 ∷ drop 1 (six_digits m))) (six_digits m))) ≤ 6
    go true q r = omega arith
    go false true true = omega arith
    go false true false = omega arith
    go false false r = omega arith

pub mode_len : (m : ℕ) → (mode_text m).len ≡ length (write_mode m)
unfolding mode_text
mode_len m = refl

pub mode-bytes : (m : ℕ) → take (length (write_mode m)) (mode_text m).bytes ≡ write_mode m
unfolding mode_text
mode-bytes m = take-append_seam (write_mode m) (replicate (6 - length (write_mode m)) 0)

-- the array and the length that hold a mode's text, apart
pub text-is : (t : ShortText) (m : ℕ) → t ≡ mode_text m → (t.len ≡ length (write_mode m)) × (t.len ≤ length t.bytes) × (shown t ≡ write_mode m)
unfolding mode_text
text-is t m e = rw e (refl, simp length-append (omega arith), mode-bytes m)
