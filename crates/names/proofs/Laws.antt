-- Laws of what is said of a name: each way through its tests. Assumes nothing.
use Prim.Native.Nat.{ℕ}
use native.Mathlib.Omega.{arith}
use mathlib.Core.Path.{◌≡◌, refl, ap, sym}
use mathlib.Core.Bool.{Bool, true, false, not, ◌&&◌, ◌||◌, false≢true}
use mathlib.Core.List.{List, [], ◌∷◌, map}
use lib.ListN.{length, get_or}
use borrow.Author.Tests.{le-leb, lt-leb}
use Rattle.ground.specs.Basics.{ascii, pick}
use Rattle.ground.specs.Scan.{same_bytes, free_of}
use Rattle.ground.proofs.Laws.{is_false, and_left, and_right, same_length, same_refl, same_true}
use Rattle.std.specs.Char.{to_ascii_lowercase}
use Rattle.std.specs.Prelude.{IsTrue, ◌↔◌}
use native.Mathlib.Decide.{dec_lt}
use borrow.Author.Tests.{lt-ltb, le-ltb}
use Rattle.names.specs.Names.{or_else, is_reserved, is_plain, lower, is_dot_git, reserved_number, bare_number}

module _ (n : List ℕ) where
  -- what a plain name is
  pub plain-parts : is_plain n ≡ true
      → (not (same_bytes n []) ≡ true) × (free_of 47 n ≡ true) × (not (same_bytes n (ascii ".")) ≡ true) × (not (same_bytes n (ascii "..")) ≡ true)
      × (not (same_bytes n (ascii ".git")) ≡ true)
  unfolding is_plain
  plain-parts e =
      let a = and_left (not (is_reserved n)) _ e in
      let b = none_right (same_bytes n []) _ a in
      let c = none_right (same_bytes n (ascii ".")) _ b in (
        none_left (same_bytes n []) _ a,
        and_right (not (is_reserved n)) _ e,
        none_left (same_bytes n (ascii ".")) _ b,
        none_left (same_bytes n (ascii "..")) _ c,
        none_right (same_bytes n (ascii "..")) _ c,
      )
    where
      none_left : (a b : Bool) → not (a || b) ≡ true → not a ≡ true
      none_left true b e = e
      none_left false b e = refl

      none_right : (a b : Bool) → not (a || b) ≡ true → not b ≡ true
      none_right true b e = absurd (false≢true e)
      none_right false b e = e

  -- with another number of bytes it is none
  pub reserved_length : (length n ≡ 0 → ⊥) → (length n ≡ 1 → ⊥) → (length n ≡ 2 → ⊥) → (length n ≡ 4 → ⊥) → is_reserved n ≡ false
  reserved_length a b c d = rw (same_length n [] a, same_length n (ascii ".") b, same_length n (ascii "..") c, same_length n (ascii ".git") d) refl

  -- four bytes whose second is no `g` are none
  pub reserved_second : length n ≡ 4 → (get_or n 1 0 ≡ 103 → ⊥) → is_reserved n ≡ false
  reserved_second e f =
      rw (
        same_length n [] (λ z. omega arith),
        same_length n (ascii ".") (λ z. omega arith),
        same_length n (ascii "..") (λ z. omega arith),
        is_false (same_bytes n (ascii ".git")) (λ z. f (ap (λ (l : List ℕ). get_or l 1 0) (same_true n (ascii ".git") z))),
      ) refl

  pub name-empty : length n ≡ 0 → is_plain n ≡ false
  name-empty e = is_false (is_plain n) (λ p. by n e (plain-parts p).0)
    where
      by : (l : List ℕ) → length l ≡ 0 → not (same_bytes l []) ≡ true → ⊥
      by [] q r = absurd (false≢true r)
      by (x ∷ xs) q r = omega arith

  pub number-bad : is_plain n ≡ false → bare_number n ≡ 6
  unfolding bare_number
  number-bad p = rw p

  pub number-slash : free_of 47 n ≡ false → bare_number n ≡ 6
  unfolding is_plain
  number-slash f = number-bad (rw f (go (not (is_reserved n))))
    where
      go : (v : Bool) → (v && false) ≡ false
      go true = refl
      go false = refl

  pub number-slashless : free_of 47 n ≡ true → bare_number n ≡ reserved_number n
  unfolding bare_number is_plain reserved_number
  number-slashless f = rw f (go (is_reserved n))
    where
      go : (v : Bool) → or_else (pick (not v && true) 0 6) (pick (is_dot_git n) 18 0) ≡ or_else (pick v 6 0) (pick (is_dot_git n) 18 0)
      go true = refl
      go false = refl

-- ---- `.git` in either case

lower-same : (b : ℕ) → to_ascii_lowercase b ≡ lower b
lower-same b =
    elim (dec_lt b 65) [
      | yes p ↦ rw (lt-leb 65 b p, lt-ltb b 65 p) refl
      | no p ↦ elim (dec_lt b 91) [
        | yes q ↦ rw (le-leb 65 b (omega arith), le-leb b 90 (omega arith), le-ltb b 65 (omega arith), lt-ltb b 91 q) refl
        | no q ↦ rw (le-leb 65 b (omega arith), lt-leb b 90 (omega arith), le-ltb b 65 (omega arith), le-ltb b 91 (omega arith)) refl
      ]
    ]

lower_all : (n : List ℕ) → map to_ascii_lowercase n ≡ map lower n
lower_all [] = refl
lower_all (b ∷ bs) = rw (lower-same b, lower_all bs) refl

-- a test that is true exactly where two lists are the same
same-told : (r : Bool) (a b : List ℕ) → (IsTrue r ↔ (a ≡ b)) → r ≡ same_bytes a b
same-told true a b t = rw (← t.0 refl) (sym (same_refl a))
same-told false a b t = sym (is_false (same_bytes a b) (λ e. false≢true (t.1 (same_true a b e))))

pub git_told : (n : List ℕ) (r : Bool) → (IsTrue r ↔ (map to_ascii_lowercase n ≡ ascii ".git")) → r ≡ is_dot_git n
unfolding is_dot_git
git_told n r t = same-told r (map lower n) (ascii ".git") (rw (lower_all n) at t)
