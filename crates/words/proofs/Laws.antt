-- Laws of the words of a command line. Assumes nothing.
use Prim.Native.Nat.{ℕ, ◌+◌, ◌≤◌, ◌<◌, ◌-◌, min}
use mathlib.Core.Path.{◌≡◌, refl, ap, ◌∙◌}
use mathlib.Core.Bool.{true, false}
use mathlib.Core.List.{List}
use native.Mathlib.Omega.{arith}
use lib.ListN.{length, take, drop}
use Rattle.ground.specs.Basics.{ascii}
use Rattle.ground.specs.Scan.{place_from}
use Rattle.ground.proofs.Laws.{place-from, place-within}
use Rattle.words.specs.declared.Word.{Word}
use Rattle.words.specs.Words.{word_at, text_at, says_at, id_length_of, rule_set_at}

-- a word, given its three numbers
abbrev word : ℕ → ℕ → ℕ → Word
word a b c = record { start = a; end = b; next = c }

-- two words of the same three numbers
same_word : (a b c d e f : ℕ) → a ≡ d → b ≡ e → c ≡ f → word a b c ≡ word d e f
same_word a b c d e f p q r = rw (p, q, r) refl

-- a line with its LF, and one that the end of the bytes ends
module _ (s : List ℕ) (at a b : ℕ) (e : a ≡ min at (length s)) (f : b ≡ place_from 10 s a) where
  pub word-lf : b < length s → word a b (b + 1) ≡ word_at s at
  unfolding word_at
  word-lf h = same_word a b _ _ _ _ e (f ∙ ap (place_from 10 s) e) (omega (arith, ap (place_from 10 s) e))

  pub word-last : length s ≤ b → word a b b ≡ word_at s at
  unfolding word_at
  word-last h = same_word a b _ _ _ _ e (f ∙ ap (place_from 10 s) e) (omega (arith, ap (place_from 10 s) e, place-within 10 s a (omega arith)))

-- start, end and next never fall, and none is past the end of the bytes
pub word-runs : (s : List ℕ) (at : ℕ) → (word_at s at).start ≤ (word_at s at).end
unfolding word_at
word-runs s at = place-from 10 s (min at (length s))

pub word-inside : (s : List ℕ) (at : ℕ) → (word_at s at).end ≤ length s
unfolding word_at
word-inside s at = place-within 10 s (min at (length s)) (omega arith)

pub word_next : (s : List ℕ) (at : ℕ) → ((word_at s at).end ≤ (word_at s at).next) × ((word_at s at).next ≤ length s)
unfolding word_at
word_next s at = omega (arith, place-within 10 s (min at (length s)) (omega arith))

-- the same of a word that was answered, and its bytes
module _ (s : List ℕ) (at : ℕ) (w : Word) (e : w ≡ word_at s at) where
  pub runs : w.start ≤ w.end
  runs = rw e (word-runs s at)

  pub inside : w.end ≤ length s
  inside = rw e (word-inside s at)

  pub text-is : take (w.end - w.start) (drop w.start s) ≡ text_at s at
  unfolding text_at
  text-is = rw e refl

-- the first word is `sha256`, or not
pub ids_long : (s : List ℕ) (w : Word) → says_at s 0 (ascii "sha256") ≡ true → w ≡ word_at s 0 → record { h = 32; next = w.next } ≡ id_length_of s
unfolding id_length_of
ids_long s w e f = rw (e, f) refl

pub ids_short : (s : List ℕ) → says_at s 0 (ascii "sha256") ≡ false → record { h = 20; next = 0 } ≡ id_length_of s
unfolding id_length_of
ids_short s e = rw e refl

-- the word is `1`, `2`, or another
module _ (s : List ℕ) (at : ℕ) where
  pub set-one : says_at s at (ascii "1") ≡ true → rule_set_at s at ≡ 1
  unfolding rule_set_at
  set-one e = rw e refl

  pub set-two : says_at s at (ascii "1") ≡ false → says_at s at (ascii "2") ≡ true → rule_set_at s at ≡ 2
  unfolding rule_set_at
  set-two e f = rw (e, f) refl

  pub set-none : says_at s at (ascii "1") ≡ false → says_at s at (ascii "2") ≡ false → rule_set_at s at ≡ 0
  unfolding rule_set_at
  set-none e f = rw (e, f) refl
