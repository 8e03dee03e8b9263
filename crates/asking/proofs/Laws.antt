-- Laws of what the words ask. Assumes nothing.
use Prim.Native.Nat.{ℕ}
use mathlib.Core.Path.{◌≡◌, refl, ap}
use mathlib.Core.Bool.{true, false}
use mathlib.Core.List.{List, []}
use Rattle.words.specs.Words.{word_at, says_at, id_length_of, rule_set_at}
use Rattle.words.specs.declared.Word.{Word}
use Rattle.words.specs.declared.Ids.{Ids}
use Rattle.asking.specs.declared.Asked.{Asked}
use Rattle.asking.specs.Asking.{asked_in, asked_from, asked_of}

-- no word, one, or more
module _ (s : List ℕ) (h first next : ℕ) where
  pub none-asked : says_at s first [] ≡ true → record { h = h; rules = 2; from = next } ≡ asked_in s h first next
  unfolding asked_in
  none-asked p = rw p refl

  module _ (v : Word) (f : v ≡ word_at s next) (p : says_at s first [] ≡ false) where
    pub one-asked : (k : ℕ) → says_at s next [] ≡ true → k ≡ rule_set_at s first → record { h = h; rules = k; from = v.next } ≡ asked_in s h first next
    unfolding asked_in
    one-asked k q g = rw (p, q, f, g) refl

    pub more-asked : says_at s next [] ≡ false → record { h = h; rules = 0; from = v.next } ≡ asked_in s h first next
    unfolding asked_in
    more-asked q = rw (p, q, f) refl

-- the second line is where the first word says
pub next-asked : (s : List ℕ) (h first : ℕ) (w : Word) → w ≡ word_at s first → asked_in s h first w.next ≡ asked_from s h first
next-asked s h first w e = ap (λ (x : Word). asked_in s h first x.next) e

-- the whole line
pub all_asked : (s : List ℕ) (i : Ids) (a : Asked) → i ≡ id_length_of s → a ≡ asked_from s i.h i.next → a ≡ asked_of s
unfolding asked_of
all_asked s i a e f = rw (← e) f
