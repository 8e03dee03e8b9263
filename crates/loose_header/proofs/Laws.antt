-- Laws of `specs/Header.antt`. Assumes nothing.
use native.Mathlib.Omega.{arith}
use Prim.Native.Nat.{ℕ, zero, suc, ◌+◌, ◌-◌, ◌≤◌}
use mathlib.Core.Path.{◌≡◌, refl, ap, sym, ◌∙◌}
use mathlib.Core.Bool.{true, false, ◌&&◌}
use mathlib.Core.List.{List, [], ◌∷◌, ◌++◌}
use lib.Dec.{leb}
use lib.ListN.{length, take, drop, length-append, length-drop}
use lib.Seq.{sets, append_snoc}
use borrow.Author.Tests.{le-leb, lt-leb}
use Rattle.ground.specs.Verdict.{verdict, counted, refused}
use Rattle.ground.proofs.Laws.{sets_append, part-from}
use Rattle.output.specs.Output.{fitted}
use Rattle.loose_header.specs.Header.{kind_word, decimal, loose_header, header_answer}
use Rattle.loose_header.proofs.Digits.{decimal-most}

-- ---- the word of a kind

-- a number that is none of the four has no word
pub word_none : (k : ℕ) → (k ≡ 1 → ⊥) → (k ≡ 2 → ⊥) → (k ≡ 3 → ⊥) → (k ≡ 4 → ⊥) → kind_word k ≡ []
unfolding kind_word
word_none zero a b c d = refl
word_none (suc zero) a b c d = absurd (a refl)
word_none (suc (suc zero)) a b c d = absurd (b refl)
word_none (suc (suc (suc zero))) a b c d = absurd (c refl)
word_none (suc (suc (suc (suc zero)))) a b c d = absurd (d refl)
word_none (suc (suc (suc (suc (suc k))))) a b c d = refl

-- a word has at most six letters, and the kinds are the numbers with a word
words : (k : ℕ) → (length (kind_word k) ≤ 6) × ((length (kind_word k) ≡ 0 → ⊥) → (leb 1 k && leb k 4) ≡ true) × (length (kind_word k) ≡ 0 → (leb 1 k && leb k 4) ≡ false)
unfolding kind_word
words zero = (omega arith, (λ z. absurd (z refl)), (λ z. refl))
words (suc zero) = (omega arith, (λ z. refl), (λ z. absurd (omega arith)))
words (suc (suc zero)) = (omega arith, (λ z. refl), (λ z. absurd (omega arith)))
words (suc (suc (suc zero))) = (omega arith, (λ z. refl), (λ z. absurd (omega arith)))
words (suc (suc (suc (suc zero)))) = (omega arith, (λ z. refl), (λ z. absurd (omega arith)))
words (suc (suc (suc (suc (suc k))))) =
    (omega arith, (λ z. absurd (z refl)), (λ z. simp (le-leb 1 (suc (suc (suc (suc (suc k))))) (omega arith), lt-leb (suc (suc (suc (suc (suc k))))) 4 (omega arith))))

pub word-most : (k : ℕ) → length (kind_word k) ≤ 6
word-most k = (words k).0

-- ---- the header

pub header-length : (kind size : ℕ) → length (loose_header kind size) ≡ length (kind_word kind) + 1 + length (decimal size) + 1
unfolding loose_header
header-length kind size = simp length-append (omega arith)

-- at most 28 bytes
pub header-most : (kind size : ℕ) → length (loose_header kind size) ≤ 28
header-most kind size = omega (arith, header-length kind size, word-most kind, decimal-most size)

module _ (kind size room : ℕ) where
  pub header_other : length (kind_word kind) ≡ 0 → header_answer kind size room ≡ refused (verdict 23 0)
  unfolding header_answer
  header_other z = rw ((words kind).2 z)

  pub header-kind : (length (kind_word kind) ≡ 0 → ⊥) → (n : ℕ) → length (loose_header kind size) ≡ n → header_answer kind size room ≡ fitted room (counted n)
  unfolding header_answer
  header-kind z n e = rw ((words kind).1 z, e)

-- its length, by the lengths of the texts it is written from
pub header_need : (kind size len at : ℕ) (text : List ℕ) → len ≡ length (kind_word kind) → length text ≡ 20 → drop at text ≡ decimal size
    → length (loose_header kind size) ≡ len + 1 + (20 - at) + 1
header_need kind size len at text p q e =
    let l : length (decimal size) ≡ 20 - at = rw (← e, length-drop at text, q) refl in
    omega (arith, header-length kind size)

-- the digits that stand at the end of a text
pub digits-part : (size at : ℕ) (text : List ℕ) → length text ≡ 20 → drop at text ≡ decimal size → take (20 - at) (drop at text) ≡ decimal size
digits-part size at text q e = rw (← q) (part-from text at ∙ e)

-- written in two pieces
pub header-stored : (out before after word text : List ℕ) (kind size next : ℕ) → word ≡ kind_word kind → text ≡ decimal size → next ≡ length (kind_word kind) + 1
    → before ≡ sets out 0 (word ++ 32 ∷ []) → after ≡ sets before next (text ++ 0 ∷ []) → after ≡ sets out 0 (loose_header kind size)
unfolding loose_header
header-stored out before after word text kind size next p q n x y =
    let w : List ℕ = kind_word kind in
    let d : List ℕ = decimal size in
    let e : next ≡ 0 + length (w ++ 32 ∷ []) = simp length-append (omega arith) in
    y ∙ rw (x, p, q, e) (sym (sets_append out 0 (w ++ 32 ∷ []) (d ++ 0 ∷ [])) ∙ ap (sets out 0) (append_snoc w 32 (d ++ 0 ∷ [])))
