-- A folded value: the test accepts exactly the folded form, and unfolding takes one space from each line but the first. Assumes nothing.
use Prim.Native.Nat.{ℕ, suc, ◌+◌, ◌-◌}
use mathlib.Core.Path.{◌≡◌, refl, ap, sym, ◌∙◌}
use mathlib.Core.Bool.{true, false, ◌&&◌, not}
use mathlib.Core.List.{List, [], ◌∷◌, ◌++◌, append-nil}
use native.Mathlib.Nat.{sub-zero}
use native.Mathlib.Omega.{arith}
use lib.ListN.{length, drop, length-append}
use lib.Seq.{take_all, drop-append-add}
use lib.Dec.{eqb, ltb}
use borrow.Author.Tests.{eqb-true, eq-eqb, ne_eqb, eqb-false, not-true, ltb-true}
use Rattle.ground.specs.Basics.{part}
use Rattle.ground.specs.Scan.{count_to, free_of}
use Rattle.ground.proofs.Laws.{and_left, and_right, count-is, count_free, free-count}
use Rattle.extra_header.specs.Extra.{fold_from, fold_end, folded_form}
use Rattle.extra_header.proofs.Laws.{form-is}
use Rattle.unfold.specs.Unfold.{plain_from, plain_of}
use Rattle.grammar.specs.Grammar.{folded_lines, plain_lines, OneLines, FoldedForm}
use Rattle.grammar.proofs.Laws.{part_length}
use Rattle.commit_grammar.specs.Claims.{FoldedExactly, UnfoldsToLines}
use Rattle.commit_grammar.proofs.Pieces.{cut-part}
use Rattle.commit_grammar.proofs.Folded.{Folds, folds_read, folds_some, folds_stand}
use Rattle.commit_grammar.proofs.Headers.{lines-some}

-- what the test accepts is folded
folded-form : (v : List ℕ) → folded_form v ≡ true → FoldedForm v
unfolding folded_form
folded-form v e =
    let n = count_to 10 v in
    let end = fold_end v (n + 1) in
    let ab = and_left (ltb n (length v) && ltb (n + 1) end) (eqb end (length v)) e in
    let a = ltb-true n (length v) (and_left (ltb n (length v)) (ltb (n + 1) end) ab) in
    let b = ltb-true (n + 1) end (and_right (ltb n (length v)) (ltb (n + 1) end) ab) in
    let c : end ≡ length v = eqb-true end (length v) (and_right (ltb n (length v) && ltb (n + 1) end) (eqb end (length v)) e) in
    let f : Folds (part (n + 1) (length v) v) = rw c at (folds_read v (n + 1) (omega arith) b) in
    let all : part 0 (length v) v ≡ v = take_all (length v - 0) v (omega arith) in
    let w : v ≡ part 0 n v ++ 10 ∷ part (n + 1) (length v) v = sym all ∙ (rw (count-is 10 v a) at (cut-part v 0 n (length v) (omega arith) a (omega arith))) in
    record {
      first = part 0 n v;
      more = f.more;
      whole = w ∙ ap (λ (l : List ℕ). part 0 n v ++ 10 ∷ l) f.whole;
      one_line = rw (sub-zero n) (free-count 10 v);
      one_lines = f.one_lines;
      some = folds_some (part (n + 1) (length v) v) f (omega (arith, part_length v (n + 1) (length v) (omega arith) (omega arith)));
    }

-- what is folded is accepted
form_folded : (v : List ℕ) → FoldedForm v → folded_form v ≡ true
unfolding fold_end
form_folded v f =
    let a = f.first in
    let ls = folded_lines f.more in
    let n : length a ≡ count_to 10 v = sym (ap (count_to 10) f.whole ∙ count_free 10 a ls f.one_line) in
    let long : length v ≡ length a + suc (length ls) = ap length f.whole ∙ length-append a (10 ∷ ls) in
    let rest : drop (length a + 1) v ≡ ls ++ [] = ap (drop (length a + 1)) f.whole ∙ drop-append-add a (10 ∷ ls) 1 ∙ sym (append-nil ls) in
    let end : fold_end v (length a + 1) ≡ length a + 1 + length ls =
    ap (fold_from false (length a + 1) (length a + 1)) rest
    ∙ folds_stand (length a + 1) (length a + 1) f.more [] f.one_lines (λ z. omega arith) in
    form-is v (length a) n (omega (arith, long)) (length a + 1 + length ls) (sym end) (omega (arith, lines-some f.more f.some))
    ∙ eq-eqb (length a + 1 + length ls) (length v) (omega (arith, long))

-- the test and the form are one
pub folded_exactly : FoldedExactly
folded_exactly v = (folded-form v, form_folded v)

-- ---- unfolding

-- a line is kept, up to its LF, where it is not just after one
keeps_line : (prev : ℕ) (l r : List ℕ) → (prev ≡ 10 → ⊥) → free_of 10 l ≡ true → plain_from 1 prev (l ++ 10 ∷ r) ≡ l ++ 10 ∷ plain_from 1 10 r
unfolding plain_from
keeps_line prev [] r n f = rw (ne_eqb prev 10 n)
keeps_line prev (b ∷ l) r n f =
    let k = eqb-false b 10 (not-true (eqb b 10) (and_left (not (eqb b 10)) (free_of 10 l) f)) in
    rw (ne_eqb prev 10 n) (ap (λ (t : List ℕ). b ∷ t) (keeps_line b l r k (and_right (not (eqb b 10)) (free_of 10 l) f)))

-- after an LF each line loses its space
lines-plain : (ls : List (List ℕ)) → OneLines ls → plain_from 1 10 (folded_lines ls) ≡ plain_lines ls
unfolding plain_from folded_lines plain_lines
lines-plain [] f = refl
lines-plain (l ∷ ls) f = keeps_line 32 l (folded_lines ls) (λ z. omega arith) f.0 ∙ ap (λ (t : List ℕ). l ++ 10 ∷ t) (lines-plain ls f.1)

-- a folded value unfolds to its lines, one space less for each but the first, the last LF kept
pub unfolds_to_lines : UnfoldsToLines
unfolding plain_of
unfolds_to_lines v f =
    ap (plain_from 1 0) f.whole ∙ keeps_line 0 f.first (folded_lines f.more) (λ z. omega arith) f.one_line
    ∙ ap (λ (t : List ℕ). f.first ++ 10 ∷ t) (lines-plain f.more f.one_lines)
