-- A value folded: what is written is a first line and lines that start with a space (`fold_shape`), for a value of lines that end with
-- an LF it is those lines (`fold_lines`), it then unfolds to the value where there are two or more (`fold_unfolds`), and a value
-- without a last LF is written as if it had one (`fold_gains`).
-- Assumes nothing.
use Prim.Native.Nat.{ℕ, ◌<◌}
use mathlib.Core.Path.{◌≡◌, refl, ap, sym, ◌∙◌}
use mathlib.Core.Bool.{Bool, true, false, not, false≢true}
use mathlib.Core.List.{List, [], ◌∷◌, ◌++◌}
use native.Mathlib.Omega.{arith}
use lib.ListN.{length, take}
use lib.Dec.{eqb}
use borrow.Author.Tests.{eq-eqb, ne_eqb, eqb-true, eqb-false, not-true}
use Rattle.ground.specs.Basics.{pick}
use Rattle.ground.specs.Scan.{count_to, free_of}
use Rattle.ground.proofs.Laws.{and_left, and_right}
use Rattle.grammar.specs.Grammar.{folded_lines, plain_lines, OneLines, FoldedForm}
use Rattle.commit_grammar.proofs.Unfolded.{unfolds_to_lines}
use Rattle.commit_value.specs.Fold.{fold_rest, fold_value}
use Rattle.commit_round.specs.Claims.{FoldUnfolds, UnfoldedFolds, FoldLine, FoldLines, FoldGains, last_of}
use Rattle.commit_round.specs.Round.{some, several_lines}

-- ---- one byte

module _ (prev : ℕ) (n : prev ≡ 10 → ⊥) where
  rest_end : fold_rest prev [] ≡ 10 ∷ []
  unfolding fold_rest
  rest_end = rw (ne_eqb prev 10 n)

  rest-on : (b : ℕ) (bs : List ℕ) → fold_rest prev (b ∷ bs) ≡ b ∷ fold_rest b bs
  unfolding fold_rest
  rest-on b bs = rw (ne_eqb prev 10 n)

rest-space : (b : ℕ) (bs : List ℕ) → fold_rest 10 (b ∷ bs) ≡ 32 ∷ b ∷ fold_rest b bs
unfolding fold_rest
rest-space b bs = refl

other : (b : ℕ) (l : List ℕ) → free_of 10 (b ∷ l) ≡ true → (b ≡ 10 → ⊥) × (free_of 10 l ≡ true)
other b l f = (eqb-false b 10 (not-true (eqb b 10) (and_left (not (eqb b 10)) (free_of 10 l) f)), and_right (not (eqb b 10)) (free_of 10 l) f)

-- ---- lines

-- a line is written as it is, up to its LF
line_fold : (prev : ℕ) (l r : List ℕ) → (prev ≡ 10 → ⊥) → free_of 10 l ≡ true → fold_rest prev (l ++ 10 ∷ r) ≡ l ++ 10 ∷ fold_rest 10 r
line_fold prev [] r n f = rest-on prev n 10 r
line_fold prev (b ∷ l) r n f = let k = other b l f in rest-on prev n b (l ++ 10 ∷ r) ∙ ap (λ (t : List ℕ). b ∷ t) (line_fold b l r k.0 k.1)

-- the last one gets an LF
last_fold : (prev : ℕ) (l : List ℕ) → (prev ≡ 10 → ⊥) → free_of 10 l ≡ true → fold_rest prev l ≡ l ++ 10 ∷ []
last_fold prev [] n f = rest_end prev n
last_fold prev (b ∷ l) n f = let k = other b l f in rest-on prev n b l ∙ ap (λ (t : List ℕ). b ∷ t) (last_fold b l k.0 k.1)

-- lines after the first get their spaces
lines_fold : (ls : List (List ℕ)) → OneLines ls → fold_rest 10 (plain_lines ls) ≡ folded_lines ls
unfolding fold_rest plain_lines folded_lines
lines_fold [] f = refl
lines_fold ([] ∷ ls) f = ap (λ (t : List ℕ). 32 ∷ 10 ∷ t) (lines_fold ls f.1)
lines_fold ((b ∷ l) ∷ ls) f =
    let k = other b l f.0 in
    ap (λ (t : List ℕ). 32 ∷ b ∷ t) (line_fold b l (plain_lines ls) k.0 k.1 ∙ ap (λ (t : List ℕ). l ++ 10 ∷ t) (lines_fold ls f.1))

-- ---- the theorems

pub fold_line : FoldLine
unfolding fold_value
fold_line v f = last_fold 0 v (λ z. omega arith) f

pub fold_lines : FoldLines
unfolding fold_value
fold_lines first more f g = line_fold 0 first (plain_lines more) (λ z. omega arith) f ∙ ap (λ (t : List ℕ). first ++ 10 ∷ t) (lines_fold more g)

pub fold_unfolds : FoldUnfolds
fold_unfolds first more f g n =
    let w : FoldedForm (fold_value (first ++ 10 ∷ plain_lines more)) =
    record { first = first; more = more; whole = fold_lines first more f g; one_line = f; one_lines = g; some = n } in
    (w, unfolds_to_lines (fold_value (first ++ 10 ∷ plain_lines more)) w)

pub unfolded_folds : UnfoldedFolds
unfolded_folds v f = ap fold_value (unfolds_to_lines v f) ∙ fold_lines f.first f.more f.one_line f.one_lines ∙ sym f.whole

gains : (prev : ℕ) (t : List ℕ) → (last_of prev t ≡ 10 → ⊥) → fold_rest prev t ≡ fold_rest prev (t ++ 10 ∷ [])
unfolding fold_rest
gains prev [] n = rw (ne_eqb prev 10 n)
gains prev (b ∷ bs) n = ap (λ (t : List ℕ). pick (eqb prev 10) (32 ∷ b ∷ t) (b ∷ t)) (gains b bs n)

pub fold_gains : FoldGains
unfolding fold_value
fold_gains v = gains 0 v

-- ---- any value

-- after an LF: lines that start with a space, some where there are bytes
pub record Later (t : List ℕ) : Type 0 where
  pub more : List (List ℕ)
  pub whole : fold_rest 10 t ≡ folded_lines more
  pub one_lines : OneLines more
  pub none : some t ≡ false → more ≡ []
  pub any : some t ≡ true → 0 < length more

-- within a line: its rest, then such lines
pub record Within (prev : ℕ) (t : List ℕ) : Type 0 where
  pub first : List ℕ
  pub more : List (List ℕ)
  pub whole : fold_rest prev t ≡ first ++ 10 ∷ folded_lines more
  pub one_line : free_of 10 first ≡ true
  pub one_lines : OneLines more
  pub none : several_lines t ≡ false → (more ≡ []) × (first ≡ take (count_to 10 t) t)
  pub any : several_lines t ≡ true → 0 < length more

-- from bytes on, prev before them, to those with one byte more in front
within_end : (prev : ℕ) → (prev ≡ 10 → ⊥) → Within prev []
unfolding folded_lines several_lines
within_end prev n =
    record { first = []; more = []; whole = rest_end prev n; one_line = refl; one_lines = tt; none = λ e. (refl, refl); any = λ e. absurd (false≢true e) }

within-lf : (prev b : ℕ) (bs : List ℕ) → (prev ≡ 10 → ⊥) → b ≡ 10 → Later bs → Within prev (b ∷ bs)
unfolding several_lines
within-lf prev b bs n e k =
    let z = eq-eqb b 10 e in
    record {
      first = [];
      more = k.more;
      whole = rest-on prev n b bs ∙ rw e (ap (λ (t : List ℕ). 10 ∷ t) k.whole);
      one_line = refl;
      one_lines = k.one_lines;
      none = λ q. (k.none (rw z at q), rw z);
      any = λ q. k.any (rw z at q);
    }

within_on : (prev b : ℕ) (bs : List ℕ) → (prev ≡ 10 → ⊥) → (b ≡ 10 → ⊥) → Within b bs → Within prev (b ∷ bs)
unfolding several_lines
within_on prev b bs n e k =
    let z = ne_eqb b 10 e in
    record {
      first = b ∷ k.first;
      more = k.more;
      whole = rest-on prev n b bs ∙ ap (λ (t : List ℕ). b ∷ t) k.whole;
      one_line = rw z k.one_line;
      one_lines = k.one_lines;
      none = λ q. let j = k.none (rw z at q) in (j.0, rw z (ap (λ (t : List ℕ). b ∷ t) j.1));
      any = λ q. k.any (rw z at q);
    }

later_end : Later []
unfolding fold_rest folded_lines
later_end = record { more = []; whole = refl; one_lines = tt; none = λ e. refl; any = λ e. absurd (false≢true e) }

later-lf : (b : ℕ) (bs : List ℕ) → b ≡ 10 → Later bs → Later (b ∷ bs)
unfolding folded_lines
later-lf b bs e k =
    record {
      more = [] ∷ k.more;
      whole = rest-space b bs ∙ rw e (ap (λ (t : List ℕ). 32 ∷ 10 ∷ t) k.whole);
      one_lines = (refl, k.one_lines);
      none = λ q. absurd (false≢true (sym q));
      any = λ q. omega arith;
    }

later_on : (b : ℕ) (bs : List ℕ) → (b ≡ 10 → ⊥) → Within b bs → Later (b ∷ bs)
unfolding folded_lines
later_on b bs e k =
    record {
      more = (b ∷ k.first) ∷ k.more;
      whole = rest-space b bs ∙ ap (λ (t : List ℕ). 32 ∷ b ∷ t) k.whole;
      one_lines = (rw (ne_eqb b 10 e) k.one_line, k.one_lines);
      none = λ q. absurd (false≢true (sym q));
      any = λ q. omega arith;
    }

both : (t : List ℕ) → Later t × ((prev : ℕ) → (prev ≡ 10 → ⊥) → Within prev t)
both [] = (later_end, within_end)
both (b ∷ bs) = go (both bs) (eqb b 10) refl
  where
    go : Later bs × ((prev : ℕ) → (prev ≡ 10 → ⊥) → Within prev bs) → (v : Bool) → eqb b 10 ≡ v
        → Later (b ∷ bs) × ((prev : ℕ) → (prev ≡ 10 → ⊥) → Within prev (b ∷ bs))
    go k true e = let q = eqb-true b 10 e in (later-lf b bs q k.0, λ prev n. within-lf prev b bs n q k.0)
    go k false e = let q = eqb-false b 10 e in (later_on b bs q (k.1 b q), λ prev n. within_on prev b bs n q (k.1 b q))

-- whatever the value, a first line and lines that start with a space are written
pub fold_shape : (v : List ℕ) → Within 0 v
fold_shape v = (both v).1 0 (λ z. omega arith)
