-- The ways through an entry that is finished; with the next byte one further it is the check's own. Assumes nothing.
use Prim.Native.Nat.{ℕ, zero, suc, ◌+◌, min}
use mathlib.Core.Path.{◌≡◌, refl, ap, sym, ◌∙◌}
use mathlib.Core.Bool.{Bool}
use mathlib.Core.List.{List, [], ◌∷◌}
use lib.Dec.{ltb}
use lib.ListN.{length}
use Rattle.ground.specs.Basics.{pick}
use Rattle.ground.specs.Verdict.{verdict, most_records}
use Rattle.doubles.specs.Stack.{marks_at, open_of}
use Rattle.arriving.specs.Feed.{refuse, leaves_none, placing, ends_next, placed, closed, closed_ends}
use Rattle.arriving.specs.declared.Line.{Line}
use Rattle.arriving.specs.declared.Phase.TheVariants.{Head}
use Rattle.arriving.specs.declared.Marks.{Marks}
use Rattle.arriving.proofs.Laws.{Closes}
use Rattle.piece_close.specs.Closing.{next_at, placed_by, closed_at}
use Rattle.doubles.specs.declared.Misplaced.{Misplaced}
use Rattle.doubles.specs.declared.Misplaced.TheVariants.{Double, NotAfter}
use Rattle.std.specs.Prelude.{Err, Ok, Result}

pub next-is : (m : Marks) (at : ℕ) (l : Line) (k count : ℕ) → count ≡ pick (ltb m.count most_records) (m.count + 1) m.count
    → record {
      verdict = m.verdict;
      h = m.h;
      rules = m.rules;
      at = at;
      first = at;
      count = count;
      last = record { size = l.size; folder = l.folder };
      ended = k;
      head = 0 ∷ 0 ∷ 0 ∷ 0 ∷ 0 ∷ 0 ∷ 0 ∷ 0 ∷ [];
      phase = Head 0;
    }
    ≡ next_at m at l k
next-is m at l k count e = rw e

module _ (m : Marks) (at : ℕ) (l : Line) (p : Result ℕ Misplaced) where
  pub placed-fine : (n : ℕ) → p ≡ Ok n → {r : Marks} → r ≡ next_at m at l n → r ≡ placed_by m at l p
  unfolding placed_by
  placed-fine n e q = q ∙ sym (ap (placed_by m at l) e)

  pub placed_double : p ≡ Err Double → {r : Marks} → r ≡ refuse m (verdict 17 m.first) → r ≡ placed_by m at l p
  unfolding placed_by
  placed_double e q = q ∙ sym (ap (placed_by m at l) e)

  pub placed-not : p ≡ Err NotAfter → {r : Marks} → r ≡ refuse m (verdict 7 m.first) → r ≡ placed_by m at l p
  unfolding placed_by
  placed-not e q = q ∙ sym (ap (placed_by m at l) e)

-- what is answered, and what is open then
abbrev pub ClosesAt : List ℕ → Marks → ℕ → Line → ℕ → Marks → List ℕ → Type 0
ClosesAt ends m at l n r left = (r ≡ closed_at ends m at l n) × (left ≡ closed_ends ends m l n)

module _ (ends : List ℕ) (m : Marks) (at : ℕ) (l : Line) (number n : ℕ) (j : number ≡ n) where
  pub closed-refused : (number ≡ 0 → ⊥) → {r : Marks} → r ≡ refuse m (verdict number m.first) → ClosesAt ends m at l n r ends
  unfolding closed_at closed_ends
  closed-refused f q = rw (sym j) (go number f q)
    where
      go : (i : ℕ) → (i ≡ 0 → ⊥) → {r : Marks} → r ≡ refuse m (verdict i m.first) → ClosesAt ends m at l i r ends
      go zero f q = absurd (f refl)
      go (suc i) f q = (q, refl)

  pub closed-placed : number ≡ 0 → (none : Bool) → none ≡ leaves_none m.last → (p : Result ℕ Misplaced) (after : List ℕ)
      → (p ≡ open_of ends m.ended l.shared m.last.size none l.size l.folder)
      × (after ≡ marks_at ends (min m.ended (length ends)) l.shared m.last.size none)
      → {r : Marks} → r ≡ placed_by m at l p → ClosesAt ends m at l n r after
  unfolding closed_at closed_ends
  closed-placed z none y p after e q =
      let i : 0 ≡ n = sym z ∙ j in
      let v : p ≡ placing ends m l = e.0 ∙ ap (λ (w : Bool). open_of ends m.ended l.shared m.last.size w l.size l.folder) y in
      let o : after ≡ ends_next ends m l = e.1 ∙ ap (λ (w : Bool). marks_at ends (min m.ended (length ends)) l.shared m.last.size w) y in
      (q ∙ ap (placed_by m at l) v ∙ ap (λ (k : ℕ). closed_at ends m at l k) i, o ∙ ap (λ (k : ℕ). closed_ends ends m l k) i)

placed_one : (m : Marks) (l : Line) (p : Result ℕ Misplaced) → placed_by m (m.at + 1) l p ≡ placed m l p
unfolding placed_by placed
placed_one m l (Ok n) = refl
placed_one m l (Err NotAfter) = refl
placed_one m l (Err Double) = refl

closed-one : (ends : List ℕ) (m : Marks) (l : Line) (n : ℕ) → closed_at ends m (m.at + 1) l n ≡ closed ends m l n
unfolding closed_at closed
closed-one ends m l zero = placed_one m l (placing ends m l)
closed-one ends m l (suc n) = refl

pub closes : (ends : List ℕ) (m : Marks) (l : Line) (n : ℕ) {r : Marks} {left : List ℕ} → ClosesAt ends m (m.at + 1) l n r left → Closes ends m l n r left
closes ends m l n d = (d.0 ∙ closed-one ends m l n, d.1)
