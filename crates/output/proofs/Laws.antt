-- Laws of runs of stores and of the answers of writers, which every writer cites. Assumes nothing.
use Prim.Native.Nat.{ℕ, zero, suc, ◌+◌, ◌-◌, ◌<◌, ◌≤◌, min}
use native.Mathlib.Decide.{dec_lt}
use native.Mathlib.Numerals.{add-one}
use native.Mathlib.Omega.{arith}
use mathlib.Core.Path.{◌≡◌, refl, ap, sym, ◌∙◌}
use mathlib.Core.Bool.{Bool, true, false, ◌&&◌}
use mathlib.Core.List.{List, [], ◌∷◌, ◌++◌}
use mathlib.Core.Logic.{⊎_elim}
use lib.Dec.{eqb, ltb}
use lib.ListN.{length, get_or, take, drop, set, length-set, drop_of_length-le}
use lib.Seq.{sets, drop-cons, length-sets, length-take-le, set_out, take_all, get_or-take}
use borrow.Author.Tests.{eq-eqb, ne_eqb, lt-ltb, le-ltb, eqb-false, ltb-false}
use Rattle.ground.specs.Basics.{pick}
use Rattle.ground.specs.Verdict.{verdict, refused, stored, gate_of}
use Rattle.ground.proofs.Laws.{gate_shut, stored-done, stored_refused, sets_append, sets_front}
use Rattle.ground.specs.declared.Verdict.{Verdict}
use Rattle.ground.specs.declared.Answer.{Answer}
use Rattle.output.specs.Output.{fitted, gated}
use Rattle.std.specs.Prelude.{Err, Ok, Result, ⊤}

-- ---- a run of stores

-- a piece and one byte after it
pub sets-ended : (l : List ℕ) (at : ℕ) (p : List ℕ) (x : ℕ) → sets l at (p ++ x ∷ []) ≡ set (sets l at p) (at + length p) x
sets-ended l at p x = sets_append l at p (x ∷ [])

-- from one byte of a piece to the next
pub sets_more : (l piece : List ℕ) (at k : ℕ) → k < length piece → sets l (at + k) (drop k piece) ≡ sets (set l (at + k) (get_or piece k 0)) (at + (k + 1)) (drop (k + 1) piece)
sets_more l piece at k h =
    let e : at + (k + 1) ≡ suc (at + k) = omega arith in
    rw (e, add-one k, drop-cons piece k 0 h)

-- nothing is left of the piece
pub sets-none : (l piece : List ℕ) (at k : ℕ) → length piece ≤ k → sets l at (drop k piece) ≡ l
sets-none l piece at k h = rw (drop_of_length-le piece {i = k} h)

-- from one byte to the next of so much of a piece
pub sets-turn : (l piece : List ℕ) (at n k : ℕ) → k < n → n ≤ length piece
    → sets l (at + k) (drop k (take n piece)) ≡ sets (set l (at + k) (get_or piece k 0)) (at + (k + 1)) (drop (k + 1) (take n piece))
sets-turn l piece at n k h m =
    let inside : k < length (take n piece) = rw (length-take-le n piece m) h in
    sets_more l (take n piece) at k inside ∙ rw (get_or-take n piece k 0 h) refl

-- past the end nothing is stored
pub sets-past : (l : List ℕ) (at : ℕ) (p : List ℕ) → length l ≤ at → sets l at p ≡ l
sets-past l at [] h = refl
sets-past l at (x ∷ p) h = rw (set_out l at x h) (sets-past l (suc at) p (omega arith))

-- so a piece may be cut where the output ends
sets-cut : (l : List ℕ) (at n : ℕ) (p : List ℕ) → length l ≤ at + n → sets l at (take n p) ≡ sets l at p
sets-cut l at zero p h = sym (sets-past l at p (omega arith))
sets-cut l at (suc n) [] h = refl
sets-cut l at (suc n) (x ∷ p) h = sets-cut (set l at x) (suc at) n p (simp length-set (omega arith))

-- a piece stores as much of itself as has room
pub sets_fitting : (l : List ℕ) (at : ℕ) (p : List ℕ) → sets l at (take (min (length p) (length l - at)) p) ≡ sets l at p
sets_fitting l at p =
    elim (dec_lt (length p) (length l - at)) [
      | yes h ↦ ap (sets l at) (take_all (min (length p) (length l - at)) p (omega arith))
      | no h ↦ sets-cut l at (min (length p) (length l - at)) p (omega arith)
    ]

-- the byte after a piece that leaves no room for it is not stored
pub ended-past : (l : List ℕ) (at : ℕ) (p : List ℕ) (x : ℕ) → length l ≤ at + length p → sets l at (p ++ x ∷ []) ≡ sets l at p
ended-past l at p x h = sets-ended l at p x ∙ set_out (sets l at p) (at + length p) x (rw (length-sets l at p) h)

-- ---- too little room

module _ (room : ℕ) (a : Answer) where
  pub fitted-bad : (a.verdict.number ≡ 0 → ⊥) → fitted room a ≡ a
  unfolding fitted
  fitted-bad z = simp (ne_eqb a.verdict.number 0 z)

  pub fitted_short : a.verdict.number ≡ 0 → room < a.count → fitted room a ≡ refused (verdict 8 a.count)
  unfolding fitted
  fitted_short z p = simp (eq-eqb a.verdict.number 0 z, lt-ltb room a.count p)

  pub fitted-fine : a.verdict.number ≡ 0 → a.count ≤ room → fitted room a ≡ a
  unfolding fitted
  fitted-fine z p = simp (eq-eqb a.verdict.number 0 z, le-ltb room a.count p)

  -- an answer that is done was done before, and has room
  pub fitted-done : (fitted room a).verdict.number ≡ 0 → (a.verdict.number ≡ 0) × (a.count ≤ room) × (fitted room a ≡ a)
  unfolding fitted
  fitted-done = go (eqb a.verdict.number 0) refl (ltb room a.count) refl
    where
      go : (u : Bool) → eqb a.verdict.number 0 ≡ u → (v : Bool) → ltb room a.count ≡ v → (pick (u && v) (refused (verdict 8 a.count)) a).verdict.number ≡ 0
          → (a.verdict.number ≡ 0) × (a.count ≤ room) × (pick (u && v) (refused (verdict 8 a.count)) a ≡ a)
      go true q true p z = absurd (omega arith)
      go true q false p z = (z, ltb-false room a.count p, refl)
      go false q v p z = absurd (eqb-false a.verdict.number 0 q z)

-- ---- the answer and the output afterwards

-- both promises of a writer that refuses
pub refused-both : {a : Answer} (r : Answer) (l out : List ℕ) → a ≡ r → (r.verdict.number ≡ 0 → ⊥) → (r ≡ a) × (out ≡ stored a.verdict l out)
refused-both {a} r l out e z = (sym e, sym (stored_refused a.verdict l out (λ q. z (sym (ap (λ (x : Answer). x.verdict.number) e) ∙ q))))

-- both promises of a writer that has written all of it at the front
pub done-both : {a : Answer} (r : Answer) (l out after : List ℕ) → a ≡ r → r.verdict.number ≡ 0 → after ≡ sets out 0 l → length l ≤ length out
    → (r ≡ a) × (after ≡ stored a.verdict l out)
done-both {a} r l out after e z f p = (sym e, f ∙ sets_front out l p ∙ sym (stored-done a.verdict l out (ap (λ (x : Answer). x.verdict.number) e ∙ z)))

-- the same of a writer that measures, asks for room, and writes what it measured
pub fitted-both : {a : Answer} (r m : Answer) (l out after : List ℕ) → a ≡ r → r ≡ fitted (length out) m → r.verdict.number ≡ 0
    → (m.verdict.number ≡ 0 → m.count ≡ length l) → after ≡ sets out 0 l → (r ≡ a) × (after ≡ stored a.verdict l out)
fitted-both r m l out after e f z n s =
    let d = fitted-done (length out) m (sym (ap (λ (x : Answer). x.verdict.number) f) ∙ z) in
    done-both r l out after e z s (omega (arith, n d.0))

-- ---- the gate

-- a gate that is shut refuses
pub shut-refuses : (h bytes records : ℕ) (v : Verdict) → gate_of h bytes records ≡ Err v → v.number ≡ 0 → ⊥
shut-refuses h bytes records v e z =
    ⊎_elim (λ q. omega (arith, ap (λ (x : Verdict). x.number) q)) (λ q. omega (arith, ap (λ (x : Verdict). x.number) q)) (gate_shut h bytes records v e)

pub gated-shut : (g : Result ⊤ Verdict) (v : Verdict) (a : Answer) → g ≡ Err v → gated g a ≡ refused v
unfolding gated
gated-shut g v a e = rw e

pub gated_open : (g : Result ⊤ Verdict) (a : Answer) → g ≡ Ok tt → gated g a ≡ a
unfolding gated
gated_open g a e = rw e

-- a call that is done began
pub gated-done : (h bytes records : ℕ) (a : Answer) → (gated (gate_of h bytes records) a).verdict.number ≡ 0 → gate_of h bytes records ≡ Ok tt
unfolding gated
gated-done h bytes records a = go (gate_of h bytes records) refl
  where
    go : (g : Result ⊤ Verdict) → gate_of h bytes records ≡ g → (gated g a).verdict.number ≡ 0 → g ≡ Ok tt
    go (Ok tt) e z = refl
    go (Err v) e z = absurd (shut-refuses h bytes records v e z)
