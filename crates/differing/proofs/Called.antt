-- Exactly what differs is found in every store, and by the call. Assumes nothing.
use Prim.Native.Nat.{ℕ, max}
use mathlib.Core.Bool.{Bool, true, false, ◌&&◌}
use mathlib.Core.Path.{◌≡◌, refl, ap, sym, ◌∙◌}
use mathlib.Core.List.{List, [], Memᴰ}
use mathlib.Core.Logic.{◌↔◌}
use native.Mathlib.Omega.{arith}
use borrow.Author.Tests.{eqb-true, eqb-false}
use lib.Dec.{eqb, leb}
use lib.ListN.{length}
use Rattle.ground.specs.Basics.{pick}
use Rattle.ground.specs.Verdict.{verdict, counted, refused, size_gate, most_bytes, most_records}
use Rattle.ground.specs.declared.Answer.{Answer}
use Rattle.ground.proofs.Laws.{stored-done}
use Rattle.frame.specs.Frame.{head_of, frames_by, whole}
use Rattle.frame.specs.declared.Header.{Header}
use Rattle.twice.specs.Ids.{ids_in, repeats}
use Rattle.bundle.specs.Bundle.{open_by, open_from, open_of}
use Rattle.item.specs.Items.{Item, folder_of}
use Rattle.walk.specs.Walk.{Out, Done}
use Rattle.walk.specs.Walk.{levels}
use Rattle.walk.specs.Lent.{numbers_of, paths_of, items_in, fitted}
use Rattle.difference.specs.Whole.{store_of, folders_of, differences, roots_of, walked, gated, found}
use Rattle.difference.specs.Whole.{answer, items_after, paths_after}
use Rattle.differing.specs.Exactly.{Differing, StoreExactly, CompareRun, CallExactly}
use Rattle.differing.proofs.Stores.{store_ascending}
use Rattle.differing.proofs.Exact.{exactly}
use Rattle.ground.specs.declared.Verdict.{Verdict}
use Rattle.std.specs.Prelude.{Err, None, Ok, Option, Result, Some}

pub store_exactly : StoreExactly
store_exactly k h store d prefix a b n g x = exactly (folder_of k h store) (store_ascending k h store) d prefix a b n g x

-- ---- the call

-- a bundle that stays shut has a number
abbrev Fair : Result Header Verdict → Type 0
Fair (Ok k) = Unit {0}
Fair (Err v) = v.number ≡ 0 → ⊥

fair_by : (s : List ℕ) (n : ℕ) (d : Option Header) → Fair (open_by s n d)
unfolding open_by
fair_by s n (Some k) = cases (eqb n k.h) (whole (frames_by s k)) (repeats (ids_in k.h s (frames_by s k)))
  where
    cases : (t u v : Bool) → Fair (pick t (pick u (pick v (Err (verdict 25 0)) (Ok k)) (Err (verdict 24 0))) (Err (verdict 24 0)))
    cases true true true = λ h. omega arith
    cases true true false = tt
    cases true false v = λ h. omega arith
    cases false u v = λ h. omega arith
fair_by s n None = λ h. omega arith

fair_open : (s : List ℕ) (n : ℕ) → Fair (open_of s n)
unfolding open_from size_gate
fair_open s n = cases (leb (length s) most_bytes && leb 0 most_records)
  where
    cases : (t : Bool) → Fair (open_from s n (pick t (Ok tt) (Err (verdict 2 0))))
    cases true = fair_by s n (head_of s)
    cases false = λ h. omega arith

-- an answer without refusal is that of a walk without refusal, and counts its items
fitted-done : (room bytes : ℕ) (o : Out) → (fitted room bytes o).verdict.number ≡ 0 → Done o × (fitted room bytes o ≡ counted (length o.items))
unfolding fitted
fitted-done room bytes o = cases (eqb o.verdict.number 0) (leb (length o.items) room) (leb (length (paths_of o.items)) bytes) refl
  where
    Answered : Bool → Bool → Bool → Answer
    Answered t u v =
        pick t
        (pick u (pick v (counted (length o.items)) (refused (verdict 8 (length (paths_of o.items))))) (refused (verdict 4 (length o.items))))
        (refused o.verdict)

    cases : (t u v : Bool) → eqb o.verdict.number 0 ≡ t → (Answered t u v).verdict.number ≡ 0 → Done o × (Answered t u v ≡ counted (length o.items))
    cases true true true e h = (eqb-true o.verdict.number 0 e, refl)
    cases true true false e h = absurd (omega arith)
    cases true false v e h = absurd (omega arith)
    cases false u v e h = absurd (eqb-false o.verdict.number 0 e h)

module _ (s left right : List ℕ) where
  abbrev Told : Out → Type 0
  Told o = (k : Header) × (open_of s (length left) ≡ Ok k) × ((x : Item) → Memᴰ x o.items ↔ Differing (folders_of k s) [] left right x)

  by_opening : (o : Result Header Verdict) → open_of s (length left) ≡ o → Fair o → Done (walked s left right o) → Told (walked s left right o)
  unfolding walked differences
  by_opening (Err v) e f h = absurd (f h)
  by_opening (Ok k) e f h = (k, e, λ x. store_exactly k.rules k.h (store_of s) levels [] left right 0 h x)

  by-roots : (t : Bool) → Done (walked s left right (pick t (open_of s (length left)) (Err (verdict 24 0))))
      → Told (walked s left right (pick t (open_of s (length left)) (Err (verdict 24 0))))
  unfolding walked
  by-roots true h = by_opening (open_of s (length left)) refl (fair_open s (length left)) h
  by-roots false h = absurd (omega arith)

  by-gate : (t : Bool) → Done (gated s left right (pick t (Ok tt) (Err (verdict 2 0))))
      → Told (gated s left right (pick t (Ok tt) (Err (verdict 2 0))))
  unfolding gated roots_of
  by-gate true h = by-roots (eqb (length left) (length right)) h
  by-gate false h = absurd (omega arith)

found_exactly : (s left right : List ℕ) (bytes room : ℕ) → Done (found s left right bytes room) → Told s left right (found s left right bytes room)
unfolding found size_gate
found_exactly s left right bytes room h =
    by-gate s left right (leb (max (max (length s) bytes) (max (length left) (length right))) most_bytes && leb room most_records) h

run_is : (s left right items paths : List ℕ) (r : Answer) (items' paths' : List ℕ) → CompareRun s left right items paths r items' paths'
    → (r ≡ answer s left right (length paths) (items_in (length items)))
    × ((items' ≡ items_after s left right (length paths) items) × (paths' ≡ paths_after s left right paths (items_in (length items))))
run_is s left right items paths r items' paths' c =
    rw (← c.first, ← c.second, ← c.third, ← c.fourth, ← c.fifth, ← c.items_left, ← c.paths_left) c.kept

answer-is : (s left right : List ℕ) (bytes room : ℕ) → answer s left right bytes room ≡ fitted room bytes (found s left right bytes room)
unfolding answer
answer-is s left right bytes room = refl

pub call_exactly : CallExactly
call_exactly s left right items paths r items' paths' c h =
    let e = run_is s left right items paths r items' paths' c in
    let z : (answer s left right bytes room).verdict.number ≡ 0 = sym (ap (λ (a : Answer). a.verdict.number) e.0) ∙ h in
    let i : answer s left right bytes room ≡ fitted room bytes o = answer-is s left right bytes room in
    let d = fitted-done room bytes o (sym (ap (λ (a : Answer). a.verdict.number) i) ∙ z) in
    let t = found_exactly s left right bytes room d.0 in
    record {
      header = t.0;
      opens = t.1;
      list = o.items;
      exact = t.2;
      count = e.0 ∙ i ∙ d.1;
      numbers = e.1.0 ∙ stored-done (answer s left right bytes room).verdict (numbers_of 0 o.items) items z;
      names = e.1.1 ∙ stored-done (answer s left right bytes room).verdict (paths_of o.items) paths z;
    }
  where
    bytes : ℕ
    bytes = length paths

    room : ℕ
    room = items_in (length items)

    o : Out
    o = found s left right bytes room
