-- From the gate to the walk. Assumes nothing.
use Prim.Native.Nat.{ℕ, ◌≤◌, max}
use mathlib.Core.Bool.{Bool, true, false, ◌&&◌}
use mathlib.Core.Path.{◌≡◌, ap, sym, ◌∙◌}
use mathlib.Core.List.{List}
use native.Mathlib.Omega.{arith}
use lib.Dec.{leb}
use lib.ListN.{length}
use Rattle.ground.specs.Basics.{pick}
use Rattle.ground.specs.Verdict.{verdict, refused, size_gate, most_bytes, most_records}
use Rattle.ground.specs.declared.Verdict.{Verdict}
use Rattle.ground.specs.declared.Answer.{Answer}
use Rattle.ground.proofs.Laws.{size_open}
use Rattle.frame.specs.declared.Header.{Header}
use Rattle.walk.specs.Walk.{Out, refused_by}
use Rattle.walk.specs.Lent.{items_in, fitted}
use Rattle.walk.proofs.Ending.{Ends, shut_out}
use Rattle.difference.specs.Whole.{roots_of, differences, walked, gated, found, answer, items_after, paths_after}
use Rattle.std.specs.Prelude.{Err, Ok, Result, ⊤}

-- ---- the gate and the roots

module _ (s left right items paths : List ℕ) where
  abbrev pub Answers : Answer → List ℕ → List ℕ → Type 0
  Answers a items' paths' =
      (a ≡ answer s left right (length paths) (items_in (length items)))
      × ((items' ≡ items_after s left right (length paths) items) × (paths' ≡ paths_after s left right paths (items_in (length items))))

  answers : (o : Out) → o ≡ found s left right (length paths) (items_in (length items)) → (a : Answer) (items' paths' : List ℕ) → Ends o items paths a items' paths' → Answers a items' paths'
  unfolding answer
  answers o f a items' paths' e =
      let g : a ≡ fitted (items_in (length items)) (length paths) (found s left right (length paths) (items_in (length items))) = e.0 ∙ ap (fitted (items_in (length items)) (length paths)) f in
      (g, (e.1.0 ∙ rw (g, f), e.1.1 ∙ rw (g, f)))

  module _ (g : Result ⊤ Verdict) (eg : g ≡ size_gate (max (max (length s) (length paths)) (max (length left) (length right))) (items_in (length items))) where
    pub answers_gate : (v : Verdict) → g ≡ Err v → (v.number ≡ 0 → ⊥) → Answers (refused v) items paths
    unfolding found gated
    answers_gate v k h = answers (refused_by v) (rw (← eg, k)) (refused v) items paths (shut_out v items paths h)

    module _ (k : g ≡ Ok tt) (f : Result Header Verdict) (ef : f ≡ roots_of s (length left) (length right)) where
      pub answers-roots : (v : Verdict) → f ≡ Err v → (v.number ≡ 0 → ⊥) → Answers (refused v) items paths
      unfolding found gated walked
      answers-roots v q h = answers (refused_by v) (rw (← eg, k, ← ef, q)) (refused v) items paths (shut_out v items paths h)

      pub answers_walk : (hd : Header) → f ≡ Ok hd → (a : Answer) (items' paths' : List ℕ) → Ends (differences hd s left right) items paths a items' paths' → Answers a items' paths'
      unfolding found gated walked
      answers_walk hd q a items' paths' e = answers (differences hd s left right) (rw (← eg, k, ← ef, q)) a items' paths' e

pub size-shut : (bytes records : ℕ) (g : Result ⊤ Verdict) (v : Verdict) → g ≡ size_gate bytes records → g ≡ Err v → v.number ≡ 0 → ⊥
unfolding size_gate
size-shut bytes records g v e k = go (leb bytes most_bytes && leb records most_records) (sym e ∙ k)
  where
    go : (t : Bool) → pick {A = Result ⊤ Verdict} t (Ok tt) (Err (verdict 2 0)) ≡ Err v → v.number ≡ 0 → ⊥
    go true q h = let z : ◌≡◌ {A = ℕ} 0 1 = cc in omega arith
    go false q h = let u : verdict 2 0 ≡ v = cc in omega (arith, ap (λ (x : Verdict). x.number) u)

pub size-within : (a b c d records : ℕ) (g : Result ⊤ Verdict) → g ≡ size_gate (max (max a b) (max c d)) records → g ≡ Ok tt → a ≤ 1073741824
size-within a b c d records g e k = omega (arith, (size_open (max (max a b) (max c d)) records (sym e ∙ k)).0)

pub gate_is : (g : Result ⊤ Verdict) (x y z a b c d records : ℕ) → g ≡ size_gate x records → x ≡ max y z → y ≡ max a b → z ≡ max c d → g ≡ size_gate (max (max a b) (max c d)) records
gate_is g x y z a b c d records e p q t = e ∙ rw (p, q, t)
