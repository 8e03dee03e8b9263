-- Laws of the walk along a path, and of its answer. Assumes nothing.
use Prim.Native.Nat.{ℕ, zero, suc, ◌+◌, ◌-◌, ◌<◌, ◌≤◌, max}
use native.Mathlib.Omega.{arith}
use mathlib.Core.Path.{◌≡◌, refl, ap, sym, ◌∙◌}
use mathlib.Core.Bool.{Bool, true, false, false≢true}
use mathlib.Core.List.{List, [], ◌∷◌, ◌++◌, map}
use lib.Dec.{eqb, leb}
use lib.ListN.{length, take, drop, replicate, length-drop}
use lib.Seq.{take-take, drop-drop, length-take-le, sets}
use borrow.Author.Tests.{eq-eqb, ne_eqb, eqb-true, leb-true, leb-false}
use Rattle.ground.specs.Basics.{pick, part}
use Rattle.ground.specs.Verdict.{verdict, fine, most_bytes, size_gate}
use Rattle.ground.specs.declared.Verdict.{Verdict}
use Rattle.ground.proofs.Laws.{sets_front, id_small, size_open, size-bytes, size-fine}
use Rattle.entry.specs.Record.{id_of}
use Rattle.entry.specs.declared.EntryRecord.{EntryRecord}
use Rattle.reading.specs.Listing.{plain}
use Rattle.frame.specs.Frame.{head_of, frames_by, frames_in, whole}
use Rattle.frame.specs.Place.{first_of, place_of}
use Rattle.frame.specs.declared.Header.{Header}
use Rattle.frame.specs.declared.Frame.{Frame}
use Rattle.frame.proofs.Laws.{place-good, head-says, first-inside}
use Rattle.twice.specs.Ids.{ids_in, repeats}
use Rattle.bundle.specs.Bundle.{Object, object_of, good, bad, bundle_by, ids_of, open_by, open_of}
use Rattle.bundle.proofs.Laws.{open_over, open-within}
use Rattle.bundle.proofs.Objects.{ids-of, standing, first-object}
use Rattle.component.specs.Component.{components, is_path}
use Rattle.component.specs.Named.{Found, there, nowhere, entries_read, first_named, first_in}
use Rattle.component.proofs.Laws.{seen, first-named, first-within}
use Rattle.path_step.specs.Spot.{entry_at, entry_in, spot_of, spot_in}
use Rattle.path_walk.specs.Reach.{beyond, spot_along, SpotInside, missed, taken_from, reached_by}
use Rattle.path_walk.proofs.Laws.{along_inside}
use Rattle.path.specs.Path.{in_object, step_to, onto, walk_along, padded, refused_with, answered, follow_along, follow_in, follow_from, follow}
use Rattle.path.specs.Code.{after_open}
use Rattle.std.specs.Prelude.{Err, None, Ok, Option, Result, Some, ⊤}

-- the objects that a header speaks of
abbrev objects_by : List ℕ → Header → List Object
objects_by s k = map (object_of k.h s) (frames_in (frames_by s k))

-- what a spot of the bundle says: a mode, and the id of h bytes that stands there
unfoldable spotted : ℕ → List ℕ → Option (ℕ × ℕ) → Found
spotted h s (Some (mode, at)) = there mode (take h (drop at s))
spotted h s None = nowhere

-- ---- one component

-- a part of a part
part-part : (h i m : ℕ) (l : List ℕ) → i + h ≤ m → take h (drop i (take m l)) ≡ take h (drop i l)
part-part h zero m l p = take-take h m l (omega arith)
part-part h (suc i) zero l p = absurd (omega arith)
part-part h (suc i) (suc m) [] p = refl
part-part h (suc i) (suc m) (x ∷ xs) p = part-part h i m xs (omega arith)

module _ (s : List ℕ) (k : Header) (id name : List ℕ) (g : head_of s ≡ Some k) (r : Option Frame) (e : r ≡ place_of s id) where
  at_first : r ≡ first_of k.h s id (frames_by s k)
  at_first = e ∙ place-good s id (head_of s) k g

  step_is : step_to k.h (objects_by s k) id name ≡ in_object k.h name (standing k.h s r)
  unfolding step_to
  step_is = ap (in_object k.h name) (sym (first-object k.h s id (frames_by s k)) ∙ ap (standing k.h s) (sym at_first))

  step-absent : r ≡ None → nowhere ≡ step_to k.h (objects_by s k) id name
  unfolding in_object standing
  step-absent z = sym (step_is ∙ rw z)

  module _ (f : Frame) (z : r ≡ Some f) where
    step-inside : (f.start ≤ f.end) × (f.end ≤ length s)
    step-inside = first-inside k.h s id k.count k.from f (sym at_first ∙ z)

    step_other : (f.kind ≡ 2 → ⊥) → nowhere ≡ step_to k.h (objects_by s k) id name
    unfolding in_object standing object_of
    step_other n = sym (step_is ∙ rw z (rw (ne_eqb f.kind 2 n)))

    module _ (t : f.kind ≡ 2) (b : List ℕ) (y : b ≡ part f.start f.end s) (found : Option EntryRecord) (q : found ≡ first_in b name (plain k.h (length b) 0 b)) where
      step-seen : step_to k.h (objects_by s k) id name ≡ seen k.h b found
      unfolding in_object standing object_of entries_read
      step-seen =
          let w : first_named name (entries_read k.h b) ≡ seen k.h b found = sym (first-named k.h b name (plain k.h (length b) 0 b)) ∙ ap (seen k.h b) (sym q) in
          step_is ∙ rw z (rw (eq-eqb f.kind 2 t, ← y) w)

      step-none : found ≡ None → nowhere ≡ step_to k.h (objects_by s k) id name
      unfolding seen
      step-none n = sym (step-seen ∙ rw n)

      step-entry : (x : EntryRecord) → found ≡ Some x → spotted k.h s (Some (x.mode, f.start + x.id_start)) ≡ step_to k.h (objects_by s k) id name
      unfolding spotted seen id_of
      step-entry x n =
          let w = first-within k.h b name (length b) 0 x (sym q ∙ n) in
          let i = step-inside in
          let l : length b ≡ f.end - f.start = ap length y ∙ length-take-le (f.end - f.start) (drop f.start s) (omega (arith, length-drop f.start s)) in
          let v : take k.h (drop x.id_start b) ≡ take k.h (drop (f.start + x.id_start) s) =
          ap (λ (c : List ℕ). take k.h (drop x.id_start c)) y
          ∙ part-part k.h x.id_start (f.end - f.start) (drop f.start s) (omega arith)
          ∙ ap (λ (c : List ℕ). take k.h c) (drop-drop x.id_start f.start s) in
          sym (step-seen ∙ rw n (ap (λ (c : List ℕ). there x.mode c) v))

-- a spot of the bundle says what one component leads to
step-says : (s : List ℕ) (k : Header) (id name : List ℕ) → head_of s ≡ Some k → spotted k.h s (spot_in k.h s id name) ≡ step_to k.h (objects_by s k) id name
unfolding spot_of entry_at spotted
step-says s k id name g = go (place_of s id) refl
  where
    go : (p : Option Frame) → p ≡ place_of s id → spotted k.h s (spot_of k.h s name p) ≡ step_to k.h (objects_by s k) id name
    go None q = step-absent s k id name g None q refl
    go (Some f) q = kinds (eqb f.kind 2) refl
      where
        named : f.kind ≡ 2 → (x : Option EntryRecord) → x ≡ entry_in k.h name (part f.start f.end s)
            → spotted k.h s (entry_at f.start x) ≡ step_to k.h (objects_by s k) id name
        named t None w = step-none s k id name g (Some f) q f refl t (part f.start f.end s) refl None w refl
        named t (Some x) w = step-entry s k id name g (Some f) q f refl t (part f.start f.end s) refl (Some x) w x refl

        kinds : (v : Bool) → eqb f.kind 2 ≡ v
            → spotted k.h s (pick v (entry_at f.start (entry_in k.h name (part f.start f.end s))) None) ≡ step_to k.h (objects_by s k) id name
        kinds true n = named (eqb-true f.kind 2 n) (entry_in k.h name (part f.start f.end s)) refl
        kinds false n = step_other s k id name g (Some f) q f refl (λ z. false≢true (sym n ∙ eq-eqb f.kind 2 z))

-- ---- the walk

-- where a walk ends says what the path leads to
along_says : (s : List ℕ) (k : Header) (id : List ℕ) (cs : List (List ℕ)) → head_of s ≡ Some k
    → spotted k.h s (spot_along k.h s id cs) ≡ walk_along k.h (objects_by s k) id cs
unfolding spot_along beyond walk_along onto spotted
along_says s k id [] g = refl
along_says s k id (c ∷ []) g = step-says s k id c g
along_says s k id (c ∷ d ∷ ds) g = go (λ (next : List ℕ). along_says s k next (d ∷ ds) g) (spot_in k.h s id c) (step-says s k id c g)
  where
    go : ((next : List ℕ) → spotted k.h s (spot_along k.h s next (d ∷ ds)) ≡ walk_along k.h (objects_by s k) next (d ∷ ds)) → (r : Option (ℕ × ℕ))
        → spotted k.h s r ≡ step_to k.h (objects_by s k) id c
        → spotted k.h s (beyond r (λ at. spot_along k.h s (take k.h (drop at s)) (d ∷ ds)))
        ≡ onto (step_to k.h (objects_by s k) id c) (λ next. walk_along k.h (objects_by s k) next (d ∷ ds))
    go ih (Some (mode, at)) w = rw (← w) (ih (take k.h (drop at s)))
    go ih None w = rw (← w)

-- ---- the answer

-- an id of at most thirty-two bytes, all of it
taken-says : (h : ℕ) (s : List ℕ) (spot : Option (ℕ × ℕ)) → h ≤ 32 → SpotInside h (length s) spot → taken_from h s spot ≡ answered (spotted h s spot)
unfolding taken_from answered spotted padded
taken-says h s (Some (mode, at)) small inside =
    let l : length (take h (drop at s)) ≡ h = length-take-le h (drop at s) (omega (arith, length-drop at s)) in
    let f : sets (replicate 32 0) 0 (take h (drop at s)) ≡ take h (drop at s) ++ drop (length (take h (drop at s))) (replicate 32 0) =
    sets_front (replicate 32 0) (take h (drop at s)) (omega arith) in
    rw f (ap (λ (n : ℕ). record { verdict = fine; mode = mode; id = take h (drop at s) ++ drop (length (take h (drop at s))) (replicate 32 0); size = n }) (sym l))
taken-says h s None small inside = refl

-- ---- a bundle that was opened

-- by positions as by objects
at_along : (s : List ℕ) (k : Header) (root : List ℕ) (cs : List (List ℕ)) → head_of s ≡ Some k
    → reached_by k.h s root cs ≡ follow_along k.h (objects_by s k) root cs
unfolding reached_by follow_along
at_along s k root cs g = go (is_path cs)
  where
    go : (b : Bool) → pick b (taken_from k.h s (spot_along k.h s root cs)) (missed 26)
        ≡ pick b (answered (walk_along k.h (objects_by s k) root cs)) (refused_with (verdict 26 0))
    go true =
        taken-says k.h s (spot_along k.h s root cs) (id_small k.h (head-says s k g).id_length).1 (along_inside k.h s root cs)
        ∙ ap answered (along_says s k root cs g)
    go false = refl

module _ (s root : List ℕ) (cs : List (List ℕ)) (k : Header) (g : head_of s ≡ Some k) where
  opens-whole : (e r : Bool) → repeats (ids_of (objects_by s k)) ≡ r
      → pick e (pick (repeats (ids_of (objects_by s k))) (refused_with (verdict 25 0)) (follow_along k.h (objects_by s k) root cs)) (refused_with (verdict 24 0))
      ≡ after_open s root cs (pick e (pick r (Err (verdict 25 0)) (Ok k)) (Err (verdict 24 0)))
  unfolding after_open
  opens-whole true true q = rw q
  opens-whole true false q = rw q (sym (at_along s k root cs g))
  opens-whole false r q = refl

  opens-fault : (e : Bool) → refused_with (verdict 24 0) ≡ after_open s root cs (pick e (Err (verdict 24 0)) (Err (verdict 24 0)))
  unfolding after_open
  opens-fault true = refl
  opens-fault false = refl

  opens-good : (w r : Bool) → repeats (ids_of (objects_by s k)) ≡ r
      → follow_in (pick w (good k.h (objects_by s k)) bad) root cs
      ≡ after_open s root cs (pick (eqb (length root) k.h) (pick w (pick r (Err (verdict 25 0)) (Ok k)) (Err (verdict 24 0))) (Err (verdict 24 0)))
  unfolding follow_in
  opens-good true r q = opens-whole (eqb (length root) k.h) r q
  opens-good false r q = opens-fault (eqb (length root) k.h)

opens_as : (s root : List ℕ) (cs : List (List ℕ)) (d : Option Header) → head_of s ≡ d → follow_in (bundle_by s d) root cs ≡ after_open s root cs (open_by s (length root) d)
unfolding bundle_by open_by follow_in after_open
opens_as s root cs (Some k) g = opens-good s root cs k g (whole (frames_by s k)) (repeats (ids_in k.h s (frames_by s k))) (ap repeats (ids-of k.h s (frames_by s k)))
opens_as s root cs None g = refl

module _ (s root : List ℕ) (cs : List (List ℕ)) (o : Result Header Verdict) (e : o ≡ open_of s (length root)) where
  pub open_shut : (v : Verdict) → o ≡ Err v → after_open s root cs (open_of s (length root)) ≡ refused_with v
  unfolding after_open
  open_shut v q = rw (← e, q)

  pub open_good : (k : Header) → o ≡ Ok k → after_open s root cs (open_of s (length root)) ≡ reached_by k.h s root cs
  unfolding after_open
  open_good k q = rw (← e, q)

-- ---- the bound of all three

module _ (s root path : List ℕ) (n : ℕ) (g : Result ⊤ Verdict) (en : n ≡ max (length root) (length path)) (eg : g ≡ size_gate n 0) where
  over : most_bytes < max (max (length s) (length root)) (length path) → follow s root path ≡ refused_with (verdict 2 0)
  unfolding follow_from
  over p = ap (follow_from s root path) (size-bytes (max (max (length s) (length root)) (length path)) 0 p)

  pub gate_shut : (v : Verdict) → g ≡ Err v → follow s root path ≡ refused_with v
  gate_shut v q = go (leb n most_bytes) refl
    where
      go : (b : Bool) → leb n most_bytes ≡ b → follow s root path ≡ refused_with v
      go true l =
          let w : Ok tt ≡ Err v = sym (size-fine n 0 (leb-true n most_bytes l) (omega arith)) ∙ sym eg ∙ q in
          let z : ◌≡◌ {A = ℕ} 0 1 = cc in
          absurd (omega arith)
      go false l =
          let p = leb-false n most_bytes l in
          let w : Err (verdict 2 0) ≡ Err v = sym (size-bytes n 0 p) ∙ sym eg ∙ q in
          let x : verdict 2 0 ≡ v = cc in
          over (omega arith) ∙ ap refused_with x

  pub gate_on : g ≡ Ok tt → follow s root path ≡ after_open s root (components path) (open_of s (length root))
  unfolding follow_from after_open
  gate_on q = go (leb (length s) most_bytes) refl
    where
      small : n ≤ most_bytes
      small = (size_open n 0 (sym eg ∙ q)).0

      go : (b : Bool) → leb (length s) most_bytes ≡ b → follow s root path ≡ after_open s root (components path) (open_of s (length root))
      go true l =
          let p = leb-true (length s) most_bytes l in
          let w = small in
          ap (follow_from s root path) (size-fine (max (max (length s) (length root)) (length path)) 0 (omega arith) (omega arith))
          ∙ opens_as s root (components path) (head_of s) refl
          ∙ ap (after_open s root (components path)) (sym (open-within s (length root) p))
      go false l =
          let p = leb-false (length s) most_bytes l in
          over (omega arith) ∙ ap (after_open s root (components path)) (sym (open_over s (length root) (size_gate (length s) 0) refl (verdict 2 0) (size-bytes (length s) 0 p)))
