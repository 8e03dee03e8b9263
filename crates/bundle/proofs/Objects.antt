-- Laws of a bundle as a list of objects, for the layers above. Assumes nothing.
use Prim.Native.Nat.{ℕ}
use native.Mathlib.Omega.{arith}
use mathlib.Core.Path.{◌≡◌, refl, ap, sym, ◌∙◌}
use mathlib.Core.Bool.{Bool, true, false}
use mathlib.Core.List.{List, ◌∷◌, map}
use lib.Dec.{eqb}
use Rattle.ground.specs.Basics.{pick}
use Rattle.ground.specs.Scan.{same_bytes}
use Rattle.ground.specs.Verdict.{verdict}
use Rattle.frame.specs.Frame.{head_of, Frames, done, fault, frame, frames_by, frames_in, whole}
use Rattle.frame.specs.Place.{id_in, first_of, place_by, place_of}
use Rattle.frame.specs.declared.Header.{Header}
use Rattle.twice.specs.Ids.{ids_in, repeats}
use Rattle.bundle.specs.Bundle.{Object, object_of, good, bad, bundle_by, bundle_of, ids_of, Sought, present, absent, object_with, open_by}
use Rattle.frame.specs.declared.Frame.{Frame}
use Rattle.std.specs.Prelude.{Err, None, Ok, Option, Some}

-- the ids of the objects
pub ids-of : (h : ℕ) (s : List ℕ) (l : Frames) → ids_of (map (object_of h s) (frames_in l)) ≡ ids_in h s l
unfolding object_of frames_in ids_in
ids-of h s done = refl
ids-of h s fault = refl
ids-of h s (frame f l) = ap (λ (r : List (List ℕ)). id_in h s f ∷ r) (ids-of h s l)

-- the object that stands at a place
unfoldable pub standing : ℕ → List ℕ → Option Frame → Sought
standing h s (Some f) = present (object_of h s f)
standing h s None = absent

-- the first object of an id, by its place
pub first-object : (h : ℕ) (s id : List ℕ) (l : Frames) → standing h s (first_of h s id l) ≡ object_with id (map (object_of h s) (frames_in l))
unfolding standing first_of frames_in object_with object_of
first-object h s id done = refl
first-object h s id fault = refl
first-object h s id (frame f l) = go (first-object h s id l) (same_bytes (id_in h s f) id)
  where
    go : standing h s (first_of h s id l) ≡ object_with id (map (object_of h s) (frames_in l)) → (v : Bool)
        → standing h s (pick v (Some f) (first_of h s id l)) ≡ pick v (present (object_of h s f)) (object_with id (map (object_of h s) (frames_in l)))
    go ih true = refl
    go ih false = ih

-- in a well-framed bundle the place of an id is that of its first object
pub place-object : (s id : List ℕ) (h : ℕ) (os : List Object) → bundle_of s ≡ good h os → standing h s (place_of s id) ≡ object_with id os
unfolding bundle_by place_by
place-object s id h os e = go (head_of s) e
  where
    made : (k : Header) (v : Bool) → pick v (good k.h (map (object_of k.h s) (frames_in (frames_by s k)))) bad ≡ good h os
        → standing h s (first_of k.h s id (frames_by s k)) ≡ object_with id os
    made k true e =
        let a : k.h ≡ h = cc in
        let b : map (object_of k.h s) (frames_in (frames_by s k)) ≡ os = cc in
        ap (λ (n : ℕ). standing n s (first_of k.h s id (frames_by s k))) (sym a) ∙ first-object k.h s id (frames_by s k) ∙ ap (object_with id) b
    made k false e = let z : ◌≡◌ {A = ℕ} 0 1 = cc in absurd (omega arith)

    go : (d : Option Header) → bundle_by s d ≡ good h os → standing h s (place_by s id d) ≡ object_with id os
    go (Some k) e = made k (whole (frames_by s k)) e
    go None e = let z : ◌≡◌ {A = ℕ} 0 1 = cc in absurd (omega arith)

-- a bundle that was opened has the header that was read
pub open_head : (s : List ℕ) (n : ℕ) (d : Option Header) (k : Header) → open_by s n d ≡ Ok k → d ≡ Some k
unfolding open_by
open_head s n (Some j) k e = go (eqb n j.h) (whole (frames_by s j)) (repeats (ids_in j.h s (frames_by s j))) e
  where
    go : (a b c : Bool) → pick a (pick b (pick c (Err (verdict 25 0)) (Ok j)) (Err (verdict 24 0))) (Err (verdict 24 0)) ≡ Ok k → Some j ≡ Some k
    go true true true e = let z : ◌≡◌ {A = ℕ} 0 1 = cc in absurd (omega arith)
    go true true false e = let r : j ≡ k = cc in ap (λ (x : Header). Some x) r
    go true false c e = let z : ◌≡◌ {A = ℕ} 0 1 = cc in absurd (omega arith)
    go false b c e = let z : ◌≡◌ {A = ℕ} 0 1 = cc in absurd (omega arith)
open_head s n None k e = let z : ◌≡◌ {A = ℕ} 0 1 = cc in absurd (omega arith)
