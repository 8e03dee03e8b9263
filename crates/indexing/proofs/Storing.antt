-- The places of a bundle's ids as they are stored, one behind the other from the front of a list. Assumes nothing.
use Prim.Native.Nat.{ℕ, suc, ◌+◌, ◌*◌}
use native.Mathlib.Omega.{arith}
use native.Mathlib.Numerals.{add-one}
use mathlib.Core.Path.{◌≡◌, refl, ap, sym, ◌∙◌}
use mathlib.Core.Bool.{Bool, true, false}
use mathlib.Core.List.{List, [], ◌∷◌}
use lib.ListN.{length, set, length-set}
use lib.Seq.{sets}
use Rattle.ground.specs.Basics.{pick}
use Rattle.frame.specs.Frame.{Frames, done, fault, frame}
use Rattle.frame.specs.declared.Frame.{Frame}
use Rattle.indexing.specs.Indexing.{elements_in}

pub elements_end : (l : Frames) (b : Bool) → l ≡ pick b done fault → elements_in l ≡ []
unfolding elements_in
elements_end l true e = rw e
elements_end l false e = rw e

pub elements-fault : (l : Frames) → l ≡ fault → elements_in l ≡ []
unfolding elements_in
elements-fault l e = rw e

pub elements_on : (l m : Frames) (f : Frame) → l ≡ frame f m → elements_in l ≡ f.id * 2 ∷ elements_in m
unfolding elements_in
elements_on l m f e = rw e

-- the elements are stored from the front on: n of them are, and those of l are still to be
pub record Storing (start list : List ℕ) (all l : Frames) (n : ℕ) : Type 0 where
  pub same : sets start 0 (elements_in all) ≡ sets list n (elements_in l)
  pub many : length (elements_in all) ≡ n + length (elements_in l)
  pub size : length list ≡ length start

pub storing_start : (list : List ℕ) (l : Frames) → Storing list list l l 0
storing_start list l = record { same = refl; many = omega arith; size = refl }

pub storing_turn : (start list new : List ℕ) (all l m : Frames) (n : ℕ) (f : Frame) → Storing start list all l n → l ≡ frame f m → new ≡ set list n (f.id * 2) → length new ≡ length list
    → Storing start new all m (n + 1)
storing_turn start list new all l m n f t e w z =
    let o = elements_on l m f e in
    record {
      same = t.same ∙ ap (sets list n) o ∙ ap (λ (q : List ℕ). sets q (suc n) (elements_in m)) (sym w) ∙ ap (λ (k : ℕ). sets new k (elements_in m)) (sym (add-one n));
      many = omega (arith, t.many, ap length o);
      size = z ∙ t.size;
    }

pub storing_set : (start list : List ℕ) (all l m : Frames) (n : ℕ) (f : Frame) → Storing start list all l n → l ≡ frame f m → Storing start (set list n (f.id * 2)) all m (n + 1)
storing_set start list all l m n f t e = storing_turn start list (set list n (f.id * 2)) all l m n f t e refl (length-set list n (f.id * 2))

pub storing_end : (start list : List ℕ) (all l : Frames) (n : ℕ) → Storing start list all l n → elements_in l ≡ [] → (n ≡ length (elements_in all)) × (list ≡ sets start 0 (elements_in all))
storing_end start list all l n t e = (omega (arith, t.many, ap length e), sym (t.same ∙ rw e))
