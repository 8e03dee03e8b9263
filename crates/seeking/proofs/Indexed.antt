-- What an index proposes and the bundle confirms is the object that a walk would meet, since no id stands twice. Assumes nothing.
use Prim.Native.Nat.{ℕ, zero, suc, ◌*◌, ◌/◌}
use mathlib.Core.Bool.{Bool, true, false, ◌||◌}
use mathlib.Core.Path.{◌≡◌, refl, sym, ◌∙◌}
use mathlib.Core.Logic.{⊎_elim}
use mathlib.Core.List.Memᴰ
use mathlib.Core.List.{List, Memᴰ}
use native.Mathlib.Omega.{arith}
use borrow.Author.Tests.{ltb-true}
use lib.Dec.{eqb, ltb}
use lib.ListN.{length, get_or, drop}
use Rattle.ground.specs.Basics.{pick}
use Rattle.ground.specs.Scan.{same_bytes}
use Rattle.ground.proofs.Laws.{same_true}
use Rattle.frame.specs.Frame.{head_of, frame_at, Frames, done, fault, frame, onward, frames, frames_by}
use Rattle.frame.specs.Place.{id_in, first_of, place_of}
use Rattle.frame.specs.declared.Header.{Header}
use Rattle.frame.specs.declared.Frame.{Frame}
use Rattle.frame.proofs.Laws.{frame-inside, place-good}
use Rattle.twice.specs.Ids.{ids_in, among, repeats}
use Rattle.indexing.specs.Indexing.{elements_in}
use Rattle.seeking.specs.Index.{looked, seek_at, seek_in, place_in, IsIndex}
use Rattle.std.specs.Prelude.{None, Option, Some}

-- an element stands for an object, and a walk for that object's id ends there
record Stands (h : ℕ) (s id : List ℕ) (l : Frames) (x : ℕ) : Type 0 where
  object : Frame
  framed : frame_at h (x / 2) (drop (x / 2) s) ≡ Some object
  first : same_bytes (id_in h s object) id ≡ true → first_of h s id l ≡ Some object
  listed : same_bytes (id_in h s object) id ≡ true → among id (ids_in h s l) ≡ true

or_left : (a b : Bool) → (a || b) ≡ false → a ≡ false
or_left true b e = e
or_left false b e = refl

or_right : (a b : Bool) → (a || b) ≡ false → b ≡ false
or_right true b e = let z : ◌≡◌ {A = ℕ} 0 1 = cc in absurd (omega arith)
or_right false b e = e

or_made : (a b : Bool) → b ≡ true → (a || b) ≡ true
or_made true b e = refl
or_made false b e = e

stands : (h : ℕ) (s id : List ℕ) (n at x : ℕ) → repeats (ids_in h s (frames h s n at)) ≡ false → Memᴰ x (elements_in (frames h s n at)) → Stands h s id (frames h s n at) x
unfolding frames elements_in onward ids_in among repeats first_of
stands h s id zero at x r m = none (eqb at (length s)) m
  where
    none : (t : Bool) → Memᴰ x (elements_in (pick t done fault)) → Stands h s id (frames h s zero at) x
    none true m = absurd (Memᴰ.not-nil m)
    none false m = absurd (Memᴰ.not-nil m)
stands h s id (suc n) at x r m = go (λ (b : ℕ) u v. stands h s id n b x u v) (frame_at h at (drop at s)) refl r m
  where
    go : ((b : ℕ) → repeats (ids_in h s (frames h s n b)) ≡ false → Memᴰ x (elements_in (frames h s n b)) → Stands h s id (frames h s n b) x)
        → (d : Option Frame) → frame_at h at (drop at s) ≡ d → repeats (ids_in h s (onward (frames h s n) d)) ≡ false → Memᴰ x (elements_in (onward (frames h s n) d))
        → Stands h s id (onward (frames h s n) d) x
    go ih None e r m = absurd (Memᴰ.not-nil m)
    go ih (Some g) e r m = ⊎_elim here there (Memᴰ.cases_cons m)
      where
        l : Frames
        l = frames h s n g.end

        here : x ≡ g.id * 2 → Stands h s id (frame g l) x
        here q =
            let a : x / 2 ≡ at = omega (arith, (frame-inside h at s g e).first) in record {
              object = g;
              framed = rw a e;
              first = λ t. rw t;
              listed = λ t. rw t;
            }

        there : Memᴰ x (elements_in l) → Stands h s id (frame g l) x
        there q = rest (ih g.end (or_right (among (id_in h s g) (ids_in h s l)) (repeats (ids_in h s l)) r) q)
          where
            apart : among (id_in h s g) (ids_in h s l) ≡ false
            apart = or_left (among (id_in h s g) (ids_in h s l)) (repeats (ids_in h s l)) r

            other : (b : Bool) → same_bytes (id_in h s g) id ≡ b → among id (ids_in h s l) ≡ true → b ≡ false
            other false u v = refl
            other true u v =
                let w : among (id_in h s g) (ids_in h s l) ≡ true = rw (same_true (id_in h s g) id u) v in
                let z : ◌≡◌ {A = Bool} true false = sym w ∙ apart in
                let y : ◌≡◌ {A = ℕ} 0 1 = cc in absurd (omega arith)

            rest : Stands h s id l x → Stands h s id (frame g l) x
            rest i = record {
              object = i.object;
              framed = i.framed;
              first = λ t. let o = other (same_bytes (id_in h s g) id) refl (i.listed t) in rw o (i.first t);
              listed = λ t. or_made (same_bytes (id_in h s g) id) (among id (ids_in h s l)) (i.listed t);
            }

-- whatever an index proposes, the object of the id is found
pub sought : (s id : List ℕ) (k : Header) (index : List ℕ) → IsIndex s k index → seek_in k.h s index id ≡ place_of s id
unfolding seek_in seek_at looked
sought s id k index x = go (place_in k.h s index id) (ltb (place_in k.h s index id) (length index)) refl
  where
    shown : (f : Frame) (t : Bool) → same_bytes (id_in k.h s f) id ≡ t → (same_bytes (id_in k.h s f) id ≡ true → place_of s id ≡ Some f) → pick t (Some f) (place_of s id) ≡ place_of s id
    shown f true e g = sym (g e)
    shown f false e g = refl

    met : (y : ℕ) → Stands k.h s id (frames_by s k) y → looked k.h s id (frame_at k.h (y / 2) (drop (y / 2) s)) ≡ place_of s id
    met y i = rw i.framed (shown i.object (same_bytes (id_in k.h s i.object) id) refl (λ t. place-good s id (head_of s) k x.head ∙ i.first t))

    go : (i : ℕ) (t : Bool) → ltb i (length index) ≡ t
        → pick t (looked k.h s id (frame_at k.h (get_or index i 0 / 2) (drop (get_or index i 0 / 2) s))) (place_of s id) ≡ place_of s id
    go i false e = refl
    go i true e = met (get_or index i 0) (stands k.h s id k.count k.from (get_or index i 0) x.once (x.places i (ltb-true i (length index) e)))
