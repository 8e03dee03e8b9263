-- From the measure to the answer. Assumes nothing.
use Prim.Native.Nat.{ℕ, ◌+◌, ◌*◌, ◌≤◌, ◌<◌}
use mathlib.Core.Bool.{Bool, true, false}
use mathlib.Core.Path.{◌≡◌, refl, ap, sym, ◌∙◌}
use mathlib.Core.List.{List, [], ◌++◌}
use native.Mathlib.Omega.{arith}
use native.Mathlib.Nat.{zero-add}
use borrow.Author.Tests.{eqb-false, leb-true, leb-false, eq-eqb, ne_eqb, le-leb, lt-leb}
use lib.Dec.{eqb, leb}
use lib.ListN.{length, drop}
use Rattle.ground.specs.Basics.{pick}
use lib.Seq.{sets-eq}
use Rattle.ground.specs.Verdict.{verdict, fine, counted, refused, stored, most_bytes}
use Rattle.ground.specs.declared.Verdict.{Verdict}
use Rattle.ground.specs.declared.Answer.{Answer}
use Rattle.frame.specs.declared.Header.{Header}
use Rattle.walk.specs.Walk.{Out, refused_by, levels, compare_folders}
use Rattle.walk.specs.Lent.{paths_of, numbers_of, items_in, fitted}
use Rattle.walk.specs.Code.{folders_in, walk_in, answer_of, Held, Did, Short}
use Rattle.walk.specs.declared.Mark.{Mark}
use Rattle.walk.proofs.Doing.{did_is, numbers-length}

abbrev pub no_mark : Mark
no_mark = record { verdict = fine; count = 0; used = 0 }

-- what a call answers and leaves, where the walk is o
abbrev pub Ends : Out → List ℕ → List ℕ → Answer → List ℕ → List ℕ → Type 0
Ends o items paths a items' paths' =
    (a ≡ fitted (items_in (length items)) (length paths) o) × ((items' ≡ stored a.verdict (numbers_of 0 o.items) items) × (paths' ≡ stored a.verdict (paths_of o.items) paths))

unstored : (v : Verdict) (l lent : List ℕ) → (v.number ≡ 0 → ⊥) → lent ≡ stored v l lent
unfolding stored
unstored v l lent h = rw (ne_eqb _ _ h)

storing : (v : Verdict) (l lent : List ℕ) → v.number ≡ 0 → l ++ drop (length l) lent ≡ stored v l lent
unfolding stored
storing v l lent h = rw (eq-eqb _ _ h)

-- ---- the answer by the mark

module _ (w : Mark) (room bytes : ℕ) where
  pub fits_refused : (w.verdict.number ≡ 0 → ⊥) → refused w.verdict ≡ answer_of w room bytes
  unfolding answer_of
  fits_refused z = rw (ne_eqb _ _ z)

  module _ (z : w.verdict.number ≡ 0) where
    pub fits-few : room < w.count → refused (verdict 4 w.count) ≡ answer_of w room bytes
    unfolding answer_of
    fits-few h = rw (eq-eqb _ _ z, lt-leb _ _ h)

    pub fits-short : w.count ≤ room → bytes < w.used → refused (verdict 8 w.used) ≡ answer_of w room bytes
    unfolding answer_of
    fits-short h g = rw (eq-eqb _ _ z, le-leb _ _ h, lt-leb _ _ g)

    pub fits-done : w.count ≤ room → w.used ≤ bytes → counted w.count ≡ answer_of w room bytes
    unfolding answer_of
    fits-done h g = rw (eq-eqb _ _ z, le-leb _ _ h, le-leb _ _ g)

fits_walk : (room bytes : ℕ) (o : Out) (w : Mark)
    → w ≡ record { verdict = o.verdict; count = 0 + length o.items; used = 0 + length (paths_of o.items) }
    → answer_of w room bytes ≡ fitted room bytes o
unfolding answer_of fitted
fits_walk room bytes o w e = rw (e, zero-add, zero-add)

-- ---- the answer that is done has room

fitted-room : (room bytes : ℕ) (o : Out) → (fitted room bytes o).verdict.number ≡ 0
    → (length o.items ≤ room) × (length (paths_of o.items) ≤ bytes)
unfolding fitted
fitted-room room bytes o = go (eqb o.verdict.number 0) refl (leb (length o.items) room) refl (leb (length (paths_of o.items)) bytes) refl
  where
    go : (u : Bool) → eqb o.verdict.number 0 ≡ u → (v : Bool) → leb (length o.items) room ≡ v
        → (w : Bool) → leb (length (paths_of o.items)) bytes ≡ w
        → (pick u (pick v (pick w (counted (length o.items)) (refused (verdict 8 (length (paths_of o.items))))) (refused (verdict 4 (length o.items))))
        (refused o.verdict)).verdict.number ≡ 0
        → (length o.items ≤ room) × (length (paths_of o.items) ≤ bytes)
    go true q true p true r z = (leb-true _ _ p, leb-true _ _ r)
    go true q true p false r z = absurd (omega arith)
    go true q false p w r z = absurd (omega arith)
    go false q v p w r z = absurd (eqb-false o.verdict.number 0 q z)

module _ (o : Out) (items paths : List ℕ) (a : Answer) (f : a ≡ fitted (items_in (length items)) (length paths) o) where
  pub ends-refused : (a.verdict.number ≡ 0 → ⊥) → Ends o items paths a items paths
  ends-refused h = (f, (unstored a.verdict _ items h, unstored a.verdict _ paths h))

  pub ends-done : a.verdict.number ≡ 0 → (v : Mark) (items' paths' : List ℕ) → Did no_mark (Held [] 0 paths) items paths o v items' paths'
      → Ends o items paths a items' paths'
  ends-done z v items' paths' d =
      let room = fitted-room (items_in (length items)) (length paths) o (sym (ap (λ (x : Answer). x.verdict.number) f) ∙ z) in
      let r : 0 + length (paths_of o.items) ≤ length paths = omega (arith, room.1) in
      let i : 6 * (0 + length o.items) ≤ length items = omega (arith, room.0) in
      let j : 6 * 0 + length (numbers_of 0 o.items) ≤ length items = omega (arith, numbers-length 0 o.items, room.0) in (
        f,
        (
          d.1 i ∙ sets-eq (numbers_of 0 o.items) items 0 j ∙ rw zero-add (storing a.verdict (numbers_of 0 o.items) items z),
          d.2 refl r ∙ sets-eq (paths_of o.items) paths 0 r ∙ rw zero-add (storing a.verdict (paths_of o.items) paths z),
        ),
      )

-- a refusal before the walk
pub shut_out : (v : Verdict) (items paths : List ℕ) → (v.number ≡ 0 → ⊥) → Ends (refused_by v) items paths (refused v) items paths
unfolding fitted
shut_out v items paths h = (rw (ne_eqb _ _ h), (unstored v _ items h, unstored v _ paths h))

-- what is said of a walk is said of one that is the same
pub ends_same : (o o' : Out) (items paths : List ℕ) (a : Answer) (items' paths' : List ℕ) → o ≡ o' → Ends o items paths a items' paths' → Ends o' items paths a items' paths'
ends_same o o' items paths a items' paths' e h = rw e at h

-- the levels of folders fit in a path
pub levels-short : (d : ℕ) → d ≡ levels → Short 0 d
levels-short d l = omega arith

-- ---- the bound

module _ (k : Header) (s index left right : List ℕ) where
  walk_within : (d : ℕ) → d ≡ levels → length s ≤ most_bytes → compare_folders (folders_in k s index) d [] left right 0 ≡ walk_in k s index left right
  unfolding walk_in
  walk_within d l h = rw (l, le-leb _ _ h)

  module _ (room bytes : ℕ) where
    pub measured-over : most_bytes < length s → refused (verdict 2 0) ≡ fitted room bytes (walk_in k s index left right)
    unfolding fitted walk_in
    measured-over h = rw (lt-leb _ _ h)

    pub measured-within : (d : ℕ) → d ≡ levels → length s ≤ most_bytes → (w : Mark) (C : Type 0) (items paths items' paths' : List ℕ)
        → Did no_mark C items paths (compare_folders (folders_in k s index) d [] left right 0) w items' paths'
        → answer_of w room bytes ≡ fitted room bytes (walk_in k s index left right)
    measured-within d l h w C items paths items' paths' e = fits_walk room bytes _ w e.0 ∙ ap (fitted room bytes) (walk_within d l h)

    -- a walk that was not refused is within the bound
    pub bounded : (a : Answer) → a ≡ fitted room bytes (walk_in k s index left right) → a.verdict.number ≡ 0 → length s ≤ most_bytes
    bounded a f z = go (leb (length s) most_bytes) refl
      where
        go : (u : Bool) → leb (length s) most_bytes ≡ u → length s ≤ most_bytes
        go true p = leb-true _ _ p
        go false p = absurd (omega (arith, ap (λ (x : Answer). x.verdict.number) (f ∙ sym (measured-over (leb-false _ _ p)))))

  -- the walk that stores, after the one that measured
  pub walk_stored : (d : ℕ) → d ≡ levels → length s ≤ most_bytes → (items paths : List ℕ) (a : Answer)
      → a ≡ fitted (items_in (length items)) (length paths) (walk_in k s index left right) → a.verdict.number ≡ 0 → (v : Mark) (items' paths' : List ℕ)
      → Did no_mark (Held [] 0 paths) items paths (compare_folders (folders_in k s index) d [] left right 0) v items' paths'
      → Ends (walk_in k s index left right) items paths a items' paths'
  walk_stored d l h items paths a f z v items' paths' e =
      ends-done (walk_in k s index left right) items paths a f z v items' paths' (did_is no_mark _ items paths _ _ v items' paths' (sym (walk_within d l h)) e)
