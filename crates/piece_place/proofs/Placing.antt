-- The ways through placing a name. Assumes nothing.
use Prim.Native.Nat.{ℕ, ◌≤◌, min}
use native.Mathlib.Omega.{arith}
use mathlib.Core.Path.{◌≡◌, refl, ap, sym, ◌∙◌}
use mathlib.Core.Bool.{Bool, true, false}
use mathlib.Core.List.{List}
use lib.Dec.{ltb}
use lib.ListN.{length, take, drop, length-take}
use lib.Seq.{sets, take_all}
use borrow.Author.Tests.{ltb-true, ltb-false}
use Rattle.ground.specs.Basics.{pick}
use Rattle.ground.specs.Scan.{common_start}
use Rattle.order.specs.Order.{name_order, by_number, next}
use Rattle.order.proofs.Laws.{decided_at}
use Rattle.doubles.specs.Stack.{open_at, marks_at, is_double, open_of, place_of, marks_of}
use Rattle.doubles.proofs.Stacking.{went_same, went_above, went_below}
use Rattle.arriving.specs.declared.Last.{Last}
use Rattle.piece_place.specs.Place.{held_after}
use Rattle.doubles.specs.declared.Misplaced.{Misplaced}
use Rattle.doubles.specs.declared.Misplaced.TheVariants.{Double, NotAfter}
use Rattle.std.specs.Prelude.{Err, Ok, Result}
use Rattle.std.specs.declared.cmp.Ordering.{Ordering}
use Rattle.std.specs.declared.cmp.Ordering.TheVariants.{Equal, Greater, Less}

-- what is answered, the open names and the held name afterwards
abbrev pub Put : List ℕ → List ℕ → Last → ℕ → List ℕ → Bool → Result ℕ Misplaced → List ℕ → List ℕ → Type 0
Put held ends last ended name folder r left after =
    (r ≡ place_of ends ended (take last.size held) last.folder name folder)
    × ((left ≡ marks_of ends ended (take last.size held) last.folder name folder) × (after ≡ held_after r held name))

module _ (held ends : List ℕ) (last : Last) (ended : ℕ) (name : List ℕ) (folder : Bool) (p : ℕ) (e : p ≡ common_start (take last.size held) name)
    (o : Ordering) (q : o ≡ by_number (next (drop p (take last.size held)) last.folder) (next (drop p name) folder)) where
  order_is : name_order (take last.size held) last.folder name folder ≡ o
  order_is = decided_at (take last.size held) last.folder name folder p e ∙ sym q

  pub put_same : o ≡ Equal → Put held ends last ended name folder (Err NotAfter) ends held
  put_same u = let w = went_same ends ended (take last.size held) last.folder name folder (order_is ∙ u) in (w.0, (w.1, refl))

  pub put_above : o ≡ Greater → Put held ends last ended name folder (Err NotAfter) ends held
  put_above u = let w = went_above ends ended (take last.size held) last.folder name folder (order_is ∙ u) in (w.0, (w.1, refl))

  pub put-below : last.size ≤ length held → o ≡ Less → (r : Result ℕ Misplaced) (left after : List ℕ)
      → (r ≡ open_of ends ended p last.size last.folder (length name) folder) × (left ≡ marks_at ends (min ended (length ends)) p last.size
      last.folder)
      → after ≡ sets held 0 name → Put held ends last ended name folder r left after
  unfolding open_of
  put-below fits u r left after d h =
      let z : last.size ≡ length (take last.size held) = sym (length-take last.size held ∙ omega arith) in
      let x : (r ≡ open_of ends ended p (length (take last.size held)) last.folder (length name) folder)
      × (left ≡ marks_at ends (min ended (length ends)) p (length (take last.size held)) last.folder)
      = (
        d.0 ∙ ap (λ (n : ℕ). open_of ends ended p n last.folder (length name) folder) z,
        d.1 ∙ ap (λ (n : ℕ). marks_at ends (min ended (length ends)) p n last.folder) z,
      ) in
      let w = went_below ends ended (take last.size held) last.folder name folder (order_is ∙ u) p e x in
      let m : ℕ = min ended (length ends) in
      let k : ℕ = open_at ends m p last.size last.folder in
      let v : Bool = is_double (marks_at ends m p last.size last.folder) k (length name) folder in
      (w.0, (w.1, h ∙ sym (ap (λ (y : Result ℕ Misplaced). held_after y held name) d.0 ∙ opened v k)))
    where
      opened : (v : Bool) (n : ℕ) → held_after (pick v (Err Double) (Ok n)) held name ≡ sets held 0 name
      opened true n = refl
      opened false n = refl

-- no more of the held name is asked for than is there
abbrev pub up_to : Last → ℕ → Last
up_to last n = record { size = n; folder = last.folder }

shorter-take : (i : ℕ) (h : List ℕ) → take (min i (length h)) h ≡ take i h
shorter-take i h = go (ltb i (length h)) refl
  where
    go : (v : Bool) → ltb i (length h) ≡ v → take (min i (length h)) h ≡ take i h
    go true x = let y = ltb-true i (length h) x in let z : min i (length h) ≡ i = omega arith in rw z
    go false x =
        let y = ltb-false i (length h) x in
        let z : min i (length h) ≡ length h = omega arith in
        rw z (take_all (length h) h (omega arith) ∙ sym (take_all i h y))

pub put_all : (held ends : List ℕ) (last : Last) (ended : ℕ) (name : List ℕ) (folder : Bool) (n : ℕ) → n ≡ min last.size (length held)
    → {r : Result ℕ Misplaced} {left after : List ℕ} → Put held ends (up_to last n) ended name folder r left after → Put held ends last ended name folder r left after
put_all held ends last ended name folder n e d =
    let z : take last.size held ≡ take n held = sym (ap (λ (i : ℕ). take i held) e ∙ shorter-take last.size held) in
    rw z d
