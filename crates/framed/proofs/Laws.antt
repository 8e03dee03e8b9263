-- Laws of ids that ascend. Assumes nothing.
use Prim.Native.Nat.{ℕ, ◌+◌, ◌-◌}
use mathlib.Core.Path.{◌≡◌, refl}
use mathlib.Core.Bool.{Bool, true, false}
use mathlib.Core.List.{List, [], ◌∷◌}
use lib.ListN.{take, drop}
use Rattle.ground.specs.Basics.{pick}
use Rattle.ground.specs.Scan.{same_bytes}
use Rattle.ground.proofs.Laws.{and_left, and_right, is_false, same_true}
use Rattle.order.proofs.Laws.{below-is, order_irreflexive, order_trans}
use Rattle.frame.specs.Frame.{Frames, done, fault, frame}
use Rattle.frame.specs.Place.{id_in}
use Rattle.frame.specs.declared.Frame.{Frame}
use Rattle.frame.proofs.Laws.{id_part}
use Rattle.twice.specs.Ids.{ids_in, among, repeats}
use Rattle.framed.specs.Ids.{below, rises}

below_trans : (x y z : List ℕ) → below x y ≡ true → below y z ≡ true → below x z ≡ true
below_trans x y z p q = rw (order_trans x false y false z false (below-is _ p) (below-is _ q))

below_other : (x y : List ℕ) → below x y ≡ true → same_bytes y x ≡ false
below_other x y p = is_false (same_bytes y x) (λ e. order_irreflexive x false (below-is _ (rw (same_true y x e) at p)))

-- what is below the first of ascending ids is none of them
under : (w x : List ℕ) (ys : List (List ℕ)) → below w x ≡ true → rises x ys ≡ true → among w ys ≡ false
unfolding rises among
under w x [] p r = refl
under w x (y ∷ ys) p r =
    let a = and_left (below x y) (rises y ys) r in
    let b = and_right (below x y) (rises y ys) r in
    let q = below_trans w x y p a in
    rw (below_other w y q, under w y ys q b)

-- ids that ascend do not stand twice
pub rises-apart : (x : List ℕ) (ys : List (List ℕ)) → rises x ys ≡ true → repeats ys ≡ false
unfolding rises repeats among
rises-apart x [] r = refl
rises-apart x (y ∷ ys) r = let b = and_right (below x y) (rises y ys) r in rw (first ys b, rises-apart y ys b)
  where
    first : (ys : List (List ℕ)) → rises y ys ≡ true → among y ys ≡ false
    first [] r = refl
    first (z ∷ zs) r =
        let a = and_left (below y z) (rises z zs) r in
        let b = and_right (below y z) (rises z zs) r in
        rw (below_other y z a, under y z zs a b)

module _ (h : ℕ) (s x : List ℕ) (l : Frames) where
  pub rises_end : (b : Bool) → l ≡ pick b done fault → rises x (ids_in h s l) ≡ true
  unfolding ids_in rises
  rises_end true e = rw e
  rises_end false e = rw e

  pub rises-fault : l ≡ fault → rises x (ids_in h s l) ≡ true
  unfolding ids_in rises
  rises-fault e = rw e

  module _ (f : Frame) (m : Frames) (e : l ≡ frame f m) where
    pub rises_on : below x (take (f.id + h - f.id) (drop f.id s)) ≡ true → rises x (ids_in h s l) ≡ rises (take (f.id + h - f.id) (drop f.id s)) (ids_in h s m)
    unfolding ids_in rises
    rises_on t = let u : below x (id_in h s f) ≡ true = rw (id_part h s f) at t in rw (e, id_part h s f) (rw u)

    pub rises_off : below x (take (f.id + h - f.id) (drop f.id s)) ≡ false → rises x (ids_in h s l) ≡ false
    unfolding ids_in rises
    rises_off t = let u : below x (id_in h s f) ≡ false = rw (id_part h s f) at t in rw e (rw u)
