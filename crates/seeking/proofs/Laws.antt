-- An object sought with an index, way by way. Assumes nothing.
use Prim.Native.Nat.{ℕ, ◌+◌, ◌-◌, ◌/◌, ◌≤◌, ◌<◌, min}
use mathlib.Core.Bool.{Bool, true, false}
use mathlib.Core.Path.{◌≡◌, refl, ap, sym, ◌∙◌}
use mathlib.Core.List.{List}
use borrow.Author.Tests.{lt-ltb, le-ltb}
use lib.Dec.{ltb}
use lib.ListN.{length, get_or, take, drop}
use Rattle.ground.specs.Basics.{pick}
use Rattle.ground.specs.Scan.{same_bytes}
use Rattle.order.specs.Order.{name_order}
use Rattle.frame.specs.Frame.{frame_at}
use Rattle.frame.specs.Place.{id_in, place_of}
use Rattle.frame.specs.declared.Frame.{Frame}
use Rattle.frame.proofs.Laws.{frame-inside, id_part, place_inside}
use Rattle.seeking.specs.Index.{looked, seek_at, seek_in, place_in}
use Rattle.std.specs.Prelude.{None, Option, Some}
use Rattle.std.specs.declared.cmp.Ordering.{Ordering}

pub order_part : (o : Ordering) (x y id : List ℕ) → o ≡ name_order x false id false → x ≡ y → o ≡ name_order y false id false
order_part o x y id e q = e ∙ ap (λ (z : List ℕ). name_order z false id false) q

module _ (h : ℕ) (s index id : List ℕ) (i : ℕ) (e : i ≡ place_in h s index id) where
  pub seek_out : length index ≤ i → place_of s id ≡ seek_in h s index id
  unfolding seek_in seek_at
  seek_out g = rw (← e, le-ltb i (length index) g)

  module _ (g : i < length index) (d : Option Frame) (q : d ≡ frame_at h (get_or index i 0 / 2) (drop (get_or index i 0 / 2) s)) where
    seek_is : looked h s id d ≡ seek_in h s index id
    unfolding seek_in seek_at
    seek_is = rw (← e, lt-ltb i (length index) g, ← q)

    pub seek_broken : d ≡ None → place_of s id ≡ seek_in h s index id
    unfolding looked
    seek_broken k = ap (looked h s id) (sym k) ∙ seek_is

    module _ (f : Frame) (k : d ≡ Some f) where
      whole_is : looked h s id (Some f) ≡ seek_in h s index id
      whole_is = ap (looked h s id) (sym k) ∙ seek_is

      pub seek_here : same_bytes (take (f.id + h - f.id) (drop f.id s)) id ≡ true → Some f ≡ seek_in h s index id
      unfolding looked
      seek_here t = let u : same_bytes (id_in h s f) id ≡ true = rw (id_part h s f) at t in sym (rw u) ∙ whole_is

      pub seek_other : same_bytes (take (f.id + h - f.id) (drop f.id s)) id ≡ false → place_of s id ≡ seek_in h s index id
      unfolding looked
      seek_other t = let u : same_bytes (id_in h s f) id ≡ false = rw (id_part h s f) at t in sym (rw u) ∙ whole_is

pub short-at : (a n x all : ℕ) → a ≡ min n all → n ≡ x / 2 → a ≡ min (x / 2) all
short-at a n x all e q = e ∙ rw q

pub seek_framed : (h : ℕ) (s : List ℕ) (d : Option Frame) (at x : ℕ) → d ≡ frame_at h at (drop at s) → at ≡ x / 2 → d ≡ frame_at h (x / 2) (drop (x / 2) s)
seek_framed h s d at x e q = e ∙ rw q

-- an object that was found lies inside the bundle, also where an index proposed it
pub seek_inside : (h : ℕ) (s index id : List ℕ) (p : Option Frame) (f : Frame) → p ≡ seek_in h s index id → p ≡ Some f → (f.start ≤ f.end) × (f.end ≤ length s)
unfolding seek_in seek_at looked
seek_inside h s index id p f e k = go (ltb i (length index)) (sym e ∙ k)
  where
    i : ℕ
    i = place_in h s index id

    x : ℕ
    x = get_or index i 0 / 2

    chosen : (g : Frame) → frame_at h x (drop x s) ≡ Some g → (t : Bool) → pick t (Some g) (place_of s id) ≡ Some f → (f.start ≤ f.end) × (f.end ≤ length s)
    chosen g w true q =
        let r : g ≡ f = cc in
        let j = frame-inside h x s g w in
        let y : (g.start ≤ g.end) × (g.end ≤ length s) = (j.forward, j.ends) in
        rw r at y
    chosen g w false q = place_inside s id f q

    framed : (d : Option Frame) → frame_at h x (drop x s) ≡ d → looked h s id d ≡ Some f → (f.start ≤ f.end) × (f.end ≤ length s)
    framed None w q = place_inside s id f q
    framed (Some g) w q = chosen g w (same_bytes (id_in h s g) id) q

    go : (t : Bool) → pick t (looked h s id (frame_at h x (drop x s))) (place_of s id) ≡ Some f → (f.start ≤ f.end) × (f.end ≤ length s)
    go true q = framed (frame_at h x (drop x s)) refl q
    go false q = place_inside s id f q
