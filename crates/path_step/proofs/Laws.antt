-- One component of a path, way by way. Assumes nothing.
use Prim.Native.Nat.{ℕ, ◌+◌, ◌-◌, ◌≤◌}
use native.Mathlib.Omega.{arith}
use mathlib.Core.Path.{◌≡◌, ap, sym, ◌∙◌}
use mathlib.Core.List.{List}
use lib.ListN.{length, drop, length-drop}
use lib.Seq.{length-take-le}
use borrow.Author.Tests.{eq-eqb, ne_eqb}
use Rattle.ground.specs.Basics.{part}
use Rattle.entry.specs.declared.EntryRecord.{EntryRecord}
use Rattle.frame.specs.Place.{place_of}
use Rattle.frame.specs.declared.Frame.{Frame}
use Rattle.frame.proofs.Laws.{place_inside}
use Rattle.component.proofs.Laws.{first-within}
use Rattle.path_step.specs.Spot.{entry_at, entry_in, spot_of, spot_in}
use Rattle.std.specs.Prelude.{None, Option, Some}

module _ (h : ℕ) (s id name : List ℕ) (r : Option Frame) (e : r ≡ place_of s id) where
  pub spot_absent : r ≡ None → None ≡ spot_in h s id name
  unfolding spot_of
  spot_absent z = ap (spot_of h s name) (sym z ∙ e)

  module _ (f : Frame) (z : r ≡ Some f) where
    at-is : spot_of h s name (Some f) ≡ spot_in h s id name
    at-is = ap (spot_of h s name) (sym z ∙ e)

    pub spot_inside : (f.start ≤ f.end) × (f.end ≤ length s)
    spot_inside = place_inside s id f (sym e ∙ z)

    pub spot_other : (f.kind ≡ 2 → ⊥) → None ≡ spot_in h s id name
    unfolding spot_of
    spot_other n = sym (rw (ne_eqb _ _ n)) ∙ at-is

    module _ (t : f.kind ≡ 2) (found : Option EntryRecord) (q : found ≡ entry_in h name (part f.start f.end s)) where
      found-is : entry_at f.start found ≡ spot_in h s id name
      unfolding spot_of
      found-is = sym (rw (eq-eqb _ _ t, ← q)) ∙ at-is

      pub spot_none : found ≡ None → None ≡ spot_in h s id name
      unfolding entry_at
      spot_none n = ap (entry_at f.start) (sym n) ∙ found-is

      module _ (x : EntryRecord) (n : found ≡ Some x) where
        pub spot_within : f.start + x.id_start + h ≤ length s
        spot_within =
            let i = spot_inside in
            let b : List ℕ = part f.start f.end s in
            let w = first-within h b name (length b) 0 x (sym q ∙ n) in
            let l : length b ≡ f.end - f.start = length-take-le (f.end - f.start) (drop f.start s) (omega (arith, length-drop f.start s, i.0, i.1)) in
            omega (arith, i.0, i.1, w, l)

        pub spot_entry : Some (x.mode, f.start + x.id_start) ≡ spot_in h s id name
        unfolding entry_at
        spot_entry = ap (entry_at f.start) (sym n) ∙ found-is
