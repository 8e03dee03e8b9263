-- What the proofs of the calls cite. Assumes nothing.
use Prim.Native.Nat.{ℕ, max}
use mathlib.Core.Path.{◌≡◌, sym, ap, ◌∙◌}
use mathlib.Core.List.{List}
use lib.ListN.{length}
use Rattle.ground.specs.Verdict.{verdict, fine, size_gate}
use Rattle.ground.specs.declared.Verdict.{Verdict}
use Rattle.frame.specs.Place.{place_of}
use Rattle.frame.specs.declared.Frame.{Frame}
use Rattle.border_bundle.specs.Border.{no_object, object_at, object_from, object_asked}
use Rattle.std.specs.Prelude.{Err, None, Ok, Option, Result, Some, ⊤}

module _ (s id : List ℕ) (n : ℕ) (g : Result ⊤ Verdict) (m : n ≡ max (length s) (length id)) (e : g ≡ size_gate n 0) where
  gate_is : size_gate (max (length s) (length id)) 0 ≡ g
  gate_is = sym (e ∙ ap (λ (x : ℕ). size_gate x 0) m)

  pub asked-shut : (v : Verdict) → g ≡ Err v → object_asked s id ≡ no_object v
  unfolding object_from
  asked-shut v q = ap (object_from s id) (gate_is ∙ q)

  module _ (q : g ≡ Ok tt) (p : Option Frame) (w : p ≡ place_of s id) where
    asked_open : object_asked s id ≡ object_at p
    unfolding object_from
    asked_open = ap (object_from s id) (gate_is ∙ q) ∙ ap object_at (sym w)

    pub asked-absent : p ≡ None → object_asked s id ≡ no_object (verdict 15 0)
    unfolding object_at
    asked-absent z = asked_open ∙ rw z

    pub asked_at : (f : Frame) → p ≡ Some f → object_asked s id ≡ record { verdict = fine; kind = f.kind; start = f.start; end = f.end }
    unfolding object_at
    asked_at f z = asked_open ∙ rw z
