-- The first demand of the ground, the scans and the lent output, of modes and of the order. Assumes nothing.
use Prim.Native.Nat.{ℕ, ◌/◌, ◌%◌}
use mathlib.Core.Path.{refl}
use mathlib.Core.Bool.{◌||◌}
use mathlib.Core.List.{List, [], ◌∷◌}
use lib.Dec.{eqb}
use lib.ListN.{length}
use Rattle.ground.specs.Verdict.{verdict, broken}
use Rattle.mode.specs.Mode.{accepted, rejected, from_number}
use Rattle.mode.specs.Read.{read_mode, alone, begun, mode_alone}
use Rattle.mode.specs.declared.EntryMode.{EntryMode}
use Rattle.mode.specs.declared.ModeAnswer.{ModeAnswer}
use Rattle.call.specs.Call.{none, ◌and◌, Fits}
use Rattle.call.specs.Deeds.{of_gate}
use Rattle.paper.specs.Calls.{of_mode}
use Rattle.paper.specs.Demand1.{OfGround, OfModes}
use Rattle.call.proofs.Laws.{answers_once, Of, done, zero, wider, keeps-reads, keeps-stores, each-pick, each-size, each_gate}
use Rattle.std.specs.Prelude.{None, Option, Some}

-- every way to read a mode text alone: a mode, 2, 3
pub each-alone : (Q : ModeAnswer → Type 0) → ((m : EntryMode) → Q (accepted m)) → Q (rejected (verdict 2 0)) → Q (rejected (broken 0 1)) → (i : List ℕ) → Q (mode_alone i)
unfolding mode_alone
each-alone Q mode two three i = each-size (λ g. Q (begun g (alone (read_mode i)))) (read (read_mode i)) two (length i) 0
  where
    read : (r : Option (EntryMode × ℕ)) → Q (alone r)
    read (Some (m, n)) = mode m
    read None = three

-- every way to make a mode of a number: a mode, 23
each_number : (Q : ModeAnswer → Type 0) → ((m : EntryMode) → Q (accepted m)) → Q (rejected (verdict 23 0)) → (n : ℕ) → Q (from_number n)
unfolding from_number
each_number Q mode other n =
    each-pick Q (eqb n 16384 || eqb n 40960 || eqb n 57344 || eqb (n / 0o100000 % 2) 1)
    (accepted (record { internal = n % 0o200000 })) (rejected (verdict 23 0)) (mode _) other

pub alone-fits : (i : List ℕ) → Fits (0 ∷ 2 ∷ 3 ∷ []) (of_mode (mode_alone i))
alone-fits = each-alone (Of _ of_mode) (λ m. done refl refl) (zero refl refl) (zero refl refl)

pub number_fits : (n : ℕ) → Fits (0 ∷ 23 ∷ []) (of_mode (from_number n))
number_fits = each_number (Of _ of_mode) (λ m. done refl refl) (zero refl refl)

pub of_ground : OfGround
of_ground = record {
  sizes = keeps-reads _ (λ i. tt) _ _ _ (λ i o m. m) (λ i. each-size (Of _ of_gate) (done refl refl) (zero refl refl) _ _);
  bounds = keeps-reads _ (λ i. tt) _ _ _ (λ i o m. m) (λ i. each_gate (Of _ of_gate) (done refl refl) (zero refl refl) (zero refl refl) _ _ _);
  scans =
      ((λ i. tt), answers_once _ _ (λ i o m. m)) and ((λ i. tt), answers_once _ _ (λ i o m. m)) and ((λ i. tt), answers_once _ _ (λ i o m. m)) and ((λ i. tt), answers_once _ _ (λ i o m. m)) and ((λ i. tt), answers_once _ _ (λ i o m. m)) and
      ((λ i. tt), answers_once _ _ (λ i o m. m)) and ((λ i. tt), answers_once _ _ (λ i o m. m)) and ((λ i. tt), answers_once _ _ (λ i o m. m)) and ((λ i. tt), answers_once _ _ (λ i o m. m)) and
      ((λ i. tt), answers_once _ _ (λ i o m. m)) and ((λ i. tt), answers_once _ _ (λ i o m. m)) and none;
  put = keeps-stores _ (λ i. tt) _ _ _ _ (λ i o m. (refl, m));
  put_ended = keeps-stores _ (λ i. tt) _ _ _ _ (λ i o m. (refl, m));
}

pub of_modes : OfModes
of_modes = record {
  from_bytes = keeps-reads _ (λ i. tt) _ _ _ (λ i o m. m) (λ i. wider (alone-fits _) refl);
  from_number = keeps-reads _ (λ i. tt) _ _ _ (λ i o m. m) (λ i. wider (number_fits _) refl);
  mode_questions =
      ((λ i. tt), answers_once _ _ (λ i o m. m)) and ((λ i. tt), answers_once _ _ (λ i o m. m)) and ((λ i. tt), answers_once _ _ (λ i o m. m)) and ((λ i. tt), answers_once _ _ (λ i o m. m)) and
      ((λ i. tt), answers_once _ _ (λ i o m. m)) and ((λ i. tt), answers_once _ _ (λ i o m. m)) and ((λ i. tt), answers_once _ _ (λ i o m. m)) and ((λ i. tt), answers_once _ _ (λ i o m. m)) and
      ((λ i. tt), answers_once _ _ (λ i o m. m)) and ((λ i. tt), answers_once _ _ (λ i o m. m)) and ((λ i. tt), answers_once _ _ (λ i o m. m)) and ((λ i. tt), answers_once _ _ (λ i o m. m)) and
      ((λ i. tt), answers_once _ _ (λ i o m. m)) and ((λ i. tt), answers_once _ _ (λ i o m. m)) and ((λ i. tt), answers_once _ _ (λ i o m. m)) and ((λ i. tt), answers_once _ _ (λ i o m. m)) and
      ((λ i. tt), answers_once _ _ (λ i o m. m)) and ((λ i. tt), answers_once _ _ (λ i o m. m)) and ((λ i. tt), answers_once _ _ (λ i o m. m)) and ((λ i. tt), answers_once _ _ (λ i o m. m)) and none;
  orders =
      ((λ i. tt), answers_once _ _ (λ i o m. m)) and ((λ i. tt), answers_once _ _ (λ i o m. m)) and ((λ i. tt), answers_once _ _ (λ i o m. m)) and ((λ i. tt), answers_once _ _ (λ i o m. m)) and ((λ i. tt), answers_once _ _ (λ i o m. m)) and none;
}
