-- The first demand of bundles and paths: every way to answer. Assumes nothing.
use Prim.Native.Nat.{ℕ, max}
use mathlib.Core.Path.{◌≡◌, refl}
use mathlib.Core.List.{List, [], ◌∷◌, ◌++◌}
use lib.Dec.{eqb}
use lib.ListN.{length}
use Rattle.ground.specs.Verdict.{verdict}
use Rattle.frame.specs.Frame.{head_of, frames_by, whole}
use Rattle.frame.specs.Place.{place_of}
use Rattle.frame.specs.declared.Header.{Header}
use Rattle.frame.specs.declared.Frame.{Frame}
use Rattle.twice.specs.Ids.{ids_in, repeats}
use Rattle.bundle.specs.Bundle.{Bundle, good, bad, bundle_of, ids_of, open_by, open_from, open_of, own_length, told, check_of}
use Rattle.component.specs.Component.{components, is_path}
use Rattle.component.specs.Named.{Found, there, nowhere}
use Rattle.path.specs.Path.{walk_along, refused_with, answered, follow_along, follow_in, follow_from, follow}
use Rattle.path_walk.specs.declared.Followed.{Followed}
use Rattle.border_bundle.specs.Border.{no_object, object_at, object_from, object_asked, checked_numbers, object_numbers}
use Rattle.border_path.specs.Border.{followed_numbers}
use Rattle.border_bundle.specs.declared.Object as asked
use Rattle.call.specs.Call.{Fits, none, ◌and◌}
use Rattle.paper.specs.Calls.{of_opening, of_checked, of_object, of_followed}
use Rattle.paper.specs.Border.{said_in}
use Rattle.paper.specs.Demand1.{OfBundles}
use Rattle.call.proofs.Laws.{answers_once, Of, done, zero, keeps-reads, keeps-stores, each-pick, each-size}
use Rattle.ground.specs.declared.Verdict.{Verdict}
use Rattle.std.specs.Prelude.{Err, None, Ok, Option, Result, Some, ⊤}

-- two lists one behind the other
pub both-lists : {l m k n : List ℕ} → l ≡ m → k ≡ n → l ++ k ≡ m ++ n
both-lists p q = cc

-- ---- a bundle opened: a header, 24, 25, 2

module _ (Q : Result Header Verdict → Type 0) (opens : (k : Header) → Q (Ok k)) (ill : Q (Err (verdict 24 0))) (repeated : Q (Err (verdict 25 0)))
    (over : Q (Err (verdict 2 0))) where
  each-by : (s : List ℕ) (n : ℕ) (d : Option Header) → Q (open_by s n d)
  unfolding open_by
  each-by s n (Some k) =
      each-pick Q (eqb n k.h) _ _
      (each-pick Q (whole (frames_by s k)) _ _ (each-pick Q (repeats (ids_in k.h s (frames_by s k))) _ _ repeated (opens k)) ill) ill
  each-by s n None = ill

  pub each_opening : (s : List ℕ) (n : ℕ) → Q (open_of s n)
  unfolding open_from
  each_opening s n = each-size (λ (g : Result ⊤ Verdict). Q (open_from s n g)) (each-by s n (head_of s)) over (length s) 0

opened-fits : (s : List ℕ) (n : ℕ) → Fits (0 ∷ 2 ∷ 24 ∷ 25 ∷ []) (of_opening (open_of s n))
opened-fits s n = each_opening (Of _ of_opening) (λ k. done refl refl) (zero refl refl) (zero refl refl) (zero refl refl) s n

checked-fits : (s : List ℕ) → Fits (0 ∷ 2 ∷ 24 ∷ 25 ∷ []) (of_checked (check_of s))
unfolding told
checked-fits s =
    each_opening (Of _ (λ (o : Result Header Verdict). of_checked (told o))) (λ k. done refl refl) (zero refl refl) (zero refl refl) (zero refl refl) s (own_length (head_of s))

pub checked-said : (s : List ℕ) → Fits (0 ∷ 2 ∷ 24 ∷ 25 ∷ []) (said_in (checked_numbers (check_of s)))
unfolding told
checked-said s =
    each_opening (Of _ (λ (o : Result Header Verdict). said_in (checked_numbers (told o)))) (λ k. done refl refl) (zero refl refl) (zero refl refl) (zero refl refl) s
    (own_length (head_of s))

-- ---- an object asked for: there, 15, 2

module _ (Q : asked.Object → Type 0) (stands : (f : Frame) → Q (object_at (Some f))) (gone : Q (no_object (verdict 15 0))) (over : Q (no_object (verdict 2 0))) where
  each-place : (p : Option Frame) → Q (object_at p)
  unfolding object_at
  each-place (Some f) = stands f
  each-place None = gone

  each-asked : (s id : List ℕ) → Q (object_asked s id)
  unfolding object_from
  each-asked s id = each-size (λ (g : Result ⊤ Verdict). Q (object_from s id g)) (each-place (place_of s id)) over (max (length s) (length id)) 0

object-fits : (s id : List ℕ) → Fits (0 ∷ 2 ∷ 15 ∷ []) (of_object (object_asked s id))
unfolding object_at
object-fits s id = each-asked (Of _ of_object) (λ f. done refl refl) (zero refl refl) (zero refl refl) s id

pub object-said : (s id : List ℕ) → Fits (0 ∷ 2 ∷ 15 ∷ []) (said_in (object_numbers (object_asked s id)))
unfolding object_at
object-said s id = each-asked (Of _ (λ (o : asked.Object). said_in (object_numbers o))) (λ f. done refl refl) (zero refl refl) (zero refl refl) s id

-- ---- a path followed: found, 15, 26, 25, 24, 2

module _ (Q : Followed → Type 0) (found : (m : ℕ) (i : List ℕ) → Q (answered (there m i))) (gone : Q (refused_with (verdict 15 0)))
    (wrong : Q (refused_with (verdict 26 0))) (repeated : Q (refused_with (verdict 25 0))) (ill : Q (refused_with (verdict 24 0)))
    (over : Q (refused_with (verdict 2 0))) where
  each-found : (f : Found) → Q (answered f)
  unfolding answered
  each-found (there m i) = found m i
  each-found nowhere = gone

  each_in : (b : Bundle) (root : List ℕ) (cs : List (List ℕ)) → Q (follow_in b root cs)
  unfolding follow_in follow_along
  each_in bad root cs = ill
  each_in (good h os) root cs =
      each-pick Q (eqb (length root) h) _ _
      (each-pick Q (repeats (ids_of os)) _ _ repeated (each-pick Q (is_path cs) _ _ (each-found (walk_along h os root cs)) wrong)) ill

  each_followed : (s root path : List ℕ) → Q (follow s root path)
  unfolding follow_from
  each_followed s root path =
      each-size (λ (g : Result ⊤ Verdict). Q (follow_from s root path g)) (each_in (bundle_of s) root (components path)) over
      (max (max (length s) (length root)) (length path)) 0

followed_fits : (s root path : List ℕ) → Fits (0 ∷ 2 ∷ 15 ∷ 24 ∷ 25 ∷ 26 ∷ []) (of_followed (follow s root path))
unfolding answered
followed_fits s root path =
    each_followed (Of _ of_followed) (λ m i. done refl refl) (zero refl refl) (zero refl refl) (zero refl refl) (zero refl refl) (zero refl refl) s root path

pub followed_said : (s root path : List ℕ)
    → Fits (0 ∷ 2 ∷ 15 ∷ 24 ∷ 25 ∷ 26 ∷ []) (said_in (followed_numbers (follow s root path) ++ (follow s root path).id))
unfolding answered
followed_said s root path =
    each_followed (Of _ (λ (r : Followed). said_in (followed_numbers r ++ r.id))) (λ m i. done refl refl) (zero refl refl) (zero refl refl) (zero refl refl)
    (zero refl refl) (zero refl refl) s root path

pub of_bundles : OfBundles
of_bundles = record {
  sort_all = keeps-stores _ (λ i. tt) _ _ _ _ (λ i o m. (refl, m));
  sort_front = keeps-stores _ (λ i. tt) _ _ _ _ (λ i o m. (refl, m));
  open_bundle = keeps-reads _ (λ i. tt) _ _ _ (λ i o m. m) (λ i. opened-fits _ _);
  check_bundle = keeps-reads _ (λ i. tt) _ _ _ (λ i o m. m) (λ i. checked-fits _);
  object_of = keeps-reads _ (λ i. tt) _ _ _ (λ i o m. m) (λ i. object-fits _ _);
  follow_path = keeps-reads _ (λ i. tt) _ _ _ (λ i o m. m) (λ i. followed_fits _ _ _);
  bundle_questions =
      ((λ i. tt), answers_once _ _ (λ i o m. m)) and ((λ i. tt), answers_once _ _ (λ i o m. m)) and ((λ i. tt), answers_once _ _ (λ i o m. m)) and ((λ i. tt), answers_once _ _ (λ i o m. m))
      and ((λ i. tt), answers_once _ _ (λ i o m. m)) and ((λ i. tt), answers_once _ _ (λ i o m. m)) and ((λ i. tt), answers_once _ _ (λ i o m. m)) and ((λ i. tt), answers_once _ _ (λ i o m. m))
      and ((λ i. tt), answers_once _ _ (λ i o m. m)) and ((λ i. tt), answers_once _ _ (λ i o m. m)) and ((λ i. tt), answers_once _ _ (λ i o m. m)) and ((λ i. tt), answers_once _ _ (λ i o m. m))
      and none;
}
