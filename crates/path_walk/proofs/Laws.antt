-- Laws of the walk along a path. Assumes nothing.
use Prim.Native.Nat.{ℕ, ◌+◌, ◌-◌, ◌<◌, ◌≤◌}
use native.Mathlib.Omega.{arith}
use mathlib.Core.Path.{◌≡◌, refl, ap, sym, ◌∙◌}
use mathlib.Core.Bool.{Bool, true, false}
use mathlib.Core.List.{List, [], ◌∷◌}
use lib.Dec.{eqb}
use lib.ListN.{length, take, drop, replicate}
use lib.Seq.{take_all, sets}
use borrow.Author.Tests.{eqb-true}
use Rattle.ground.specs.Basics.{pick, part}
use Rattle.ground.specs.Scan.{count_to}
use Rattle.ground.specs.Verdict.{fine}
use Rattle.ground.proofs.Laws.{count-le, part-from}
use Rattle.frame.specs.Place.{place_of}
use Rattle.component.specs.Component.{pieces, components, filled, is_path}
use Rattle.component.proofs.Laws.{pieces-last, pieces_more, pieces-some}
use Rattle.path_step.specs.Spot.{entry_at, entry_in, spot_of, spot_in}
use Rattle.path_step.proofs.Laws.{spot_within}
use Rattle.path_walk.specs.Reach.{beyond, spot_along, SpotInside, missed, taken_from, reached_by}
use Rattle.frame.specs.declared.Frame.{Frame}
use Rattle.std.specs.Prelude.{None, Option, Some}
use Rattle.entry.specs.declared.EntryRecord.{EntryRecord}

-- a spot lies inside the bundle
spot_inside : (h : ℕ) (s id name : List ℕ) → SpotInside h (length s) (spot_in h s id name)
unfolding spot_of entry_at
spot_inside h s id name = go (place_of s id) refl
  where
    go : (p : Option Frame) → p ≡ place_of s id → SpotInside h (length s) (spot_of h s name p)
    go None q = tt
    go (Some f) q = kinds (eqb f.kind 2) refl
      where
        named : f.kind ≡ 2 → (x : Option EntryRecord) → x ≡ entry_in h name (part f.start f.end s) → SpotInside h (length s) (entry_at f.start x)
        named t None w = tt
        named t (Some x) w = spot_within h s id name (Some f) q f refl t (Some x) w x refl

        kinds : (v : Bool) → eqb f.kind 2 ≡ v → SpotInside h (length s) (pick v (entry_at f.start (entry_in h name (part f.start f.end s))) None)
        kinds true n = named (eqb-true f.kind 2 n) (entry_in h name (part f.start f.end s)) refl
        kinds false n = tt

along_cons : (h : ℕ) (s id c : List ℕ) (cs : List (List ℕ)) → 0 < length cs
    → spot_along h s id (c ∷ cs) ≡ beyond (spot_in h s id c) (λ at. spot_along h s (take h (drop at s)) cs)
unfolding spot_along
along_cons h s id c [] p = absurd (omega arith)
along_cons h s id c (d ∷ ds) p = refl

module _ (h : ℕ) (s id p : List ℕ) (n : ℕ) (spot : Option (ℕ × ℕ)) (e : n ≡ count_to 47 p) (g : spot ≡ spot_in h s id (take n p)) where
  pub walk_ends : n ≡ length p → spot ≡ spot_along h s id (pieces p)
  unfolding spot_along
  walk_ends z =
      let a : take n p ≡ p = take_all n p (omega arith) in
      g ∙ rw (pieces-last p (omega arith), a)

  module _ (z : n ≡ length p → ⊥) where
    pub slash-inside : n + 1 ≤ length p
    slash-inside = omega (arith, count-le 47 p)

    goes : spot_along h s id (pieces p) ≡ beyond spot (λ at. spot_along h s (take h (drop at s)) (pieces (drop (n + 1) p)))
    goes =
        let l : count_to 47 p < length p = omega (arith, count-le 47 p) in
        rw (g, e) (ap (spot_along h s id) (pieces_more p l) ∙ along_cons h s id _ _ (pieces-some (drop (count_to 47 p + 1) p)))

    pub walk_falls : {t : ℕ} → length (pieces p) ≡ t → length (pieces (take (length p - (n + 1)) (drop (n + 1) p))) < t
    walk_falls k =
        let l : count_to 47 p < length p = omega (arith, count-le 47 p) in
        rw (← k, part-from p (n + 1), e, pieces_more p l) (omega arith)

    pub walk_none : spot ≡ None → None ≡ spot_along h s id (pieces p)
    unfolding beyond
    walk_none y = sym (goes ∙ rw y)

    module _ (mode at : ℕ) (y : spot ≡ Some (mode, at)) where
      pub id-inside : at + h ≤ length s
      id-inside = let w : SpotInside h (length s) spot = rw g (spot_inside h s id (take n p)) in rw y at w

      pub walk-on : (r : Option (ℕ × ℕ)) → r ≡ spot_along h s (take (at + h - at) (drop at s)) (pieces (take (length p - (n + 1)) (drop (n + 1) p)))
          → r ≡ spot_along h s id (pieces p)
      unfolding beyond
      walk-on r q =
          let k : at + h - at ≡ h = omega arith in
          q ∙ sym (goes ∙ rw y (rw (k, part-from p (n + 1))))

-- where a walk ends lies inside the bundle
pub along_inside : (h : ℕ) (s id : List ℕ) (cs : List (List ℕ)) → SpotInside h (length s) (spot_along h s id cs)
unfolding spot_along beyond
along_inside h s id [] = tt
along_inside h s id (c ∷ []) = spot_inside h s id c
along_inside h s id (c ∷ d ∷ ds) = go (λ (next : List ℕ). along_inside h s next (d ∷ ds)) (spot_in h s id c)
  where
    go : ((next : List ℕ) → SpotInside h (length s) (spot_along h s next (d ∷ ds))) → (r : Option (ℕ × ℕ))
        → SpotInside h (length s) (beyond r (λ at. spot_along h s (take h (drop at s)) (d ∷ ds)))
    go ih (Some (mode, at)) = ih (take h (drop at s))
    go ih None = tt

pub walked-inside : (h : ℕ) (s id : List ℕ) (cs : List (List ℕ)) (spot : Option (ℕ × ℕ)) → spot ≡ spot_along h s id cs → SpotInside h (length s) spot
walked-inside h s id cs spot e = rw e (along_inside h s id cs)

-- ---- the answer

module _ (h : ℕ) (s : List ℕ) (spot : Option (ℕ × ℕ)) where
  pub taken_none : spot ≡ None → taken_from h s spot ≡ missed 15
  unfolding taken_from
  taken_none e = rw e

  module _ (mode at : ℕ) (e : spot ≡ Some (mode, at)) where
    pub given_inside : (len : ℕ) → SpotInside h len spot → at + h ≤ len
    given_inside len p = rw e at p

    pub taken-there : (id : List ℕ) → id ≡ sets (replicate 32 0) 0 (take (at + h - at) (drop at s))
        → taken_from h s spot ≡ record { verdict = fine; mode = mode; id = id; size = h }
    unfolding taken_from
    taken-there id i =
        let k : at + h - at ≡ h = omega arith in
        let f : id ≡ sets (replicate 32 0) 0 (take h (drop at s)) = i ∙ ap (λ (n : ℕ). sets (replicate 32 0) 0 (take n (drop at s))) k in
        rw (e, f)

-- the components of a path that is not empty
components-some : (p : List ℕ) → (length p ≡ 0 → ⊥) → components p ≡ pieces p
components-some [] n = absurd (n refl)
components-some (x ∷ xs) n = refl

empty-path : (h : ℕ) (s id p : List ℕ) → length p ≡ 0 → reached_by h s id (components p) ≡ missed 15
unfolding reached_by is_path filled spot_along taken_from
empty-path h s id [] e = refl
empty-path h s id (x ∷ xs) e = absurd (omega arith)

module _ (h : ℕ) (s id path : List ℕ) where
  pub reach_empty : length path ≡ 0 → reached_by h s id (components path) ≡ missed 15
  reach_empty e = empty-path h s id path e

  module _ (n : length path ≡ 0 → ⊥) (b : Bool) (e : b ≡ is_path (pieces path)) where
    pub reach_wrong : b ≡ false → reached_by h s id (components path) ≡ missed 26
    unfolding reached_by
    reach_wrong t = rw (components-some path n, ← e, t)

    pub reach_right : b ≡ true → (spot : Option (ℕ × ℕ)) → spot ≡ spot_along h s id (pieces path) → reached_by h s id (components path) ≡ taken_from h s spot
    unfolding reached_by
    reach_right t spot g = rw (components-some path n, ← e, t, ← g)
