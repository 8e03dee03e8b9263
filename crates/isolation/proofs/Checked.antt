-- A bundle can be used exactly where its check is done. Assumes nothing.
use Prim.Native.Nat.{ℕ, ◌≤◌, ◌<◌}
use native.Mathlib.Decide.{dec_lt}
use native.Mathlib.Omega.{arith}
use mathlib.Core.Path.{◌≡◌, refl, ap, sym, subst, ◌∙◌}
use mathlib.Core.Bool.{Bool, true, false}
use mathlib.Core.List.{List, map}
use mathlib.Core.Logic.{◌↔◌}
use lib.Dec.{eqb}
use lib.ListN.{length}
use Rattle.ground.specs.Basics.{pick}
use Rattle.ground.specs.Verdict.{verdict, most_bytes}
use Rattle.ground.proofs.Laws.{size-bytes}
use Rattle.frame.specs.Frame.{head_of, frames_by, frames_in, whole}
use Rattle.frame.specs.declared.Header.{Header}
use Rattle.twice.specs.Ids.{ids_in, repeats}
use Rattle.bundle.specs.Bundle.{Object, object_of, good, bad, bundle_by, bundle_of, ids_of, open_by, open_from, open_of, own_length, told, check_of}
use Rattle.bundle.specs.declared.Checked.{Checked}
use Rattle.bundle.proofs.Laws.{open-within, open_fine}
use Rattle.bundle.proofs.Objects.{ids-of}
use Rattle.isolation.specs.Isolation.{Usable, CheckCalled}
use Rattle.ground.specs.declared.Verdict.{Verdict}
use Rattle.std.specs.Prelude.{Err, None, Ok, Option, Result, Some}

-- an opening that says 0 is open, and what it was made of
record Opened (s : List ℕ) (n : ℕ) (k : Header) : Type 0 where
  within : length s ≤ most_bytes
  head : head_of s ≡ Some k
  framed : whole (frames_by s k) ≡ true
  apart : repeats (ids_in k.h s (frames_by s k)) ≡ false
  made : open_of s n ≡ Ok k

by_open : (s : List ℕ) (n : ℕ) (d : Option Header) → (told (open_by s n d)).verdict.number ≡ 0
    → (k : Header) × (d ≡ Some k) × (whole (frames_by s k) ≡ true) × (repeats (ids_in k.h s (frames_by s k)) ≡ false) × (open_by s n d ≡ Ok k)
unfolding open_by told
by_open s n (Some k) e = go (eqb n k.h) (whole (frames_by s k)) refl (repeats (ids_in k.h s (frames_by s k))) refl e
  where
    go : (a b : Bool) → whole (frames_by s k) ≡ b → (c : Bool) → repeats (ids_in k.h s (frames_by s k)) ≡ c
        → (told (pick a (pick b (pick c (Err (verdict 25 0)) (Ok k)) (Err (verdict 24 0))) (Err (verdict 24 0)))).verdict.number ≡ 0
        → (j : Header) × (Some k ≡ Some j) × (whole (frames_by s j) ≡ true) × (repeats (ids_in j.h s (frames_by s j)) ≡ false)
        × (pick a (pick b (pick c (Err (verdict 25 0)) (Ok k)) (Err (verdict 24 0))) (Err (verdict 24 0)) ≡ Ok j)
    go true true w true r e = absurd (omega arith)
    go true true w false r e = (k, refl, w, r, refl)
    go true false w c r e = absurd (omega arith)
    go false b w c r e = absurd (omega arith)
by_open s n None e = absurd (omega arith)

over : (s : List ℕ) (n : ℕ) → most_bytes < length s → (told (open_of s n)).verdict.number ≡ 0 → ⊥
unfolding open_from told
over s n p e =
    let q : open_of s n ≡ Err (verdict 2 0) = ap (open_from s n) (size-bytes (length s) 0 p) in
    let z : ◌≡◌ {A = ℕ} 2 0 = sym (ap (λ (o : Result Header Verdict). (told o).verdict.number) q) ∙ e in
    omega arith

opened : (s : List ℕ) (n : ℕ) → (told (open_of s n)).verdict.number ≡ 0 → (k : Header) × Opened s n k
opened s n e =
    elim (dec_lt most_bytes (length s)) [
      | yes p ↦ absurd (over s n p e)
      | no p ↦ (
          let w : length s ≤ most_bytes = omega arith in
          let q = open-within s n w in
          let b = by_open s n (head_of s) (sym (ap (λ (o : Result Header Verdict). (told o).verdict.number) q) ∙ e) in
          (b.0, record { within = w; head = b.1; framed = b.2; apart = b.3; made = q ∙ b.4 }))
    ]

-- the objects of a header that nothing is wrong with
abbrev objects_of : List ℕ → Header → List Object
objects_of s k = map (object_of k.h s) (frames_in (frames_by s k))

framed-good : (s : List ℕ) (k : Header) → head_of s ≡ Some k → whole (frames_by s k) ≡ true → bundle_of s ≡ good k.h (objects_of s k)
unfolding bundle_by
framed-good s k e w = rw e (rw w)

told-h : (o : Result Header Verdict) (k : Header) → o ≡ Ok k → (told o).h ≡ k.h
unfolding told
told-h o k e = rw e

told-done : (o : Result Header Verdict) (k : Header) → o ≡ Ok k → (told o).verdict.number ≡ 0
unfolding told
told-done o k e = rw e

opened_usable : (s : List ℕ) (n : ℕ) (k : Header) → Opened s n k → Usable s k.h (objects_of s k)
opened_usable s n k o =
    record { within = o.within; framed = framed-good s k o.head o.framed; apart = ap repeats (ids-of k.h s (frames_by s k)) ∙ o.apart }

usable_done : (s : List ℕ) (h : ℕ) (os : List Object) → Usable s h os → (check_of s).verdict.number ≡ 0
unfolding bundle_by
usable_done s h os u = go (head_of s) refl u.framed
  where
    all : (k : Header) → head_of s ≡ Some k → (v : Bool) → whole (frames_by s k) ≡ v → pick v (good k.h (objects_of s k)) bad ≡ good h os
        → (check_of s).verdict.number ≡ 0
    all k p true w e =
        let eo : objects_of s k ≡ os = cc in
        let r : repeats (ids_in k.h s (frames_by s k)) ≡ false = sym (ap repeats (ids-of k.h s (frames_by s k))) ∙ ap (λ (l : List Object). repeats (ids_of l)) eo ∙ u.apart in
        told-done (open_of s (own_length (head_of s))) k
        (ap (λ (d : Option Header). open_of s (own_length d)) p ∙ open-within s k.h u.within ∙ open_fine s k.h (head_of s) k p refl w r)
    all k p false w e = let z : ◌≡◌ {A = ℕ} 0 1 = cc in absurd (omega arith)

    go : (d : Option Header) → head_of s ≡ d → bundle_by s d ≡ good h os → (check_of s).verdict.number ≡ 0
    go (Some k) p e = all k p (whole (frames_by s k)) refl e
    go None p e = let z : ◌≡◌ {A = ℕ} 0 1 = cc in absurd (omega arith)

pub checked : (s : List ℕ) (r : Checked) → CheckCalled s r → (r.verdict.number ≡ 0) ↔ ((os : List Object) × Usable s r.h os)
checked s r c =
    let z : r ≡ check_of s = rw (← c.lent) c.kept in (
      λ e.
          let o = opened s (own_length (head_of s)) (sym (ap (λ (x : Checked). x.verdict.number) z) ∙ e) in
          let k : Header = o.0 in
          let h : r.h ≡ k.h = ap (λ (x : Checked). x.h) z ∙ told-h (open_of s (own_length (head_of s))) k o.1.made in
          (objects_of s k, subst (λ (n : ℕ). Usable s n (objects_of s k)) (sym h) (opened_usable s (own_length (head_of s)) k o.1)),
      λ u. ap (λ (x : Checked). x.verdict.number) z ∙ usable_done s r.h u.0 u.1,
    )
