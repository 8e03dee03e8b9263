-- The ways through the leaves that take whole entries of a piece. Assumes nothing.
use Prim.Native.Nat.{ℕ, suc, ◌+◌, ◌-◌, ◌≤◌, ◌<◌}
use native.Mathlib.Omega.{arith}
use mathlib.Core.Path.{◌≡◌, refl, ap, sym, ◌∙◌}
use mathlib.Core.Bool.{Bool}
use mathlib.Core.List.{List}
use lib.ListN.{length}
use borrow.Author.Tests.{eq-eqb, ne_eqb, lt-ltb, le-ltb}
use Rattle.ground.specs.Basics.{pick, part}
use Rattle.ground.specs.Verdict.{most_records}
use Rattle.arriving.specs.Feed.{most_held}
use Rattle.piece_seen.specs.Whole.{seen_at}
use Rattle.piece_seen.specs.declared.Seen.{Seen}
use Rattle.piece_seen.proofs.Whole.{lies, lies_within}
use Rattle.piece_place.specs.Place.{held_after}
use Rattle.piece_place.proofs.Placing.{Put}
use Rattle.piece_run.specs.Runs.{Going, going, run_after, placed_in, taken_in, more_by, one_more, all_from, all_of}
use Rattle.piece_run.specs.declared.Run.{Run}
use Rattle.doubles.specs.declared.Misplaced.{Misplaced}
use Rattle.doubles.specs.declared.Misplaced.TheVariants.{Double, NotAfter}
use Rattle.std.specs.Prelude.{Option, None, Some, Err, Ok, Result}

-- ---- one whole entry more

-- an entry that is seen lies inside
pub seen-inside : (s : List ℕ) (i h : ℕ) (e : Seen) → Some e ≡ seen_at s i h → (e.start ≤ e.end) × (e.end ≤ length s) × (e.end + 1 + h ≤ length s)
seen-inside s i h e q = lies_within s i h e (lies s i h e q)

-- a run, the held name and the open names are those of another
abbrev pub Are : Run → List ℕ → List ℕ → Going → Type 0
Are r held ends g = (r ≡ g.run) × ((held ≡ g.held) × (ends ≡ g.ends))

module _ (s : List ℕ) (h : ℕ) (r : Run) (held ends : List ℕ) where
  pub more-none : None ≡ seen_at s r.next h → Are r held ends (one_more s h (going r held ends))
  unfolding one_more
  more-none q =
      let x : more_by (going r held ends) s h (seen_at s r.next h) ≡ going r held ends = ap (more_by (going r held ends) s h) (sym q) in
      rw x (refl, (refl, refl))

  module _ (e : Seen) (q : Some e ≡ seen_at s r.next h) (p : Result ℕ Misplaced) (left after : List ℕ)
      (w : Put held ends r.last r.ended (part e.start e.end s) e.folder p left after) where
    pub more-is : Are (run_after r h e p) after left (one_more s h (going r held ends))
    unfolding one_more
    more-is =
        let x : more_by (going r held ends) s h (seen_at s r.next h) ≡ taken_in (going r held ends) s h e
        = ap (more_by (going r held ends) s h) (sym q) in
        rw x (
          ap (run_after r h e) w.0,
          (w.1.1 ∙ ap (λ (y : Result ℕ Misplaced). held_after y held (part e.start e.end s)) w.0, w.1.0),
        )

    pub more-fine : (k : ℕ) → p ≡ Ok k → Are (run_after r h e (Ok k)) after left (one_more s h (going r held ends))
    more-fine k u = rw u at more-is

    pub more-not : p ≡ Err NotAfter → Are r after left (one_more s h (going r held ends))
    more-not u = rw u at more-is

    pub more_double : p ≡ Err Double → Are (run_after r h e (Err Double)) after left (one_more s h (going r held ends))
    more_double u = rw u at more-is

-- its name can be held, and a run that goes on has one entry more
module _ (s : List ℕ) (h : ℕ) (g : Going) where
  fits-placed : (e : Seen) → e.end - e.start ≤ most_held → g.run.last.size ≤ most_held → (p : Result ℕ Misplaced)
      → (run_after g.run h e p).last.size ≤ most_held
  fits-placed e l f (Ok k) = l
  fits-placed e l f (Err NotAfter) = f
  fits-placed e l f (Err Double) = f

  fits_by : (o : Option Seen) → ((e : Seen) → Some e ≡ o → e.end - e.start ≤ most_held) → g.run.last.size ≤ most_held
      → (more_by g s h o).run.last.size ≤ most_held
  fits_by None l f = f
  fits_by (Some e) l f = fits-placed e (l e refl) f (placed_in g s e)

  pub one-fits : g.run.last.size ≤ most_held → (one_more s h g).run.last.size ≤ most_held
  unfolding one_more
  one-fits f = fits_by (seen_at s g.run.next h) (λ e q. (lies s g.run.next h e q).small) f

  count-placed : (e : Seen) (p : Result ℕ Misplaced) → ((run_after g.run h e p).next ≡ g.run.next → ⊥) → (run_after g.run h e p).count ≡ g.run.count + 1
  count-placed e (Ok k) n = refl
  count-placed e (Err NotAfter) n = absurd (n refl)
  count-placed e (Err Double) n = absurd (n refl)

  count_by : (o : Option Seen) → ((more_by g s h o).run.next ≡ g.run.next → ⊥) → (more_by g s h o).run.count ≡ g.run.count + 1
  count_by None n = absurd (n refl)
  count_by (Some e) n = count-placed e (placed_in g s e) n

  pub one-counts : ((one_more s h g).run.next ≡ g.run.next → ⊥) → (one_more s h g).run.count ≡ g.run.count + 1
  unfolding one_more
  one-counts n = count_by (seen_at s g.run.next h) n

  from-same : (n : ℕ) → n ≡ suc (n - 1) → (one_more s h g).run.next ≡ g.run.next → all_from n s h g ≡ one_more s h g
  unfolding all_from
  from-same n z e =
      ap (λ (k : ℕ). all_from k s h g) z
      ∙ ap (λ (v : Bool). pick v (one_more s h g) (all_from (n - 1) s h (one_more s h g))) (eq-eqb (one_more s h g).run.next g.run.next e)

  from_next : (n : ℕ) → n ≡ suc (n - 1) → ((one_more s h g).run.next ≡ g.run.next → ⊥) → all_from n s h g ≡ all_from (n - 1) s h (one_more s h g)
  unfolding all_from
  from_next n z e =
      ap (λ (k : ℕ). all_from k s h g) z
      ∙ ap (λ (v : Bool). pick v (one_more s h g) (all_from (n - 1) s h (one_more s h g))) (ne_eqb (one_more s h g).run.next g.run.next e)

  from-none : (n : ℕ) → n ≡ 0 → all_from n s h g ≡ g
  unfolding all_from
  from-none n z = ap (λ (k : ℕ). all_from k s h g) z

-- ---- all of them

are_is : (r : Run) (held ends : List ℕ) (g : Going) → Are r held ends g → going r held ends ≡ g
are_is r held ends g a = rw (a.0, a.1.0, a.1.1)

is_are : (r : Run) (held ends : List ℕ) (g : Going) → going r held ends ≡ g → Are r held ends g
is_are r held ends g a = (ap (λ (x : Going). x.run) a, (ap (λ (x : Going). x.held) a, ap (λ (x : Going). x.ends) a))

module _ (s : List ℕ) (h : ℕ) (r : Run) (held ends : List ℕ) where
  pub all_none : most_held < r.last.size → Are r held ends (all_of s h (going r held ends))
  unfolding all_of
  all_none l =
      is_are r held ends _
      (sym (ap (λ (v : Bool). pick v (going r held ends) (all_from (most_records - r.count) s h (going r held ends))) (lt-ltb most_held r.last.size l)))

  pub all_begin : r.last.size ≤ most_held → all_of s h (going r held ends) ≡ all_from (most_records - r.count) s h (going r held ends)
  unfolding all_of
  all_begin l = ap (λ (v : Bool). pick v (going r held ends) (all_from (most_records - r.count) s h (going r held ends))) (le-ltb most_held r.last.size l)

  -- the turns of the loop, where x is what comes of all
  module _ (x : Going) (inv : x ≡ all_from (most_records - r.count) s h (going r held ends)) where
    pub all_end : most_records ≤ r.count → Are r held ends x
    all_end w = is_are r held ends x (sym (inv ∙ from-none s h (going r held ends) (most_records - r.count) (omega arith)))

    module _ (t : Run) (after left : List ℕ) (few : r.count < most_records) (a : Are t after left (one_more s h (going r held ends))) where
      next-is : (one_more s h (going r held ends)).run.next ≡ t.next
      next-is = sym (ap (λ (y : Run). y.next) a.0)

      pub all_stops : t.next ≡ r.next → Are t after left x
      all_stops e =
          is_are t after left x
          (are_is t after left _ a ∙ sym (inv ∙ from-same s h (going r held ends) (most_records - r.count) (omega arith) (next-is ∙ e)))

      module _ (n : t.next ≡ r.next → ⊥) where
        pub one-counted : t.count ≡ r.count + 1
        one-counted = ap (λ (y : Run). y.count) a.0 ∙ one-counts s h (going r held ends) (λ e. n (sym next-is ∙ e))

        pub all_goes : x ≡ all_from (most_records - t.count) s h (going t after left)
        all_goes =
            let z : most_records - r.count - 1 ≡ most_records - t.count = omega (arith, one-counted) in
            inv ∙ from_next s h (going r held ends) (most_records - r.count) (omega arith) (λ e. n (sym next-is ∙ e))
            ∙ ap (λ (k : ℕ). all_from k s h (one_more s h (going r held ends))) z
            ∙ ap (all_from (most_records - t.count) s h) (sym (are_is t after left _ a))

      pub all_fits : r.last.size ≤ most_held → t.last.size ≤ most_held
      all_fits f = rw (ap (λ (y : Run). y.last.size) a.0) (one-fits s h (going r held ends) f)
