-- The next entry and the step, way by way: what the functions cite, and where a step leads. Assumes nothing.
use Prim.Native.Nat.{ℕ, ◌+◌, ◌-◌, ◌≤◌, ◌<◌}
use mathlib.Core.Bool.{Bool, true, false}
use mathlib.Core.Path.{◌≡◌, refl, ap, sym, subst, ◌∙◌}
use mathlib.Core.List.{List}
use native.Mathlib.Omega.{arith}
use borrow.Author.Tests.{eq-eqb, ne_eqb, le-leb, lt-leb, leb-true}
use lib.Dec.{eqb, leb}
use lib.ListN.{length, drop, length-drop}
use lib.Seq.{length-take-le}
use Rattle.ground.specs.Basics.{pick, part}
use Rattle.ground.specs.Scan.{same_bytes}
use Rattle.ground.specs.declared.Verdict.{Verdict}
use Rattle.order.specs.Order.{name_order}
use Rattle.entry.specs.Record.{folder_of}
use Rattle.entry.specs.Decode.{decode}
use Rattle.entry.specs.declared.EntryRecord.{EntryRecord}
use Rattle.entry.specs.declared.Cursor.{Cursor}
use Rattle.entry.proofs.Laws.{decode-inside}
use Rattle.merge.specs.Merge.{by_order, bytes_of, Within, moved, ahead_of, ahead_at, EntryWithin, AheadWithin, side_of, name_in, id_in, change_of, left_change, right_change, both_of, merge_step, step_at, ChangeWithin, Leads, StepWithin}
use Rattle.merge.specs.declared.Rest.{Rest}
use Rattle.merge.specs.declared.Side.{Side}
use Rattle.merge.specs.declared.Change.{Change}
use Rattle.merge.specs.declared.Step.{Step}
use Rattle.merge.specs.declared.Step.TheVariants as step
use Rattle.std.specs.Prelude.{Err, None, Ok, Option, Result, Some}
use Rattle.std.specs.declared.cmp.Ordering.{Ordering}
use Rattle.std.specs.declared.cmp.Ordering.TheVariants.{Equal, Greater, Less}

pub part_length : (c d : ℕ) (s : List ℕ) → c ≤ d → d ≤ length s → length (part c d s) ≡ d - c
part_length c d s g h = length-take-le (d - c) (drop c s) (omega (arith, length-drop c s))

-- ---- the next entry

module _ (h : ℕ) (s : List ℕ) (c : Rest) where
  pub ahead_none : c.left ≡ 0 → None ≡ ahead_at h s c
  unfolding ahead_at
  ahead_none e = rw (eq-eqb _ _ e)

  module _ (e : c.left ≡ 0 → ⊥) where
    pub ahead_crossed : c.end < c.start → None ≡ ahead_at h s c
    unfolding ahead_at
    ahead_crossed g = rw (ne_eqb _ _ e, lt-leb _ _ g)

    module _ (g : c.start ≤ c.end) where
      pub ahead_outside : length s < c.end → None ≡ ahead_at h s c
      unfolding ahead_at
      ahead_outside l = rw (ne_eqb _ _ e, le-leb _ _ g, lt-leb _ _ l)

      module _ (l : c.end ≤ length s) (d : Result (EntryRecord × Cursor) Verdict) (q : d ≡ decode h c.at (drop c.at (bytes_of s c))) where
        pub ahead-is : ahead_of c d ≡ ahead_at h s c
        unfolding ahead_at
        ahead-is = rw (ne_eqb _ _ e, le-leb _ _ g, le-leb _ _ l, ← q)

        pub ahead-broken : (v : Verdict) → d ≡ Err v → None ≡ ahead_at h s c
        unfolding ahead_of
        ahead-broken v t = ap (ahead_of c) (sym t) ∙ ahead-is

        module _ (x : EntryRecord) (next : Cursor) (t : d ≡ Ok (x, next)) where
          pub ahead-whole : Some (moved c.start x, record { start = c.start; end = c.end; at = next.at; left = c.left - 1 }) ≡ ahead_at h s c
          unfolding ahead_of
          ahead-whole = ap (ahead_of c) (sym t) ∙ ahead-is

          ahead-inside : (c.start + x.name_start ≤ c.start + x.name_end) × (c.start + x.name_end ≤ length s) × (c.start + x.id_start + h ≤ length s)
          ahead-inside =
              let f = decode-inside h (bytes_of s c) c.at x next (sym q ∙ t) in
              let n : length (bytes_of s c) ≡ c.end - c.start = part_length c.start c.end s g l in
              (omega (arith, f.1), omega (arith, f.2, f.3, f.4), omega (arith, f.2, f.3, f.4))

          -- its positions in the bundle are numbers
          pub ahead-fits : length s < 18446744073709551616
              → (c.start + x.name_start < 18446744073709551616) × (c.start + x.name_end < 18446744073709551616)
              × (c.start + x.id_start < 18446744073709551616) × (c.start + x.text_start < 18446744073709551616)
          ahead-fits b =
              let f = decode-inside h (bytes_of s c) c.at x next (sym q ∙ t) in
              let n : length (bytes_of s c) ≡ c.end - c.start = part_length c.start c.end s g l in
              let i = ahead-inside in
              (omega (arith, i.0, i.1), omega (arith, i.1), omega (arith, i.2), omega (arith, f.0, f.1, f.2, f.3, f.4, f.5))

-- the next entry lies inside the bundle
pub ahead_within : (h : ℕ) (s : List ℕ) (c : Rest) → AheadWithin h s c (ahead_at h s c)
unfolding ahead_at ahead_of
ahead_within h s c = go (eqb c.left 0) refl (leb c.start c.end) refl (leb c.end (length s)) refl
  where
    decoded : (c.left ≡ 0 → ⊥) → c.start ≤ c.end → c.end ≤ length s → (d : Result (EntryRecord × Cursor) Verdict) → d ≡ decode h c.at (drop c.at (bytes_of s c)) → AheadWithin h s c (ahead_of c d)
    decoded e g l (Err v) q = tt
    decoded e g l (Ok (x, next)) q = (ahead-inside h s c e g l (Ok (x, next)) q x next refl, (g, l), omega arith)

    go : (t : Bool) → eqb c.left 0 ≡ t → (u : Bool) → leb c.start c.end ≡ u → (v : Bool) → leb c.end (length s) ≡ v
        → AheadWithin h s c (pick t None (pick u (pick v (ahead_of c (decode h c.at (drop c.at (bytes_of s c)))) None) None))
    go true p u q v r = tt
    go false p false q v r = tt
    go false p true q false r = tt
    go false p true q true r = decoded (λ z. off (sym p ∙ eq-eqb _ _ z)) (leb-true _ _ q) (leb-true _ _ r) (decode h c.at (drop c.at (bytes_of s c))) refl
      where
        off : false ≡ true → ⊥
        off e = let z : ◌≡◌ {A = ℕ} 0 1 = cc in absurd (omega arith)

-- ---- an entry of both

pub side-within : (h len : ℕ) (e : EntryRecord) (x : Side) → x ≡ side_of h e → e.id_start + h ≤ len → (x.id_start ≤ x.id_end) × (x.id_end ≤ len)
side-within h len e x q g = rw q (omega arith, g)

pub one-sided : (e : EntryRecord) (x y : Side) (d : Bool) {u v : Side} {t : Bool} → x ≡ u → y ≡ v → d ≡ t → change_of e x y d ≡ change_of e u v t
one-sided e x y d p q r = rw (p, q, r)

module _ (h : ℕ) (s : List ℕ) (a b : EntryRecord) (l r : Rest) (x y : Side) (ex : x ≡ side_of h a) (ey : y ≡ side_of h b) (t : Bool) (e : t ≡ same_bytes (id_in s x) (id_in s y)) where
  same-is : same_bytes (id_in s (side_of h a)) (id_in s (side_of h b)) ≡ t
  same-is = sym (e ∙ ap (λ (u : Side). same_bytes (id_in s u) (id_in s y)) ex ∙ ap (λ (u : Side). same_bytes (id_in s (side_of h a)) (id_in s u)) ey)

  differs_is : (d : Bool) (f : Bool) → d ≡ f → step.Differs (change_of a x y d) l r ≡ step.Differs (change_of a (side_of h a) (side_of h b) f) l r
  differs_is d f q = ap (λ (c : Change). step.Differs c l r) (one-sided a x y d ex ey q)

  pub both-same : t ≡ true → a.mode ≡ b.mode → step.Same l r ≡ both_of h s a b l r
  unfolding both_of
  both-same p q = rw (same-is, p, eq-eqb _ _ q)

  pub both-mode : t ≡ true → (a.mode ≡ b.mode → ⊥) → step.Differs (change_of a x y false) l r ≡ both_of h s a b l r
  unfolding both_of
  both-mode p q = differs_is false false refl ∙ rw (same-is, p, ne_eqb _ _ q)

  pub both-id : t ≡ false → (d : Bool) → d ≡ folder_of a → step.Differs (change_of a x y d) l r ≡ both_of h s a b l r
  unfolding both_of
  both-id p d q = differs_is d (folder_of a) q ∙ rw (same-is, p)

pub order_is : (o : Ordering) (x : List ℕ) (p : Bool) (y : List ℕ) (q : Bool) {t u : Bool} → o ≡ name_order x p y q → p ≡ t → q ≡ u → o ≡ name_order x t y u
order_is o x p y q e f g = e ∙ rw (f, g)

-- ---- the step, way by way

module _ (h : ℕ) (s : List ℕ) (l r : Rest) (x y : Option (EntryRecord × Rest)) (ex : x ≡ ahead_at h s l) (ey : y ≡ ahead_at h s r) where
  step_is : step_at h s l r ≡ merge_step h s l r x y
  unfolding step_at
  step_is = rw (← ex, ← ey)

  pub step-done : x ≡ None → y ≡ None → step.Done ≡ step_at h s l r
  unfolding merge_step
  step-done p q = sym (step_is ∙ rw (p, q))

  pub step-right_end : x ≡ None → (b : EntryRecord) (next : Rest) → y ≡ Some (b, next) → (c : Change) → c ≡ right_change h b → step.Differs c l next ≡ step_at h s l r
  unfolding merge_step
  step-right_end p b next q c e = sym (step_is ∙ rw (p, q, e))

  pub step-left_end : y ≡ None → (a : EntryRecord) (next : Rest) → x ≡ Some (a, next) → (c : Change) → c ≡ left_change h a → step.Differs c next r ≡ step_at h s l r
  unfolding merge_step
  step-left_end p a next q c e = sym (step_is ∙ rw (q, p, e))

  module _ (a : EntryRecord) (next : Rest) (p : x ≡ Some (a, next)) (b : EntryRecord) (other : Rest) (q : y ≡ Some (b, other))
      (o : Ordering) (eo : o ≡ name_order (name_in s a) (folder_of a) (name_in s b) (folder_of b)) where
    pub step_left : o ≡ Less → (c : Change) → c ≡ left_change h a → step.Differs c next r ≡ step_at h s l r
    unfolding merge_step
    step_left k c e = sym (step_is ∙ rw (p, q, ← eo, k, e))

    pub step_right : o ≡ Greater → (c : Change) → c ≡ right_change h b → step.Differs c l other ≡ step_at h s l r
    unfolding merge_step
    step_right k c e = sym (step_is ∙ rw (p, q, ← eo, k, e))

    pub step_both : o ≡ Equal → (t : Step) → t ≡ both_of h s a b next other → t ≡ step_at h s l r
    unfolding merge_step
    step_both k t e = sym (step_is ∙ rw (p, q, ← eo, k, e))

-- the entry that was found lies inside the bundle
pub entry_in : (h : ℕ) (s : List ℕ) (c : Rest) (x : Option (EntryRecord × Rest)) (e : EntryRecord) (next : Rest) → x ≡ ahead_at h s c → x ≡ Some (e, next) → EntryWithin h (length s) e
entry_in h s c x e next q k = (subst (λ (u : Option (EntryRecord × Rest)). AheadWithin h s c u) (sym q ∙ k) (ahead_within h s c)).0

-- an id that lies inside ends at a number
pub id-fits : (h len : ℕ) (e : EntryRecord) → EntryWithin h len e → len < 18446744073709551616 → e.id_start + h < 18446744073709551616
id-fits h len e f g = omega (arith, f.2)

-- ---- where a step leads

both-within : (h : ℕ) (s : List ℕ) (l r : Rest) (a b : EntryRecord) (l' r' : Rest) → EntryWithin h (length s) a → EntryWithin h (length s) b → Leads s l r l' r'
    → StepWithin s l r (both_of h s a b l' r')
unfolding both_of
both-within h s l r a b l' r' f g w = cases (same_bytes (id_in s (side_of h a)) (id_in s (side_of h b))) (eqb a.mode b.mode)
  where
    change_in : (deep : Bool) → ChangeWithin (length s) (change_of a (side_of h a) (side_of h b) deep)
    change_in deep = (f.0, f.1, (omega arith, f.2), (omega arith, g.2))

    cases : (t u : Bool) → StepWithin s l r (pick t (pick u (step.Same l' r') (step.Differs (change_of a (side_of h a) (side_of h b) false) l' r')) (step.Differs (change_of a (side_of h a) (side_of h b) (folder_of a)) l' r'))
    cases true true = w
    cases true false = (change_in false, w)
    cases false true = (change_in (folder_of a), w)
    cases false false = (change_in (folder_of a), w)

module _ (h : ℕ) (s : List ℕ) (l r : Rest) (wl : Within s l) (wr : Within s r) where
  left_in : (a : EntryRecord) (next : Rest) → AheadWithin h s l (Some (a, next)) → ChangeWithin (length s) (left_change h a) × Leads s l r next r
  left_in a next f = ((f.0.0, f.0.1, (omega arith, f.0.2), (omega arith, omega arith)), (f.1, wr, omega (arith, f.2)))

  right_in : (b : EntryRecord) (next : Rest) → AheadWithin h s r (Some (b, next)) → ChangeWithin (length s) (right_change h b) × Leads s l r l next
  right_in b next f = ((f.0.0, f.0.1, (omega arith, omega arith), (omega arith, f.0.2)), (wl, f.1, omega (arith, f.2)))

  by-order : (o : Ordering) (x y z : Step) → StepWithin s l r x → StepWithin s l r y → StepWithin s l r z → StepWithin s l r (by_order o x y z)
  by-order Less x y z p q t = p
  by-order Equal x y z p q t = q
  by-order Greater x y z p q t = t

  steps : (x y : Option (EntryRecord × Rest)) → AheadWithin h s l x → AheadWithin h s r y → StepWithin s l r (merge_step h s l r x y)
  unfolding merge_step
  steps None None p q = tt
  steps None (Some (b, next)) p q = right_in b next q
  steps (Some (a, next)) None p q = left_in a next p
  steps (Some (a, next)) (Some (b, other)) p q =
      by-order (name_order (name_in s a) (folder_of a) (name_in s b) (folder_of b)) _ _ _ (left_in a next p)
      (both-within h s l r a b next other p.0 q.0 (p.1, q.1, omega (arith, p.2, q.2))) (right_in b other q)

  pub step-within : (t : Step) → t ≡ step_at h s l r → StepWithin s l r t
  unfolding step_at
  step-within t e = rw e (steps (ahead_at h s l) (ahead_at h s r) (ahead_within h s l) (ahead_within h s r))

  module _ (t : Step) (e : t ≡ step_at h s l r) where
    pub same_leads : (l' r' : Rest) → t ≡ step.Same l' r' → Leads s l r l' r'
    same_leads l' r' k = subst (λ (u : Step). StepWithin s l r u) k (step-within t e)

    pub differs_leads : (c : Change) (l' r' : Rest) → t ≡ step.Differs c l' r' → ChangeWithin (length s) c × Leads s l r l' r'
    differs_leads c l' r' k = subst (λ (u : Step). StepWithin s l r u) k (step-within t e)
