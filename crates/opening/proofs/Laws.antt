-- A tree that is opened, and two of them, way by way. Assumes nothing.
use Prim.Native.Nat.{ℕ, zero, suc, ◌+◌, ◌-◌, ◌≤◌}
use mathlib.Core.Bool.{Bool, true, false, false≢true}
use mathlib.Core.Path.{◌≡◌, refl, ap, sym, subst, ◌∙◌}
use mathlib.Core.List.{List, [], ◌∷◌}
use native.Mathlib.Omega.{arith}
use borrow.Author.Tests.{eq-eqb, ne_eqb}
use lib.Dec.{eqb, leb}
use lib.ListN.{length, drop}
use Rattle.ground.specs.Basics.{pick, part}
use Rattle.ground.specs.Verdict.{verdict, most_bytes, most_records}
use Rattle.ground.specs.declared.Verdict.{Verdict}
use Rattle.frame.specs.declared.Header.{Header}
use Rattle.frame.specs.declared.Frame.{Frame}
use Rattle.entry.specs.Decode.{decode}
use Rattle.reading.specs.Listing.{entry, follow, plain, listing, tally}
use Rattle.reading.proofs.Laws.{plain-none, tally-length}
use Rattle.rules.specs.Rules.{git_rules}
use Rattle.strict.specs.Strict.{strictly, strict_count}
use Rattle.strict.proofs.Laws.{strict-plain}
use Rattle.seeking.specs.Index.{IsIndex, seek_in}
use Rattle.merge.specs.declared.Rest.{Rest}
use Rattle.opening.specs.Opening.{no_rest, open_counted, open_placed, open_by, open_at, open_in, open_level, pair_of, open_both, OpenWithin}
use Rattle.seeking.proofs.Indexed.{sought}
use Rattle.seeking.proofs.Laws.{seek_inside}
use Rattle.entry.specs.declared.Cursor.{Cursor}
use Rattle.entry.specs.declared.EntryRecord.{EntryRecord}
use Rattle.std.specs.Prelude.{Err, None, Ok, Option, Result, Some}
use Rattle.ground.proofs.Pairs.{ok_parts}

-- ---- a listing of n entries is read with n as its bound

tally-exact : (h k at : ℕ) (b : List ℕ) (m n : ℕ) → tally m (plain h k at b) ≡ Ok n → (plain h (n - m) at b ≡ plain h k at b) × (n ≤ m + k)
unfolding plain follow tally
tally-exact h zero at [] m n t = let e : m ≡ n = cc in (plain-none h (n - m) at, omega arith)
tally-exact h (suc k) at [] m n t = let e : m ≡ n = cc in (plain-none h (n - m) at, omega arith)
tally-exact h zero at (x ∷ xs) m n t = let z : ◌≡◌ {A = ℕ} 0 1 = cc in absurd (omega arith)
tally-exact h (suc k) at (x ∷ xs) m n t = cases (λ to b u. tally-exact h k to b (m + 1) n u) (decode h at (x ∷ xs)) refl t
  where
    cases : ((to : ℕ) (b : List ℕ) → tally (m + 1) (plain h k to b) ≡ Ok n → (plain h (n - (m + 1)) to b ≡ plain h k to b) × (n ≤ m + 1 + k))
        → (d : Result (EntryRecord × Cursor) Verdict) → decode h at (x ∷ xs) ≡ d → tally m (follow (plain h k) at (x ∷ xs) d) ≡ Ok n
        → (plain h (n - m) at (x ∷ xs) ≡ follow (plain h k) at (x ∷ xs) d) × (n ≤ m + suc k)
    cases rec (Err v) q t = let z : ◌≡◌ {A = ℕ} 0 1 = cc in absurd (omega arith)
    cases rec (Ok (e, next)) q t =
        more (omega (arith, tally-length (m + 1) (plain h k next.at (drop (next.at - at) (x ∷ xs))) n t)) (rec next.at (drop (next.at - at) (x ∷ xs)) t)
      where
        more : m + 1 ≤ n → (plain h (n - (m + 1)) next.at (drop (next.at - at) (x ∷ xs)) ≡ plain h k next.at (drop (next.at - at) (x ∷ xs))) × (n ≤ m + 1 + k)
            → (plain h (n - m) at (x ∷ xs) ≡ entry at e (plain h k next.at (drop (next.at - at) (x ∷ xs)))) × (n ≤ m + suc k)
        more g f =
            let u : n - m ≡ suc (n - (m + 1)) = omega arith in
            (rw (u, q, f.0), omega (arith, f.1))

module _ (k h : ℕ) (b : List ℕ) (n : ℕ) (t : strict_count k h b ≡ Ok n) where
  tallied : tally 0 (strictly (git_rules k) h b) ≡ Ok n
  unfolding strict_count
  tallied = go (leb (length b) most_bytes) t
    where
      go : (v : Bool) → pick v (tally 0 (strictly (git_rules k) h b)) (Err (verdict 2 0)) ≡ Ok n → tally 0 (strictly (git_rules k) h b) ≡ Ok n
      go true e = e
      go false e = let z : ◌≡◌ {A = ℕ} 0 1 = cc in absurd (omega arith)

  strict-is : strictly (git_rules k) h b ≡ listing h b
  strict-is = strict-plain (git_rules k) h b n tallied

  exact : (plain h (n - 0) 0 b ≡ plain h most_records 0 b) × (n ≤ 0 + most_records)
  exact = tally-exact h most_records 0 b 0 n (ap (tally 0) (sym strict-is) ∙ tallied)

  pub strict-exact : strictly (git_rules k) h b ≡ plain h n 0 b
  strict-exact =
      let z : n - 0 ≡ n = omega arith in
      let e : plain h n 0 b ≡ plain h most_records 0 b = rw z at exact.0 in
      strict-is ∙ sym e

  pub strict-few : n ≤ 1048576
  strict-few = omega (arith, exact.1)

-- ---- a tree that is opened

module _ (k : Header) (s id : List ℕ) where
  pub open_empty : (p : Option Frame) → length id ≡ 0 → Ok no_rest ≡ open_by k s id p
  unfolding open_by
  open_empty p e = rw (eq-eqb _ _ e)

  module _ (e : length id ≡ 0 → ⊥) (p : Option Frame) {p' : Option Frame} (q : p ≡ p') where
    placed-is : open_placed k s p ≡ open_by k s id p'
    unfolding open_by
    placed-is = rw (ne_eqb _ _ e, q)

    pub open_absent : p ≡ None → Err (verdict 28 0) ≡ open_by k s id p'
    unfolding open_placed
    open_absent u = ap (open_placed k s) (sym u) ∙ placed-is

    pub open_found : (f : Frame) → p ≡ Some f → (x : Result Rest Verdict) → x ≡ open_placed k s (Some f) → x ≡ open_by k s id p'
    open_found f u x v = v ∙ ap (open_placed k s) (sym u) ∙ placed-is

module _ (k : Header) (s : List ℕ) (f : Frame) where
  pub object_other : (f.kind ≡ 2 → ⊥) → Err (verdict 28 0) ≡ open_placed k s (Some f)
  unfolding open_placed
  object_other z = rw (ne_eqb _ _ z)

  module _ (z : f.kind ≡ 2) (c : Result ℕ Verdict) (t : c ≡ strict_count k.rules k.h (part f.start f.end s)) where
    counted_is : open_counted f.start f.end c ≡ open_placed k s (Some f)
    unfolding open_placed
    counted_is = rw (eq-eqb _ _ z, t)

    pub object_stopped : (v : Verdict) → c ≡ Err v → Err v ≡ open_placed k s (Some f)
    unfolding open_counted
    object_stopped v w = ap (open_counted f.start f.end) (sym w) ∙ counted_is

    pub object_total : (n : ℕ) → c ≡ Ok n → Ok (record { start = f.start; end = f.end; at = 0; left = n }) ≡ open_placed k s (Some f)
    unfolding open_counted
    object_total n w = ap (open_counted f.start f.end) (sym w) ∙ counted_is

-- with any index of the bundle the same tree is opened
pub open_indexed : (k : Header) (s id index : List ℕ) → IsIndex s k index → open_in k s id index ≡ open_at k s id
open_indexed k s id index x = ap (open_by k s id) (sought s id k index x)

-- it lies inside, whatever the index is
pub open-within : (k : Header) (s id index : List ℕ) → OpenWithin s (open_in k s id index)
unfolding open_by open_placed open_counted
open-within k s id index = empty (eqb (length id) 0)
  where
    counted : (f : Frame) → (f.start ≤ f.end) × (f.end ≤ length s) → (c : Result ℕ Verdict) → strict_count k.rules k.h (part f.start f.end s) ≡ c
        → OpenWithin s (open_counted f.start f.end c)
    counted f w (Err v) t = tt
    counted f w (Ok n) t = (w, strict-few k.rules k.h (part f.start f.end s) n t)

    kinds : (f : Frame) → (f.start ≤ f.end) × (f.end ≤ length s) → (t : Bool)
        → OpenWithin s (pick t (open_counted f.start f.end (strict_count k.rules k.h (part f.start f.end s))) (Err (verdict 28 0)))
    kinds f w true = counted f w (strict_count k.rules k.h (part f.start f.end s)) refl
    kinds f w false = tt

    placed : (p : Option Frame) → p ≡ seek_in k.h s index id → OpenWithin s (open_placed k s p)
    placed None e = tt
    placed (Some f) e = kinds f (seek_inside k.h s index id (Some f) f e refl) (eqb f.kind 2)

    empty : (t : Bool) → OpenWithin s (pick t (Ok no_rest) (open_placed k s (seek_in k.h s index id)))
    empty true = ((omega arith, omega arith), omega arith)
    empty false = placed (seek_in k.h s index id) refl

-- ---- two trees

-- the depth is tested before either is opened
pub level_none : (k : Header) (s id : List ℕ) (depth : ℕ) (index : List ℕ) → depth ≡ 0 → Err (verdict 27 0) ≡ open_level k s id depth index
level_none k s id depth index e = rw (eq-eqb _ _ e)

pub level_some : (k : Header) (s id : List ℕ) (depth : ℕ) (index : List ℕ) (x : Result Rest Verdict) → (depth ≡ 0 → ⊥) → x ≡ open_in k s id index → x ≡ open_level k s id depth index
level_some k s id depth index x e q = q ∙ rw (ne_eqb _ _ e)

module _ (k : Header) (s left right : List ℕ) (depth : ℕ) (index : List ℕ) where
  both_is : pair_of (open_level k s left depth index) (open_level k s right depth index) ≡ open_both k s left right depth index
  unfolding open_both pair_of
  both_is = go (eqb depth 0)
    where
      go : (t : Bool) → pair_of (pick t (Err (verdict 27 0)) (open_in k s left index)) (pick t (Err (verdict 27 0)) (open_in k s right index))
          ≡ pick t (Err (verdict 27 0)) (pair_of (open_in k s left index) (open_in k s right index))
      go true = refl
      go false = refl

  module _ (x : Result Rest Verdict) (ex : x ≡ open_level k s left depth index) where
    left_is : {c : Result Rest Verdict} → x ≡ c → pair_of c (open_level k s right depth index) ≡ open_both k s left right depth index
    left_is {c} q = ap (λ (u : Result Rest Verdict). pair_of u (open_level k s right depth index)) (sym q ∙ ex) ∙ both_is

    pub both_left : (v : Verdict) → x ≡ Err v → Err v ≡ open_both k s left right depth index
    unfolding pair_of
    both_left v q = left_is q

    module _ (l : Rest) (q : x ≡ Ok l) (y : Result Rest Verdict) (ey : y ≡ open_level k s right depth index) where
      pub both_right : (w : Verdict) → y ≡ Err w → Err w ≡ open_both k s left right depth index
      unfolding pair_of
      both_right w p = ap (λ (u : Result Rest Verdict). pair_of (Ok l) u) (sym p ∙ ey) ∙ left_is q

      pub both_open : (r : Rest) → y ≡ Ok r → Ok (l, r) ≡ open_both k s left right depth index
      unfolding pair_of
      both_open r p = ap (λ (u : Result Rest Verdict). pair_of (Ok l) u) (sym p ∙ ey) ∙ left_is q

  -- two trees that were opened lie inside
  pub both-within : (l r : Rest) → open_both k s left right depth index ≡ Ok (l, r) → (depth ≡ 0 → ⊥) × OpenWithin s (Ok l) × OpenWithin s (Ok r)
  unfolding open_both pair_of
  both-within l r q = go (eqb depth 0) refl q
    where
      two : (a b : Result Rest Verdict) → OpenWithin s a → OpenWithin s b → pair_of a b ≡ Ok (l, r) → OpenWithin s (Ok l) × OpenWithin s (Ok r)
      two (Err v) b i j p = let z : ◌≡◌ {A = ℕ} 0 1 = cc in absurd (omega arith)
      two (Ok c) (Err w) i j p = let z : ◌≡◌ {A = ℕ} 0 1 = cc in absurd (omega arith)
      two (Ok c) (Ok d) i j p =
          let w = ok_parts p in
          (subst (λ (u : Rest). OpenWithin s (Ok u)) w.0 i, subst (λ (u : Rest). OpenWithin s (Ok u)) w.1 j)

      go : (t : Bool) → eqb depth 0 ≡ t → pick t (Err (verdict 27 0)) (pair_of (open_in k s left index) (open_in k s right index)) ≡ Ok (l, r)
          → (depth ≡ 0 → ⊥) × OpenWithin s (Ok l) × OpenWithin s (Ok r)
      go true n p = let z : ◌≡◌ {A = ℕ} 0 1 = cc in absurd (omega arith)
      go false n p =
          let w = two (open_in k s left index) (open_in k s right index) (open-within k s left index) (open-within k s right index) p in
          (λ z. false≢true (sym n ∙ eq-eqb depth 0 z), w.0, w.1)
