-- Laws of the strict reader's leaves: an entry by itself, and its place among the entries read before. Assumes nothing.
use Prim.Native.Nat.{ℕ, zero, suc, ◌-◌, ◌≤◌}
use native.Mathlib.Omega.{arith}
use mathlib.Core.Path.{◌≡◌, refl, sym, ap, subst, ◌∙◌}
use mathlib.Core.Bool.{Bool, true, false}
use mathlib.Core.List.{List, [], ◌∷◌, map}
use lib.Dec.{eqb}
use lib.ListN.{length}
use borrow.Author.Tests.{eqb-true, ne_eqb}
use Rattle.ground.specs.Basics.{pick}
use Rattle.ground.specs.Scan.{free_of}
use Rattle.ground.specs.Verdict.{verdict}
use Rattle.ground.specs.declared.Verdict.{Verdict}
use Rattle.entry.specs.Record.{name_of, folder_of}
use Rattle.entry.specs.Entry.{Entry, entry_of}
use Rattle.entry.specs.declared.EntryRecord.{EntryRecord}
use Rattle.entry.specs.declared.Cursor.{Cursor}
use Rattle.doubles.specs.Doubles.{named_before}
use Rattle.doubles.specs.Stack.{place_of, marks_of}
use Rattle.doubles.proofs.Theorem.{Ascends, name_bytes}
use Rattle.doubles.proofs.Stacking.{marks-length}
use Rattle.doubles.proofs.Placing.{Tracks, tracks_first, Told, told}
use Rattle.order.specs.Order.{is_below}
use Rattle.rules.specs.Rules.{is_text, judge, or_else, modes_of, name_number, bare_number, stands_before, is_after, after_number, git_rules}
use Rattle.rules.proofs.Laws.{number_free}
use Rattle.strict.specs.Strict.{text_of}
use Rattle.strict.specs.Code.{LastWithin, last_of, entry_no, seen_by, after_at, marks_after, Roomy}
use Rattle.doubles.specs.declared.Misplaced.{Misplaced}
use Rattle.doubles.specs.declared.Misplaced.TheVariants.{Double, NotAfter}
use Rattle.std.specs.Prelude.{Err, None, Ok, Option, Result, Some}
use Rattle.std.specs.declared.cmp.Ordering.{Ordering}
use Rattle.std.specs.declared.cmp.Ordering.TheVariants.{Equal, Greater, Less}
use Rattle.ground.proofs.Pairs.{ok_parts}

-- ---- an entry after the one before

-- the entry before lies inside
pub last_within : (len : ℕ) {last : Option EntryRecord} {p : EntryRecord} → last ≡ Some p → LastWithin len last → (p.name_start ≤ p.name_end) × (p.name_end ≤ len)
last_within len q w = rw q at w

-- what is answered, and the marks afterwards
abbrev pub Stood : List ℕ → List ℕ → ℕ → Option EntryRecord → EntryRecord → Result ℕ Misplaced → List ℕ → Type 0
Stood s a n last e r b = (r ≡ after_at s a n last e) × (b ≡ marks_after s a n last e)

module _ (s a : List ℕ) (n : ℕ) (e : EntryRecord) where
  pub stood-first : {last : Option EntryRecord} → last ≡ None → Stood s a n last e (Ok 0) a
  unfolding after_at marks_after
  stood-first q = (rw q, rw q)

  -- by what the leaves answer that place the two
  pub stood-by : {last : Option EntryRecord} (p : EntryRecord) {x y : Bool} {r : Result ℕ Misplaced} {b : List ℕ} → last ≡ Some p → x ≡ folder_of p → y ≡ folder_of e
      → (r ≡ place_of a n (name_of s p) x (name_of s e) y) × (b ≡ marks_of a n (name_of s p) x (name_of s e) y) → Stood s a n last e r b
  unfolding after_at marks_after
  stood-by p q f g o = (rw (q, ← f, ← g) o.0, rw (q, ← f, ← g) o.1)

pub after-length : (s a : List ℕ) (n : ℕ) (last : Option EntryRecord) (e : EntryRecord) → length (marks_after s a n last e) ≡ length a
unfolding marks_after
after-length s a n None e = refl
after-length s a n (Some p) e = marks-length a n (name_of s p) (folder_of p) (name_of s e) (folder_of e)

pub after_same : (s a : List ℕ) (n : ℕ) (last : Option EntryRecord) (e : EntryRecord) {b : List ℕ} {k : ℕ} → b ≡ marks_after s a n last e → length a ≡ k → length b ≡ k
after_same s a n last e q p = ap length q ∙ after-length s a n last e ∙ p

-- ---- an entry by itself

module _ (k : ℕ) (s : List ℕ) (at : ℕ) (e : EntryRecord) where
  pub entry-text : is_text (modes_of k) (text_of s at e) ≡ false → entry_no k s at e ≡ 5
  unfolding entry_no
  entry-text t = rw t

  pub entry_named : {number : ℕ} → is_text (modes_of k) (text_of s at e) ≡ true → free_of 0 (name_of s e) ≡ true → number ≡ bare_number (name_of s e)
      → number ≡ entry_no k s at e
  unfolding entry_no
  entry_named t f q = rw t (q ∙ number_free (name_of s e) f)

  or-first : (i j l : ℕ) → (or_else i j ≡ 0 → ⊥) → or_else i (or_else j l) ≡ or_else i j
  or-first zero zero l n = absurd (n refl)
  or-first zero (suc j) l n = refl
  or-first (suc i) j l n = refl

  or-last : (i j l : ℕ) → or_else i j ≡ 0 → or_else i (or_else j l) ≡ l
  or-last zero zero l n = refl
  or-last zero (suc j) l n = absurd (omega arith)
  or-last (suc i) j l n = absurd (omega arith)

  -- the rules say that first, and then what they say of its place
  pub judged_itself : (h : ℕ) (before : List Entry) → (entry_no k s at e ≡ 0 → ⊥) → judge (git_rules k) before (text_of s at e) (entry_of h s e) ≡ entry_no k s at e
  unfolding judge git_rules entry_no entry_of
  judged_itself h before n = or-first (pick (is_text (modes_of k) (text_of s at e)) 0 5) (name_number (name_of s e)) _ n

  pub judged-place : (h : ℕ) (before : List Entry) → entry_no k s at e ≡ 0
      → judge (git_rules k) before (text_of s at e) (entry_of h s e) ≡ after_number before (entry_of h s e)
  unfolding judge git_rules entry_no entry_of
  judged-place h before n = or-last (pick (is_text (modes_of k) (text_of s at e)) 0 5) (name_number (name_of s e)) _ n

-- ---- an entry as it is seen

module _ (k : ℕ) (s : List ℕ) (at : ℕ) (d : Result (EntryRecord × Cursor) Verdict) where
  pub seen-broken : {v : Verdict} → d ≡ Err v → Err v ≡ seen_by k s at d
  seen-broken q = rw q

  module _ (e : EntryRecord) (next : Cursor) (q : d ≡ Ok (e, next)) (number : ℕ) (j : number ≡ entry_no k s at e) where
    pub seen-bad : (number ≡ 0 → ⊥) → Err (verdict number at) ≡ seen_by k s at d
    seen-bad z = rw (q, ← j, ne_eqb number 0 z)

    pub seen-good : number ≡ 0 → Ok (e, next) ≡ seen_by k s at d
    seen-good z = rw (q, ← j, z)

-- one that is kept was decoded, and nothing is said of it by itself
pub seen-kept : (k : ℕ) (s : List ℕ) (at : ℕ) (d : Result (EntryRecord × Cursor) Verdict) (e : EntryRecord) (next : Cursor) → seen_by k s at d ≡ Ok (e, next)
    → (d ≡ Ok (e, next)) × (0 ≡ entry_no k s at e)
seen-kept k s at (Ok (a, b)) e next q = go (eqb (entry_no k s at a) 0) refl q
  where
    go : (v : Bool) → eqb (entry_no k s at a) 0 ≡ v → pick {A = Result (EntryRecord × Cursor) Verdict} v (Ok (a, b)) (Err (verdict (entry_no k s at a) at)) ≡ Ok (e, next)
        → (◌≡◌ {A = Result (EntryRecord × Cursor) Verdict} (Ok (a, b)) (Ok (e, next))) × (0 ≡ entry_no k s at e)
    go true p q =
        (q, sym (eqb-true (entry_no k s at a) 0 p) ∙ ap (entry_no k s at) (ok_parts q).0)
    go false p q = let z : ◌≡◌ {A = ℕ} 0 1 = cc in absurd (omega arith)
seen-kept k s at (Err v) e next q = let z : ◌≡◌ {A = ℕ} 0 1 = cc in absurd (omega arith)

-- ---- its place among the entries that were read before, the nearest first

below-not : (o : Ordering) → (o ≡ Less → ⊥) → is_below o ≡ false
below-not Less n = absurd (n refl)
below-not Equal n = refl
below-not Greater n = refl

module _ (h : ℕ) (s a : List ℕ) (n : ℕ) (seen : List EntryRecord) (t : Tracks a n (map (entry_of h s) seen)) (up : Ascends (map (entry_of h s) seen))
    (few : name_bytes (map (entry_of h s) seen) ≤ length s) (room : Roomy (length s) (length a)) (e : EntryRecord) where
  abbrev before : List Entry
  before = map (entry_of h s) seen

  -- what was found out of the nearest of them and this one
  abbrev At : EntryRecord → List EntryRecord → Type 0
  At p ps = Told a n (entry_of h s p) (map (entry_of h s) ps) (entry_of h s e)

  tells : (p : EntryRecord) (ps : List EntryRecord) → seen ≡ p ∷ ps → At p ps
  tells p ps q =
      let v = rw q at t in
      let u = rw q at up in
      let w = rw q at few in
      told a n (entry_of h s p) (map (entry_of h s) ps) v u (entry_of h s e) (length s) w room.1 (omega (arith, room.0))

  -- an entry that does not stand after is refused 7
  pub place-not-after : after_at s a n (last_of seen) e ≡ Err NotAfter → after_number before (entry_of h s e) ≡ 7
  unfolding after_at after_number is_after stands_before entry_of folder_of
  place-not-after q = go seen tells q
    where
      go : (seen : List EntryRecord) → ((p : EntryRecord) (ps : List EntryRecord) → seen ≡ p ∷ ps → At p ps) → after_at s a n (last_of seen) e ≡ Err NotAfter
          → after_number (map (entry_of h s) seen) (entry_of h s e) ≡ 7
      go [] w q = let y : ◌≡◌ {A = ℕ} 0 1 = cc in absurd (omega arith)
      go (p ∷ ps) w q = rw (below-not _ ((w p ps refl).not_after q))

  -- one that does, and whose name was there before, 17
  pub place_double : after_at s a n (last_of seen) e ≡ Err Double → after_number before (entry_of h s e) ≡ 17
  unfolding after_at after_number is_after stands_before entry_of folder_of
  place_double q = go seen tells q
    where
      go : (seen : List EntryRecord) → ((p : EntryRecord) (ps : List EntryRecord) → seen ≡ p ∷ ps → At p ps) → after_at s a n (last_of seen) e ≡ Err Double
          → after_number (map (entry_of h s) seen) (entry_of h s e) ≡ 17
      go [] w q = let y : ◌≡◌ {A = ℕ} 0 1 = cc in absurd (omega arith)
      go (p ∷ ps) w q = let d = (w p ps refl).double q in rw (d.0, d.1)

  -- one that stands fine is one that the rules permit there, and the marks go on with it
  pub place-fine : (j : ℕ) → after_at s a n (last_of seen) e ≡ Ok j
      → (after_number before (entry_of h s e) ≡ 0) × Tracks (marks_after s a n (last_of seen) e) j (entry_of h s e ∷ before) × Ascends (entry_of h s e ∷ before)
  unfolding after_at marks_after after_number is_after stands_before named_before entry_of folder_of
  place-fine j q = go seen up tells q
    where
      go : (seen : List EntryRecord) → Ascends (map (entry_of h s) seen) → ((p : EntryRecord) (ps : List EntryRecord) → seen ≡ p ∷ ps → At p ps)
          → after_at s a n (last_of seen) e ≡ Ok j
          → (after_number (map (entry_of h s) seen) (entry_of h s e) ≡ 0) × Tracks (marks_after s a n (last_of seen) e) j (entry_of h s e ∷ map (entry_of h s) seen)
          × Ascends (entry_of h s e ∷ map (entry_of h s) seen)
      go [] up w q = let y : 0 ≡ j = cc in (refl, subst (λ (i : ℕ). Tracks a i (entry_of h s e ∷ [])) y (tracks_first a (entry_of h s e)), (tt, tt))
      go (p ∷ ps) up w q = let d = (w p ps refl).fine j q in (rw (d.0, d.1), d.2, (d.0, up))
