-- The step on the marks is the rule: Double exactly where an earlier entry has the name. Assumes nothing.
use Prim.Native.Nat.{ℕ, zero, suc, ◌+◌, ◌*◌, ◌%◌, ◌≤◌, ◌<◌, min}
use native.Mathlib.Numerals.{add-one}
use native.Mathlib.Omega.{arith}
use mathlib.Core.Path.{◌≡◌, refl, sym, ap, subst, ◌∙◌}
use mathlib.Core.Bool.{Bool, true, false, ◌&&◌, ◌||◌}
use mathlib.Core.List.{List, [], ◌∷◌}
use lib.ListN.{length, set, length-set}
use lib.Seq.{get_or-set_same, get_or-set_other}
use lib.Dec.{ltb}
use borrow.Author.Tests.{lt-ltb, le-ltb, ltb-true, ltb-false}
use Rattle.ground.specs.Basics.{pick}
use Rattle.ground.specs.Scan.{common_start}
use Rattle.mode.specs.Mode.{is_tree}
use Rattle.order.specs.Order.{name_order}
use Rattle.entry.specs.Entry.{Entry}
use Rattle.doubles.specs.Doubles.{named_before, shut, top_is, last_name, noted, opened, held}
use Rattle.doubles.specs.Stack.{stack_of, open_at, marks_at, is_double, place_of, marks_of}
use Rattle.doubles.proofs.Theorem.{Ascends, marked, marked_is, name_bytes, held-few, shut_drops, shut_stops, noted-tree, noted-file}
use Rattle.doubles.proofs.Stacking.{kept-shut, kept-le}
use Rattle.doubles.specs.declared.Misplaced.{Misplaced}
use Rattle.doubles.specs.declared.Misplaced.TheVariants.{Double, NotAfter}
use Rattle.std.specs.Prelude.{Err, Ok, Result}
use Rattle.std.specs.declared.cmp.Ordering.{Ordering}
use Rattle.std.specs.declared.cmp.Ordering.TheVariants.{Equal, Greater, Less}

-- the first n of the array are the names that were open before the last entry
pub record Tracks (a : List ℕ) (n : ℕ) (seen : List Entry) : Type 0 where
  pub within : n ≤ length a
  pub holds : stack_of a n ≡ held seen

pub tracks-none : (a : List ℕ) → Tracks a 0 []
unfolding stack_of held
tracks-none a = record { within = omega arith; holds = refl }

-- the first entry opens none before it
pub tracks_first : (a : List ℕ) (e : Entry) → Tracks a 0 (e ∷ [])
unfolding stack_of held opened shut
tracks_first a e = record { within = omega arith; holds = refl }

stack_length : (a : List ℕ) (n : ℕ) → length (stack_of a n) ≡ n
unfolding stack_of
stack_length a zero = refl
stack_length a (suc n) = ap suc (stack_length a n)

-- a store past the first n
stack_set : (a : List ℕ) (k v n : ℕ) → n ≤ k → stack_of (set a k v) n ≡ stack_of a n
unfolding stack_of
stack_set a k v zero h = refl
stack_set a k v (suc n) h = rw (get_or-set_other a k n v 0 (λ e. omega arith), stack_set a k v n (omega arith))

stack_put : (a : List ℕ) (k v : ℕ) → k < length a → stack_of (set a k v) (k + 1) ≡ v ∷ stack_of a k
unfolding stack_of
stack_put a k v h = rw (add-one k, get_or-set_same a k v 0 h, stack_set a k v k (omega arith))

-- ---- one entry

module _ (a : List ℕ) (n : ℕ) (l : Entry) (seen : List Entry) (t : Tracks a n (l ∷ seen)) (e : Entry) (room : length (held (e ∷ l ∷ seen)) ≤ length a)
    (small : length l.name < 4294967296) where
  abbrev p· : ℕ
  p· = common_start l.name e.name

  abbrev b· : List ℕ
  b· = marks_at a n p· (length l.name) (is_tree l.mode)

  abbrev k· : ℕ
  k· = open_at a n p· (length l.name) (is_tree l.mode)

  -- the names that stay open, and the one that is put on top
  held_next : held (e ∷ l ∷ seen) ≡ shut p· (noted l (held (l ∷ seen)))
  unfolding held opened last_name
  held_next = refl

  tracks_shut : (is_tree l.mode || ltb p· (length l.name)) ≡ true → held (e ∷ l ∷ seen) ≡ shut p· (held (l ∷ seen)) → Tracks b· k· (e ∷ l ∷ seen)
  unfolding open_at marks_at
  tracks_shut c q =
      rw c (record { within = omega (arith, kept-le a p· n, t.within); holds = kept-shut a p· n ∙ ap (shut p·) t.holds ∙ sym q })

  tracks_open : is_tree l.mode ≡ false → length l.name ≤ p· → Tracks b· k· (e ∷ l ∷ seen)
  unfolding open_at marks_at
  tracks_open f g =
      let q : held (e ∷ l ∷ seen) ≡ length l.name ∷ held (l ∷ seen)
      = held_next ∙ ap (shut p·) (noted-file l (held (l ∷ seen)) f) ∙ shut_stops p· (length l.name) (held (l ∷ seen)) g in
      let i : n < length a = omega (arith, ap length q, ap length t.holds, stack_length a n, room) in
      let z : length l.name % 4294967296 ≡ length l.name = omega arith in
      rw (f, le-ltb p· (length l.name) g, lt-ltb n (length a) i, z)
      (record { within = omega (arith, length-set a n (length l.name)); holds = stack_put a n (length l.name) i ∙ ap (λ (ks : List ℕ). length l.name ∷ ks) t.holds ∙ sym q })

  pub tracks-next : Tracks b· k· (e ∷ l ∷ seen)
  tracks-next = by-sort (is_tree l.mode) refl
    where
      or-true : (b : Bool) → (b || true) ≡ true
      or-true true = refl
      or-true false = refl

      by_length : is_tree l.mode ≡ false → (v : Bool) → ltb p· (length l.name) ≡ v → Tracks b· k· (e ∷ l ∷ seen)
      by_length f true c =
          tracks_shut (rw c (or-true (is_tree l.mode)))
          (held_next ∙ ap (shut p·) (noted-file l (held (l ∷ seen)) f) ∙ shut_drops p· (length l.name) (held (l ∷ seen)) (ltb-true p· (length l.name) c))
      by_length f false c = tracks_open f (ltb-false p· (length l.name) c)

      by-sort : (v : Bool) → is_tree l.mode ≡ v → Tracks b· k· (e ∷ l ∷ seen)
      by-sort true f = tracks_shut (rw f) (held_next ∙ ap (shut p·) (noted-tree l (held (l ∷ seen)) f))
      by-sort false f = by_length f (ltb p· (length l.name)) refl

  -- a folder of the longest open name is one whose name was there before
  pub double_is : Ascends (e ∷ l ∷ seen) → is_double b· k· (length e.name) (is_tree e.mode) ≡ named_before (l ∷ seen) e.name
  unfolding is_double marked
  double_is h = ap (λ (ks : List ℕ). is_tree e.mode && top_is (length e.name) ks) tracks-next.holds ∙ marked_is (l ∷ seen) e h

-- ---- the rule

module _ (a : List ℕ) (n : ℕ) (l : Entry) (seen : List Entry) (e : Entry) where
  abbrev r· : Result ℕ Misplaced
  r· = place_of a n l.name (is_tree l.mode) e.name (is_tree e.mode)

  abbrev Stands : Type 0
  Stands = name_order l.name (is_tree l.mode) e.name (is_tree e.mode) ≡ Less

  -- what each answer tells
  pub record Told : Type 0 where
    pub not_after : r· ≡ Err NotAfter → Stands → ⊥
    pub double : r· ≡ Err Double → Stands × (named_before (l ∷ seen) e.name ≡ true)
    pub fine : (k : ℕ) → r· ≡ Ok k
        → Stands × (named_before (l ∷ seen) e.name ≡ false) × Tracks (marks_of a n l.name (is_tree l.mode) e.name (is_tree e.mode)) k (e ∷ l ∷ seen)

-- they are told where the listing ascends, and the marks are as many as its names can open
module _ (a : List ℕ) (n : ℕ) (l : Entry) (seen : List Entry) (t : Tracks a n (l ∷ seen)) (up : Ascends (l ∷ seen)) (e : Entry) (bytes : ℕ)
    (few : name_bytes (l ∷ seen) ≤ bytes) (room : 2 * bytes < length a * length a + length a) (small : bytes < 4294967296) where
  -- the array is long enough, and takes the length
  fits : min n (length a) ≡ n
  fits = omega (arith, t.within)

  roomy : length (held (e ∷ l ∷ seen)) ≤ length a
  roomy = held-few (l ∷ seen) e up bytes (length a) few room

  short : length l.name < 4294967296
  unfolding name_bytes
  short = omega (arith, few)

  abbrev next : ℕ
  next = open_at a n (common_start l.name e.name) (length l.name) (is_tree l.mode)

  abbrev marks : List ℕ
  marks = marks_at a n (common_start l.name e.name) (length l.name) (is_tree l.mode)

  place-below : Stands a n l seen e → r· a n l seen e ≡ pick (is_double marks next (length e.name) (is_tree e.mode)) (Err Double) (Ok next)
  unfolding place_of
  place-below o = rw (o, fits)

  marks-below : Stands a n l seen e → marks_of a n l.name (is_tree l.mode) e.name (is_tree e.mode) ≡ marks
  unfolding marks_of
  marks-below o = rw (o, fits)

  when_not : (Stands a n l seen e → ⊥) → r· a n l seen e ≡ Err NotAfter → Told a n l seen e
  when_not f q =
      record {
        not_after = λ z. f;
        double = λ z. let y : ◌≡◌ {A = ℕ} 0 1 = cc in absurd (omega arith);
        fine = λ k z. let y : ◌≡◌ {A = ℕ} 0 1 = cc in absurd (omega arith);
      }

  when_below : Stands a n l seen e → (v : Bool) → named_before (l ∷ seen) e.name ≡ v → r· a n l seen e ≡ pick v (Err Double) (Ok next) → Told a n l seen e
  when_below o true d q =
      record {
        not_after = λ z. let y : ◌≡◌ {A = ℕ} 0 1 = cc in absurd (omega arith);
        double = λ z. (o, d);
        fine = λ k z. let y : ◌≡◌ {A = ℕ} 0 1 = cc in absurd (omega arith);
      }
  when_below o false d q =
      record {
        not_after = λ z. let y : ◌≡◌ {A = ℕ} 0 1 = cc in absurd (omega arith);
        double = λ z. let y : ◌≡◌ {A = ℕ} 0 1 = cc in absurd (omega arith);
        fine = λ k z. let y : next ≡ k = cc in (o, d, subst (λ (i : ℕ). Tracks (marks_of a n l.name (is_tree l.mode) e.name (is_tree e.mode)) i (e ∷ l ∷ seen)) y (rw (marks-below o) (tracks-next a n l seen t e roomy short)));
      }

  pub told : Told a n l seen e
  unfolding place_of
  told = go (name_order l.name (is_tree l.mode) e.name (is_tree e.mode)) refl
    where
      go : (o : Ordering) → name_order l.name (is_tree l.mode) e.name (is_tree e.mode) ≡ o → Told a n l seen e
      go Less q =
          when_below q (named_before (l ∷ seen) e.name) refl
          (place-below q ∙ ap (λ (v : Bool). pick v (Err Double) (Ok next)) (double_is a n l seen t e roomy short (q, up)))
      go Equal q = when_not (λ o. let y : ◌≡◌ {A = ℕ} 0 1 = cc in omega arith) (rw q)
      go Greater q = when_not (λ o. let y : ◌≡◌ {A = ℕ} 0 1 = cc in omega arith) (rw q)
