-- The rules of a rule set keep the laws of the theorem; and a sound listing in plain words is a sound listing under them. Assumes nothing.
use Prim.Native.Nat.{ℕ}
use native.Mathlib.Omega.{arith}
use mathlib.Core.Path.{◌≡◌, refl, sym, ap, ◌∙◌}
use mathlib.Core.Bool.{Bool, true, false, not, ◌||◌, false≢true}
use mathlib.Core.List.Memᴰ
use mathlib.Core.List.{List, [], ◌∷◌, map, Memᴰ}
use mathlib.Core.Logic.{◌⊎◌, inl, inr, ◌↔◌}
use lib.Dec.{eqb}
use borrow.Author.Tests.{eqb-true}
use Rattle.ground.specs.Basics.{pick, ascii}
use Rattle.ground.specs.Scan.{same_bytes}
use Rattle.ground.proofs.Laws.{is_false, same_refl, same_true}
use Rattle.mode_table.specs.Table.{rows}
use Rattle.mode_text.specs.Write.{write_mode, trimmed, again}
use Rattle.entry.specs.Entry.{Entry}
use Rattle.doubles.specs.Doubles.{named_before}
use Rattle.order.specs.Order.{is_below}
use Rattle.order.proofs.Laws.{below-is}
use Rattle.rules.specs.Rules.{or_else, group_row, modes_of, is_plain, permitted, lower, is_dot_git, name_number, stands_before, is_after, after_number, git_rules}
use Rattle.rules.proofs.Laws.{permitted-parts}
use Rattle.one_listing.specs.Sound.{is_mode, Permitted, Sound, Five, SoundEntry, Before, Ascending, EachSound, Distinct, SoundListing}
use Rattle.one_listing.specs.Lawful.{RowsOk, RulesOk}
use Rattle.one_listing.specs.Demand.{OneListing, ShortRoom, OneObject}
use Rattle.one_listing.proofs.Theorem.{one_listing, short_room, one_object}

-- ---- the laws

rows_ok : RowsOk rows
unfolding rows write_mode trimmed again
rows_ok = (
  record { written = refl; some = λ e. omega arith; small = omega arith; same = refl },
  (
    record { written = refl; some = λ e. omega arith; small = omega arith; same = refl },
    (
      record { written = refl; some = λ e. omega arith; small = omega arith; same = refl },
      (
        record { written = refl; some = λ e. omega arith; small = omega arith; same = refl },
        (
          record { written = refl; some = λ e. omega arith; small = omega arith; same = refl },
          tt,
        ),
      ),
    ),
  ),
)

modes_ok : (k : ℕ) → RowsOk (modes_of k)
unfolding group_row write_mode trimmed again
modes_ok k = go (eqb k 1)
  where
    go : (v : Bool) → RowsOk (pick v (group_row ∷ rows) rows)
    go true = (record { written = refl; some = λ e. omega arith; small = omega arith; same = refl }, rows_ok)
    go false = rows_ok

after-before : (p : Entry) (ps : List Entry) (e : Entry) → is_after (p ∷ ps) e ≡ true → Before p e
unfolding is_after stands_before
after-before p ps e q = below-is _ q

before-after : (p : Entry) (ps : List Entry) (e : Entry) → Before p e → is_after (p ∷ ps) e ≡ true
unfolding is_after stands_before
before-after p ps e q = ap is_below q

-- a name that is not refused is permitted, and not `.git` in letters of either case
named-parts : (n : List ℕ) → name_number n ≡ 0 → (permitted n ≡ true) × (is_dot_git n ≡ false)
unfolding name_number
named-parts n e = go (permitted n) (is_dot_git n) e
  where
    go : (p g : Bool) → ◌≡◌ {A = ℕ} (or_else (pick p 0 6) (pick g 18 0)) 0 → (p ≡ true) × (g ≡ false)
    go true true e = absurd (omega arith)
    go true false e = (refl, refl)
    go false g e = absurd (omega arith)

-- an entry that is not refused for its place stands after the one before, and its name is new
placed-parts : (before : List Entry) (e : Entry) → after_number before e ≡ 0 → (is_after before e ≡ true) × (named_before before e.name ≡ false)
unfolding after_number
placed-parts before e q = go (is_after before e) (named_before before e.name) q
  where
    go : (a n : Bool) → ◌≡◌ {A = ℕ} (or_else (pick a 0 7) (pick n 17 0)) 0 → (a ≡ true) × (n ≡ false)
    go true true e = absurd (omega arith)
    go true false e = (refl, refl)
    go false n e = absurd (omega arith)

pub git_ok : (k : ℕ) → RulesOk (git_rules k)
unfolding git_rules
git_ok k =
    record {
      modes = modes_ok k;
      names = λ n e. (permitted-parts n (named-parts n e).0).1;
      slashless = λ n e. (permitted-parts n (named-parts n e).0).2;
      after = λ p ps e q. after-before p ps e (placed-parts (p ∷ ps) e q).0;
    }

-- ---- in plain words

-- Git's five modes are the modes of the rows
mode_five : (m : ℕ) → is_mode rows m ≡ true → Five m
unfolding is_mode rows
mode_five m e = first (eqb 0o40000 m) refl e
  where
    is : (k : ℕ) → eqb k m ≡ true → m ≡ k
    is k q = sym (eqb-true k m q)

    fifth : (v : Bool) → eqb 0o160000 m ≡ v → (v || false) ≡ true → m ≡ 0o160000
    fifth true q e = is 0o160000 q
    fifth false q e = absurd (false≢true e)

    fourth : (v : Bool) → eqb 0o120000 m ≡ v → (v || (eqb 0o160000 m || false)) ≡ true → (m ≡ 0o120000) ⊎ (m ≡ 0o160000)
    fourth true q e = inl (is 0o120000 q)
    fourth false q e = inr (fifth (eqb 0o160000 m) refl e)

    third : (v : Bool) → eqb 0o100755 m ≡ v → (v || (eqb 0o120000 m || (eqb 0o160000 m || false))) ≡ true → (m ≡ 0o100755) ⊎ ((m ≡ 0o120000) ⊎ (m ≡ 0o160000))
    third true q e = inl (is 0o100755 q)
    third false q e = inr (fourth (eqb 0o120000 m) refl e)

    second : (v : Bool) → eqb 0o100644 m ≡ v → (v || (eqb 0o100755 m || (eqb 0o120000 m || (eqb 0o160000 m || false)))) ≡ true
        → (m ≡ 0o100644) ⊎ ((m ≡ 0o100755) ⊎ ((m ≡ 0o120000) ⊎ (m ≡ 0o160000)))
    second true q e = inl (is 0o100644 q)
    second false q e = inr (third (eqb 0o100755 m) refl e)

    first : (v : Bool) → eqb 0o40000 m ≡ v → (v || (eqb 0o100644 m || (eqb 0o100755 m || (eqb 0o120000 m || (eqb 0o160000 m || false))))) ≡ true → Five m
    first true q e = inl (is 0o40000 q)
    first false q e = inr (second (eqb 0o100644 m) refl e)

five_mode : (m : ℕ) → Five m → is_mode rows m ≡ true
unfolding is_mode rows
five_mode m (inl e) = rw e
five_mode m (inr (inl e)) = rw e
five_mode m (inr (inr (inl e))) = rw e
five_mode m (inr (inr (inr (inl e)))) = rw e
five_mode m (inr (inr (inr (inr e)))) = rw e

-- and those of a rule set are the five, and by set 1 one more
mode-known : (k m : ℕ) → is_mode (modes_of k) m ≡ true → Five m ⊎ ((k ≡ 1) × (m ≡ 0o100664))
unfolding is_mode group_row
mode-known k m e = go (eqb k 1) refl e
  where
    more : k ≡ 1 → (v : Bool) → eqb 0o100664 m ≡ v → (v || is_mode rows m) ≡ true → Five m ⊎ ((k ≡ 1) × (m ≡ 0o100664))
    more one true q e = inr (one, sym (eqb-true 0o100664 m q))
    more one false q e = inl (mode_five m e)

    go : (v : Bool) → eqb k 1 ≡ v → is_mode (pick v (group_row ∷ rows) rows) m ≡ true → Five m ⊎ ((k ≡ 1) × (m ≡ 0o100664))
    go true q e = more (eqb-true k 1 q) (eqb 0o100664 m) refl e
    go false q e = inl (mode_five m e)

known-mode : (k m : ℕ) → Five m ⊎ ((k ≡ 1) × (m ≡ 0o100664)) → is_mode (modes_of k) m ≡ true
unfolding is_mode group_row
known-mode k m (inl five) = go (eqb k 1)
  where
    more : (v : Bool) → (v || is_mode rows m) ≡ true
    more true = refl
    more false = five_mode m five

    go : (v : Bool) → is_mode (pick v (group_row ∷ rows) rows) m ≡ true
    go true = more (eqb 0o100664 m)
    go false = five_mode m five
known-mode k m (inr (one, e)) = rw (one, e)

-- a name that is not this one
not-this : (n t : List ℕ) → not (same_bytes n t) ≡ true → n ≡ t → ⊥
not-this n t e q = let g : not (same_bytes t t) ≡ true = rw q at e in let f : false ≡ true = rw (same_refl t) at g in absurd (false≢true f)

this_not : (n t : List ℕ) → (n ≡ t → ⊥) → same_bytes n t ≡ false
this_not n t f = is_false (same_bytes n t) (λ e. f (same_true n t e))

permitted-plain : (k h : ℕ) (before : List Entry) (e : Entry) → Permitted (git_rules k) h before e → SoundEntry k h e
unfolding git_rules is_dot_git
permitted-plain k h before e p =
    let m = named-parts e.name p.named in
    let n = permitted-parts e.name m.0 in
    record {
      mode = mode-known k e.mode p.known;
      some = not-this e.name [] n.0;
      nulless = n.1;
      slashless = n.2;
      no_dot = not-this e.name (ascii ".") n.3;
      no_dots = not-this e.name (ascii "..") n.4;
      no_git = not-this (map lower e.name) (ascii ".git") (ap not m.1);
      sized = p.sized;
    }

name-fine : (k h : ℕ) (e : Entry) → SoundEntry k h e → name_number e.name ≡ 0
unfolding name_number permitted is_plain is_dot_git
name-fine k h e s =
    rw (
      this_not e.name [] s.some,
      s.nulless,
      s.slashless,
      this_not e.name (ascii ".") s.no_dot,
      this_not e.name (ascii "..") s.no_dots,
      this_not e.name (ascii ".git") (λ q. s.no_git (ap (map lower) q)),
      this_not (map lower e.name) (ascii ".git") s.no_git,
    )

plain-permitted : (k h : ℕ) (before : List Entry) (e : Entry) → SoundEntry k h e → is_after before e ≡ true → named_before before e.name ≡ false → Permitted (git_rules k) h before e
unfolding git_rules after_number
plain-permitted k h before e s a n = record { known = known-mode k e.mode s.mode; named = name-fine k h e s; placed = rw (a, n); sized = s.sized }

sound-each : (k h : ℕ) (before es : List Entry) → Sound (git_rules k) h before es → EachSound k h es
sound-each k h before [] s = tt
sound-each k h before (e ∷ es) s = (permitted-plain k h before e s.0, sound-each k h (e ∷ before) es s.1)

sound-ascends : (k h : ℕ) (before es : List Entry) → Sound (git_rules k) h before es → Ascending es
sound-ascends k h before [] s = tt
sound-ascends k h before (a ∷ []) s = tt
sound-ascends k h before (a ∷ b ∷ es) s = ((git_ok k).after a before b s.1.0.placed, sound-ascends k h (a ∷ before) (b ∷ es) s.1)

-- the first entry stands after the one before
abbrev Follows : List Entry → List Entry → Type 0
Follows before [] = Unit {0}
Follows before (e ∷ es) = is_after before e ≡ true

follows : (a : Entry) (ps es : List Entry) → Ascending (a ∷ es) → Follows (a ∷ ps) es
follows a ps [] s = tt
follows a ps (b ∷ es) s = before-after a ps b s.0

ascends-rest : (a : Entry) (es : List Entry) → Ascending (a ∷ es) → Ascending es
ascends-rest a [] s = tt
ascends-rest a (b ∷ es) s = s.1

-- ---- no two of one name

-- no entry of the one list has the name of an entry of the other
abbrev Apart : List Entry → List Entry → Type 0
Apart before es = (a : Entry) → Memᴰ a before → (b : Entry) → Memᴰ b es → a.name ≡ b.name → ⊥

new_apart : (before : List Entry) (n : List ℕ) → named_before before n ≡ false → (a : Entry) → Memᴰ a before → a.name ≡ n → ⊥
unfolding named_before
new_apart [] n e a m q = Memᴰ.not-nil m
new_apart (p ∷ ps) n e a m q = go (new_apart ps n) (same_bytes p.name n) refl e (Memᴰ.cases_cons m)
  where
    go : (named_before ps n ≡ false → (a : Entry) → Memᴰ a ps → a.name ≡ n → ⊥) → (v : Bool) → same_bytes p.name n ≡ v → (v || named_before ps n) ≡ false
        → (a ≡ p) ⊎ Memᴰ a ps → ⊥
    go ih true s e w = false≢true (sym e)
    go ih false s e (inr i) = ih e a i q
    go ih false s e (inl w) =
        let r : p.name ≡ n = ap (λ (x : Entry). x.name) (sym w) ∙ q in
        false≢true (sym s ∙ rw r (same_refl n))

apart-new : (before : List Entry) (n : List ℕ) → ((a : Entry) → Memᴰ a before → a.name ≡ n → ⊥) → named_before before n ≡ false
unfolding named_before
apart-new [] n f = refl
apart-new (p ∷ ps) n f = rw (this_not p.name n (f p (Memᴰ.head refl))) (apart-new ps n (λ a m. f a (Memᴰ.tail m)))

-- with the first entry among those before
apart_next : (e : Entry) (before es : List Entry) → ((b : Entry) → Memᴰ b es → e.name ≡ b.name → ⊥) → Apart before es → Apart (e ∷ before) es
apart_next e before es f g a m b l q = go (Memᴰ.cases_cons m)
  where
    go : (a ≡ e) ⊎ Memᴰ a before → ⊥
    go (inl w) = f b l (ap (λ (x : Entry). x.name) (sym w) ∙ q)
    go (inr i) = g a i b l q

sound_distinct : (k h : ℕ) (before es : List Entry) → Sound (git_rules k) h before es → Distinct es × Apart before es
unfolding git_rules
sound_distinct k h before [] s = (tt, λ a m b l q. Memᴰ.not-nil l)
sound_distinct k h before (e ∷ es) s = go (sound_distinct k h (e ∷ before) es s.1)
  where
    go : Distinct es × Apart (e ∷ before) es → Distinct (e ∷ es) × Apart before (e ∷ es)
    go w = (((λ b l q. w.1 e (Memᴰ.head refl) b l q), w.0), λ a m b l q. at a m b q (Memᴰ.cases_cons l))
      where
        at : (a : Entry) → Memᴰ a before → (b : Entry) → a.name ≡ b.name → (b ≡ e) ⊎ Memᴰ b es → ⊥
        at a m b q (inl i) = new_apart before e.name (placed-parts before e s.0.placed).1 a m (q ∙ ap (λ (x : Entry). x.name) i)
        at a m b q (inr i) = w.1 a (Memᴰ.tail m) b i q

-- ---- both ways

each-sound : (k h : ℕ) (before es : List Entry) → EachSound k h es → Ascending es → Follows before es → Distinct es → Apart before es → Sound (git_rules k) h before es
each-sound k h before [] s a f d g = tt
each-sound k h before (e ∷ es) s a f d g = (
  plain-permitted k h before e s.0 f (apart-new before e.name (λ b m. g b m e (Memᴰ.head refl))),
  each-sound k h (e ∷ before) es s.1 (ascends-rest e es a) (follows e before es a) d.1 (apart_next e before es d.0 (λ b m x l. g b m x (Memᴰ.tail l))),
)

first_follows : (es : List Entry) → Follows [] es
unfolding is_after
first_follows [] = tt
first_follows (e ∷ es) = refl

-- sound in plain words is sound under a rule set
pub plainly : (k h : ℕ) (es : List Entry) → SoundListing k h es ↔ Sound (git_rules k) h [] es
plainly k h es = (
  (λ s. each-sound k h [] es s.0 s.1 (first_follows es) s.2 (λ a m. absurd (Memᴰ.not-nil m))),
  (λ s. (sound-each k h [] es s, sound-ascends k h [] es s, (sound_distinct k h [] es s).0)),
)

-- ---- the theorem for a rule set

pub git_one-listing : (k : ℕ) → OneListing (git_rules k)
git_one-listing k = one_listing (git_rules k) (git_ok k)

pub git_short-room : (k : ℕ) → ShortRoom (git_rules k)
git_short-room k = short_room (git_rules k) (git_ok k)

pub git_one-object : (k : ℕ) → OneObject (git_rules k)
git_one-object k = one_object (git_rules k) (git_ok k)
