-- A rewritten object is accepted again, and the second rewrite equals every later one. Assumes nothing.
use Prim.Native.Nat.{ℕ, zero, suc, ◌+◌, ◌-◌, ◌/◌, ◌%◌, ◌≤◌, ◌<◌}
use native.Mathlib.Omega.{arith}
use mathlib.Core.Path.{◌≡◌, refl, ap, sym, subst, ◌∙◌}
use mathlib.Core.Bool.{Bool, true, false}
use mathlib.Core.List.{List, [], ◌∷◌, map}
use mathlib.Core.Logic.{◌⊎◌}
use lib.Dec.{ltb}
use lib.ListN.{length, length-append, length-map}
use borrow.Author.Tests.{eq-eqb, ne_eqb, ltb-true, ltb-false}
use Rattle.ground.specs.Verdict.{most_bytes, most_records}
use Rattle.ground.proofs.Laws.{gate_fine}
use Rattle.mode_text.specs.Write.{write_mode, trimmed, again}
use Rattle.mode_round.proofs.Again.{again-same, again_less}
use Rattle.entry.specs.Record.{many}
use Rattle.entry.specs.Entry.{Entry, entry_bytes, as_written, entry_of, entries_of}
use Rattle.reading.specs.Listing.{Listing, listing, records_in, tally}
use Rattle.reading.proofs.Laws.{answer-counted, room-fine}
use Rattle.one_listing.proofs.Back.{AllWritable, record_for, listed, read_written, names-listed}
use Rattle.one_listing.specs.Again.{again_entry}
use Rattle.one_listing.proofs.Theorem.{listed_total}
use Rattle.tree_round.specs.Demand.{SomeModes}
use Rattle.rewriting.specs.Demand.{rewrite, times, Given, AcceptedAgain, SecondLasts}
use Rattle.rewriting.proofs.Read.{read_writable, accepted, count-is, bounds}
use Rattle.std.specs.Prelude.{Ok}

-- ---- a mode as it reads again

pub again_cases : (m : ℕ) (P : ℕ → Type 0) → ((49152 < m → m < 53248 → ⊥) → P m) → (49152 < m → m < 53248 → P (m - 32768)) → P (again m)
again_cases m P a b = go (ltb 49152 m) refl (ltb m 53248) refl
  where
    go : (u : Bool) → ltb 49152 m ≡ u → (v : Bool) → ltb m 53248 ≡ v → P (again m)
    go true p true q = rw (again_less m (ltb-true _ _ p) (ltb-true _ _ q)) (b (ltb-true _ _ p) (ltb-true _ _ q))
    go true p false q = let f : 53248 ≤ m = ltb-false m 53248 q in rw (again-same m (λ x y. omega arith)) (a (λ x y. omega arith))
    go false p v q = let f : m ≤ 49152 = ltb-false 49152 m p in rw (again-same m (λ x y. omega arith)) (a (λ x y. omega arith))

again-twice : (m : ℕ) → again (again m) ≡ again m
again-twice m = again_cases m (λ (n : ℕ). again n ≡ n) (λ f. again-same m f) (λ p q. again-same (m - 32768) (λ x y. omega arith))

again-some : (m : ℕ) → (m ≡ 0 → ⊥) → m < 65536 → (again m ≡ 0 → ⊥) × (again m < 65536)
again-some m z p = again_cases m (λ (n : ℕ). (n ≡ 0 → ⊥) × (n < 65536)) (λ f. (z, p)) (λ x y. ((λ e. omega arith), omega arith))

-- a mode that loses its highest bit is written with six digits before and with five after
long : (m : ℕ) → 49152 < m → m < 53248 → length (write_mode m) ≡ 6
unfolding write_mode trimmed
long m p q = simp (ne_eqb m 0 (λ e. omega arith), eq-eqb (48 + m / 0o10000 % 8) 52 (omega arith), ne_eqb (48 + m / 0o100000 % 8) 48 (λ e. omega arith))

less : (m : ℕ) → 16384 < m → m < 20480 → length (write_mode m) ≡ 5
unfolding write_mode trimmed
less m p q = simp (ne_eqb m 0 (λ e. omega arith), eq-eqb (48 + m / 0o10000 % 8) 52 (omega arith), eq-eqb (48 + m / 0o100000 % 8) 48 (omega arith))

pub again-shorter : (m : ℕ) → 49152 < m → m < 53248 → length (write_mode (again m)) < length (write_mode m)
again-shorter m p q = rw (again_less m p q) (omega (arith, long m p q, less (m - 32768) (omega arith) (omega arith)))

pub again-length : (m : ℕ) → length (write_mode (again m)) ≤ length (write_mode m)
again-length m =
    again_cases m (λ (n : ℕ). length (write_mode n) ≤ length (write_mode m)) (λ f. omega arith)
    (λ p q. omega (arith, long m p q, less (m - 32768) (omega arith) (omega arith)))

-- ---- entries as they read again

again_writable : (h : ℕ) (es : List Entry) → AllWritable h es → AllWritable h (map again_entry es)
unfolding again_entry
again_writable h [] f = tt
again_writable h (e ∷ es) f =
    let g = f.0 in
    let a = again-some e.mode g.some g.mode in
    (record { mode = a.1; some = a.0; name = g.name; id = g.id }, again_writable h es f.1)

entries_twice : (es : List Entry) → map again_entry (map again_entry es) ≡ map again_entry es
unfolding again_entry
entries_twice [] = refl
entries_twice (e ∷ es) = rw (again-twice e.mode, entries_twice es)

entry_length : (e : Entry) → length (entry_bytes e) ≡ length (write_mode e.mode) + 1 + length e.name + 1 + length e.id
unfolding entry_bytes
entry_length e = simp length-append (omega arith)

pub length-cons : (e : Entry) (es : List Entry)
    → length (as_written (e ∷ es)) ≡ length (write_mode e.mode) + 1 + length e.name + 1 + length e.id + length (as_written es)
unfolding as_written
length-cons e es = length-append (entry_bytes e) (as_written es) ∙ ap (λ (k : ℕ). k + length (as_written es)) (entry_length e)

pub again_cons : (e : Entry) (es : List Entry)
    → length (as_written (map again_entry (e ∷ es)))
    ≡ length (write_mode (again e.mode)) + 1 + length e.name + 1 + length e.id + length (as_written (map again_entry es))
unfolding again_entry
again_cons e es = length-cons (again_entry e) (map again_entry es)

pub no_longer : (es : List Entry) → length (as_written (map again_entry es)) ≤ length (as_written es)
no_longer [] = omega arith
no_longer (e ∷ es) = omega (arith, no_longer es, length-cons e es, again_cons e es, again-length e.mode)

-- ---- rewriting what was written from entries

some-listed : (h at : ℕ) (es : List Entry) → AllWritable h es → SomeModes (records_in (listed at es))
unfolding listed records_in record_for
some-listed h at [] f = tt
some-listed h at (e ∷ es) f = ((again-some e.mode f.0.some f.0.mode).0, some-listed h (at + length (entry_bytes e)) es f.1)

module _ (h : ℕ) (es : List Entry) (f : AllWritable h es) (p : length es ≤ most_records) where
  reads : listing h (as_written es) ≡ listed 0 es
  reads = read_written h most_records 0 es f p

  rewrite-written : rewrite h (as_written es) ≡ as_written (map again_entry es)
  unfolding rewrite
  rewrite-written = ap (λ (l : Listing). as_written (entries_of h (as_written es) (records_in l))) reads ∙ ap as_written (names-listed h [] es f)

  given-written : (lent : List ℕ) → (h ≡ 20) ⊎ (h ≡ 32) → length (as_written es) ≤ most_bytes → many (length lent) ≤ most_records → length es ≤ many (length lent)
      → Given h (as_written es) lent (length es)
  given-written lent i small few fits =
      let z : 0 + length es ≡ length es = omega arith in
      let t : tally 0 (listing h (as_written es)) ≡ Ok (length es) = ap (tally 0) reads ∙ listed_total 0 0 es ∙ ap Ok z in
      record {
        answer = answer-counted (listing h (as_written es)) _ (many (length lent)) (gate_fine h (length (as_written es)) (many (length lent)) i small few) t
            ∙ room-fine (many (length lent)) (length es) fits;
        modes = rw reads (some-listed h 0 es f);
      }

module _ (h : ℕ) (s lent : List ℕ) (n : ℕ) (g : Given h s lent n) where
  abbrev pub entries : List Entry
  entries = entries_of h s (records_in (listing h s))

  writable : AllWritable h entries
  writable = read_writable h s g.modes

  count : length entries ≡ n
  count = length-map (records_in (listing h s)) (entry_of h s) ∙ sym (count-is h s lent n g.answer)

  few : length entries ≤ most_records
  few = omega (arith, count, (accepted h s lent n g.answer).2, (bounds h s lent n g.answer).2)

  again-few : length (map again_entry entries) ≤ most_records
  again-few = rw (length-map entries again_entry) few

  pub first : times h 1 s ≡ as_written entries
  unfolding times rewrite
  first = refl

  pub second : times h 2 s ≡ as_written (map again_entry entries)
  unfolding times
  second = ap (rewrite h) first ∙ rewrite-written h entries writable few

  third : rewrite h (times h 2 s) ≡ times h 2 s
  third =
      ap (rewrite h) second ∙ rewrite-written h (map again_entry entries) (again_writable h entries writable) again-few
      ∙ ap as_written (entries_twice entries) ∙ sym second

  lasts : (k : ℕ) → times h (suc (suc k)) s ≡ times h 2 s
  unfolding times
  lasts zero = refl
  lasts (suc k) = ap (rewrite h) (lasts k) ∙ third

  module _ (small : length (rewrite h s) ≤ most_bytes) where
    first_small : length (as_written entries) ≤ most_bytes
    unfolding rewrite
    first_small = small

    fits : length entries ≤ many (length lent)
    fits = omega (arith, count, (accepted h s lent n g.answer).2)

    given-first : Given h (as_written entries) lent n
    given-first =
        let b = bounds h s lent n g.answer in
        subst (λ (k : ℕ). Given h (as_written entries) lent k) count (given-written h entries writable few lent b.0 first_small b.2 fits)

    given-second : Given h (as_written (map again_entry entries)) lent n
    given-second =
        let b = bounds h s lent n g.answer in
        let l : length (map again_entry entries) ≡ length entries = length-map entries again_entry in
        subst (λ (k : ℕ). Given h (as_written (map again_entry entries)) lent k) (l ∙ count)
        (given-written h (map again_entry entries) (again_writable h entries writable) again-few lent b.0
        (omega (arith, no_longer entries, first_small)) b.2 (omega (arith, l, fits)))

    given_all : (k : ℕ) → Given h (times h k s) lent n
    unfolding times
    given_all zero = g
    given_all (suc zero) = subst (λ (x : List ℕ). Given h x lent n) (sym first) given-first
    given_all (suc (suc k)) = subst (λ (x : List ℕ). Given h x lent n) (sym (lasts k ∙ second)) given-second

pub accepted_again : AcceptedAgain
accepted_again h s lent n g small k = given_all h s lent n g small k

pub second_lasts : SecondLasts
second_lasts h s lent n g zero p = absurd (omega arith)
second_lasts h s lent n g (suc zero) p = absurd (omega arith)
second_lasts h s lent n g (suc (suc k)) p = lasts h s lent n g k
