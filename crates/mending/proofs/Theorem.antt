-- The theorems of mending. Assumes nothing.
use Prim.Native.Nat.{ℕ, suc, ◌≤◌, max}
use native.Mathlib.Omega.{arith}
use mathlib.Core.Path.{◌≡◌, refl, ap}
use mathlib.Core.Logic.{◌⊎◌, ⊎_elim}
use mathlib.Core.Bool.{Bool, true, false}
use mathlib.Core.List.Memᴰ
use mathlib.Core.List.{List, [], ◌∷◌, map, Memᴰ}
use lib.Dec.{leb}
use lib.ListN.{length}
use borrow.Author.Tests.{leb-true}
use Rattle.ground.specs.Basics.{pick}
use Rattle.ground.specs.Verdict.{verdict, fine, most_bytes, most_records, gate_of}
use Rattle.ground.proofs.Laws.{gate_open, id_small}
use Rattle.entry.specs.Record.{many, name_of, id_of}
use Rattle.entry.specs.Entry.{Entry, as_written}
use Rattle.entry.specs.declared.EntryRecord.{EntryRecord}
use Rattle.rules.specs.Rules.{git_rules, stands_before}
use Rattle.reading.specs.Listing.{listing, tally, records_in, flats}
use Rattle.reading.proofs.Laws.{tally-length, tally_stops, plain-refuses, Refusal, gate_refuses, flats-length}
use Rattle.one_listing.specs.Demand.{Accepts}
use Rattle.one_listing.proofs.Present.{git_ok, plainly, git_one-listing}
use Rattle.one_listing.proofs.Theorem.{accepts_sound}
use Rattle.sorting.specs.Sort.{sort_by}
use Rattle.sorting.proofs.Sorted.{sort-length, sort_perm}
use Rattle.sorting.proofs.Repeats.{perm_mem}
use Rattle.mend.specs.Mend.{fate_in, is_kept, names_after, fates_of, kept_from, kept_of, mended_entry, mended, not_mended, in_room, counted_answer, answer_by, mend_answer}
use Rattle.mend.specs.declared.Mended.{Mended}
use Rattle.mend_kept.proofs.Fates.{All, reads_all}
use Rattle.mend_kept.proofs.Sorts.{mended-length}
use Rattle.mend.proofs.Whole.{fates_length}
use Rattle.mending.specs.Mending.{mended_listing, Done, AllKept, Mending}
use Rattle.mending.proofs.Shorter.{kept-shorter}
use Rattle.mending.proofs.Sound.{mem-map, listing-sound}
use Rattle.mending.proofs.Unchanged.{Zero, same_object}
use Rattle.ground.specs.declared.Verdict.{Verdict}
use Rattle.std.specs.Prelude.{Err, Ok, Result, ⊤}

-- a call that was done: the object was read to its end, within the bounds
pub record Parts (h : ℕ) (s : List ℕ) (list room : ℕ) : Type 0 where
  pub count : ℕ
  pub total : tally 0 (listing h s) ≡ Ok count
  pub answer : mend_answer h s list room ≡ record { verdict = fine; count = length (mended h s); entries = count }
  pub id : (h ≡ 20) ⊎ (h ≡ 32)
  pub small : length s ≤ most_bytes
  pub few : count ≤ most_records

done-parts : (h : ℕ) (s : List ℕ) (list room : ℕ) → Done h s list room → Parts h s list room
unfolding mend_answer answer_by counted_answer in_room
done-parts h s list room z = start (gate_of h (max (length s) room) list) refl z
  where
    fits : (n : ℕ) → tally 0 (listing h s) ≡ Ok n → gate_of h (max (length s) room) list ≡ Ok tt → (b c : Bool) → leb n list ≡ b → leb (length (mended h s)) room ≡ c
        → (pick b (pick c (record { verdict = fine; count = length (mended h s); entries = n }) (not_mended (verdict 8 (length (mended h s))))) (not_mended (verdict 4 n))).verdict.number ≡ 0
        → Parts h s list room
    fits n t g true true p q z =
        let w = gate_open h (max (length s) room) list g in
        record { count = n; total = t; answer = rw (g, t, p, q) refl; id = w.0; small = omega (arith, w.1); few = omega (arith, w.2, leb-true n list p) }
    fits n t g true false p q z = absurd (omega arith)
    fits n t g false c p q z = absurd (omega arith)

    go : (k : Result ℕ Verdict) → tally 0 (listing h s) ≡ k → gate_of h (max (length s) room) list ≡ Ok tt → (counted_answer h s list room k).verdict.number ≡ 0 → Parts h s list room
    go (Ok n) t g z = fits n t g (leb n list) (leb (length (mended h s)) room) refl refl z
    go (Err v) t g z = absurd (tally_stops Refusal 0 (listing h s) v (plain-refuses h s) t z)

    start : (g : Result ⊤ Verdict) → gate_of h (max (length s) room) list ≡ g → (answer_by g (counted_answer h s list room (tally 0 (listing h s)))).verdict.number ≡ 0 → Parts h s list room
    start (Ok tt) g z = go (tally 0 (listing h s)) refl g z
    start (Err v) g z = absurd (gate_refuses h (max (length s) room) list v g z)

named : (h : ℕ) (s : List ℕ) (list room : ℕ) → Done h s list room
    → ((mend_answer h s list room).entries ≡ length (records_in (listing h s))) × (length (fates_of h s) ≡ length (records_in (listing h s)))
named h s list room z =
    let p = done-parts h s list room z in
    (omega (arith, ap (λ (a : Mended). a.entries) p.answer, tally-length 0 (listing h s) p.count p.total), fates_length s [] (records_in (listing h s)))

shorter : (h : ℕ) (s : List ℕ) (list room : ℕ) → Done h s list room
    → ((mend_answer h s list room).count ≡ length (mended h s)) × (length (mended h s) ≤ length s)
shorter h s list room z =
    let p = done-parts h s list room z in
    let i = id_small h p.id in
    (ap (λ (a : Mended). a.count) p.answer, omega (arith, mended-length h s, kept-shorter h s i.0 0 (records_in (listing h s)) [] (reads_all h s) (omega arith)))

kept-mem : (s : List ℕ) (names : List (List ℕ)) (es : List EntryRecord) (r : EntryRecord) → Memᴰ r (kept_from s names es) → Memᴰ r es
unfolding kept_from
kept-mem s names [] r m = absurd (Memᴰ.not-nil m)
kept-mem s names (e ∷ es) r m = go (is_kept (fate_in s names e)) (λ k. kept-mem s (names_after s names e) es r k) m
  where
    go : (b : Bool) → (Memᴰ r (kept_from s (names_after s names e) es) → Memᴰ r es)
        → Memᴰ r (pick b (e ∷ kept_from s (names_after s names e) es) (kept_from s (names_after s names e) es)) → Memᴰ r (e ∷ es)
    go true ih m = ⊎_elim (λ q. Memᴰ.head q) (λ k. Memᴰ.tail (ih k)) (Memᴰ.cases_cons m)
    go false ih m = Memᴰ.tail (ih m)

names_and_ids : (h : ℕ) (s : List ℕ) (e : Entry) → Memᴰ e (mended_listing h s)
    → (r : EntryRecord) × Memᴰ r (records_in (listing h s)) × (e.name ≡ name_of s r) × (e.id ≡ id_of h s r)
unfolding mended_listing mended_entry
names_and_ids h s e m =
    let w = mem-map (mended_entry h s) e (kept_of h s) (perm_mem (sort_perm stands_before (map (mended_entry h s) (kept_of h s))) m) in
    (w.0, kept-mem s [] (records_in (listing h s)) w.0 w.1, ap (λ (x : Entry). x.name) w.2, ap (λ (x : Entry). x.id) w.2)

kept-few : (s : List ℕ) (names : List (List ℕ)) (es : List EntryRecord) → length (kept_from s names es) ≤ length es
unfolding kept_from
kept-few s names [] = omega arith
kept-few s names (e ∷ es) = go (is_kept (fate_in s names e)) (kept-few s (names_after s names e) es)
  where
    go : (b : Bool) → length (kept_from s (names_after s names e) es) ≤ length es
        → length (pick b (e ∷ kept_from s (names_after s names e) es) (kept_from s (names_after s names e) es)) ≤ suc (length es)
    go true p = omega arith
    go false p = omega arith

map-many : {A B : Type 0} (f : A → B) (l : List A) → length (map f l) ≡ length l
map-many f [] = refl
map-many f (x ∷ l) = ap suc (map-many f l)

accepted : (h : ℕ) (s : List ℕ) (list room : ℕ) (lent : List ℕ) → Done h s list room → length (records_in (listing h s)) ≤ many (length lent)
    → many (length lent) ≤ most_records → Accepts (git_rules 2) h (mended h s) lent (mended_listing h s)
unfolding mended mended_listing
accepted h s list room lent z fits few =
    let p = done-parts h s list room z in
    let i = id_small h p.id in
    let q = (shorter h s list room z).1 in
    let es : List Entry = sort_by stands_before (map (mended_entry h s) (kept_of h s)) in
    (git_one-listing 2 h (as_written (sort_by stands_before (map (mended_entry h s) (kept_of h s)))) lent (sort_by stands_before (map (mended_entry h s) (kept_of h s)))
    p.id (omega (arith, q, p.small)) few).1 (
      (plainly 2 h (sort_by stands_before (map (mended_entry h s) (kept_of h s)))).0 (listing-sound h s i.0),
      omega (arith, sort-length stands_before (map (mended_entry h s) (kept_of h s)), map-many (mended_entry h s) (kept_of h s), kept-few s [] (records_in (listing h s))),
      refl,
    )

all-kept : (l : List ℕ) → All Zero l → AllKept l
all-kept [] a = tt
all-kept (f ∷ l) a = (a.0, all-kept l a.1)

unchanged : (h : ℕ) (s lent : List ℕ) (es : List Entry) → many (length lent) ≤ most_records → Accepts (git_rules 2) h s lent es
    → (mended h s ≡ s) × AllKept (fates_of h s)
unchanged h s lent es few a =
    let n = (accepts_sound (git_rules 2) (git_ok 2) h s lent es a).1 in
    let w = same_object h s lent es (omega arith) a in
    (w.0, all-kept (fates_of h s) w.1)

twice : (h : ℕ) (s : List ℕ) (list room : ℕ) → Done h s list room → (mended h (mended h s) ≡ mended h s) × AllKept (fates_of h (mended h s))
twice h s list room z =
    let p = done-parts h s list room z in
    let n = tally-length 0 (listing h s) p.count p.total in
    let l = flats-length (records_in (listing h s)) in
    let few : many (length (flats (records_in (listing h s)))) ≤ most_records = omega (arith, n, p.few) in
    let fits : length (records_in (listing h s)) ≤ many (length (flats (records_in (listing h s)))) = omega arith in
    unchanged h (mended h s) (flats (records_in (listing h s))) (mended_listing h s) few (accepted h s list room (flats (records_in (listing h s))) z fits few)

pub mending : Mending
mending =
    record {
      named = named;
      shorter = shorter;
      names_and_ids = names_and_ids;
      accepted = accepted;
      unchanged = unchanged;
      twice = twice;
    }
