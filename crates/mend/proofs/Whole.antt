-- The whole of a mending: what the walks and sorts give together, and the answer. Assumes nothing.
use Prim.Native.Nat.{ℕ, suc, ◌+◌, ◌<◌, ◌≤◌, max}
use native.Mathlib.Omega.{arith}
use mathlib.Core.Path.{◌≡◌, refl, ap, sym, ◌∙◌}
use mathlib.Core.Logic.{⊎_elim}
use mathlib.Core.Bool.{Bool, true, false}
use mathlib.Core.List.{List, [], ◌∷◌, ◌++◌, map}
use lib.Dec.{leb}
use lib.ListN.{length, take, drop, length-append, length-drop, length-take}
use lib.Seq.{sets, length-sets, take-append_seam, take_at}
use borrow.Author.Tests.{le-leb, lt-leb, leb-true}
use Rattle.ground.specs.Basics.{pick}
use Rattle.ground.specs.Verdict.{verdict, fine, counted, refused, most_bytes, most_records, gate_of, stored}
use Rattle.ground.specs.declared.Verdict.{Verdict}
use Rattle.ground.specs.declared.Answer.{Answer}
use Rattle.ground.proofs.Laws.{sets_front, stored-done, stored_refused, gate_open, gate_fine, gate_shut, id_small}
use Rattle.entry.specs.declared.EntryRecord.{EntryRecord}
use Rattle.reading.specs.Listing.{listing, tally, records_in}
use Rattle.reading.specs.Whole.{answer_of}
use Rattle.reading.specs.Whole as reading
use Rattle.reading.proofs.Laws.{tally-length, tally_stops, plain_stops, plain-refuses, Stops, Refusal, answer-counted}
use Rattle.keys.specs.Key.{key_at, below_by}
use Rattle.sorting.specs.Sort.{sort_by}
use Rattle.sorting.proofs.Sorted.{sort-length}
use Rattle.mend.specs.Mend.{fates_from, fates_of, kept_of, mended, names_after, not_mended, in_room, counted_answer, answer_by, mend_answer}
use Rattle.mend_kept.specs.Code.{chosen, element_of, elements, Known, code_fates, code_size, all_bytes}
use Rattle.mend.specs.declared.Mended.{Mended}
use Rattle.mend_kept.proofs.Fates.{reads_all, sorted-known, fates_are, kept-elements}
use Rattle.mend_kept.proofs.Sorts.{mended-is, mended-length, size-kept, sized_of}
use Rattle.std.specs.Prelude.{Err, Ok, Result}

-- ---- lengths

elements-few : (second : Bool) (s fates : List ℕ) (n : ℕ) (es : List EntryRecord) → length (elements second s fates n es) ≤ length es
unfolding elements
elements-few second s fates n [] = omega arith
elements-few second s fates n (e ∷ es) = go (chosen second s fates n e) (elements-few second s fates (n + 1) es)
  where
    go : (b : Bool) → length (elements second s fates (n + 1) es) ≤ length es
        → length (pick b (element_of second e ∷ elements second s fates (n + 1) es) (elements second s fates (n + 1) es)) ≤ suc (length es)
    go true p = omega arith
    go false p = omega arith

pub fates_length : (s : List ℕ) (names : List (List ℕ)) (es : List EntryRecord) → length (fates_from s names es) ≡ length es
unfolding fates_from
fates_length s names [] = refl
fates_length s names (e ∷ es) = ap suc (fates_length s (names_after s names e) es)

-- ---- elements at the front of a list, sorted

module _ (below : ℕ → ℕ → Bool) (list c : List ℕ) (few : length c ≤ length list) (m : ℕ) (q : m ≡ length c) (l1 l2 : List ℕ)
    (p : l1 ≡ sets list 0 c) (w : l2 ≡ sort_by below (take m l1) ++ drop m l1) where
  front : take m l1 ≡ c
  front = rw (p, sets_front list c few, q) (take-append_seam c (drop (length c) list))

  sorted-is : l2 ≡ sort_by below c ++ drop m l1
  sorted-is = w ∙ ap (λ (l : List ℕ). sort_by below l ++ drop m l1) front

  pub sorted_front : take m l2 ≡ sort_by below c
  sorted_front = rw sorted-is (take_at (sort_by below c) (drop m l1) m (sort-length below c ∙ sym q))

  pub sorted-length : length l2 ≡ length list
  sorted-length =
      let a = ap length p ∙ length-sets list 0 c in
      omega (arith, ap length sorted-is, length-append (sort_by below c) (drop m l1), sort-length below c, length-drop m l1, a)

-- ---- a mending with room enough for elements

module _ (h : ℕ) (s : List ℕ) (long : 20 ≤ h) (count : ℕ) (t : tally 0 (listing h s) ≡ Ok count) (fates : List ℕ) where
  many_are : count ≡ length (records_in (listing h s))
  many_are = omega (arith, tally-length 0 (listing h s) count t)

  pub first-few : (list : List ℕ) → count ≤ length list → length (elements false s fates 0 (records_in (listing h s))) ≤ length list
  first-few list p = omega (arith, many_are, elements-few false s fates 0 (records_in (listing h s)))

  pub second-few : (after list : List ℕ) → count ≤ length list → length (elements true s after 0 (records_in (listing h s))) ≤ length list
  second-few after list p = omega (arith, many_are, elements-few true s after 0 (records_in (listing h s)))

  module _ (d : List ℕ) (q : d ≡ sort_by (below_by (key_at s 32 0)) (elements false s fates 0 (records_in (listing h s)))) where
    pub known_is : Known h s d
    known_is = rw q (sorted-known h s long fates)

    pub need_is : code_size h s d (records_in (listing h s)) ≡ length (mended h s)
    need_is =
        size-kept h s d 0 (records_in (listing h s)) [] (reads_all h s)
        (sized_of h s d [] (records_in (listing h s)) (fates_are h s long fates d q)) ∙ sym (mended-length h s)

    pub fates_stored : count ≤ length fates → (after : List ℕ) → after ≡ sets fates 0 (code_fates s d (records_in (listing h s)))
        → after ≡ fates_of h s ++ drop (length (fates_of h s)) fates
    fates_stored p after w =
        w ∙ rw (fates_are h s long fates d q)
        (sets_front fates (fates_of h s) (omega (arith, many_are, fates_length s [] (records_in (listing h s)))))

  -- the second time: the kept entries
  module _ (after rest : List ℕ) (a : after ≡ fates_of h s ++ rest) where
    kept_are : elements true s after 0 (records_in (listing h s)) ≡ map (element_of true) (kept_of h s)
    kept_are = kept-elements s after rest 0 (records_in (listing h s)) [] a

    pub all-is : (l : List ℕ) → l ≡ sort_by (below_by (key_at s 32 0)) (elements true s after 0 (records_in (listing h s))) → all_bytes h s l ≡ mended h s
    all-is l q = ap (all_bytes h s) (q ∙ ap (sort_by (below_by (key_at s 32 0))) kept_are) ∙ mended-is h s long

-- ---- the answer

module _ (room need count : ℕ) where
  pub room-short : room < need → in_room room need count ≡ not_mended (verdict 8 need)
  unfolding in_room
  room-short p = rw (lt-leb need room p) refl

  pub room-fine : need ≤ room → in_room room need count ≡ record { verdict = fine; count = need; entries = count }
  unfolding in_room
  room-fine p = rw (le-leb need room p) refl

-- refused: all that is lent stays
pub refused_all : (v : Verdict) (r a : Mended) (f fates o out : List ℕ) → r ≡ not_mended v → a ≡ not_mended v → (v.number ≡ 0 → ⊥)
    → (r ≡ a) × ((fates ≡ stored r.verdict f fates) × (out ≡ stored r.verdict o out))
refused_all v r a f fates o out p q n = (
  p ∙ sym q,
  (
    sym (ap (λ (x : Mended). stored x.verdict f fates) p ∙ stored_refused v f fates n),
    sym (ap (λ (x : Mended). stored x.verdict o out) p ∙ stored_refused v o out n),
  ),
)

pub shut_all : (v : Verdict) (r a : Mended) (f fates o out : List ℕ) → r ≡ not_mended v → a ≡ not_mended v → (v.number ≡ 0 → ⊥)
    → (r ≡ a) × ((fates ≡ stored a.verdict f fates) × (out ≡ stored a.verdict o out))
shut_all v r a f fates o out p q n = (
  p ∙ sym q,
  (
    sym (ap (λ (x : Mended). stored x.verdict f fates) q ∙ stored_refused v f fates n),
    sym (ap (λ (x : Mended). stored x.verdict o out) q ∙ stored_refused v o out n),
  ),
)

-- the same answer by another name
pub answer_all : (r a b : Mended) (f fates o out after w : List ℕ) → a ≡ b → (r ≡ b) × ((after ≡ stored r.verdict f fates) × (w ≡ stored r.verdict o out))
    → (r ≡ a) × ((after ≡ stored a.verdict f fates) × (w ≡ stored a.verdict o out))
answer_all r a b f fates o out after w q p =
    let z : r ≡ a = p.0 ∙ sym q in
    (z, (p.1.0 ∙ ap (λ (x : Mended). stored x.verdict f fates) z, p.1.1 ∙ ap (λ (x : Mended). stored x.verdict o out) z))

-- too little room, and room enough
module _ (h : ℕ) (s : List ℕ) (count need : ℕ) (fates out : List ℕ) (n : need ≡ length (mended h s)) where
  pub with_short : length out < need → in_room (length out) (length (mended h s)) count ≡ not_mended (verdict 8 need)
  with_short p = rw (← n) (room-short (length out) need count p)

  pub with_done : need ≤ length out → (after w rest : List ℕ) → after ≡ fates_of h s ++ drop (length (fates_of h s)) fates → w ≡ sets out 0 (mended h s)
      → (◌≡◌ {A = Mended} (record { verdict = fine; count = need; entries = count }) (in_room (length out) (length (mended h s)) count))
      × ((after ≡ stored fine (fates_of h s) fates) × (w ≡ stored fine (mended h s) out))
  with_done p after w rest a q = (
    rw (← n) (sym (room-fine (length out) need count p)),
    (
      a ∙ sym (stored-done fine (fates_of h s) fates refl),
      q ∙ sets_front out (mended h s) (omega (arith, n)) ∙ sym (stored-done fine (mended h s) out refl),
    ),
  )

module _ (h : ℕ) (s : List ℕ) (list room : ℕ) where
  pub counted_stopped : (v : Verdict) → tally 0 (listing h s) ≡ Err v → counted_answer h s list room (tally 0 (listing h s)) ≡ not_mended v
  unfolding counted_answer
  counted_stopped v q = rw q refl

  pub counted-short : (n : ℕ) → tally 0 (listing h s) ≡ Ok n → list < n → counted_answer h s list room (tally 0 (listing h s)) ≡ not_mended (verdict 4 n)
  unfolding counted_answer
  counted-short n q p = rw (q, lt-leb n list p) refl

  pub counted-fine : (n : ℕ) → tally 0 (listing h s) ≡ Ok n → n ≤ list
      → counted_answer h s list room (tally 0 (listing h s)) ≡ in_room room (length (mended h s)) n
  unfolding counted_answer
  counted-fine n q p = rw (q, le-leb n list p) refl

-- what reading with no room for records says of the count
module _ (h : ℕ) (s : List ℕ) (a : Answer) (q : a ≡ reading.in_room 0 (tally 0 (listing h s))) where
  four : Stops (λ (v : Verdict). v.number ≡ 4 → ⊥) (listing h s)
  four = plain_stops (λ (v : Verdict). v.number ≡ 4 → ⊥) (λ e. omega arith) (λ at k p e. omega arith) h most_records 0 s

  stops : (v : Verdict) → tally 0 (listing h s) ≡ Err v → (v.number ≡ 0 → ⊥) × (v.number ≡ 4 → ⊥)
  stops v t = (tally_stops Refusal 0 (listing h s) v (plain-refuses h s) t, tally_stops (λ (v : Verdict). v.number ≡ 4 → ⊥) 0 (listing h s) v four t)

  pub read_none : a.verdict.number ≡ 0 → tally 0 (listing h s) ≡ Ok 0
  read_none z = go (tally 0 (listing h s)) refl q
    where
      last : (n : ℕ) (b : Bool) → leb n 0 ≡ b → a ≡ pick b (counted n) (refused (verdict 4 n)) → n ≡ 0
      last n true l e = omega (arith, leb-true n 0 l)
      last n false l e = let y : ◌≡◌ {A = ℕ} 4 0 = ap (λ (x : Answer). x.verdict.number) (sym e) ∙ z in absurd (omega arith)

      go : (k : Result ℕ Verdict) → tally 0 (listing h s) ≡ k → a ≡ reading.in_room 0 k → k ≡ Ok 0
      go (Ok n) t e = ap Ok (last n (leb n 0) refl e)
      go (Err v) t e = absurd ((stops v t).0 (ap (λ (x : Answer). x.verdict.number) (sym e) ∙ z))

  pub read-many : a.verdict.number ≡ 4 → (a.verdict ≡ verdict 4 a.verdict.place) × (tally 0 (listing h s) ≡ Ok a.verdict.place)
  read-many z = go (tally 0 (listing h s)) refl q
    where
      last : (n : ℕ) (b : Bool) → a ≡ pick b (counted n) (refused (verdict 4 n)) → (a.verdict ≡ verdict 4 a.verdict.place) × (n ≡ a.verdict.place)
      last n true e = let y : ◌≡◌ {A = ℕ} 0 4 = ap (λ (x : Answer). x.verdict.number) (sym e) ∙ z in absurd (omega arith)
      last n false e = (rw e refl, rw e refl)

      go : (k : Result ℕ Verdict) → tally 0 (listing h s) ≡ k → a ≡ reading.in_room 0 k → (a.verdict ≡ verdict 4 a.verdict.place) × (k ≡ Ok a.verdict.place)
      go (Ok n) t e = let w = last n (leb n 0) e in (w.0, ap Ok w.1)
      go (Err v) t e = absurd ((stops v t).1 (ap (λ (x : Answer). x.verdict.number) (sym e) ∙ z))

  pub read_stopped : (a.verdict.number ≡ 0 → ⊥) → (a.verdict.number ≡ 4 → ⊥) → tally 0 (listing h s) ≡ Err a.verdict
  read_stopped y z = go (tally 0 (listing h s)) q
    where
      last : (n : ℕ) (b : Bool) → a ≡ pick b (counted n) (refused (verdict 4 n)) → Ok n ≡ Err a.verdict
      last n true e = absurd (y (ap (λ (x : Answer). x.verdict.number) e))
      last n false e = absurd (z (ap (λ (x : Answer). x.verdict.number) e))

      go : (k : Result ℕ Verdict) → a ≡ reading.in_room 0 k → k ≡ Err a.verdict
      go (Ok n) e = last n (leb n 0) e
      go (Err v) e = ap Err (sym (ap (λ (x : Answer). x.verdict) e))

-- ---- the gate

module _ (h : ℕ) (s : List ℕ) (list room longest : ℕ) (l : longest ≡ max (length s) room) where
  pub gate_refuses : (v : Verdict) → gate_of h longest list ≡ Err v → (mend_answer h s list room ≡ not_mended v) × (v.number ≡ 0 → ⊥)
  unfolding mend_answer answer_by
  gate_refuses v g = (
    rw (← l, g) refl,
    ⊎_elim (λ q e. let z : ◌≡◌ {A = ℕ} 1 0 = ap (λ (x : Verdict). x.number) (sym q) ∙ e in omega arith)
        (λ q e. let z : ◌≡◌ {A = ℕ} 2 0 = ap (λ (x : Verdict). x.number) (sym q) ∙ e in omega arith) (gate_shut h longest list v g),
  )

  module _ (g : gate_of h longest list ≡ Ok tt) where
    pub gate_sizes : (length s ≤ most_bytes) × (20 ≤ h) × (h ≤ 32) × (list ≤ most_records)
    gate_sizes =
        let w = gate_open h longest list g in
        let i = id_small h w.0 in
        (omega (arith, w.1), i.0, i.1, w.2)

    pub gate_answer : mend_answer h s list room ≡ counted_answer h s list room (tally 0 (listing h s))
    unfolding mend_answer answer_by
    gate_answer = rw (← l, g) refl

    pub gate_read : (a : Answer) → a ≡ answer_of (gate_of h (length s) 0) (listing h s) 0 → a ≡ reading.in_room 0 (tally 0 (listing h s))
    gate_read a q =
        let w = gate_open h longest list g in
        let o : gate_of h (length s) 0 ≡ Ok tt = gate_fine h (length s) 0 w.0 (omega (arith, w.1)) (omega arith) in
        q ∙ answer-counted (listing h s) (gate_of h (length s) 0) 0 o refl

-- ---- equations handed on

pub eight : (need : ℕ) → (verdict 8 need).number ≡ 0 → ⊥
eight need e = omega arith

pub sets_of : (out : List ℕ) {a b : List ℕ} → a ≡ b → sets out 0 a ≡ sets out 0 b
sets_of out q = ap (sets out 0) q

pub written-front : (h : ℕ) (s out after l d : List ℕ) → l ≡ d → after ≡ sets out 0 (all_bytes h s l) → after ≡ sets out 0 (all_bytes h s d)
written-front h s out after l d q w = w ∙ ap (λ (x : List ℕ). sets out 0 (all_bytes h s x)) q

pub most_le : 1048576 ≤ most_records
most_le = omega arith

pub over : (n : ℕ) → n ≤ most_records → 1048576 < n → ⊥
over n p q = omega arith

pub front_few : (k : ℕ) (l l0 : List ℕ) → k ≤ length l → length l ≡ length l0 → length l0 ≤ most_records → length (take k l) ≤ most_records
front_few k l l0 p q r = omega (arith, length-take k l)
