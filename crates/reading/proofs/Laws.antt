-- Laws of a listing: how it goes on from a place, its count, its records in lent numbers, and what reading it answers. Assumes nothing.
use Prim.Native.Nat.{ℕ, zero, suc, ◌+◌, ◌-◌, ◌*◌, ◌<◌, ◌≤◌}
use native.Mathlib.Decide.{dec_le}
use native.Mathlib.Omega.{arith}
use mathlib.Core.Path.{◌≡◌, refl, ap, sym, ◌∙◌}
use mathlib.Core.Bool.{Bool, true, false}
use mathlib.Core.List.{List, [], ◌∷◌}
use mathlib.Core.Logic.{⊎_elim}
use lib.Dec.{leb}
use lib.ListN.{length, take, drop, drop_of_length-le, length-drop}
use lib.Seq.{sets, drop-drop, take_all}
use borrow.Author.Tests.{le-leb, lt-leb, lt-ltb, leb-true}
use Rattle.ground.specs.Basics.{pick}
use Rattle.ground.specs.Verdict.{verdict, fine, broken, is_part, counted, refused, most_records, gate_of, stored}
use Rattle.ground.specs.declared.Verdict.{Verdict}
use Rattle.ground.specs.declared.Answer.{Answer}
use Rattle.ground.proofs.Laws.{gate_shut, sets_append, sets_front, stored-done, stored_refused}
use Rattle.entry.specs.Record.{width, many, flat, put_record}
use Rattle.entry.specs.Decode.{decode}
use Rattle.entry.specs.declared.EntryRecord.{EntryRecord}
use Rattle.entry.specs.declared.Cursor.{Cursor}
use Rattle.entry.proofs.Laws.{decode-inside, decode_three}
use Rattle.reading.specs.Listing.{Listing, done, stop, entry, follow, plain, listing, records_in, flats, tally}
use Rattle.reading.specs.Whole.{in_room, answer_of, finished}
use Rattle.std.specs.Prelude.{Err, Ok, Result, ⊤}

-- ---- how a listing goes on from a place where n entries are read

abbrev pub rest_at : ℕ → List ℕ → ℕ → ℕ → Listing
rest_at h s at n = plain h (most_records - n) at (drop at s)

pub plain-none : (h left at : ℕ) → plain h left at [] ≡ done
unfolding plain
plain-none h zero at = refl
plain-none h (suc left) at = refl

plain_full : (h at : ℕ) (b : List ℕ) → 0 < length b → plain h 0 at b ≡ stop (verdict 2 0)
unfolding plain
plain_full h at [] p = absurd (omega arith)
plain_full h at (x ∷ xs) p = refl

pub plain-some : (h left at : ℕ) (b : List ℕ) → 0 < length b → plain h (suc left) at b ≡ follow (plain h left) at b (decode h at b)
unfolding plain
plain-some h left at [] p = absurd (omega arith)
plain-some h left at (x ∷ xs) p = refl

module _ (h : ℕ) (s : List ℕ) (at n : ℕ) where
  pub rest_end : length s ≤ at → rest_at h s at n ≡ done
  rest_end p = rw (drop_of_length-le s {i = at} p) (plain-none h (most_records - n) at)

  module _ (p : at < length s) where
    some_left : 0 < length (drop at s)
    some_left = rw (length-drop at s) (omega arith)

    pub rest_full : most_records ≤ n → rest_at h s at n ≡ stop (verdict 2 0)
    rest_full f = let z : most_records - n ≡ 0 = omega arith in rw z (plain_full h at (drop at s) some_left)

    module _ (f : n < most_records) where
      rest_some : rest_at h s at n ≡ follow (plain h (most_records - (n + 1))) at (drop at s) (decode h at (drop at s))
      rest_some = let z : most_records - n ≡ suc (most_records - (n + 1)) = omega arith in rw z (plain-some h (most_records - (n + 1)) at (drop at s) some_left)

      pub rest-broken : {v : Verdict} → decode h at (drop at s) ≡ Err v → rest_at h s at n ≡ stop v
      unfolding follow
      rest-broken d = rest_some ∙ rw d

      pub rest-whole : {e : EntryRecord} {next : Cursor} → decode h at (drop at s) ≡ Ok (e, next) → rest_at h s at n ≡ entry at e (rest_at h s next.at (n + 1))
      unfolding follow
      rest-whole {e} {next} d =
          let i = decode-inside h s at e next d in
          let z : at + (next.at - at) ≡ next.at = omega arith in
          let k : drop (next.at - at) (drop at s) ≡ drop next.at s = drop-drop (next.at - at) at s ∙ ap (λ (j : ℕ). drop j s) z in
          rest_some ∙ rw (d, k)

-- ---- its count

-- it is the number of records
pub tally-length : (n : ℕ) (l : Listing) (count : ℕ) → tally n l ≡ Ok count → count ≡ n + length (records_in l)
unfolding tally records_in
tally-length n done count t = let y : n ≡ count = cc in omega arith
tally-length n (stop v) count t = let y : ◌≡◌ {A = ℕ} 0 1 = cc in absurd (omega arith)
tally-length n (entry at e l) count t = omega (arith, tally-length (n + 1) l count t)

-- an entry that can be read where not too many were is the next
pub whole_here : (h : ℕ) (s : List ℕ) (at n : ℕ) {e : EntryRecord} {next : Cursor} → n < most_records → decode h at (drop at s) ≡ Ok (e, next)
    → rest_at h s at n ≡ entry at e (rest_at h s next.at (n + 1))
whole_here h s at n {e} {next} f d = let i = decode-inside h s at e next d in rest-whole h s at n (omega arith) f d

-- nothing is left where as many were read as there may be, and where no entry can be read
full_none : (h at : ℕ) (b : List ℕ) → records_in (plain h 0 at b) ≡ []
unfolding plain records_in
full_none h at [] = refl
full_none h at (x ∷ xs) = refl

pub none_full : (h : ℕ) (s : List ℕ) (at n : ℕ) → most_records ≤ n → records_in (rest_at h s at n) ≡ []
none_full h s at n f = let z : most_records - n ≡ 0 = omega arith in rw z (full_none h at (drop at s))

pub none_left : (h : ℕ) (s : List ℕ) (at n : ℕ) {v : Verdict} → n < most_records → decode h at (drop at s) ≡ Err v → records_in (rest_at h s at n) ≡ []
unfolding records_in
none_left h s at n f d =
    elim (dec_le (length s) at) [
      | yes p ↦ ap records_in (rest_end h s at n p)
      | no p ↦ ap records_in (rest-broken h s at n (omega arith) f d)
    ]

-- ---- its records in lent numbers

pub flats-length : (es : List EntryRecord) → length (flats es) ≡ length es * width
unfolding flats
flats-length [] = omega arith
flats-length (e ∷ es) = omega (arith, flats-length es)

-- all that is asked for is still to be stored
pub store-start : (rec : List ℕ) (count : ℕ) (es : List EntryRecord) → sets rec 0 (flats (take count es)) ≡ sets rec (0 * width) (flats (take (count - 0) es))
store-start rec count es = let z : count - 0 ≡ count = omega arith in rw z

-- one entry stored of so many, and the others still to be
store_entry : (rec : List ℕ) (n at count : ℕ) (e : EntryRecord) (l m : Listing) → l ≡ entry at e m → n < many (length rec) → n < count
    → sets rec (n * width) (flats (take (count - n) (records_in l))) ≡ sets (put_record rec n e) ((n + 1) * width) (flats (take (count - (n + 1)) (records_in m)))
unfolding records_in flats put_record
store_entry rec n at count e l m q p i =
    let z : (n + 1) * width ≡ n * width + width = omega arith in
    let j : count - n ≡ suc (count - (n + 1)) = omega arith in
    rw (q, j) (sets_append rec (n * width) (flat e) (flats (take (count - (n + 1)) (records_in m))) ∙ simp (lt-ltb n (many (length rec)) p) (rw z))

-- one turn of the storing: what was still to be stored is what is still to be stored after it
pub store-turn : (rec new : List ℕ) (n at count : ℕ) (e : EntryRecord) (l m : Listing) {all : List ℕ} → l ≡ entry at e m → n < many (length rec) → n < count
    → new ≡ put_record rec n e → all ≡ sets rec (n * width) (flats (take (count - n) (records_in l)))
    → all ≡ sets new ((n + 1) * width) (flats (take (count - (n + 1)) (records_in m)))
store-turn rec new n at count e l m q p i w a =
    a ∙ store_entry rec n at count e l m q p i ∙ ap (λ (r : List ℕ). sets r ((n + 1) * width) (flats (take (count - (n + 1)) (records_in m)))) (sym w)

-- with as many stored as were asked for, and where no record is left, nothing more is
pub store_end : (rec : List ℕ) (i n count : ℕ) (l : Listing) → count ≤ n → sets rec i (flats (take (count - n) (records_in l))) ≡ rec
unfolding flats
store_end rec i n count l p = let z : count - n ≡ 0 = omega arith in rw z

pub store-none : (rec : List ℕ) (i k : ℕ) (l : Listing) → records_in l ≡ [] → sets rec i (flats (take k (records_in l))) ≡ rec
unfolding flats
store-none rec i k l q = rw q (go k)
  where
    go : (k : ℕ) → sets rec i (flats (take k [])) ≡ rec
    go zero = refl
    go (suc k) = refl

-- all of them stored from the front on
store_all : (rec : List ℕ) (l : Listing) (count : ℕ) → tally 0 l ≡ Ok count → count ≤ many (length rec)
    → sets rec 0 (flats (take count (records_in l))) ≡ stored fine (flats (records_in l)) rec
store_all rec l count t p =
    let k = tally-length 0 l count t in
    rw (take_all count (records_in l) (omega arith))
    (sets_front rec (flats (records_in l)) (omega (arith, flats-length (records_in l))) ∙ sym (stored-done fine (flats (records_in l)) rec refl))

-- ---- what it stops with

-- whatever a listing stops with has the property P
abbrev pub Stops : (Verdict → Type 0) → Listing → Type 0
Stops P done = Unit {0}
Stops P (stop v) = P v
Stops P (entry at e l) = Stops P l

pub tally_stops : (P : Verdict → Type 0) (n : ℕ) (l : Listing) (v : Verdict) → Stops P l → tally n l ≡ Err v → P v
unfolding tally
tally_stops P n done v s t = let y : ◌≡◌ {A = ℕ} 0 1 = cc in absurd (omega arith)
tally_stops P n (stop w) v s t = let y : w ≡ v = cc in rw y at s
tally_stops P n (entry at e l) v s t = tally_stops P (n + 1) l v s t

-- a plain listing stops with 2, or with 3 at an entry's first byte and one of the three parts
pub plain_stops : (P : Verdict → Type 0) → P (verdict 2 0) → ((at k : ℕ) → is_part k ≡ true → P (broken at k)) → (h left at : ℕ) (b : List ℕ)
    → Stops P (plain h left at b)
unfolding plain follow
plain_stops P two three h zero at [] = tt
plain_stops P two three h zero at (x ∷ xs) = two
plain_stops P two three h (suc left) at [] = tt
plain_stops P two three h (suc left) at (x ∷ xs) = go (plain_stops P two three h left) (decode h at (x ∷ xs)) refl
  where
    go : ((i : ℕ) (b : List ℕ) → Stops P (plain h left i b)) → (d : Result (EntryRecord × Cursor) Verdict) → decode h at (x ∷ xs) ≡ d → Stops P (follow (plain h left) at (x ∷ xs) d)
    go ih (Ok (e, next)) q = ih next.at (drop (next.at - at) (x ∷ xs))
    go ih (Err v) q = let w = decode_three h at (x ∷ xs) v q in rw w.1 (three at w.0 w.2)

-- so each is a refusal
abbrev pub Refusal : Verdict → Type 0
Refusal v = v.number ≡ 0 → ⊥

pub plain-refuses : (h : ℕ) (s : List ℕ) → Stops Refusal (listing h s)
plain-refuses h s = plain_stops Refusal (λ e. omega arith) (λ at k p e. omega arith) h most_records 0 s

pub gate_refuses : (h bytes records : ℕ) (v : Verdict) → gate_of h bytes records ≡ Err v → Refusal v
gate_refuses h bytes records v e = ⊎_elim (λ q. rw q (λ z. omega arith)) (λ q. rw q (λ z. omega arith)) (gate_shut h bytes records v e)

-- ---- the answer

module _ (l : Listing) (g : Result ⊤ Verdict) (room : ℕ) where
  pub answer-shut : (v : Verdict) → g ≡ Err v → answer_of g l room ≡ refused v
  unfolding answer_of
  answer-shut v q = rw q

  pub answer-counted : {k : Result ℕ Verdict} → g ≡ Ok tt → tally 0 l ≡ k → answer_of g l room ≡ in_room room k
  unfolding answer_of
  answer-counted q t = rw (q, t)

-- a reading that was done: the call began, the listing was counted to its end, and there was room
pub answer-done : (l : Listing) (h bytes records room n : ℕ) → Stops Refusal l → answer_of (gate_of h bytes records) l room ≡ counted n
    → (gate_of h bytes records ≡ Ok tt) × (tally 0 l ≡ Ok n) × (n ≤ room)
unfolding answer_of
answer-done l h bytes records room n r e = start (gate_of h bytes records) refl e
  where
    last : (m : ℕ) → tally 0 l ≡ Ok m → (v : Bool) → leb m room ≡ v → pick v (counted m) (refused (verdict 4 m)) ≡ counted n
        → (tally 0 l ≡ Ok n) × (n ≤ room)
    last m t true q e =
        let z : m ≡ n = ap (λ (a : Answer). a.count) e in
        (t ∙ ap Ok z, omega (arith, leb-true m room q))
    last m t false q e = let z : ◌≡◌ {A = ℕ} 4 0 = ap (λ (a : Answer). a.verdict.number) e in absurd (omega arith)

    go : (k : Result ℕ Verdict) → tally 0 l ≡ k → in_room room k ≡ counted n → (tally 0 l ≡ Ok n) × (n ≤ room)
    go (Ok m) t e = last m t (leb m room) refl e
    go (Err v) t e = absurd (tally_stops Refusal 0 l v r t (ap (λ (a : Answer). a.verdict.number) e))

    start : (g : Result ⊤ Verdict) → gate_of h bytes records ≡ g → answer_of g l room ≡ counted n → (gate_of h bytes records ≡ Ok tt) × (tally 0 l ≡ Ok n) × (n ≤ room)
    start (Ok tt) q e = let w = go (tally 0 l) refl e in (q, w.0, w.1)
    start (Err v) q e = absurd (gate_refuses h bytes records v q (ap (λ (a : Answer). a.verdict.number) e))

-- a refused reading leaves the lent list
pub refused-both : {a : Answer} (v : Verdict) (l lent : List ℕ) → a ≡ refused v → Refusal v → (refused v ≡ a) × (lent ≡ stored a.verdict l lent)
refused-both v l lent q z = (sym q, sym (ap (λ (x : Answer). stored x.verdict l lent) q ∙ stored_refused v l lent z))

pub room-short : (room n : ℕ) → room < n → in_room room (Ok n) ≡ refused (verdict 4 n)
room-short room n p = simp (lt-leb n room p)

pub room-fine : (room n : ℕ) → n ≤ room → in_room room (Ok n) ≡ counted n
room-fine room n p = simp (le-leb n room p)

-- ---- the end of a reading: its answer, and the lent list afterwards

module _ (h : ℕ) (s lent : List ℕ) where
  abbrev room : ℕ
  room = many (length lent)

  abbrev Ends : Result ℕ Verdict → Answer → List ℕ → Type 0
  Ends k a after = (a ≡ in_room room k) × (after ≡ finished h s k lent)

  short-leaves : (n : ℕ) → room < n → finished h s (Ok n) lent ≡ lent
  short-leaves n p = simp (lt-leb n room p)

  fine-stores : (n : ℕ) → n ≤ room → finished h s (Ok n) lent ≡ sets lent 0 (flats (take n (records_in (listing h s))))
  fine-stores n p = simp (le-leb n room p)

  pub ends_stopped : {k : Result ℕ Verdict} (v : Verdict) → k ≡ Err v → Ends k (refused v) lent
  ends_stopped v q = (rw q, rw q)

  pub ends-short : {k : Result ℕ Verdict} (n : ℕ) → k ≡ Ok n → room < n → Ends k (refused (verdict 4 n)) lent
  ends-short n q p = (rw q (sym (room-short room n p)), rw q (sym (short-leaves n p)))

  pub ends-done : {k : Result ℕ Verdict} (n : ℕ) {after : List ℕ} → k ≡ Ok n → n ≤ room → after ≡ sets lent 0 (flats (take n (records_in (listing h s))))
      → Ends k (counted n) after
  ends-done n q p w = (rw q (sym (room-fine room n p)), rw q (w ∙ sym (fine-stores n p)))

  -- of a listing that was counted, and that is the object's where it was read to its end, the records are stored where the verdict is done
  finished-is : (l : Listing) → Stops Refusal l → ((n : ℕ) → tally 0 l ≡ Ok n → l ≡ listing h s) → (k : Result ℕ Verdict) → tally 0 l ≡ k
      → finished h s k lent ≡ stored (in_room room k).verdict (flats (records_in l)) lent
  finished-is l z f (Err v) t = sym (stored_refused v (flats (records_in l)) lent (tally_stops Refusal 0 l v z t))
  finished-is l z f (Ok n) t = go (leb n room) refl
    where
      go : (v : Bool) → leb n room ≡ v
          → pick v (sets lent 0 (flats (take n (records_in (listing h s))))) lent
          ≡ stored (pick v (counted n) (refused (verdict 4 n))).verdict (flats (records_in l)) lent
      go true q = rw (← f n t) (store_all lent l n t (leb-true n room q))
      go false q = sym (stored_refused (verdict 4 n) (flats (records_in l)) lent (λ e. omega arith))

  -- and so the whole reading, where the call may begin
  pub read-both : {g : Result ⊤ Verdict} {k : Result ℕ Verdict} {a : Answer} {after : List ℕ} (l : Listing) → Stops Refusal l → ((n : ℕ) → tally 0 l ≡ Ok n → l ≡ listing h s)
      → g ≡ Ok tt → k ≡ tally 0 l → Ends k a after → (a ≡ answer_of g l room) × (after ≡ stored (answer_of g l room).verdict (flats (records_in l)) lent)
  read-both {g} {k} l z f q t w =
      let u : answer_of g l room ≡ in_room room k = answer-counted l g room q (sym t) in
      (w.0 ∙ sym u, w.1 ∙ finished-is l z f k (sym t) ∙ ap (λ (x : Answer). stored x.verdict (flats (records_in l)) lent) (sym u))
