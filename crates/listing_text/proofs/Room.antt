-- The room for records is enough, and what the text says of an object that was read. Assumes nothing.
use Prim.Native.Nat.{ℕ, zero, suc, ◌+◌, ◌-◌, ◌*◌, ◌<◌, ◌≤◌}
use native.Mathlib.Omega.{arith}
use mathlib.Core.Path.{◌≡◌, refl, ap, sym, ◌∙◌}
use mathlib.Core.Bool.{true, false}
use mathlib.Core.List.{List, [], ◌∷◌, ◌++◌}
use lib.ListN.{length, take, drop, length-drop, length-take}
use lib.Seq.{sets, length-take-le, take-append_seam}
use borrow.Author.Tests.{le-leb, lt-leb}
use Rattle.ground.specs.Verdict.{verdict, fine, counted, gate_of, stored, id_length}
use Rattle.ground.specs.declared.Verdict.{Verdict}
use Rattle.ground.specs.declared.Answer.{Answer}
use Rattle.ground.proofs.Laws.{id-is, id_small, gate_fine, stored-done}
use Rattle.mode.proofs.Laws.{read_next}
use Rattle.entry.specs.Record.{width, many, records_of}
use Rattle.entry.specs.Decode.{decode}
use Rattle.entry.specs.declared.EntryRecord.{EntryRecord}
use Rattle.entry.proofs.Laws.{decode-parts}
use Rattle.reading.specs.Listing.{follow, plain, listing, records_in, flats, tally}
use Rattle.reading.specs.Whole.{in_room, read_answer, read_records}
use Rattle.reading.proofs.Laws.{Refusal, tally_stops, tally-length, plain-refuses, answer-counted, room-fine, flats-length}
use Rattle.listing_text.specs.Text.{head, lines, refusal, longest, told_of, tally_verdict, text_of, text, listed_of, listed}
use Rattle.listing_text.specs.Code.{Added, room}
use Rattle.listing_text.specs.declared.Listed.{Listed}
use Rattle.listing_text.proofs.Laws.{added_then}
use Rattle.entry.specs.declared.Cursor.{Cursor}
use Rattle.std.specs.Prelude.{Err, Ok, Result}

-- ---- how many entries an object can have

-- an entry has at least 22 bytes: a space, a NUL and an id
entries_least : (h : ℕ) → 20 ≤ h → (left at : ℕ) (b : List ℕ) (k n : ℕ) → tally k (plain h left at b) ≡ Ok n → n * 22 ≤ k * 22 + length b
unfolding plain follow tally
entries_least h w zero at [] k n t = let y : k ≡ n = cc in omega arith
entries_least h w zero at (x ∷ xs) k n t = let z : ◌≡◌ {A = ℕ} 0 1 = cc in absurd (omega arith)
entries_least h w (suc left) at [] k n t = let y : k ≡ n = cc in omega arith
entries_least h w (suc left) at (x ∷ xs) k n t = go (entries_least h w left) (decode h at (x ∷ xs)) refl t
  where
    go : ((i : ℕ) (b : List ℕ) (j m : ℕ) → tally j (plain h left i b) ≡ Ok m → m * 22 ≤ j * 22 + length b) → (d : Result (EntryRecord × Cursor) Verdict) → decode h at (x ∷ xs) ≡ d
        → tally k (follow (plain h left) at (x ∷ xs) d) ≡ Ok n → n * 22 ≤ k * 22 + length (x ∷ xs)
    go ih (Ok (e, next)) q t =
        let p = decode-parts h at (x ∷ xs) e next q in
        let r = read_next (x ∷ xs) e.mode p.size p.reads in
        let y = ih next.at (drop (next.at - at) (x ∷ xs)) (k + 1) n t in
        omega (arith, r, y, w, p.past, p.inside, length-drop p.size (x ∷ xs), length-drop (next.at - at) (x ∷ xs))
    go ih (Err v) q t = let z : ◌≡◌ {A = ℕ} 0 1 = cc in absurd (omega arith)

-- so there is room for the entries of an object that is not too long
pub room_enough : (h : ℕ) → id_length h ≡ true → (s : List ℕ) (n : ℕ) → length s ≤ longest → tally 0 (listing h s) ≡ Ok n → n ≤ room
room_enough h w s n p t = omega (arith, entries_least h (id_small h (id-is h w)).0 _ 0 s 0 n t)

-- ---- an object that was read into so much room

records-flat : (es : List EntryRecord) → records_of (flats es) ≡ es
unfolding flats records_of
records-flat [] = refl
records-flat (e ∷ es) = ap (λ (l : List EntryRecord). e ∷ l) (records-flat es)

module _ (h : ℕ) (i : id_length h ≡ true) (s lent : List ℕ) (a : Answer) (p : length s ≤ longest) (r : length lent ≡ room * width) (q : a ≡ read_answer h s (listing h s) lent) where
  all_room : many (length lent) ≡ room
  all_room = omega (arith, r)

  in-room : a ≡ in_room room (tally 0 (listing h s))
  in-room =
      let g : gate_of h (length s) room ≡ Ok tt = gate_fine h (length s) room (id-is h i) (omega arith) (omega arith) in
      q ∙ rw all_room (answer-counted (listing h s) (gate_of h (length s) room) room g refl)

  -- it was refused: the text is the refusal's
  pub read-refused : (a.verdict.number ≡ 0 → ⊥)
      → (told_of h s (records_in (listing h s)) (tally 0 (listing h s)) ≡ refusal a.verdict) × (tally_verdict (tally 0 (listing h s)) ≡ a.verdict)
  unfolding told_of tally_verdict
  read-refused z = go (tally 0 (listing h s)) refl in-room
    where
      go : (k : Result ℕ Verdict) → tally 0 (listing h s) ≡ k → a ≡ in_room room k
          → (told_of h s (records_in (listing h s)) k ≡ refusal a.verdict) × (tally_verdict k ≡ a.verdict)
      go (Err v) t e = let w : a.verdict ≡ v = ap (λ (x : Answer). x.verdict) e in (ap refusal (sym w), sym w)
      go (Ok n) t e = absurd (z (ap (λ (x : Answer). x.verdict.number) (e ∙ room-fine room n (room_enough h i s n p t))))

  -- it was read: so many entries
  pub read_all : a.verdict.number ≡ 0 → (tally 0 (listing h s) ≡ Ok a.count) × (a.verdict ≡ fine) × (a.count ≤ room)
  read_all z = go (tally 0 (listing h s)) refl in-room
    where
      go : (k : Result ℕ Verdict) → tally 0 (listing h s) ≡ k → a ≡ in_room room k → (k ≡ Ok a.count) × (a.verdict ≡ fine) × (a.count ≤ room)
      go (Err v) t e =
          absurd (tally_stops Refusal 0 (listing h s) v (plain-refuses h s) t (sym (ap (λ (x : Answer). x.verdict.number) e) ∙ z))
      go (Ok n) t e =
          let f : a ≡ counted n = e ∙ room-fine room n (room_enough h i s n p t) in
          let c : a.count ≡ n = ap (λ (x : Answer). x.count) f in
          (ap Ok (sym c), ap (λ (x : Answer). x.verdict) f, omega (arith, room_enough h i s n p t))

  -- and the front of the lent list holds their records
  pub read-records : (after : List ℕ) (all : ℕ) → after ≡ read_records h s (listing h s) lent → a.verdict.number ≡ 0 → all ≡ a.count * width
      → records_of (take all after) ≡ records_in (listing h s)
  read-records after all w z m =
      let es : List EntryRecord = records_in (listing h s) in
      let n : length (flats es) ≡ all = omega (arith, flats-length es, tally-length 0 (listing h s) a.count (read_all z).0) in
      let f : after ≡ flats es ++ drop (length (flats es)) lent =
      w ∙ ap (λ (x : Answer). stored x.verdict (flats es) lent) (sym q) ∙ stored-done a.verdict (flats es) lent z in
      rw (f, ← n, take-append_seam (flats es) (drop (length (flats es)) lent)) (records-flat es)

-- the front of the list that was lent
pub front_count : {after x : List ℕ} (k : ℕ) → after ≡ x → k ≤ length after → length (take k after) ≡ k
front_count {after} k e p = length-take-le k after p

pub front_most : {after x : List ℕ} (k m : ℕ) → after ≡ x → k ≤ m → length (take k after) ≤ m
front_most {after} k m e p = rw (length-take k after) (omega arith)

-- ---- the text

module _ (h : ℕ) (s : List ℕ) (p : length s ≤ longest) where
  pub text-short : text_of h s ≡ told_of h s (records_in (listing h s)) (tally 0 (listing h s))
  unfolding text_of
  text-short = rw (le-leb (length s) longest p) refl

  pub listed-short : listed_of h s ≡ record { verdict = tally_verdict (tally 0 (listing h s)); len = length (text_of h s) }
  unfolding listed_of
  listed-short = rw (le-leb (length s) longest p) refl

module _ (h : ℕ) (s : List ℕ) (p : longest < length s) where
  pub text-long : text_of h s ≡ refusal (verdict 2 0)
  unfolding text_of
  text-long = rw (lt-leb (length s) longest p) refl

  pub listed-long : listed_of h s ≡ record { verdict = verdict 2 0; len = length (text_of h s) }
  unfolding listed_of
  listed-long = rw (lt-leb (length s) longest p) refl

-- both promises, from a text that was stored
pub told-both : (h : ℕ) (s : List ℕ) {out after t : List ℕ} {v w : Verdict} {len : ℕ} → listed_of h s ≡ record { verdict = w; len = length (text_of h s) } → w ≡ v → text_of h s ≡ t
    → Added out 0 t after len → (record { verdict = v; len = len } ≡ listed_of h s) × (after ≡ sets out 0 (text_of h s))
told-both h s {out} {after} {t} {v} {w} {len} l e f x =
    let n : len ≡ length (text_of h s) = rw f (omega (arith, x.place)) in
    (rw (l, e, n) refl, x.stores ∙ ap (sets out 0) (sym f))

pub told-refused : (h : ℕ) → id_length h ≡ true → (s lent out after : List ℕ) (a : Answer) (len : ℕ) → length s ≤ longest → length lent ≡ room * width
    → a ≡ read_answer h s (listing h s) lent → (a.verdict.number ≡ 0 → ⊥) → Added out 0 (refusal a.verdict) after len
    → (record { verdict = a.verdict; len = len } ≡ listed_of h s) × (after ≡ sets out 0 (text_of h s))
told-refused h i s lent out after a len p r q z x =
    let w = read-refused h i s lent a p r q z in
    told-both h s (listed-short h s p) w.1 (text-short h s p ∙ w.0) x

pub told_all : (h : ℕ) → id_length h ≡ true → (s lent records out middle after : List ℕ) (a : Answer) (at len : ℕ) → length s ≤ longest → length lent ≡ room * width
    → a ≡ read_answer h s (listing h s) lent → records ≡ read_records h s (listing h s) lent → a.verdict.number ≡ 0
    → Added out 0 (head a.count) middle at → Added middle at (lines h s (records_of (take (a.count * width) records))) after len
    → (record { verdict = a.verdict; len = len } ≡ listed_of h s) × (after ≡ sets out 0 (text_of h s))
unfolding told_of tally_verdict
told_all h i s lent records out middle after a at len p r q w z x y =
    let d = read_all h i s lent a p r q z in
    let e : records_of (take (a.count * width) records) ≡ records_in (listing h s) = read-records h i s lent a p r q records (a.count * width) w z refl in
    let f : text_of h s ≡ head a.count ++ lines h s (records_of (take (a.count * width) records)) = text-short h s p ∙ rw (d.0, e) refl in
    let v : tally_verdict (tally 0 (listing h s)) ≡ a.verdict = rw d.0 (sym d.1) in
    told-both h s (listed-short h s p) v f (added_then x y)

-- ids of another length: 1
pub told_other : (h : ℕ) (s : List ℕ) {out after : List ℕ} {len : ℕ} → id_length h ≡ false → Added out 0 (refusal (verdict 1 0)) after len
    → (record { verdict = verdict 1 0; len = len } ≡ listed h s) × (after ≡ sets out 0 (text h s))
unfolding text listed
told_other h s {out} {after} {len} e x = rw e (let n : len ≡ length (refusal (verdict 1 0)) = omega (arith, x.place) in (rw n refl, x.stores))

-- ids of one of the two
pub told-any : (h : ℕ) (s out after : List ℕ) (r : Listed) → id_length h ≡ true → r ≡ listed_of h s → after ≡ sets out 0 (text_of h s)
    → (r ≡ listed h s) × (after ≡ sets out 0 (text h s))
unfolding text listed
told-any h s out after r e p q = rw e (p, q)
