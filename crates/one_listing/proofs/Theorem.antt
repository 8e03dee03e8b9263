-- One listing, one object, for any rules that keep the laws of `RulesOk`. Assumes nothing.
use Prim.Native.Nat.{ℕ, ◌+◌, ◌≤◌}
use native.Mathlib.Omega.{arith}
use mathlib.Core.Path.{◌≡◌, refl, sym, ap, subst, ◌∙◌}
use mathlib.Core.List.{List, [], ◌∷◌, ◌++◌}
use mathlib.Core.Logic.{◌⊎◌}
use lib.ListN.{length, take, drop, length-map}
use Rattle.ground.specs.Verdict.{counted, most_bytes, most_records, stored}
use Rattle.ground.specs.declared.Verdict.{Verdict}
use Rattle.ground.specs.declared.Answer.{Answer}
use Rattle.ground.proofs.Laws.{gate_fine, gate_open, id_small, stored-done}
use Rattle.entry.specs.Record.{many, records_of}
use Rattle.entry.specs.Entry.{entry_bytes, Entry, entry_of, entries_of, as_written}
use Rattle.entry.specs.declared.EntryRecord.{EntryRecord}
use Rattle.rules.specs.Rules.{Rules}
use Rattle.reading.specs.Listing.{Listing, listing, tally, records_in, flats}
use Rattle.reading.specs.Whole.{in_room, read_answer, read_records}
use Rattle.reading.proofs.Laws.{answer-counted, room-fine, room-short, answer-done, tally-length}
use Rattle.strict.specs.Strict.{cut, strictly}
use Rattle.strict.proofs.Laws.{cut-refuses, strict-plain}
use Rattle.one_listing.specs.Sound.{Sound}
use Rattle.one_listing.specs.Lawful.{RulesOk}
use Rattle.one_listing.specs.Demand.{Accepts, SameSet, SomeListing, OneListing, ShortRoom, OneObject}
use Rattle.one_listing.proofs.Back.{listed, read_written, names-listed, listed-length}
use Rattle.one_listing.proofs.Cutting.{sound_writable, sound-again, sound_uncut, uncut_sound}
use Rattle.one_listing.proofs.Settling.{set_settles}
use Rattle.std.specs.Prelude.{Ok}

-- the records that were stored are the records that are read back
pub records-stored : (rs : List EntryRecord) (rest : List ℕ) → take (length rs) (records_of (flats rs ++ rest)) ≡ rs
unfolding flats records_of
records-stored [] rest = refl
records-stored (r ∷ rs) rest = ap (λ (l : List EntryRecord). r ∷ l) (records-stored rs rest)

-- the same of the lent list after a reading that was done
pub stored-records : (l : Listing) (v : Verdict) (lent : List ℕ) (n : ℕ) → v.number ≡ 0 → n ≡ length (records_in l) → take n (records_of (stored v (flats (records_in l)) lent)) ≡ records_in l
stored-records l v lent n z e = rw (e, stored-done v (flats (records_in l)) lent z) (records-stored (records_in l) (drop (length (flats (records_in l))) lent))

-- a listing of what was written has as many entries
pub listed_total : (at n : ℕ) (es : List Entry) → tally n (listed at es) ≡ Ok (n + length es)
unfolding tally listed
listed_total at n [] = let z : n + 0 ≡ n = omega arith in rw z
listed_total at n (e ∷ es) = let z : n + length (e ∷ es) ≡ n + 1 + length es = omega arith in rw z (listed_total (at + length (entry_bytes e)) (n + 1) es)

-- whatever is counted has a listing: what the stored records name
pub some_listing : (R : Rules) → SomeListing R
some_listing R h s lent n a =
    let l : Listing = strictly R h s in
    let d = answer-done l h (length s) (many (length lent)) (many (length lent)) n (cut-refuses R h s) a in
    let z : 0 + length (records_in l) ≡ length (records_in l) = omega arith in
    let m : n ≡ length (records_in l) = tally-length 0 l n d.1 ∙ z in
    let es : List Entry = entries_of h s (records_in l) in
    let k : length es ≡ n = length-map (records_in l) (entry_of h s) ∙ sym m in
    let r : take (length es) (records_of (read_records h s l lent)) ≡ records_in l
    = stored-records l (read_answer h s l lent).verdict lent (length es) (ap (λ (x : Answer). x.verdict.number) a) (k ∙ m) in
    (es, record { answer = a ∙ ap counted (sym k); listed = ap (entries_of h s) r })

module _ (R : Rules) (ok : RulesOk R) where
  -- a sound listing as written is read to its end, and the records name it
  pub sound-listed : (h : ℕ) (es : List Entry) → Sound R h [] es → length es ≤ most_records
      → (strictly R h (as_written es) ≡ listed 0 es) × (entries_of h (as_written es) (records_in (listed 0 es)) ≡ es)
  sound-listed h es s few =
      let w = sound_writable R ok h [] es s in
      (ap (cut R h (as_written es) []) (read_written h most_records 0 es w few) ∙ sound_uncut R ok h [] [] es s, names-listed h [] es w ∙ sound-again R ok h [] es s)

  module _ (h : ℕ) (s lent : List ℕ) (es : List Entry) (i : (h ≡ 20) ⊎ (h ≡ 32)) (b : length s ≤ most_bytes) (sound : Sound R h [] es) (few : length es ≤ most_records) (bytes : s ≡ as_written es) where
    read_is : strictly R h s ≡ listed 0 es
    read_is = rw bytes (sound-listed h es sound few).0

    total-is : tally 0 (strictly R h s) ≡ Ok (length es)
    total-is = let z : 0 + length es ≡ length es = omega arith in ap (tally 0) read_is ∙ listed_total 0 0 es ∙ ap Ok z

    within : many (length lent) ≤ most_records → read_answer h s (strictly R h s) lent ≡ in_room (many (length lent)) (Ok (length es))
    within l = answer-counted (strictly R h s) _ (many (length lent)) (gate_fine h (length s) (many (length lent)) i b l) total-is

    sound_accepts : length es ≤ many (length lent) → many (length lent) ≤ most_records → Accepts R h s lent es
    sound_accepts fits l =
        let a : read_answer h s (strictly R h s) lent ≡ counted (length es) = within l ∙ room-fine (many (length lent)) (length es) fits in
        let n : length es ≡ length (records_in (strictly R h s)) = sym (ap (λ (x : Listing). length (records_in x)) read_is ∙ listed-length 0 es) in
        let r : take (length es) (records_of (read_records h s (strictly R h s) lent)) ≡ records_in (strictly R h s)
        = stored-records (strictly R h s) (read_answer h s (strictly R h s) lent).verdict lent (length es) (ap (λ (x : Answer). x.verdict.number) a) n in
        record {
          answer = a;
          listed = ap (entries_of h s) (r ∙ ap records_in read_is) ∙ rw bytes (sound-listed h es sound few).1;
        }

  pub accepts_sound : (h : ℕ) (s lent : List ℕ) (es : List Entry) → Accepts R h s lent es → Sound R h [] es × (length es ≤ many (length lent)) × (s ≡ as_written es)
  accepts_sound h s lent es a =
      let d = answer-done (strictly R h s) h (length s) (many (length lent)) (many (length lent)) (length es) (cut-refuses R h s) a.answer in
      let g = gate_open h (length s) (many (length lent)) d.0 in
      let p : strictly R h s ≡ listing h s = strict-plain R h s (length es) d.1 in
      let u = uncut_sound R ok h s (omega (arith, id_small h g.0)) most_records 0 0 (length es) [] s refl d.1 in
      let n : length es ≡ length (records_in (strictly R h s)) = tally-length 0 (strictly R h s) (length es) d.1 ∙ (let z : 0 + length (records_in (strictly R h s)) ≡ length (records_in (strictly R h s)) = omega arith in z) in
      let r : take (length es) (records_of (read_records h s (strictly R h s) lent)) ≡ records_in (strictly R h s)
      = stored-records (strictly R h s) (read_answer h s (strictly R h s) lent).verdict lent (length es) (ap (λ (x : Answer). x.verdict.number) a.answer) n in
      let same : entries_of h s (records_in (listing h s)) ≡ es = sym (ap (entries_of h s) (r ∙ ap records_in p)) ∙ a.listed in
      subst (λ (x : List Entry). Sound R h [] x × (length es ≤ many (length lent)) × (s ≡ as_written x)) same (u.0, d.2, u.1)

  -- ---- the theorem

  pub one_listing : OneListing R
  one_listing h s lent es i b l = (
    accepts_sound h s lent es,
    λ (sound, fits, bytes). sound_accepts h s lent es i b sound (omega arith) bytes fits l,
  )

  pub short_room : ShortRoom R
  short_room h s lent es i b less few sound bytes =
      within h s lent es i b sound few bytes (omega arith) ∙ room-short (many (length lent)) (length es) less

  -- writing is one-to-one on sound listings
  pub one_writing : (h : ℕ) (es fs : List Entry) → Sound R h [] es → Sound R h [] fs → length es ≤ most_records → length fs ≤ most_records → as_written es ≡ as_written fs → es ≡ fs
  one_writing h es fs s t k l e =
      let a = sound-listed h es s k in
      let b = sound-listed h fs t l in
      let same : listed 0 es ≡ listed 0 fs = sym a.0 ∙ ap (strictly R h) e ∙ b.0 in
      sym a.1 ∙ rw (e, same) b.1

  pub one_object : OneObject R
  one_object h s t lent space es fs a c =
      let p = accepts_sound h s lent es a in
      let q = accepts_sound h t space fs c in
      let k = gate_open h (length s) (many (length lent)) (answer-done (strictly R h s) h (length s) (many (length lent)) (many (length lent)) (length es) (cut-refuses R h s) a.answer).0 in
      let l = gate_open h (length t) (many (length space)) (answer-done (strictly R h t) h (length t) (many (length space)) (many (length space)) (length fs) (cut-refuses R h t) c.answer).0 in (
        (λ same. p.2 ∙ ap as_written (set_settles R ok h es fs [] [] p.0 q.0 (λ x. (same x).0) (λ x. (same x).1)) ∙ sym q.2),
        (λ e. equal (one_writing h es fs p.0 q.0 (omega (arith, p.1, k.2)) (omega (arith, q.1, l.2)) (sym p.2 ∙ e ∙ q.2))),
      )
    where
      equal : es ≡ fs → SameSet es fs
      equal q = subst (λ (y : List Entry). SameSet es y) q (λ x. ((λ m. m), (λ m. m)))
