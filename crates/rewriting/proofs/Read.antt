-- What was read plainly: the names have no NUL, so all of it can be written, and the two calls make the rewritten object. Assumes nothing.
use Prim.Native.Nat.{ℕ, zero, suc, ◌+◌, ◌-◌, ◌*◌, ◌≤◌}
use native.Mathlib.Omega.{arith}
use mathlib.Core.Path.{◌≡◌, refl, ap, ◌∙◌}
use mathlib.Core.Bool.{true}
use mathlib.Core.List.{List, [], ◌∷◌}
use mathlib.Core.Logic.{◌⊎◌}
use lib.ListN.{length, take, drop}
use lib.Seq.{take_at}
use Rattle.ground.specs.Scan.{free_of}
use Rattle.ground.specs.Verdict.{counted, gate_of, most_records, most_bytes}
use Rattle.ground.specs.declared.Verdict.{Verdict}
use Rattle.ground.specs.declared.Answer.{Answer}
use Rattle.ground.proofs.Laws.{free-count, gate_open, stored-done}
use Rattle.entry.specs.Record.{width, many, records_of, name_of}
use Rattle.entry.specs.Entry.{entry_of, entries_of}
use Rattle.entry.specs.Decode.{decode}
use Rattle.entry.specs.declared.EntryRecord.{EntryRecord}
use Rattle.entry.proofs.Laws.{decode-parts, well_parts}
use Rattle.reading.specs.Listing.{listing, follow, plain, records_in, flats, tally}
use Rattle.reading.specs.Whole.{read_answer, read_records}
use Rattle.reading.proofs.Laws.{answer-done, plain-refuses, tally-length, flats-length}
use Rattle.one_listing.proofs.Back.{AllWritable}
use Rattle.one_listing.proofs.Cutting.{name-is, rest-there}
use Rattle.tree_write.specs.Write.{written, judged}
use Rattle.tree_write.proofs.Laws.{refusal_free, judged-more, id_length}
use Rattle.tree_write.proofs.Done.{writes}
use Rattle.tree_round.specs.Demand.{SomeModes}
use Rattle.tree_round.proofs.Returned.{AllGood, plain-good, flats-records}
use Rattle.rewriting.specs.Demand.{rewrite, Passes}
use Rattle.entry.specs.declared.Cursor.{Cursor}
use Rattle.std.specs.Prelude.{Err, Ok, Result}

abbrev pub AllFree : List ℕ → List EntryRecord → Type 0
AllFree s [] = Unit {0}
AllFree s (r ∷ rs) = (free_of 0 (name_of s r) ≡ true) × AllFree s rs

-- a name that was read ends at its first NUL
pub plain_free : (h : ℕ) (s : List ℕ) (k at : ℕ) (b : List ℕ) → drop at s ≡ b → AllFree s (records_in (plain h k at b))
unfolding plain follow records_in
plain_free h s zero at [] q = tt
plain_free h s zero at (x ∷ xs) q = tt
plain_free h s (suc k) at [] q = tt
plain_free h s (suc k) at (x ∷ xs) q = go (plain_free h s k) (x ∷ xs) q (decode h at (x ∷ xs)) refl
  where
    go : ((i : ℕ) (c : List ℕ) → drop i s ≡ c → AllFree s (records_in (plain h k i c))) → (b : List ℕ) → drop at s ≡ b → (d : Result (EntryRecord × Cursor) Verdict) → decode h at b ≡ d
        → AllFree s (records_in (follow (plain h k) at b d))
    go ih b q (Err v) d = tt
    go ih b q (Ok (e, next)) d =
        let p = decode-parts h at b e next d in
        (ap (free_of 0) (name-is h s at b q e next p) ∙ free-count 0 (drop p.size b), ih next.at (drop (next.at - at) b) (rest-there h s at b q e next p))

-- so no record is refused in writing
free_judged : (h : ℕ) (s : List ℕ) (i : ℕ) (rs : List EntryRecord) → AllGood h (length s) rs → AllFree s rs → (judged true h s i rs).number ≡ 0
unfolding judged
free_judged h s i [] g f = refl
free_judged h s i (r ∷ rs) g f =
    ap (λ (v : Verdict). v.number) (judged-more true h s i r rs (refusal_free h s r g.0 f.0)) ∙ free_judged h s (i + 1) rs g.1 f.1

free_writable : (h : ℕ) (s : List ℕ) (rs : List EntryRecord) → AllGood h (length s) rs → AllFree s rs → SomeModes rs → AllWritable h (entries_of h s rs)
unfolding entry_of
free_writable h s [] g f m = tt
free_writable h s (r ∷ rs) g f m = (
  record { mode = omega (arith, well_parts h (length s) r g.0); some = m.0; name = f.0; id = id_length h s r g.0 },
  free_writable h s rs g.1 f.1 m.1,
)

-- and, none of mode 0, all are written so that they read back
pub read_writable : (h : ℕ) (s : List ℕ) → SomeModes (records_in (listing h s)) → AllWritable h (entries_of h s (records_in (listing h s)))
read_writable h s m = free_writable h s (records_in (listing h s)) (plain-good h s most_records 0 s refl) (plain_free h s most_records 0 s refl) m

-- ---- an object that is accepted

module _ (h : ℕ) (s lent : List ℕ) (n : ℕ) (a : read_answer h s (listing h s) lent ≡ counted n) where
  pub accepted : (gate_of h (length s) (many (length lent)) ≡ Ok tt) × (tally 0 (listing h s) ≡ Ok n) × (n ≤ many (length lent))
  accepted = answer-done (listing h s) h (length s) (many (length lent)) (many (length lent)) n (plain-refuses h s) a

  pub count-is : n ≡ length (records_in (listing h s))
  count-is = let z : 0 + length (records_in (listing h s)) ≡ length (records_in (listing h s)) = omega arith in tally-length 0 (listing h s) n accepted.1 ∙ z

  pub bounds : ((h ≡ 20) ⊎ (h ≡ 32)) × (length s ≤ most_bytes) × (many (length lent) ≤ most_records)
  bounds = gate_open h (length s) (many (length lent)) accepted.0

  pub returned-is : records_of (take (n * width) (read_records h s (listing h s) lent)) ≡ records_in (listing h s)
  returned-is =
      let rs : List EntryRecord = records_in (listing h s) in
      ap (λ (l : List ℕ). records_of (take (n * width) l)) (stored-done _ (flats rs) lent (ap (λ (x : Answer). x.verdict.number) a))
      ∙ ap records_of (take_at (flats rs) (drop (length (flats rs)) lent) (n * width) (omega (arith, flats-length rs, count-is)))
      ∙ flats-records rs

pub passes : Passes
unfolding rewrite
passes h s lent n room a fits small =
    let rs : List EntryRecord = records_in (listing h s) in
    let records : List ℕ = take (n * width) (read_records h s (listing h s) lent) in
    let r : records_of records ≡ rs = returned-is h s lent n a in
    let b : written h s (records_of records) ≡ written h s rs = ap (written h s) r in
    let g = bounds h s lent n a in
    let j : (judged true h s 0 rs).number ≡ 0 = free_judged h s 0 rs (plain-good h s most_records 0 s refl) (plain_free h s most_records 0 s refl) in
    let few : length (records_of records) ≤ most_records = omega (arith, ap length r, count-is h s lent n a, (accepted h s lent n a).2, g.2) in
    (writes h s records room g.0 g.1 small few (rw r j) (omega (arith, ap length b)) ∙ ap (λ (l : List ℕ). counted (length l)) b, b)
