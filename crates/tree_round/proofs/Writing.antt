-- Round trips: an accepted object rewrites as itself, and what was written reads back. Assumes nothing.
use Prim.Native.Nat.{ℕ, ◌+◌, ◌≤◌, max}
use native.Mathlib.Omega.{arith}
use mathlib.Core.Path.{◌≡◌, refl, sym, ap, subst, ◌∙◌}
use mathlib.Core.Bool.{true}
use mathlib.Core.List.{List, [], ◌∷◌}
use lib.ListN.{length, length-map}
use Rattle.ground.specs.Verdict.{counted, most_records}
use Rattle.ground.specs.declared.Verdict.{Verdict}
use Rattle.ground.specs.declared.Answer.{Answer}
use Rattle.ground.proofs.Laws.{gate_open, gate_fine}
use Rattle.entry.specs.Record.{many, records_of, well_formed, name_of}
use Rattle.entry.specs.Entry.{Entry, entry_of, entries_of, as_written}
use Rattle.entry.specs.declared.EntryRecord.{EntryRecord}
use Rattle.entry.proofs.Laws.{well_parts}
use Rattle.reading.specs.Listing.{Listing, listing, records_in, tally}
use Rattle.rules.specs.Rules.{Rules}
use Rattle.reading.specs.Whole.{read_answer, read_records}
use Rattle.reading.proofs.Laws.{answer-counted, room-fine}
use Rattle.one_listing.specs.Lawful.{RulesOk}
use Rattle.one_listing.proofs.Back.{Writable, AllWritable, listed, read_written, names-listed, listed-length}
use Rattle.one_listing.proofs.Theorem.{accepts_sound, listed_total, stored-records}
use Rattle.tree_write.specs.Write.{written, refusal, judged, tree_answer}
use Rattle.tree_write.proofs.Laws.{refusal_free, refusal_well, free-name, id_length, judged-more, judged-passes, measured-done}
use Rattle.tree_write.proofs.Done.{began, done-passes, done-fits, writes}
use Rattle.tree_round.specs.Demand.{returned, PlainToo, Rewrites, SomeModes, ReadsBack}
use Rattle.tree_round.proofs.Returned.{accepted, plain-is, count-is, returned-is, entries_are, AllGood, plain-good, EachNamed, sound-named}
use Rattle.std.specs.Prelude.{Ok}

pub plain_too : (R : Rules) → PlainToo R
plain_too R h s lent es a = (
  ap (λ (l : Listing). read_answer h s l lent) (sym (plain-is R h s lent es a)) ∙ a.answer,
  ap (λ (l : Listing). read_records h s l lent) (sym (plain-is R h s lent es a)),
)

-- ---- an accepted object rewrites as itself

-- permitted entries pass: their records are well formed, and their names have no NUL
named-judged : (R : Rules) → RulesOk R → (h : ℕ) (s : List ℕ) (i : ℕ) (rs : List EntryRecord) → AllGood h (length s) rs → EachNamed R (entries_of h s rs)
    → (judged true h s i rs).number ≡ 0
unfolding judged entry_of
named-judged R ok h s i [] g e = refl
named-judged R ok h s i (r ∷ rs) g e =
    ap (λ (v : Verdict). v.number) (judged-more true h s i r rs (refusal_free h s r g.0 (ok.names (name_of s r) e.0))) ∙ named-judged R ok h s (i + 1) rs g.1 e.1

pub rewrites : (R : Rules) → RulesOk R → Rewrites R
rewrites R ok h s lent es room a fits small =
    let rs : List EntryRecord = records_in (listing h s) in
    let w = accepted R h s lent es a in
    let g = gate_open h (length s) (many (length lent)) w.0 in
    let t = accepts_sound R ok h s lent es a in
    let r : records_of (returned R h s lent (length es)) ≡ rs = returned-is R h s lent es a in
    let e : entries_of h s rs ≡ es = entries_are R h s lent es a in
    let bytes : written h s rs ≡ s = ap as_written e ∙ sym t.2 in
    let each : EachNamed R (entries_of h s rs) = subst (λ (l : List Entry). EachNamed R l) (sym e) (sound-named R h [] es t.0) in
    let j : (judged true h s 0 rs).number ≡ 0 = named-judged R ok h s 0 rs (plain-good h s most_records 0 s refl) each in
    let b : written h s (records_of (returned R h s lent (length es))) ≡ s = ap (written h s) r ∙ bytes in
    let few : length (records_of (returned R h s lent (length es))) ≤ most_records = omega (arith, ap length r, count-is R h s lent es a, w.2, g.2) in
    (writes h s (returned R h s lent (length es)) room g.0 g.1 small few (rw r j) (omega (arith, ap length b)) ∙ ap (λ (l : List ℕ). counted (length l)) b, b)

-- ---- what was written reads back

-- a record that passes, not of mode 0, names an entry that can be written and read again
passes_writable : (h : ℕ) (bytes : List ℕ) (e : EntryRecord) → refusal true h bytes e ≡ 0 → (e.mode ≡ 0 → ⊥) → Writable h (entry_of h bytes e)
unfolding entry_of
passes_writable h bytes e p n =
    let w : well_formed h (length bytes) e ≡ true = refusal_well h bytes e true p in
    record { mode = omega (arith, well_parts h (length bytes) e w); some = n; name = free-name h bytes e p; id = id_length h bytes e w }

judged_writable : (h : ℕ) (bytes : List ℕ) (i : ℕ) (rs : List EntryRecord) → (judged true h bytes i rs).number ≡ 0 → SomeModes rs → AllWritable h (entries_of h bytes rs)
judged_writable h bytes i [] j s = tt
judged_writable h bytes i (r ∷ rs) j s =
    let p : refusal true h bytes r ≡ 0 = judged-passes true h bytes i r rs j in
    let m = judged-more true h bytes i r rs p in
    (passes_writable h bytes r p s.0, judged_writable h bytes (i + 1) rs (sym (ap (λ (v : Verdict). v.number) m) ∙ j) s.1)

pub reads_back : ReadsBack
reads_back h bytes records lent room n d some fits few =
    let rs : List EntryRecord = records_of records in
    let es : List Entry = entries_of h bytes rs in
    let z : (tree_answer h bytes records room).verdict.number ≡ 0 = ap (λ (a : Answer). a.verdict.number) d in
    let o = gate_open h (max (length bytes) room) (length rs) (began h bytes records room z) in
    let j : (judged true h bytes 0 rs).number ≡ 0 = (measured-done true h bytes 0 0 rs (done-passes h bytes records room z)).0 in
    let w : AllWritable h es = judged_writable h bytes 0 rs j some in
    let k : length es ≡ length rs = length-map rs (entry_of h bytes) in
    let l : listing h (as_written es) ≡ listed 0 es = read_written h most_records 0 es w (omega (arith, k)) in
    let c : length (records_in (listing h (as_written es))) ≡ length rs = ap (λ (x : Listing). length (records_in x)) l ∙ listed-length 0 es ∙ k in
    let t : tally 0 (listing h (as_written es)) ≡ Ok (length rs) = ap (tally 0) l ∙ listed_total 0 0 es ∙ ap Ok (let y : 0 + length es ≡ length rs = omega arith in y) in
    let a : read_answer h (as_written es) (listing h (as_written es)) lent ≡ counted (length rs)
    = answer-counted (listing h (as_written es)) _ (many (length lent)) (gate_fine h (length (as_written es)) (many (length lent)) o.0 (omega (arith, done-fits h bytes records room z, o.1)) few) t
    ∙ room-fine (many (length lent)) (length rs) fits in
    let f = stored-records (listing h (as_written es)) (read_answer h (as_written es) (listing h (as_written es)) lent).verdict lent (length rs) (ap (λ (x : Answer). x.verdict.number) a) (sym c) in
    (a, ap (entries_of h (as_written es)) (f ∙ ap records_in l) ∙ names-listed h [] es w)
