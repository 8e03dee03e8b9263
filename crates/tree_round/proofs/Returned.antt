-- The records of an accepted object: what they are, and that they are well formed, sorted and free of slashes. Assumes nothing.
use Prim.Native.Nat.{ℕ, zero, suc, ◌+◌, ◌-◌, ◌*◌, ◌≤◌, ◌<◌}
use native.Mathlib.Omega.{arith}
use native.Mathlib.Nat.{not-suc-le-zero, le_of_suc-le-suc}
use mathlib.Core.Path.{◌≡◌, refl, sym, ap, subst, ◌∙◌}
use mathlib.Core.Bool.{true}
use mathlib.Core.List.{List, [], ◌∷◌, ◌++◌}
use lib.ListN.{length, take, drop}
use lib.Seq.{take_at, drop-drop}
use Rattle.ground.specs.Verdict.{gate_of, stored, most_records}
use Rattle.ground.specs.declared.Answer.{Answer}
use Rattle.ground.proofs.Laws.{stored-done}
use Rattle.mode_round.proofs.Space.{read_small}
use Rattle.entry.specs.Record.{width, many, records_of, well_formed, folder_of}
use Rattle.entry.specs.Entry.{Entry, entry_of, entries_of}
use Rattle.entry.specs.Decode.{decode}
use Rattle.entry.specs.declared.EntryRecord.{EntryRecord}
use Rattle.entry.proofs.Laws.{decode-inside, decode-parts, well_made}
use Rattle.reading.specs.Listing.{Listing, listing, follow, plain, records_in, flats, tally}
use Rattle.rules.specs.Rules.{Rules}
use Rattle.strict.specs.Strict.{strictly}
use Rattle.reading.specs.Whole.{read_answer, read_records}
use Rattle.reading.proofs.Laws.{answer-done, tally-length, flats-length}
use Rattle.strict.proofs.Laws.{cut-refuses, strict-plain}
use Rattle.one_listing.specs.Sound.{Sound, Ascending, Before}
use Rattle.one_listing.specs.Lawful.{RulesOk}
use Rattle.one_listing.specs.Demand.{Accepts}
use Rattle.one_listing.proofs.Theorem.{accepts_sound, records-stored}
use Rattle.lookup.specs.Lookup.{nth, Sorted}
use Rattle.tree_round.specs.Demand.{returned}
use Rattle.entry.specs.declared.Cursor.{Cursor}
use Rattle.ground.specs.declared.Verdict.{Verdict}
use Rattle.std.specs.Prelude.{Err, Ok, Result}

-- ---- what they are

pub flats-records : (rs : List EntryRecord) → records_of (flats rs) ≡ rs
unfolding flats records_of
flats-records [] = refl
flats-records (r ∷ rs) = ap (λ (l : List EntryRecord). r ∷ l) (flats-records rs)

module _ (R : Rules) (h : ℕ) (s lent : List ℕ) (es : List Entry) (a : Accepts R h s lent es) where
  -- the call began, the listing was counted to its end, and there was room
  pub accepted : (gate_of h (length s) (many (length lent)) ≡ Ok tt) × (tally 0 (strictly R h s) ≡ Ok (length es)) × (length es ≤ many (length lent))
  accepted = answer-done (strictly R h s) h (length s) (many (length lent)) (many (length lent)) (length es) (cut-refuses R h s) a.answer

  pub plain-is : strictly R h s ≡ listing h s
  plain-is = strict-plain R h s (length es) accepted.1

  pub count-is : length es ≡ length (records_in (listing h s))
  count-is =
      let z : 0 + length (records_in (strictly R h s)) ≡ length (records_in (strictly R h s)) = omega arith in
      tally-length 0 (strictly R h s) (length es) accepted.1 ∙ z ∙ ap (λ (l : Listing). length (records_in l)) plain-is

  lent_is : read_records h s (strictly R h s) lent ≡ flats (records_in (listing h s)) ++ drop (length (flats (records_in (listing h s)))) lent
  lent_is =
      ap (λ (l : Listing). stored (read_answer h s (strictly R h s) lent).verdict (flats (records_in l)) lent) plain-is
      ∙ stored-done _ (flats (records_in (listing h s))) lent (ap (λ (x : Answer). x.verdict.number) a.answer)

  pub returned-is : records_of (returned R h s lent (length es)) ≡ records_in (listing h s)
  returned-is =
      let rs : List EntryRecord = records_in (listing h s) in
      ap (λ (l : List ℕ). records_of (take (length es * width) l)) lent_is
      ∙ ap records_of (take_at (flats rs) (drop (length (flats rs)) lent) (length es * width) (omega (arith, flats-length rs, count-is)))
      ∙ flats-records rs

  pub first-is : take (length es) (records_of (read_records h s (strictly R h s) lent)) ≡ records_in (listing h s)
  first-is =
      let rs : List EntryRecord = records_in (listing h s) in
      ap (λ (l : List ℕ). take (length es) (records_of l)) lent_is ∙ go rs (drop (length (flats rs)) lent) (length es) count-is
    where
      go : (rs : List EntryRecord) (rest : List ℕ) (n : ℕ) → n ≡ length rs → take n (records_of (flats rs ++ rest)) ≡ rs
      go rs rest n e = rw e (records-stored rs rest)

  pub entries_are : entries_of h s (records_in (listing h s)) ≡ es
  entries_are = sym (ap (entries_of h s) first-is) ∙ a.listed

-- ---- they are well formed

abbrev pub AllGood : ℕ → ℕ → List EntryRecord → Type 0
AllGood h len [] = Unit {0}
AllGood h len (r ∷ rs) = (well_formed h len r ≡ true) × AllGood h len rs

pub plain-good : (h : ℕ) (s : List ℕ) (k at : ℕ) (b : List ℕ) → drop at s ≡ b → AllGood h (length s) (records_in (plain h k at b))
unfolding plain follow records_in
plain-good h s zero at [] q = tt
plain-good h s zero at (x ∷ xs) q = tt
plain-good h s (suc k) at [] q = tt
plain-good h s (suc k) at (x ∷ xs) q = go (plain-good h s k) (x ∷ xs) q (decode h at (x ∷ xs)) refl
  where
    go : ((i : ℕ) (c : List ℕ) → drop i s ≡ c → AllGood h (length s) (records_in (plain h k i c))) → (b : List ℕ) → drop at s ≡ b → (d : Result (EntryRecord × Cursor) Verdict) → decode h at b ≡ d
        → AllGood h (length s) (records_in (follow (plain h k) at b d))
    go ih b q (Err v) d = tt
    go ih b q (Ok (e, next)) d =
        let w : decode h at (drop at s) ≡ Ok (e, next) = ap (decode h at) q ∙ d in
        let i = decode-inside h s at e next w in
        let p = decode-parts h at b e next d in
        let z : at + (next.at - at) ≡ next.at = omega arith in
        let r : drop next.at s ≡ drop (next.at - at) b = sym (ap (drop (next.at - at)) (sym q) ∙ drop-drop (next.at - at) at s ∙ ap (λ (x : ℕ). drop x s) z) in
        (well_made h (length s) e (omega (arith, read_small b e.mode p.size p.reads)) (omega arith) (omega arith) (omega arith) (omega arith), ih next.at (drop (next.at - at) b) r)

good_at : (h len : ℕ) (rs : List EntryRecord) → AllGood h len rs → (i : ℕ) → i < length rs → well_formed h len (nth rs i) ≡ true
good_at h len [] g i l = absurd (not-suc-le-zero l)
good_at h len (r ∷ rs) g zero l = g.0
good_at h len (r ∷ rs) g (suc i) l = good_at h len rs g.1 i (le_of_suc-le-suc l)

-- ---- they are sorted

-- each name is permitted
abbrev pub EachNamed : Rules → List Entry → Type 0
EachNamed R [] = Unit {0}
EachNamed R (e ∷ es) = (R.name_no e.name ≡ 0) × EachNamed R es

pub sound-named : (R : Rules) (h : ℕ) (before es : List Entry) → Sound R h before es → EachNamed R es
sound-named R h before [] s = tt
sound-named R h before (e ∷ es) s = (s.0.named, sound-named R h (e ∷ before) es s.1)

sound-ascends : (R : Rules) → RulesOk R → (h : ℕ) (before es : List Entry) → Sound R h before es → Ascending es
sound-ascends R ok h before [] s = tt
sound-ascends R ok h before (a ∷ []) s = tt
sound-ascends R ok h before (a ∷ b ∷ es) s = (ok.after a before b s.1.0.placed, sound-ascends R ok h (a ∷ before) (b ∷ es) s.1)

each_at : (R : Rules) (h : ℕ) (s : List ℕ) (rs : List EntryRecord) → EachNamed R (entries_of h s rs) → (i : ℕ) → i < length rs → R.name_no (entry_of h s (nth rs i)).name ≡ 0
each_at R h s [] g i l = absurd (not-suc-le-zero l)
each_at R h s (r ∷ rs) g zero l = g.0
each_at R h s (r ∷ rs) g (suc i) l = each_at R h s rs g.1 i (le_of_suc-le-suc l)

ascends_at : (h : ℕ) (s : List ℕ) (rs : List EntryRecord) → Ascending (entries_of h s rs) → (i : ℕ) → i + 1 < length rs → Before (entry_of h s (nth rs i)) (entry_of h s (nth rs (i + 1)))
ascends_at h s [] g i l = absurd (omega arith)
ascends_at h s (r ∷ []) g i l = absurd (omega arith)
ascends_at h s (r ∷ q ∷ rs) g zero l = g.0
ascends_at h s (r ∷ q ∷ rs) g (suc i) l =
    let z : suc i + 1 ≡ suc (i + 1) = omega arith in
    subst (λ (k : ℕ). Before (entry_of h s (nth (q ∷ rs) i)) (entry_of h s (nth (r ∷ q ∷ rs) k))) (sym z) (ascends_at h s (q ∷ rs) g.1 i (omega arith))

-- the records of an accepted object are a sorted listing
pub accepted-sorted : (R : Rules) → RulesOk R → (h : ℕ) (s lent : List ℕ) (es : List Entry) → Accepts R h s lent es → Sorted h s (records_in (listing h s))
unfolding entry_of folder_of
accepted-sorted R ok h s lent es a =
    let rs : List EntryRecord = records_in (listing h s) in
    let w = (accepts_sound R ok h s lent es a).0 in
    let e : es ≡ entries_of h s rs = sym (entries_are R h s lent es a) in
    let each : EachNamed R (entries_of h s rs) = subst (λ (l : List Entry). EachNamed R l) e (sound-named R h [] es w) in
    let up : Ascending (entries_of h s rs) = subst Ascending e (sound-ascends R ok h [] es w) in
    record {
      good = good_at h (length s) rs (plain-good h s most_records 0 s refl);
      ascends = λ i l. ascends_at h s rs up i l;
      slashless = λ i l. ok.slashless (entry_of h s (nth rs i)).name (each_at R h s rs each i l);
    }
