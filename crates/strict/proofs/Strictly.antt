-- The strict reader's first pass, turn by turn: what holds at the head of a turn, and what each way out of a turn gives. Assumes nothing.
use Prim.Native.Nat.{ℕ, ◌+◌, ◌-◌, ◌<◌, ◌≤◌}
use native.Mathlib.Omega.{arith}
use mathlib.Core.Path.{◌≡◌, refl, ap, sym, ◌∙◌}
use mathlib.Core.Bool.{Bool, true, false}
use mathlib.Core.List.{List, [], ◌∷◌, map}
use lib.Dec.{eqb}
use lib.ListN.{length, drop, replicate, length-take, length-replicate}
use lib.Seq.{drop-drop}
use borrow.Author.Tests.{eqb-false}
use Rattle.ground.specs.Basics.{pick}
use Rattle.ground.specs.Scan.{count_to, free_of}
use Rattle.ground.specs.Verdict.{verdict, most_records}
use Rattle.ground.specs.declared.Verdict.{Verdict}
use Rattle.ground.proofs.Laws.{free-count}
use Rattle.mode.proofs.Laws.{read_next}
use Rattle.entry.specs.Record.{name_of}
use Rattle.entry.specs.Entry.{Entry, entry_of}
use Rattle.entry.specs.Decode.{decode}
use Rattle.entry.specs.declared.EntryRecord.{EntryRecord}
use Rattle.entry.specs.declared.Cursor.{Cursor}
use Rattle.entry.proofs.Laws.{Parts, decode-inside, decode-parts}
use Rattle.doubles.proofs.Theorem.{Ascends, name_bytes}
use Rattle.doubles.proofs.Placing.{Tracks, tracks-none}
use Rattle.rules.specs.Rules.{judge, git_rules}
use Rattle.reading.specs.Listing.{Listing, tally}
use Rattle.reading.proofs.Laws.{rest_at, rest_end, rest_full, rest-broken, rest-whole}
use Rattle.strict.specs.Strict.{text_of, cut, strictly}
use Rattle.strict.specs.Code.{Within, LastWithin, last_of, entry_no, seen_by, seen_at, after_at, marks_after, Roomy}
use Rattle.strict.proofs.Laws.{cut-bad, cut-fine}
use Rattle.strict.proofs.Judging.{after-length, judged_itself, judged-place, place-not-after, place_double, place-fine}
use Rattle.doubles.specs.declared.Misplaced.{Misplaced}
use Rattle.doubles.specs.declared.Misplaced.TheVariants.{Double, NotAfter}
use Rattle.std.specs.Prelude.{Err, None, Ok, Option, Result, Some}

-- the head of a turn: n entries are read, the nearest of them first in `seen`, they ascend, the marks keep the names that are m, and the count from the
-- start is the count from here
pub record Reading (k h : ℕ) (s : List ℕ) (at n m : ℕ) (last : Option EntryRecord) (marks : List ℕ) : Type 0 where
  pub seen : List EntryRecord
  pub few : n ≤ most_records
  pub nearest : last ≡ last_of seen
  pub inside : LastWithin (length s) last
  pub same : tally 0 (strictly (git_rules k) h s) ≡ tally n (cut (git_rules k) h s (map (entry_of h s) seen) (rest_at h s at n))
  pub up : Ascends (map (entry_of h s) seen)
  pub tracks : Tracks marks m (map (entry_of h s) seen)
  pub bytes : name_bytes (map (entry_of h s) seen) ≤ at
  pub within : at ≤ length s
  pub room : Roomy (length s) (length marks)

-- a list of n zeros is marks enough
pub marks_enough : (n bytes : ℕ) → Roomy bytes n → Roomy bytes (length (replicate {A = ℕ} n 0))
marks_enough n bytes r = rw (length-replicate {A = ℕ} n 0) r

pub reading-start : (k h : ℕ) (s marks : List ℕ) → Roomy (length s) (length marks) → Reading k h s 0 0 0 None marks
unfolding name_bytes
reading-start k h s marks room =
    record {
      seen = [];
      few = omega arith;
      nearest = refl;
      inside = tt;
      same = refl;
      up = tt;
      tracks = tracks-none marks;
      bytes = omega arith;
      within = omega arith;
      room = room;
    }

-- an entry that was decoded
module _ (h : ℕ) (s : List ℕ) (at : ℕ) (e : EntryRecord) (next : Cursor) (d : decode h at (drop at s) ≡ Ok (e, next)) where
  parts : Parts h at (drop at s) e next
  parts = decode-parts h at (drop at s) e next d

  start_is : e.name_start ≡ at + parts.size
  start_is = ap (λ (x : EntryRecord). x.name_start) parts.laid

  -- it lies inside, past its mode text and a space
  pub decoded_within : Within (length s) at e
  decoded_within =
      let i = decode-inside h s at e next d in
      (omega (arith, start_is, read_next (drop at s) e.mode parts.size parts.reads), omega arith, omega arith)

  -- its name ends at the first NUL
  pub decoded_free : free_of 0 (name_of s e) ≡ true
  unfolding name_of
  decoded_free =
      let n : ℕ = count_to 0 (drop parts.size (drop at s)) in
      let b : e.name_end ≡ at + parts.size + n = ap (λ (x : EntryRecord). x.name_end) parts.laid in
      let k : e.name_end - e.name_start ≡ n = omega (arith, start_is) in
      let t : drop e.name_start s ≡ drop parts.size (drop at s) = ap (λ (i : ℕ). drop i s) start_is ∙ sym (drop-drop parts.size at s) in
      rw (k, t) (free-count 0 (drop parts.size (drop at s)))

  -- and is no longer than the entry
  name-long : length (name_of s e) + at ≤ next.at
  unfolding name_of
  name-long =
      let i = decode-inside h s at e next d in
      omega (arith, length-take (e.name_end - e.name_start) (drop e.name_start s))

module _ (k h : ℕ) (s : List ℕ) (at n m : ℕ) (last : Option EntryRecord) (marks : List ℕ) (r : Reading k h s at n m last marks) where
  abbrev from : Listing → Listing
  from l = cut (git_rules k) h s (map (entry_of h s) r.seen) l

  pub reading_end : length s ≤ at → Ok n ≡ tally 0 (strictly (git_rules k) h s)
  unfolding tally cut
  reading_end p = sym (r.same ∙ ap (λ (l : Listing). tally n (from l)) (rest_end h s at n p))

  module _ (p : at < length s) where
    pub reading_full : most_records ≤ n → Err (verdict 2 0) ≡ tally 0 (strictly (git_rules k) h s)
    unfolding tally cut
    reading_full f = sym (r.same ∙ ap (λ (l : Listing). tally n (from l)) (rest_full h s at n p f))

    module _ (f : n < most_records) where
      reading-broken : {v : Verdict} → decode h at (drop at s) ≡ Err v → Err v ≡ tally 0 (strictly (git_rules k) h s)
      unfolding tally cut
      reading-broken d = sym (r.same ∙ ap (λ (l : Listing). tally n (from l)) (rest-broken h s at n p f d))

      module _ (e : EntryRecord) (next : Cursor) (number : ℕ) (d : decode h at (drop at s) ≡ Ok (e, next)) (j : number ≡ entry_no k s at e) where
        abbrev before : List Entry
        before = map (entry_of h s) r.seen

        -- the rules refuse it
        refuses : (i : ℕ) → judge (git_rules k) before (text_of s at e) (entry_of h s e) ≡ i → (i ≡ 0 → ⊥)
            → Err (verdict i at) ≡ tally 0 (strictly (git_rules k) h s)
        unfolding tally
        refuses i said z =
            sym (r.same ∙ ap (λ (l : Listing). tally n (from l)) (rest-whole h s at n p f d)
            ∙ ap (tally n) (cut-bad (git_rules k) h s before at e (rest_at h s next.at (n + 1)) (λ q. z (sym said ∙ q)))
            ∙ ap (λ (i : ℕ). Err (verdict i at)) said)

        reading-refused : (number ≡ 0 → ⊥) → Err (verdict number at) ≡ tally 0 (strictly (git_rules k) h s)
        reading-refused z = refuses number (judged_itself k s at e h before (λ q. z (j ∙ q)) ∙ sym j) z

        module _ (z : number ≡ 0) (x : Result ℕ Misplaced) (a : x ≡ after_at s marks m last e) where
          place_is : after_at s marks m (last_of r.seen) e ≡ x
          place_is = ap (λ (y : Option EntryRecord). after_at s marks m y e) (sym r.nearest) ∙ sym a

          small : name_bytes before ≤ length s
          small = omega (arith, r.bytes, r.within)

          pub reading-low : x ≡ Err NotAfter → Err (verdict 7 at) ≡ tally 0 (strictly (git_rules k) h s)
          reading-low q =
              let w = place-not-after h s marks m r.seen r.tracks r.up small r.room e (place_is ∙ q) in
              refuses 7 (judged-place k s at e h before (sym j ∙ z) ∙ w) (λ y. omega arith)

          pub reading_double : x ≡ Err Double → Err (verdict 17 at) ≡ tally 0 (strictly (git_rules k) h s)
          reading_double q =
              let w = place_double h s marks m r.seen r.tracks r.up small r.room e (place_is ∙ q) in
              refuses 17 (judged-place k s at e h before (sym j ∙ z) ∙ w) (λ y. omega arith)

          pub reading-kept : (i : ℕ) → x ≡ Ok i → (after : List ℕ) → after ≡ marks_after s marks m last e
              → Reading k h s next.at (n + 1) i (Some e) after
          unfolding tally name_bytes entry_of
          reading-kept i q after o =
              let w = place-fine h s marks m r.seen r.tracks r.up small r.room e i (place_is ∙ q) in
              let v = decoded_within h s at e next d in
              let g = decode-inside h s at e next d in
              let b : after ≡ marks_after s marks m (last_of r.seen) e = o ∙ ap (λ (y : Option EntryRecord). marks_after s marks m y e) r.nearest in
              record {
                seen = e ∷ r.seen;
                few = omega arith;
                nearest = refl;
                inside = (v.1, v.2);
                same =
                    r.same ∙ ap (λ (l : Listing). tally n (from l)) (rest-whole h s at n p f d)
                    ∙ ap (tally n) (cut-fine (git_rules k) h s before at e (rest_at h s next.at (n + 1)) (judged-place k s at e h before (sym j ∙ z) ∙ w.0));
                up = w.2;
                tracks = rw b w.1;
                bytes = omega (arith, r.bytes, name-long h s at e next d);
                within = omega arith;
                room = rw (b, after-length s marks m (last_of r.seen) e) r.room;
              }

      -- an entry that is not kept by itself: the refusal
      pub reading_unseen : (v : Verdict) → seen_at k h s at ≡ Err v → Err v ≡ tally 0 (strictly (git_rules k) h s)
      reading_unseen v q = go (decode h at (drop at s)) refl q
        where
          judged : (e : EntryRecord) (next : Cursor) → decode h at (drop at s) ≡ Ok (e, next) → (b : Bool) → eqb (entry_no k s at e) 0 ≡ b
              → pick {A = Result (EntryRecord × Cursor) Verdict} b (Ok (e, next)) (Err (verdict (entry_no k s at e) at)) ≡ Err v → Err v ≡ tally 0 (strictly (git_rules k) h s)
          judged e next d true p q = let z : ◌≡◌ {A = ℕ} 0 1 = cc in absurd (omega arith)
          judged e next d false p q =
              let x : verdict (entry_no k s at e) at ≡ v = cc in
              ap Err (sym x) ∙ reading-refused e next (entry_no k s at e) d refl (eqb-false (entry_no k s at e) 0 p)

          go : (d : Result (EntryRecord × Cursor) Verdict) → decode h at (drop at s) ≡ d → seen_by k s at d ≡ Err v → Err v ≡ tally 0 (strictly (git_rules k) h s)
          go (Ok (e, next)) d q = judged e next d (eqb (entry_no k s at e) 0) refl q
          go (Err w) d q = let x : w ≡ v = cc in ap Err (sym x) ∙ reading-broken d
