-- 16 is given exactly where an entry with a readable mode is reached whose name is too long. Assumes nothing.
use Prim.Native.Nat.{ℕ, zero, suc, ◌+◌, ◌-◌, ◌≤◌, ◌<◌}
use native.Mathlib.Decide.{dec_lt}
use native.Mathlib.Omega.{arith}
use mathlib.Core.Path.{◌≡◌, refl, ap, sym, ◌∙◌}
use mathlib.Core.Bool.{Bool, true, false}
use mathlib.Core.List.{List, [], ◌∷◌}
use lib.Dec.{ltb}
use lib.ListN.{length, take, drop, length-take, length-drop, drop_of_length-le}
use lib.Seq.{drop-drop}
use borrow.Author.Tests.{le-leb}
use Rattle.ground.specs.Basics.{pick, part}
use Rattle.ground.specs.Scan.{count_to}
use Rattle.ground.specs.Verdict.{verdict, broken, refused, most_bytes, most_records}
use Rattle.ground.specs.declared.Verdict.{Verdict}
use Rattle.ground.specs.declared.Answer.{Answer}
use Rattle.ground.proofs.Laws.{count-le}
use Rattle.mode.specs.Read.{read_mode}
use Rattle.mode.specs.declared.EntryMode.{EntryMode}
use Rattle.entry.specs.Record.{name_of}
use Rattle.entry.specs.Entry.{Entry, entry_of}
use Rattle.entry.specs.Decode.{record_at, decode, decode_mode, decode_name}
use Rattle.entry.specs.declared.EntryRecord.{EntryRecord}
use Rattle.entry.specs.declared.Cursor.{Cursor}
use Rattle.entry.proofs.Laws.{decode-parts}
use Rattle.reading.specs.Listing.{Listing, stop, entry, tally}
use Rattle.doubles.specs.Doubles.{named_before}
use Rattle.rules.specs.Rules.{or_else, is_text, modes_of, name_number, permitted, is_dot_git, is_after, after_number, judge, git_rules}
use Rattle.rules.specs.Gate.{rule_gate}
use Rattle.strict.specs.Strict.{text_of, cut}
use Rattle.strict.proofs.Laws.{cut-bad, cut-fine}
use Rattle.arriving.specs.Feed.{most_held}
use Rattle.checking.specs.Whole.{short_at, end_at, arriving, told, check_in, or_shut, check_of}
use Rattle.checking.specs.Sixteen.{Reached, begins, past, MeetsLong}
use Rattle.checking.proofs.Fed.{arriving-none, arriving_full, arriving-bad, arriving-long, arriving-short, arriving-whole}
use Rattle.std.specs.Prelude.{None, Ok, Option, Result, Some, ⊤}

module _ (more : Bool) (rs h : ℕ) (s : List ℕ) where
  abbrev from : ℕ → List Entry → ℕ → Answer
  from at seen left = told (tally (length seen) (cut (git_rules rs) h s seen (arriving more h left at (drop at s))))

  -- the name of a decoded entry
  size_of : (at : ℕ) (e : EntryRecord) (next : Cursor) (d : decode h at (drop at s) ≡ Ok (e, next))
      → length (name_of s e) ≡ count_to 0 (drop (decode-parts h at (drop at s) e next d).size (drop at s))
  unfolding name_of
  size_of at e next d =
      let p = decode-parts h at (drop at s) e next d in
      let a : e.name_start ≡ at + p.size = ap (λ (x : EntryRecord). x.name_start) p.laid in
      let b : e.name_end ≡ at + p.size + count_to 0 (drop p.size (drop at s)) = ap (λ (x : EntryRecord). x.name_end) p.laid in
      let k : drop p.size (drop at s) ≡ drop e.name_start s = drop-drop p.size at s ∙ ap (λ (j : ℕ). drop j s) (sym a) in
      let l : length (drop e.name_start s) ≡ length (drop p.size (drop at s)) = ap length (sym k) in
      length-take (e.name_end - e.name_start) (drop e.name_start s) ∙ omega (arith, p.inside)

  -- one entry that is passed
  from_past : (at : ℕ) (seen : List Entry) (left : ℕ) (e : EntryRecord) (next : Cursor) → at < length s → decode h at (drop at s) ≡ Ok (e, next) → length (name_of s e) ≤ most_held
      → judge (git_rules rs) seen (text_of s at e) (entry_of h s e) ≡ 0 → from at seen (suc left) ≡ from next.at (entry_of h s e ∷ seen) left
  unfolding tally
  from_past at seen left e next l d k j =
      let p = decode-parts h at (drop at s) e next d in
      let t : ℕ = count_to 0 (drop p.size (drop at s)) in
      let q = size_of at e next d in
      let i = p.inside in
      let x : at + p.size + (t + 1 + h) ≡ next.at = sym p.past in
      let v : at + (p.size + (t + 1 + h)) ≡ next.at = omega arith in
      let y : drop (p.size + (t + 1 + h)) (drop at s) ≡ drop next.at s = drop-drop (p.size + (t + 1 + h)) at s ∙ ap (λ (j : ℕ). drop j s) v in
      let w : arriving more h (suc left) at (drop at s) ≡ entry at e (arriving more h left next.at (drop next.at s))
      = arriving-whole more h left at (drop at s) (omega (arith, length-drop at s)) (record { internal = e.mode }) p.size p.reads (omega arith) p.inside
      ∙ ap (λ (r : EntryRecord). entry at r (arriving more h left (at + p.size + (t + 1 + h)) (drop (p.size + (t + 1 + h)) (drop at s)))) (sym p.laid)
      ∙ ap (λ (i : ℕ). entry at e (arriving more h left i (drop (p.size + (t + 1 + h)) (drop at s)))) x
      ∙ ap (λ (b : List ℕ). entry at e (arriving more h left next.at b)) y in
      let z : length seen + 1 ≡ suc (length seen) = omega arith in
      ap (λ (a : Listing). told (tally (length seen) (cut (git_rules rs) h s seen a))) w
      ∙ ap (λ (a : Listing). told (tally (length seen) a)) (cut-fine (git_rules rs) h s seen at e (arriving more h left next.at (drop next.at s)) j)
      ∙ ap (λ (i : ℕ). told (tally i (cut (git_rules rs) h s (entry_of h s e ∷ seen) (arriving more h left next.at (drop next.at s))))) z

  -- what is reached is what reading goes on from
  from-reached : {at : ℕ} {seen : List Entry} → Reached rs h s at seen → (length seen ≤ most_records) × (check_in (git_rules rs) more h s ≡ from at seen (most_records - length seen))
  from-reached begins = (omega arith, refl)
  from-reached (past {at} {seen} r e next f l d k j) =
      let i = from-reached r in
      let z : most_records - length seen ≡ suc (most_records - suc (length seen)) = omega arith in
      (omega arith, i.1 ∙ ap (from at seen) z ∙ from_past at seen (most_records - suc (length seen)) e next l d k j)

  pub long-gives : (at : ℕ) → MeetsLong rs h s at → check_in (git_rules rs) more h s ≡ refused (verdict 16 at)
  unfolding tally cut
  long-gives at m =
      let seen = m.seen in
      let i = from-reached m.reached in
      let f = m.few in
      let z : most_records - length seen ≡ suc (most_records - suc (length seen)) = omega arith in
      let c = m.long.passes in
      let some : 0 < length (drop at s) = omega (arith, count-le 0 (drop m.long.size (drop at s)), length-drop m.long.size (drop at s)) in
      i.1 ∙ ap (from at seen) z ∙ ap (λ (a : Listing). told (tally (length seen) (cut (git_rules rs) h s seen a)))
      (arriving-long more h (most_records - suc (length seen)) at (drop at s) some m.long.mode m.long.size m.long.reads m.long.passes)

  abbrev Found : ℕ → ℕ → Type 0
  Found left place = (at : ℕ) (seen : List Entry) → Reached rs h s at seen → left + length seen ≡ most_records → (from at seen left).verdict ≡ verdict 16 place → MeetsLong rs h s place

  abbrev Never : Verdict → ℕ → Type 0
  Never v place = v ≡ verdict 16 place → ⊥

  other : (v : Verdict) (place : ℕ) → (v.number ≡ 16 → ⊥) → Never v place
  other v place n e = n (ap (λ (x : Verdict). x.number) e)

  from-stop : (at : ℕ) (seen : List Entry) (left : ℕ) (v : Verdict) → arriving more h left at (drop at s) ≡ stop v → from at seen left ≡ refused v
  unfolding tally cut
  from-stop at seen left v e = rw e

  ends : (seen : List Entry) (v : Bool) (place : ℕ) → Never (told (tally (length seen) (cut (git_rules rs) h s seen (end_at v)))).verdict place
  unfolding tally cut
  ends seen true place e = other (verdict 2 0) place (λ z. omega arith) e
  ends seen false place e = other (verdict 0 0) place (λ z. omega arith) e

  from_end : (at : ℕ) (seen : List Entry) (left place : ℕ) → length s ≤ at → Never (from at seen left).verdict place
  from_end at seen left place l e =
      let q : arriving more h left at (drop at s) ≡ end_at more = ap (λ (b : List ℕ). arriving more h left at b) (drop_of_length-le s {i = at} l) ∙ arriving-none more h left at in
      ends seen more place (sym (ap (λ (a : Listing). (told (tally (length seen) (cut (git_rules rs) h s seen a))).verdict) q) ∙ e)

  short-number : (v : Bool) (at part : ℕ) → (short_at v at part).number ≡ 16 → ⊥
  short-number true at part z = omega arith
  short-number false at part z = omega arith

  found_none : (place : ℕ) → Found 0 place
  found_none place at seen r f e =
      elim (dec_lt at (length s)) [
        | yes l ↦ absurd (other (verdict 2 0) place (λ z. omega arith) (sym (ap (λ (a : Answer). a.verdict) (from-stop at seen 0 (verdict 2 0) (arriving_full more h at (drop at s) (omega (arith, length-drop at s))))) ∙ e))
        | no l ↦ absurd (from_end at seen 0 place (omega arith) e)
      ]

  -- the present rules have no 16
  judge-small : (seen : List Entry) (text : List ℕ) (e : Entry) → judge (git_rules rs) seen text e ≡ 16 → ⊥
  unfolding judge git_rules name_number after_number
  judge-small seen text e z = go (is_text (modes_of rs) text) (permitted e.name) (is_dot_git e.name) (is_after seen e) (named_before seen e.name) z
    where
      go : (a b c d f : Bool) → ◌≡◌ {A = ℕ} (or_else (pick a 0 5) (or_else (or_else (pick b 0 6) (pick c 18 0)) (or_else (pick d 0 7) (pick f 17 0)))) 16 → ⊥
      go false b c d f z = omega arith
      go true false c d f z = omega arith
      go true true true d f z = omega arith
      go true true false false f z = omega arith
      go true true false true true z = omega arith
      go true true false true false z = omega arith

  decodes : (at n : ℕ) (m : EntryMode) → read_mode (drop at s) ≡ Some (m, n) → count_to 0 (drop n (drop at s)) + 1 + h ≤ length (drop n (drop at s))
      → decode h at (drop at s) ≡ Ok (record_at at m.internal n (count_to 0 (drop n (drop at s))), record { at = at + n + (count_to 0 (drop n (drop at s)) + 1 + h) })
  unfolding decode decode_mode decode_name
  decodes at n m q k = rw (q, le-leb (count_to 0 (drop n (drop at s)) + 1 + h) (length (drop n (drop at s))) k)

  named_small : (at n : ℕ) (m : EntryMode) → read_mode (drop at s) ≡ Some (m, n) → count_to 0 (drop n (drop at s)) + 1 + h ≤ length (drop n (drop at s))
      → decode h at (drop at s) ≡ Ok (record_at at m.internal n (count_to 0 (drop n (drop at s))), record { at = at + n + (count_to 0 (drop n (drop at s)) + 1 + h) })
      → count_to 0 (drop n (drop at s)) ≤ most_held → length (name_of s (record_at at m.internal n (count_to 0 (drop n (drop at s))))) ≤ most_held
  unfolding name_of
  named_small at n m q k d g =
      let t : ℕ = count_to 0 (drop n (drop at s)) in
      omega (arith, length-take (at + n + t - (at + n)) (drop (at + n) s))

  bad-entry : (at : ℕ) (seen : List Entry) (left : ℕ) (e : EntryRecord) (rest : Listing) → arriving more h (suc left) at (drop at s) ≡ entry at e rest
      → (judge (git_rules rs) seen (text_of s at e) (entry_of h s e) ≡ 0 → ⊥) → from at seen (suc left) ≡ refused (verdict (judge (git_rules rs) seen (text_of s at e) (entry_of h s e)) at)
  unfolding tally
  bad-entry at seen left e rest w j = ap (λ (a : Listing). told (tally (length seen) a)) (ap (cut (git_rules rs) h s seen) w ∙ cut-bad (git_rules rs) h s seen at e rest j)

  moved_to : {at place : ℕ} → at ≡ place → MeetsLong rs h s at → MeetsLong rs h s place
  moved_to e m = rw e at m

  module _ (left place : ℕ) (again : Found left place) (at : ℕ) (seen : List Entry) (r : Reached rs h s at seen) (f : suc left + length seen ≡ most_records) (e : (from at seen (suc left)).verdict ≡ verdict 16 place) (l : at < length s) where
    some : 0 < length (drop at s)
    some = omega (arith, length-drop at s)

    no_stop : (v : Verdict) → arriving more h (suc left) at (drop at s) ≡ stop v → v ≡ verdict 16 place
    no_stop v q = sym (ap (λ (a : Answer). a.verdict) (from-stop at seen (suc left) v q)) ∙ e

    found-whole : (m : EntryMode) (n : ℕ) → read_mode (drop at s) ≡ Some (m, n) → count_to 0 (drop n (drop at s)) ≤ most_held
        → count_to 0 (drop n (drop at s)) + 1 + h ≤ length (drop n (drop at s)) → MeetsLong rs h s place
    found-whole m n q g k = go (judge (git_rules rs) seen (text_of s at x) (entry_of h s x)) refl
      where
        t : ℕ
        t = count_to 0 (drop n (drop at s))

        x : EntryRecord
        x = record_at at m.internal n t

        next : Cursor
        next = record { at = at + n + (t + 1 + h) }

        d : decode h at (drop at s) ≡ Ok (x, next)
        d = decodes at n m q k

        small : length (name_of s x) ≤ most_held
        small = named_small at n m q k d g

        go : (v : ℕ) → judge (git_rules rs) seen (text_of s at x) (entry_of h s x) ≡ v → MeetsLong rs h s place
        go zero j = again next.at (entry_of h s x ∷ seen) (past r x next (omega arith) l d small j) (omega arith) (sym (ap (λ (a : Answer). a.verdict) (from_past at seen left x next l d small j)) ∙ e)
        go (suc v) j =
            let w = arriving-whole more h left at (drop at s) some m n q g k in
            let b = bad-entry at seen left x (arriving more h left (at + n + (t + 1 + h)) (drop (n + (t + 1 + h)) (drop at s))) w (λ z. omega arith) in
            let z : judge (git_rules rs) seen (text_of s at x) (entry_of h s x) ≡ 16 = ap (λ (y : Verdict). y.number) (sym (ap (λ (a : Answer). a.verdict) b) ∙ e) in
            absurd (judge-small seen (text_of s at x) (entry_of h s x) z)

    found-mode : (m : EntryMode) (n : ℕ) → read_mode (drop at s) ≡ Some (m, n) → MeetsLong rs h s place
    found-mode m n q =
        elim (dec_lt most_held (count_to 0 (drop n (drop at s)))) [
          | yes g ↦
              let z : at ≡ place = ap (λ (v : Verdict). v.place) (no_stop (verdict 16 at) (arriving-long more h left at (drop at s) some m n q g)) in
              moved_to z (record { seen = seen; reached = r; few = omega arith; long = record { mode = m; size = n; reads = q; passes = g } })
          | no g ↦ elim (dec_lt (length (drop n (drop at s))) (count_to 0 (drop n (drop at s)) + 1 + h)) [
            | yes k ↦ absurd (short-number more at _ (ap (λ (v : Verdict). v.number) (no_stop _ (arriving-short more h left at (drop at s) some m n q (omega arith) k))))
            | no k ↦ found-whole m n q (omega arith) (omega arith)
          ]
        ]

    found-any : (v : Option (EntryMode × ℕ)) → read_mode (drop at s) ≡ v → MeetsLong rs h s place
    found-any (Some (m, n)) q = found-mode m n q
    found-any None q = absurd (three (ap (λ (v : Verdict). v.number) (no_stop (broken at 1) (arriving-bad more h left at (drop at s) some q))))
      where
        three : ◌≡◌ {A = ℕ} 3 16 → ⊥
        three z = omega arith

  found-more : (left place : ℕ) → Found left place → Found (suc left) place
  found-more left place again at seen r f e =
      elim (dec_lt at (length s)) [ yes l ↦ found-any left place again at seen r f e l (read_mode (drop at s)) refl | no l ↦ absurd (from_end at seen (suc left) place (omega arith) e) ]

  found : (left place : ℕ) → Found left place
  found zero place = found_none place
  found (suc left) place = found-more left place (found left place)

  pub gives-long : (place : ℕ) → (check_in (git_rules rs) more h s).verdict ≡ verdict 16 place → MeetsLong rs h s place
  gives-long place e = found most_records place 0 [] begins (omega arith) e

-- 16 at a place exactly where strict reading of the bytes up to the bound reaches such an entry there: both ways.
module _ (h k : ℕ) (s : List ℕ) (i : rule_gate k h 0 0 ≡ Ok tt) (place : ℕ) where
  answer-is : check_of h k s ≡ check_in (git_rules k) (ltb most_bytes (length s)) h (take most_bytes s)
  unfolding check_of
  answer-is = ap (λ (g : Result ⊤ Verdict). or_shut g (check_in (git_rules k) (ltb most_bytes (length s)) h (take most_bytes s))) i

  pub sixteen-only : (check_of h k s).verdict ≡ verdict 16 place → MeetsLong k h (take most_bytes s) place
  sixteen-only e = gives-long (ltb most_bytes (length s)) k h (take most_bytes s) place (sym (ap (λ (a : Answer). a.verdict) answer-is) ∙ e)

  pub sixteen-there : MeetsLong k h (take most_bytes s) place → check_of h k s ≡ refused (verdict 16 place)
  sixteen-there m = answer-is ∙ long-gives (ltb most_bytes (length s)) k h (take most_bytes s) place m
