-- Entries remember their mode text: the laws of specs/Texts.antt. Assumes nothing.
use Prim.Native.Nat.{ℕ, zero, suc, ◌+◌, ◌-◌, ◌≤◌, ◌<◌}
use native.Mathlib.Numerals.{add-one}
use native.Mathlib.Omega.{arith}
use mathlib.Core.Path.{◌≡◌, refl, ap, sym, subst, ◌∙◌}
use mathlib.Core.Bool.{Bool, true, false}
use mathlib.Core.List.{List, [], ◌∷◌, ◌++◌, append_assoc}
use lib.Dec.{eqb}
use lib.ListN.{length, get_or, take, drop, length-drop, take-append-drop}
use lib.Seq.{drop-drop, drop-cons, get_or-drop, take-append_seam, drop-append_seam}
use borrow.Author.Tests.{ne_eqb}
use Rattle.ground.specs.Basics.{pick, part}
use Rattle.ground.specs.Scan.{count_to, free_of}
use Rattle.ground.specs.Verdict.{gate_of, most_records}
use Rattle.ground.specs.declared.Answer.{Answer}
use Rattle.ground.proofs.Laws.{gate_open, id_small, count-is, count_free, free-count}
use Rattle.mode.specs.Read.{read_mode}
use Rattle.mode.specs.Write.{six_digits, trimmed, write_mode}
use Rattle.mode_round.proofs.Space.{mode-space, read_count}
use Rattle.entry.specs.Record.{many, records_of, name_of, id_of}
use Rattle.entry.specs.Entry.{Entry, entry_bytes, as_written, entry_of, entries_of}
use Rattle.entry.specs.Decode.{decode}
use Rattle.entry.specs.declared.EntryRecord.{EntryRecord}
use Rattle.entry.specs.declared.Cursor.{Cursor}
use Rattle.entry.proofs.Laws.{Parts, decode-parts, decode-inside}
use Rattle.reading.specs.Listing.{Listing, listing, follow, plain, records_in, tally}
use Rattle.strict.specs.Strict.{text_of, strictly}
use Rattle.rules.specs.Rules.{git_rules}
use Rattle.reading.specs.Whole.{read_answer, read_records}
use Rattle.reading.proofs.Laws.{tally-length, plain-refuses, answer-done}
use Rattle.strict.proofs.Laws.{cut-refuses, strict-plain}
use Rattle.one_listing.specs.Demand.{Accepts}
use Rattle.one_listing.proofs.Theorem.{stored-records, accepts_sound}
use Rattle.one_listing.proofs.Present.{git_ok}
use Rattle.examples.specs.Texts.{remembered, Remembers, OwnText, Each, as_stood, Returned, Judged, TextLaws}
use Rattle.ground.specs.declared.Verdict.{Verdict}
use Rattle.std.specs.Prelude.{Err, Ok, Result, Some}

-- ---- one entry

-- past a mode text: a name, NUL and an id, put together again
rejoin : (h : ℕ) (c : List ℕ) → count_to 0 c + 1 + h ≤ length c
    → take (count_to 0 c) c ++ 0 ∷ (take h (drop (count_to 0 c + 1) c) ++ drop (count_to 0 c + 1 + h) c) ≡ c
rejoin h c p =
    let t : ℕ = count_to 0 c in
    let d : drop (t + 1 + h) c ≡ drop h (drop (t + 1) c) = sym (drop-drop h (t + 1) c) in
    let i : take h (drop (t + 1) c) ++ drop (t + 1 + h) c ≡ drop (t + 1) c = rw d (take-append-drop h (drop (t + 1) c)) in
    let g : drop t c ≡ 0 ∷ drop (t + 1) c = rw (add-one t) (drop-cons c t 0 (omega arith) ∙ ap (λ (x : ℕ). x ∷ drop (suc t) c) (count-is 0 c (omega arith))) in
    rw (i, ← g) (take-append-drop t c)

module _ (h : ℕ) (big : 6 < h) (s : List ℕ) (at : ℕ) (b : List ℕ) (here-is : drop at s ≡ b) (e : EntryRecord) (next : Cursor) (P : Parts h at b e next) where
  abbrev n : ℕ
  n = P.size

  abbrev c : List ℕ
  c = drop n b

  abbrev t : ℕ
  t = count_to 0 c

  text_at : e.text_start ≡ at
  text_at = ap (λ (x : EntryRecord). x.text_start) P.laid

  start_is : e.name_start ≡ at + n
  start_is = ap (λ (x : EntryRecord). x.name_start) P.laid

  end_is : e.name_end ≡ at + n + t
  end_is = ap (λ (x : EntryRecord). x.name_end) P.laid

  id-at : e.id_start ≡ at + n + (t + 1)
  id-at = ap (λ (x : EntryRecord). x.id_start) P.laid

  there : (k : ℕ) → drop (at + n + k) s ≡ drop k c
  there k = sym (drop-drop k (at + n) s) ∙ ap (drop k) (sym (drop-drop n at s) ∙ ap (drop n) here-is)

  long : 7 < length b
  long = omega (arith, length-drop n b, P.inside)

  spaced : (0 < n) × (n ≤ length b) × (get_or b (n - 1) 0 ≡ 32)
  spaced = mode-space b e.mode n P.reads long

  text-is : remembered s e ≡ take (n - 1) b
  text-is =
      let z : e.name_start - 1 - at ≡ n - 1 = omega (arith, start_is) in
      ap (λ (x : ℕ). part x (e.name_start - 1) s) text_at ∙ rw (z, here-is)

  name-is : name_of s e ≡ take t c
  unfolding name_of
  name-is =
      let z : e.name_end - e.name_start ≡ t = omega (arith, start_is, end_is) in
      let d : drop e.name_start s ≡ c = ap (λ (x : ℕ). drop x s) start_is ∙ sym (drop-drop n at s) ∙ ap (drop n) here-is in
      rw (z, d)

  id-is : id_of h s e ≡ take h (drop (t + 1) c)
  unfolding id_of
  id-is = ap (λ (x : ℕ). take h (drop x s)) id-at ∙ ap (take h) (there (t + 1))

  rest-is : drop (next.at - at) b ≡ drop (t + 1 + h) c
  rest-is = let z : next.at - at ≡ n + (t + 1 + h) = omega (arith, P.past) in rw z (sym (drop-drop (t + 1 + h) n b))

  rest-there : drop next.at s ≡ drop (next.at - at) b
  rest-there =
      let z : at + (next.at - at) ≡ next.at = omega (arith, P.past) in
      sym (ap (drop (next.at - at)) (sym here-is) ∙ drop-drop (next.at - at) at s ∙ ap (λ (x : ℕ). drop x s) z)

  entry-remembers : Remembers s e
  entry-remembers =
      let z : e.name_start - e.text_start ≡ n = omega (arith, start_is, text_at) in
      let y : n - 1 ≡ count_to 32 b = omega (arith, read_count b e.mode n P.reads long) in
      let x : at + (n - 1) ≡ e.name_start - 1 = omega (arith, start_is, spaced.0) in
      record {
        reads = ap (λ (i : ℕ). read_mode (drop i s)) text_at ∙ ap read_mode here-is ∙ P.reads ∙ ap ((λ y. Some ((record { internal = e.mode }), y))) (sym z);
        space = ap (λ (i : ℕ). get_or s i 0) (sym x) ∙ sym (get_or-drop at s (n - 1) 0) ∙ rw here-is spaced.2;
        spaceless = ap (free_of 32) (text-is ∙ ap (λ (i : ℕ). take i b) y) ∙ free-count 32 b;
      }

  -- the bytes are the entry as it stood, and what follows
  entry-stands : b ≡ (remembered s e ++ 32 ∷ (name_of s e ++ 0 ∷ id_of h s e)) ++ drop (next.at - at) b
  entry-stands =
      let y : n ≡ suc (n - 1) = omega (arith, spaced.0) in
      let d : drop (n - 1) b ≡ 32 ∷ c
      = drop-cons b (n - 1) 0 (omega (arith, spaced.0, spaced.1)) ∙ ap (λ (x : ℕ). x ∷ drop (suc (n - 1)) b) spaced.2
      ∙ ap (λ (x : ℕ). 32 ∷ drop x b) (sym y) in
      sym (rw (text-is, name-is, id-is, rest-is)
      (append_assoc (take (n - 1) b) (32 ∷ (take t c ++ 0 ∷ take h (drop (t + 1) c))) (drop (t + 1 + h) c)
      ∙ ap (λ (l : List ℕ). take (n - 1) b ++ 32 ∷ l) (append_assoc (take t c) (0 ∷ take h (drop (t + 1) c)) (drop (t + 1 + h) c) ∙ rejoin h c P.inside)
      ∙ ap (λ (l : List ℕ). take (n - 1) b ++ l) (sym d) ∙ take-append-drop (n - 1) b))

-- ---- a listing

-- what a listing of the bytes b says of its records
record Stood (h : ℕ) (s b : List ℕ) (rs : List EntryRecord) : Type 0 where
  bytes : as_stood h s rs ≡ b
  each : Each (Remembers s) rs

plain-stood : (h : ℕ) → 6 < h → (s : List ℕ) (k at m n : ℕ) (b : List ℕ) → drop at s ≡ b → tally m (plain h k at b) ≡ Ok n
    → Stood h s b (records_in (plain h k at b))
unfolding plain follow records_in tally
plain-stood h o s zero at m n [] q t = record { bytes = refl; each = tt }
plain-stood h o s zero at m n (x ∷ xs) q t = let z : ◌≡◌ {A = ℕ} 0 1 = cc in absurd (omega arith)
plain-stood h o s (suc k) at m n [] q t = record { bytes = refl; each = tt }
plain-stood h o s (suc k) at m n (x ∷ xs) q t = go (λ i c. plain-stood h o s k i (m + 1) n c) (x ∷ xs) q (decode h at (x ∷ xs)) refl t
  where
    go : ((i : ℕ) (c : List ℕ) → drop i s ≡ c → tally (m + 1) (plain h k i c) ≡ Ok n → Stood h s c (records_in (plain h k i c)))
        → (b : List ℕ) → drop at s ≡ b → (d : Result (EntryRecord × Cursor) Verdict) → decode h at b ≡ d → tally m (follow (plain h k) at b d) ≡ Ok n
        → Stood h s b (records_in (follow (plain h k) at b d))
    go ih b q (Err v) d t = let z : ◌≡◌ {A = ℕ} 0 1 = cc in absurd (omega arith)
    go ih b q (Ok (e, next)) d t =
        let P = decode-parts h at b e next d in
        let i = ih next.at (drop (next.at - at) b) (rest-there h o s at b q e next P) t in
        record {
          bytes = rw i.bytes (sym (entry-stands h o s at b q e next P));
          each = (entry-remembers h o s at b q e next P, i.each);
        }

judged-text : (s : List ℕ) (at : ℕ) (e : EntryRecord) → e.text_start ≡ at → remembered s e ≡ text_of s at e
unfolding text_of
judged-text s at e q = rw q

plain-judged : (h : ℕ) (s : List ℕ) (k at : ℕ) (b : List ℕ) → drop at s ≡ b → Judged s (plain h k at b)
unfolding plain follow
plain-judged h s zero at [] q = tt
plain-judged h s zero at (x ∷ xs) q = tt
plain-judged h s (suc k) at [] q = tt
plain-judged h s (suc k) at (x ∷ xs) q = go (plain-judged h s k) (x ∷ xs) q (decode h at (x ∷ xs)) refl
  where
    go : ((i : ℕ) (c : List ℕ) → drop i s ≡ c → Judged s (plain h k i c)) → (b : List ℕ) → drop at s ≡ b → (d : Result (EntryRecord × Cursor) Verdict) → decode h at b ≡ d
        → Judged s (follow (plain h k) at b d)
    go ih b q (Err v) d = tt
    go ih b q (Ok (e, next)) d =
        let w = decode-inside h s at e next (ap (decode h at) q ∙ d) in
        let z : at + (next.at - at) ≡ next.at = omega (arith, w) in
        let r : drop next.at s ≡ drop (next.at - at) b
        = sym (ap (drop (next.at - at)) (sym q) ∙ drop-drop (next.at - at) at s ∙ ap (λ (x : ℕ). drop x s) z) in
        (judged-text s at e w.5, ih next.at (drop (next.at - at) b) r)

-- ---- own texts

mode_free : (m : ℕ) → free_of 32 (write_mode m) ≡ true
unfolding write_mode trimmed
mode_free m = go (eqb m 0) (eqb (get_or (six_digits m) 1 0) 52) (eqb (get_or (six_digits m) 0 0) 48)
  where
    digit : (k : ℕ) → eqb (48 + k) 32 ≡ false
    digit k = ne_eqb (48 + k) 32 (λ z. omega arith)

    go : (p q r : Bool) → free_of 32 (pick p (48 ∷ []) (pick q (pick r (drop 1 (six_digits m)) (48 ∷ drop 1 (six_digits m))) (six_digits m))) ≡ true
    go true q r = refl
    go false true true = simp digit
    go false true false = simp digit
    go false false r = simp digit

-- two texts that end at the same first space are one
same_text : (a b r t : List ℕ) → free_of 32 a ≡ true → free_of 32 b ≡ true → a ++ 32 ∷ r ≡ b ++ 32 ∷ t → a ≡ b
same_text a b r t f g e =
    let n : length a ≡ length b = sym (count_free 32 a r f) ∙ ap (count_to 32) e ∙ count_free 32 b t g in
    sym (take-append_seam a (32 ∷ r)) ∙ rw (e, n) (take-append_seam b (32 ∷ t))

cancel : (p a b : List ℕ) → p ++ a ≡ p ++ b → a ≡ b
cancel p a b e = sym (drop-append_seam p a) ∙ ap (drop (length p)) e ∙ drop-append_seam p b

own-written : (h : ℕ) (s : List ℕ) (rs : List EntryRecord) → Each (OwnText s) rs → as_written (entries_of h s rs) ≡ as_stood h s rs
unfolding as_written entry_bytes entry_of
own-written h s [] o = refl
own-written h s (r ∷ rs) o = rw (o.0, own-written h s rs o.1)

written-own : (h : ℕ) (s : List ℕ) (rs : List EntryRecord) → Each (Remembers s) rs → as_written (entries_of h s rs) ≡ as_stood h s rs → Each (OwnText s) rs
unfolding as_written entry_bytes entry_of
written-own h s [] f e = tt
written-own h s (r ∷ rs) f e =
    let body : List ℕ = name_of s r ++ 0 ∷ id_of h s r in
    let A : List ℕ = as_written (entries_of h s rs) in
    let B : List ℕ = as_stood h s rs in
    let w : write_mode r.mode ++ 32 ∷ (body ++ A) ≡ remembered s r ++ 32 ∷ (body ++ B)
    = sym (append_assoc (write_mode r.mode) (32 ∷ body) A) ∙ e ∙ append_assoc (remembered s r) (32 ∷ body) B in
    let o : remembered s r ≡ write_mode r.mode
    = sym (same_text (write_mode r.mode) (remembered s r) (body ++ A) (body ++ B) (mode_free r.mode) f.0.spaceless w) in
    let c : (remembered s r ++ 32 ∷ body) ++ A ≡ (remembered s r ++ 32 ∷ body) ++ B = ap (λ (x : List ℕ). (x ++ 32 ∷ body) ++ A) o ∙ e in
    (o, written-own h s rs f.1 (cancel (remembered s r ++ 32 ∷ body) A B c))

-- ---- the laws

-- a whole object that was counted to its end
whole-stood : (h : ℕ) (s : List ℕ) (records n : ℕ) → gate_of h (length s) records ≡ Ok tt → tally 0 (listing h s) ≡ Ok n
    → Stood h s s (records_in (listing h s))
whole-stood h s records n g t =
    let o = id_small h (gate_open h (length s) records g).0 in
    plain-stood h (omega (arith, o.0)) s most_records 0 0 n s refl t

module _ (h : ℕ) (s lent : List ℕ) (rs : List EntryRecord) (w : Returned h s lent rs) where
  counted_to : (gate_of h (length s) (many (length lent)) ≡ Ok tt) × (tally 0 (listing h s) ≡ Ok (length rs)) × (length rs ≤ many (length lent))
  counted_to = answer-done (listing h s) h (length s) (many (length lent)) (many (length lent)) (length rs) (plain-refuses h s) w.answer

  records_are : records_in (listing h s) ≡ rs
  records_are =
      let z : 0 + length (records_in (listing h s)) ≡ length (records_in (listing h s)) = omega arith in
      sym (stored-records (listing h s) (read_answer h s (listing h s) lent).verdict lent (length rs) (ap (λ (x : Answer). x.verdict.number) w.answer)
      (tally-length 0 (listing h s) (length rs) counted_to.1 ∙ z)) ∙ w.first

  returned-stood : Stood h s s rs
  returned-stood = subst (Stood h s s) records_are (whole-stood h s (many (length lent)) (length rs) counted_to.0 counted_to.1)

strict-texts : (k h : ℕ) (s lent : List ℕ) (es : List Entry) → Accepts (git_rules k) h s lent es
    → Each (OwnText s) (take (length es) (records_of (read_records h s (strictly (git_rules k) h s) lent)))
strict-texts k h s lent es a =
    let l : Listing = strictly (git_rules k) h s in
    let d = answer-done l h (length s) (many (length lent)) (many (length lent)) (length es) (cut-refuses (git_rules k) h s) a.answer in
    let p : l ≡ listing h s = strict-plain (git_rules k) h s (length es) d.1 in
    let z : 0 + length (records_in l) ≡ length (records_in l) = omega arith in
    let f : take (length es) (records_of (read_records h s l lent)) ≡ records_in (listing h s)
    = stored-records l (read_answer h s l lent).verdict lent (length es) (ap (λ (x : Answer). x.verdict.number) a.answer)
    (tally-length 0 l (length es) d.1 ∙ z)
    ∙ ap records_in p in
    let w = whole-stood h s (many (length lent)) (length es) d.0 (sym (ap (tally 0) p) ∙ d.1) in
    let same : entries_of h s (records_in (listing h s)) ≡ es = sym (ap (entries_of h s) f) ∙ a.listed in
    let b : as_written (entries_of h s (records_in (listing h s))) ≡ as_stood h s (records_in (listing h s))
    = ap as_written same ∙ sym (accepts_sound (git_rules k) (git_ok k) h s lent es a).2 ∙ sym w.bytes in
    subst (Each (OwnText s)) (sym f) (written-own h s (records_in (listing h s)) w.each b)

pub text_laws : TextLaws
text_laws =
    record {
      the_text = λ h s. plain-judged h s most_records 0 s refl;
      remembers = λ h s lent rs w. (returned-stood h s lent rs w).each;
      stands = λ h s lent rs w. (returned-stood h s lent rs w).bytes;
      rewrites = λ h s lent rs w. (
        (λ e. written-own h s rs (returned-stood h s lent rs w).each (e ∙ sym (returned-stood h s lent rs w).bytes)),
        (λ o. own-written h s rs o ∙ (returned-stood h s lent rs w).bytes),
      );
      strict_own = strict-texts;
    }
