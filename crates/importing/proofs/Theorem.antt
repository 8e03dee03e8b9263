-- What is claimed of importing holds. Assumes nothing.
use Prim.Native.Nat.{ℕ, ◌+◌, ◌-◌, ◌*◌, ◌≤◌, max}
use native.Mathlib.Omega.{arith}
use mathlib.Core.Path.{◌≡◌, refl, ap, sym, ◌∙◌}
use mathlib.Core.Logic.{◌⊎◌, inl, inr}
use mathlib.Core.Bool.{Bool, true, false, false≢true, not}
use mathlib.Core.List.{List, [], ◌∷◌}
use lib.Dec.{eqb}
use lib.ListN.{length, drop}
use borrow.Author.Tests.{eqb-true, eqb-false}
use Rattle.ground.specs.Basics.{pick, ascii, part}
use Rattle.ground.specs.Scan.{same_bytes}
use Rattle.ground.specs.Verdict.{counted, refused, most_bytes, most_records}
use Rattle.ground.specs.declared.Answer.{Answer}
use Rattle.ground.proofs.Laws.{same_refl, gate_open, gate_fine}
use Rattle.output.specs.Output.{fitted}
use Rattle.output.proofs.Laws.{fitted-done, fitted-fine}
use Rattle.mode_table.specs.Table.{rows}
use Rattle.entry.specs.Record.{many}
use Rattle.entry.specs.Entry.{as_written, entries_of}
use Rattle.rules.specs.Rules.{modes_of, group_row, is_dot_git, git_rules, stands_before}
use Rattle.rules.specs.Gate.{rule_gate}
use Rattle.rules.proofs.Laws.{permitted-parts, number_free, rule_known, rule_open}
use Rattle.reading.specs.Listing.{Listing, records_in, tally}
use Rattle.strict.specs.Strict.{strictly}
use Rattle.strict.proofs.Laws.{strict-refuses, strict-plain}
use Rattle.one_listing.specs.Sound.{Five, Sound, SoundEntry, EachSound, SoundListing}
use Rattle.one_listing.specs.Demand.{Accepts}
use Rattle.one_listing.proofs.Back.{listed}
use Rattle.one_listing.proofs.Theorem.{listed_total, sound-listed}
use Rattle.one_listing.proofs.Settling.{set_settles}
use Rattle.one_listing.proofs.Present.{git_ok, plainly, git_one-listing}
use Rattle.sorting.specs.Sort.{Perm}
use Rattle.sorting.proofs.Sorted.{sort_perm, perm_sym, perm_length}
use Rattle.sorting.proofs.Repeats.{perm_mem}
use Rattle.mend_kept.proofs.Sorts.{name_free}
use Rattle.id_of_hex.proofs.Laws.{bytes-length}
use Rattle.tree_text.specs.Text.{front_text, as_text}
use Rattle.text_form.specs.Form.{begins, name_from}
use Rattle.tree_export.specs.Export.{text_in, counted_in, export_answer}
use Rattle.tree_export.proofs.Laws.{export_open}
use Rattle.text_record.specs.Record.{front_mode, name_in, id_in, text_number, entry_in}
use Rattle.text_record.proofs.Shape.{shape}
use Rattle.text_import.specs.Import.{Texts, done, stop, one, texts, entries_in, ending, compare_same, name_same, repeated, import_verdict, imported, counted_of, import_answer}
use Rattle.text_import.proofs.Walk.{read-few}
use Rattle.text_import.proofs.Places.{Good, good-texts}
use Rattle.text_import.proofs.Bytes.{one-digits}
use Rattle.text_import.proofs.Whole.{import_shut, import-open, counted-fine}
use Rattle.importing.specs.Importing.{given, imported_listing, Done, Importing}
use Rattle.importing.proofs.Sorted.{clear, sort-up, each_perm, distinct_perm, apart_distinct}
use Rattle.ground.specs.declared.Verdict.{Verdict}
use Rattle.std.specs.Prelude.{Err, Ok, Result, ⊤}

-- ---- one entry

differs : (n t : List ℕ) → not (same_bytes n t) ≡ true → n ≡ t → ⊥
differs n t p e = let z : not (same_bytes n t) ≡ false = rw (e, same_refl t) refl in false≢true (sym z ∙ p)

five : (b : List ℕ) → (front_mode rows b ≡ 0 → ⊥) → Five (front_mode rows b)
unfolding front_mode rows
five b =
    go (begins (front_text 0o40000) b) (begins (front_text 0o100644) b) (begins (front_text 0o100755) b) (begins (front_text 0o120000) b) (begins (front_text 0o160000) b)
  where
    go : (u v w x y : Bool)
        → (◌≡◌ {A = ℕ} (pick u 0o40000 (pick v 0o100644 (pick w 0o100755 (pick x 0o120000 (pick y 0o160000 0))))) 0 → ⊥)
        → Five (pick u 0o40000 (pick v 0o100644 (pick w 0o100755 (pick x 0o120000 (pick y 0o160000 0)))))
    go true v w x y n = inl refl
    go false true w x y n = inr (inl refl)
    go false false true x y n = inr (inr (inl refl))
    go false false false true y n = inr (inr (inr (inl refl)))
    go false false false false true n = inr (inr (inr (inr refl)))
    go false false false false false n = absurd (n refl)

group : (k : ℕ) (b : List ℕ) → k ≡ 1 → (front_mode (group_row ∷ rows) b ≡ 0 → ⊥)
    → Five (front_mode (group_row ∷ rows) b) ⊎ ((k ≡ 1) × (front_mode (group_row ∷ rows) b ≡ 0o100664))
unfolding front_mode group_row
group k b e = go (begins (front_text 0o100664) b)
  where
    go : (u : Bool) → (◌≡◌ {A = ℕ} (pick u 0o100664 (front_mode rows b)) 0 → ⊥)
        → Five (pick u 0o100664 (front_mode rows b)) ⊎ ((k ≡ 1) × (◌≡◌ {A = ℕ} (pick u 0o100664 (front_mode rows b)) 0o100664))
    go true n = inr (e, refl)
    go false n = inl (five b n)

pub front_known : (k : ℕ) (b : List ℕ) → (front_mode (modes_of k) b ≡ 0 → ⊥) → Five (front_mode (modes_of k) b) ⊎ ((k ≡ 1) × (front_mode (modes_of k) b ≡ 0o100664))
front_known k b = go (eqb k 1) refl
  where
    go : (u : Bool) → eqb k 1 ≡ u → (front_mode (pick u (group_row ∷ rows) rows) b ≡ 0 → ⊥)
        → Five (front_mode (pick u (group_row ∷ rows) rows) b) ⊎ ((k ≡ 1) × (front_mode (pick u (group_row ∷ rows) rows) b ≡ 0o100664))
    go true p n = group k b (eqb-true k 1 p) n
    go false p n = inl (five b n)

entry-sound : (k h : ℕ) (b : List ℕ) → text_number k h b ≡ 0 → SoundEntry k h (entry_in k h b)
unfolding entry_in is_dot_git id_in
entry-sound k h b e =
    let w = shape k h b e in
    let f = name_free (name_in h b) (sym (number_free (name_in h b) w.free) ∙ w.name) in
    let p = permitted-parts (name_in h b) f.2 in
    record {
      mode = front_known k b w.mode;
      some = differs (name_in h b) [] p.0;
      nulless = f.0;
      slashless = f.1;
      no_dot = differs (name_in h b) (ascii ".") p.3;
      no_dots = differs (name_in h b) (ascii "..") p.4;
      no_git = λ z. false≢true (sym f.3 ∙ rw z (same_refl (ascii ".git")));
      sized = bytes-length (part (name_from h b - 1 - 2 * h) (name_from h b - 1) b) ∙ omega (arith, (one-digits k h b e refl refl).1);
    }

each : (k h : ℕ) (s : List ℕ) (lo : ℕ) (t : Texts) → Good k h s lo t → EachSound k h (entries_in t)
unfolding entries_in
each k h s lo done g = tt
each k h s lo (stop v) g = tt
each k h s lo (one at e l) g = (rw g.1 (entry-sound k h (drop at s) g.2), each k h s (at + 1) l g.3)

-- ---- a call that was done

verdict-fine : (t : Texts) → (counted_of t).verdict.number ≡ 0 → (import_verdict t).number ≡ 0
unfolding counted_of
verdict-fine t = go (eqb (import_verdict t).number 0) refl
  where
    go : (u : Bool) → eqb (import_verdict t).number 0 ≡ u → (pick u (counted (length (imported t))) (refused (import_verdict t))).verdict.number ≡ 0
        → (import_verdict t).number ≡ 0
    go true p e = eqb-true (import_verdict t).number 0 p
    go false p e = e

two-fine : (t : Texts) → (import_verdict t).number ≡ 0 → ((repeated 7 compare_same [] t).number ≡ 0) × ((repeated 17 name_same [] t).number ≡ 0)
unfolding import_verdict
two-fine t = go (eqb (ending t).number 0) refl (eqb (repeated 7 compare_same [] t).number 0) refl
  where
    go : (u : Bool) → eqb (ending t).number 0 ≡ u → (v : Bool) → eqb (repeated 7 compare_same [] t).number 0 ≡ v
        → (pick u (pick v (repeated 17 name_same [] t) (repeated 7 compare_same [] t)) (ending t)).number ≡ 0
        → ((repeated 7 compare_same [] t).number ≡ 0) × ((repeated 17 name_same [] t).number ≡ 0)
    go true p true q e = (eqb-true (repeated 7 compare_same [] t).number 0 q, e)
    go true p false q e = absurd (eqb-false (repeated 7 compare_same [] t).number 0 q e)
    go false p v q e = absurd (eqb-false (ending t).number 0 p e)

pub record Known (k h : ℕ) (s : List ℕ) (room : ℕ) : Type 0 where
  pub set : (k ≡ 1) ⊎ (k ≡ 2)
  pub id : (h ≡ 20) ⊎ (h ≡ 32)
  bound : room ≤ most_bytes
  fits : length (imported (texts k h s)) ≤ room
  count : import_answer k h s room ≡ counted (length (imported (texts k h s)))
  pub fine : (import_verdict (texts k h s)).number ≡ 0

pub whole : (k h : ℕ) (s : List ℕ) (room : ℕ) → Done k h s room → Known k h s room
whole k h s room d = go (rule_gate k h (max (length s) room) 0) refl
  where
    go : (g : Result ⊤ Verdict) → rule_gate k h (max (length s) room) 0 ≡ g → Known k h s room
    go (Err v) q =
        absurd
        (strict-refuses k h (max (length s) room) 0 v q (sym (ap (λ (a : Answer). a.verdict.number) (import_shut k h s room (max (length s) room) refl v q)) ∙ d))
    go (Ok tt) q =
        let o = import-open k h s room (max (length s) room) refl q in
        let f = fitted-done room (counted_of (texts k h s)) (sym (ap (λ (a : Answer). a.verdict.number) o) ∙ d) in
        let r = rule_open k h (max (length s) room) 0 q in
        let b = gate_open h (max (length s) room) 0 (sym (rule_known k h (max (length s) room) 0 r) ∙ q) in
        let z = verdict-fine (texts k h s) f.0 in
        let c = counted-fine (texts k h s) z in
        record {
          set = r;
          id = b.0;
          bound = omega (arith, b.1);
          fits = omega (arith, f.1, ap (λ (a : Answer). a.count) c);
          count = o ∙ f.2 ∙ c;
          fine = z;
        }

module _ (k h : ℕ) (s : List ℕ) (room : ℕ) (d : Done k h s room) where
  perm : Perm (imported_listing k h s) (given k h s)
  unfolding imported_listing
  perm = sort_perm stands_before (given k h s)

  sound : SoundListing k h (imported_listing k h s)
  unfolding imported_listing
  sound =
      let w = two-fine (texts k h s) (whole k h s room d).fine in (
        each_perm k h (perm_sym (sort_perm stands_before (given k h s))) (each k h s 0 (texts k h s) (good-texts k h s)),
        sort-up (given k h s) (clear 7 (λ e. omega arith) compare_same [] (texts k h s) w.0).1,
        distinct_perm (perm_sym (sort_perm stands_before (given k h s))) (apart_distinct (given k h s) (clear 17 (λ e. omega arith) name_same [] (texts k h s) w.1).1),
      )

  by-rules : Sound (git_rules k) h [] (imported_listing k h s)
  by-rules = (plainly k h (imported_listing k h s)).0 sound

  written : imported (texts k h s) ≡ as_written (imported_listing k h s)
  unfolding imported imported_listing
  written = refl

  few : length (imported_listing k h s) ≤ most_records
  few = omega (arith, perm_length perm, read-few k h most_records 0 s)

  accepts : (lent : List ℕ) → length (imported_listing k h s) ≤ many (length lent) → many (length lent) ≤ most_records
      → Accepts (git_rules k) h (imported (texts k h s)) lent (imported_listing k h s)
  accepts lent l m =
      let w = whole k h s room d in
      (git_one-listing k h (imported (texts k h s)) lent (imported_listing k h s) w.id (omega (arith, w.fits, w.bound)) m).1 (by-rules, l, written)

  -- the strict reader, and so the plain one, reads the object as its listing
  read_again : (strictly (git_rules k) h (as_written (imported_listing k h s)) ≡ listed 0 (imported_listing k h s))
      × (entries_of h (as_written (imported_listing k h s)) (records_in (listed 0 (imported_listing k h s))) ≡ imported_listing k h s)
  read_again = sound-listed (git_rules k) (git_ok k) h (imported_listing k h s) by-rules few

  total : tally 0 (strictly (git_rules k) h (imported (texts k h s))) ≡ Ok (length (imported_listing k h s))
  total =
      let z : 0 + length (imported_listing k h s) ≡ length (imported_listing k h s) = omega arith in
      ap (λ (l : List ℕ). tally 0 (strictly (git_rules k) h l)) written ∙ ap (tally 0) read_again.0 ∙ listed_total 0 0 (imported_listing k h s) ∙ ap Ok z

  out-again : text_in h (imported (texts k h s)) ≡ as_text (imported_listing k h s)
  out-again =
      let p = strict-plain (git_rules k) h (imported (texts k h s)) (length (imported_listing k h s)) total in
      ap (λ (l : Listing). as_text (entries_of h (imported (texts k h s)) (records_in l))) (sym p)
      ∙ ap (λ (l : List ℕ). as_text (entries_of h l (records_in (strictly (git_rules k) h l)))) written
      ∙ ap (λ (l : Listing). as_text (entries_of h (as_written (imported_listing k h s)) (records_in l))) read_again.0 ∙ ap as_text read_again.1

  answer-again : (back : ℕ) → length (as_text (imported_listing k h s)) ≤ back → back ≤ most_bytes
      → export_answer k h (imported (texts k h s)) back ≡ counted (length (as_text (imported_listing k h s)))
  unfolding counted_in
  answer-again back p q =
      let w = whole k h s room d in
      let o : List ℕ = imported (texts k h s) in
      let g = rule_known k h (max (length (imported (texts k h s))) back) 0 w.set
      ∙ gate_fine h (max (length (imported (texts k h s))) back) 0 w.id (omega (arith, w.fits, w.bound, q)) (omega arith) in
      export_open k h (imported (texts k h s)) back (max (length (imported (texts k h s))) back) refl g
      ∙ ap (λ (c : Result ℕ Verdict). fitted back (counted_in h o c)) total ∙ ap (λ (l : List ℕ). fitted back (counted (length l))) out-again
      ∙ fitted-fine back (counted (length (as_text (imported_listing k h s)))) refl p

pub importing : Importing
importing = record {
  says = λ k h s room d. (sound k h s room d, written k h s room d, perm k h s room d);
  counts = λ k h s room d. (whole k h s room d).count;
  accepted = λ k h s room lent d l m. accepts k h s room d lent l m;
  exported = λ k h s room back d p q. (out-again k h s room d, answer-again k h s room d back p q);
  same_set = λ k h s t room space d e f.
      let p = perm k h s room d in
      let q = perm k h t space e in
      let z : imported_listing k h s ≡ imported_listing k h t =
      set_settles (git_rules k) (git_ok k) h (imported_listing k h s) (imported_listing k h t) [] [] (by-rules k h s room d) (by-rules k h t space e)
      (λ x m. perm_mem (perm_sym q) ((f x).0 (perm_mem p m))) (λ x m. perm_mem (perm_sym p) ((f x).1 (perm_mem q m))) in
      written k h s room d ∙ ap as_written z ∙ sym (written k h t space e);
}
