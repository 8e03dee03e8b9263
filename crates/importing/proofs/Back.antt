-- An object that was exported is a sound listing as written, and the text of a sound listing is imported to the listing as written. Assumes nothing.
use Prim.Native.Nat.{ℕ, zero, suc, ◌+◌, ◌-◌, ◌<◌, ◌≤◌, max}
use native.Mathlib.Omega.{arith}
use mathlib.Core.Path.{◌≡◌, refl, ap, sym, ◌∙◌}
use mathlib.Core.Logic.{◌⊎◌, ⊎_elim}
use mathlib.Core.Bool.{Bool, false}
use mathlib.Core.List.Memᴰ
use mathlib.Core.List.{List, [], ◌∷◌, ◌++◌, Memᴰ}
use lib.ListN.{length, drop, length-map}
use borrow.Author.Tests.{eq-eqb}
use Rattle.ground.specs.Scan.{same_bytes}
use Rattle.ground.specs.Verdict.{fine, counted, most_bytes, most_records}
use Rattle.ground.specs.declared.Verdict.{Verdict}
use Rattle.ground.specs.declared.Answer.{Answer}
use Rattle.ground.proofs.Laws.{is_false, same_true, id_small, gate_open, gate_fine}
use Rattle.output.specs.Output.{fitted}
use Rattle.output.proofs.Laws.{fitted-done, fitted-fine}
use Rattle.mode.specs.Mode.{is_tree}
use Rattle.mode.specs.Write.{write_mode}
use Rattle.order.specs.Order.{is_below, opposite}
use Rattle.order.proofs.Laws.{order_flip, order_trans}
use Rattle.entry.specs.Entry.{Entry, entry_bytes, as_written, entries_of, entry_of}
use Rattle.entry.specs.Decode.{decode}
use Rattle.rules.specs.Rules.{git_rules, stands_before}
use Rattle.rules.specs.Gate.{rule_gate}
use Rattle.rules.proofs.Laws.{rule_known, rule_open}
use Rattle.reading.specs.Listing.{follow, plain, listing, records_in, tally}
use Rattle.strict.specs.Strict.{strictly}
use Rattle.strict.proofs.Laws.{strict-refuses}
use Rattle.one_listing.specs.Sound.{Before, Ascending, EachSound, Distinct, SoundListing}
use Rattle.one_listing.proofs.Cutting.{uncut_sound}
use Rattle.one_listing.proofs.Present.{git_ok, plainly}
use Rattle.sorting.specs.Sort.{sort_by, Ascends}
use Rattle.sorting.proofs.Sorted.{sort-done}
use Rattle.hex_of_id.specs.Demand.{Bytes}
use Rattle.tree_text.specs.Text.{record_text, as_text}
use Rattle.tree_export.specs.Export.{text_in, counted_in, export_answer}
use Rattle.tree_export.proofs.Laws.{export_shut, export_open, counted-length, counted_total}
use Rattle.text_record.specs.Record.{text_number, entry_in, size_in}
use Rattle.text_import.specs.Import.{Texts, done, stop, one, read_from, texts, entries_in, ending}
use Rattle.text_import.specs.Import.{is_same, compare_same, name_same, any_before, repeated, or_then, import_verdict, imported, import_answer}
use Rattle.text_import.proofs.Whole.{import-open, counted-fine}
use Rattle.importing.specs.Back.{ExportDone, ExportSays, SameObject}
use Rattle.importing.proofs.Sorted.{Apart}
use Rattle.importing.proofs.Record.{record_back, record_some}
use Rattle.entry.specs.declared.Cursor.{Cursor}
use Rattle.entry.specs.declared.EntryRecord.{EntryRecord}
use Rattle.std.specs.Prelude.{Err, Ok, Result, ⊤}

-- ---- all records

-- the ids of all entries are bytes
abbrev EachBytes : List Entry → Type 0
EachBytes [] = Unit {0}
EachBytes (e ∷ es) = Bytes e.id × EachBytes es

next-read : (k h left at : ℕ) (b : List ℕ) → 0 < length b → text_number k h b ≡ 0
    → read_from k h (suc left) at b ≡ one at (entry_in k h b) (read_from k h left (at + size_in h b) (drop (size_in h b) b))
unfolding read_from
next-read k h left at [] p e = absurd (omega arith)
next-read k h left at (x ∷ xs) p e = rw (eq-eqb (text_number k h (x ∷ xs)) 0 e) refl

module _ (k h : ℕ) (i : (h ≡ 20) ⊎ (h ≡ 32)) where
  record_read : (left at : ℕ) (e : Entry) (es : List Entry) → EachSound k h (e ∷ es) → EachBytes (e ∷ es)
      → (next : ℕ) × (read_from k h (suc left) at (as_text (e ∷ es)) ≡ one at e (read_from k h left next (as_text es)))
  unfolding as_text
  record_read left at e es s f =
      let b : List ℕ = record_text e ++ as_text es in
      let w = record_back k h i e s.0 f.0 (as_text es) in
      let next : ℕ = at + size_in h (record_text e ++ as_text es) in (
        at + size_in h (record_text e ++ as_text es),
        next-read k h left at (record_text e ++ as_text es) (record_some k h i e s.0 f.0 (as_text es)) w.0
            ∙ ap (λ (x : Entry). one at x (read_from k h left next (drop (size_in h b) b))) w.1
            ∙ ap (λ (l : List ℕ). one at e (read_from k h left next l)) w.2,
      )

  all_read : (es : List Entry) (left at : ℕ) → length es ≤ left → EachSound k h es → EachBytes es
      → (entries_in (read_from k h left at (as_text es)) ≡ es) × (ending (read_from k h left at (as_text es)) ≡ fine)
  unfolding entries_in ending as_text read_from
  all_read [] zero at p s f = (refl, refl)
  all_read [] (suc left) at p s f = (refl, refl)
  all_read (e ∷ es) zero at p s f = absurd (omega arith)
  all_read (e ∷ es) (suc left) at p s f =
      let w = record_read left at e es s f in
      let r = all_read es left w.0 (omega arith) s.1 f.1 in
      (ap entries_in w.1 ∙ ap (λ (l : List Entry). e ∷ l) r.0, ap ending w.1 ∙ r.1)

-- ---- none repeats an earlier one

none_any : (same : Entry → Entry → Bool) (before : List Entry) (e : Entry) → ((d : Entry) → Memᴰ d before → same d e ≡ false)
    → any_before same before e ≡ false
unfolding any_before
none_any same [] e f = refl
none_any same (b ∷ before) e f = rw (f b (Memᴰ.head refl)) (none_any same before e (λ d m. f d (Memᴰ.tail m)))

none-repeated : (n : ℕ) (same : Entry → Entry → Bool) (before : List Entry) (t : Texts)
    → ((d e : Entry) → Memᴰ d before → Memᴰ e (entries_in t) → same d e ≡ false) → Apart same (entries_in t) → repeated n same before t ≡ fine
unfolding repeated entries_in
none-repeated n same before done c a = refl
none-repeated n same before (stop v) c a = refl
none-repeated n same before (one at e l) c a =
    rw (none_any same before e (λ d m. c d e m (Memᴰ.head refl)))
    (none-repeated n same (e ∷ before) l
    (λ d f m b. ⊎_elim (λ z. ap (λ (x : Entry). same x f) z ∙ a.0 f b) (λ w. c d f w (Memᴰ.tail b)) (Memᴰ.cases_cons m)) a.1)

before_all : (a : Entry) (es : List Entry) → Ascending (a ∷ es) → (d : Entry) → Memᴰ d es → Before a d
before_all a [] w d m = absurd (Memᴰ.not-nil m)
before_all a (b ∷ es) w d m =
    ⊎_elim (λ z. rw z w.0)
    (λ n. order_trans a.name (is_tree a.mode) b.name (is_tree b.mode) d.name (is_tree d.mode) w.0 (before_all b es w.1 d n))
    (Memᴰ.cases_cons m)

rest_up : (a : Entry) (es : List Entry) → Ascending (a ∷ es) → Ascending es
rest_up a [] w = tt
rest_up a (b ∷ es) w = w.1

order_apart : (es : List Entry) → Ascending es → Apart compare_same es
unfolding compare_same
order_apart [] w = tt
order_apart (a ∷ es) w = ((λ d m. ap is_same (before_all a es w d m)), order_apart es (rest_up a es w))

name-apart : (es : List Entry) → Distinct es → Apart name_same es
unfolding name_same
name-apart [] w = tt
name-apart (a ∷ es) w = ((λ d m. is_false (same_bytes a.name d.name) (λ e. w.0 d m (same_true a.name d.name e))), name-apart es w.1)

-- ---- in order already

up_to : (a b : Entry) → Before a b → stands_before b a ≡ false
unfolding stands_before
up_to a b p = ap is_below (order_flip a.name (is_tree a.mode) b.name (is_tree b.mode) ∙ ap opposite p)

pub ascends : (es : List Entry) → Ascending es → Ascends stands_before es
unfolding Ascends
ascends [] w = tt
ascends (a ∷ []) w = tt
ascends (a ∷ b ∷ es) w = (up_to a b w.0, ascends (b ∷ es) w.1)

-- ---- the text of a sound listing

module _ (k h : ℕ) (i : (h ≡ 20) ⊎ (h ≡ 32)) (es : List Entry) (s : SoundListing k h es) (f : EachBytes es) (few : length es ≤ most_records) where
  entries_back : entries_in (texts k h (as_text es)) ≡ es
  entries_back = (all_read k h i es most_records 0 few s.0 f).0

  none_in : (n : ℕ) (same : Entry → Entry → Bool) → Apart same es → repeated n same [] (texts k h (as_text es)) ≡ fine
  none_in n same a = none-repeated n same [] (texts k h (as_text es)) (λ d e m b. absurd (Memᴰ.not-nil m)) (rw entries_back a)

  verdict_back : import_verdict (texts k h (as_text es)) ≡ fine
  unfolding import_verdict
  verdict_back =
      ap (λ (v : Verdict). or_then v (or_then (repeated 7 compare_same [] (texts k h (as_text es))) (repeated 17 name_same [] (texts k h (as_text es)))))
      (all_read k h i es most_records 0 few s.0 f).1
      ∙ ap (λ (v : Verdict). or_then v (repeated 17 name_same [] (texts k h (as_text es)))) (none_in 7 compare_same (order_apart es s.1))
      ∙ none_in 17 name_same (name-apart es s.2)

  object_back : imported (texts k h (as_text es)) ≡ as_written es
  unfolding imported
  object_back = ap (λ (l : List Entry). as_written (sort_by stands_before l)) entries_back ∙ ap as_written (sort-done stands_before es (ascends es s.1))

-- ---- an object that was exported

bytes-both : (a b : List ℕ) → Bytes (a ++ b) → Bytes a × Bytes b
bytes-both [] b f = (tt, f)
bytes-both (x ∷ a) b f = let w = bytes-both a b f.1 in ((f.0, w.0), w.1)

ids_bytes : (es : List Entry) → Bytes (as_written es) → EachBytes es
unfolding as_written entry_bytes
ids_bytes [] f = tt
ids_bytes (e ∷ es) f =
    let w = bytes-both (write_mode e.mode ++ 32 ∷ (e.name ++ 0 ∷ e.id)) (as_written es) f in
    let v = bytes-both (write_mode e.mode) (32 ∷ (e.name ++ 0 ∷ e.id)) w.0 in
    let u = bytes-both e.name (0 ∷ e.id) v.1.1 in
    (u.1.1, ids_bytes es w.1)

plain-few : (h left at : ℕ) (b : List ℕ) → length (records_in (plain h left at b)) ≤ left
unfolding plain records_in follow
plain-few h zero at [] = omega arith
plain-few h zero at (x ∷ xs) = omega arith
plain-few h (suc left) at [] = omega arith
plain-few h (suc left) at (x ∷ xs) = go (λ a c. plain-few h left a c) (decode h at (x ∷ xs))
  where
    go : ((a : ℕ) (c : List ℕ) → length (records_in (plain h left a c)) ≤ left) → (d : Result (EntryRecord × Cursor) Verdict)
        → length (records_in (follow (plain h left) at (x ∷ xs) d)) ≤ suc left
    go ih (Ok (e, next)) = omega (arith, ih next.at (drop (next.at - at) (x ∷ xs)))
    go ih (Err v) = omega arith

-- what an export that is done says of the object
record Exported (k h : ℕ) (s : List ℕ) (room : ℕ) : Type 0 where
  set : (k ≡ 1) ⊎ (k ≡ 2)
  id : (h ≡ 20) ⊎ (h ≡ 32)
  sound : SoundListing k h (entries_of h s (records_in (listing h s)))
  object : s ≡ as_written (entries_of h s (records_in (listing h s)))
  few : length (entries_of h s (records_in (listing h s))) ≤ most_records
  size : export_answer k h s room ≡ counted (length (text_in h s))
  fits : length (text_in h s) ≤ room
  bound : room ≤ most_bytes

exported : (k h : ℕ) (s : List ℕ) (room : ℕ) → ExportDone k h s room → Exported k h s room
unfolding counted_in
exported k h s room z = go (rule_gate k h (max (length s) room) 0) refl
  where
    go : (g : Result ⊤ Verdict) → rule_gate k h (max (length s) room) 0 ≡ g → Exported k h s room
    go (Err v) q =
        absurd
        (strict-refuses k h (max (length s) room) 0 v q
        (sym (ap (λ (a : Answer). a.verdict.number) (export_shut k h s room (max (length s) room) refl v q)) ∙ z))
    go (Ok tt) q =
        let o = export_open k h s room (max (length s) room) refl q in
        let m : Answer = counted_in h s (tally 0 (strictly (git_rules k) h s)) in
        let d = fitted-done room m (sym (ap (λ (a : Answer). a.verdict.number) o) ∙ z) in
        let t = counted_total h s k d.0 in
        let r = rule_open k h (max (length s) room) 0 q in
        let b = gate_open h (max (length s) room) 0 (sym (rule_known k h (max (length s) room) 0 r) ∙ q) in
        let u = uncut_sound (git_rules k) (git_ok k) h s (omega (arith, (id_small h b.0).0)) most_records 0 0 t.0 [] s refl t.1 in
        let c = counted-length h s k d.0 in
        record {
          set = r;
          id = b.0;
          sound = (plainly k h (entries_of h s (records_in (listing h s)))).1 u.0;
          object = u.1;
          few = omega (arith, length-map (records_in (listing h s)) (entry_of h s), plain-few h most_records 0 s);
          size = o ∙ d.2 ∙ ap (counted_in h s) t.1;
          fits = omega (arith, c, d.1);
          bound = omega (arith, b.1);
        }

module _ (k h : ℕ) (s : List ℕ) (room : ℕ) (f : Bytes s) (w : Exported k h s room) where
  ids : EachBytes (entries_of h s (records_in (listing h s)))
  ids = ids_bytes (entries_of h s (records_in (listing h s))) (rw w.object at f)

  same_bytes_lem : imported (texts k h (text_in h s)) ≡ s
  same_bytes_lem = object_back k h w.id (entries_of h s (records_in (listing h s))) w.sound ids w.few ∙ sym w.object

  same_answer : (back : ℕ) → length s ≤ back → back ≤ most_bytes → import_answer k h (text_in h s) back ≡ counted (length s)
  same_answer back p q =
      let g = rule_known k h (max (length (text_in h s)) back) 0 w.set
      ∙ gate_fine h (max (length (text_in h s)) back) 0 w.id (omega (arith, w.fits, w.bound, q)) (omega arith) in
      let v = verdict_back k h w.id (entries_of h s (records_in (listing h s))) w.sound ids w.few in
      import-open k h (text_in h s) back (max (length (text_in h s)) back) refl g
      ∙ ap (fitted back) (counted-fine (texts k h (text_in h s)) (ap (λ (x : Verdict). x.number) v) ∙ ap (λ (l : List ℕ). counted (length l)) same_bytes_lem)
      ∙ fitted-fine back (counted (length s)) refl p

pub export_says : ExportSays
export_says k h s room z =
    let w = exported k h s room z in
    (record { entries = entries_of h s (records_in (listing h s)); sound = w.sound; object = w.object; records = refl }, w.size)

pub same_object : SameObject
same_object k h s room back f z p q = let w = exported k h s room z in (same_answer k h s room f w back p q, same_bytes_lem k h s room f w)
