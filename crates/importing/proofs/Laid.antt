-- A record that is not refused is the text of the entry that it says, so a text that is read to its end is the text of its entries. Assumes nothing.
use Prim.Native.Nat.{ℕ, zero, suc, ◌+◌, ◌-◌, ◌*◌, ◌/◌, ◌≤◌}
use native.Mathlib.Omega.{arith}
use mathlib.Core.Path.{◌≡◌, refl, ap, sym, ◌∙◌}
use mathlib.Core.Logic.{◌⊎◌, ⊎_elim}
use mathlib.Core.Bool.{Bool, true, false, false≢true, ◌&&◌, ◌||◌}
use mathlib.Core.List.{List, [], ◌∷◌, ◌++◌, append_assoc}
use lib.Dec.{eqb, leb}
use lib.ListN.{length, take, drop, length-drop, take-append-drop}
use lib.Seq.{take-add, length-take-le}
use borrow.Author.Tests.{eqb-true, eqb-false, leb-true}
use Rattle.ground.specs.Basics.{pick}
use Rattle.ground.specs.Verdict.{verdict, counted, most_records}
use Rattle.ground.proofs.Laws.{and_left, and_right, same_true, gate_fine}
use Rattle.output.specs.Output.{fitted}
use Rattle.output.proofs.Laws.{fitted-fine}
use Rattle.hex_digits.specs.Hex.{lower_digit, lower_hex}
use Rattle.hex_digits.proofs.Laws.{digit_low, digit_high}
use Rattle.mode_table.specs.declared.Written.{Written}
use Rattle.rules.specs.Rules.{modes_of, stands_before}
use Rattle.sorting.proofs.Sorted.{sort-done}
use Rattle.id_of_hex.specs.Id.{bytes_of, halved, id_answer}
use Rattle.id_of_hex.proofs.Laws.{halved_even, read-hex, id_open}
use Rattle.hex_of_id.specs.Hex.{hex_of}
use Rattle.hex_of_id.proofs.Inverse.{hex_back}
use Rattle.tree_text.specs.Text.{front_text, record_text, as_text}
use Rattle.text_form.specs.Form.{between, within, all_within, all_lower, begins, front_len, name_from}
use Rattle.text_record.specs.Record.{front_mode, name_end, name_in, id_in, text_number, entry_in, size_in}
use Rattle.text_record.proofs.Shape.{shape, lower-hex, tab_inside}
use Rattle.text_import.specs.Import.{Texts, stop, one, read_from, texts, entries_in, ending}
use Rattle.text_import.specs.Import.{compare_same, name_same, repeated, or_then, import_verdict}
use Rattle.importing.specs.Importing.{given, imported_listing}
use Rattle.importing.specs.Back.{SameText}
use Rattle.importing.proofs.Theorem.{front_known, whole}
use Rattle.importing.proofs.Record.{front_read, joined}
use Rattle.importing.proofs.Back.{ascends}

-- ---- digits and word

front_begins : (rs : List Written) (b : List ℕ) → (front_mode rs b ≡ 0 → ⊥) → begins (front_text (front_mode rs b)) b ≡ true
unfolding front_mode
front_begins [] b n = absurd (n refl)
front_begins (r ∷ rs) b n = go (begins (front_text r.mode) b) refl (front_begins rs b) n
  where
    go : (u : Bool) → begins (front_text r.mode) b ≡ u → ((front_mode rs b ≡ 0 → ⊥) → begins (front_text (front_mode rs b)) b ≡ true)
        → (pick u r.mode (front_mode rs b) ≡ 0 → ⊥) → begins (front_text (pick u r.mode (front_mode rs b))) b ≡ true
    go true p ih n = p
    go false p ih n = ih n

-- ---- digits of an id

lower-one : (x : ℕ) → within 48 57 97 102 x ≡ true → lower_digit x ≡ x
unfolding within between
lower-one x e = go (leb 48 x) (leb x 57) refl (leb 97 x) refl (leb x 102) e
  where
    go : (a b : Bool) → leb x 57 ≡ b → (c : Bool) → leb 97 x ≡ c → (d : Bool) → ((a && b) || (c && d)) ≡ true → lower_digit x ≡ x
    go a true p c q d e = digit_low x (omega (arith, leb-true x 57 p))
    go a false p true q d e = digit_high x (omega (arith, leb-true 97 x q))
    go true false p false q d e = absurd (false≢true e)
    go false false p false q d e = absurd (false≢true e)

lower-same : (d : List ℕ) → all_lower d ≡ true → lower_hex d ≡ d
unfolding all_within
lower-same [] e = refl
lower-same (x ∷ d) e =
    rw (lower-one x (and_left (within 48 57 97 102 x) (all_lower d) e), lower-same d (and_right (within 48 57 97 102 x) (all_lower d) e)) refl

digits-again : (h : ℕ) → (h ≡ 20) ⊎ (h ≡ 32) → (d : List ℕ) → length d ≡ 2 * h → all_lower d ≡ true → hex_of (bytes_of d) ≡ d
digits-again h i d l a =
    let few : h ≤ 32 = ⊎_elim (λ e. omega arith) (λ e. omega arith) i in
    let z : h ≡ halved (length d) = omega (arith, l, halved_even (length d) (omega (arith, l))) in
    let r : id_answer d 32 ≡ counted (length d / 2) =
    id_open d 32 h z (gate_fine h 32 0 i (omega arith) (omega arith)) ∙ ap (fitted 32) (read-hex d (lower-hex d a))
    ∙ fitted-fine 32 (counted (length d / 2)) refl (omega (arith, l)) in
    (hex_back d 32 (length d / 2) 64 r (omega (arith, l)) (omega arith)).2 ∙ lower-same d a

-- ---- the record

module _ (k h : ℕ) (i : (h ≡ 20) ⊎ (h ≡ 32)) (b : List ℕ) (e : text_number k h b ≡ 0) where
  abbrev mode : ℕ
  mode = front_mode (modes_of k) b

  known : front_mode (modes_of k) b ≡ 0 → ⊥
  known = (shape k h b e).mode

  front_there : take (length (front_text mode)) b ≡ front_text mode
  front_there = same_true (take (length (front_text mode)) b) (front_text mode) (front_begins (modes_of k) b known)

  front_size : front_len b ≡ length (front_text mode)
  front_size =
      let t : List ℕ = drop (length (front_text mode)) b in
      let z : front_text mode ++ drop (length (front_text mode)) b ≡ b =
      ap (λ (l : List ℕ). l ++ drop (length (front_text mode)) b) (sym front_there) ∙ take-append-drop (length (front_text mode)) b in
      ap front_len (sym z) ∙ (front_read t k mode (front_known k b known)).size

  digits-size : length (take (2 * h) (drop (front_len b) b)) ≡ 2 * h
  digits-size =
      length-take-le (2 * h) (drop (front_len b) b) (omega (arith, length-drop (front_len b) b, tab_inside h b (shape k h b e).front))

  digits-lower : all_lower (take (2 * h) (drop (front_len b) b)) ≡ true
  digits-lower =
      let z : front_len b + 2 * h - front_len b ≡ 2 * h = omega arith in
      ap (λ (n : ℕ). all_lower (take n (drop (front_len b) b))) (sym z) ∙ (shape k h b e).front.digits

  id-digits : id_in h b ≡ bytes_of (take (2 * h) (drop (front_len b) b))
  unfolding id_in
  id-digits =
      let f = (shape k h b e).front.from in
      let z : name_from h b - 1 - 2 * h ≡ front_len b = omega (arith, f) in
      let y : name_from h b - 1 - front_len b ≡ 2 * h = omega (arith, f) in
      rw (z, y) refl

  before : take (front_len b + 2 * h) b ≡ front_text mode ++ hex_of (id_in h b)
  before =
      take-add (front_len b) (2 * h) b
      ∙ ap (λ (l : List ℕ). l ++ take (2 * h) (drop (front_len b) b)) (ap (λ (n : ℕ). take n b) front_size ∙ front_there)
      ∙ ap (λ (l : List ℕ). front_text mode ++ l) (sym (ap hex_of id-digits ∙ digits-again h i (take (2 * h) (drop (front_len b) b)) digits-size digits-lower))

  record_laid : b ≡ record_text (entry_in k h b) ++ drop (size_in h b) b
  unfolding record_text entry_in size_in
  record_laid =
      let r : List ℕ = drop (name_end h b + 1) b in
      (shape k h b e).laid ∙ ap (λ (l : List ℕ). l ++ 9 ∷ (name_in h b ++ 0 ∷ drop (name_end h b + 1) b)) before
      ∙ append_assoc (front_text mode) (hex_of (id_in h b)) (9 ∷ (name_in h b ++ 0 ∷ r)) ∙ sym (joined (front_text mode) (hex_of (id_in h b)) (name_in h b) r)

-- ---- all records

text-laid : (k h : ℕ) → (h ≡ 20) ⊎ (h ≡ 32) → (left at : ℕ) (b : List ℕ) → (ending (read_from k h left at b)).number ≡ 0
    → b ≡ as_text (entries_in (read_from k h left at b))
unfolding read_from ending entries_in as_text
text-laid k h i zero at [] e = refl
text-laid k h i zero at (x ∷ xs) e = absurd (omega arith)
text-laid k h i (suc left) at [] e = refl
text-laid k h i (suc left) at (x ∷ xs) e =
    go (eqb (text_number k h (x ∷ xs)) 0) refl e
    (text-laid k h i left (at + size_in h (x ∷ xs)) (drop (size_in h (x ∷ xs)) (x ∷ xs)))
  where
    next : Texts
    next = read_from k h left (at + size_in h (x ∷ xs)) (drop (size_in h (x ∷ xs)) (x ∷ xs))

    go : (u : Bool) → eqb (text_number k h (x ∷ xs)) 0 ≡ u
        → (ending (pick u (one at (entry_in k h (x ∷ xs)) next) (stop (verdict (text_number k h (x ∷ xs)) at)))).number ≡ 0
        → ((ending next).number ≡ 0 → drop (size_in h (x ∷ xs)) (x ∷ xs) ≡ as_text (entries_in next))
        → (x ∷ xs) ≡ as_text (entries_in (pick u (one at (entry_in k h (x ∷ xs)) next) (stop (verdict (text_number k h (x ∷ xs)) at))))
    go true p e ih =
        record_laid k h i (x ∷ xs) (eqb-true (text_number k h (x ∷ xs)) 0 p)
        ∙ ap (λ (l : List ℕ). record_text (entry_in k h (x ∷ xs)) ++ l) (ih e)
    go false p e ih = absurd (eqb-false (text_number k h (x ∷ xs)) 0 p e)

-- ---- a call that was done

ending-fine : (t : Texts) → (import_verdict t).number ≡ 0 → (ending t).number ≡ 0
unfolding import_verdict
ending-fine t = go (eqb (ending t).number 0) refl
  where
    go : (u : Bool) → eqb (ending t).number 0 ≡ u → (pick u (or_then (repeated 7 compare_same [] t) (repeated 17 name_same [] t)) (ending t)).number ≡ 0
        → (ending t).number ≡ 0
    go true p e = eqb-true (ending t).number 0 p
    go false p e = e

pub same_text : SameText
unfolding imported_listing
same_text k h s room d =
    let w = whole k h s room d in
    let l = text-laid k h w.id most_records 0 s (ending-fine (texts k h s) w.fine) in
    (l, λ a. l ∙ ap as_text (sym (sort-done stands_before (given k h s) (ascends (given k h s) a))))
