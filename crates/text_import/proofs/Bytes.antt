-- The bytes of the entries that records say: how they are stored. Assumes nothing.
use Prim.Native.Nat.{ℕ, zero, suc, ◌+◌, ◌-◌, ◌*◌, ◌/◌, ◌%◌, ◌<◌, ◌≤◌}
use native.Mathlib.Omega.{arith}
use native.Mathlib.Numerals.{add-one}
use mathlib.Core.Path.{◌≡◌, refl, ap, sym, ◌∙◌}
use mathlib.Core.Bool.{true}
use mathlib.Core.List.{List, [], ◌∷◌, ◌++◌, append_assoc}
use lib.ListN.{length, get_or, take, drop, length-append, length-drop, length-take, drop_of_length-le}
use lib.Seq.{sets, drop-cons, length-take-le, take_at}
use Rattle.ground.specs.Basics.{part}
use Rattle.ground.specs.Verdict.{counted, id_length, gate_of, most_bytes, stored}
use Rattle.ground.specs.declared.Answer.{Answer}
use Rattle.ground.proofs.Laws.{id-is, id_small, gate_fine, stored-done, sets_append, part-from}
use Rattle.output.specs.Output.{fitted}
use Rattle.output.proofs.Laws.{fitted-fine}
use Rattle.mode_text.specs.declared.ShortText.{ShortText}
use Rattle.mode.specs.Write.{write_mode, mode_text}
use Rattle.mode_text.proofs.Laws.{text-is, mode_le}
use Rattle.hex_digits.specs.Hex.{is_hex}
use Rattle.id_of_hex.specs.Id.{bytes_of, halved, id_answer}
use Rattle.id_of_hex.proofs.Laws.{halved_even, bytes-length, read-hex, id_open}
use Rattle.entry.specs.Entry.{entry_bytes}
use Rattle.rules.specs.Rules.{modes_of}
use Rattle.text_form.specs.Form.{front_len, name_from}
use Rattle.text_record.specs.Record.{front_mode, name_in, name_end, id_in, text_number, entry_in}
use Rattle.text_record.proofs.Shape.{shape, lower-hex}
use Rattle.text_import.specs.Code.{AllRead, all_bytes}
use Rattle.std.specs.Prelude.{Ok}

-- ---- an id

module _ (d : List ℕ) (h : ℕ) (x : is_hex d ≡ true) (l : length d ≡ 2 * h) (i : id_length h ≡ true) where
  half_is : h ≡ halved (length d)
  half_is = let z : 2 * h % 2 ≡ 0 = omega arith in sym (ap halved l ∙ halved_even (2 * h) z ∙ (let y : 2 * h / 2 ≡ h = omega arith in y))

  pub id-kept : (id after : List ℕ) → length id ≡ 32 → after ≡ stored (id_answer d (length id)).verdict (bytes_of d) id
      → (length after ≡ 32) × (take h after ≡ bytes_of d)
  id-kept id after n a =
      let w = id_small h (id-is h i) in
      let o : gate_of h (length id) 0 ≡ Ok tt = gate_fine h (length id) 0 (id-is h i) (omega (arith, n)) (omega arith) in
      let r : id_answer d (length id) ≡ counted (length d / 2) =
      id_open d (length id) h half_is o ∙ ap (λ (a : Answer). fitted (length id) a) (read-hex d x)
      ∙ fitted-fine (length id) (counted (length d / 2)) refl (omega (arith, w.1, n, l)) in
      let y : after ≡ bytes_of d ++ drop (length (bytes_of d)) id =
      a ∙ stored-done (id_answer d (length id)).verdict (bytes_of d) id (ap (λ (a : Answer). a.verdict.number) r) in
      let m : length (bytes_of d) ≡ h = bytes-length d ∙ omega (arith, l) in (
        omega (arith, ap length y, length-append (bytes_of d) (drop (length (bytes_of d)) id), length-drop (length (bytes_of d)) id, n, m, w.1),
        ap (take h) y ∙ take_at (bytes_of d) (drop (length (bytes_of d)) id) h m,
      )

-- ---- a mode and a name

module _ (out name : List ℕ) (at m : ℕ) (t : ShortText) (e : t ≡ mode_text m) where
  pub named_len : (t.len ≤ 6) × (t.len ≤ length t.bytes)
  named_len = let w = text-is t m e in (omega (arith, w.0, mode_le m), w.1)

  pub named_put : (first after : List ℕ) (from : ℕ) → from ≡ at + t.len + 1 → first ≡ sets out at (take t.len t.bytes ++ 32 ∷ [])
      → after ≡ sets first from (name ++ 0 ∷ [])
      → (from + length name + 1 ≡ at + length (write_mode m ++ 32 ∷ (name ++ 0 ∷ []))) × (after ≡ sets out at (write_mode m ++ 32 ∷ (name ++ 0 ∷ [])))
  named_put first after from f p q =
      let w = text-is t m e in
      let a : write_mode m ++ 32 ∷ (name ++ 0 ∷ []) ≡ (write_mode m ++ 32 ∷ []) ++ (name ++ 0 ∷ []) = sym (append_assoc (write_mode m) (32 ∷ []) (name ++ 0 ∷ [])) in
      let n : from ≡ at + length (write_mode m ++ 32 ∷ []) = omega (arith, f, w.0, length-append (write_mode m) (32 ∷ [])) in (
        omega (arith, ap length a, length-append (write_mode m ++ 32 ∷ []) (name ++ 0 ∷ []), length-append name (0 ∷ []), n),
        q ∙ ap (λ (l : List ℕ). sets l from (name ++ 0 ∷ [])) (p ∙ ap (λ (l : List ℕ). sets out at (l ++ 32 ∷ [])) w.2)
            ∙ ap (λ (i : ℕ). sets (sets out at (write_mode m ++ 32 ∷ [])) i (name ++ 0 ∷ [])) n
            ∙ sym (sets_append out at (write_mode m ++ 32 ∷ []) (name ++ 0 ∷ [])) ∙ ap (sets out at) (sym a),
      )

-- ---- an entry

module _ (k h : ℕ) (b : List ℕ) (e : text_number k h b ≡ 0) {from end : ℕ} (f : from ≡ name_from h b) (d : end ≡ name_end h b) where
  pub one-places : (2 * h + 1 ≤ from) × (from ≤ end) × (end < length b) × (from - 1 ≤ length b)
  one-places =
      let w = shape k h b e in
      (omega (arith, f, w.front.from), omega (arith, f, d, w.from), omega (arith, d, w.ends), omega (arith, f, d, w.from, w.ends))

  id-from : from - 1 - 2 * h ≡ front_len b
  id-from = omega (arith, f, (shape k h b e).front.from)

  pub one-digits : (is_hex (part (from - 1 - 2 * h) (from - 1) b) ≡ true) × (length (part (from - 1 - 2 * h) (from - 1) b) ≡ 2 * h)
  one-digits =
      let w = shape k h b e in
      let p = one-places in
      let z : from - 1 ≡ front_len b + 2 * h = omega (arith, f, w.front.from) in
      let y : part (from - 1 - 2 * h) (from - 1) b ≡ part (front_len b) (front_len b + 2 * h) b = rw (id-from, z) refl in (
        ap (λ (l : List ℕ). is_hex l) y ∙ lower-hex (part (front_len b) (front_len b + 2 * h) b) w.front.digits,
        length-take-le (from - 1 - (from - 1 - 2 * h)) (drop (from - 1 - 2 * h) b) (omega (arith, p.0, p.3, length-drop (from - 1 - 2 * h) b)) ∙ omega (arith, p.0),
      )

  -- how long the name is, and where the id goes
  pub one-sizes : (m at last : ℕ) → last ≡ at + length (write_mode m ++ 32 ∷ (part from end b ++ 0 ∷ []))
      → (length (part from end b) ≤ length b) × (last ≤ at + length b + 8)
  one-sizes m at last l =
      let n : length (part from end b) ≤ length b = omega (arith, length-take (end - from) (drop from b), length-drop from b) in
      (n, omega (arith, l, n, mode_le m, length-append (write_mode m) (32 ∷ (part from end b ++ 0 ∷ [])), length-append (part from end b) (0 ∷ [])))

  pub one-put : id_length h ≡ true → (m : ℕ) → m ≡ front_mode (modes_of k) b → (out first after : List ℕ) (at last : ℕ)
      → last ≡ at + length (write_mode m ++ 32 ∷ (part from end b ++ 0 ∷ []))
      → first ≡ sets out at (write_mode m ++ 32 ∷ (part from end b ++ 0 ∷ []))
      → after ≡ sets first last (bytes_of (part (from - 1 - 2 * h) (from - 1) b))
      → (last + h ≡ at + length (entry_bytes (entry_in k h b))) × (after ≡ sets out at (entry_bytes (entry_in k h b)))
  unfolding entry_bytes entry_in name_in id_in
  one-put i m c out first after at last l p q =
      let head : List ℕ = write_mode m ++ 32 ∷ (part from end b ++ 0 ∷ []) in
      let digits : List ℕ = part (from - 1 - 2 * h) (from - 1) b in
      let a : (write_mode m ++ 32 ∷ (part from end b ++ 0 ∷ [])) ++ bytes_of (part (from - 1 - 2 * h) (from - 1) b)
      ≡ write_mode m ++ 32 ∷ (part from end b ++ 0 ∷ bytes_of (part (from - 1 - 2 * h) (from - 1) b)) =
      append_assoc (write_mode m) (32 ∷ (part from end b ++ 0 ∷ [])) (bytes_of (part (from - 1 - 2 * h) (from - 1) b))
      ∙ ap (λ (r : List ℕ). write_mode m ++ 32 ∷ r) (append_assoc (part from end b) (0 ∷ []) (bytes_of (part (from - 1 - 2 * h) (from - 1) b))) in
      let z : write_mode m ++ 32 ∷ (part from end b ++ 0 ∷ bytes_of (part (from - 1 - 2 * h) (from - 1) b))
      ≡ write_mode (front_mode (modes_of k) b) ++ 32 ∷ (part (name_from h b) (name_end h b) b ++ 0 ∷ bytes_of (part (name_from h b - 1 - 2 * h) (name_from h b - 1) b)) =
      rw (c, f, d) refl in
      let n : length (bytes_of (part (from - 1 - 2 * h) (from - 1) b)) ≡ h = bytes-length (part (from - 1 - 2 * h) (from - 1) b) ∙ omega (arith, one-digits.1) in (
        omega (arith, l, ap length (a ∙ z), n, length-append (write_mode m ++ 32 ∷ (part from end b ++ 0 ∷ [])) (bytes_of (part (from - 1 - 2 * h) (from - 1) b))),
        q ∙ ap (λ (r : List ℕ). sets r last (bytes_of (part (from - 1 - 2 * h) (from - 1) b))) p
            ∙ ap (λ (j : ℕ). sets (sets out at (write_mode m ++ 32 ∷ (part from end b ++ 0 ∷ []))) j (bytes_of (part (from - 1 - 2 * h) (from - 1) b))) l
            ∙ sym (sets_append out at (write_mode m ++ 32 ∷ (part from end b ++ 0 ∷ [])) (bytes_of (part (from - 1 - 2 * h) (from - 1) b)))
            ∙ ap (sets out at) (a ∙ z),
      )

-- an entry has no more bytes than its record
pub one-short : (k h : ℕ) (b : List ℕ) → text_number k h b ≡ 0 → length (entry_bytes (entry_in k h b)) ≤ length b + 7
unfolding entry_bytes entry_in name_in id_in
one-short k h b e =
    let w = shape k h b e in
    let g = one-digits k h b e refl refl in
    let n : length (bytes_of (part (name_from h b - 1 - 2 * h) (name_from h b - 1) b)) ≡ h = bytes-length (part (name_from h b - 1 - 2 * h) (name_from h b - 1) b) ∙ omega (arith, g.1) in
    let l : length (part (name_from h b) (name_end h b) b) ≡ name_end h b - name_from h b =
    length-take-le (name_end h b - name_from h b) (drop (name_from h b) b) (omega (arith, w.ends, length-drop (name_from h b) b)) in
    omega (
      arith,
      w.ends,
      w.from,
      w.front.from,
      n,
      l,
      mode_le (front_mode (modes_of k) b),
      length-append (write_mode (front_mode (modes_of k) b)) (32 ∷ (part (name_from h b) (name_end h b) b ++ 0 ∷ bytes_of (part (name_from h b - 1 - 2 * h) (name_from h b - 1) b))),
      length-append (part (name_from h b) (name_end h b) b) (0 ∷ bytes_of (part (name_from h b - 1 - 2 * h) (name_from h b - 1) b)),
    )

-- ---- all of them

all_read : (k h : ℕ) (s l : List ℕ) → AllRead k h s l → (i : ℕ) → i < length l → text_number k h (drop (get_or l i 0 / 2) s) ≡ 0
all_read k h s [] a i p = absurd (omega arith)
all_read k h s (x ∷ l) a zero p = a.0
all_read k h s (x ∷ l) a (suc i) p = all_read k h s l a.1 i (omega arith)

pub record Writing (k h : ℕ) (s list out₀ out : List ℕ) (i at : ℕ) : Type 0 where
  pub size : length out ≡ length out₀
  pub few : at ≤ i * 1073741900
  pub inside : i ≤ length list
  pub left : length (all_bytes k h s list) ≡ at + length (all_bytes k h s (drop i list))
  pub same : sets out₀ 0 (all_bytes k h s list) ≡ sets out at (all_bytes k h s (drop i list))

pub writing_start : (k h : ℕ) (s list out : List ℕ) → Writing k h s list out out 0 0
writing_start k h s list out = record { size = refl; few = omega arith; inside = omega arith; left = omega arith; same = refl }

module _ (k h : ℕ) (s list out₀ out : List ℕ) (i at : ℕ) (g : Writing k h s list out₀ out i at) where
  pub writing_end : length list ≤ i → (at ≡ length (all_bytes k h s list)) × (out ≡ sets out₀ 0 (all_bytes k h s list))
  unfolding all_bytes
  writing_end p =
      let z : drop i list ≡ [] = drop_of_length-le list {i = i} p in
      (sym (g.left ∙ ap (λ (l : List ℕ). at + length (all_bytes k h s l)) z ∙ omega arith), sym (g.same ∙ ap (λ (l : List ℕ). sets out at (all_bytes k h s l)) z))

  module _ (a : AllRead k h s list) (p : i < length list) (short : length s ≤ most_bytes) {place : ℕ} (c : place ≡ get_or list i 0 / 2) where
    read : text_number k h (drop place s) ≡ 0
    read = ap (λ (j : ℕ). text_number k h (drop j s)) c ∙ all_read k h s list a i p

    pub writing-place : (place ≤ length s) × (text_number k h (take (length s - place) (drop place s)) ≡ 0) × (length (take (length s - place) (drop place s)) ≤ most_bytes)
    writing-place =
        let w = shape k h (drop place s) read in (
          omega (arith, w.ends, length-drop place s),
          ap (text_number k h) (part-from s place) ∙ read,
          omega (arith, ap length (part-from s place), length-drop place s),
        )

    pub writing-turn : (next : ℕ) (after : List ℕ) → length after ≡ length out
        → next ≡ at + length (entry_bytes (entry_in k h (take (length s - place) (drop place s))))
        → after ≡ sets out at (entry_bytes (entry_in k h (take (length s - place) (drop place s)))) → Writing k h s list out₀ after (i + 1) next
    unfolding all_bytes
    writing-turn next after l m w =
        let n : i + 1 ≡ suc i = add-one i in
        let b : List ℕ = entry_bytes (entry_in k h (drop (get_or list i 0 / 2) s)) in
        let y : entry_bytes (entry_in k h (take (length s - place) (drop place s))) ≡ entry_bytes (entry_in k h (drop (get_or list i 0 / 2) s)) =
        ap (λ (l : List ℕ). entry_bytes (entry_in k h l)) (part-from s place ∙ ap (λ (j : ℕ). drop j s) c) in
        let z : drop i list ≡ get_or list i 0 ∷ drop (suc i) list = drop-cons list i 0 p in
        let o = one-short k h (drop (get_or list i 0 / 2) s) (all_read k h s list a i p) in
        let x : next ≡ at + length (entry_bytes (entry_in k h (drop (get_or list i 0 / 2) s))) = m ∙ ap (λ (l : List ℕ). at + length l) y in
        record {
          size = l ∙ g.size;
          few = omega (arith, g.few, x, o, length-drop (get_or list i 0 / 2) s);
          inside = omega arith;
          left = omega (
            arith,
            g.left,
            ap (λ (l : List ℕ). length (all_bytes k h s l)) z,
            length-append (entry_bytes (entry_in k h (drop (get_or list i 0 / 2) s))) (all_bytes k h s (drop (suc i) list)),
            x,
            ap (λ (j : ℕ). length (all_bytes k h s (drop j list))) n,
          );
          same = g.same ∙ ap (λ (l : List ℕ). sets out at (all_bytes k h s l)) z
              ∙ sets_append out at (entry_bytes (entry_in k h (drop (get_or list i 0 / 2) s))) (all_bytes k h s (drop (suc i) list))
              ∙ ap (λ (l : List ℕ). sets l (at + length (entry_bytes (entry_in k h (drop (get_or list i 0 / 2) s)))) (all_bytes k h s (drop (suc i) list))) (sym (w ∙ ap (sets out at) y))
              ∙ ap (λ (j : ℕ). sets after j (all_bytes k h s (drop (suc i) list))) (sym x) ∙ ap (λ (j : ℕ). sets after next (all_bytes k h s (drop j list))) (sym n);
        }
