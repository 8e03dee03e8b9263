-- Laws of texts that are stored piece by piece. Assumes nothing.
use Prim.Native.Nat.{ℕ, ◌+◌, ◌-◌, ◌*◌, ◌/◌, ◌%◌, ◌<◌, ◌≤◌}
use native.Mathlib.Nat.{add-zero}
use native.Mathlib.Numerals.{add-one}
use native.Mathlib.Omega.{arith}
use mathlib.Core.Path.{◌≡◌, refl, ap, sym, ◌∙◌}
use mathlib.Core.List.{List, [], ◌∷◌, ◌++◌}
use lib.Dec.{eqb}
use borrow.Author.Tests.{ne_eqb}
use Rattle.ground.specs.Verdict.{id_length}
use lib.ListN.{length, get_or, take, drop, length-append, length-take, length-drop, drop_of_length-le}
use lib.Seq.{sets, drop-cons, take_all, take-nil}
use Rattle.ground.proofs.Laws.{sets_append, part-from}
use Rattle.mode.specs.Mode.{kind_of}
use Rattle.mode_text.specs.Write.{mode_text}
use Rattle.mode.specs.Mode.{word_of}
use Rattle.mode_table.specs.Table.{written_of, row_at, rows}
use Rattle.mode_text.specs.Write.{shown}
use Rattle.mode_text.specs.declared.ShortText.{ShortText}
use Rattle.mode_table.specs.declared.EntryKind.{EntryKind}
use Rattle.mode_table.specs.declared.EntryKind.TheVariants.{Tree, Blob, BlobExecutable, Link, Commit}
use Rattle.mode_text.proofs.Laws.{mode_le, text-is}
use Rattle.entry.specs.Record.{many, no_record, records_of, name_of, id_of}
use Rattle.entry.specs.declared.EntryRecord.{EntryRecord}
use Rattle.entry.proofs.Laws.{records-many}
use Rattle.listing_text.specs.Text.{space, lf, mode_words, line, lines}
use Rattle.hex_digits.specs.Hex.{digit_of}
use Rattle.hex_of_id.specs.Hex.{hex_of}
use Rattle.hex_of_id.proofs.Laws.{hex-more, hex-length}
use Rattle.listing_text.specs.Code.{Added}

-- ---- the length of ids

pub not_short : (h : ℕ) → (h ≡ 20 → ⊥) → eqb h 32 ≡ id_length h
unfolding id_length
not_short h n = rw (ne_eqb h 20 n) refl

-- ---- one piece after another

pub added_then : {out a b : List ℕ} {at p q : ℕ} {t u : List ℕ} → Added out at t a p → Added a p u b q → Added out at (t ++ u) b q
added_then {out} {a} {b} {at} {p} {q} {t} {u} x y = record {
  place = rw (length-append t u) (omega (arith, x.place, y.place));
  stores = y.stores ∙ rw (x.place, x.stores) (sym (sets_append out at t u));
}

pub added_is : {out a : List ℕ} {at p : ℕ} {t : List ℕ} (u : List ℕ) → t ≡ u → Added out at t a p → Added out at u a p
added_is u e x = rw e at x

-- what is still to be stored of a whole
pub record Rest (out : List ℕ) (at : ℕ) (whole now : List ℕ) (p : ℕ) (rest : List ℕ) : Type 0 where
  pub left : at + length whole ≡ p + length rest
  pub same : sets out at whole ≡ sets now p rest

pub rest_all : (out : List ℕ) (at : ℕ) (whole : List ℕ) → Rest out at whole out at whole
rest_all out at whole = record { left = refl; same = refl }

pub rest-turn : {out now new : List ℕ} {at p q : ℕ} {whole old piece : List ℕ} (rest : List ℕ) → Rest out at whole now p old → old ≡ piece ++ rest
    → Added now p piece new q → Rest out at whole new q rest
rest-turn {out} {now} {new} {at} {p} {q} {whole} {old} {piece} rest x e y = record {
  left = x.left ∙ rw (e, length-append piece rest) (omega (arith, y.place));
  same = x.same ∙ rw (e, sets_append now p piece rest, y.place, y.stores) refl;
}

pub rest-none : {out now : List ℕ} {at p : ℕ} {whole old : List ℕ} → Rest out at whole now p old → old ≡ [] → Added out at whole now p
rest-none {out} {now} {at} {p} {whole} {old} x e = record {
  place = sym (x.left ∙ rw e (add-zero p));
  stores = sym (x.same ∙ rw e refl);
}

-- ---- a part of some bytes

pub piece_is : (s r : List ℕ) (from n : ℕ) → r ≡ take n (drop from s) → (r ≡ take n (drop from s)) × (length r ≤ n) × (length r ≤ length s)
piece_is s r from n e = (e, rw e (simp (length-take, length-drop) (omega arith)), rw e (simp (length-take, length-drop) (omega arith)))

pub piece-none : (s : List ℕ) (from n : ℕ) → length s ≤ from → [] ≡ take n (drop from s)
piece-none s from n p = rw (drop_of_length-le s {i = from} p) (sym (take-nil n))

pub piece-rest : (s : List ℕ) (from n : ℕ) → length s - from < n → take (length s - from) (drop from s) ≡ take n (drop from s)
piece-rest s from n p = part-from s from ∙ sym (take_all n (drop from s) (rw (length-drop from s) (omega arith)))

pub piece-whole : (s : List ℕ) (from n : ℕ) → take (from + n - from) (drop from s) ≡ take n (drop from s)
piece-whole s from n = let z : from + n - from ≡ n = omega arith in rw z refl

-- ---- hex

pub hex-turn : {out now new whole : List ℕ} {at p q x y : ℕ} (bytes : List ℕ) (i : ℕ) → i < length bytes → get_or bytes i 0 < 256
    → Rest out at whole now p (hex_of (drop i bytes)) → x ≡ digit_of (get_or bytes i 0 / 16 % 16) → y ≡ digit_of (get_or bytes i 0 % 16)
    → Added now p (x ∷ y ∷ []) new q → Rest out at whole new q (hex_of (drop (i + 1) bytes))
hex-turn {x = x} bytes i l f r a b e =
    let z : get_or bytes i 0 / 16 ≡ get_or bytes i 0 / 16 % 16 = omega (arith, f) in
    let rest : List ℕ = hex_of (drop (i + 1) bytes) in
    let one = ap (λ (k : ℕ). k ∷ digit_of (get_or bytes i 0 % 16) ∷ rest) (ap digit_of z ∙ sym a) in
    let two = ap (λ (k : ℕ). x ∷ k ∷ rest) (sym b) in
    rest-turn rest r (hex-more bytes i l ∙ one ∙ two) e

-- ---- a line

word_le : (m : ℕ) → length (shown (word_of m)) ≤ 6
unfolding word_of written_of row_at rows
word_le m = go (kind_of m)
  where
    go : (k : EntryKind) → length (shown (written_of k).word) ≤ 6
    go Tree = omega arith
    go Blob = omega arith
    go BlobExecutable = omega arith
    go Link = omega arith
    go Commit = omega arith

pub mode-said : (m : ℕ) (t w : ShortText) (a b : List ℕ) → t ≡ mode_text (m % 65536) → w ≡ word_of (m % 65536) → a ≡ take t.len t.bytes
    → b ≡ take w.len w.bytes → a ++ space ++ b ++ space ≡ mode_words m
unfolding mode_words
mode-said m t w a b p q x y = rw (x ∙ (text-is t (m % 65536) p).2, y, q) refl

pub text-most : (m : ℕ) {t : ShortText} → t ≡ mode_text (m % 65536) → t.len ≤ 6
text-most m {t} e = omega (arith, (text-is t (m % 65536) e).0, mode_le (m % 65536))

pub word-most : (m : ℕ) {w : ShortText} → w ≡ word_of (m % 65536) → w.len ≤ 6
unfolding word_of written_of row_at rows
word-most m {w} e = rw e (go (kind_of (m % 65536)))
  where
    go : (k : EntryKind) → (written_of k).word.len ≤ 6
    go Tree = omega arith
    go Blob = omega arith
    go BlobExecutable = omega arith
    go Link = omega arith
    go Commit = omega arith

pub mode-most : (m : ℕ) → length (mode_words m) ≤ 14
unfolding mode_words
mode-most m = simp length-append (omega (arith, mode_le (m % 65536), word_le (m % 65536)))

name_le : (s : List ℕ) (e : EntryRecord) → length (name_of s e) ≤ length s
unfolding name_of
name_le s e = simp (length-take, length-drop) (omega arith)

pub id-le : (h : ℕ) (s : List ℕ) (e : EntryRecord) → length (id_of h s e) ≤ h
unfolding id_of
id-le h s e = simp (length-take, length-drop) (omega arith)

pub line-most : (h : ℕ) (s : List ℕ) (e : EntryRecord) → length (line h s e) ≤ 16 + h * 2 + length s
unfolding line
line-most h s e = simp length-append (omega (arith, mode-most e.mode, hex-length (id_of h s e), id-le h s e, name_le s e))

pub line-said : (h : ℕ) (s : List ℕ) (e : EntryRecord) (id name : List ℕ) (n : ℕ) → n ≡ e.name_end - e.name_start → id ≡ take h (drop e.id_start s)
    → name ≡ take n (drop e.name_start s) → mode_words e.mode ++ hex_of id ++ space ++ name ++ lf ≡ line h s e
unfolding line name_of id_of
line-said h s e id name n m x y = rw (x, y, m) refl

-- ---- the lent records, one by one

module _ (h : ℕ) (s records : List ℕ) (i : ℕ) where
  pub lines_more : i < many (length records)
      → lines h s (drop i (records_of records)) ≡ line h s (get_or (records_of records) i no_record) ++ lines h s (drop (i + 1) (records_of records))
  unfolding lines
  lines_more p = rw (add-one i, drop-cons (records_of records) i no_record (rw (records-many records) p)) refl

  pub lines-turn : {out now new whole : List ℕ} {at p q : ℕ} {e : EntryRecord} → i < many (length records) → e ≡ get_or (records_of records) i no_record
      → Rest out at whole now p (lines h s (drop i (records_of records))) → Added now p (line h s e) new q
      → Rest out at whole new q (lines h s (drop (i + 1) (records_of records)))
  lines-turn l k r a = rest-turn (lines h s (drop (i + 1) (records_of records))) r (lines_more l ∙ rw k refl) a

  pub lines_end : many (length records) ≤ i → lines h s (drop i (records_of records)) ≡ []
  unfolding lines
  lines_end p = rw (drop_of_length-le (records_of records) {i = i} (rw (records-many records) p)) refl
