-- The text of an entry is read back: the record is not refused, it says the entry, and its size is that of the text. Assumes nothing.
use Prim.Native.Nat.{ℕ, zero, suc, ◌+◌, ◌-◌, ◌*◌, ◌/◌, ◌%◌, ◌<◌, ◌≤◌}
use native.Mathlib.Omega.{arith}
use mathlib.Core.Path.{◌≡◌, refl, ap, sym, ◌∙◌}
use mathlib.Core.Logic.{◌⊎◌, inl, inr, ⊎_elim}
use mathlib.Core.Bool.{Bool, true, false}
use mathlib.Core.List.Memᴰ
use mathlib.Core.List.{List, [], ◌∷◌, ◌++◌, append_assoc}
use lib.Dec.{eqb}
use lib.ListN.{length, get_or, take, drop, length-append}
use lib.Seq.{take_at, drop_at, get_or_at, drop-append_seam}
use borrow.Author.Tests.{ne_eqb, le-leb, lt-ltb}
use Rattle.ground.specs.Basics.{pick, ascii, part}
use Rattle.ground.specs.Verdict.{counted}
use Rattle.ground.proofs.Laws.{and_left, and_right, count_free, gate_fine}
use Rattle.output.proofs.Laws.{fitted-fine}
use Rattle.hex_digits.specs.Hex.{digit_of}
use Rattle.mode.specs.Mode.{value_of, sort_of, is_tree}
use Rattle.mode_table.specs.Table.{rows}
use Rattle.entry.specs.Entry.{Entry}
use Rattle.rules.specs.Rules.{is_text, modes_of, group_row, bare_number, git_rules}
use Rattle.rules.proofs.Laws.{number_free}
use Rattle.one_listing.specs.Sound.{Five, SoundEntry}
use Rattle.one_listing.proofs.Present.{plainly}
use Rattle.id_of_hex.specs.Id.{bytes_of}
use Rattle.hex_of_id.specs.Hex.{hex_of, hex_answer}
use Rattle.hex_of_id.specs.Demand.{Bytes}
use Rattle.hex_of_id.proofs.Laws.{hex-length, hex_open}
use Rattle.hex_of_id.proofs.Inverse.{id_back}
use Rattle.tree_text.specs.Text.{sort_word, front_text, record_text}
use Rattle.text_form.specs.Form.{between, within, all_within, all_lower, word_len, front_len, name_from}
use Rattle.text_record.specs.Record.{front_mode, pared, name_end, name_in, id_in, formed, said_number, text_number, entry_in, size_in}

-- ---- digits and word

-- what is read of the front of a mode, whatever comes behind it
pub record FrontRead (k m : ℕ) (t : List ℕ) : Type 0 where
  pub size : front_len (front_text m ++ t) ≡ length (front_text m)
  some : length (front_text m) ≡ 0 → ⊥
  text : is_text (modes_of k) (pared (take 6 (front_text m ++ t))) ≡ true
  mode : front_mode (modes_of k) (front_text m ++ t) ≡ m
  known : m ≡ 0 → ⊥

abbrev Rows : Bool → ℕ → List ℕ → Type 0
Rows u m t =
    (front_len (front_text m ++ t) ≡ length (front_text m)) × (length (front_text m) ≡ 0 → ⊥)
    × (is_text (pick u (group_row ∷ rows) rows) (pared (take 6 (front_text m ++ t))) ≡ true)
    × (front_mode (pick u (group_row ∷ rows) rows) (front_text m ++ t) ≡ m) × (m ≡ 0 → ⊥)

module _ (t : List ℕ) where
  tree-read : (u : Bool) → Rows u 0o40000 t
  unfolding front_text sort_word is_tree sort_of value_of front_len word_len all_within within between pared front_mode rows group_row
  tree-read true = (refl, (λ e. omega arith), refl, refl, (λ e. omega arith))
  tree-read false = (refl, (λ e. omega arith), refl, refl, (λ e. omega arith))

  blob-read : (u : Bool) → Rows u 0o100644 t
  unfolding front_text sort_word is_tree sort_of value_of front_len word_len all_within within between pared front_mode rows group_row
  blob-read true = (refl, (λ e. omega arith), refl, refl, (λ e. omega arith))
  blob-read false = (refl, (λ e. omega arith), refl, refl, (λ e. omega arith))

  exe_read : (u : Bool) → Rows u 0o100755 t
  unfolding front_text sort_word is_tree sort_of value_of front_len word_len all_within within between pared front_mode rows group_row
  exe_read true = (refl, (λ e. omega arith), refl, refl, (λ e. omega arith))
  exe_read false = (refl, (λ e. omega arith), refl, refl, (λ e. omega arith))

  link_read : (u : Bool) → Rows u 0o120000 t
  unfolding front_text sort_word is_tree sort_of value_of front_len word_len all_within within between pared front_mode rows group_row
  link_read true = (refl, (λ e. omega arith), refl, refl, (λ e. omega arith))
  link_read false = (refl, (λ e. omega arith), refl, refl, (λ e. omega arith))

  commit-read : (u : Bool) → Rows u 0o160000 t
  unfolding front_text sort_word is_tree sort_of value_of front_len word_len all_within within between pared front_mode rows group_row
  commit-read true = (refl, (λ e. omega arith), refl, refl, (λ e. omega arith))
  commit-read false = (refl, (λ e. omega arith), refl, refl, (λ e. omega arith))

  group-read : Rows true 0o100664 t
  unfolding front_text sort_word is_tree sort_of value_of front_len word_len all_within within between pared front_mode rows group_row
  group-read = (refl, (λ e. omega arith), refl, refl, (λ e. omega arith))

  five_read : (u : Bool) (m : ℕ) → Five m → Rows u m t
  five_read u m (inl e) = rw e (tree-read u)
  five_read u m (inr (inl e)) = rw e (blob-read u)
  five_read u m (inr (inr (inl e))) = rw e (exe_read u)
  five_read u m (inr (inr (inr (inl e)))) = rw e (link_read u)
  five_read u m (inr (inr (inr (inr e)))) = rw e (commit-read u)

  known_read : (k m : ℕ) → Five m ⊎ ((k ≡ 1) × (m ≡ 0o100664)) → Rows (eqb k 1) m t
  known_read k m (inl f) = five_read (eqb k 1) m f
  known_read k m (inr (o, e)) = rw (o, e) group-read

  pub front_read : (k m : ℕ) → Five m ⊎ ((k ≡ 1) × (m ≡ 0o100664)) → FrontRead k m t
  front_read k m w = let r = known_read k m w in record { size = r.0; some = r.1; text = r.2; mode = r.3; known = r.4 }

-- ---- digits of an id

digit_among : (l : List ℕ) → all_lower l ≡ true → (x : ℕ) → x < length l → within 48 57 97 102 (get_or l x 0) ≡ true
unfolding all_within
digit_among [] a x p = absurd (omega arith)
digit_among (y ∷ l) a zero p = and_left (within 48 57 97 102 y) (all_lower l) a
digit_among (y ∷ l) a (suc x) p = digit_among l (and_right (within 48 57 97 102 y) (all_lower l) a) x (omega arith)

digit_low : (x : ℕ) → x < 16 → within 48 57 97 102 (digit_of x) ≡ true
unfolding digit_of all_within within between
digit_low x p = digit_among (ascii "0123456789abcdef") refl x p

all-lower : (id : List ℕ) → Bytes id → all_lower (hex_of id) ≡ true
unfolding hex_of all_within
all-lower [] f = refl
all-lower (b ∷ bs) f = rw (digit_low (b / 16) (omega (arith, f.0)), digit_low (b % 16) (omega arith)) (all-lower bs f.1)

pub bytes-again : (id : List ℕ) → Bytes id → (length id ≡ 20) ⊎ (length id ≡ 32) → bytes_of (hex_of id) ≡ id
bytes-again id f i =
    let small : length id ≤ 32 = ⊎_elim (λ e. omega arith) (λ e. omega arith) i in
    let done : hex_answer id 64 ≡ counted (2 * length id) =
    hex_open id 64 (gate_fine (length id) 64 0 i (omega arith) (omega arith)) ∙ fitted-fine 64 (counted (2 * length id)) refl (omega arith) in
    (id_back id 64 (2 * length id) 64 f done (omega arith) (omega arith)).3

-- ---- the record

pub joined : (a d n r : List ℕ) → (a ++ (d ++ 9 ∷ []) ++ (n ++ 0 ∷ [])) ++ r ≡ a ++ (d ++ 9 ∷ (n ++ 0 ∷ r))
joined a d n r = simp append_assoc

parted : (a d n r : List ℕ) → a ++ (d ++ 9 ∷ (n ++ 0 ∷ r)) ≡ (a ++ (d ++ 9 ∷ [])) ++ (n ++ 0 ∷ r)
parted a d n r = simp append_assoc

tabbed : (a d n r : List ℕ) → a ++ (d ++ 9 ∷ (n ++ 0 ∷ r)) ≡ (a ++ d) ++ 9 ∷ (n ++ 0 ∷ r)
tabbed a d n r = sym (append_assoc a d (9 ∷ (n ++ 0 ∷ r)))

module _ (k h : ℕ) (i : (h ≡ 20) ⊎ (h ≡ 32)) (e : Entry) (s : SoundEntry k h e) (f : Bytes e.id) (r : List ℕ) where
  -- the record with what comes behind it, by its parts
  abbrev text : List ℕ
  text = front_text e.mode ++ (hex_of e.id ++ 9 ∷ (e.name ++ 0 ∷ r))

  abbrev start : ℕ
  start = length (front_text e.mode) + 2 * h + 1

  whole : record_text e ++ r ≡ text
  unfolding record_text
  whole = joined (front_text e.mode) (hex_of e.id) e.name r

  read : FrontRead k e.mode (hex_of e.id ++ 9 ∷ (e.name ++ 0 ∷ r))
  read = front_read (hex_of e.id ++ 9 ∷ (e.name ++ 0 ∷ r)) k e.mode s.mode

  digits_long : length (hex_of e.id) ≡ 2 * h
  digits_long = omega (arith, hex-length e.id, s.sized)

  few : h ≤ 32
  few = ⊎_elim (λ z. omega arith) (λ z. omega arith) i

  tab : get_or text (length (front_text e.mode) + 2 * h) 0 ≡ 9
  tab =
      rw (tabbed (front_text e.mode) (hex_of e.id) e.name r)
      (get_or_at (front_text e.mode ++ hex_of e.id) 9 (e.name ++ 0 ∷ r) 0 (length (front_text e.mode) + 2 * h)
      (omega (arith, length-append (front_text e.mode) (hex_of e.id), digits_long)))

  digits : (m : ℕ) → m ≡ 2 * h → take m (drop (length (front_text e.mode)) text) ≡ hex_of e.id
  digits m z =
      ap (take m) (drop-append_seam (front_text e.mode) (hex_of e.id ++ 9 ∷ (e.name ++ 0 ∷ r)))
      ∙ take_at (hex_of e.id) (9 ∷ (e.name ++ 0 ∷ r)) m (omega (arith, digits_long))

  lowers : all_lower (part (length (front_text e.mode)) (length (front_text e.mode) + 2 * h) text) ≡ true
  lowers = ap (λ (l : List ℕ). all_lower l) (digits (length (front_text e.mode) + 2 * h - length (front_text e.mode)) (omega arith)) ∙ all-lower e.id f

  from : name_from h text ≡ start
  unfolding name_from
  from = rw (le-leb h 32 few, read.size, ne_eqb (length (front_text e.mode)) 0 read.some, tab, lowers) refl

  behind : drop start text ≡ e.name ++ 0 ∷ r
  behind =
      ap (drop start) (parted (front_text e.mode) (hex_of e.id) e.name r)
      ∙ drop_at (front_text e.mode ++ (hex_of e.id ++ 9 ∷ [])) (e.name ++ 0 ∷ r) start
      (omega (arith, length-append (front_text e.mode) (hex_of e.id ++ 9 ∷ []), length-append (hex_of e.id) (9 ∷ []), digits_long))

  ends : name_end h text ≡ start + length e.name
  unfolding name_end
  ends = rw (from, behind, count_free 0 e.name r s.nulless) refl

  named : name_in h text ≡ e.name
  unfolding name_in
  named =
      let z : start + length e.name - start ≡ length e.name = omega arith in
      rw (from, ends, behind) (take_at e.name (0 ∷ r) (start + length e.name - start) (sym z))

  said-id : id_in h text ≡ e.id
  unfolding id_in
  said-id =
      let z : start - 1 - 2 * h ≡ length (front_text e.mode) = omega arith in
      let y : start - 1 - length (front_text e.mode) ≡ 2 * h = omega arith in
      let x = bytes-again e.id f (⊎_elim (λ w. inl (s.sized ∙ w)) (λ w. inr (s.sized ∙ w)) i) in
      rw (from, z) (ap bytes_of (digits (start - 1 - length (front_text e.mode)) y) ∙ x)

  long : length text ≡ start + length e.name + 1 + length r
  long =
      let a = length-append (front_text e.mode) (hex_of e.id ++ 9 ∷ (e.name ++ 0 ∷ r)) in
      let d = length-append (hex_of e.id) (9 ∷ (e.name ++ 0 ∷ r)) in
      omega (arith, a, d, length-append e.name (0 ∷ r), digits_long)

  stands : formed h text ≡ true
  unfolding formed
  stands = rw (from, ends, lt-ltb 0 start (omega arith)) (lt-ltb (start + length e.name) (length text) (omega (arith, long)))

  bare : bare_number e.name ≡ 0
  unfolding git_rules
  bare = number_free e.name s.nulless ∙ ((plainly k h (e ∷ [])).0 ((s, tt), tt, ((λ b m q. Memᴰ.not-nil m), tt))).0.named

  numbered : text_number k h text ≡ 0
  unfolding text_number said_number
  numbered = rw (stands, named, read.text, read.mode, ne_eqb e.mode 0 read.known) bare

  says : entry_in k h text ≡ e
  unfolding entry_in
  says = rw (read.mode, named, said-id) refl

  goes : drop (size_in h text) text ≡ r
  unfolding size_in
  goes =
      ap (λ (n : ℕ). drop (n + 1) text) ends ∙ ap (drop (start + length e.name + 1)) (sym whole)
      ∙ drop_at (record_text e) r (start + length e.name + 1) (omega (arith, long, ap length whole, length-append (record_text e) r))

  -- not refused; it says the entry; and behind it comes what came behind it
  pub record_back : (text_number k h (record_text e ++ r) ≡ 0) × (entry_in k h (record_text e ++ r) ≡ e)
      × (drop (size_in h (record_text e ++ r)) (record_text e ++ r) ≡ r)
  record_back = rw whole (numbered, says, goes)

  -- and it is not empty
  pub record_some : 0 < length (record_text e ++ r)
  record_some = omega (arith, ap length whole, long)
