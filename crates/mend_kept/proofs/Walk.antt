-- The walks over an object, turn by turn: elements gathered, and what is done to each entry stored. Assumes nothing.
use Prim.Native.Nat.{ℕ, zero, suc, ◌+◌, ◌-◌, ◌*◌, ◌/◌, ◌%◌, ◌<◌, ◌≤◌}
use native.Mathlib.Numerals.{add-one}
use native.Mathlib.Omega.{arith}
use mathlib.Core.Path.{◌≡◌, refl, ap, sym, ◌∙◌}
use mathlib.Core.Bool.{Bool, true, false, ◌&&◌}
use mathlib.Core.List.{List, [], ◌∷◌, ◌++◌}
use lib.Dec.{eqb, ltb}
use lib.ListN.{length, get_or, take, drop, set, length-set, length-drop}
use lib.Seq.{sets, drop-drop}
use borrow.Author.Tests.{lt-ltb, le-ltb, eq-eqb, ne_eqb}
use Rattle.ground.specs.Basics.{pick}
use Rattle.ground.specs.Scan.{count_to}
use Rattle.ground.specs.Verdict.{most_records}
use Rattle.ground.proofs.Laws.{get_d_any}
use Rattle.mode_round.proofs.Space.{read_count}
use Rattle.entry.specs.Record.{name_of, folder_of}
use Rattle.entry.specs.Decode.{decode}
use Rattle.entry.specs.declared.EntryRecord.{EntryRecord}
use Rattle.entry.specs.declared.Cursor.{Cursor}
use Rattle.entry.proofs.Laws.{Parts, decode-inside, decode-parts}
use Rattle.reading.specs.Listing.{listing, records_in}
use Rattle.reading.proofs.Laws.{rest_at, rest_end, whole_here}
use Rattle.strict.specs.Strict.{text_of}
use Rattle.strict.proofs.Strictly.{decoded_within}
use Rattle.keys.specs.Key.{past_mark, cut_to, name_at, folder, slash, key_at}
use Rattle.rules.specs.Rules.{bare_number}
use Rattle.fate.specs.Fate.{stays_mode, own_text, fate_of}
use Rattle.mend_kept.specs.Code.{Inside, chosen, element_of, elements, earlier, code_fate, code_fates, kept_size, code_size}
use Rattle.std.specs.Prelude.{Ok}

get_d_out : (l : List ℕ) (n : ℕ) → length l ≤ n → get_or l n 2 ≡ 2
get_d_out [] n p = refl
get_d_out (x ∷ l) zero p = absurd (omega arith)
get_d_out (x ∷ l) (suc n) p = get_d_out l n (omega arith)

-- ---- the records from a place on

module _ (h : ℕ) (s : List ℕ) (at n : ℕ) where
  abbrev pub here : List EntryRecord
  here = records_in (rest_at h s at n)

  pub here_end : length s ≤ at → records_in (rest_at h s at n) ≡ []
  unfolding records_in
  here_end p = ap records_in (rest_end h s at n p)

  pub here-whole : n < most_records → (e : EntryRecord) (next : Cursor) → decode h at (drop at s) ≡ Ok (e, next)
      → records_in (rest_at h s at n) ≡ e ∷ records_in (rest_at h s next.at (n + 1))
  unfolding records_in
  here-whole f e next d = ap records_in (whole_here h s at n f d)

-- ---- a decoded entry

module _ (h : ℕ) (s : List ℕ) (at : ℕ) (e : EntryRecord) (next : Cursor) (d : decode h at (drop at s) ≡ Ok (e, next)) where
  pub decoded_inside : Inside (length s) e
  decoded_inside =
      let w = decoded_within h s at e next d in
      let i = decode-inside h s at e next d in
      (omega (arith, i.5), w.1, w.2)

  pub decoded_place : (e.text_start ≡ at) × (at < length s) × (at < next.at) × (next.at ≤ length s)
  decoded_place =
      let w = decoded_within h s at e next d in
      let i = decode-inside h s at e next d in
      (i.5, omega arith, omega arith, i.4)

  pub decoded_size : (e.name_start ≤ e.id_start) × (e.id_start ≤ length s) × (e.id_start + h - e.name_start ≤ next.at - at)
      × (e.id_start + h ≡ next.at)
  decoded_size =
      let w = decoded_within h s at e next d in
      let i = decode-inside h s at e next d in
      (omega arith, omega arith, omega arith, omega arith)

  -- the key of its element is its name, with a slash where it counts as a folder
  module _ (long : 20 ≤ h) (second : Bool) where
    half : element_of second e / 2 ≡ at
    unfolding element_of
    half = go (second && folder_of e)
      where
        go : (b : Bool) → (e.text_start * 2 + pick b 1 0) / 2 ≡ at
        go true = omega (arith, (decode-inside h s at e next d).5)
        go false = omega (arith, (decode-inside h s at e next d).5)

    odd : folder (element_of second e) ≡ (second && folder_of e)
    unfolding element_of
    odd = go (second && folder_of e)
      where
        go : (b : Bool) → eqb ((e.text_start * 2 + pick b 1 0) % 2) 1 ≡ b
        go true = eq-eqb ((e.text_start * 2 + 1) % 2) 1 (omega arith)
        go false = ne_eqb ((e.text_start * 2 + 0) % 2) 1 (omega arith)

    parts : Parts h at (drop at s) e next
    parts = decode-parts h at (drop at s) e next d

    start_is : e.name_start ≡ at + parts.size
    start_is = ap (λ (x : EntryRecord). x.name_start) parts.laid

    past : suc (count_to 32 (drop at s)) ≡ parts.size
    past =
        let i = decode-inside h s at e next d in
        let p = parts in
        omega (arith, read_count (drop at s) e.mode p.size p.reads (omega (arith, p.inside, length-drop p.size (drop at s))))

    named : take (count_to 0 (drop parts.size (drop at s))) (drop parts.size (drop at s)) ≡ name_of s e
    unfolding name_of
    named =
        let n : ℕ = count_to 0 (drop parts.size (drop at s)) in
        let b : e.name_end ≡ at + parts.size + n = ap (λ (x : EntryRecord). x.name_end) parts.laid in
        let k : e.name_end - e.name_start ≡ n = omega (arith, start_is) in
        let t : drop e.name_start s ≡ drop parts.size (drop at s) = ap (λ (i : ℕ). drop i s) start_is ∙ sym (drop-drop parts.size at s) in
        rw (k, t) refl

    pub element_key : key_at s 32 0 (element_of second e) ≡ name_of s e ++ slash (second && folder_of e)
    unfolding key_at name_at past_mark cut_to
    element_key = rw (half, past, odd) (ap (λ (l : List ℕ). l ++ slash (second && folder_of e)) named)

    pub element_whole : decode h (element_of second e / 2) (drop (element_of second e / 2) s) ≡ Ok (e, next)
    element_whole = rw half d

-- ---- the leaves

module _ (s fates : List ℕ) (second : Bool) (n : ℕ) (e : EntryRecord) where
  pub chosen_in : second ≡ true → n < length fates → ltb (get_or fates n 0) 2 ≡ chosen second s fates n e
  unfolding chosen
  chosen_in q p = rw (q, get_d_any fates n 2 0 p) refl

  pub chosen-out : second ≡ true → length fates ≤ n → false ≡ chosen second s fates n e
  unfolding chosen
  chosen-out q p = rw (q, get_d_out fates n p) refl

  pub chosen-first : second ≡ false → (eqb (bare_number (take (e.name_end - e.name_start) (drop e.name_start s))) 0 && stays_mode e.mode) ≡ chosen second s fates n e
  unfolding chosen name_of
  chosen-first q = rw q refl

module _ (second : Bool) (e : EntryRecord) where
  pub element_folder : second ≡ true → folder_of e ≡ true → e.text_start * 2 + 1 ≡ element_of second e
  unfolding element_of
  element_folder q p = rw (q, p) refl

  pub element_file : second ≡ true → folder_of e ≡ false → e.text_start * 2 ≡ element_of second e
  unfolding element_of
  element_file q p = rw (q, p) (omega arith)

  pub element_plain : second ≡ false → e.text_start * 2 ≡ element_of second e
  unfolding element_of
  element_plain q = rw q (omega arith)

module _ (taken : Bool) (list : List ℕ) (m x : ℕ) where
  pub push_stored : taken ≡ true → (m + 1 ≡ pick taken (m + 1) m) × (set list m x ≡ pick taken (set list m x) list)
  push_stored q = (rw q refl, rw q refl)

  pub push_none : taken ≡ false → (m ≡ pick taken (m + 1) m) × (list ≡ pick taken (set list m x) list)
  push_none q = (rw q refl, rw q refl)

module _ (h fate : ℕ) (e : EntryRecord) where
  pub size-kept-is : fate < 2 → (n : ℕ) → n ≡ length (own_text e.mode) → n + 1 + (e.id_start + h - e.name_start) ≡ kept_size h fate e
  unfolding kept_size
  size-kept-is p n q = rw (lt-ltb fate 2 p, q) refl

  pub size-none-is : 2 ≤ fate → 0 ≡ kept_size h fate e
  unfolding kept_size
  size-none-is p = rw (le-ltb fate 2 p) refl

-- ---- gathering

pub record Gathering (second : Bool) (h : ℕ) (s fates list₀ list : List ℕ) (at n m : ℕ) : Type 0 where
  pub size : length list ≡ length list₀
  pub few : m ≤ n
  pub total : length (elements second s fates 0 (records_in (listing h s))) ≡ m + length (elements second s fates n (records_in (rest_at h s at n)))
  pub same : sets list₀ 0 (elements second s fates 0 (records_in (listing h s))) ≡ sets list m (elements second s fates n (records_in (rest_at h s at n)))

pub gathering_start : (second : Bool) (h : ℕ) (s fates list : List ℕ) → Gathering second h s fates list list 0 0 0
gathering_start second h s fates list = record { size = refl; few = omega arith; total = omega arith; same = refl }

module _ (second : Bool) (h : ℕ) (s fates list₀ list : List ℕ) (at n m : ℕ) (g : Gathering second h s fates list₀ list at n m) where
  pub gathering_end : records_in (rest_at h s at n) ≡ []
      → (m ≡ length (elements second s fates 0 (records_in (listing h s)))) × (list ≡ sets list₀ 0 (elements second s fates 0 (records_in (listing h s))))
  unfolding elements
  gathering_end q =
      let t : length (elements second s fates n (records_in (rest_at h s at n))) ≡ 0 = ap (λ (l : List EntryRecord). length (elements second s fates n l)) q in
      (omega (arith, g.total), sym (g.same ∙ ap (λ (l : List EntryRecord). sets list m (elements second s fates n l)) q))

  pub gathering_turn : (e : EntryRecord) (next : Cursor) → n < most_records → decode h at (drop at s) ≡ Ok (e, next)
      → (taken : Bool) → taken ≡ chosen second s fates n e → (x : ℕ) → x ≡ element_of second e → (k : ℕ) → k ≡ pick taken (m + 1) m
      → (after : List ℕ) → after ≡ pick taken (set list m x) list → Gathering second h s fates list₀ after next.at (n + 1) k
  unfolding elements
  gathering_turn e next f d taken t x p k q after w = go taken t k q after w
    where
      rest : List ℕ
      rest = elements second s fates (n + 1) (records_in (rest_at h s next.at (n + 1)))

      on : elements second s fates n (records_in (rest_at h s at n)) ≡ pick (chosen second s fates n e) (element_of second e ∷ elements second s fates (n + 1) (records_in (rest_at h s next.at (n + 1)))) (elements second s fates (n + 1) (records_in (rest_at h s next.at (n + 1))))
      on = ap (elements second s fates n) (here-whole h s at n f e next d)

      go : (b : Bool) → b ≡ chosen second s fates n e → (k : ℕ) → k ≡ pick b (m + 1) m → (after : List ℕ) → after ≡ pick b (set list m x) list
          → Gathering second h s fates list₀ after next.at (n + 1) k
      go true t k q after w =
          let z : elements second s fates n (records_in (rest_at h s at n)) ≡ element_of second e ∷ elements second s fates (n + 1) (records_in (rest_at h s next.at (n + 1))) = on ∙ rw (← t) in
          let y : suc m ≡ k = omega (arith, q) in
          record {
            size = rw w (length-set list m x ∙ g.size);
            few = omega (arith, q, g.few);
            total = omega (arith, g.total, ap length z, q);
            same = g.same ∙ ap (sets list m) z ∙ rw (w, p, ← y);
          }
      go false t k q after w =
          let z : elements second s fates n (records_in (rest_at h s at n)) ≡ elements second s fates (n + 1) (records_in (rest_at h s next.at (n + 1))) = on ∙ rw (← t) in
          record {
            size = rw w g.size;
            few = omega (arith, q, g.few);
            total = g.total ∙ rw (z, q);
            same = g.same ∙ ap (sets list m) z ∙ rw (w, q);
          }

-- ---- what is done to each entry

pub record Settling (h : ℕ) (s list fates₀ fates : List ℕ) (at n size : ℕ) : Type 0 where
  pub long : length fates ≡ length fates₀
  pub few : size ≤ at + n * 7
  pub inside : at ≤ length s
  pub total : code_size h s list (records_in (listing h s)) ≡ size + code_size h s list (records_in (rest_at h s at n))
  pub same : sets fates₀ 0 (code_fates s list (records_in (listing h s))) ≡ sets fates n (code_fates s list (records_in (rest_at h s at n)))

pub settling_start : (h : ℕ) (s list fates : List ℕ) → Settling h s list fates fates 0 0 0
settling_start h s list fates = record { long = refl; few = omega arith; inside = omega arith; total = omega arith; same = refl }

own_le : (h fate : ℕ) (e : EntryRecord) → length (own_text e.mode) ≤ 6 → kept_size h fate e ≤ 7 + (e.id_start + h - e.name_start)
unfolding kept_size
own_le h fate e p = go (ltb fate 2)
  where
    go : (b : Bool) → pick b (length (own_text e.mode) + 1 + (e.id_start + h - e.name_start)) 0 ≤ 7 + (e.id_start + h - e.name_start)
    go true = omega arith
    go false = omega arith

module _ (h : ℕ) (s list fates₀ fates : List ℕ) (at n size : ℕ) (g : Settling h s list fates₀ fates at n size) where
  pub settling_end : records_in (rest_at h s at n) ≡ []
      → (size ≡ code_size h s list (records_in (listing h s))) × (fates ≡ sets fates₀ 0 (code_fates s list (records_in (listing h s))))
  unfolding code_size code_fates
  settling_end q =
      let t : code_size h s list (records_in (rest_at h s at n)) ≡ 0 = ap (code_size h s list) q in
      (omega (arith, g.total), sym (g.same ∙ ap (λ (l : List EntryRecord). sets fates n (code_fates s list l)) q))

  module _ (e : EntryRecord) (next : Cursor) (f : n < most_records) (d : decode h at (drop at s) ≡ Ok (e, next)) (fate : ℕ) (t : fate ≡ code_fate s list e)
      (o : length (own_text e.mode) ≤ 6) where
    pub settling_room : size + kept_size h fate e ≤ next.at + (n + 1) * 7
    settling_room =
        let w = decoded_size h s at e next d in
        let v = decoded_place h s at e next d in
        omega (arith, own_le h fate e o, g.few)

    pub settling_turn : (after : List ℕ) → after ≡ set fates n fate → (sum : ℕ) → sum ≡ size + kept_size h fate e
        → Settling h s list fates₀ after next.at (n + 1) sum
    unfolding code_size code_fates
    settling_turn after w sum q =
        let v = decoded_place h s at e next d in
        let on = here-whole h s at n f e next d in
        let a : code_size h s list (records_in (rest_at h s at n)) ≡ kept_size h (code_fate s list e) e + code_size h s list (records_in (rest_at h s next.at (n + 1))) = ap (code_size h s list) on in
        let b : code_fates s list (records_in (rest_at h s at n)) ≡ code_fate s list e ∷ code_fates s list (records_in (rest_at h s next.at (n + 1))) = ap (code_fates s list) on in
        let c : kept_size h fate e ≡ kept_size h (code_fate s list e) e = rw t refl in
        record {
          long = rw w (length-set fates n fate ∙ g.long);
          few = omega (arith, q, settling_room);
          inside = v.3;
          total = omega (arith, g.total, a, c, q);
          same = g.same ∙ ap (sets fates n) b ∙ rw (w, t, add-one n);
        }

pub sum_is : (size k : ℕ) {j : ℕ} → k ≡ j → size + k ≡ size + j
sum_is size k q = ap (λ (i : ℕ). size + i) q

-- ---- what is done to one entry

pub key_is-name : (s : List ℕ) (x : ℕ) (e : EntryRecord) → x ≡ element_of false e → key_at s 32 0 (element_of false e) ≡ name_of s e
    → key_at s 32 0 x ≡ take (e.name_end - e.name_start) (drop e.name_start s)
unfolding name_of
key_is-name s x e q k = ap (key_at s 32 0) q ∙ k

pub fate_is : (s list : List ℕ) (e : EntryRecord) (x r : ℕ) (before : Bool) → x ≡ element_of false e → before ≡ earlier (key_at s 32 0) list x
    → r ≡ fate_of (bare_number (take (e.name_end - e.name_start) (drop e.name_start s))) e.mode before (take (e.name_start - 1 - e.text_start) (drop e.text_start s))
    → r ≡ code_fate s list e
unfolding code_fate name_of text_of
fate_is s list e x r before q b w = w ∙ rw (b, q) refl
