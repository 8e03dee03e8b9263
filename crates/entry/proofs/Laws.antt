-- Laws of records, of one entry's decoding and of the cursor's step. Assumes nothing.
use Prim.Native.Nat.{ℕ, zero, suc, ◌+◌, ◌-◌, ◌*◌, ◌%◌, ◌<◌, ◌≤◌}
use native.Mathlib.Omega.{arith}
use mathlib.Core.Path.{◌≡◌, refl, ap, sym, ◌∙◌}
use mathlib.Core.Bool.{Bool, true, false}
use mathlib.Core.List.{List, [], ◌∷◌}
use lib.Dec.{eqb, leb}
use lib.ListN.{length, get_or, take, drop, set, length-drop}
use lib.Seq.{drop-drop}
use borrow.Author.Tests.{eq-eqb, ne_eqb, lt-ltb, le-ltb, le-leb, lt-leb, leb-true}
use Rattle.ground.specs.Basics.{pick}
use Rattle.ground.specs.Scan.{count_to, place_from}
use Rattle.ground.specs.Verdict.{fine, broken, is_part, gate_of}
use Rattle.ground.proofs.Laws.{and_left, and_right, place-within, same_test}
use Rattle.ground.specs.declared.Verdict.{Verdict}
use Rattle.mode.specs.Mode.{top_bits, value_of, sort_of, is_tree}
use Rattle.mode.specs.Read.{read_mode, read_mode_at, moved}
use Rattle.mode.proofs.Laws.{read_next}
use Rattle.mode.specs.declared.EntryMode.{EntryMode}
use Rattle.entry.specs.Record.{width, many, no_record, records_of, put_record, well_formed}
use Rattle.entry.specs.Decode.{broken_at, short_part, record_at, decode, decode_mode, decode_name, no_entry, step_over, step_from, step_of}
use Rattle.entry.specs.declared.EntryRecord.{EntryRecord}
use Rattle.entry.specs.declared.Cursor.{Cursor}
use Rattle.std.specs.Prelude.{Err, None, Ok, Option, Some}
use Rattle.ground.proofs.Pairs.{some_parts, ok_parts}

-- ---- records in flat numbers

pub records-many : (l : List ℕ) → length (records_of l) ≡ many (length l)
unfolding records_of
records-many [] = omega arith
records-many (m ∷ []) = omega arith
records-many (m ∷ s ∷ []) = omega arith
records-many (m ∷ s ∷ e ∷ []) = omega arith
records-many (m ∷ s ∷ e ∷ i ∷ []) = omega arith
records-many (m ∷ s ∷ e ∷ i ∷ t ∷ rest) = omega (arith, records-many rest)

-- record i is the five numbers from 5 i on
pub records-at : (l : List ℕ) (i : ℕ) → i < many (length l)
    → get_or (records_of l) i no_record ≡ record { mode = get_or l (i * width) 0; name_start = get_or l (i * width + 1) 0; name_end = get_or l (i * width + 2) 0; id_start = get_or l (i * width + 3) 0; text_start = get_or l (i * width + 4) 0 }
unfolding records_of
records-at [] i p = absurd (omega arith)
records-at (m ∷ []) i p = absurd (omega arith)
records-at (m ∷ s ∷ []) i p = absurd (omega arith)
records-at (m ∷ s ∷ e ∷ []) i p = absurd (omega arith)
records-at (m ∷ s ∷ e ∷ d ∷ []) i p = absurd (omega arith)
records-at (m ∷ s ∷ e ∷ d ∷ t ∷ rest) zero p = refl
records-at (m ∷ s ∷ e ∷ d ∷ t ∷ rest) (suc i) p =
    let z : suc i * width ≡ suc (suc (suc (suc (suc (i * width))))) = omega arith in
    let z1 : suc i * width + 1 ≡ suc (suc (suc (suc (suc (i * width + 1))))) = omega arith in
    let z2 : suc i * width + 2 ≡ suc (suc (suc (suc (suc (i * width + 2))))) = omega arith in
    let z3 : suc i * width + 3 ≡ suc (suc (suc (suc (suc (i * width + 3))))) = omega arith in
    let z4 : suc i * width + 4 ≡ suc (suc (suc (suc (suc (i * width + 4))))) = omega arith in
    rw (z1, z2, z3, z4, z) (records-at rest i (omega arith))

-- and the one record of those five
pub records-part : (l : List ℕ) (i : ℕ) → i < many (length l) → get_or (records_of (take width (drop (i * width) l))) 0 no_record ≡ get_or (records_of l) i no_record
unfolding records_of
records-part [] i p = absurd (omega arith)
records-part (m ∷ []) i p = absurd (omega arith)
records-part (m ∷ s ∷ []) i p = absurd (omega arith)
records-part (m ∷ s ∷ e ∷ []) i p = absurd (omega arith)
records-part (m ∷ s ∷ e ∷ d ∷ []) i p = absurd (omega arith)
records-part (m ∷ s ∷ e ∷ d ∷ t ∷ rest) zero p = refl
records-part (m ∷ s ∷ e ∷ d ∷ t ∷ rest) (suc i) p =
    let z : suc i * width ≡ suc (suc (suc (suc (suc (i * width))))) = omega arith in
    rw z (records-part rest i (omega arith))

pub well_parts : (h len : ℕ) (e : EntryRecord) → well_formed h len e ≡ true
    → (e.mode ≤ 65535) × (e.name_start ≤ e.name_end) × (e.name_end ≤ len) × (e.id_start + h ≤ len) × (e.text_start ≤ e.name_start)
unfolding well_formed
well_parts h len e w =
    let b = and_right (leb e.mode 65535) _ w in
    let c = and_right (leb e.name_start e.name_end) _ b in
    let d = and_right (leb e.name_end len) _ c in (
      leb-true _ _ (and_left (leb e.mode 65535) _ w),
      leb-true _ _ (and_left (leb e.name_start e.name_end) _ b),
      leb-true _ _ (and_left (leb e.name_end len) _ c),
      leb-true _ _ (and_left (leb (e.id_start + h) len) _ d),
      leb-true _ _ (and_right (leb (e.id_start + h) len) _ d),
    )

pub well_made : (h len : ℕ) (e : EntryRecord) → e.mode ≤ 65535 → e.name_start ≤ e.name_end → e.name_end ≤ len → e.id_start + h ≤ len
    → e.text_start ≤ e.name_start → well_formed h len e ≡ true
unfolding well_formed
well_made h len e a b c d f =
    simp (
      le-leb e.mode 65535 a,
      le-leb e.name_start e.name_end b,
      le-leb e.name_end len c,
      le-leb (e.id_start + h) len d,
      le-leb e.text_start e.name_start f,
    )

-- an id of h bytes lies inside, told without their sum
pub id-inside : (h len id : ℕ) → h ≤ len → leb id (len - h) ≡ leb (id + h) len
id-inside h len id p =
    same_test (leb id (len - h)) (leb (id + h) len)
    (λ e. le-leb (id + h) len (omega (arith, leb-true id (len - h) e)))
    (λ e. le-leb id (len - h) (omega (arith, leb-true (id + h) len e)))

-- a folder's mode is told by its low 16 bits
pub folder-low : (m : ℕ) → is_tree (m % 65536) ≡ is_tree m
unfolding is_tree sort_of value_of
folder-low m = go (eqb (top_bits m) 0o140000) refl
  where
    top : top_bits (m % 65536) ≡ top_bits m
    top = omega arith

    go : (v : Bool) → eqb (top_bits m) 0o140000 ≡ v → is_tree (m % 65536) ≡ is_tree m
    go true q = rw (top, q)
    go false q = rw (top, q, top)

-- ---- one entry

-- what a mode read at a place says of the bytes from there on
mode-moved : (s : List ℕ) (at : ℕ) (m : EntryMode) (rest : ℕ) → read_mode_at s at ≡ Some (m, rest) → (n : ℕ) × (read_mode (drop at s) ≡ Some (m, n)) × (rest ≡ at + n)
unfolding read_mode_at
mode-moved s at m rest e = go (read_mode (drop at s)) refl e
  where
    go : (r : Option (EntryMode × ℕ)) → read_mode (drop at s) ≡ r → moved at r ≡ Some (m, rest) → (n : ℕ) × (read_mode (drop at s) ≡ Some (m, n)) × (rest ≡ at + n)
    go (Some (k, n)) q e = let w = some_parts e in (n, rw w.0 at q, sym w.1)
    go None q e = let z : ◌≡◌ {A = ℕ} 0 1 = cc in absurd (omega arith)

module _ (s : List ℕ) (h at : ℕ) where
  pub decode-bad : read_mode_at s at ≡ None → decode h at (drop at s) ≡ broken_at at 1
  unfolding decode decode_mode read_mode_at
  decode-bad e = go (read_mode (drop at s)) e
    where
      go : (r : Option (EntryMode × ℕ)) → moved at r ≡ None → decode_mode h at (drop at s) r ≡ broken_at at 1
      go (Some (k, n)) e = let z : ◌≡◌ {A = ℕ} 0 1 = cc in absurd (omega arith)
      go None e = refl

  module _ (m : EntryMode) (rest end : ℕ) (q : read_mode_at s at ≡ Some (m, rest)) (p : end ≡ place_from 0 s rest) where
    -- the mode is read: what is left is the name and the id
    named : (n : ℕ) × (decode h at (drop at s) ≡ decode_name h at m.internal n (drop rest s)) × (rest ≡ at + n)
    unfolding decode decode_mode
    named =
        let w = mode-moved s at m rest q in
        let d : drop w.0 (drop at s) ≡ drop rest s = drop-drop w.0 at s ∙ ap (λ (k : ℕ). drop k s) (sym w.2) in
        (w.0, rw (w.1, d), w.2)

    cut_short : (n : ℕ) → length (drop rest s) < count_to 0 (drop rest s) + 1 + h
        → decode_name h at m.internal n (drop rest s) ≡ broken_at at (short_part (length (drop rest s) - count_to 0 (drop rest s)))
    unfolding decode_name
    cut_short n l = simp (lt-leb (count_to 0 (drop rest s) + 1 + h) (length (drop rest s)) l)

    -- the name ends inside the object
    pub name-within : end ≤ length s
    name-within =
        let w = mode-moved s at m rest q in
        let r = read_next (drop at s) m.internal w.0 w.1 in
        rw p (place-within 0 s rest (omega (arith, r.1, w.2, length-drop at s)))

    pub decode-short : length s - end ≤ h → decode h at (drop at s) ≡ broken_at at (short_part (length s - end))
    unfolding place_from
    decode-short l =
        let w = named in
        let z : length (drop rest s) - count_to 0 (drop rest s) ≡ length s - end = omega (arith, length-drop rest s) in
        w.1 ∙ cut_short w.0 (omega (arith, length-drop rest s)) ∙ rw z

    pub decode-whole : h < length s - end
        → decode h at (drop at s) ≡ Ok (record { mode = m.internal; name_start = rest; name_end = end; id_start = end + 1; text_start = at }, record { at = end + 1 + h })
    unfolding place_from decode_name
    decode-whole l =
        let w = named in
        let t : ℕ = count_to 0 (drop rest s) in
        let a : at + w.0 ≡ rest = sym w.2 in
        let b : at + w.0 + t ≡ end = omega arith in
        let c : at + w.0 + (t + 1) ≡ end + 1 = omega arith in
        let d : at + w.0 + (t + 1 + h) ≡ end + 1 + h = omega arith in
        w.1 ∙ simp (le-leb (t + 1 + h) (length (drop rest s)) (omega (arith, length-drop rest s))) (rw (b, c, d, a))

-- what a whole entry says of the bytes that it was read from
pub record Parts (h at : ℕ) (b : List ℕ) (e : EntryRecord) (next : Cursor) : Type 0 where
  pub size : ℕ
  pub reads : read_mode b ≡ Some (record { internal = e.mode }, size)
  pub laid : e ≡ record_at at e.mode size (count_to 0 (drop size b))
  pub past : next.at ≡ at + size + (count_to 0 (drop size b) + 1 + h)
  pub inside : count_to 0 (drop size b) + 1 + h ≤ length (drop size b)

pub decode-parts : (h at : ℕ) (b : List ℕ) (e : EntryRecord) (next : Cursor) → decode h at b ≡ Ok (e, next) → Parts h at b e next
unfolding decode decode_mode decode_name
decode-parts h at b e next d = go (read_mode b) refl d
  where
    last : (m : EntryMode) (n : ℕ) → read_mode b ≡ Some (m, n) → (v : Bool) → leb (count_to 0 (drop n b) + 1 + h) (length (drop n b)) ≡ v
        → pick v (Ok (record_at at m.internal n (count_to 0 (drop n b)), record { at = at + n + (count_to 0 (drop n b) + 1 + h) })) (broken_at at (short_part (length (drop n b) - count_to 0 (drop n b)))) ≡ Ok (e, next) → Parts h at b e next
    last m n q true p d =
        let both = ok_parts d in
        let r : record_at at m.internal n (count_to 0 (drop n b)) ≡ e = both.0 in
        let k : ◌≡◌ {A = Cursor} (record { at = at + n + (count_to 0 (drop n b) + 1 + h) }) next = both.1 in
        let w : m.internal ≡ e.mode = ap (λ (x : EntryRecord). x.mode) r in
        record {
          size = n;
          reads = q ∙ ap (λ (x : ℕ). Some (record { internal = x }, n)) w;
          laid = sym r ∙ ap (λ (x : ℕ). record_at at x n (count_to 0 (drop n b))) w;
          past = sym (ap (λ (x : Cursor). x.at) k);
          inside = leb-true (count_to 0 (drop n b) + 1 + h) (length (drop n b)) p;
        }
    last m n q false p d = let z : ◌≡◌ {A = ℕ} 0 1 = cc in absurd (omega arith)

    go : (r : Option (EntryMode × ℕ)) → read_mode b ≡ r → decode_mode h at b r ≡ Ok (e, next) → Parts h at b e next
    go (Some (m, n)) q d = last m n q (leb (count_to 0 (drop n b) + 1 + h) (length (drop n b))) refl d
    go None q d = let z : ◌≡◌ {A = ℕ} 0 1 = cc in absurd (omega arith)

pub short_none : {left : ℕ} → left ≡ 0 → short_part left ≡ 2
unfolding short_part
short_none {left} e = simp (eq-eqb left 0 e)

pub short-some : {left : ℕ} → (left ≡ 0 → ⊥) → short_part left ≡ 3
unfolding short_part
short-some {left} e = simp (ne_eqb left 0 e)

short-is-part : (left : ℕ) → is_part (short_part left) ≡ true
unfolding short_part
short-is-part left = go (eqb left 0)
  where
    go : (none : Bool) → is_part (pick none 2 3) ≡ true
    go true = refl
    go false = refl

-- an entry that cannot be read is refused 3 at its first byte, with one of the three parts
pub decode_three : (h at : ℕ) (b : List ℕ) (v : Verdict) → decode h at b ≡ Err v → (k : ℕ) × (v ≡ broken at k) × (is_part k ≡ true)
unfolding decode decode_mode decode_name
decode_three h at b v d = go (read_mode b) d
  where
    last : (m n t left : ℕ) (w : Bool) (c : Cursor) → pick w (Ok (record_at at m n t, c)) (broken_at at (short_part left)) ≡ Err v
        → (k : ℕ) × (v ≡ broken at k) × (is_part k ≡ true)
    last m n t left true c d = let z : ◌≡◌ {A = ℕ} 0 1 = cc in absurd (omega arith)
    last m n t left false c d = (short_part left, cc, short-is-part left)

    go : (r : Option (EntryMode × ℕ)) → decode_mode h at b r ≡ Err v → (k : ℕ) × (v ≡ broken at k) × (is_part k ≡ true)
    go (Some (m, n)) d = last m.internal n (count_to 0 (drop n b)) (length (drop n b) - count_to 0 (drop n b)) (leb (count_to 0 (drop n b) + 1 + h) (length (drop n b))) _ d
    go None d = (1, cc, refl)

-- a whole entry lies inside the object that it was read from, in order, its mode text first, and the cursor stands past it
pub decode-inside : (h : ℕ) (s : List ℕ) (at : ℕ) (e : EntryRecord) (next : Cursor) → decode h at (drop at s) ≡ Ok (e, next)
    → (at ≤ e.name_start) × (e.name_start ≤ e.name_end) × (e.id_start ≡ e.name_end + 1) × (next.at ≡ e.id_start + h) × (next.at ≤ length s)
    × (e.text_start ≡ at)
decode-inside h s at e next d =
    let p = decode-parts h at (drop at s) e next d in
    let a : e.name_start ≡ at + p.size = ap (λ (x : EntryRecord). x.name_start) p.laid in
    let b : e.name_end ≡ at + p.size + count_to 0 (drop p.size (drop at s)) = ap (λ (x : EntryRecord). x.name_end) p.laid in
    let c : e.id_start ≡ at + p.size + (count_to 0 (drop p.size (drop at s)) + 1) = ap (λ (x : EntryRecord). x.id_start) p.laid in
    let l = length-drop p.size (drop at s) in
    let k = length-drop at s in
    (omega arith, omega arith, omega arith, omega (arith, p.past), omega (arith, p.past, p.inside), ap (λ (x : EntryRecord). x.text_start) p.laid)

-- ---- the step

module _ (h : ℕ) (s : List ℕ) (c : Cursor) where
  pub step-shut : (v : Verdict) → gate_of h (length s) 0 ≡ Err v → step_of h s c ≡ no_entry v c
  unfolding step_of step_from
  step-shut v g = rw g

  module _ (g : gate_of h (length s) 0 ≡ Ok tt) where
    pub step_end : length s ≤ c.at → step_of h s c ≡ no_entry fine c
    unfolding step_of step_from
    step_end p = rw g (simp (le-leb (length s) c.at p))

    pub step-inside : c.at < length s → step_of h s c ≡ step_over (length s) (decode h c.at (drop c.at s))
    unfolding step_of step_from
    step-inside p = rw g (simp (lt-leb (length s) c.at p))

pub step-whole : (h : ℕ) (s : List ℕ) (c : Cursor) (e : EntryRecord) (next : Cursor) → gate_of h (length s) 0 ≡ Ok tt → c.at < length s
    → decode h c.at (drop c.at s) ≡ Ok (e, next) → step_of h s c ≡ record { verdict = fine; found = true; entry = e; next = next }
unfolding step_over
step-whole h s c e next g p d = step-inside h s c g p ∙ rw d

pub step-broken : (h : ℕ) (s : List ℕ) (c : Cursor) (v : Verdict) → gate_of h (length s) 0 ≡ Ok tt → c.at < length s
    → decode h c.at (drop c.at s) ≡ Err v → step_of h s c ≡ no_entry v (record { at = length s })
unfolding step_over
step-broken h s c v g p d = step-inside h s c g p ∙ rw d

-- ---- storing a record

pub put-none : (records : List ℕ) (i : ℕ) (e : EntryRecord) → many (length records) ≤ i → put_record records i e ≡ records
unfolding put_record
put-none records i e p = simp (le-ltb i (many (length records)) p)

pub put-fits : (records : List ℕ) (i : ℕ) (e : EntryRecord) → i < many (length records)
    → put_record records i e
    ≡ set (set (set (set (set records (i * width) e.mode) (i * width + 1) e.name_start) (i * width + 2) e.name_end) (i * width + 3) e.id_start) (i * width + 4) e.text_start
unfolding put_record
put-fits records i e p =
    let a : i * width + 1 ≡ suc (i * width) = omega arith in
    let b : i * width + 2 ≡ suc (suc (i * width)) = omega arith in
    let c : i * width + 3 ≡ suc (suc (suc (i * width))) = omega arith in
    let d : i * width + 4 ≡ suc (suc (suc (suc (i * width)))) = omega arith in
    simp (lt-ltb i (many (length records)) p) (rw (a, b, c, d))
