-- The part of an entry that cannot be read is the one that specs/Parts.antt says. Assumes nothing.
use Prim.Native.Nat.{ℕ, zero, suc, ◌+◌, ◌-◌, ◌*◌, ◌%◌, ◌≤◌, ◌<◌}
use native.Mathlib.Decide.{dec_lt}
use native.Mathlib.Numerals.{add-one}
use native.Mathlib.Omega.{arith}
use mathlib.Core.Path.{◌≡◌, refl, ap, sym, ◌∙◌}
use mathlib.Core.Bool.{Bool, true, false, ◌||◌, false≢true}
use mathlib.Core.List.{List, [], ◌∷◌, ◌++◌}
use mathlib.Core.Logic.{◌⊎◌, inl, inr, ◌↔◌}
use lib.Dec.{eqb, leb}
use lib.ListN.{length, get_or, take, drop, length-append, take-append-drop}
use lib.Seq.{drop-cons, take_all}
use borrow.Author.Tests.{ne_eqb, eqb-true, le-leb, lt-leb, leb-true}
use Rattle.ground.specs.Scan.{count_to, free_of}
use Rattle.ground.specs.Verdict.{verdict, broken, is_part, gate_of}
use Rattle.ground.proofs.Laws.{and_left, and_right, gate_shut, count-le, count-is, count_free, free-count, whole_free, free_whole}
use Rattle.ground.specs.declared.Verdict.{Verdict}
use Rattle.mode.specs.Read.{mode_of, read_mode}
use Rattle.mode_text.specs.Read.{is_octal, octal_from, has_six, text_len, settle}
use Rattle.mode.proofs.Laws.{read-text}
use Rattle.mode_text.proofs.Laws.{text-count, rest_end}
use Rattle.mode.specs.declared.EntryMode.{EntryMode}
use Rattle.entry.specs.Decode.{broken_at, record_at, decode, decode_mode, decode_name, step_over, step_of}
use Rattle.entry.specs.Parts.{NoNul, CutId, all_octal, OnePart, PartLaws}
use Rattle.entry.specs.declared.EntryRecord.{EntryRecord}
use Rattle.entry.specs.declared.Cursor.{Cursor}
use Rattle.entry.proofs.Laws.{short_none, short-some, decode_three, step-shut, step_end, step-inside}
use Rattle.std.specs.Prelude.{Err, None, Ok, Option, Result, Some, ⊤}

-- ---- past the mode text

module _ (h at m n : ℕ) (c : List ℕ) where
  name-nulless : free_of 0 c ≡ true → decode_name h at m n c ≡ broken_at at 2
  unfolding decode_name
  name-nulless f =
      let t = whole_free 0 c f in
      simp (lt-leb (count_to 0 c + 1 + h) (length c) (omega (arith, t))) (ap (broken_at at) (short_none (omega (arith, t))))

  module _ (name left : List ℕ) (q : c ≡ name ++ 0 ∷ left) (f : free_of 0 name ≡ true) where
    nul_at : count_to 0 c ≡ length name
    nul_at = ap (count_to 0) q ∙ count_free 0 name left f

    long : length c ≡ length name + suc (length left)
    long = ap length q ∙ length-append name (0 ∷ left)

    name-cut : length left < h → decode_name h at m n c ≡ broken_at at 3
    unfolding decode_name
    name-cut p =
        simp (lt-leb (count_to 0 c + 1 + h) (length c) (omega (arith, nul_at, long)))
        (ap (broken_at at) (short-some (λ z. omega (arith, nul_at, long))))

    name-whole : h ≤ length left → decode_name h at m n c ≡ Ok (record_at at m n (count_to 0 c), record { at = at + n + (count_to 0 c + 1 + h) })
    unfolding decode_name
    name-whole p = simp (le-leb (count_to 0 c + 1 + h) (length c) (omega (arith, nul_at, long)))

-- ---- every way through an entry

-- past a mode text: no NUL, a name and too few bytes, or a name and bytes enough
data Past (h : ℕ) (c : List ℕ) : Type 0 where
  nulless : free_of 0 c ≡ true → Past h c
  named : (name left : List ℕ) → c ≡ name ++ 0 ∷ left → free_of 0 name ≡ true → (length left < h) ⊎ (h ≤ length left) → Past h c

below : (a b : ℕ) → (a < b) ⊎ (b ≤ a)
below a b = elim (dec_lt a b) [ yes p ↦ inl p | no p ↦ inr (omega arith) ]

past : (h : ℕ) (c : List ℕ) → Past h c
past h c = by (below (count_to 0 c) (length c))
  where
    by : (count_to 0 c < length c) ⊎ (length c ≤ count_to 0 c) → Past h c
    by (inl p) =
        let t : ℕ = count_to 0 c in
        let d : drop t c ≡ 0 ∷ drop (t + 1) c = rw (add-one t) (drop-cons c t 0 p ∙ ap (λ (x : ℕ). x ∷ drop (suc t) c) (count-is 0 c p)) in
        named (take t c) (drop (t + 1) c) (sym (take-append-drop t c) ∙ ap (λ (l : List ℕ). take t c ++ l) d) (free-count 0 c)
        (below (length (drop (t + 1) c)) h)
    by (inr p) = nulless (free_whole 0 c (omega (arith, count-le 0 c)))

data Way (h at : ℕ) (b : List ℕ) : Type 0 where
  no_mode : read_mode b ≡ None → decode h at b ≡ broken_at at 1 → Way h at b
  no_nul : NoNul b → decode h at b ≡ broken_at at 2 → Way h at b
  cut-id : CutId h b → decode h at b ≡ broken_at at 3 → Way h at b
  whole : (e : EntryRecord) (next : Cursor) → decode h at b ≡ Ok (e, next) → Way h at b

module _ (h at : ℕ) (b : List ℕ) where
  decode-bad : read_mode b ≡ None → decode h at b ≡ broken_at at 1
  unfolding decode decode_mode
  decode-bad q = rw q

  decode-mode : (m : EntryMode) (n : ℕ) → read_mode b ≡ Some (m, n) → decode h at b ≡ decode_name h at m.internal n (drop n b)
  unfolding decode decode_mode
  decode-mode m n q = rw q

  decode-nulless : NoNul b → decode h at b ≡ broken_at at 2
  decode-nulless w =
      let a = w.ahead in
      decode-mode a.mode a.size a.reads
      ∙ name-nulless h at a.mode.internal a.size (drop a.size b) (ap (free_of 0) (sym a.past) ∙ w.nulless)

  decode-cut : CutId h b → decode h at b ≡ broken_at at 3
  decode-cut w =
      let a = w.ahead in
      decode-mode a.mode a.size a.reads
      ∙ name-cut h at a.mode.internal a.size (drop a.size b) w.name w.left (sym a.past) w.nulless w.short

  way : Way h at b
  way = go (read_mode b) refl
    where
      go : (r : Option (EntryMode × ℕ)) → read_mode b ≡ r → Way h at b
      go None q = no_mode q (decode-bad q)
      go (Some (m, n)) q = by (past h (drop n b))
        where
          by : Past h (drop n b) → Way h at b
          by (nulless f) =
              let w : NoNul b = record { rest = drop n b; ahead = record { mode = m; size = n; reads = q; past = refl }; nulless = f } in
              no_nul w (decode-nulless w)
          by (named name left e f (inl p)) =
              let w : CutId h b = record { name = name; left = left; ahead = record { mode = m; size = n; reads = q; past = sym e }; nulless = f; short = p } in
              cut-id w (decode-cut w)
          by (named name left e f (inr p)) = whole _ _ (decode-mode m n q ∙ name-whole h at m.internal n (drop n b) name left e f p)

-- ---- the parts are three

part_same : (at j k : ℕ) → broken_at at j ≡ broken_at at k → j ≡ k
part_same at j k e = let z : broken at j ≡ broken at k = cc in ap (λ (v : Verdict). v.part) z

never : {A : Type 0} (h at k : ℕ) (b : List ℕ) (e : EntryRecord) (next : Cursor) → decode h at b ≡ Ok (e, next) → decode h at b ≡ broken_at at k → A
never h at k b e next d q = let z : ◌≡◌ {A = ℕ} 0 1 = cc in absurd (omega arith)

module _ (h at : ℕ) (b : List ℕ) where
  to_mode : decode h at b ≡ broken_at at 1 → read_mode b ≡ None
  to_mode q = by (way h at b)
    where
      by : Way h at b → read_mode b ≡ None
      by (no_mode r d) = r
      by (no_nul w d) = absurd (omega (arith, part_same at 1 2 (sym q ∙ d)))
      by (cut-id w d) = absurd (omega (arith, part_same at 1 3 (sym q ∙ d)))
      by (whole e next d) = never h at 1 b e next d q

  to_nul : decode h at b ≡ broken_at at 2 → NoNul b
  to_nul q = by (way h at b)
    where
      by : Way h at b → NoNul b
      by (no_mode r d) = absurd (omega (arith, part_same at 2 1 (sym q ∙ d)))
      by (no_nul w d) = w
      by (cut-id w d) = absurd (omega (arith, part_same at 2 3 (sym q ∙ d)))
      by (whole e next d) = never h at 2 b e next d q

  to_cut : decode h at b ≡ broken_at at 3 → CutId h b
  to_cut q = by (way h at b)
    where
      by : Way h at b → CutId h b
      by (no_mode r d) = absurd (omega (arith, part_same at 3 1 (sym q ∙ d)))
      by (no_nul w d) = absurd (omega (arith, part_same at 3 2 (sym q ∙ d)))
      by (cut-id w d) = w
      by (whole e next d) = never h at 3 b e next d q

part-is : (k : ℕ) → is_part k ≡ true → OnePart k
part-is k e = go (eqb k 1) refl (eqb k 2) refl (eqb k 3) refl e
  where
    go : (x : Bool) → eqb k 1 ≡ x → (y : Bool) → eqb k 2 ≡ y → (z : Bool) → eqb k 3 ≡ z → (x || (y || z)) ≡ true → OnePart k
    go true p y q z r e = inl (eqb-true k 1 p)
    go false p true q z r e = inr (inl (eqb-true k 2 q))
    go false p false q true r e = inr (inr (eqb-true k 3 r))
    go false p false q false r e = absurd (false≢true e)

no_part : (n p : ℕ) → OnePart (verdict n p).part → ⊥
no_part n p (inl e) = omega arith
no_part n p (inr (inl e)) = omega arith
no_part n p (inr (inr e)) = omega arith

-- a verdict that is no 3 has no part
abbrev Told : Verdict → Type 0
Told v = OnePart v.part ↔ (v.number ≡ 3)

told_other : (n p : ℕ) → (n ≡ 3 → ⊥) → Told (verdict n p)
told_other n p z = ((λ w. absurd (no_part n p w)), (λ e. absurd (z e)))

told_three : (at k : ℕ) → OnePart k → Told (broken at k)
told_three at k w = ((λ v. refl), (λ e. w))

module _ (h : ℕ) (s : List ℕ) (c : Cursor) where
  step-told : Told (step_of h s c).verdict
  unfolding step_over
  step-told = by (gate_of h (length s) 0) refl
    where
      over : (d : Result (EntryRecord × Cursor) Verdict) → decode h c.at (drop c.at s) ≡ d → Told (step_over (length s) d).verdict
      over (Ok (e, next)) q = told_other 0 0 (λ z. omega arith)
      over (Err v) q = let w = decode_three h c.at (drop c.at s) v q in rw w.1 (told_three c.at w.0 (part-is w.0 w.2))

      by : (g : Result ⊤ Verdict) → gate_of h (length s) 0 ≡ g → Told (step_of h s c).verdict
      by (Err v) q = rw (step-shut h s c v q) (go (gate_shut h (length s) 0 v q))
        where
          go : (v ≡ verdict 1 0) ⊎ (v ≡ verdict 2 0) → Told v
          go (inl e) = rw e (told_other 1 0 (λ z. omega arith))
          go (inr e) = rw e (told_other 2 0 (λ z. omega arith))
      by (Ok tt) q = go (below c.at (length s))
        where
          go : (c.at < length s) ⊎ (length s ≤ c.at) → Told (step_of h s c).verdict
          go (inl p) = rw (step-inside h s c q p) (over (decode h c.at (drop c.at s)) refl)
          go (inr p) = rw (step_end h s c q p) (told_other 0 0 (λ z. omega arith))

-- ---- digits alone

digit_low : (b : ℕ) (bs : List ℕ) → all_octal (b ∷ bs) ≡ true → (48 ≤ b) × (b ≤ 55) × (all_octal bs ≡ true)
digit_low b bs e =
    let d = and_left (is_octal b) (all_octal bs) e in
    (leb-true 48 b (and_left (leb 48 b) (leb b 55) d), leb-true b 55 (and_right (leb 48 b) (leb b 55) d), and_right (is_octal b) (all_octal bs) e)

digits_free : (x : ℕ) (b : List ℕ) → x < 48 → all_octal b ≡ true → free_of x b ≡ true
digits_free x [] p e = refl
digits_free x (b ∷ bs) p e = let d = digit_low b bs e in rw (ne_eqb b x (λ z. omega (arith, d.0))) (digits_free x bs p d.2)

digits_sum : (sum : ℕ) (b : List ℕ) → all_octal b ≡ true → (first rest : ℕ) → (m : EntryMode) × (mode_of first rest (octal_from sum b) ≡ Some (m, rest))
unfolding octal_from
digits_sum sum [] e first rest = (record { internal = settle sum first }, refl)
digits_sum sum (b ∷ bs) e first rest =
    let d = digit_low b bs e in
    let i = digits_sum ((sum * 8 + (b - 48)) % 0o200000) bs d.2 first rest in
    (i.0, rw (le-leb 48 b d.0, le-leb b 55 d.1) i.1)

digit_at : (b : List ℕ) (i : ℕ) → all_octal b ≡ true → get_or b i 0 ≡ 32 → ⊥
digit_at [] i e q = omega arith
digit_at (b ∷ bs) zero e q = omega (arith, (digit_low b bs e).0)
digit_at (b ∷ bs) (suc i) e q = digit_at bs i (digit_low b bs e).2 q

no_six : (b : List ℕ) → all_octal b ≡ true → has_six b ≡ false
unfolding has_six
no_six b e = rw (ne_eqb (get_or b 6 0) 32 (digit_at b 6 e))

digits-read : (h at : ℕ) (b : List ℕ) → 0 < length b → length b ≤ 7 → all_octal b ≡ true → decode h at b ≡ broken_at at 2
digits-read h at [] p q e = absurd (omega arith)
digits-read h at (d ∷ ds) p q e =
    let b : List ℕ = d ∷ ds in
    let n : length b ≡ text_len b = sym (text-count b (no_six b e) ∙ whole_free 32 b (digits_free 32 b (omega arith) e)) in
    let v = digits_sum 0 b e d 1 in
    let r : read_mode b ≡ Some (v.0, 1) =
    read-text b (λ z. omega arith) (length b) n q ∙ rw (take_all (length b) b (omega arith), rest_end (length b) (length b) (omega arith)) v.1 in
    decode-nulless h at b
    (record { rest = ds; ahead = record { mode = v.0; size = 1; reads = r; past = refl }; nulless = digits_free 0 ds (omega arith) (digit_low d ds e).2 })

-- ---- all of it

pub part_laws : PartLaws
part_laws =
    record {
      one_part = λ h at b v q. let w = decode_three h at b v q in (w.0, w.1, part-is w.0 w.2);
      only_three = step-told;
      mode_part = λ h at b. (to_mode h at b, decode-bad h at b);
      nul_part = λ h at b. (to_nul h at b, decode-nulless h at b);
      id_part = λ h at b. (to_cut h at b, decode-cut h at b);
      digits_alone = digits-read;
    }
