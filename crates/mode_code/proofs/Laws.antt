-- Laws of a mode's code: it says the mode and where the rest begins, and the table's code is that of what is read. Assumes nothing.
use native.Mathlib.Decide.{dec_lt}
use native.Mathlib.Omega.{arith}
use Prim.Native.Nat.{ℕ, suc, ◌+◌, ◌-◌, ◌/◌, ◌%◌, ◌<◌, ◌≤◌}
use mathlib.Core.Path.{◌≡◌, refl, ap, ◌∙◌}
use mathlib.Core.Bool.{Bool, true, false}
use mathlib.Core.List.{List, [], ◌∷◌, ◌++◌, append_assoc}
use lib.Dec.{eqb, ltb, leb}
use lib.ListN.{length, get_or, take, drop, length-drop, length-append, take-append-drop}
use borrow.Author.Tests.{eqb-false, ltb-true}
use Rattle.ground.specs.Basics.{pick}
use Rattle.ground.specs.Scan.{same_bytes}
use Rattle.ground.proofs.Laws.{same_true}
use Rattle.ground.proofs.Table.{rows_agree}
use Rattle.mode.specs.Read.{read_mode, moved, read_mode_at}
use Rattle.mode_text.specs.Read.{text_len}
use Rattle.mode_table.specs.Table.{rows, no_row, row_at}
use Rattle.mode_text.specs.Write.{shown}
use Rattle.mode_text.specs.Write.{write_mode, again}
use Rattle.mode.specs.declared.EntryMode.{EntryMode}
use Rattle.mode_table.specs.declared.Written.{Written}
use Rattle.mode.proofs.Laws.{read-parts, read_next}
use Rattle.mode_table.proofs.Laws.{row-text-is}
use Rattle.mode_text.proofs.Laws.{rest_more, rest_end, text-is}
use Rattle.mode_round.proofs.Space.{read_small}
use Rattle.mode_round.proofs.Again.{written_reads}
use Rattle.mode_code.specs.Code.{coded, code_of, code_at, spaced, code_in, quick_at}
use Rattle.std.specs.Prelude.{None, Option, Some}
use Rattle.ground.proofs.Pairs.{some_parts}

-- ---- what was read is known by its code

-- the text of a mode that was read takes at most eight bytes with the space
read_eight : (b : List ℕ) (m n : ℕ) → read_mode b ≡ Some (record { internal = m }, n) → n ≤ 8
read_eight b m n e =
    let p = read-parts b m n e in
    elim (dec_lt (text_len b) (length b)) [
      | yes h ↦ omega (arith, p.rest ∙ rest_more (text_len b) (length b) h, p.few)
      | no h ↦ omega (arith, p.rest ∙ rest_end (text_len b) (length b) (omega arith))
    ]

-- a mode that was read, by its digits of base sixteen
digits : (m n : ℕ) → n ≤ 8 → ◌≡◌ {A = Option (EntryMode × ℕ)} (Some (record { internal = m }, n)) (Some (record { internal = coded m n / 16 }, coded m n % 16))
digits m n h =
    let p : coded m n / 16 ≡ m = omega arith in
    let q : coded m n % 16 ≡ n = omega arith in
    rw (p, q)

module _ (s : List ℕ) (at : ℕ) where
  -- ---- code 0: no mode can be read

  pub code-bad : code_at s at ≡ 0 → read_mode_at s at ≡ None
  unfolding code_at read_mode_at
  code-bad e = go (read_mode (drop at s)) refl e
    where
      go : (r : Option (EntryMode × ℕ)) → read_mode (drop at s) ≡ r → code_of r ≡ 0 → moved at r ≡ None
      go (Some (m, n)) p e = absurd (omega (arith, read_next (drop at s) m.internal n p))
      go None p e = refl

  pub code_of_bad : read_mode_at s at ≡ None → code_at s at ≡ 0
  unfolding code_at read_mode_at
  code_of_bad e = go (read_mode (drop at s)) e
    where
      go : (r : Option (EntryMode × ℕ)) → moved at r ≡ None → code_of r ≡ 0
      go (Some (m, n)) e = cc
      go None e = refl

  -- ---- any other: its mode and the length of its text are the digits

  -- the code of what is read, and the eight bytes that its text takes at most
  pub code_of_mode : (m : EntryMode) (rest : ℕ) → read_mode_at s at ≡ Some (m, rest)
      → (at < rest) × (rest ≤ at + 8) × (code_at s at ≡ coded m.internal (rest - at))
  unfolding code_at read_mode_at
  code_of_mode m rest e = go (read_mode (drop at s)) refl e
    where
      go : (r : Option (EntryMode × ℕ)) → read_mode (drop at s) ≡ r → moved at r ≡ Some (m, rest)
          → (at < rest) × (rest ≤ at + 8) × (code_of r ≡ coded m.internal (rest - at))
      go (Some (k, n)) p e =
          let w = some_parts e in
          let i : k.internal ≡ m.internal = ap (λ (x : EntryMode). x.internal) w.0 in
          let z : at + n ≡ rest = w.1 in
          let q = read_next (drop at s) k.internal n p in
          let h = read_eight (drop at s) k.internal n p in
          (omega arith, omega arith, omega arith)
      go None p e = let z : ◌≡◌ {A = ℕ} 0 1 = cc in absurd (omega arith)

  module _ (some : code_at s at ≡ 0 → ⊥) where
    code_reads : read_mode (drop at s) ≡ Some (record { internal = code_at s at / 16 }, code_at s at % 16)
    unfolding code_at
    code_reads = go (read_mode (drop at s)) refl some
      where
        go : (r : Option (EntryMode × ℕ)) → read_mode (drop at s) ≡ r → (code_of r ≡ 0 → ⊥) → r ≡ Some (record { internal = code_of r / 16 }, code_of r % 16)
        go (Some (m, n)) p e = digits m.internal n (read_eight (drop at s) m.internal n p)
        go None p e = absurd (e refl)

    pub code-mode : read_mode_at s at ≡ Some (record { internal = code_at s at / 16 }, at + code_at s at % 16)
    unfolding read_mode_at
    code-mode = ap (moved at) code_reads

    -- the rest begins behind the place and not behind the end, and the code has 20 bits
    pub code_inside : (1 ≤ code_at s at % 16) × (at + code_at s at % 16 ≤ length s) × (code_at s at / 16 < 65536) × (code_at s at < 1048576)
    code_inside =
        let n = read_next _ _ _ code_reads in
        let h = read_small _ _ _ code_reads in
        let l = length-drop at s in
        (omega arith, omega arith, omega arith, omega arith)

-- ---- a written mode: the table says what is read

-- what a row promises: its text and space, with anything behind them, read as its mode
abbrev Reads : Written → Type 0
Reads r = (t : List ℕ) → read_mode (spaced r ++ t) ≡ Some (record { internal = r.mode }, length (spaced r))

-- each row of the table keeps it: its text is the one written for its mode, and such a text reads back
module _ (i : ℕ) (h : i < 5) where
  row-some : (row_at i).mode ≡ 0 → ⊥
  unfolding rows row_at
  row-some = eqb-false _ _ (rows_agree rows no_row (λ (r : Written). eqb r.mode 0) (λ (r : Written). false) refl i h)

  row_small : (row_at i).mode < 0o200000
  unfolding rows row_at
  row_small = ltb-true _ _ (rows_agree rows no_row (λ (r : Written). ltb r.mode 0o200000) (λ (r : Written). true) refl i h)

  row-again : again (row_at i).mode ≡ (row_at i).mode
  unfolding rows row_at again
  row-again = rows_agree rows no_row (λ (r : Written). again r.mode) (λ (r : Written). r.mode) refl i h

  row_keeps : Reads (row_at i)
  row_keeps t =
      let w : shown (row_at i).text ≡ write_mode (row_at i).mode = (text-is (row_at i).text (row_at i).mode (row-text-is i h)).2 in
      rw (w, append_assoc, length-append) (written_reads (row_at i).mode t row-some row_small ∙ rw row-again)

-- the code that rows which keep it give some bytes is that of what is read there
in_reads : (rs : List Written) (b : List ℕ) → ((i : ℕ) → i < length rs → Reads (get_or rs i no_row)) → (code_in rs b ≡ 0 → ⊥)
    → code_of (read_mode b) ≡ code_in rs b
unfolding code_in
in_reads [] b f n = absurd (n refl)
in_reads (r ∷ rs) b f n = go (in_reads rs b (λ i h. f (suc i) (omega arith))) _ refl n
  where
    go : ((code_in rs b ≡ 0 → ⊥) → code_of (read_mode b) ≡ code_in rs b)
        → (v : Bool) → same_bytes (take (length (spaced r)) b) (spaced r) ≡ v → (pick v (coded r.mode (length (spaced r))) (code_in rs b) ≡ 0 → ⊥)
        → code_of (read_mode b) ≡ pick v (coded r.mode (length (spaced r))) (code_in rs b)
    go ih false p n = ih n
    go ih true p n =
        let q = same_true (take (length (spaced r)) b) (spaced r) p in
        let e : spaced r ++ drop (length (spaced r)) b ≡ b = rw q at (take-append-drop (length (spaced r)) b) in
        ap code_of (rw e at (f 0 (omega arith) (drop (length (spaced r)) b)))

-- Where the table gives a code, it is the code of what is read.
pub quick_is-code : (s : List ℕ) (at : ℕ) → (quick_at s at ≡ 0 → ⊥) → code_at s at ≡ quick_at s at
unfolding quick_at code_at rows row_at
quick_is-code s at n = go (leb (at + 7) (length s)) n
  where
    go : (v : Bool) → (pick v (code_in rows (drop at s)) 0 ≡ 0 → ⊥) → code_of (read_mode (drop at s)) ≡ pick v (code_in rows (drop at s)) 0
    go true n = in_reads rows (drop at s) row_keeps n
    go false n = absurd (n refl)
