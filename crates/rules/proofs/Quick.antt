-- A mode text told by its code: where the table's rows give one, the text is permitted by each rule set. Assumes nothing.
use Prim.Native.Nat.{ℕ, suc, ◌+◌, ◌-◌, ◌%◌, ◌<◌}
use native.Mathlib.Omega.{arith}
use mathlib.Core.Path.{◌≡◌, refl, sym, ◌∙◌}
use mathlib.Core.Bool.{Bool, true, false, ◌||◌}
use mathlib.Core.List.{List, [], ◌∷◌}
use lib.Dec.{ltb, leb}
use lib.ListN.{length, get_or, take, drop, length-append}
use lib.Seq.{take-take, take-append_seam}
use borrow.Author.Tests.{ltb-true}
use Rattle.ground.specs.Basics.{pick, part}
use Rattle.ground.specs.Scan.{same_bytes}
use Rattle.ground.proofs.Laws.{same_refl, same_true}
use Rattle.ground.proofs.Table.{rows_agree}
use Rattle.mode_text.specs.Write.{shown}
use Rattle.mode_table.specs.Table.{rows, no_row}
use Rattle.mode_table.specs.declared.Written.{Written}
use Rattle.mode_code.specs.Code.{coded, code_at, spaced, code_in, quick_at}
use Rattle.mode_code.proofs.Laws.{quick_is-code}
use Rattle.rules.specs.Rules.{is_text, modes_of}
use Rattle.rules.proofs.Laws.{texts_five}

-- a row's text takes fewer than sixteen bytes with the space
row-short : (i : ℕ) → i < length rows → length (spaced (get_or rows i no_row)) < 16
unfolding rows
row-short i h = ltb-true _ _ (rows_agree rows no_row (λ (r : Written). ltb (length (spaced r)) 16) (λ (r : Written). true) refl i h)

-- where such rows give some bytes a code, the bytes begin with the text of one of them, and the code says how long it is
in-text : (rs : List Written) (b : List ℕ) → ((i : ℕ) → i < length rs → length (spaced (get_or rs i no_row)) < 16) → (code_in rs b ≡ 0 → ⊥)
    → is_text rs (take (code_in rs b % 16 - 1) b) ≡ true
unfolding code_in
in-text [] b f n = absurd (n refl)
in-text (r ∷ rs) b f n = go (in-text rs b (λ i h. f (suc i) (omega arith))) _ refl n
  where
    later : (v : Bool) (t : List ℕ) → is_text rs t ≡ true → (v || is_text rs t) ≡ true
    later true t e = refl
    later false t e = e

    go : ((code_in rs b ≡ 0 → ⊥) → is_text rs (take (code_in rs b % 16 - 1) b) ≡ true)
        → (v : Bool) → same_bytes (take (length (spaced r)) b) (spaced r) ≡ v → (pick v (coded r.mode (length (spaced r))) (code_in rs b) ≡ 0 → ⊥)
        → is_text (r ∷ rs) (take (pick v (coded r.mode (length (spaced r))) (code_in rs b) % 16 - 1) b) ≡ true
    go ih false p n = later (same_bytes (take (code_in rs b % 16 - 1) b) (shown r.text)) _ (ih n)
    go ih true p n =
        let n : ℕ = length (shown r.text) in
        let l : length (spaced r) ≡ n + 1 = length-append (shown r.text) (32 ∷ []) in
        let k : coded r.mode (length (spaced r)) % 16 - 1 ≡ n = omega (arith, f 0 (omega arith)) in
        let q = same_true (take (length (spaced r)) b) (spaced r) p in
        let t : take n b ≡ shown r.text = sym (take-take n (length (spaced r)) b (omega arith)) ∙ rw q (take-append_seam (shown r.text) (32 ∷ [])) in
        rw (k, t, same_refl (shown r.text))

-- the bytes up to the space that the code at a place tells are a written mode text
text_quick : (s : List ℕ) (at start : ℕ) → (quick_at s at ≡ 0 → ⊥) → start ≡ at + code_at s at % 16 → is_text rows (part at (start - 1) s) ≡ true
unfolding quick_at
text_quick s at start n q = go (leb (at + 7) (length s)) n (quick_is-code s at n)
  where
    go : (v : Bool) → (pick v (code_in rows (drop at s)) 0 ≡ 0 → ⊥) → code_at s at ≡ pick v (code_in rows (drop at s)) 0
        → is_text rows (part at (start - 1) s) ≡ true
    go true n c =
        let k : start - 1 - at ≡ code_in rows (drop at s) % 16 - 1 = omega arith in
        rw k (in-text rows (drop at s) row-short n)
    go false n c = absurd (n refl)

-- and a text of each rule set
pub mode_quick : (k : ℕ) (s : List ℕ) (at start : ℕ) → (quick_at s at ≡ 0 → ⊥) → start ≡ at + code_at s at % 16
    → is_text (modes_of k) (part at (start - 1) s) ≡ true
mode_quick k s at start n q = texts_five k (part at (start - 1) s) (text_quick s at start n q)
