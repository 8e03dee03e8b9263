-- Laws of the table. Assumes nothing.
use native.Mathlib.Numerals.{add-one}
use native.Mathlib.Omega.{arith}
use Prim.Native.Nat.{ℕ, ◌+◌, ◌<◌, ◌≤◌}
use mathlib.Core.Path.{◌≡◌, refl}
use mathlib.Core.Bool.{true, false}
use mathlib.Core.List.{List, ◌∷◌}
use lib.ListN.{length, drop, drop_of_length-le}
use lib.Seq.{drop-cons}
use Rattle.ground.specs.Scan.{same_bytes}
use Rattle.ground.proofs.Table.{rows_agree}
use Rattle.mode_text.specs.Write.{trimmed, write_mode, mode_text, shown}
use Rattle.mode_text.proofs.Laws.{text-is}
use Rattle.mode_table.specs.Table.{place_of, rows, no_row, row_at, find_text}
use Rattle.mode_table.specs.declared.EntryKind.{EntryKind}
use Rattle.mode_table.specs.declared.EntryKind.TheVariants.{Tree, Blob, BlobExecutable, Link, Commit}
use Rattle.mode_table.specs.declared.Written.{Written}
use Rattle.std.specs.Prelude.{None, Some}

pub place_lt : (k : EntryKind) → place_of k < 5
place_lt Tree = omega arith
place_lt Blob = omega arith
place_lt BlobExecutable = omega arith
place_lt Link = omega arith
place_lt Commit = omega arith

rows-length : length rows ≡ 5
unfolding rows
rows-length = refl

-- The table's rule, over all of its rows at once: each text is the one written for the row's mode.
pub row-text-is : (i : ℕ) → i < 5 → (row_at i).text ≡ mode_text (row_at i).mode
unfolding rows row_at mode_text write_mode trimmed
row-text-is = rows_agree rows no_row (λ (r : Written). r.text) (λ (r : Written). mode_text r.mode) refl

-- a row's text lies in its array
pub row_fits : (i : ℕ) (r : Written) → r ≡ row_at i → i < 5 → r.text.len ≤ length r.text.bytes
row_fits i r e h = rw e (text-is (row_at i).text (row_at i).mode (row-text-is i h)).1

-- the search for a text from a row on: the row has it, the row has another, no row is left
module _ (t : List ℕ) (i : ℕ) where
  module _ (r : Written) (e : r ≡ row_at i) (h : i < 5) where
    row_cons : drop i rows ≡ r ∷ drop (i + 1) rows
    unfolding row_at
    row_cons = rw (e, add-one i) (drop-cons rows i no_row (rw rows-length h))

    pub find-here : same_bytes t (shown r.text) ≡ true → find_text t (drop i rows) ≡ Some r.mode
    find-here q = rw row_cons (simp q)

    pub find_more : same_bytes t (shown r.text) ≡ false → find_text t (drop i rows) ≡ find_text t (drop (i + 1) rows)
    find_more q = rw row_cons (simp q)

  pub find-end : 5 ≤ i → find_text t (drop i rows) ≡ None
  find-end h = rw (drop_of_length-le rows {i = i} (rw rows-length h))
