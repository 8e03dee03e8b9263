-- The table of the written modes agrees with reading. Assumes nothing.
use Prim.Native.Nat.{ℕ, ◌+◌, ◌<◌}
use mathlib.Core.Path.{◌≡◌, refl}
use mathlib.Core.List.{[], ◌∷◌, ◌++◌}
use Rattle.ground.proofs.Table.{rows_agree}
use Rattle.mode_text.specs.Read.{octal_from, has_six, text_len, settle, rest_at, read_text}
use Rattle.mode_text.specs.Write.{shown}
use Rattle.mode_table.specs.Table.{rows, no_row, row_at}
use Rattle.mode_table.specs.declared.Written.{Written}
use Rattle.mode.specs.Mode.{value_of, sort_of, executes, kind_of}
use Rattle.mode.specs.Read.{read_mode}
use Rattle.std.specs.Prelude.{Some}

-- over all rows at once: each kind is the kind of the row's mode, ..
pub row-kind-is : (i : ℕ) → i < 5 → (row_at i).kind ≡ kind_of (row_at i).mode
unfolding rows row_at kind_of sort_of value_of executes
row-kind-is = rows_agree rows no_row (λ (r : Written). r.kind) (λ (r : Written). kind_of r.mode) refl

-- .. and each text with a space behind it reads as that mode.
pub row_reads : (i : ℕ) → i < 5 → read_mode (shown (row_at i).text ++ 32 ∷ []) ≡ Some (record { internal = (row_at i).mode }, (row_at i).text.len + 1)
unfolding rows row_at read_mode read_text octal_from has_six text_len settle rest_at
row_reads =
    rows_agree rows no_row (λ (r : Written). read_mode (shown r.text ++ 32 ∷ []))
    (λ (r : Written). Some (record { internal = r.mode }, r.text.len + 1)) refl
