-- An entry by the code of its mode and the place where its name ends, as the loops read it. Assumes nothing.
use Prim.Native.Nat.{ℕ, ◌+◌, ◌-◌, ◌/◌, ◌%◌, ◌<◌, ◌≤◌}
use mathlib.Core.Path.{◌≡◌, ap, sym, ◌∙◌}
use mathlib.Core.List.{List}
use lib.ListN.{length, drop}
use Rattle.ground.specs.Scan.{place_from}
use Rattle.ground.specs.declared.Verdict.{Verdict}
use Rattle.mode_code.specs.Code.{code_at}
use Rattle.mode_code.proofs.Laws.{code-bad, code-mode, code_inside}
use Rattle.mode.specs.Read.{read_mode_at}
use Rattle.entry.specs.Decode.{decode, decoded_verdict}
use Rattle.entry.proofs.Laws.{decode-bad, name-within, decode-short, decode-whole}
use Rattle.entry.specs.declared.Cursor.{Cursor}
use Rattle.entry.specs.declared.EntryRecord.{EntryRecord}
use Rattle.std.specs.Prelude.{Err, Ok, Result, Some}

-- no entry can be read
abbrev pub Unread : Result (EntryRecord × Cursor) Verdict → Type 0
Unread d = d ≡ Err (decoded_verdict d)

unread : {d : Result (EntryRecord × Cursor) Verdict} (v : Verdict) → d ≡ Err v → Unread d
unread v e = e ∙ ap (λ (x : Result (EntryRecord × Cursor) Verdict). Err (decoded_verdict x)) (sym e)

module _ (s : List ℕ) (h at code : ℕ) (q : code ≡ code_at s at) where
  pub code-none : code ≡ 0 → Unread (decode h at (drop at s))
  code-none e = unread _ (decode-bad s h at (code-bad s at (sym q ∙ e)))

  module _ (some : code ≡ 0 → ⊥) where
    there-is : code_at s at ≡ 0 → ⊥
    there-is e = some (q ∙ e)

    reads : read_mode_at s at ≡ Some (record { internal = code / 16 }, at + code % 16)
    reads = rw q (code-mode s at there-is)

    pub name_starts : at + code % 16 ≤ length s
    name_starts = rw q (code_inside s at there-is).1

    module _ (end : ℕ) (p : end ≡ place_from 0 s (at + code % 16)) where
      pub name-ends : end ≤ length s
      name-ends = name-within s h at _ _ end reads p

      pub name-short : length s - end ≤ h → Unread (decode h at (drop at s))
      name-short l = unread _ (decode-short s h at _ _ end reads p l)

      pub name-whole : h < length s - end
          → decode h at (drop at s)
          ≡ Ok (record { mode = code / 16; name_start = at + code % 16; name_end = end; id_start = end + 1; text_start = at }, record { at = end + 1 + h })
      name-whole l = decode-whole s h at _ _ end reads p l
