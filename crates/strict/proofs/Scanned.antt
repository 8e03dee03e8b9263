-- Laws of an entry whose name one scan goes over, for NUL and slash: where it stops, and that such an entry keeps the rules by itself. Assumes nothing.
use Prim.Native.Nat.{ℕ, ◌+◌, ◌-◌, ◌/◌, ◌%◌, ◌<◌, ◌≤◌, min}
use native.Mathlib.Omega.{arith}
use mathlib.Core.Path.{◌≡◌, refl, ap, sym, ◌∙◌}
use mathlib.Core.Bool.{true}
use mathlib.Core.List.{List}
use lib.ListN.{length, get_or, drop, length-take, length-drop}
use Rattle.ground.specs.Basics.{part}
use Rattle.ground.specs.Scan.{place_from, free_of}
use Rattle.ground.proofs.Laws.{place-from, count-take, free_whole}
use Rattle.scan.proofs.Laws.{place-most}
use Rattle.mode_code.specs.Code.{code_at, quick_at}
use Rattle.mode_code.proofs.Laws.{quick_is-code}
use Rattle.entry.specs.Record.{name_of}
use Rattle.entry.specs.declared.EntryRecord.{EntryRecord}
use Rattle.entry.specs.declared.Cursor.{Cursor}
use Rattle.rules.proofs.Laws.{number-slashless}
use Rattle.rules.proofs.Quick.{mode_quick}
use Rattle.reading.proofs.Front.{name_starts, name-ends, name-whole}
use Rattle.strict.specs.Strict.{text_of}
use Rattle.strict.specs.Code.{NameKept, seen_at}
use Rattle.strict.proofs.Judging.{entry_named, seen-good}
use Rattle.strict.proofs.Strictly.{decoded_free}
use Rattle.std.specs.Prelude.{Ok}

-- a scan that stops at a NUL
module _ (s : List ℕ) (start end : ℕ) (q : end ≡ min (place_from 0 s start) (place_from 47 s start)) (l : end < length s) (z : get_or s end 0 ≡ 0) where
  starts : start ≤ end
  starts = omega (arith, place-from 0 s start, place-from 47 s start)

  -- there is none before
  stop_nul : end ≡ place_from 0 s start
  stop_nul =
      let e : start + (end - start) ≡ end = omega (arith, starts) in
      omega (arith, q, place-most 0 s start (end - start) (omega (arith, starts)) (ap (λ (i : ℕ). get_or s i 0) e ∙ z))

  -- nor a slash
  stop_free : free_of 47 (part start end s) ≡ true
  unfolding place_from
  stop_free =
      free_whole 47 (part start end s)
      (omega (arith, q, starts, count-take 47 (end - start) (drop start s), length-take (end - start) (drop start s), length-drop start s))

-- a mode of those written, and a scan of the name behind it
module _ (h : ℕ) (s : List ℕ) (at code : ℕ) (q : code ≡ quick_at s at) (some : code ≡ 0 → ⊥) where
  its_code : code ≡ code_at s at
  its_code = q ∙ sym (quick_is-code s at (λ e. some (q ∙ e)))

  pub scan_starts : at + code % 16 ≤ length s
  scan_starts = name_starts s h at code its_code some

  module _ (end : ℕ) (p : end ≡ min (place_from 0 s (at + code % 16)) (place_from 47 s (at + code % 16))) where
    pub scan-within : (at + code % 16 ≤ end) × (end ≤ length s)
    scan-within =
        let i : ℕ = at + code % 16 in
        (omega (arith, p, place-from 0 s i, place-from 47 s i), omega (arith, p, name-ends s h at code its_code some (place_from 0 s i) refl))

    -- what is laid out so is the entry there, and it is kept
    pub scan_kept : (k : ℕ) → NameKept h s (at + code % 16) end
        → Ok (record { mode = code / 16; name_start = at + code % 16; name_end = end; id_start = end + 1; text_start = at }, record { at = end + 1 + h })
        ≡ seen_at k h s at
    unfolding text_of name_of
    scan_kept k w =
        let i : ℕ = at + code % 16 in
        let e : EntryRecord = record { mode = code / 16; name_start = i; name_end = end; id_start = end + 1; text_start = at } in
        let next : Cursor = record { at = end + 1 + h } in
        let l : end < length s = omega (arith, w.0) in
        let d = name-whole s h at code its_code some end (stop_nul s i end p l w.1) w.0 in
        let t = mode_quick k s at i (λ z. some (q ∙ z)) (ap (λ (c : ℕ). at + c % 16) its_code) in
        let b = sym (number-slashless (part i end s) (stop_free s i end p l w.1) ∙ w.2) in
        seen-good k s at _ e next d 0 (entry_named k s at e t (decoded_free h s at e next d) b) refl
