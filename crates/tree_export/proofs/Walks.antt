-- Laws of the walk over an object's entries that stores their text. Assumes nothing.
use Prim.Native.Nat.{ℕ, ◌+◌, ◌*◌, ◌<◌, ◌≤◌}
use native.Mathlib.Nat.{add-zero}
use native.Mathlib.Omega.{arith}
use mathlib.Core.Path.{◌≡◌, refl, ap, sym, ◌∙◌}
use mathlib.Core.List.{List, [], ◌++◌}
use lib.ListN.{length, drop, length-append}
use lib.Seq.{sets}
use Rattle.ground.specs.Verdict.{most_records}
use Rattle.ground.specs.declared.Verdict.{Verdict}
use Rattle.ground.proofs.Laws.{sets_append}
use Rattle.entry.specs.Decode.{decode}
use Rattle.entry.specs.Entry.{entries_of, entry_of}
use Rattle.entry.specs.declared.EntryRecord.{EntryRecord}
use Rattle.entry.specs.declared.Cursor.{Cursor}
use Rattle.entry.proofs.Laws.{decode-inside}
use Rattle.reading.specs.Listing.{Listing, records_in}
use Rattle.reading.proofs.Laws.{rest_at, rest_end, none_full, none_left, whole_here}
use Rattle.tree_text.specs.Text.{record_text, as_text}
use Rattle.tree_export.specs.Export.{text_in}
use Rattle.tree_export.specs.Code.{Added}
use Rattle.std.specs.Prelude.{Err, Ok}

-- the text of what is read past a place
abbrev pub text_from : ℕ → List ℕ → Listing → List ℕ
text_from h s l = as_text (entries_of h s (records_in l))

-- n entries are read and stored: what is left of the whole text is that of the rest
pub record Walking (h : ℕ) (s out : List ℕ) (at n : ℕ) (now : List ℕ) (p : ℕ) : Type 0 where
  pub left : length (text_in h s) ≡ p + length (text_from h s (rest_at h s at n))
  pub same : sets out 0 (text_in h s) ≡ sets now p (text_from h s (rest_at h s at n))
  pub few : n ≤ most_records
  pub small : p ≤ n * 1073741905

pub walking_start : (h : ℕ) (s out : List ℕ) → Walking h s out 0 0 out 0
walking_start h s out = record { left = omega arith; same = refl; few = omega arith; small = omega arith }

module _ (h : ℕ) (s out : List ℕ) (at n : ℕ) (now : List ℕ) (p : ℕ) (w : Walking h s out at n now p) where
  ended : records_in (rest_at h s at n) ≡ [] → Added out 0 (text_in h s) now p
  unfolding as_text
  ended e =
      let z : text_from h s (rest_at h s at n) ≡ [] = rw e in
      record { place = sym (w.left ∙ rw z (add-zero p)) ∙ omega arith; stores = sym (w.same ∙ rw z) }

  pub walking_end : length s ≤ at → Added out 0 (text_in h s) now p
  unfolding records_in
  walking_end l = ended (ap records_in (rest_end h s at n l))

  pub walking_full : most_records ≤ n → Added out 0 (text_in h s) now p
  walking_full l = ended (none_full h s at n l)

  pub walking_broken : n < most_records → {v : Verdict} → decode h at (drop at s) ≡ Err v → Added out 0 (text_in h s) now p
  walking_broken l d = ended (none_left h s at n l d)

  pub walking_more : n < most_records → (e : EntryRecord) (next : Cursor) → decode h at (drop at s) ≡ Ok (e, next) → (after : List ℕ) (q : ℕ)
      → Added now p (record_text (entry_of h s e)) after q × (q ≤ p + 1073741905) → Walking h s out next.at (n + 1) after q
  unfolding records_in as_text
  walking_more l e next d after q a =
      let t : text_from h s (rest_at h s at n) ≡ record_text (entry_of h s e) ++ text_from h s (rest_at h s next.at (n + 1)) =
      ap (text_from h s) (whole_here h s at n l d) in
      record {
        left = w.left ∙ rw (t, length-append (record_text (entry_of h s e)) (text_from h s (rest_at h s next.at (n + 1)))) (omega (arith, a.0.place));
        same =
            w.same ∙ rw (t, sets_append now p (record_text (entry_of h s e)) (text_from h s (rest_at h s next.at (n + 1)))) (rw (a.0.place, a.0.stores) refl);
        few = omega arith;
        small = omega (arith, w.small, a.1);
      }

-- an entry that was decoded lies inside
pub inside : (h : ℕ) (s : List ℕ) (at : ℕ) (e : EntryRecord) (next : Cursor) → decode h at (drop at s) ≡ Ok (e, next)
    → (e.name_start ≤ e.name_end) × (e.name_end ≤ length s) × (e.id_start + h ≤ length s)
inside h s at e next d = let i = decode-inside h s at e next d in (i.1, omega (arith, i.2, i.3, i.4), omega (arith, i.3, i.4))
