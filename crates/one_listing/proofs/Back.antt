-- What was written reads back: a listing as written is read plainly to its end, and the records name its entries. Assumes nothing.
use Prim.Native.Nat.{ℕ, zero, suc, ◌+◌, ◌-◌, ◌≤◌, ◌<◌}
use native.Mathlib.Omega.{arith}
use mathlib.Core.Path.{◌≡◌, refl, ap, sym, ◌∙◌}
use mathlib.Core.Bool.{true}
use mathlib.Core.List.{List, [], ◌∷◌, ◌++◌, append_assoc, map}
use lib.Dec.{leb}
use lib.ListN.{length, drop, length-append}
use lib.Seq.{drop-append-add, take-append_seam, take_at, drop_at, drop-drop}
use borrow.Author.Tests.{le-leb}
use Rattle.ground.specs.Scan.{count_to, free_of}
use Rattle.ground.proofs.Laws.{count_free}
use Rattle.mode.specs.Read.{read_mode}
use Rattle.mode_text.specs.Write.{write_mode, again}
use Rattle.mode_round.proofs.Again.{written_reads}
use Rattle.entry.specs.Record.{name_of, id_of}
use Rattle.entry.specs.Entry.{Entry, entry_bytes, as_written, entry_of, entries_of}
use Rattle.entry.specs.Decode.{record_at, decode, decode_mode, decode_name}
use Rattle.entry.specs.declared.EntryRecord.{EntryRecord}
use Rattle.reading.specs.Listing.{Listing, done, entry, follow, plain, records_in}
use Rattle.reading.proofs.Laws.{plain-some, plain-none}
use Rattle.one_listing.specs.Again.{again_entry}
use Rattle.std.specs.Prelude.{Ok}

-- an entry that can be written and read again: a mode of 16 bits that is not 0, no NUL in the name, an id of h bytes
pub record Writable (h : ℕ) (e : Entry) : Type 0 where
  pub mode : e.mode < 65536
  pub some : e.mode ≡ 0 → ⊥
  pub name : free_of 0 e.name ≡ true
  pub id : length e.id ≡ h

abbrev pub AllWritable : ℕ → List Entry → Type 0
AllWritable h [] = Unit {0}
AllWritable h (e ∷ es) = Writable h e × AllWritable h es

-- the record of an entry, where it was written at a place
unfoldable pub record_for : ℕ → Entry → EntryRecord
record_for at e = record_at at (again e.mode) (length (write_mode e.mode) + 1) (length e.name)

-- the listing of entries written one after the other
unfoldable pub listed : ℕ → List Entry → Listing
listed at [] = done
listed at (e ∷ es) = entry at (record_for at e) (listed (at + length (entry_bytes e)) es)

-- ---- one entry

module _ (h : ℕ) (e : Entry) (f : Writable h e) (r : List ℕ) where
  abbrev size : ℕ
  size = length (write_mode e.mode) + 1

  pub bytes_append : entry_bytes e ++ r ≡ write_mode e.mode ++ 32 ∷ (e.name ++ 0 ∷ (e.id ++ r))
  unfolding entry_bytes
  bytes_append = simp append_assoc

  past-mode : drop size (entry_bytes e ++ r) ≡ e.name ++ 0 ∷ (e.id ++ r)
  past-mode = rw bytes_append (drop-append-add (write_mode e.mode) (32 ∷ (e.name ++ 0 ∷ (e.id ++ r))) 1)

  past-name : drop (length e.name + 1) (e.name ++ 0 ∷ (e.id ++ r)) ≡ e.id ++ r
  past-name = drop-append-add e.name (0 ∷ (e.id ++ r)) 1

  pub bytes-length : length (entry_bytes e) ≡ size + (length e.name + 1 + h)
  unfolding entry_bytes
  bytes-length = simp length-append (omega (arith, f.id))

  pub bytes-decode : (at : ℕ) → decode h at (entry_bytes e ++ r) ≡ Ok (record_for at e, record { at = at + length (entry_bytes e) })
  unfolding decode decode_mode decode_name record_for
  bytes-decode at =
      let c : List ℕ = e.name ++ 0 ∷ (e.id ++ r) in
      let n : count_to 0 c ≡ length e.name = count_free 0 e.name (e.id ++ r) f.name in
      let z : at + size + (length e.name + 1 + h) ≡ at + length (entry_bytes e) = omega (arith, bytes-length) in
      let fits : leb (length e.name + 1 + h) (length c) ≡ true = le-leb (length e.name + 1 + h) (length c) (simp length-append (omega (arith, f.id))) in
      ap (decode_mode h at (entry_bytes e ++ r)) (ap read_mode bytes_append ∙ written_reads e.mode (e.name ++ 0 ∷ (e.id ++ r)) f.some f.mode)
      ∙ ap (decode_name h at (again e.mode) size) past-mode
      ∙ rw (n, fits, z)

  pub bytes_past : (at : ℕ) → drop (at + length (entry_bytes e) - at) (entry_bytes e ++ r) ≡ r
  bytes_past at = drop_at (entry_bytes e) r (at + length (entry_bytes e) - at) (omega arith)

  pub bytes_read : (k at : ℕ) → plain h (suc k) at (entry_bytes e ++ r) ≡ entry at (record_for at e) (plain h k (at + length (entry_bytes e)) r)
  unfolding follow
  bytes_read k at =
      plain-some h k at (entry_bytes e ++ r) (simp length-append (omega (arith, bytes-length)))
      ∙ rw (bytes-decode at, bytes_past at)

  -- the record names the entry in the object
  pub record_names : (p : List ℕ) → entry_of h (p ++ (entry_bytes e ++ r)) (record_for (length p) e) ≡ again_entry e
  unfolding entry_of name_of id_of record_for again_entry
  record_names p =
      let s : List ℕ = p ++ (entry_bytes e ++ r) in
      let a : drop (length p + size) s ≡ e.name ++ 0 ∷ (e.id ++ r) = drop-append-add p (entry_bytes e ++ r) size ∙ past-mode in
      let b : drop (length p + size + (length e.name + 1)) s ≡ e.id ++ r
      = sym (drop-drop (length e.name + 1) (length p + size) s) ∙ ap (drop (length e.name + 1)) a ∙ past-name in
      let z : length p + size + length e.name - (length p + size) ≡ length e.name = omega arith in
      rw (z, a, b, take-append_seam e.name (0 ∷ (e.id ++ r)), take_at e.id r h f.id)

-- ---- all of them

pub read_written : (h k at : ℕ) (es : List Entry) → AllWritable h es → length es ≤ k → plain h k at (as_written es) ≡ listed at es
unfolding as_written listed
read_written h k at [] f p = plain-none h k at
read_written h zero at (e ∷ es) f p = absurd (omega arith)
read_written h (suc k) at (e ∷ es) f p =
    bytes_read h e f.0 (as_written es) k at ∙ ap (entry at (record_for at e)) (read_written h k (at + length (entry_bytes e)) es f.1 (omega arith))

pub names-listed : (h : ℕ) (p : List ℕ) (es : List Entry) → AllWritable h es
    → entries_of h (p ++ as_written es) (records_in (listed (length p) es)) ≡ map again_entry es
unfolding as_written listed records_in
names-listed h p [] f = refl
names-listed h p (e ∷ es) f =
    let s : (p ++ entry_bytes e) ++ as_written es ≡ p ++ (entry_bytes e ++ as_written es) = append_assoc p (entry_bytes e) (as_written es) in
    let l : length (p ++ entry_bytes e) ≡ length p + length (entry_bytes e) = length-append p (entry_bytes e) in
    let q : entries_of h (p ++ (entry_bytes e ++ as_written es)) (records_in (listed (length p + length (entry_bytes e)) es)) ≡ map again_entry es
    = rw (s, l) at (names-listed h (p ++ entry_bytes e) es f.1) in
    let n : entry_of h (p ++ (entry_bytes e ++ as_written es)) (record_for (length p) e) ≡ again_entry e = record_names h e f.0 (as_written es) p in
    cc

pub listed-length : (at : ℕ) (es : List Entry) → length (records_in (listed at es)) ≡ length es
unfolding listed records_in
listed-length at [] = refl
listed-length at (e ∷ es) = ap suc (listed-length (at + length (entry_bytes e)) es)
