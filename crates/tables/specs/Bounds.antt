-- Number 2 in every call: what is over its bound, and what the call then says (docs/FORMAT.md, "Bounds"). `proofs/Bounds.antt` proves it.
-- Assumes nothing.
use Rattle.std.specs.Prelude.{ℕ, ◌/◌, ◌<◌, max, ◌≡◌, Bool, List, ◌⊎◌, length}
use Rattle.ground.specs.Verdict.{verdict, refused}
use Rattle.ground.specs.declared.Verdict.{Verdict}
use Rattle.mode.specs.Mode.{rejected}
use Rattle.mode.specs.Read.{mode_alone}
use Rattle.entry.specs.Record.{many, records_of}
use Rattle.entry.specs.Decode.{no_entry, step_of}
use Rattle.entry.specs.declared.EntryRecord.{EntryRecord}
use Rattle.entry.specs.declared.Cursor.{Cursor}
use Rattle.reading.specs.Listing.{listing}
use Rattle.reading.specs.Whole.{read_answer}
use Rattle.strict.specs.Strict.{strict_answer}
use Rattle.lookup.specs.Halving.{declined}
use Rattle.lookup.specs.Lookup.{lookup_in}
use Rattle.tree_write.specs.Write.{tree_size, tree_answer}
use Rattle.header.specs.Record.{width}
use Rattle.header.specs.declared.CommitParts.{CommitParts}
use Rattle.header.specs.declared.HeaderRecord.{HeaderRecord}
use Rattle.unfold.specs.Unfold.{unfold_answer}
use Rattle.commit_fields.specs.Fields.{refusal}
use Rattle.commit_read.specs.Read.{refused_read, commit_answer}
use Rattle.commit_write.specs.Write as write
use Rattle.difference.specs.Whole as difference

-- so many bytes, or so many records, are over their bound
abbrev pub Over : ℕ → ℕ → Type 0
Over bytes records = (1073741824 < bytes) ⊎ (1048576 < records)

-- the id length is one of the two
abbrev pub OneLength : ℕ → Type 0
OneLength h = (h ≡ 20) ⊎ (h ≡ 32)

abbrev pub two : Verdict
two = verdict 2 0

pub record OverLaws : Type 0 where
  -- the object, or the list that is lent for its records
  pub reads : (h : ℕ) (s lent : List ℕ) → OneLength h → Over (length s) (many (length lent)) → read_answer h s (listing h s) lent ≡ refused two
  pub strict : (k h : ℕ) (s lent : List ℕ) → (k ≡ 1) ⊎ (k ≡ 2) → OneLength h → Over (length s) (many (length lent)) → strict_answer k h s lent ≡ refused two
  -- a step lends no list
  pub steps : (h : ℕ) (s : List ℕ) (c : Cursor) → OneLength h → Over (length s) 0 → step_of h s c ≡ no_entry two c
  -- the object, the name sought, or the listing
  pub looks : (h : ℕ) (object : List ℕ) (records : List EntryRecord) (name : List ℕ) (folder : Bool) → OneLength h
      → Over (max (length object) (length name)) (length records) → lookup_in h object records name folder ≡ declined two
  -- the bytes, the output, or the records
  pub writes : (h : ℕ) (bytes records : List ℕ) (room : ℕ) → OneLength h → Over (max (length bytes) room) (length (records_of records))
      → tree_answer h bytes records room ≡ refused two
  pub sizes : (h : ℕ) (bytes records : List ℕ) → OneLength h → Over (length bytes) (length (records_of records)) → tree_size h bytes records ≡ refused two
  -- the commit, or one of the two lists that are lent
  pub commits : (s : List ℕ) (h : ℕ) (ps hs : List ℕ) → OneLength h → Over (length s) (max (length ps) (length hs / width))
      → commit_answer s h ps hs ≡ refused_read (refusal 2 0 0)
  -- the bytes, the output, the parents, or the headers
  pub commit_writes : (h : ℕ) (bytes : List ℕ) (p : CommitParts) (parents headers : List ℕ) (room : ℕ) → OneLength h
      → Over (max (length bytes) room) (max (length parents) (length headers / width)) → write.commit_answer h bytes p parents headers room ≡ refused two
  pub commit_sizes : (h : ℕ) (bytes : List ℕ) (p : CommitParts) (parents headers : List ℕ) → OneLength h
      → Over (length bytes) (max (length parents) (length headers / width)) → write.commit_size h bytes p parents headers ≡ refused two
  -- the bytes, or the output
  pub unfolds : (s : List ℕ) (x : HeaderRecord) (out : List ℕ) → Over (max (length s) (length out)) 0 → unfold_answer s x out ≡ refused two
  -- a mode text alone
  pub modes : (i : List ℕ) → Over (length i) 0 → mode_alone i ≡ rejected two
  -- the bundle, the bytes for paths, a root id, or the items
  pub compares : (s left right : List ℕ) (bytes room : ℕ) → Over (max (max (length s) bytes) (max (length left) (length right))) room
      → difference.answer s left right bytes room ≡ refused two
