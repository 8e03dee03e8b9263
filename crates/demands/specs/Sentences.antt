-- Sentences of docs/FORMAT.md about single calls, over the definitions that their contracts name. Assumes nothing.
use Rattle.std.specs.Prelude.{ℕ, ◌≤◌, ◌≡◌, Bool, List, ◌⊎◌, length, Ok}
use Rattle.ground.specs.Verdict.{fine, gate_of}
use Rattle.entry.specs.Record.{records_of}
use Rattle.entry.specs.Decode.{no_entry, step_of}
use Rattle.entry.specs.declared.EntryRecord.{EntryRecord}
use Rattle.entry.specs.declared.Cursor.{Cursor}
use Rattle.lookup.specs.Halving.{most_comparisons}
use Rattle.lookup.specs.Lookup.{lookup_in}
use Rattle.tree_write.specs.Write.{written, tree_size, tree_answer}
use Rattle.loose_header.specs.Header.{loose_header}
use Rattle.header.specs.declared.CommitParts.{CommitParts}
use Rattle.commit_write.specs.Write.{commit_size, commit_answer}
use Rattle.commit_write.specs.Write as commit

-- where a step leaves the cursor ("Entries")
pub record CursorSentences : Type 0 where
  -- after a 1 or a 2 it is as given
  pub as_given : (h : ℕ) (s : List ℕ) (c : Cursor) → ((step_of h s c).verdict.number ≡ 1) ⊎ ((step_of h s c).verdict.number ≡ 2) → (step_of h s c).next ≡ c
  -- after a 3 it stands at the end
  pub at-end : (h : ℕ) (s : List ℕ) (c : Cursor) → (step_of h s c).verdict.number ≡ 3 → (step_of h s c).next.at ≡ length s
  -- at or past the end it answers 0 with no entry, and stays
  pub past_end : (h : ℕ) (s : List ℕ) (c : Cursor) → gate_of h (length s) 0 ≡ Ok tt → length s ≤ c.at → step_of h s c ≡ no_entry fine c

-- what a lookup returns besides its verdict ("Lookup")
pub record LookupSentences : Type 0 where
  -- without a find the index is 0
  pub no_index : (h : ℕ) (object : List ℕ) (records : List EntryRecord) (name : List ℕ) (folder : Bool)
      → ((lookup_in h object records name folder).verdict.number ≡ 0 → ⊥) → (lookup_in h object records name folder).index ≡ 0
  -- it compares at most as many records as their number has binary digits
  pub few : (h : ℕ) (object : List ℕ) (records : List EntryRecord) (name : List ℕ) (folder : Bool)
      → (lookup_in h object records name folder).compared ≤ most_comparisons (length records)

-- sizes ("Tree writing", "Loose headers", "Commit writing")
pub record SizeSentences : Type 0 where
  -- where writing a tree is done, the size asked alone is the same answer, and counts the bytes written
  pub same_size : (h : ℕ) (bytes records : List ℕ) (room : ℕ) → (tree_answer h bytes records room).verdict.number ≡ 0 → tree_size h bytes records ≡ tree_answer h bytes records room
  pub true_size : (h : ℕ) (bytes records : List ℕ) (room : ℕ) → (tree_answer h bytes records room).verdict.number ≡ 0
      → (tree_answer h bytes records room).count ≡ length (written h bytes (records_of records))
  -- a loose header has at most 28 bytes
  pub short_header : (kind size : ℕ) → length (loose_header kind size) ≤ 28
  -- so it is with a commit
  pub same_commit_size : (h : ℕ) (bytes : List ℕ) (p : CommitParts) (parents headers : List ℕ) (room : ℕ) → (commit_answer h bytes p parents headers room).verdict.number ≡ 0
      → commit_size h bytes p parents headers ≡ commit_answer h bytes p parents headers room
  pub true_commit_size : (h : ℕ) (bytes : List ℕ) (p : CommitParts) (parents headers : List ℕ) (room : ℕ) → (commit_answer h bytes p parents headers room).verdict.number ≡ 0
      → (commit_answer h bytes p parents headers room).count ≡ length (commit.parts_written h bytes p parents headers)
