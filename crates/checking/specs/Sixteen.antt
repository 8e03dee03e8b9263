-- Where 16 is given, in plain words (docs/FORMAT.md, "A check in pieces"). Assumes nothing.
use Rattle.std.specs.Prelude.{ℕ, ◌≤◌, ◌<◌, ◌≡◌, List, [], ◌∷◌, length, drop, Ok, Some}
use Rattle.ground.specs.Scan.{count_to}
use Rattle.ground.specs.Verdict.{most_records}
use Rattle.mode.specs.Read.{read_mode}
use Rattle.mode.specs.declared.EntryMode.{EntryMode}
use Rattle.entry.specs.Record.{name_of}
use Rattle.entry.specs.Entry.{Entry, entry_of}
use Rattle.entry.specs.Decode.{decode}
use Rattle.entry.specs.declared.EntryRecord.{EntryRecord}
use Rattle.entry.specs.declared.Cursor.{Cursor}
use Rattle.rules.specs.Rules.{judge, git_rules}
use Rattle.strict.specs.Strict.{text_of}
use Rattle.arriving.specs.Feed.{most_held}

-- an entry whose mode reads, and whose name has no NUL among its first 4,097 bytes
pub record LongName (b : List ℕ) : Type 0 where
  pub mode : EntryMode
  pub size : ℕ
  pub reads : read_mode b ≡ Some (mode, size)
  pub passes : most_held < count_to 0 (drop size b)

-- strict reading of the object s reaches a place after these entries, the nearest first: each is whole, has a name that can be held, and keeps the rules
pub data Reached (k h : ℕ) (s : List ℕ) : ℕ → List Entry → Type 0 where
  begins : Reached k h s 0 []
  past : {at : ℕ} {seen : List Entry} → Reached k h s at seen → (e : EntryRecord) (next : Cursor) → length seen < most_records → at < length s
      → decode h at (drop at s) ≡ Ok (e, next) → length (name_of s e) ≤ most_held → judge (git_rules k) seen (text_of s at e) (entry_of h s e) ≡ 0
      → Reached k h s next.at (entry_of h s e ∷ seen)

-- it reaches an entry with such a name
pub record MeetsLong (k h : ℕ) (s : List ℕ) (at : ℕ) : Type 0 where
  pub seen : List Entry
  pub reached : Reached k h s at seen
  pub few : length seen < most_records
  pub long : LongName (drop at s)
