-- How the text of a mode is read as a mode (docs/FORMAT.md, "Modes"). Assumes nothing.
use Rattle.std.specs.Prelude.{ℕ, ◌+◌, List, length, drop, Err, None, Ok, Option, Result, Some, ⊤}
use Rattle.ground.specs.Verdict.{broken, size_gate}
use Rattle.mode_text.specs.Read.{text_of, read_text}
use Rattle.mode.specs.Mode.{accepted, rejected}
use Rattle.mode.specs.declared.ModeAnswer.{ModeAnswer}
unfoldable pub use Rattle.mode_text.specs.Read.{octal_from, has_six, text_len, settle, rest_at}
pub use Rattle.mode_text.specs.Read.{is_octal}
use Rattle.ground.specs.declared.Verdict.{Verdict}
use Rattle.mode.specs.declared.EntryMode.{EntryMode}

-- the 16 bits that a text says are a mode
abbrev pub made : Option (ℕ × ℕ) → Option (EntryMode × ℕ)
made (Some (m, n)) = Some (record { internal = m }, n)
made None = None

-- the mode at the front of some bytes, and where the rest begins
unfoldable pub read_mode : List ℕ → Option (EntryMode × ℕ)
read_mode i = made (read_text i)

-- a number from the digits makes a mode, with the text's first byte and the rest's place
abbrev pub mode_of : ℕ → ℕ → Option ℕ → Option (EntryMode × ℕ)
mode_of first rest o = made (text_of first rest o)

-- the rest's place counted from further back
abbrev pub moved : ℕ → Option (EntryMode × ℕ) → Option (EntryMode × ℕ)
moved at (Some (m, n)) = Some (m, at + n)
moved at None = None

-- the same from a place on: the rest's place is one of the whole
unfoldable pub read_mode_at : List ℕ → ℕ → Option (EntryMode × ℕ)
read_mode_at s at = moved at (read_mode (drop at s))

-- a text that stands alone is refused with 3, part 1, where it cannot be read
abbrev pub alone : Option (EntryMode × ℕ) → ModeAnswer
alone (Some (m, n)) = accepted m
alone None = rejected (broken 0 1)

-- a call that may not begin gives its refusal, any other what it finds
abbrev pub begun : Result ⊤ Verdict → ModeAnswer → ModeAnswer
begun (Ok tt) a = a
begun (Err v) a = rejected v

-- a mode text alone: first the buffer's bound, then its reading
unfoldable pub mode_alone : List ℕ → ModeAnswer
mode_alone i = begun (size_gate (length i) 0) (alone (read_mode i))
