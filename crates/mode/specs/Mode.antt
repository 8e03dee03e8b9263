-- What the 16 bits of a mode stand for, and which 32-bit numbers are modes (docs/FORMAT.md, "Modes"). Assumes nothing.
use Rattle.std.specs.Prelude.{ℕ, ◌/◌, ◌%◌, ◌*◌, Bool, ◌||◌, eqb}
use Rattle.ground.specs.Basics.{pick}
use Rattle.ground.specs.Verdict.{verdict, fine}
use Rattle.ground.specs.declared.Verdict.{Verdict}
use Rattle.mode_text.specs.declared.ShortText.{ShortText}
use Rattle.mode_table.specs.Table.{written_of}
use Rattle.mode.specs.declared.EntryMode.{EntryMode}
use Rattle.mode_table.specs.declared.EntryKind.{EntryKind}
use Rattle.mode_table.specs.declared.EntryKind.TheVariants.{Tree, Blob, BlobExecutable, Link, Commit}
use Rattle.mode.specs.declared.ModeAnswer.{ModeAnswer}
pub use Rattle.mode_table.specs.Kind.{is_executable, is_file_or_link}

-- the highest four of 16 bits, in their place
abbrev pub top_bits : ℕ → ℕ
top_bits m = m / 0o10000 % 16 * 0o10000

-- the number a mode stands for: itself, but 16384 for every mode whose top four bits are those of 49152
unfoldable pub value_of : ℕ → ℕ
value_of m = pick (eqb (top_bits m) 0o140000) 0o40000 m

-- what sort of entry it is: the top four bits of that number
unfoldable pub sort_of : ℕ → ℕ
sort_of m = top_bits (value_of m)

-- bit 6 is set, by which the owner may execute the file
unfoldable pub executes : ℕ → Bool
executes m = eqb (value_of m / 0o100 % 2) 1

-- a regular file that can be executed or not, a link, a tree; every other sort counts as a commit, and so does mode 0
unfoldable pub kind_of : ℕ → EntryKind
kind_of m =
    pick (eqb (sort_of m) 0o100000) (pick (executes m) BlobExecutable Blob)
    (pick (eqb (sort_of m) 0o120000) Link (pick (eqb (sort_of m) 0o40000) Tree Commit))

-- the word of a mode's kind
unfoldable pub word_of : ℕ → ShortText
word_of m = (written_of (kind_of m)).word

-- the sort is a tree's
unfoldable pub is_tree : ℕ → Bool
is_tree m = eqb (sort_of m) 0o40000

-- a mode that is given, with number 0
abbrev pub accepted : EntryMode → ModeAnswer
accepted m = record { verdict = fine; mode = m }

-- none is given: the refusal, and the mode of number 0
abbrev pub rejected : Verdict → ModeAnswer
rejected v = record { verdict = v; mode = record { internal = 0 } }

-- 16384, 40960, 57344 and each number with bit 15 set are modes, by their low 16 bits; every other number is refused with 23
unfoldable pub from_number : ℕ → ModeAnswer
from_number n =
    pick (eqb n 16384 || eqb n 40960 || eqb n 57344 || eqb (n / 0o100000 % 2) 1)
    (accepted (record { internal = n % 0o200000 })) (rejected (verdict 23 0))
