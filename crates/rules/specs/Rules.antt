-- The rules of strict reading: what they say of an entry after the ones before it, and the rules of the two rule sets (docs/FORMAT.md, "Strict reading").
-- Assumes nothing.
use Rattle.std.specs.Prelude.{ℕ, Bool, true, false, ◌&&◌, ◌||◌, List, [], ◌∷◌, eqb}
use Rattle.ground.specs.Basics.{pick, ascii}
use Rattle.ground.specs.Scan.{same_bytes, free_of}
use Rattle.mode.specs.Mode.{is_tree}
use Rattle.mode_table.specs.Table.{rows}
use Rattle.mode_text.specs.Write.{shown}
use Rattle.mode_text.specs.Write.{short}
use Rattle.mode_table.specs.declared.EntryKind.TheVariants.{Blob}
use Rattle.mode_table.specs.declared.Written.{Written}
use Rattle.order.specs.Order.{is_below, name_order}
use Rattle.entry.specs.Entry.{Entry}
use Rattle.doubles.specs.Doubles.{named_before}
unfoldable pub use Rattle.names.specs.Names.{is_plain, is_dot_git, reserved_number, bare_number}
pub use Rattle.names.specs.Names.{or_else, lower}

-- What is permitted: the rows of the mode table, and what is said of a name, and of an entry after the ones before it, the nearest first.
-- A 0 says that it is permitted; any other number is the refusal.
pub record Rules : Type 0 where
  pub modes : List Written
  pub name_no : List ℕ → ℕ
  pub after_no : List Entry → Entry → ℕ

-- a mode text of one of the rows
abbrev pub is_text : List Written → List ℕ → Bool
is_text [] t = false
is_text (r ∷ rs) t = same_bytes t (shown r.text) || is_text rs t

-- what the rules say of an entry with its mode text, after the entries before: 5, then its name, then its place
unfoldable pub judge : Rules → List Entry → List ℕ → Entry → ℕ
judge R before text e = or_else (pick (is_text R.modes text) 0 5) (or_else (R.name_no e.name) (R.after_no before e))

-- ---- a name

-- a plain name, free of NUL
unfoldable pub permitted : List ℕ → Bool
permitted n = free_of 0 n && is_plain n

-- 6 for a name that is not permitted; 18 for `.git` with letters in upper case: `bare_number`, but for NUL, which no name of an entry that was read has
unfoldable pub name_number : List ℕ → ℕ
name_number n = or_else (pick (permitted n) 0 6) (pick (is_dot_git n) 18 0)

-- ---- a place among the entries

-- one entry stands strictly before another in Git's order
unfoldable pub stands_before : Entry → Entry → Bool
stands_before a b = is_below (name_order a.name (is_tree a.mode) b.name (is_tree b.mode))

-- an entry stands strictly after the nearest before it
unfoldable pub is_after : List Entry → Entry → Bool
is_after [] e = true
is_after (p ∷ ps) e = stands_before p e

-- 7 for an entry that does not stand after the one before; 17 for one whose name an entry before has
unfoldable pub after_number : List Entry → Entry → ℕ
after_number before e = or_else (pick (is_after before e) 0 7) (pick (named_before before e.name) 17 0)

-- ---- the rule sets 1 and 2

-- the mode that early Git gave a group-writable file; it is no kind's own, and its kind is a file's
unfoldable pub group_row : Written
group_row = record { mode = 0o100664; kind = Blob; text = short (ascii "100664"); word = short (ascii "blob") }

-- the modes of a rule set: the five written ones, and in set 1 that of early Git
abbrev pub modes_of : ℕ → List Written
modes_of k = pick (eqb k 1) (group_row ∷ rows) rows

-- the rules of a rule set: its modes, and what is said of a name and of an entry's place
unfoldable pub git_rules : ℕ → Rules
git_rules k = record { modes = modes_of k; name_no = name_number; after_no = after_number }
