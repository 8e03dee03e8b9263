-- What is claimed of importing, by its definition (`proofs/Theorem.antt` proves it); of every run of the call it is said in `paper/specs/Exchange`.
-- Assumes nothing.
use Rattle.std.specs.Prelude.{ℕ, ◌≤◌, ◌≡◌, List, length}
use Rattle.ground.specs.Verdict.{counted, most_bytes, most_records}
use Rattle.entry.specs.Record.{many}
use Rattle.entry.specs.Entry.{Entry, as_written}
use Rattle.rules.specs.Rules.{git_rules, stands_before}
use Rattle.one_listing.specs.Sound.{SoundListing}
use Rattle.one_listing.specs.Demand.{Accepts, SameSet}
use Rattle.sorting.specs.Sort.{sort_by, Perm}
use Rattle.tree_text.specs.Text.{as_text}
use Rattle.tree_export.specs.Export.{text_in, export_answer}
use Rattle.text_import.specs.Import.{texts, entries_in, imported, import_answer}

-- the entries that the records of a text say, as they come, and in Git's order
abbrev pub given : ℕ → ℕ → List ℕ → List Entry
given k h s = entries_in (texts k h s)

unfoldable pub imported_listing : ℕ → ℕ → List ℕ → List Entry
imported_listing k h s = sort_by stands_before (given k h s)

-- a call that was done, by rule set k, with so much room
abbrev pub Done : ℕ → ℕ → List ℕ → ℕ → Type 0
Done k h s room = (import_answer k h s room).verdict.number ≡ 0

pub record Importing : Type 0 where
  -- the object is a sound listing as written, and its entries are those that the records say, each as often
  pub says : (k h : ℕ) (s : List ℕ) (room : ℕ) → Done k h s room
      → SoundListing k h (imported_listing k h s) × (imported (texts k h s) ≡ as_written (imported_listing k h s)) × Perm (imported_listing k h s) (given k h s)
  -- its bytes are counted
  pub counts : (k h : ℕ) (s : List ℕ) (room : ℕ) → Done k h s room → import_answer k h s room ≡ counted (length (imported (texts k h s)))
  -- the strict reader accepts the object under the same rule set, with just these entries
  pub accepted : (k h : ℕ) (s : List ℕ) (room : ℕ) (lent : List ℕ) → Done k h s room → length (imported_listing k h s) ≤ many (length lent)
      → many (length lent) ≤ most_records → Accepts (git_rules k) h (imported (texts k h s)) lent (imported_listing k h s)
  -- exported again by the same rule set, into any room for it, it is the same records in Git's order
  pub exported : (k h : ℕ) (s : List ℕ) (room back : ℕ) → Done k h s room → length (as_text (imported_listing k h s)) ≤ back → back ≤ most_bytes
      → (text_in h (imported (texts k h s)) ≡ as_text (imported_listing k h s))
      × (export_answer k h (imported (texts k h s)) back ≡ counted (length (as_text (imported_listing k h s))))
  -- two texts with the same set of records are imported to the same bytes
  pub same_set : (k h : ℕ) (s t : List ℕ) (room space : ℕ) → Done k h s room → Done k h t space → SameSet (given k h s) (given k h t)
      → imported (texts k h s) ≡ imported (texts k h t)
