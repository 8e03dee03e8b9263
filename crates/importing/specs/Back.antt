-- What is claimed of exporting, of exporting and then importing, and of importing and then exporting, by the definitions of both (`proofs/Back.antt` and
-- `proofs/Laid.antt` prove it). Assumes nothing.
use Rattle.std.specs.Prelude.{ℕ, ◌≤◌, ◌≡◌, List, length}
use Rattle.ground.specs.Verdict.{counted, most_bytes}
use Rattle.entry.specs.Entry.{Entry, as_written}
use Rattle.one_listing.specs.Sound.{Ascending, SoundListing}
use Rattle.hex_of_id.specs.Demand.{Bytes}
use Rattle.tree_text.specs.Text.{as_text}
use Rattle.tree_export.specs.Export.{text_in, export_answer}
use Rattle.text_import.specs.Import.{texts, imported, import_answer}
use Rattle.importing.specs.Importing.{given, imported_listing, Done}

-- an export that was done, by rule set k, into so much room
abbrev pub ExportDone : ℕ → ℕ → List ℕ → ℕ → Type 0
ExportDone k h s room = (export_answer k h s room).verdict.number ≡ 0

-- an object and its text say one sound listing: the object is that listing as written, and the text is that listing as text
pub record SaysListing (k h : ℕ) (s text : List ℕ) : Type 0 where
  pub entries : List Entry
  pub sound : SoundListing k h entries
  pub object : s ≡ as_written entries
  pub records : text ≡ as_text entries

-- where exporting is done, object and text say one sound listing, and what is counted is the text's length
abbrev pub ExportSays : Type 0
ExportSays =
    (k h : ℕ) (s : List ℕ) (room : ℕ) → ExportDone k h s room → SaysListing k h s (text_in h s) × (export_answer k h s room ≡ counted (length (text_in h s)))

-- Where exporting is done, its text is imported by the same rule set to the same object, into any room for it. That each number of the object is below 256
-- is asked for: a contract says nothing of it.
abbrev pub SameObject : Type 0
SameObject =
    (k h : ℕ) (s : List ℕ) (room back : ℕ) → Bytes s → ExportDone k h s room → length s ≤ back → back ≤ most_bytes
    → (import_answer k h (text_in h s) back ≡ counted (length s)) × (imported (texts k h (text_in h s)) ≡ s)

-- A text that is imported is the text of its own entries, byte for byte; so where its records stand in Git's order, it is that of the listing.
abbrev pub SameText : Type 0
SameText =
    (k h : ℕ) (s : List ℕ) (room : ℕ) → Done k h s room
    → (s ≡ as_text (given k h s)) × (Ascending (given k h s) → s ≡ as_text (imported_listing k h s))
