-- What the private functions of importing say, by elements of the crate `sorting`: places of records in the text. Assumes nothing.
use Rattle.std.specs.Prelude.{ℕ, ◌+◌, ◌*◌, ◌/◌, ◌≡◌, Bool, true, ◌&&◌, List, [], ◌∷◌, ◌++◌, length, drop}
use Rattle.ground.specs.Basics.{pick}
use Rattle.ground.specs.Verdict.{verdict}
use Rattle.ground.specs.declared.Answer.{Answer}
use Rattle.mode.specs.Mode.{is_tree}
use Rattle.entry.specs.Entry.{entry_bytes}
use Rattle.keys.specs.Key.{key_at, below_by}
use Rattle.sorting.specs.Sort.{sort_by}
use Rattle.text_record.specs.Record.{text_number, entry_in}
use Rattle.text_import.specs.Import.{Texts, done, stop, one, entries_in, ending}

-- the element of a record of a mode: twice its place, and one more for a folder where those are told apart
unfoldable pub element_of : Bool → ℕ → ℕ → ℕ
element_of folders at mode = at * 2 + pick (folders && is_tree mode) 1 0

-- the elements of the records that were read
unfoldable pub elements_in : Texts → List ℕ
elements_in done = []
elements_in (stop v) = []
elements_in (one at e l) = element_of true at e.mode ∷ elements_in l

-- the places of the records that were read
unfoldable pub places_in : Texts → List ℕ
places_in done = []
places_in (stop v) = []
places_in (one at e l) = at ∷ places_in l

-- an answer of a number, a place and a count
abbrev pub halted : ℕ → ℕ → ℕ → Answer
halted number place count = record { verdict = verdict number place; count = count }

-- how reading ended, and how many records there are
unfoldable pub gathered : Texts → Answer
gathered t = record { verdict = ending t; count = length (entries_in t) }

-- the elements in Git's order: by their keys, names with a slash behind a folder's
abbrev pub in_order : List ℕ → Texts → List ℕ
in_order s t = sort_by (below_by (key_at s 9 0)) (elements_in t)

-- a record can be read at the place of each element
abbrev pub AllRead : ℕ → ℕ → List ℕ → List ℕ → Type 0
AllRead k h s [] = Unit {0}
AllRead k h s (x ∷ l) = (text_number k h (drop (x / 2) s) ≡ 0) × AllRead k h s l

-- the bytes of the entries of elements in turn
unfoldable pub all_bytes : ℕ → ℕ → List ℕ → List ℕ → List ℕ
all_bytes k h s [] = []
all_bytes k h s (x ∷ l) = entry_bytes (entry_in k h (drop (x / 2) s)) ++ all_bytes k h s l
