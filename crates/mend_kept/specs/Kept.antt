-- What is done to each entry of a tree that is mended, which entries are kept, and the new object (docs/FORMAT.md, "Mending"). Assumes nothing.
use Rattle.std.specs.Prelude.{ℕ, Bool, false, ◌||◌, List, [], ◌∷◌, map, ltb}
use Rattle.ground.specs.Basics.{pick}
use Rattle.ground.specs.Scan.{same_bytes}
use Rattle.entry.specs.Record.{name_of, id_of}
use Rattle.entry.specs.Entry.{Entry, as_written}
use Rattle.entry.specs.declared.EntryRecord.{EntryRecord}
use Rattle.rules.specs.Rules.{name_number, stands_before}
use Rattle.reading.specs.Listing.{listing, records_in}
use Rattle.strict.specs.Strict.{text_of}
use Rattle.sorting.specs.Sort.{sort_by}
use Rattle.fate.specs.Fate.{own_mode, fate_of}

-- a name is one of some names
unfoldable pub among : List (List ℕ) → List ℕ → Bool
among [] n = false
among (m ∷ ms) n = same_bytes m n || among ms n

-- what is done to an entry of the object s, where the names were kept before
unfoldable pub fate_in : List ℕ → List (List ℕ) → EntryRecord → ℕ
fate_in s names e = fate_of (name_number (name_of s e)) e.mode (among names (name_of s e)) (text_of s e.text_start e)

-- an entry is kept, with its mode text or with another
abbrev pub is_kept : ℕ → Bool
is_kept fate = ltb fate 2

-- the names kept after an entry
unfoldable pub names_after : List ℕ → List (List ℕ) → EntryRecord → List (List ℕ)
names_after s names e = pick (is_kept (fate_in s names e)) (name_of s e ∷ names) names

-- what is done to entries in turn, and those of them that are kept
unfoldable pub fates_from : List ℕ → List (List ℕ) → List EntryRecord → List ℕ
fates_from s names [] = []
fates_from s names (e ∷ es) = fate_in s names e ∷ fates_from s (names_after s names e) es

unfoldable pub kept_from : List ℕ → List (List ℕ) → List EntryRecord → List EntryRecord
kept_from s names [] = []
kept_from s names (e ∷ es) = pick (is_kept (fate_in s names e)) (e ∷ kept_from s (names_after s names e) es) (kept_from s (names_after s names e) es)

-- an entry as it is kept: the mode is its kind's own
unfoldable pub mended_entry : ℕ → List ℕ → EntryRecord → Entry
mended_entry h s e = record { mode = own_mode e.mode; name = name_of s e; id = id_of h s e }

-- of an object: what is done to each entry, in the object's order; those that are kept; and the new object, these as written in Git's order
abbrev pub fates_of : ℕ → List ℕ → List ℕ
fates_of h s = fates_from s [] (records_in (listing h s))

abbrev pub kept_of : ℕ → List ℕ → List EntryRecord
kept_of h s = kept_from s [] (records_in (listing h s))

unfoldable pub mended : ℕ → List ℕ → List ℕ
mended h s = as_written (sort_by stands_before (map (mended_entry h s) (kept_of h s)))
