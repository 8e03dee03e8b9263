-- An entry's record: five numbers, a mode and four positions in lent bytes (docs/FORMAT.md, "Records"). Assumes nothing.
use Rattle.std.specs.Prelude.{ℕ, ◌+◌, ◌*◌, ◌/◌, Bool, ◌&&◌, List, [], ◌∷◌, length, take, drop, ltb, leb}
use Rattle.std.proofs.lemmas.List.Edits.{sets}
use Rattle.ground.specs.Basics.{pick, part}
use Rattle.mode.specs.Mode.{is_tree}
use Rattle.entry.specs.declared.EntryRecord.{EntryRecord}

-- the numbers of a record
abbrev pub width : ℕ
width = 5

-- how many records lie in so many numbers: a rest too short is none
abbrev pub many : ℕ → ℕ
many numbers = numbers / width

-- what stands for a record that is not there
abbrev pub no_record : EntryRecord
no_record = record { mode = 0; name_start = 0; name_end = 0; id_start = 0; text_start = 0 }

-- the records in flat numbers
unfoldable pub records_of : List ℕ → List EntryRecord
records_of [] = []
records_of (m ∷ []) = []
records_of (m ∷ s ∷ []) = []
records_of (m ∷ s ∷ e ∷ []) = []
records_of (m ∷ s ∷ e ∷ i ∷ []) = []
records_of (m ∷ s ∷ e ∷ i ∷ t ∷ rest) = record { mode = m; name_start = s; name_end = e; id_start = i; text_start = t } ∷ records_of rest

-- a record as flat numbers
abbrev pub flat : EntryRecord → List ℕ
flat e = e.mode ∷ e.name_start ∷ e.name_end ∷ e.id_start ∷ e.text_start ∷ []

-- the flat numbers with record i stored, where there is room for it
unfoldable pub put_record : List ℕ → ℕ → EntryRecord → List ℕ
put_record records i e = pick (ltb i (many (length records))) (sets records (i * width) (flat e)) records

-- the mode has 16 bits, the name does not end before it starts, name and id lie inside, and the mode text does not start after the name does
unfoldable pub well_formed : ℕ → ℕ → EntryRecord → Bool
well_formed h len e =
    leb e.mode 65535 && (leb e.name_start e.name_end && (leb e.name_end len && (leb (e.id_start + h) len && leb e.text_start e.name_start)))

-- the name that a record names in lent bytes
unfoldable pub name_of : List ℕ → EntryRecord → List ℕ
name_of s e = part e.name_start e.name_end s

-- the id of h bytes that it names
unfoldable pub id_of : ℕ → List ℕ → EntryRecord → List ℕ
id_of h s e = take h (drop e.id_start s)

-- it is a folder: its mode is a tree's
unfoldable pub folder_of : EntryRecord → Bool
folder_of e = is_tree e.mode
