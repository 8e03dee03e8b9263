-- The record of an extra header: five numbers (docs/FORMAT.md, "Commits"). Assumes nothing.
use Rattle.std.specs.Prelude.{ℕ, ◌+◌, ◌*◌, ◌/◌, Bool, ◌&&◌, List, [], ◌∷◌, length, get_or, leb, ltb}
use Rattle.std.proofs.lemmas.List.Edits.{sets}
use Rattle.ground.specs.Basics.{pick, part}
use Rattle.header.specs.declared.HeaderRecord.{HeaderRecord}

-- how many numbers a record has
abbrev pub width : ℕ
width = 5

-- a record from its five numbers, and as five numbers
abbrev pub header_of : ℕ → ℕ → ℕ → ℕ → ℕ → HeaderRecord
header_of a b c d mark = record { name_start = a; name_end = b; value_start = c; value_end = d; mark = mark }

abbrev pub flat : HeaderRecord → List ℕ
flat x = x.name_start ∷ x.name_end ∷ x.value_start ∷ x.value_end ∷ x.mark ∷ []

-- record i of a list of numbers: zeros where there is none
unfoldable pub header_at : List ℕ → ℕ → HeaderRecord
header_at l i =
    pick (ltb i (length l / width))
    (header_of (get_or l (i * width) 0) (get_or l (i * width + 1) 0) (get_or l (i * width + 2) 0) (get_or l (i * width + 3) 0) (get_or l (i * width + 4) 0))
    (header_of 0 0 0 0 0)

-- the list with record i stored, where it fits
unfoldable pub put_header : List ℕ → ℕ → HeaderRecord → List ℕ
put_header l i x = pick (ltb i (length l / width)) (sets l (i * width) (flat x)) l

-- both ranges run forward inside so many bytes, and the mark is 0 or 1
unfoldable pub well_formed : HeaderRecord → ℕ → Bool
well_formed x len =
    leb x.name_start x.name_end
    && leb x.name_end len
    && leb x.value_start x.value_end
    && leb x.value_end len
    && leb x.mark 1

-- the bytes of a record's name and of its value
abbrev pub name_of : List ℕ → HeaderRecord → List ℕ
name_of s x = part x.name_start x.name_end s

abbrev pub header_value : List ℕ → HeaderRecord → List ℕ
header_value s x = part x.value_start x.value_end s
