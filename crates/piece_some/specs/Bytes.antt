-- Bytes of a piece that need no step of their own. Assumes nothing.
use Rattle.std.specs.Prelude.{ℕ, ◌+◌, ◌-◌, min, ◌&&◌, List, eqb, leb, length, take}
use Rattle.std.proofs.lemmas.List.Edits.{sets}
use Rattle.ground.specs.Basics.{pick, part}
use Rattle.ground.specs.Verdict.{most_bytes, most_records}
use Rattle.arriving.specs.Feed.{placed_at}
use Rattle.arriving.specs.declared.Line.{Line}
use Rattle.arriving.specs.declared.Phase.{Phase}
use Rattle.arriving.specs.declared.Phase.TheVariants.{Head, Name, Id}
use Rattle.arriving.specs.declared.Marks.{Marks}
use Rattle.arriving.specs.declared.Taken.{Taken}
use Rattle.piece_name.specs.Names.{name_more, name_some}
use Rattle.piece_some.specs.declared.Got.{Got}

-- nothing is taken at a place, or some bytes from it on
abbrev pub up_to : Marks → ℕ → Taken
up_to m i = record { marks = m; next = i }

abbrev pub taken_at : Marks → ℕ → Got → Taken
taken_at m i g = record { marks = placed_at m (m.at + g.count) g.head g.phase; next = i + g.count }

-- of an entry's first bytes so many, of an entry's name as many as its line has more, of an entry's id so many
abbrev pub head_some : List ℕ → ℕ → List ℕ → ℕ → Got
head_some head k bs n = record { count = n; head = sets head k (take n bs); phase = Head (k + n) }

abbrev pub name_part : List ℕ → Line → Line → Got
name_part head l line = record { count = line.size - l.size; head = head; phase = Name line }

abbrev pub id_some : List ℕ → Line → ℕ → ℕ → Got
id_some head l left n = record { count = n; head = head; phase = Id l (left - n) }

-- how many of an entry's first bytes: the eighth is not among them, and none where the entry is one too many
abbrev pub head_most : ℕ → ℕ → ℕ → ℕ
head_most k count most = pick (eqb k 0 && leb most_records count) 0 (min (7 - k) most)

-- where an entry is in a phase and these bytes may be taken: of its id the last is not among them
abbrev pub some_in : List ℕ → Marks → List ℕ → Phase → Got
some_in held m bs (Head k) = head_some m.head k bs (head_most k m.count (length bs))
some_in held m bs (Name l) = name_part m.head l (name_some held m.last l bs)
some_in held m bs (Id l left) = id_some m.head l left (min (left - 1) (length bs))

abbrev pub held_in : List ℕ → List ℕ → Phase → List ℕ
held_in held bs (Head k) = held
held_in held bs (Name l) = sets held l.size (name_more l bs)
held_in held bs (Id l left) = held

-- as many as are there and keep the bound
abbrev pub most_of : Marks → List ℕ → ℕ → ℕ
most_of m s i = min (length s - i) (most_bytes - m.at)

abbrev pub bytes_of : Marks → List ℕ → ℕ → List ℕ
bytes_of m s i = part i (i + most_of m s i) s

-- all of them after a refusal
unfoldable pub some_of : List ℕ → Marks → List ℕ → ℕ → Taken
some_of held m s i =
    pick (eqb m.verdict.number 0)
    (pick (leb most_bytes m.at) (up_to m i) (pick (leb (length s) i) (up_to m i) (taken_at m i (some_in held m (bytes_of m s i) m.phase))))
    (up_to m (length s))

-- the held name afterwards
unfoldable pub some_held : List ℕ → Marks → List ℕ → ℕ → List ℕ
some_held held m s i =
    pick (eqb m.verdict.number 0)
    (pick (leb most_bytes m.at) held (pick (leb (length s) i) held (held_in held (bytes_of m s i) m.phase)))
    held
