-- The table of the five written modes (docs/FORMAT.md, "Modes"). Assumes nothing.
use Rattle.std.specs.Prelude.{ℕ, List, [], ◌∷◌, get_or, None, Option, Some}
use Rattle.ground.specs.Basics.{pick, ascii}
use Rattle.ground.specs.Scan.{same_bytes}
use Rattle.mode_text.specs.Write.{short, shown}
use Rattle.mode_table.specs.declared.EntryKind.{EntryKind}
use Rattle.mode_table.specs.declared.EntryKind.TheVariants.{Tree, Blob, BlobExecutable, Link, Commit}
use Rattle.mode_table.specs.declared.Written.{Written}

-- the five modes: number, kind, octal text, and the kind's word
unfoldable pub rows : List Written
rows =
    record { mode = 0o40000; kind = Tree; text = short (ascii "40000"); word = short (ascii "tree") }
    ∷ record { mode = 0o100644; kind = Blob; text = short (ascii "100644"); word = short (ascii "blob") }
    ∷ record { mode = 0o100755; kind = BlobExecutable; text = short (ascii "100755"); word = short (ascii "exe") }
    ∷ record { mode = 0o120000; kind = Link; text = short (ascii "120000"); word = short (ascii "link") }
    ∷ record { mode = 0o160000; kind = Commit; text = short (ascii "160000"); word = short (ascii "commit") }
    ∷ []

-- an empty row, for a place past the end
abbrev pub no_row : Written
no_row = record { mode = 0; kind = Tree; text = short []; word = short [] }

-- the row at a place
unfoldable pub row_at : ℕ → Written
row_at i = get_or rows i no_row

-- where a kind's row stands
abbrev pub place_of : EntryKind → ℕ
place_of Tree = 0
place_of Blob = 1
place_of BlobExecutable = 2
place_of Link = 3
place_of Commit = 4

-- a kind's row
unfoldable pub written_of : EntryKind → Written
written_of k = row_at (place_of k)

-- the mode of the first of some rows whose text is t
abbrev pub find_text : List ℕ → List Written → Option ℕ
find_text t [] = None
find_text t (r ∷ rs) = pick (same_bytes t (shown r.text)) (Some r.mode) (find_text t rs)

-- the mode that the table gives a text
unfoldable pub written_mode : List ℕ → Option ℕ
written_mode t = find_text t rows
