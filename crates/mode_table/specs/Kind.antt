-- What is asked of the five kinds (docs/FORMAT.md, "Modes"). Assumes nothing.
use Rattle.std.specs.Prelude.{Bool, true, false}
use Rattle.mode_table.specs.declared.EntryKind.{EntryKind}
use Rattle.mode_table.specs.declared.EntryKind.TheVariants.{Tree, Blob, BlobExecutable, Link, Commit}

-- of the five kinds, only the executable file
abbrev pub is_executable : EntryKind → Bool
is_executable Tree = false
is_executable Blob = false
is_executable BlobExecutable = true
is_executable Link = false
is_executable Commit = false

-- of the five kinds, both files and the link
abbrev pub is_file_or_link : EntryKind → Bool
is_file_or_link Tree = false
is_file_or_link Blob = true
is_file_or_link BlobExecutable = true
is_file_or_link Link = true
is_file_or_link Commit = false
