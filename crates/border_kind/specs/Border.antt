-- How the answers to the questions about a mode lie in the numbers that a caller lends. Assumes nothing.
use Rattle.std.specs.Prelude.{ℕ, not, List, [], ◌∷◌, eqb}
use Rattle.mode.specs.Mode.{sort_of, kind_of, is_tree}
use Rattle.mode_table.specs.Kind.{is_executable, is_file_or_link}
use Rattle.border.specs.Border.{yes}

-- the seven questions: is it a tree, none, a file, an executable file, a file or link, a link, a commit
abbrev pub mode_asked : ℕ → List ℕ
mode_asked m =
    yes (is_tree m)
    ∷ yes (not (is_tree m))
    ∷ yes (eqb (sort_of m) 0o100000)
    ∷ yes (is_executable (kind_of m))
    ∷ yes (is_file_or_link (kind_of m))
    ∷ yes (eqb (sort_of m) 0o120000)
    ∷ yes (eqb (sort_of m) 0o160000)
    ∷ []
