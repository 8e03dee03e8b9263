-- What is done to an entry that is mended (docs/FORMAT.md, "Mending"). Assumes nothing.
use Rattle.std.specs.Prelude.{ℕ, Bool, ◌||◌, List, eqb}
use Rattle.ground.specs.Basics.{pick}
use Rattle.ground.specs.Scan.{same_bytes}
use Rattle.mode.specs.Mode.{sort_of, kind_of}
use Rattle.mode.specs.Table.{written_of, shown}

-- the mode is a file's, a link's, a tree's or a submodule's, by its sort: a mode of another sort counts as a commit, and is none
unfoldable pub stays_mode : ℕ → Bool
stays_mode m = eqb (sort_of m) 0o100000 || (eqb (sort_of m) 0o120000 || (eqb (sort_of m) 0o40000 || eqb (sort_of m) 0o160000))

-- the kind's own mode, and its text
unfoldable pub own_mode : ℕ → ℕ
own_mode m = (written_of (kind_of m)).mode

unfoldable pub own_text : ℕ → List ℕ
own_text m = shown (written_of (kind_of m)).text

-- what is done to an entry, by what the rules say of its name, by its mode, by whether its name was kept before, and by its mode text:
-- 2 dropped for its name, 3 dropped for its mode, 4 dropped because its name was kept before, 1 kept with another mode text, 0 kept
unfoldable pub fate_of : ℕ → ℕ → Bool → List ℕ → ℕ
fate_of number mode before text = pick (eqb number 0) (pick (stays_mode mode) (pick before 4 (pick (same_bytes text (own_text mode)) 0 1)) 3) 2
