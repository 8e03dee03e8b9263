-- An item stored: six numbers in one list, its path in another (docs/FORMAT.md, "Differences"). Assumes nothing.
use Rattle.std.specs.Prelude.{ℕ, ◌+◌, ◌*◌, ◌/◌, ◌&&◌, List, [], ◌∷◌, ◌++◌, eqb, leb, ltb, length, take, drop}
use Rattle.std.proofs.lemmas.List.Edits.{sets}
use Rattle.ground.specs.Basics.{pick}
use Rattle.merge.specs.declared.Change.{Change}

-- the numbers of an item: where its path starts and ends, both modes, and where both ids start
abbrev pub numbers_at : ℕ → ℕ → Change → List ℕ
numbers_at start end c = start ∷ end ∷ c.left.mode ∷ c.right.mode ∷ c.left.id_start ∷ c.right.id_start ∷ []

-- stored as item n where they have room
unfoldable pub put_numbers : List ℕ → ℕ → ℕ → ℕ → Change → List ℕ
put_numbers items n start end c = pick (ltb n (length items / 6)) (sets items (6 * n) (numbers_at start end c)) items

-- a path stored at m: that of its folder, which stands at ps with a length of pl, a slash and the name; the name alone below a root.
-- Nothing is stored where the folder's path does not end before m, or where it and the slash have no room
unfoldable pub put_path : List ℕ → ℕ → ℕ → ℕ → List ℕ → List ℕ
put_path paths m ps pl name =
    pick (eqb pl 0) (sets paths m name)
    (pick (leb (ps + pl) m && ltb (m + pl) (length paths)) (sets paths m (take pl (drop ps paths) ++ 47 ∷ name)) paths)
