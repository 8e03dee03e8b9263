-- Ids in ascending order, which is how a packer writes them (docs/FORMAT.md, "Bundles"). Assumes nothing.
use Rattle.std.specs.Prelude.{ℕ, Bool, true, false, ◌&&◌, List, [], ◌∷◌}
use Rattle.order.specs.Order.{is_below, name_order}

-- an id is below another, byte by byte
abbrev pub below : List ℕ → List ℕ → Bool
below x y = is_below (name_order x false y false)

-- each id is below the next, the first above x
unfoldable pub rises : List ℕ → List (List ℕ) → Bool
rises x [] = true
rises x (y ∷ ys) = below x y && rises y ys
