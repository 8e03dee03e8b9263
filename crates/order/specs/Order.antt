-- Git's comparison of two names in a tree, from its base_name_compare (docs/FORMAT.md, "Order"). Assumes nothing.
use Rattle.std.specs.Prelude.{ℕ, suc, Bool, true, false, List, [], ◌∷◌, ltb, ℤ, pos, negsuc}
use Rattle.ground.specs.Basics.{pick}
use Rattle.std.specs.declared.cmp.Ordering.{Ordering}
use Rattle.std.specs.declared.cmp.Ordering.TheVariants.{Equal, Greater, Less}

-- two numbers compared
unfoldable pub by_number : ℕ → ℕ → Ordering
by_number x y = pick (ltb x y) Less (pick (ltb y x) Greater Equal)

-- the first comparison, and where it is Equal the second
abbrev pub then_by : Ordering → Ordering → Ordering
then_by Less r = Less
then_by Equal r = r
then_by Greater r = Greater

-- the position where a name may have ended, as a number: 0 for nothing, which is lowest, and 1 and the byte for a byte;
-- a tree's name that has ended counts as the byte 47, a slash
unfoldable pub next : List ℕ → Bool → ℕ
next [] true = 48
next [] false = 0
next (x ∷ rest) folder = suc x

-- byte by byte while both names go on; where one has ended, by that one position, and no further
unfoldable pub name_order : List ℕ → Bool → List ℕ → Bool → Ordering
name_order [] s [] t = by_number (next [] s) (next [] t)
name_order [] s (y ∷ b) t = by_number (next [] s) (next (y ∷ b) t)
name_order (x ∷ a) s [] t = by_number (next (x ∷ a) s) (next [] t)
name_order (x ∷ a) s (y ∷ b) t = then_by (by_number x y) (name_order a s b t)

-- the first of the two stands below
abbrev pub is_below : Ordering → Bool
is_below Less = true
is_below Equal = false
is_below Greater = false

-- the answer with the two names exchanged
abbrev pub opposite : Ordering → Ordering
opposite Less = Greater
opposite Equal = Equal
opposite Greater = Less

-- the number that stands for each answer: -1, 0, 1
unfoldable pub order_number : Ordering → ℤ
order_number Less = negsuc 0
order_number Equal = pos 0
order_number Greater = pos 1
