-- A list in the order of a test, for any strict total order: the one definition that callers cite. Assumes nothing.
use Rattle.std.specs.Prelude.{◌≡◌, Bool, false, List, [], ◌∷◌}
use Rattle.ground.specs.Basics.{pick}

module _ {A : Type 0} (below : A → A → Bool) where
  -- an element put before the first that is not below it
  unfoldable pub insert_by : A → List A → List A
  insert_by x [] = x ∷ []
  insert_by x (y ∷ ys) = pick (below y x) (y ∷ insert_by x ys) (x ∷ y ∷ ys)

  -- a list sorted, by insertion
  unfoldable pub sort_by : List A → List A
  sort_by [] = []
  sort_by (x ∷ xs) = insert_by x (sort_by xs)

  -- y is not below x
  abbrev pub UpTo : A → A → Type 0
  UpTo x y = below y x ≡ false

  -- no element is below the one before it
  unfoldable pub Ascends : List A → Type 0
  Ascends [] = Unit
  Ascends (x ∷ []) = Unit
  Ascends (x ∷ y ∷ ys) = UpTo x y × Ascends (y ∷ ys)

-- the same elements, each as often
pub data Perm {A : Type 0} : List A → List A → Type 0 where
  none : Perm [] []
  more : {x : A} {xs ys : List A} → Perm xs ys → Perm (x ∷ xs) (x ∷ ys)
  flip : {x y : A} {xs : List A} → Perm (x ∷ y ∷ xs) (y ∷ x ∷ xs)
  then : {xs ys zs : List A} → Perm xs ys → Perm ys zs → Perm xs zs
