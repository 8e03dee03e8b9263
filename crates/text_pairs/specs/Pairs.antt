-- A folder and a file of one name among elements in Git's order, and the verdict by those elements. Assumes nothing.
use Rattle.std.specs.Prelude.{ℕ, suc, ◌-◌, ◌%◌, min, Bool, false, List, [], ◌∷◌, eqb, ltb, length, get_or}
use Rattle.ground.specs.Basics.{pick}
use Rattle.ground.specs.declared.Verdict.{Verdict}
use Rattle.keys.specs.Key.{key_at, below_by}
use Rattle.text_repeats.specs.Least.{same_record, least_next, told}

-- how many elements are below x
unfoldable pub count_below : (ℕ → ℕ → Bool) → List ℕ → ℕ → ℕ
count_below below [] x = 0
count_below below (y ∷ l) x = pick (below y x) (suc (count_below below l x)) (count_below below l x)

-- the element at a place is the same as x by a test
unfoldable pub same_at : (ℕ → ℕ → Bool) → List ℕ → ℕ → ℕ → Bool
same_at same l i x = pick (ltb i (length l)) (same (get_or l i 0) x) false

-- the one before it is
unfoldable pub same_before : (ℕ → ℕ → Bool) → List ℕ → ℕ → ℕ → Bool
same_before same l i x = pick (eqb i 0) false (same_at same l (i - 1) x)

-- the larger of x and the element beside a place that is the same; 2 ^ 32 says that there is none
unfoldable pub beside_of : (ℕ → ℕ → Bool) → List ℕ → ℕ → ℕ → ℕ
beside_of same l k x = pick (same_before same l k x) x (pick (same_at same l k x) (get_or l k 0) 4294967296)

-- the smaller of a number and the later of a folder z and the file of its name, each as a file: the file stands where as many are below it
unfoldable pub least_with : (ℕ → ℕ → Bool) → (ℕ → ℕ → Bool) → List ℕ → ℕ → ℕ → ℕ
least_with below same l z least = pick (eqb (z % 2) 0) least (min least (beside_of same l (count_below below l (z - 1)) (z - 1)))

-- the smaller of a number and the least of those of some elements of a list
unfoldable pub least_pair : (ℕ → ℕ → Bool) → (ℕ → ℕ → Bool) → List ℕ → List ℕ → ℕ → ℕ
least_pair below same l [] least = least
least_pair below same l (z ∷ m) least = least_pair below same l m (least_with below same l z least)

-- what elements in order say: 7 by the least that repeats a name and a sort, then 17 by the least pair
unfoldable pub judged_by : List ℕ → List ℕ → Verdict
judged_by text l = told (least_next (same_record text) l 4294967296) (least_pair (below_by (key_at text 9 0)) (same_record text) l l 4294967296)
