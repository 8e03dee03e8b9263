-- No two entries of one name: what is asked, and the names that an ascending listing still has open. Assumes nothing.
use Rattle.std.specs.Prelude.{ℕ, Bool, false, ◌||◌, List, [], ◌∷◌, length, eqb, ltb}
use Rattle.ground.specs.Basics.{pick}
use Rattle.ground.specs.Scan.{common_start, same_bytes}
use Rattle.mode.specs.Mode.{is_tree}
use Rattle.entry.specs.Entry.{Entry}

-- one of the entries before has this name
unfoldable pub named_before : List Entry → List ℕ → Bool
named_before [] n = false
named_before (d ∷ before) n = same_bytes d.name n || named_before before n

-- ---- how it is found

-- of lengths, longest first, those above p are dropped
unfoldable pub shut : ℕ → List ℕ → List ℕ
shut p [] = []
shut p (k ∷ ks) = pick (ltb p k) (shut p ks) (k ∷ ks)

-- the longest is k
unfoldable pub top_is : ℕ → List ℕ → Bool
top_is k [] = false
top_is k (j ∷ ks) = eqb j k

-- the name of the nearest entry
unfoldable pub last_name : List Entry → List ℕ
last_name [] = []
last_name (e ∷ before) = e.name

-- the name of an entry is open after it, if it is no folder's
unfoldable pub noted : Entry → List ℕ → List ℕ
noted e ks = pick (is_tree e.mode) ks (length e.name ∷ ks)

-- The open names: the lengths, longest first, of the names of entries that are no folders with which the last name begins.
unfoldable pub opened : List Entry → List ℕ
opened [] = []
opened (e ∷ before) = noted e (shut (common_start (last_name before) e.name) (opened before))

-- those of them that were open before the last entry
unfoldable pub held : List Entry → List ℕ
held [] = []
held (e ∷ before) = shut (common_start (last_name before) e.name) (opened before)
