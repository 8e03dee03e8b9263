-- A header's value as it is written, over several lines or on one (docs/FORMAT.md, "Commit writing"). Assumes nothing.
use Rattle.std.specs.Prelude.{ℕ, ◌&&◌, List, [], ◌∷◌, eqb, leb, length}
use Rattle.ground.specs.Basics.{pick}
use Rattle.ground.specs.Verdict.{most_bytes}

-- the rest of a value, prev the byte before it: a line after an LF starts with a space, and the last line has its LF
unfoldable pub fold_rest : ℕ → List ℕ → List ℕ
fold_rest prev [] = pick (eqb prev 10) [] (10 ∷ [])
fold_rest prev (b ∷ bs) = pick (eqb prev 10) (32 ∷ b ∷ fold_rest b bs) (b ∷ fold_rest b bs)

-- a whole value: a space before each line but the first, and an LF at the end if it has none
unfoldable pub fold_value : List ℕ → List ℕ
fold_value v = fold_rest 0 v

-- a header's value: one that is folded already, with mark 1, as it stands
abbrev pub value_written : ℕ → List ℕ → List ℕ
value_written mark v = pick (eqb mark 1) v (fold_value v)

-- the last place at which a value is written
abbrev pub most_place : ℕ
most_place = 4611686018427387904

-- what is written at a place: nothing where the place or the value is past its bound
unfoldable pub value_at : ℕ → ℕ → List ℕ → List ℕ
value_at at mark v = pick (leb at most_place && leb (length v) most_bytes) (value_written mark v) []
