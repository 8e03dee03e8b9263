-- What is claimed of many lookups in one call (`proofs/Theorems.antt` proves it). Assumes nothing.
use Rattle.std.specs.Prelude.{ℕ, ◌*◌, ◌<◌, ◌≡◌, List, ◌⊎◌, length, get_or, take, drop}
use Rattle.ground.specs.Verdict.{verdict, counted, refused}
use Rattle.lookups.specs.Many.{width, many, no_sought, sought_of, single, one_answer, kept, many_answer, answers_after}
use Rattle.lookups.specs.declared.Sought.{Sought}

-- name i of the list
abbrev pub name_at : List ℕ → ℕ → Sought
name_at sought i = get_or (sought_of sought) i no_sought

-- Where the call is done it has counted the names, and each stored answer is what the single call gives, comparison count included: found, or not there.
abbrev pub EachSingle : Type 0
EachSingle =
    (h : ℕ) (object records names sought lent : List ℕ) (n : ℕ) → many_answer h object records names sought (length lent) ≡ counted n
    → (n ≡ many (length sought))
    × ((i : ℕ) → i < n → let a = single h object records names (name_at sought i) in
    (take width (drop (i * width) (answers_after h object records names sought lent)) ≡ kept a) × ((a.verdict.number ≡ 0) ⊎ (a.verdict.number ≡ 15)))

-- A 10 gives the index of the first name that met one, and nothing is stored.
abbrev pub FirstMet : Type 0
FirstMet =
    (h : ℕ) (object records names sought lent : List ℕ) (i : ℕ) → many_answer h object records names sought (length lent) ≡ refused (verdict 10 i)
    → (i < many (length sought))
    × ((one_answer h object records names (name_at sought i)).verdict.number ≡ 10)
    × ((j : ℕ) → j < i → (one_answer h object records names (name_at sought j)).verdict.number ≡ 10 → ⊥)
    × (answers_after h object records names sought lent ≡ lent)
