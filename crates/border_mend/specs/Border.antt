-- What a lent list and a lent output have after a tree was to be mended, and how the answer lies in lent numbers. Assumes nothing.
use Rattle.std.specs.Prelude.{ℕ, List, [], ◌∷◌, ◌++◌, length}
use Rattle.ground.specs.Verdict.{stored}
use Rattle.border.specs.Border.{verdict_numbers}
use Rattle.mend.specs.Mend.{fates_of, mended, mend_answer}
use Rattle.mend.specs.declared.Mended.{Mended}

-- the answer, the list and the output
abbrev pub mend_answered : ℕ → List ℕ → List ℕ → List ℕ → Mended
mend_answered h bytes fates out = mend_answer h bytes (length fates) (length out)

abbrev pub mend_fates : ℕ → List ℕ → List ℕ → List ℕ → List ℕ
mend_fates h bytes fates out = stored (mend_answered h bytes fates out).verdict (fates_of h bytes) fates

abbrev pub mend_output : ℕ → List ℕ → List ℕ → List ℕ → List ℕ
mend_output h bytes fates out = stored (mend_answered h bytes fates out).verdict (mended h bytes) out

-- the verdict, the bytes written, the entries read
abbrev pub mend_numbers : Mended → List ℕ
mend_numbers a = verdict_numbers a.verdict ++ a.count ∷ a.entries ∷ []
