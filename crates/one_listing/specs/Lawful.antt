-- The laws that rules have to keep for the theorems: a rule set is an instance (`proofs/Present.antt`). Assumes nothing.
use Rattle.std.specs.Prelude.{ℕ, ◌<◌, ◌≡◌, true, List, [], ◌∷◌}
use Rattle.ground.specs.Scan.{free_of}
use Rattle.mode_text.specs.Write.{shown}
use Rattle.mode_text.specs.Write.{write_mode, again}
use Rattle.mode_table.specs.declared.Written.{Written}
use Rattle.entry.specs.Entry.{Entry}
use Rattle.rules.specs.Rules.{Rules}
use Rattle.one_listing.specs.Sound.{Before}

-- a row's text is the one that is written for its mode, which is not 0, has 16 bits and reads back as itself
pub record RowOk (r : Written) : Type 0 where
  pub written : shown r.text ≡ write_mode r.mode
  pub some : r.mode ≡ 0 → ⊥
  pub small : r.mode < 65536
  pub same : again r.mode ≡ r.mode

-- so with each row
abbrev pub RowsOk : List Written → Type 0
RowsOk [] = Unit {0}
RowsOk (r ∷ rs) = RowOk r × RowsOk rs

-- the laws: of the rows; a permitted name has no NUL and no slash; and an entry that is permitted after another stands after it in Git's order
pub record RulesOk (R : Rules) : Type 0 where
  pub modes : RowsOk R.modes
  pub names : (n : List ℕ) → R.name_no n ≡ 0 → free_of 0 n ≡ true
  pub slashless : (n : List ℕ) → R.name_no n ≡ 0 → free_of 47 n ≡ true
  pub after : (p : Entry) (ps : List Entry) (e : Entry) → R.after_no (p ∷ ps) e ≡ 0 → Before p e
