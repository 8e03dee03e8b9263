-- What a private leaf of the rules answers. Assumes nothing.
use Rattle.std.specs.Prelude.{ℕ, Bool, ◌&&◌, List, eqb}
use Rattle.ground.specs.Scan.{same_bytes}
use Rattle.mode_text.specs.Write.{shown}
use Rattle.rules.specs.Rules.{group_row}

-- a mode text that a rule set has besides the five
unfoldable pub is_group : ℕ → List ℕ → Bool
is_group k t = eqb k 1 && same_bytes t (shown group_row.text)
