-- Lists with parents and extra headers stored one by one, as the walks store them. Assumes nothing.
use Rattle.std.specs.Prelude.{ℕ, zero, suc, ◌+◌, ◌*◌, List, set}
use Rattle.header.specs.Record.{put_header}
use Rattle.commit_fields.specs.Headers.{Heads, ended, header}

-- a list with these starts stored from index i on
unfoldable pub stored : ℕ → List ℕ → ℕ → ℕ → ℕ → List ℕ
stored h l i at zero = l
stored h l i at (suc n) = stored h (set l i (at + 7)) (i + 1) (at + (8 + 2 * h)) n

-- a list of numbers with every record stored, n of them already
unfoldable pub heads_stored : List ℕ → ℕ → Heads → List ℕ
heads_stored l n (ended at) = l
heads_stored l n (header x r) = heads_stored (put_header l n x) (n + 1) r
