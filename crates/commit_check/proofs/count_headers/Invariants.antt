-- `commit_check::count_headers` meets its contract. Assumes nothing.
use Rattle.std.proofs.Common.{◌≡◌, ◌+◌, ◌-◌}
use mathlib.Core.List.{map}
use Rattle.grammar.specs.Named.{records_from}
use Rattle.commit_check.specs.Check.{passing, header_fits, headers_of}
use Rattle.commit_check.proofs.count_headers.Given as goal

abbrev pub invariant-loop-i : goal.invariant-loop-i
invariant-loop-i l =
    passing (map (header_fits l.bytes) (headers_of l.headers)) ≡ l.i + passing (map (header_fits l.bytes) (records_from l.i (l.n - l.i) l.headers))
