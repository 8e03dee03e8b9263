-- `commit_write::put_headers` meets its contract. Assumes nothing.
use Rattle.std.proofs.Common.{◌≡◌, ◌+◌, ◌-◌, ◌*◌, ◌≤◌}
use mathlib.Core.List.{map}
use Rattle.grammar.specs.Named.{header_named, records_from}
use Rattle.commit_check.specs.Check.{headers_of, header_fits, passing}
use Rattle.commit_write.specs.Written.{headers_written}
use Rattle.commit_write.proofs.Laws.{Left}
use Rattle.commit_write.proofs.put_headers.Given as goal

abbrev pub invariant-loop-i : goal.invariant-loop-i
invariant-loop-i l = record {
  passes : passing (map (header_fits l.bytes) (records_from l.i (l.n - l.i) l.headers)) ≡ l.n - l.i;
  room : l.to + (l.n - l.i) * 3221225474 ≤ l.at + l.n * 3221225474;
  left : Left l.initial.out l.at (headers_written (map (header_named l.bytes) (headers_of l.headers))) l.out l.to
      (headers_written (map (header_named l.bytes) (records_from l.i (l.n - l.i) l.headers)));
}
