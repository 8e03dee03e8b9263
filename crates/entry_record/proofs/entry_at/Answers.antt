-- `entry_record::entry_at` meets its contract. Assumes nothing.
use mathlib.Core.Path.{sym}
use native.Mathlib.Omega.{arith}
use lib.ListN.{get_or-eq_default}
use Rattle.entry.specs.Record.{records_of, no_record}
use Rattle.entry.proofs.Laws.{records-many, records-at}
use Rattle.entry_record.proofs.entry_at.Goals as goal

pub returns-then-records-i : goal.returns-then-records-i
returns-then-records-i c = sym (get_or-eq_default (records_of c.args.records.now) no_record (omega (arith, records-many c.args.records.now)))

pub returns : goal.returns
returns c =
    let args = c.args in
    sym (records-at args.records.now args.i (omega arith))
