-- `entry_record::put_entry` meets its contract. Assumes nothing.
use mathlib.Core.Path.{sym}
use native.Mathlib.Omega.{arith}
use lib.ListN.{length-set}
use Rattle.entry.proofs.Laws.{put-none, put-fits}
use Rattle.entry_record.proofs.put_entry.Goals as goal

pub returns-then-records-i : goal.returns-then-records-i
returns-then-records-i c = sym (put-none c.args.records.now c.args.i c.args.e c.if-records-i.true)

pub bounds-records-at-2 : goal.bounds-records-at-2
bounds-records-at-2 c = simp length-set (omega arith)

pub bounds-records-at-3 : goal.bounds-records-at-3
bounds-records-at-3 c = simp length-set (omega arith)

pub bounds-records-at-4 : goal.bounds-records-at-4
bounds-records-at-4 c = simp length-set (omega arith)

pub bounds-records-at-5 : goal.bounds-records-at-5
bounds-records-at-5 c = simp length-set (omega arith)

pub returns : goal.returns
returns c = sym (put-fits c.args.records.now c.args.i c.args.e (omega arith))
