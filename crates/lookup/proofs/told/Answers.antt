-- `lookup::told` meets its contract. Assumes nothing.
use mathlib.Core.Path.{sym, ap}
use Rattle.lookup.specs.Halving.{told_of}
use Rattle.lookup.proofs.told.Goals as goal

pub returns-in-Found : goal.returns-in-Found
returns-in-Found c = ap told_of (sym c.in-Found.is)

pub returns-in-Bad : goal.returns-in-Bad
returns-in-Bad c = ap told_of (sym c.in-Bad.is)

pub returns-in-Absent : goal.returns-in-Absent
returns-in-Absent c = ap told_of (sym c.in-Absent.is)
