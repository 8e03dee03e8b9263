-- `probe::aimed` meets its contract. Assumes nothing.
use Rattle.lookup.specs.Halving.{mid}
use Rattle.probe.specs.Probe.{aimed_of}
use Rattle.lookup.proofs.Laws.{mid_end}
use borrow.Author.Tests.{lt-ltb, le-ltb}
use Rattle.probe.proofs.aimed.Goals as goal

pub returns-then-low-high : goal.returns-then-low-high
unfolding aimed_of mid
returns-then-low-high c = simp (lt-ltb _ _ c.if-low-high.true)

pub returns : goal.returns
unfolding aimed_of
returns c = simp (le-ltb _ _ c.if-low-high.false, mid_end _ _ c.if-low-high.false)
