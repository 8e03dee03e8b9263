-- `mode::EntryMode::from_u32` meets its contract. Assumes nothing.
use mathlib.Core.Path.{sym}
use Rattle.mode.proofs.Laws.{number-bad, number-good}
use Rattle.mode.proofs.EntryMode.from_u32.Goals as goal

pub returns-then-n : goal.returns-then-n
returns-then-n c = sym (number-good _ c.if-n.true)

pub returns : goal.returns
returns c = sym (number-bad _ c.if-n.false)
