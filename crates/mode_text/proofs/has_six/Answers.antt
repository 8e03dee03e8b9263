-- `mode_text::has_six` meets its contract: where there is no byte 6 it is no space. Assumes nothing.
use mathlib.Core.Path.{sym}
use lib.ListN.{get_or}
use borrow.Author.Tests.{eq-eqb, ne_eqb}
use Rattle.mode_text.specs.Read.{has_six}
use Rattle.mode_text.proofs.Laws.{six_short}
use Rattle.mode_text.proofs.has_six.Goals as goal

pub returns-then-i-le6 : goal.returns-then-i-le6
returns-then-i-le6 c = sym (six_short c.args.i.now c.if-i-le6.true)

pub returns-then-i-eq32 : goal.returns-then-i-eq32
unfolding has_six
returns-then-i-eq32 c =
    let args = c.args in
    simp (eq-eqb (get_or args.i.now 6 0) 32 c.if-i-eq32.true)

pub returns-else-i-eq32 : goal.returns-else-i-eq32
unfolding has_six
returns-else-i-eq32 c = simp (ne_eqb (get_or c.args.i.now 6 0) 32 c.if-i-eq32.false)
