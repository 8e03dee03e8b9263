-- `mode_text::read` meets its contract: each way out is a law of `read_text`. Assumes nothing.
use mathlib.Core.Path.{sym, ◌∙◌}
use native.Mathlib.Omega.{arith}
use lib.ListN.{length-take}
use Rattle.mode_text.proofs.Laws.{read_none, read-long, read-other, read_bits, text_le}
use Rattle.mode_text.proofs.read.Goals as goal

pub returns-then-i-eq0 : goal.returns-then-i-eq0
returns-then-i-eq0 c = sym (read_none _ c.if-i-eq0.true)

pub returns-then-n-gt7 : goal.returns-then-n-gt7
returns-then-n-gt7 c = sym (read-long _ c.if-i-eq0.false _ c.text_len-n.ensures (omega arith))

pub slice_bounds-octal_of-end : goal.slice_bounds-octal_of-end
slice_bounds-octal_of-end c =
    let text-len = c.text_len-n in
    let args = c.args in
    simp length-take (omega (arith, text-len.ensures, text_le args.i.now))

pub returns-in-Some : goal.returns-in-Some
returns-in-Some c =
    let v = c.in-Some in
    read_bits _ c.if-i-eq0.false _ c.text_len-n.ensures (omega arith) _ (sym c.octal_of.ensures ∙ v.is) _ _
    c.settled.ensures c.rest_at-next.ensures

pub returns-in-None : goal.returns-in-None
returns-in-None c =
    sym (read-other _ c.if-i-eq0.false _ c.text_len-n.ensures (omega arith) (sym c.octal_of.ensures ∙ c.in-None.is))
