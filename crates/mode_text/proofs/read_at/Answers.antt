-- `mode_text::read_at` meets its contract: it reads the bytes from the place on, of which eight are enough. Assumes nothing.
use mathlib.Core.Path.{sym, ap, ◌∙◌}
use native.Mathlib.Omega.{arith}
use lib.ListN.{drop, length-drop}
use Rattle.mode_text.specs.Read.{read_text_at, moved}
use Rattle.mode_text.proofs.Laws.{past-reads, window_reads, read_next}
use Rattle.mode_text.proofs.read_at.Goals as goal

pub returns-then-s-at : goal.returns-then-s-at
returns-then-s-at c = sym (past-reads _ _ c.if-s-at.true)

pub overflow_add-result : goal.overflow_add-result
overflow_add-result c =
    let s = c.args.s.now in
    let at = c.args.at in
    let e = sym (window_reads s at c.if-s-at.false _ c.eight_on-end.ensures) ∙ sym c.read.ensures ∙ c.in-Some.is in
    omega (arith, read_next (drop at s) _ _ e, length-drop at s, c.if-s-at.false)

pub returns-in-Some : goal.returns-in-Some
unfolding read_text_at
returns-in-Some c =
    ap (moved _) (sym c.in-Some.is ∙ c.read.ensures ∙ window_reads _ _ c.if-s-at.false _ c.eight_on-end.ensures)

pub returns-in-None : goal.returns-in-None
unfolding read_text_at
returns-in-None c =
    ap (moved _) (sym c.in-None.is ∙ c.read.ensures ∙ window_reads _ _ c.if-s-at.false _ c.eight_on-end.ensures)
