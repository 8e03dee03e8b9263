-- `frame::ruled` meets its contract. Assumes nothing.
use mathlib.Core.Path.{sym, ◌∙◌}
use Rattle.frame.proofs.Laws.{rules-short, rules-first, rules-second, rules_other}
use Rattle.frame.proofs.ruled.Goals as goal

pub returns-then-s-lt12 : goal.returns-then-s-lt12
returns-then-s-lt12 c = sym (rules-short c.args.s.now c.if-s-lt12.true)

pub returns-then-rules-eq1 : goal.returns-then-rules-eq1
returns-then-rules-eq1 c =
    c.fields_at.ensures ∙ sym (rules-first c.args.s.now _ c.two_at-rules.ensures.made
    c.if-rules-eq1.true)

pub returns-then-rules-eq2 : goal.returns-then-rules-eq2
returns-then-rules-eq2 c =
    c.fields_at-then-rules-eq2.ensures ∙ sym (rules-second c.args.s.now _
    c.two_at-rules.ensures.made c.if-rules-eq2.true)

pub returns : goal.returns
returns c =
    sym (rules_other c.args.s.now _ c.two_at-rules.ensures.made c.if-rules-eq1.false
    c.if-rules-eq2.false)
