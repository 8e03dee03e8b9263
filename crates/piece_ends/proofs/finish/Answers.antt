-- `piece_ends::finish` meets its contract. Assumes nothing.
use mathlib.Core.Path.{sym, ◌∙◌}
use Rattle.arriving.proofs.Laws.{finish-refused, finish-done, finish-head, finish-name, finish-id}
use Rattle.piece_ends.proofs.finish.Goals as goal

pub returns-then-m-ne-DONE : goal.returns-then-m-ne-DONE
returns-then-m-ne-DONE c = finish-refused c.args.m c.if-m-ne-DONE.true

pub returns-in-Head-eq0 : goal.returns-in-Head-eq0
returns-in-Head-eq0 c =
    let x = c.in-Head-eq0 in
    finish-done c.args.m c.if-m-ne-DONE.false _ x.is (sym x.field-0-is ∙ x.field-0-test)

pub returns-in-Head : goal.returns-in-Head
returns-in-Head c =
    c.cut.ensures
    ∙ finish-head c.args.m c.if-m-ne-DONE.false _ _ c.in-Head.is (rw c.in-Head.is at c.in-Head.k-test.1) c.head_part.ensures

pub returns-in-Name : goal.returns-in-Name
returns-in-Name c = c.cut-in-Name.ensures ∙ finish-name c.args.m c.if-m-ne-DONE.false _ c.in-Name.is

pub returns-in-Id : goal.returns-in-Id
returns-in-Id c = c.cut-in-Id.ensures ∙ finish-id c.args.m c.if-m-ne-DONE.false _ _ c.in-Id.is
