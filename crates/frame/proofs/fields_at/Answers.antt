-- `frame::fields_at` meets its contract. Assumes nothing.
use native.Mathlib.Omega.{arith}
use mathlib.Core.Path.{refl, sym}
use Rattle.ground.specs.Verdict.{id_length}
use Rattle.ground.proofs.Laws.{id-is}
use Rattle.frame.proofs.Laws.{fields-many, fields-id, fields-good}
use Rattle.frame.proofs.fields_at.Goals as goal

pub overflow_cast-h : goal.overflow_cast-h
overflow_cast-h c = omega (arith, c.type_inv.s c.args.at)

pub returns-then-count-gt-MOST_RECORDS : goal.returns-then-count-gt-MOST_RECORDS
returns-then-count-gt-MOST_RECORDS c = sym (fields-many _ _ _ c.requires _ _ refl c.four_at-count.ensures.made c.if-count-gt-MOST_RECORDS.true)

pub returns-then-h : goal.returns-then-h
unfolding id_length
returns-then-h c =
    let pre = c.requires in
    let four-at = c.four_at-count in
    sym (fields-good _ _ _ pre _ _ refl four-at.ensures.made (id-is _ c.if-h.true) c.if-count-gt-MOST_RECORDS.false)

pub returns : goal.returns
unfolding id_length
returns c = sym (fields-id _ _ _ c.requires _ _ refl c.four_at-count.ensures.made c.if-h.false)
