-- `part_words::put_part` meets its contract. Assumes nothing.
use mathlib.Core.Path.{refl}
use Rattle.part_words.specs.Words.{part_words}
use Rattle.part_words.proofs.Laws.{part-words, part_other}
use Rattle.part_words.proofs.put_part.Goals as goal

pub returns-then-part-eq1 : goal.returns-then-part-eq1
unfolding part_words
returns-then-part-eq1 c =
    let r = (part-words c.args.part (rw c.if-part-eq1.true refl) c.store.ensures) in
    record { count = r.0; out = r.1 }

pub returns-then-part-eq2 : goal.returns-then-part-eq2
unfolding part_words
returns-then-part-eq2 c =
    let r = (part-words c.args.part (rw c.if-part-eq2.true refl) c.store-then-part-eq2.ensures) in
    record { count = r.0; out = r.1 }

pub returns-then-part-eq3 : goal.returns-then-part-eq3
unfolding part_words
returns-then-part-eq3 c =
    let r = (part-words c.args.part (rw c.if-part-eq3.true refl) c.store-then-part-eq3.ensures) in
    record { count = r.0; out = r.1 }

pub returns : goal.returns
returns c =
    let r = (part_other _ c.args.part c.if-part-eq1.false c.if-part-eq2.false c.if-part-eq3.false) in
    record { count = r.0; out = r.1 }
