-- `lookups::look_all` meets its contract. Assumes nothing.
use mathlib.Core.Path.{refl}
use native.Mathlib.Omega.{arith}
use Rattle.lookups.specs.Many.{one_answer}
use Rattle.lookups.proofs.Laws.{both-passes, ran_bad, ran_done}
use Rattle.lookups.proofs.look_all.Goals as goal

pub returns-then-v-ne-DONE : goal.returns-then-v-ne-DONE
returns-then-v-ne-DONE c =
    let r = ran_bad _ _ _ _ _ c.each-v.ensures.value c.if-v-ne-DONE.true in
    record { value = r.0; answers_after = r.1 }

pub returns : goal.returns
returns c =
    let r = (let if1 = c.if-v-ne-DONE in
    let copy = c.copy in
    let args = c.args in
    let first = c.each-v.ensures in
    let copied = copy.ensures in
    let last = c.each.ensures in
    let z = if1.false in
    let f = one_answer args.h args.object.now args.records.now args.names.now in
    ran_done _ _ _ _ args.answers.now _ first.value z
    (both-passes f args.sought.now _ args.answers.now _ _ _ 64 _ _ _ refl refl (omega (arith, c.requires)) z first.value first.answers_after copied last.value
    last.answers_after)) in
    record { value = r.0; answers_after = r.1 }
