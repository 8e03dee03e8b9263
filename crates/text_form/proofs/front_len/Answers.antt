-- `text_form::front_len` meets its contract. Assumes nothing.
use native.Mathlib.Omega.{arith}
use Prim.Native.Nat.{◌-◌}
use mathlib.Core.Path.{sym, ◌∙◌}
use lib.ListN.{length, take, drop}
use lib.Seq.{length-take-le}
use Rattle.text_form.proofs.Laws.{front_short, front_no-space, front_no-digits, word_le, fronted_none, fronted}
use Rattle.text_form.proofs.front_len.Goals as goal

pub returns-then-b-le6 : goal.returns-then-b-le6
returns-then-b-le6 c = sym (front_short c.args.b.now c.if-b-le6.true)

pub returns-then-b-ne32 : goal.returns-then-b-ne32
returns-then-b-ne32 c = sym (front_no-space c.args.b.now c.if-b-ne32.true)

pub slice_bounds-all_within-end : goal.slice_bounds-all_within-end
slice_bounds-all_within-end c = sym (length-take-le 6 c.args.b.now (omega arith))

pub returns-then-n-eq0 : goal.returns-then-n-eq0
returns-then-n-eq0 c =
    let args = c.args in
    let word_len = c.word_len-n in
    let if2 = c.if-b-ne32 in
    let all-within = c.all_within in
    let if3 = c.if-all_within in
    let if4 = c.if-n-eq0 in
    fronted_none args.b.now word_len.ensures if2.false (sym all-within.ensures ∙ if3.true) if4.true

pub overflow_add-result : goal.overflow_add-result
overflow_add-result c =
    let word_len = c.word_len-n in
    let args = c.args in
    omega (arith, word_len.ensures, word_le (take (length args.b.now - 7) (drop 7 args.b.now)))

pub returns-then-all_within : goal.returns-then-all_within
returns-then-all_within c =
    let args = c.args in
    let word_len = c.word_len-n in
    let if2 = c.if-b-ne32 in
    let all-within = c.all_within in
    let if3 = c.if-all_within in
    let if4 = c.if-n-eq0 in
    fronted args.b.now word_len.ensures if2.false (sym all-within.ensures ∙ if3.true) if4.false

pub returns : goal.returns
returns c =
    let args = c.args in
    let if2 = c.if-b-ne32 in
    let all-within = c.all_within in
    let if3 = c.if-all_within in
    sym (front_no-digits args.b.now if2.false (sym all-within.ensures ∙ if3.false))
