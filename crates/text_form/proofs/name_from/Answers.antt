-- `text_form::name_from` meets its contract. Assumes nothing.
use native.Mathlib.Omega.{arith}
use mathlib.Core.Path.{sym, ◌∙◌}
use Rattle.text_form.proofs.Laws.{name-long, front_le, named-no_front, named-short, named-no_tab, named-no-id, named}
use Rattle.text_form.proofs.name_from.Goals as goal

pub returns-then-h-gt32 : goal.returns-then-h-gt32
returns-then-h-gt32 c = sym (name-long c.args.h c.args.b.now c.if-h-gt32.true)

pub returns-then-id-eq0 : goal.returns-then-id-eq0
returns-then-id-eq0 c =
    let args = c.args in
    let front-len = c.front_len-id in
    let if1 = c.if-h-gt32 in
    let if2 = c.if-id-eq0 in
    named-no_front args.h args.b.now front-len.ensures if1.false if2.true

pub overflow_add-tab : goal.overflow_add-tab
overflow_add-tab c = omega (arith, c.front_len-id.ensures, front_le c.args.b.now)

pub returns-then-b-tab : goal.returns-then-b-tab
returns-then-b-tab c =
    let args = c.args in
    let front-len = c.front_len-id in
    let if1 = c.if-h-gt32 in
    let if2 = c.if-id-eq0 in
    let if3 = c.if-b-tab in
    named-short args.h args.b.now front-len.ensures if1.false if2.false if3.true

pub returns-then-b-tab-ne9 : goal.returns-then-b-tab-ne9
returns-then-b-tab-ne9 c =
    let args = c.args in
    let front-len = c.front_len-id in
    let if1 = c.if-h-gt32 in
    let if2 = c.if-id-eq0 in
    let if4 = c.if-b-tab-ne9 in
    named-no_tab args.h args.b.now front-len.ensures if1.false if2.false if4.true

pub returns-then-all_within : goal.returns-then-all_within
returns-then-all_within c =
    let args = c.args in
    let front-len = c.front_len-id in
    let if1 = c.if-h-gt32 in
    let if2 = c.if-id-eq0 in
    let if4 = c.if-b-tab-ne9 in
    let all-within = c.all_within in
    let if5 = c.if-all_within in
    named args.h args.b.now front-len.ensures if1.false if2.false if4.false (sym all-within.ensures ∙ if5.true)

pub returns : goal.returns
returns c =
    let args = c.args in
    let front-len = c.front_len-id in
    let if1 = c.if-h-gt32 in
    let if2 = c.if-id-eq0 in
    let if4 = c.if-b-tab-ne9 in
    let all-within = c.all_within in
    let if5 = c.if-all_within in
    named-no-id args.h args.b.now front-len.ensures if1.false if2.false if4.false (sym all-within.ensures ∙ if5.false)
