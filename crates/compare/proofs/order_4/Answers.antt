use native.Mathlib.Omega.{arith}
use Rattle.compare.proofs.Laws.{words_same, words_below, words_above}
use Rattle.compare.proofs.order_4.Goals as goal

pub returns-then-x-y : goal.returns-then-x-y
returns-then-x-y c =
    let args = c.args in
    let pre = c.requires in
    let four = c.four-x in
    let four2 = c.four-y in
    let if1 = c.if-x-y in
    words_same args.a.now args.b.now _ 4 _ _ pre (omega arith) four.ensures.made four2.ensures.made if1.true

pub returns-then-turn_8 : goal.returns-then-turn_8
returns-then-turn_8 c =
    let args = c.args in
    let pre = c.requires in
    let four = c.four-x in
    let four2 = c.four-y in
    let turn-8 = c.turn_8 in
    let turn-82 = c.turn_8-2 in
    let if2 = c.if-turn_8 in
    words_below args.a.now args.b.now _ 4 _ _ pre (omega arith) four.ensures.made four2.ensures.made turn-8.ensures turn-82.ensures if2.true

pub returns : goal.returns
returns c =
    let args = c.args in
    let pre = c.requires in
    let four = c.four-x in
    let four2 = c.four-y in
    let if1 = c.if-x-y in
    let turn-8 = c.turn_8 in
    let turn-82 = c.turn_8-2 in
    let if2 = c.if-turn_8 in
    words_above args.a.now args.b.now _ 4 _ _ pre (omega arith) four.ensures.made four2.ensures.made turn-8.ensures turn-82.ensures if1.false
    if2.false
