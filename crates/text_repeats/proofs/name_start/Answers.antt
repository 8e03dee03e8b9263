-- `text_repeats::name_start` meets its contract. Assumes nothing.
use native.Mathlib.Omega.{arith}
use Rattle.keys.proofs.Keys.{begin-past, begin-found, begin_lost}
use Rattle.text_repeats.proofs.name_start.Goals as goal

pub returns-then-text-place : goal.returns-then-text-place
returns-then-text-place c = (omega arith, begin-past 9 c.args.text.now _ c.if-text-place.true)

pub returns-then-tab-text : goal.returns-then-tab-text
returns-then-tab-text c =
    let args = c.args in
    let find-byte = c.find_byte-tab in
    let if2 = c.if-tab-text in
    (omega arith, begin-found 9 args.text.now _ (λ e. omega arith) _ find-byte.ensures if2.true)

pub returns : goal.returns
returns c =
    let args = c.args in
    let find-byte = c.find_byte-tab in
    let if2 = c.if-tab-text in
    (omega arith, begin_lost 9 args.text.now _ (λ e. omega arith) _ find-byte.ensures if2.false)
