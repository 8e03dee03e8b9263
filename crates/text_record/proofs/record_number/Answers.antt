-- `text_record::record_number` meets its contract. Assumes nothing.
use native.Mathlib.Omega.{arith}
use Rattle.ground.proofs.Laws.{place-from}
use Rattle.text_record.proofs.Laws.{number-none, number_open, number-said}
use Rattle.text_record.proofs.record_number.Goals as goal

pub returns-then-from-eq0 : goal.returns-then-from-eq0
returns-then-from-eq0 c =
    let args = c.args in
    let name-from = c.name_from-from in
    let if1 = c.if-from-eq0 in
    number-none args.rules args.h args.b.now name-from.ensures if1.true

pub returns-then-b-end : goal.returns-then-b-end
returns-then-b-end c =
    let args = c.args in
    let name-from = c.name_from-from in
    let find-nul = c.find_nul-end in
    let if2 = c.if-b-end in
    number_open args.rules args.h args.b.now name-from.ensures find-nul.ensures if2.true

pub slice_bounds-said_number-count : goal.slice_bounds-said_number-count
slice_bounds-said_number-count c =
    let args = c.args in
    let name-from = c.name_from-from in
    let find-nul = c.find_nul-end in
    omega (arith, place-from 0 args.b.now name-from.result, find-nul.ensures)

pub slice_bounds-said_number-start : goal.slice_bounds-said_number-start
slice_bounds-said_number-start c =
    let args = c.args in
    let name-from = c.name_from-from in
    let find-nul = c.find_nul-end in
    omega (arith, place-from 0 args.b.now name-from.result, find-nul.ensures)

pub returns : goal.returns
returns c =
    let args = c.args in
    let name-from = c.name_from-from in
    let if1 = c.if-from-eq0 in
    let find-nul = c.find_nul-end in
    let if2 = c.if-b-end in
    let said-number = c.said_number in
    number-said args.rules args.h args.b.now name-from.ensures find-nul.ensures if1.false if2.false said-number.ensures
