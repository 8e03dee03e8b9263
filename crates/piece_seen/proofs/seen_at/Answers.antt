-- `piece_seen::seen_at` meets its contract. Assumes nothing.
use Rattle.ground.proofs.Laws.{place-within, place-from}
use Rattle.piece_seen.proofs.Whole.{no_code, code_fits, no-id, too_long, ill_named, well_named}
use native.Mathlib.Omega.{arith}
use Prim.Native.Nat.{◌+◌, ◌%◌}
use Rattle.piece_seen.proofs.seen_at.Goals as goal

pub returns-then-code-eq0 : goal.returns-then-code-eq0
returns-then-code-eq0 c =
    let args = c.args in
    let quick-code = c.quick_code-code in
    no_code args.piece.now args.i args.h quick-code.result quick-code.ensures c.if-code-eq0.true

pub overflow_add-start : goal.overflow_add-start
overflow_add-start c =
    let args = c.args in
    let quick-code = c.quick_code-code in
    omega (arith, (code_fits args.piece.now args.i args.h quick-code.result quick-code.ensures c.if-code-eq0.false).1)

pub overflow_sub-piece : goal.overflow_sub-piece
overflow_sub-piece c =
    let args = c.args in
    let quick-code = c.quick_code-code in
    let if1 = c.if-code-eq0 in
    omega (
      arith,
      c.find_nul-end.ensures,
      place-within 0 args.piece.now _ (code_fits args.piece.now args.i args.h quick-code.result
          quick-code.ensures if1.false).1,
    )

pub returns-then-piece-end : goal.returns-then-piece-end
returns-then-piece-end c =
    let args = c.args in
    let quick-code = c.quick_code-code in
    let if1 = c.if-code-eq0 in
    let find-nul = c.find_nul-end in
    no-id args.piece.now args.i args.h quick-code.result quick-code.ensures if1.false find-nul.result find-nul.ensures
    c.if-piece-end.true

pub overflow_sub-end : goal.overflow_sub-end
overflow_sub-end c =
    let args = c.args in
    let quick-code = c.quick_code-code in
    let find-nul = c.find_nul-end in
    omega (arith, find-nul.ensures, place-from 0 args.piece.now (args.i + quick-code.result % 16))

pub returns-then-end-start-gt-MOST_HELD : goal.returns-then-end-start-gt-MOST_HELD
returns-then-end-start-gt-MOST_HELD c =
    let args = c.args in
    let quick-code = c.quick_code-code in
    let if1 = c.if-code-eq0 in
    let find-nul = c.find_nul-end in
    let if2 = c.if-piece-end in
    too_long args.piece.now args.i args.h quick-code.result quick-code.ensures if1.false find-nul.result find-nul.ensures
    if2.false c.if-end-start-gt-MOST_HELD.true

pub slice_bounds-name_number-count : goal.slice_bounds-name_number-count
slice_bounds-name_number-count c =
    let args = c.args in
    let quick-code = c.quick_code-code in
    let find-nul = c.find_nul-end in
    omega (arith, find-nul.ensures, place-from 0 args.piece.now (args.i + quick-code.result % 16))

pub slice_bounds-name_number-start : goal.slice_bounds-name_number-start
slice_bounds-name_number-start c =
    let args = c.args in
    let quick-code = c.quick_code-code in
    let find-nul = c.find_nul-end in
    omega (arith, find-nul.ensures, place-from 0 args.piece.now (args.i + quick-code.result % 16))

pub returns-then-name_number-ne-DONE : goal.returns-then-name_number-ne-DONE
returns-then-name_number-ne-DONE c =
    let args = c.args in
    let quick-code = c.quick_code-code in
    let if1 = c.if-code-eq0 in
    let find-nul = c.find_nul-end in
    let if2 = c.if-piece-end in
    let if3 = c.if-end-start-gt-MOST_HELD in
    let name-number = c.name_number in
    ill_named args.piece.now args.i args.h quick-code.result quick-code.ensures if1.false find-nul.result find-nul.ensures
    if2.false if3.false name-number.result name-number.ensures c.if-name_number-ne-DONE.true

pub overflow_cast-mode : goal.overflow_cast-mode
overflow_cast-mode c =
    let args = c.args in
    let quick-code = c.quick_code-code in
    let if1 = c.if-code-eq0 in
    omega (arith, (code_fits args.piece.now args.i args.h quick-code.result quick-code.ensures if1.false).2)

pub returns : goal.returns
returns c =
    let args = c.args in
    let quick-code = c.quick_code-code in
    let if1 = c.if-code-eq0 in
    let find-nul = c.find_nul-end in
    let if2 = c.if-piece-end in
    let if3 = c.if-end-start-gt-MOST_HELD in
    let name-number = c.name_number in
    let if4 = c.if-name_number-ne-DONE in
    well_named args.piece.now args.i args.h quick-code.result quick-code.ensures if1.false find-nul.result find-nul.ensures
    if2.false if3.false name-number.result name-number.ensures if4.false c.is_tree.result c.is_tree.ensures
