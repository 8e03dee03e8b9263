-- `tree_export::put_record` meets its contract. Assumes nothing.
use native.Mathlib.Omega.{arith}
use Rattle.tree_export.proofs.Laws.{id-fits, record_added}
use Rattle.tree_export.proofs.put_record.Goals as goal

pub put_digits-name-requires : goal.put_digits-name-requires
put_digits-name-requires c =
    let args = c.args in
    let put_front = c.put_front-hex in
    (id-fits args.h args.s.now args.e c.requires.name_start_bound c.requires.h_value.0, omega (arith, put_front.ensures.1, c.requires.h_value.2))

pub overflow_add-result : goal.overflow_add-result
overflow_add-result c =
    let put_front = c.put_front-hex in
    let put-digits = c.put_digits-name in
    omega (arith, put_front.ensures.1, put-digits.ensures.1, c.requires.h_value.2, c.requires.h_value.1, c.requires.name_start_bound.1)

pub overflow_add-result-2 : goal.overflow_add-result-2
overflow_add-result-2 c =
    let put_front = c.put_front-hex in
    let put-digits = c.put_digits-name in
    omega (arith, put_front.ensures.1, put-digits.ensures.1, c.requires.h_value.2, c.requires.h_value.1, c.requires.name_start_bound.1)

pub returns : goal.returns
returns c =
    let args = c.args in
    let put_front = c.put_front-hex in
    let put-digits = c.put_digits-name in
    let put_ended = c.put_ended in
    record_added args.h args.s.now args.e c.requires.name_start_bound _ _ _ _ args.at _ _ put_front.ensures put-digits.ensures c.requires.h_value.1 put_ended.ensures
