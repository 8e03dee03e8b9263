-- `listing_text::add_number` meets its contract. Assumes nothing.
use borrow.Author.Rules.{rules}
use native.Mathlib.Omega.{arith}
use Rattle.loose_header.specs.Header.{decimal}
use Rattle.loose_header.proofs.Digits.{decimal-most, decimal-part}
use Rattle.loose_header.proofs.Laws.{digits-part}
use Rattle.listing_text.proofs.Laws.{added_is}
use Rattle.listing_text.proofs.add_number.Goals as goal

pub slice_bounds-add-count : goal.slice_bounds-add-count
slice_bounds-add-count c = omega (arith, (decimal-part c.decimal_of-d.result _ c.decimal_of-d.ensures).0)

pub slice_bounds-add-start : goal.slice_bounds-add-start
slice_bounds-add-start c = omega (arith, (decimal-part c.decimal_of-d.result _ c.decimal_of-d.ensures).0)

pub slice_bounds-add-end : goal.slice_bounds-add-end
slice_bounds-add-end c =
    let d = c.decimal_of-d in
    omega (arith, (decimal-part d.result _ d.ensures).1)

pub add-requires : goal.add-requires
add-requires c = (omega arith, search rules)

pub returns : goal.returns
returns c =
    let r = c.decimal_of-d.result in
    let d = decimal-part r c.args.n c.decimal_of-d.ensures in
    let a = added_is (decimal c.args.n) (digits-part c.args.n r.at r.text d.1 d.2) c.add.ensures in
    (a, omega (arith, a.place, decimal-most c.args.n))
