-- `merge::merge_step` meets its contract. Assumes nothing.
use lib.ListN.{length}
use Rattle.merge.proofs.Laws as laws
use Rattle.merge.proofs.merge_step.Goals as goal

pub only_right-requires : goal.only_right-requires
only_right-requires c =
    let args = c.args in
    let good = c.well_formed in
    let next-entry2 = c.next_entry-y in
    let y = c.in-Some-y in
    let f = laws.entry_in args.h args.bundle.now args.r next-entry2.result y.b y.next next-entry2.ensures
    y.is in
    laws.id-fits args.h (length args.bundle.now) y.b f good.0.0

pub only_left-requires : goal.only_left-requires
only_left-requires c =
    let args = c.args in
    let good = c.well_formed in
    let next-entry = c.next_entry-x in
    let x = c.in-Some in
    let f = laws.entry_in args.h args.bundle.now args.l next-entry.result x.a x.next next-entry.ensures
    x.is in
    laws.id-fits args.h (length args.bundle.now) x.a f good.0.0

pub order_of-requires : goal.order_of-requires
order_of-requires c =
    let args = c.args in
    let next-entry = c.next_entry-x in
    let next-entry2 = c.next_entry-y in
    let x = c.in-Some in
    let y2 = c.in-Some-y-2 in
    let f = laws.entry_in args.h args.bundle.now args.l next-entry.result x.a x.next next-entry.ensures
    x.is in
    let g = laws.entry_in args.h args.bundle.now args.r next-entry2.result y2.b y2.other next-entry2.ensures
    y2.is in
    record { name_start_bound = (f.0, f.1); name_start_bound_2 = (g.0, g.1) }

pub only_left-requires-in-Less : goal.only_left-requires-in-Less
only_left-requires-in-Less c =
    let args = c.args in
    let good = c.well_formed in
    let next-entry = c.next_entry-x in
    let x = c.in-Some in
    let f = laws.entry_in args.h args.bundle.now args.l next-entry.result x.a x.next next-entry.ensures
    x.is in
    laws.id-fits args.h (length args.bundle.now) x.a f good.0.0

pub in_both-requires : goal.in_both-requires
in_both-requires c =
    let args = c.args in
    let next-entry = c.next_entry-x in
    let next-entry2 = c.next_entry-y in
    let x = c.in-Some in
    let y2 = c.in-Some-y-2 in record { entry_within = laws.entry_in args.h args.bundle.now args.l next-entry.result x.a x.next next-entry.ensures x.is; entry_within_2 = laws.entry_in args.h args.bundle.now args.r next-entry2.result y2.b y2.other next-entry2.ensures y2.is }

pub only_right-requires-in-Greater : goal.only_right-requires-in-Greater
only_right-requires-in-Greater c =
    let args = c.args in
    let good = c.well_formed in
    let next-entry2 = c.next_entry-y in
    let y2 = c.in-Some-y-2 in
    let f = laws.entry_in args.h args.bundle.now args.r next-entry2.result y2.b y2.other next-entry2.ensures
    y2.is in
    laws.id-fits args.h (length args.bundle.now) y2.b f good.0.0

pub returns-in-None-y : goal.returns-in-None-y
returns-in-None-y c =
    let args = c.args in
    let next-entry = c.next_entry-x in
    let next-entry2 = c.next_entry-y in
    let enum_told = c.in-None in
    let enum-told2 = c.in-None-y in
    laws.step-done args.h args.bundle.now args.l args.r next-entry.result next-entry2.result next-entry.ensures
    next-entry2.ensures enum_told.is enum-told2.is

pub returns-in-Some-y : goal.returns-in-Some-y
returns-in-Some-y c =
    let args = c.args in
    let next-entry = c.next_entry-x in
    let next-entry2 = c.next_entry-y in
    let enum_told = c.in-None in
    let y = c.in-Some-y in
    let only-right = c.only_right in
    laws.step-right_end args.h args.bundle.now args.l args.r next-entry.result next-entry2.result next-entry.ensures
    next-entry2.ensures enum_told.is y.b y.next y.is only-right.result only-right.ensures

pub returns-in-None-y-2 : goal.returns-in-None-y-2
returns-in-None-y-2 c =
    let args = c.args in
    let next-entry = c.next_entry-x in
    let next-entry2 = c.next_entry-y in
    let x = c.in-Some in
    let enum-told3 = c.in-None-y-2 in
    let only-left = c.only_left in
    laws.step-left_end args.h args.bundle.now args.l args.r next-entry.result next-entry2.result next-entry.ensures
    next-entry2.ensures enum-told3.is x.a x.next x.is only-left.result only-left.ensures

pub returns-in-Less : goal.returns-in-Less
returns-in-Less c =
    let args = c.args in
    let next-entry = c.next_entry-x in
    let next-entry2 = c.next_entry-y in
    let x = c.in-Some in
    let y2 = c.in-Some-y-2 in
    let order-of = c.order_of in
    let enum-told4 = c.in-Less in
    let only-left2 = c.only_left-in-Less in
    laws.step_left args.h args.bundle.now args.l args.r next-entry.result next-entry2.result next-entry.ensures
    next-entry2.ensures x.a x.next x.is y2.b y2.other y2.is order-of.result
    order-of.ensures enum-told4.is only-left2.result only-left2.ensures

pub returns-in-Equal : goal.returns-in-Equal
returns-in-Equal c =
    let args = c.args in
    let next-entry = c.next_entry-x in
    let next-entry2 = c.next_entry-y in
    let x = c.in-Some in
    let y2 = c.in-Some-y-2 in
    let order-of = c.order_of in
    let enum-told5 = c.in-Equal in
    let in_both = c.in_both in
    laws.step_both args.h args.bundle.now args.l args.r next-entry.result next-entry2.result next-entry.ensures
    next-entry2.ensures x.a x.next x.is y2.b y2.other y2.is order-of.result
    order-of.ensures enum-told5.is in_both.result in_both.ensures

pub returns-in-Greater : goal.returns-in-Greater
returns-in-Greater c =
    let args = c.args in
    let next-entry = c.next_entry-x in
    let next-entry2 = c.next_entry-y in
    let x = c.in-Some in
    let y2 = c.in-Some-y-2 in
    let order-of = c.order_of in
    let enum-told6 = c.in-Greater in
    let only-right2 = c.only_right-in-Greater in
    laws.step_right args.h args.bundle.now args.l args.r next-entry.result next-entry2.result next-entry.ensures
    next-entry2.ensures x.a x.next x.is y2.b y2.other y2.is order-of.result
    order-of.ensures enum-told6.is only-right2.result only-right2.ensures
