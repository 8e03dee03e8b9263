-- `merge::in_both` meets its contract. Assumes nothing.
use Rattle.merge.proofs.Laws as laws
use mathlib.Core.Path.{ap, ◌∙◌}
use lib.ListN.{length}
use Rattle.merge.specs.declared.Change.{Change}
use Rattle.merge.specs.declared.Step.TheVariants as step
use Rattle.merge.proofs.in_both.Goals as goal

pub slice_bounds-same_bytes-count : goal.slice_bounds-same_bytes-count
slice_bounds-same_bytes-count c =
    let args = c.args in
    let side-of = c.side_of-left in
    (laws.side-within args.h (length args.bundle.now) args.a side-of.result side-of.ensures c.requires.entry_within.2).0

pub slice_bounds-same_bytes-start : goal.slice_bounds-same_bytes-start
slice_bounds-same_bytes-start c =
    let args = c.args in
    let side-of = c.side_of-left in
    (laws.side-within args.h (length args.bundle.now) args.a side-of.result side-of.ensures c.requires.entry_within.2).0

pub slice_bounds-same_bytes-end : goal.slice_bounds-same_bytes-end
slice_bounds-same_bytes-end c =
    let args = c.args in
    let side-of = c.side_of-left in
    (laws.side-within args.h (length args.bundle.now) args.a side-of.result side-of.ensures c.requires.entry_within.2).1

pub slice_bounds-same_bytes-count-2 : goal.slice_bounds-same_bytes-count-2
slice_bounds-same_bytes-count-2 c =
    let args = c.args in
    let side-of2 = c.side_of-right in
    (laws.side-within args.h (length args.bundle.now) args.b side-of2.result side-of2.ensures c.requires.entry_within_2.2).0

pub slice_bounds-same_bytes-start-2 : goal.slice_bounds-same_bytes-start-2
slice_bounds-same_bytes-start-2 c =
    let args = c.args in
    let side-of2 = c.side_of-right in
    (laws.side-within args.h (length args.bundle.now) args.b side-of2.result side-of2.ensures c.requires.entry_within_2.2).0

pub slice_bounds-same_bytes-end-2 : goal.slice_bounds-same_bytes-end-2
slice_bounds-same_bytes-end-2 c =
    let args = c.args in
    let side-of2 = c.side_of-right in
    (laws.side-within args.h (length args.bundle.now) args.b side-of2.result side-of2.ensures c.requires.entry_within_2.2).1

pub returns-then-a-b : goal.returns-then-a-b
returns-then-a-b c =
    let args = c.args in
    let side-of = c.side_of-left in
    let side-of2 = c.side_of-right in
    let same_bytes = c.same_bytes in
    let if1 = c.if-same_bytes in
    let if2 = c.if-a-b in
    laws.both-same args.h args.bundle.now args.a args.b args.l args.r side-of.result side-of2.result side-of.ensures
    side-of2.ensures same_bytes.result same_bytes.ensures if1.true if2.true

pub returns-then-same_bytes : goal.returns-then-same_bytes
returns-then-same_bytes c =
    let args = c.args in
    let same_bytes = c.same_bytes in
    ap (λ (d : Change). step.Differs d args.l args.r) c.change_of.ensures
    ∙ laws.both-mode args.h args.bundle.now args.a args.b args.l args.r c.side_of-left.result c.side_of-right.result c.side_of-left.ensures
    c.side_of-right.ensures same_bytes.result same_bytes.ensures c.if-same_bytes.true c.if-a-b.false

pub returns : goal.returns
returns c =
    let args = c.args in
    let same_bytes = c.same_bytes in
    ap (λ (d : Change). step.Differs d args.l args.r) c.change_of-2.ensures
    ∙ laws.both-id args.h args.bundle.now args.a args.b args.l args.r c.side_of-left.result c.side_of-right.result c.side_of-left.ensures
    c.side_of-right.ensures same_bytes.result same_bytes.ensures c.if-same_bytes.false c.is_folder.result c.is_folder.ensures
