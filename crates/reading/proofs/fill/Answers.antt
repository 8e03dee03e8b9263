-- `reading::fill` meets its contract. Assumes nothing.
use Prim.Native.Nat.{ℕ, ◌+◌, ◌-◌, ◌*◌, ◌%◌}
use native.Mathlib.Omega.{arith}
use mathlib.Core.Path.{refl, sym, ap, ◌∙◌}
use Rattle.entry.specs.Record.{width}
use Rattle.reading.specs.Lengths.{name_at, place_of}
use Rattle.reading.specs.Listing.{listing, records_in}
use Rattle.reading.proofs.Laws.{rest_at, whole_here, none_full, none_left, store-start, store-turn, store_end, store-none}
use Rattle.reading.proofs.Lengths.{place_after}
use Rattle.reading.proofs.Front.{code-none, name_starts, name-ends, name-short, name-whole}
use Rattle.reading.proofs.fill.Goals as goal

pub loop-n-init : goal.loop-n-init
unfolding place_of
loop-n-init c =
    let args = c.args in
    (refl, store-start args.records.now args.count (records_in (listing args.h args.s.now)), refl)

pub shape_of-records-then-n-ge-MOST_RECORDS : goal.shape_of-records-then-n-ge-MOST_RECORDS
shape_of-records-then-n-ge-MOST_RECORDS c =
    let loop = c.loop-n in
    loop.invariant.0

pub returns-then-n-ge-MOST_RECORDS : goal.returns-then-n-ge-MOST_RECORDS
returns-then-n-ge-MOST_RECORDS c =
    let loop = c.loop-n in
    let args = c.args in
    sym (loop.invariant.1 ∙ store-none loop.records (loop.n * width) (args.count - loop.n) (rest_at args.h args.s.now loop.at loop.n)
    (none_full args.h args.s.now loop.at loop.n c.if-n-ge-MOST_RECORDS.true))

pub shape_of-records-then-code-eq0 : goal.shape_of-records-then-code-eq0
shape_of-records-then-code-eq0 c =
    let loop = c.loop-n in
    loop.invariant.0

pub returns-then-code-eq0 : goal.returns-then-code-eq0
returns-then-code-eq0 c =
    let if1 = c.if-n-ge-MOST_RECORDS in
    let loop = c.loop-n in
    let args = c.args in
    let d = code-none args.s.now args.h loop.at _ c.mode_code-code.ensures c.if-code-eq0.true in
    sym (loop.invariant.1 ∙ store-none loop.records (loop.n * width) (args.count - loop.n) (rest_at args.h args.s.now loop.at loop.n)
    (none_left args.h args.s.now loop.at loop.n if1.false d))

pub overflow_add-name_start : goal.overflow_add-name_start
overflow_add-name_start c =
    let loop = c.loop-n in
    let args = c.args in
    omega (arith, name_starts args.s.now args.h loop.at _ c.mode_code-code.ensures c.if-code-eq0.false)

pub name_end-name_end-requires : goal.name_end-name_end-requires
name_end-name_end-requires c =
    let mode-code = c.mode_code-code in
    let loop = c.loop-n in
    let args = c.args in
    let pre = c.requires in
    let named = ap (λ (k : ℕ). loop.at + k % 16) mode-code.ensures ∙ ap (name_at args.s.now) loop.invariant.2 in
    (name_starts args.s.now args.h loop.at _ mode-code.ensures c.if-code-eq0.false, rw named (pre.1 loop.n))

pub overflow_sub-left : goal.overflow_sub-left
overflow_sub-left c =
    let mode-code = c.mode_code-code in
    let loop = c.loop-n in
    let args = c.args in
    name-ends args.s.now args.h loop.at _ mode-code.ensures c.if-code-eq0.false _ c.name_end-name_end.ensures

pub shape_of-records-then-left-h : goal.shape_of-records-then-left-h
shape_of-records-then-left-h c =
    let loop = c.loop-n in
    loop.invariant.0

pub returns-then-left-h : goal.returns-then-left-h
returns-then-left-h c =
    let if2 = c.if-code-eq0 in
    let mode-code = c.mode_code-code in
    let if1 = c.if-n-ge-MOST_RECORDS in
    let loop = c.loop-n in
    let args = c.args in
    let d = name-short args.s.now args.h loop.at _ mode-code.ensures if2.false _ c.name_end-name_end.ensures c.if-left-h.true in
    sym (loop.invariant.1 ∙ store-none loop.records (loop.n * width) (args.count - loop.n) (rest_at args.h args.s.now loop.at loop.n)
    (none_left args.h args.s.now loop.at loop.n if1.false d))

pub loop-n-preserved : goal.loop-n-preserved
loop-n-preserved c =
    let put_entry = c.put_entry in
    let if3 = c.if-left-h in
    let name-end = c.name_end-name_end in
    let if2 = c.if-code-eq0 in
    let mode-code = c.mode_code-code in
    let if1 = c.if-n-ge-MOST_RECORDS in
    let loop-test = c.loop-n-test in
    let loop = c.loop-n in
    let args = c.args in
    let pre = c.requires in
    let d = name-whole args.s.now args.h loop.at _ mode-code.ensures if2.false _ name-end.ensures if3.false in
    let e = whole_here args.h args.s.now loop.at loop.n if1.false d in
    let fits = pre.0 in
    let same = loop.invariant.0 in
    let kept = put_entry.auto.records ∙ loop.invariant.0 in
    let turned = store-turn loop.records _ loop.n _ args.count _ _ _ e (omega arith) loop-test.true put_entry.ensures loop.invariant.1 in
    (kept, turned, place_after args.h args.s.now loop.n loop.at _ _ loop.invariant.2 mode-code.ensures name-end.ensures)

pub shape_of-records : goal.shape_of-records
shape_of-records c = c.loop-n.invariant.0

pub returns : goal.returns
returns c = sym (c.loop-n.invariant.1 ∙ store_end c.loop-n.records _ _ _ _ c.loop-n-test.false)
