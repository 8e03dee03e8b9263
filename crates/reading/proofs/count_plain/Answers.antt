-- `reading::count_plain` meets its contract. Assumes nothing.
use Prim.Native.Nat.{ℕ, ◌-◌, ◌+◌, ◌%◌}
use mathlib.Core.Path.{refl, sym, ap, ◌∙◌}
use native.Mathlib.Omega.{arith}
use Rattle.ground.proofs.Laws.{place-from}
use Rattle.reading.specs.Lengths.{name_at, place_of}
use Rattle.reading.specs.Listing.{tally}
use Rattle.reading.proofs.Laws.{rest_end, rest_full, rest-broken, rest-whole}
use Rattle.reading.proofs.Lengths.{place_after, keeps}
use Rattle.reading.proofs.Front.{code-none, name_starts, name-ends, name-short, name-whole}
use Rattle.reading.proofs.count_plain.Goals as goal
use Rattle.std.specs.Prelude.{Err}

pub loop-at-init : goal.loop-at-init
unfolding place_of
loop-at-init c = (omega arith, refl, refl, refl, c.requires)

pub shape_of-lengths-then-n-ge-MOST_RECORDS : goal.shape_of-lengths-then-n-ge-MOST_RECORDS
shape_of-lengths-then-n-ge-MOST_RECORDS c = c.loop-at.invariant.2

pub returns-then-n-ge-MOST_RECORDS : goal.returns-then-n-ge-MOST_RECORDS
unfolding tally
returns-then-n-ge-MOST_RECORDS c =
    let loop = c.loop-at in
    record { count = sym (loop.invariant.1 ∙ ap (tally loop.n) (rest_full _ _ _ _ c.loop-at-test.true c.if-n-ge-MOST_RECORDS.true)); lengths = loop.invariant.4 }

pub shape_of-lengths-then-code-eq0 : goal.shape_of-lengths-then-code-eq0
shape_of-lengths-then-code-eq0 c =
    let loop = c.loop-at in
    loop.invariant.2

pub returns-then-code-eq0 : goal.returns-then-code-eq0
unfolding tally
returns-then-code-eq0 c =
    let mode-code = c.mode_code-code in
    let if1 = c.if-n-ge-MOST_RECORDS in
    let loop-test = c.loop-at-test in
    let loop = c.loop-at in
    let args = c.args in
    let d = code-none args.s.now args.h loop.at _ mode-code.ensures c.if-code-eq0.true in
    record { count = ap Err c.verdict_at.ensures ∙ sym (loop.invariant.1 ∙ ap (tally loop.n) (rest-broken _ _ _ _ loop-test.true if1.false d)); lengths = loop.invariant.4 }

pub overflow_add-from : goal.overflow_add-from
overflow_add-from c =
    let loop = c.loop-at in
    let args = c.args in
    omega (arith, name_starts args.s.now args.h loop.at _ c.mode_code-code.ensures c.if-code-eq0.false)

pub overflow_sub-left : goal.overflow_sub-left
overflow_sub-left c =
    let mode-code = c.mode_code-code in
    let loop = c.loop-at in
    let args = c.args in
    name-ends args.s.now args.h loop.at _ mode-code.ensures c.if-code-eq0.false _ c.find_nul-end.ensures

pub shape_of-lengths-then-left-h : goal.shape_of-lengths-then-left-h
shape_of-lengths-then-left-h c =
    let loop = c.loop-at in
    loop.invariant.2

pub returns-then-left-h : goal.returns-then-left-h
unfolding tally
returns-then-left-h c =
    let find-nul = c.find_nul-end in
    let if2 = c.if-code-eq0 in
    let mode-code = c.mode_code-code in
    let if1 = c.if-n-ge-MOST_RECORDS in
    let loop-test = c.loop-at-test in
    let loop = c.loop-at in
    let args = c.args in
    let d = name-short args.s.now args.h loop.at _ mode-code.ensures if2.false _ find-nul.ensures c.if-left-h.true in
    record { count = ap Err c.verdict_at-then-left-h.ensures ∙ sym (loop.invariant.1 ∙ ap (tally loop.n) (rest-broken _ _ _ _ loop-test.true if1.false d)); lengths = loop.invariant.4 }

pub overflow_sub-end : goal.overflow_sub-end
overflow_sub-end c =
    let args = c.args in
    let mode-code = c.mode_code-code in
    let loop = c.loop-at in
    omega (arith, c.find_nul-end.ensures, place-from 0 args.s.now (loop.at + mode-code.result % 16))

pub loop-at-preserved : goal.loop-at-preserved
unfolding tally
loop-at-preserved c =
    let remember = c.remember in
    let if3 = c.if-left-h in
    let find-nul = c.find_nul-end in
    let if2 = c.if-code-eq0 in
    let mode-code = c.mode_code-code in
    let if1 = c.if-n-ge-MOST_RECORDS in
    let loop-test = c.loop-at-test in
    let loop = c.loop-at in
    let args = c.args in
    let d = name-whole args.s.now args.h loop.at _ mode-code.ensures if2.false _ find-nul.ensures if3.false in
    let named = ap (λ (k : ℕ). loop.at + k % 16) mode-code.ensures ∙ ap (name_at args.s.now) loop.invariant.3 in (
      omega arith,
      loop.invariant.1 ∙ ap (tally loop.n) (rest-whole _ _ _ _ loop-test.true if1.false d),
      remember.auto.lengths ∙ loop.invariant.2,
      place_after args.h args.s.now loop.n loop.at _ _ loop.invariant.3 mode-code.ensures find-nul.ensures,
      rw remember.ensures (keeps args.h args.s.now loop.lengths loop.n _ _ named find-nul.ensures loop.invariant.4),
    )

pub shape_of-lengths : goal.shape_of-lengths
shape_of-lengths c = c.loop-at.invariant.2

pub returns : goal.returns
unfolding tally
returns c =
    let loop = c.loop-at in
    record { count = sym (loop.invariant.1 ∙ ap (tally loop.n) (rest_end _ _ _ _ c.loop-at-test.false)); lengths = loop.invariant.4 }
