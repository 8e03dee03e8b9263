-- `component::is_path` meets its contract. Assumes nothing.
use native.Mathlib.Omega.{arith}
use mathlib.Core.Path.{refl, sym, ◌∙◌}
use Rattle.ground.specs.Scan.{place_from}
use Rattle.component.proofs.Laws.{good_all, good_full, good-empty, good-last, good_more, to_within}
use Rattle.component.proofs.is_path.Goals as goal

pub loop-init : goal.loop-init
loop-init c = record { within = omega arith; rest = good_all _ }

pub returns-then-end-at : goal.returns-then-end-at
returns-then-end-at c =
    let i = c.loop.invariant in
    sym (i.rest ∙ good-empty _ _ _ _ i.within c.find_byte-end.ensures c.if-end-at.true)

pub returns-then-end-path : goal.returns-then-end-path
returns-then-end-path c =
    let i = c.loop.invariant in
    sym (i.rest ∙ good-last _ _ _ _ i.within c.find_byte-end.ensures c.loop-test.true c.if-end-at.false c.if-end-path.true)

pub overflow_add-at : goal.overflow_add-at
overflow_add-at c = omega (arith, to_within _ _ 0 _ c.loop.invariant.within c.find_byte-end.ensures)

pub loop-preserved : goal.loop-preserved
loop-preserved c =
    let i = c.loop.invariant in
    let found = c.find_byte-end.ensures in record {
      within = omega (arith, to_within _ _ 0 _ i.within found);
      rest = i.rest ∙ good_more _ _ _ _ i.within found c.loop-test.true c.if-end-at.false c.if-end-path.false;
    }

pub returns : goal.returns
returns c =
    let i = c.loop.invariant in
    sym (i.rest ∙ good_full _ _ _ (place_from 47 c.args.path.now c.loop.at) i.within refl c.loop-test.false)
