-- `lookup::searched_any` meets its contract. Assumes nothing.
use mathlib.Core.Path.{sym, ◌∙◌}
use native.Mathlib.Omega.{arith}
use Rattle.lookup.proofs.Laws.{any-first, any-broken, any-second}
use Rattle.lookup.proofs.Theorems.{looked-small}
use Rattle.lookup.proofs.searched_any.Goals as goal

pub returns-then-first-ne-NOT_THERE : goal.returns-then-first-ne-NOT_THERE
returns-then-first-ne-NOT_THERE c =
    let first = c.told-first.ensures ∙ c.searched.ensures in
    sym (any-first _ _ _ _ first c.if-first-ne-NOT_THERE.true)

pub returns-then-second-eq-BAD_RECORD : goal.returns-then-second-eq-BAD_RECORD
returns-then-second-eq-BAD_RECORD c =
    let first = c.told-first.ensures ∙ c.searched.ensures in
    let second = c.told-second.ensures ∙ c.searched-2.ensures in
    sym (any-broken _ _ _ _ first c.if-first-ne-NOT_THERE.false second c.if-second-eq-BAD_RECORD.true)

pub overflow_add-compared : goal.overflow_add-compared
overflow_add-compared c =
    let first = c.told-first.ensures ∙ c.searched.ensures in
    let second = c.told-second.ensures ∙ c.searched-2.ensures in
    omega (arith, looked-small _ _ _ _ _ first, looked-small _ _ _ _ _ second)

pub returns : goal.returns
returns c =
    let first = c.told-first.ensures ∙ c.searched.ensures in
    let second = c.told-second.ensures ∙ c.searched-2.ensures in
    sym (any-second _ _ _ _ first c.if-first-ne-NOT_THERE.false second c.if-second-eq-BAD_RECORD.false)
