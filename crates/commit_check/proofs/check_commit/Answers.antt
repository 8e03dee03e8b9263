-- `commit_check::check_commit` meets its contract. Assumes nothing.
use Rattle.commit_check.proofs.Laws.{checked-shut, checked-stop, checked-fine}
use Rattle.ground.proofs.Laws.{gate_open}
use mathlib.Core.Path.{sym, ◌∙◌}
use native.Mathlib.Omega.{arith}
use Rattle.commit_check.proofs.check_commit.Goals as goal

pub count_all-k-requires : goal.count_all-k-requires
count_all-k-requires c =
    let longer2 = c.longer-2 in
    let o = gate_open _ _ _ (sym c.bounds.ensures ∙ c.in-Ok.is) in
    record { parents_len_bound = omega (arith, o.2, longer2.ensures); width_len_bound = omega (arith, o.2, longer2.ensures) }

pub returns-then-k-n : goal.returns-then-k-n
returns-then-k-n c =
    let enum_told = c.in-Ok in
    let count-all = c.count_all-k in
    let if1 = c.if-k-n in
    let bounds1 = c.bounds in
    let longer21 = c.longer-2 in
    let longer1 = c.longer in
    let args1 = c.args in
    let bounds = bounds1 in
    let longer2 = longer21 in
    let longer = longer1 in
    let args = args1 in
    sym (checked-stop args.h args.bytes.now args.parts args.parents.now args.headers.now args.room _ _ longer.ensures longer2.ensures
    (sym bounds.ensures ∙ enum_told.is) _ count-all.ensures if1.true)

pub returns-in-Err : goal.returns-in-Err
returns-in-Err c =
    let v = c.in-Err in
    let bounds = c.bounds in
    let longer21 = c.longer-2 in
    let longer1 = c.longer in
    let args1 = c.args in
    let longer2 = longer21 in
    let longer = longer1 in
    let args = args1 in
    sym (checked-shut args.h args.bytes.now args.parts args.parents.now args.headers.now args.room _ _ longer.ensures longer2.ensures
    _ (sym bounds.ensures ∙ v.is))

pub returns-else-k-n : goal.returns-else-k-n
returns-else-k-n c =
    let enum_told = c.in-Ok in
    let count-all = c.count_all-k in
    let if1 = c.if-k-n in
    let bounds1 = c.bounds in
    let longer21 = c.longer-2 in
    let longer1 = c.longer in
    let args1 = c.args in
    let bounds = bounds1 in
    let longer2 = longer21 in
    let longer = longer1 in
    let args = args1 in
    sym (checked-fine args.h args.bytes.now args.parts args.parents.now args.headers.now args.room _ _ longer.ensures longer2.ensures
    (sym bounds.ensures ∙ enum_told.is) _ count-all.ensures if1.false)
