-- `commit_write::measure` meets its contract. Assumes nothing.
use Rattle.commit_write.proofs.Laws.{measure_refused, measure_asks, measure_done}
use Rattle.commit_write.proofs.measure.Goals as goal

pub returns-then-number-ne-DONE : goal.returns-then-number-ne-DONE
returns-then-number-ne-DONE c =
    let a = c.args in
    let check_commit = c.check_commit-verdict in
    measure_refused a.h a.bytes.now a.parts a.parents.now a.headers.now a.room check_commit.result check_commit.ensures
    c.if-number-ne-DONE.true

pub put_commit-count-requires : goal.put_commit-count-requires
put_commit-count-requires c =
    let a = c.args in
    let check_commit = c.check_commit-verdict in
    measure_asks a.h a.bytes.now a.parts a.parents.now a.headers.now a.room check_commit.result check_commit.ensures
    c.if-number-ne-DONE.false

pub returns : goal.returns
returns c =
    let a = c.args in
    let check_commit = c.check_commit-verdict in
    let if1 = c.if-number-ne-DONE in
    let put-commit = c.put_commit-count in
    measure_done a.h a.bytes.now a.parts a.parents.now a.headers.now a.room check_commit.result check_commit.ensures if1.false
    put-commit.result put-commit.ensures.value
