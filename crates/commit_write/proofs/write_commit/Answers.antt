-- `commit_write::write_commit` meets its contract. Assumes nothing.
use Rattle.commit_write.proofs.Laws.{write-bad, encoding-fits, write_asks, write-count, write-fault, write-fits}
use Rattle.output.proofs.Laws.{refused-both, fitted-both}
use lib.ListN.{length}
use Rattle.commit_write.proofs.write_commit.Goals as goal

pub returns-then-refusal-ne-DONE : goal.returns-then-refusal-ne-DONE
returns-then-refusal-ne-DONE c =
    let r = (let a = c.args in
    let measure = c.measure-a in
    refused-both _ _ _ (write-bad a.h a.bytes.now a.parts a.parents.now a.headers.now (length a.out.now) measure.result
    measure.ensures
    c.if-refusal-ne-DONE.true) c.if-refusal-ne-DONE.true) in
    record { value = r.0; out_after = r.1 }

pub encoding_refusal-fault-requires : goal.encoding_refusal-fault-requires
encoding_refusal-fault-requires c =
    let a = c.args in
    let measure = c.measure-a in
    encoding-fits a.h a.bytes.now a.parts a.parents.now a.headers.now (length a.out.now) measure.result measure.ensures
    c.if-refusal-ne-DONE.false

pub returns-then-fault-ne-DONE : goal.returns-then-fault-ne-DONE
returns-then-fault-ne-DONE c =
    let r = (let a = c.args in
    let measure = c.measure-a in
    let if1 = c.if-refusal-ne-DONE in
    let encoding-refusal = c.encoding_refusal-fault in
    let if2 = c.if-fault-ne-DONE in
    refused-both _ _ _ (write-fault a.h a.bytes.now a.parts a.parents.now a.headers.now (length a.out.now) measure.result
    measure.ensures
    if1.false encoding-refusal.result encoding-refusal.ensures if2.true) if2.true) in
    record { value = r.0; out_after = r.1 }

pub returns-then-short-ne-DONE : goal.returns-then-short-ne-DONE
returns-then-short-ne-DONE c =
    let r = (let if2 = c.if-fault-ne-DONE in
    let fit = c.fit-answer in
    let encoding-refusal = c.encoding_refusal-fault in
    let if1 = c.if-refusal-ne-DONE in
    let measure = c.measure-a in
    let a = c.args in
    refused-both _ _ _ (write-fits a.h a.bytes.now a.parts a.parents.now a.headers.now (length a.out.now) measure.result
    measure.ensures
    if1.false encoding-refusal.result encoding-refusal.ensures if2.false fit.result fit.ensures) c.if-short-ne-DONE.true) in
    record { value = r.0; out_after = r.1 }

pub put_commit-requires : goal.put_commit-requires
put_commit-requires c =
    let measure = c.measure-a in
    let a = c.args in
    write_asks a.h a.bytes.now a.parts a.parents.now a.headers.now (length a.out.now) measure.result measure.ensures
    c.if-refusal-ne-DONE.false

pub returns : goal.returns
returns c =
    let r = (let put-commit = c.put_commit in
    let fit = c.fit-answer in
    let if2 = c.if-fault-ne-DONE in
    let encoding-refusal = c.encoding_refusal-fault in
    let if1 = c.if-refusal-ne-DONE in
    let measure = c.measure-a in
    let a = c.args in
    fitted-both fit.result measure.result _ a.out.now _
    (write-fits a.h a.bytes.now a.parts a.parents.now a.headers.now (length a.out.now)
    measure.result measure.ensures if1.false encoding-refusal.result encoding-refusal.ensures if2.false fit.result fit.ensures)
    fit.ensures
    c.if-short-ne-DONE.false
    (write-count a.h a.bytes.now a.parts a.parents.now a.headers.now (length a.out.now) measure.result measure.ensures)
    put-commit.ensures.out_after) in
    record { value = r.0; out_after = r.1 }
