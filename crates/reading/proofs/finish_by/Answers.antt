-- `reading::finish_by` meets its contract. Assumes nothing.
use Rattle.reading.proofs.Laws.{ends_stopped, ends-short, ends-done}
use Rattle.reading.proofs.finish_by.Goals as goal

pub returns-then-records-n : goal.returns-then-records-n
returns-then-records-n c =
    let r = (let got2 = c.in-Ok in
    let args = c.args in
    ends-short args.h args.s.now args.records.now _ got2.is c.if-records-n.true) in
    record { answer = r.0; records = r.1 }

pub returns-in-Err : goal.returns-in-Err
returns-in-Err c =
    let r = (let args = c.args in
    ends_stopped args.h args.s.now args.records.now _ c.in-Err.is) in
    record { answer = r.0; records = r.1 }

pub returns-else-records-n : goal.returns-else-records-n
returns-else-records-n c =
    let r = (let fill = c.fill in
    let if1 = c.if-records-n in
    let got2 = c.in-Ok in
    let args = c.args in
    ends-done args.h args.s.now args.records.now _ got2.is if1.false fill.ensures) in
    record { answer = r.0; records = r.1 }
