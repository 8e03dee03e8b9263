-- `reading::read_by` meets its contract. Assumes nothing.
use Rattle.reading.proofs.read_by.Goals as goal

pub returns : goal.returns
returns c =
    let count = c.count_plain-got.ensures.count in
    record { answer = rw (← count) c.finish_by.ensures.answer; records = rw (← count) c.finish_by.ensures.records }
