-- `text_import::measure` meets its contract. Assumes nothing.
use Rattle.text_import.proofs.measure.Goals as goal

pub write_all-requires : goal.write_all-requires
write_all-requires c =
    let r = c.requires in
    record { text_len_bound = r.text_len_bound; all_read = r.all_read }

pub returns : goal.returns
returns c = c.write_all.ensures.value
