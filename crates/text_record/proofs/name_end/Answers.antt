-- `text_record::name_end` meets its contract. Assumes nothing.
use Rattle.text_record.proofs.Laws.{end_is}
use Rattle.text_record.proofs.name_end.Goals as goal

pub returns : goal.returns
returns c = end_is c.args.h c.args.b.now c.name_from-from.ensures c.find_nul.ensures
