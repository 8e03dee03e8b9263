-- `asking::ask` meets its contract. Assumes nothing.
use Rattle.asking.proofs.Laws.{all_asked}
use Rattle.asking.proofs.ask.Goals as goal

pub returns : goal.returns
returns c = all_asked c.args.s.now _ _ c.id_length-ids.ensures c.set_asked.ensures
