-- `lookup::bisect_entry` meets its contract. Assumes nothing.
use mathlib.Core.Path.{sym, ◌∙◌}
use Rattle.entry.proofs.Laws.{records-many}
use Rattle.lookup.proofs.Laws.{lookup-shut}
use Rattle.lookup.proofs.bisect_entry.Goals as goal

pub searched-requires : goal.searched-requires
searched-requires c =
    let number = records-many c.args.records.now in
    let wide = c.longer.ensures in
    rw (number, sym wide) (sym c.bounds.ensures ∙ c.in-Ok.is)

pub returns-in-Ok : goal.returns-in-Ok
returns-in-Ok c = c.told.ensures ∙ c.searched.ensures

pub returns-in-Err : goal.returns-in-Err
returns-in-Err c =
    let number = records-many c.args.records.now in
    let wide = c.longer.ensures in
    sym (lookup-shut _ _ _ _ _ _ (rw (number, sym wide) (sym c.bounds.ensures ∙ c.in-Err.is)))
