-- `lookup::bisect_any` meets its contract. Assumes nothing.
use mathlib.Core.Path.{sym, ◌∙◌}
use Rattle.entry.proofs.Laws.{records-many}
use Rattle.lookup.proofs.Laws.{any-shut}
use Rattle.lookup.proofs.bisect_any.Goals as goal

pub searched_any-requires : goal.searched_any-requires
searched_any-requires c =
    let number = records-many c.args.records.now in
    let wide = c.longer.ensures in
    rw (number, sym wide) (sym c.bounds.ensures ∙ c.in-Ok.is)

pub returns-in-Ok : goal.returns-in-Ok
returns-in-Ok c = c.searched_any.ensures

pub returns-in-Err : goal.returns-in-Err
returns-in-Err c =
    let number = records-many c.args.records.now in
    let wide = c.longer.ensures in
    sym (any-shut _ _ _ _ _ (rw (number, sym wide) (sym c.bounds.ensures ∙ c.in-Err.is)))
