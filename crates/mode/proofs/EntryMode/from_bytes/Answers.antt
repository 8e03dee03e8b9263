-- `mode::EntryMode::from_bytes` meets its contract: it reads from place 0 where the bound lets it. Assumes nothing.
use mathlib.Core.Path.{sym, ap, ◌∙◌}
use Rattle.mode.specs.Read.{alone}
use Rattle.mode.proofs.Laws.{alone_open, alone-shut}
use Rattle.mode.proofs.EntryMode.from_bytes.Goals as goal

pub returns-in-Some : goal.returns-in-Some
returns-in-Some c =
    let gate = sym c.sizes.ensures ∙ c.in-Ok.is in
    ap alone (sym c.in-Some.is ∙ c.extract_at.ensures) ∙ sym (alone_open _ gate)

pub returns-in-None : goal.returns-in-None
returns-in-None c =
    let gate = sym c.sizes.ensures ∙ c.in-Ok.is in
    ap alone (sym c.in-None.is ∙ c.extract_at.ensures) ∙ sym (alone_open _ gate)

pub returns-in-Err : goal.returns-in-Err
returns-in-Err c =
    let sizes = c.sizes in
    sym (alone-shut _ _ (sym sizes.ensures ∙ c.in-Err.is))
