-- `lookups::bisect_entries` meets its contract. Assumes nothing.
use mathlib.Core.Path.{refl, sym, ◌∙◌}
use Rattle.output.proofs.Laws.{refused-both}
use Rattle.lookups.proofs.Laws.{first-room, first-number, many-shut, many_ran}
use Rattle.lookups.proofs.bisect_entries.Goals as goal

pub look_all-requires : goal.look_all-requires
look_all-requires c = (first-room _ _ _ _ _ (sym c.begins.ensures ∙ c.in-Ok.is)).1

pub returns-in-Err : goal.returns-in-Err
returns-in-Err c =
    let r = (let g = sym c.begins.ensures ∙ c.in-Err.is in
    refused-both _ _ _ (many-shut _ _ _ _ _ _ _ _ c.longer-bytes.ensures refl _ g) (first-number _ _ _ _ _ _ g)) in
    record { value = r.0; answers_after = r.1 }

pub returns-in-Ok : goal.returns-in-Ok
returns-in-Ok c =
    let r = (let g = sym c.begins.ensures ∙ c.in-Ok.is in
    let ends = c.look_all.ensures in
    many_ran _ _ _ _ _ _ _ _ c.longer-bytes.ensures refl g _ ends.value _ _ _ ends.answers_after) in
    record { value = r.0; answers_after = r.1 }
