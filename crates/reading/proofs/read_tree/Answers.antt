-- `reading::read_tree` meets its contract. Assumes nothing.
use mathlib.Core.Path.{refl, sym, ◌∙◌}
use Rattle.reading.specs.Listing.{listing}
use Rattle.reading.proofs.Laws.{answer-shut, refused-both, plain-refuses, gate_refuses, read-both}
use Rattle.reading.proofs.read_tree.Goals as goal

pub returns-in-Err : goal.returns-in-Err
returns-in-Err c =
    let r = (let bounds = c.bounds in
    let shut = sym bounds.ensures ∙ c.in-Err.is in
    refused-both _ _ _ (answer-shut _ _ _ _ shut) (gate_refuses _ _ _ _ shut)) in
    record { answer = r.0; records = r.1 }

pub returns-in-Ok : goal.returns-in-Ok
returns-in-Ok c =
    let r = (let enum_told = c.in-Ok in
    let bounds = c.bounds in
    let args = c.args in
    let plain = listing args.h args.bytes.now in
    read-both args.h args.bytes.now args.records.now plain (plain-refuses _ _) (λ n t. refl) (sym bounds.ensures ∙ enum_told.is)
    refl (c.read_plain.ensures.answer, c.read_plain.ensures.records)) in
    record { answer = r.0; records = r.1 }
