-- `text_import::import_lent` meets its contract. Assumes nothing.
use mathlib.Core.Path.{sym, ◌∙◌}
use Rattle.text_import.proofs.Lent.{lent-shut, lent-whole, lent_began}
use Rattle.text_import.proofs.import_lent.Goals as goal

pub import_open-requires : goal.import_open-requires
import_open-requires c =
    let args = c.args in
    let bounds = c.bounds in
    let enum_told = c.in-Ok in
    lent_began args.rules args.h args.text.now (sym bounds.ensures ∙ enum_told.is)

pub returns-in-Err : goal.returns-in-Err
returns-in-Err c =
    let r = (let args = c.args in
    let bounds = c.bounds in
    let v = c.in-Err in
    lent-shut args.rules args.h args.text.now args.out.now args.list.now _ (sym bounds.ensures ∙ v.is)) in
    record { answer = r.0; out = r.1.0; list = r.1.1 }

pub returns-in-Ok : goal.returns-in-Ok
returns-in-Ok c =
    let r = (let args = c.args in
    let bounds = c.bounds in
    let enum_told = c.in-Ok in
    lent-whole args.rules args.h args.text.now args.out.now args.list.now (sym bounds.ensures ∙ enum_told.is) _ _ _
    (c.import_open.ensures.answer, (c.import_open.ensures.out, c.import_open.ensures.list))) in
    record { answer = r.0; out = r.1.0; list = r.1.1 }
