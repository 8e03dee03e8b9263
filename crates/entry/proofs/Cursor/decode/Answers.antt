-- `entry::Cursor::decode` meets its contract. Assumes nothing.
use mathlib.Core.Path.{sym, ap, ◌∙◌}
use Rattle.entry.specs.Decode.{broken_at}
use Rattle.entry.proofs.Laws.{decode-bad, name-within, decode-short, decode-whole}
use Rattle.entry.proofs.Cursor.decode.Goals as goal

pub overflow_sub-left : goal.overflow_sub-left
overflow_sub-left c =
    let args = c.args in
    let extract-at = c.extract_at in
    let m = c.in-Some in
    let find-nul = c.find_nul-end in
    name-within args.s.now args.h args.self.at _ _ _ (sym extract-at.ensures ∙ m.is) find-nul.ensures

pub returns-then-left-h : goal.returns-then-left-h
returns-then-left-h c =
    let args = c.args in
    let extract-at = c.extract_at in
    let m = c.in-Some in
    let find-nul = c.find_nul-end in
    let if1 = c.if-left-h in
    let short-part = c.short_part in
    let broken = c.broken in
    broken.ensures ∙ ap (broken_at args.self.at) short-part.ensures
    ∙ sym (decode-short args.s.now args.h args.self.at _ _ _ (sym extract-at.ensures ∙ m.is) find-nul.ensures if1.true)

pub returns-else-left-h : goal.returns-else-left-h
returns-else-left-h c =
    let args = c.args in
    let extract-at = c.extract_at in
    let m = c.in-Some in
    let find-nul = c.find_nul-end in
    let if1 = c.if-left-h in
    sym (decode-whole args.s.now args.h args.self.at _ _ _ (sym extract-at.ensures ∙ m.is) find-nul.ensures if1.false)

pub returns-in-None : goal.returns-in-None
returns-in-None c =
    let args = c.args in
    let extract-at = c.extract_at in
    let enum_told = c.in-None in
    let broken2 = c.broken-in-None in
    broken2.ensures ∙ sym (decode-bad args.s.now args.h args.self.at (sym extract-at.ensures ∙ enum_told.is))
