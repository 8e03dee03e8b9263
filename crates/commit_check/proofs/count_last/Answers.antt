-- `commit_check::count_last` meets its contract. Assumes nothing.
use Rattle.commit_check.proofs.Laws.{last-encoding, last-header, last-message, last-whole}
use mathlib.Core.Path.{sym, ◌∙◌}
use Rattle.commit_check.proofs.count_last.Goals as goal

pub returns-then-not-is_encoding : goal.returns-then-not-is_encoding
returns-then-not-is_encoding c =
    let a = c.args in
    sym (last-encoding a.bytes.now a.parts a.headers.now a.before (sym c.is_encoding.ensures ∙ c.if-not-is_encoding.true))

pub returns-then-k-m : goal.returns-then-k-m
returns-then-k-m c =
    let a = c.args in
    sym (last-header a.bytes.now a.parts a.headers.now a.before (sym c.is_encoding.ensures ∙ c.if-not-is_encoding.false)
    _ c.count_headers-k.ensures c.if-k-m.true)

pub returns-then-not-is_range : goal.returns-then-not-is_range
returns-then-not-is_range c =
    let a = c.args in
    sym (last-message a.bytes.now a.parts a.headers.now a.before (sym c.is_encoding.ensures ∙ c.if-not-is_encoding.false)
    _ c.count_headers-k.ensures c.if-k-m.false (sym c.is_range.ensures ∙ c.if-not-is_range.true))

pub returns : goal.returns
returns c =
    let a = c.args in
    sym (last-whole a.bytes.now a.parts a.headers.now a.before (sym c.is_encoding.ensures ∙ c.if-not-is_encoding.false)
    _ c.count_headers-k.ensures c.if-k-m.false (sym c.is_range.ensures ∙ c.if-not-is_range.false))
