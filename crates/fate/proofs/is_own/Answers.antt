use mathlib.Core.Path.{sym, ◌∙◌}
use lib.Seq.{length-take-le}
use Rattle.fate.proofs.Laws.{own-fits, text-own}
use mathlib.Core.Bool.{true, false}
use Rattle.fate.proofs.is_own.Goals as goal

pub slice_bounds-bytes-end : goal.slice_bounds-bytes-end
slice_bounds-bytes-end c = (own-fits _ _ c.own_text-own.ensures).1

pub slice_bounds-same_bytes-end : goal.slice_bounds-same_bytes-end
slice_bounds-same_bytes-end c = sym (length-take-le _ _ (own-fits _ _ c.own_text-own.ensures).1)

pub returns-then-same_bytes : goal.returns-then-same_bytes
returns-then-same_bytes c =
    let args = c.args in
    let own-text = c.own_text-own in
    let same_bytes = c.same_bytes in
    let if1 = c.if-same_bytes in
    sym (text-own args.text.now args.mode true own-text.ensures (sym same_bytes.ensures ∙ if1.true))

pub returns : goal.returns
returns c =
    let args = c.args in
    let own-text = c.own_text-own in
    let same_bytes = c.same_bytes in
    let if1 = c.if-same_bytes in
    sym (text-own args.text.now args.mode false own-text.ensures (sym same_bytes.ensures ∙ if1.false))
