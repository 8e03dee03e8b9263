-- `edit::is_mode` meets its contract. Assumes nothing.
use mathlib.Core.Path.{sym}
use native.Mathlib.Omega.{arith}
use lib.Seq.{length-take-le}
use Rattle.mode.proofs.Laws.{text-is}
use Rattle.edit.proofs.Leaves.{mode_text, mode-over}
use Rattle.edit.proofs.is_mode.Goals as goal

pub returns-then-mode-gt65535 : goal.returns-then-mode-gt65535
returns-then-mode-gt65535 c = mode-over c.args.rules c.args.mode c.if-mode-gt65535.true

pub slice_bounds-digits-end : goal.slice_bounds-digits-end
slice_bounds-digits-end c = omega (arith, (text-is _ _ c.as_bytes-text.ensures).1)

pub slice_bounds-mode_permitted-end : goal.slice_bounds-mode_permitted-end
slice_bounds-mode_permitted-end c =
    let as_bytes = c.as_bytes-text in
    sym (length-take-le _ _ (omega (arith, (text-is _ _ as_bytes.ensures).1)))

pub returns : goal.returns
returns c =
    let args = c.args in
    let if1 = c.if-mode-gt65535 in
    let as_bytes = c.as_bytes-text in
    mode_text args.rules args.mode _ if1.false (text-is _ _ as_bytes.ensures).2 c.mode_permitted.ensures
