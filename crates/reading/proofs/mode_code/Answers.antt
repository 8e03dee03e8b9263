-- `reading::mode_code` meets its contract. Assumes nothing.
use mathlib.Core.Path.{sym, ◌∙◌}
use Rattle.mode_code.proofs.Laws.{quick_is-code}
use Rattle.reading.proofs.mode_code.Goals as goal

pub returns : goal.returns
returns c =
    let args = c.args in
    c.quick_code-quick.ensures ∙ sym (quick_is-code args.s.now args.at (λ z. c.if-quick-eq0.false (c.quick_code-quick.ensures ∙ z)))
