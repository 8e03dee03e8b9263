-- `mode::EntryMode::value` meets its contract: each branch is a case of `value_of`. Assumes nothing.
use mathlib.Core.Path.{sym, ◌∙◌}
use borrow.Author.Tests.{eq-eqb, ne_eqb}
use Rattle.mode.specs.Mode.{value_of, top_bits}
use Rattle.mode.proofs.Laws.{mask_top}
use Rattle.mode.proofs.EntryMode.value.Goals as goal

pub returns-then-self-eq-PADDED_TREE : goal.returns-then-self-eq-PADDED_TREE
unfolding value_of
returns-then-self-eq-PADDED_TREE c =
    let m = c.args.self.internal in
    simp (eq-eqb (top_bits m) 0o140000 (sym (mask_top m) ∙ c.if-self-eq-PADDED_TREE.true))

pub returns : goal.returns
unfolding value_of
returns c =
    let m = c.args.self.internal in
    simp (ne_eqb (top_bits m) 0o140000 (λ e. c.if-self-eq-PADDED_TREE.false (mask_top m ∙ e)))
