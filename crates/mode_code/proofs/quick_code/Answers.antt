-- `mode_code::quick_code` meets its contract: a tree's text, what six digits say, or too few bytes. Assumes nothing.
use mathlib.Core.Path.{sym, ◌∙◌}
use native.Mathlib.Omega.{arith}
use Rattle.mode_code.proofs.Texts.{quick_tree, quick_none, quick_six, quick_short}
use Rattle.mode_code.proofs.quick_code.Goals as goal

pub returns-then-s-at : goal.returns-then-s-at
returns-then-s-at c = sym (quick_short _ _ (omega arith))

pub returns-then-s-at-lt7 : goal.returns-then-s-at-lt7
returns-then-s-at-lt7 c = sym (quick_short _ _ (omega arith))

pub returns-then-d-eq540028976 : goal.returns-then-d-eq540028976
returns-then-d-eq540028976 c = sym (quick_tree _ _ (omega arith) c.type_inv.s (omega arith) (omega arith))

pub returns-then-a-eq808464436 : goal.returns-then-a-eq808464436
returns-then-a-eq808464436 c = sym (quick_none _ _ (omega arith) c.type_inv.s (omega arith) (λ e. omega arith))

pub returns : goal.returns
returns c =
    let six-code = c.six_code in
    six-code.ensures ∙ quick_six _ _ (omega arith) c.type_inv.s _ _ (omega arith) (omega arith) (λ e. omega arith)
