-- `piece_head::begin` meets its contract. Assumes nothing.
use mathlib.Core.Path.{sym, ◌∙◌}
use native.Mathlib.Omega.{arith}
use Rattle.piece_head.proofs.Laws.{mode-within, begin-bad, begin-mode}
use Rattle.piece_head.proofs.begin.Goals as goal

pub begun-requires : goal.begun-requires
begun-requires c =
    let args = c.args in
    let read = c.extract_at in
    mode-within args.head _ _ (omega arith) (sym read.ensures ∙ c.in-Some.is)

pub returns-in-None : goal.returns-in-None
returns-in-None c =
    let args = c.args in
    let read = c.extract_at in
    begin-bad args.m args.at args.head (sym read.ensures ∙ c.in-None.is) c.refuse.ensures

pub returns-in-Some : goal.returns-in-Some
returns-in-Some c =
    let args = c.args in
    let read = c.extract_at in
    begin-mode args.m args.at args.head _ _ (sym read.ensures ∙ c.in-Some.is) c.begun.ensures
