-- `edit_turn::fate_of` meets its contract. Assumes nothing.
use mathlib.Core.Path.{sym, ◌∙◌}
use Rattle.edit_turn.proofs.Laws.{fate_out, fate_placed, fate_below, fate_same, fate_above}
use Rattle.edit_turn.proofs.fate_of.Goals as goal

pub returns-then-same_bytes : goal.returns-then-same_bytes
returns-then-same_bytes c = fate_out _ _ _ _ _ (sym c.same_bytes.ensures ∙ c.if-same_bytes.true)

pub returns-then-placed : goal.returns-then-placed
returns-then-placed c =
    let same_bytes = c.same_bytes in
    fate_placed _ _ _ _ _ (sym same_bytes.ensures ∙ c.if-same_bytes.false) c.if-placed.true

pub returns-in-Less : goal.returns-in-Less
returns-in-Less c =
    let same_bytes = c.same_bytes in
    let if1 = c.if-same_bytes in
    let if2 = c.if-placed in
    let name-order = c.name_order in
    fate_below _ _ _ _ _ (sym same_bytes.ensures ∙ if1.false) if2.false _ name-order.ensures c.in-Less.is

pub returns-in-Equal : goal.returns-in-Equal
returns-in-Equal c =
    let same_bytes = c.same_bytes in
    let if1 = c.if-same_bytes in
    let if2 = c.if-placed in
    let name-order = c.name_order in
    fate_same _ _ _ _ _ (sym same_bytes.ensures ∙ if1.false) if2.false _ name-order.ensures c.in-Equal.is

pub returns-in-Greater : goal.returns-in-Greater
returns-in-Greater c =
    let same_bytes = c.same_bytes in
    let if1 = c.if-same_bytes in
    let if2 = c.if-placed in
    let name-order = c.name_order in
    fate_above _ _ _ _ _ (sym same_bytes.ensures ∙ if1.false) if2.false _ name-order.ensures c.in-Greater.is
