-- `edit::new_number` meets its contract. Assumes nothing.
use mathlib.Core.Path.{sym, ◌∙◌}
use Rattle.edit_walk.specs.Walk.{new_entry}
use Rattle.edit.proofs.Leaves.{new-id, new-mode, new_nul, new-name}
use Rattle.edit.proofs.new_number.Goals as goal

pub returns-then-id-h : goal.returns-then-id-h
returns-then-id-h c =
    let args = c.args in
    new-id args.rules args.h (new_entry args.mode args.name.now args.id.now) c.if-id-h.true

pub returns-then-count_to-name : goal.returns-then-count_to-name
returns-then-count_to-name c =
    let args = c.args in
    let if1 = c.if-id-h in
    let is-mode = c.is_mode in
    let if2 = c.if-is_mode in
    let new = new_entry args.mode args.name.now args.id.now in
    new_nul args.rules args.h new if1.false (sym is-mode.ensures ∙ if2.true) (λ e. c.if-count_to-name.true (c.count_to.ensures ∙ e))

pub returns-then-is_mode : goal.returns-then-is_mode
returns-then-is_mode c =
    let args = c.args in
    let if1 = c.if-id-h in
    let is-mode = c.is_mode in
    let if2 = c.if-is_mode in
    let count-to = c.count_to in
    let if3 = c.if-count_to-name in
    let name-number = c.name_number in
    let new = new_entry args.mode args.name.now args.id.now in
    new-name args.rules args.h new if1.false (sym is-mode.ensures ∙ if2.true) (sym count-to.ensures ∙ if3.false) _ name-number.ensures

pub returns : goal.returns
returns c =
    let args = c.args in
    let if1 = c.if-id-h in
    new-mode args.rules args.h (new_entry args.mode args.name.now args.id.now) if1.false (sym c.is_mode.ensures ∙ c.if-is_mode.false)
