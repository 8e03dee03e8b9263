use mathlib.Core.Path.{sym, ◌∙◌}
use Rattle.fate.proofs.Laws.{stays-file, stays_link, stays-tree, stays-commit}
use Rattle.fate.proofs.stays_mode.Goals as goal

pub returns-then-is_blob : goal.returns-then-is_blob
returns-then-is_blob c = stays-file _ (sym c.is_blob.ensures ∙ c.if-is_blob.true)

pub returns-then-is_link : goal.returns-then-is_link
returns-then-is_link c =
    let is-blob = c.is_blob in
    let if1 = c.if-is_blob in
    let is-link = c.is_link in
    let if2 = c.if-is_link in
    stays_link _ (sym is-blob.ensures ∙ if1.false) (sym is-link.ensures ∙ if2.true)

pub returns-then-is_tree : goal.returns-then-is_tree
returns-then-is_tree c =
    let is-blob = c.is_blob in
    let if1 = c.if-is_blob in
    let is-link = c.is_link in
    let if2 = c.if-is_link in
    let is-tree = c.is_tree in
    let if3 = c.if-is_tree in
    stays-tree _ (sym is-blob.ensures ∙ if1.false) (sym is-link.ensures ∙ if2.false) (sym is-tree.ensures ∙ if3.true)

pub returns : goal.returns
returns c =
    let is-blob = c.is_blob in
    let if1 = c.if-is_blob in
    let is-link = c.is_link in
    let if2 = c.if-is_link in
    let is-tree = c.is_tree in
    let if3 = c.if-is_tree in
    let is-commit = c.is_commit in
    is-commit.ensures ∙ stays-commit _ (sym is-blob.ensures ∙ if1.false) (sym is-link.ensures ∙ if2.false) (sym is-tree.ensures ∙ if3.false)
