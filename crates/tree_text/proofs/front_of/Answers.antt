-- `tree_text::front_of` meets its contract. Assumes nothing.
use Rattle.tree_text.proofs.Laws.{front_tree, front_commit, front_blob}
use Rattle.tree_text.proofs.front_of.Goals as goal

pub returns-then-is_tree : goal.returns-then-is_tree
returns-then-is_tree c =
    let digit = c.digit-a in
    let digit2 = c.digit-b in
    let digit3 = c.digit-c in
    let digit4 = c.digit-d in
    let digit5 = c.digit-e in
    let digit6 = c.digit-f in
    let is-tree = c.is_tree in
    let if1 = c.if-is_tree in
    front_tree _ (digit.ensures, digit2.ensures, digit3.ensures, digit4.ensures, digit5.ensures, digit6.ensures) is-tree.ensures if1.true

pub returns-then-is_commit : goal.returns-then-is_commit
returns-then-is_commit c =
    let digit = c.digit-a in
    let digit2 = c.digit-b in
    let digit3 = c.digit-c in
    let digit4 = c.digit-d in
    let digit5 = c.digit-e in
    let digit6 = c.digit-f in
    let is-tree = c.is_tree in
    let if1 = c.if-is_tree in
    let is-commit = c.is_commit in
    let if2 = c.if-is_commit in
    front_commit _ (digit.ensures, digit2.ensures, digit3.ensures, digit4.ensures, digit5.ensures, digit6.ensures) is-tree.ensures if1.false
    is-commit.ensures if2.true

pub returns : goal.returns
returns c =
    let digit = c.digit-a in
    let digit2 = c.digit-b in
    let digit3 = c.digit-c in
    let digit4 = c.digit-d in
    let digit5 = c.digit-e in
    let digit6 = c.digit-f in
    let is-tree = c.is_tree in
    let if1 = c.if-is_tree in
    let is-commit = c.is_commit in
    let if2 = c.if-is_commit in
    front_blob _ (digit.ensures, digit2.ensures, digit3.ensures, digit4.ensures, digit5.ensures, digit6.ensures) is-tree.ensures if1.false
    is-commit.ensures if2.false
