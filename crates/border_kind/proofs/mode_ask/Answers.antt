-- `border_kind::mode_ask` meets its contract. Assumes nothing.
use Rattle.border.proofs.Laws.{flag_number}
use Rattle.border_kind.proofs.Laws.{seven}
use Rattle.border_kind.proofs.mode_ask.Goals as goal

pub returns : goal.returns
returns c =
    let is-tree = c.is_tree in
    let is-no-tree = c.is_no_tree in
    let is-blob = c.is_blob in
    let is-executable = c.is_executable in
    let is-blob-or-symlink = c.is_blob_or_symlink in
    let is-link = c.is_link in
    let is-commit = c.is_commit in
    seven (flag_number is-tree.ensures) (flag_number is-no-tree.ensures) (flag_number is-blob.ensures)
    (flag_number is-executable.ensures) (flag_number is-blob-or-symlink.ensures) (flag_number is-link.ensures) (flag_number is-commit.ensures)
