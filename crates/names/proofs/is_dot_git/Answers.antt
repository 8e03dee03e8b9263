-- `names::is_dot_git` meets its contract. Assumes nothing.
use Rattle.names.proofs.Laws.{git_told}
use Rattle.names.proofs.is_dot_git.Goals as goal

pub returns : goal.returns
returns c = git_told c.args.name.now c.eq_ignore_ascii_case.result c.eq_ignore_ascii_case.ensures.test
