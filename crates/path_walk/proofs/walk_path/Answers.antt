-- `path_walk::walk_path` meets its contract. Assumes nothing.
use mathlib.Core.Path.{sym, ◌∙◌}
use Rattle.path_walk.proofs.Laws.{reach_empty, reach_wrong, reach_right, walked-inside}
use Rattle.path_walk.proofs.walk_path.Goals as goal

pub returns-then-path-eq0 : goal.returns-then-path-eq0
returns-then-path-eq0 c = c.missing.ensures ∙ sym (reach_empty _ _ _ c.args.path.now c.if-path-eq0.true)

pub taken-requires : goal.taken-requires
taken-requires c = walked-inside _ _ _ _ _ c.walk.ensures

pub returns-then-is_path : goal.returns-then-is_path
returns-then-is_path c =
    c.taken.ensures ∙ sym (reach_right _ _ _ _ c.if-path-eq0.false _ c.is_path.ensures
    c.if-is_path.true _ c.walk.ensures)

pub returns : goal.returns
returns c =
    c.missing-2.ensures ∙ sym (reach_wrong _ _ _ _ c.if-path-eq0.false _ c.is_path.ensures
    c.if-is_path.false)
