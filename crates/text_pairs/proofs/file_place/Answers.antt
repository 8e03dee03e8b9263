-- `text_pairs::file_place` meets its contract. Assumes nothing.
use mathlib.Core.Path.{sym, ◌∙◌}
use Rattle.keys.specs.Key.{key_at, below_by}
use Rattle.keys.proofs.Keys.{key_strict}
use Rattle.text_pairs.proofs.Laws.{count-first, count_next, above}
use Rattle.text_pairs.proofs.file_place.Goals as goal

pub returns-then-j-eq0 : goal.returns-then-j-eq0
returns-then-j-eq0 c =
    let args = c.args in
    let if1 = c.if-j-eq0 in
    count-first (below_by (key_at args.text.now 9 0)) (key_strict _) args.list.now c.requires.ascends args.x args.j c.requires.j_in_bounds.0
    (above args.text.now args.x c.requires.j_in_bounds.2 c.requires.j_in_bounds.1) if1.true

pub returns-then-below : goal.returns-then-below
returns-then-below c =
    let args = c.args in
    let if1 = c.if-j-eq0 in
    let below = c.below in
    let if2 = c.if-below in
    count_next (below_by (key_at args.text.now 9 0)) (key_strict _) args.list.now c.requires.ascends args.x args.j c.requires.j_in_bounds.0
    (above args.text.now args.x c.requires.j_in_bounds.2 c.requires.j_in_bounds.1) if1.false (sym below.ensures ∙ if2.true)

pub search-requires : goal.search-requires
search-requires c = c.requires.ascends
