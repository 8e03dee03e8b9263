-- `mode::EntryMode::sort` meets its contract: the mask takes the top four bits of the value. Assumes nothing.
use mathlib.Core.Path.{ap, ◌∙◌}
use Rattle.mode.specs.Mode.{sort_of, top_bits}
use Rattle.mode.proofs.Laws.{mask_top}
use Rattle.mode.proofs.EntryMode.sort.Goals as goal

pub returns : goal.returns
unfolding sort_of
returns c = mask_top _ ∙ ap top_bits c.value.ensures
