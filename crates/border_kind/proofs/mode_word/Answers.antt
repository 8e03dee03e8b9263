-- `border_kind::mode_word` meets its contract. Assumes nothing.
use mathlib.Core.Path.{ap}
use Rattle.border_kind.proofs.mode_word.Goals as goal

pub returns : goal.returns
returns c = record { value = ap (λ t. t.len) c.as_str-w.ensures; word_after = ap (λ t. t.bytes) c.as_str-w.ensures }
