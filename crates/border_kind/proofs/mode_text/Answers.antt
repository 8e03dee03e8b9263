-- `border_kind::mode_text` meets its contract. Assumes nothing.
use mathlib.Core.Path.{ap}
use Rattle.border_kind.proofs.mode_text.Goals as goal

pub returns : goal.returns
returns c = record { value = ap (λ t. t.len) c.as_bytes-t.ensures; text_after = ap (λ t. t.bytes) c.as_bytes-t.ensures }
