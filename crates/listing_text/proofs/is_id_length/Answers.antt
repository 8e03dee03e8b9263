-- `listing_text::is_id_length` meets its contract. Assumes nothing.
use Rattle.std.proofs.Common.{eq-eqb}
use mathlib.Core.Path.{sym, ◌∙◌}
use mathlib.Core.Logic.{inl}
use Rattle.ground.proofs.Laws.{id-made}
use Rattle.listing_text.proofs.Laws.{not_short}
use Rattle.listing_text.proofs.is_id_length.Goals as goal

pub returns-then-h-eq20 : goal.returns-then-h-eq20
returns-then-h-eq20 c = eq-eqb c.args.h 20 c.if-h-eq20.true ∙ sym (id-made c.args.h (inl c.if-h-eq20.true))

pub returns-else-h-eq20 : goal.returns-else-h-eq20
returns-else-h-eq20 c = not_short c.args.h c.if-h-eq20.false
