-- `twice::id_twice` meets its contract. Assumes nothing.
use native.Mathlib.Omega.{arith}
use mathlib.Core.Path.{sym, ◌∙◌}
use Rattle.twice.proofs.Laws.{twice-over, twice-bad, twice-good, head-some, head_few}
use Rattle.twice.proofs.id_twice.Goals as goal

pub returns-then-s-gt-MOST_BYTES : goal.returns-then-s-gt-MOST_BYTES
returns-then-s-gt-MOST_BYTES c = sym (twice-over _ c.if-s-gt-MOST_BYTES.true)

pub twice_among-requires : goal.twice_among-requires
twice_among-requires c =
    let e = sym c.read_header.ensures ∙ c.in-Some.is in
    record { fact = head-some _ _ e; count_bound = c.if-k-le1024.true; small = omega arith; s_len_bound = c.if-s-gt-MOST_BYTES.false }

pub returns-then-k-le1024 : goal.returns-then-k-le1024
returns-then-k-le1024 c = c.twice_among.ensures ∙ sym (twice-good _ c.if-s-gt-MOST_BYTES.false _ (sym c.read_header.ensures ∙ c.in-Some.is))

pub twice_large-requires : goal.twice_large-requires
twice_large-requires c =
    let e = sym c.read_header.ensures ∙ c.in-Some.is in
    record { fact = head-some _ _ e; count_le_most_records = head_few _ _ e; s_len_bound = c.if-s-gt-MOST_BYTES.false }

pub returns-in-None : goal.returns-in-None
returns-in-None c = sym (twice-bad _ c.if-s-gt-MOST_BYTES.false (sym c.read_header.ensures ∙ c.in-None.is))

pub returns-else-k-le1024 : goal.returns-else-k-le1024
returns-else-k-le1024 c = c.twice_large.ensures ∙ sym (twice-good _ c.if-s-gt-MOST_BYTES.false _ (sym c.read_header.ensures ∙ c.in-Some.is))
