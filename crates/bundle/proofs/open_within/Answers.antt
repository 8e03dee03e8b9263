-- `bundle::open_within` meets its contract. Assumes nothing.
use mathlib.Core.Path.{sym, ◌∙◌}
use Rattle.bundle.proofs.Laws.{open_other, open_fault, open_twice, open_fine, open_bad}
use Rattle.bundle.proofs.open_within.Goals as goal

pub returns-then-n-k : goal.returns-then-n-k
returns-then-n-k c =
    let read-header = c.read_header in
    let k = c.in-Some in
    let if1 = c.if-n-k in
    sym (open_other _ _ _ _ (sym read-header.ensures ∙ k.is) if1.true)

pub repeated-requires : goal.repeated-requires
repeated-requires c =
    let pre = c.requires in
    let read-header = c.read_header in
    let k = c.in-Some in
    record { s_value = sym read-header.ensures ∙ k.is; s_len_bound = pre }

pub returns-then-repeated : goal.returns-then-repeated
returns-then-repeated c =
    let read-header = c.read_header in
    let k = c.in-Some in
    let if1 = c.if-n-k in
    let well-framed = c.well_framed in
    let if2 = c.if-well_framed in
    let repeated = c.repeated in
    let if3 = c.if-repeated in
    sym (open_twice _ _ _ _ (sym read-header.ensures ∙ k.is) if1.false (sym well-framed.ensures ∙ if2.true)
    (sym repeated.ensures ∙ if3.true))

pub returns-then-well_framed : goal.returns-then-well_framed
returns-then-well_framed c =
    let read-header = c.read_header in
    let k = c.in-Some in
    let if1 = c.if-n-k in
    let well-framed = c.well_framed in
    let if2 = c.if-well_framed in
    let repeated = c.repeated in
    let if3 = c.if-repeated in
    sym (open_fine _ _ _ _ (sym read-header.ensures ∙ k.is) if1.false (sym well-framed.ensures ∙ if2.true)
    (sym repeated.ensures ∙ if3.false))

pub returns-in-None : goal.returns-in-None
returns-in-None c = sym (open_bad _ _ _ (sym c.read_header.ensures ∙ c.in-None.is))

pub returns-else-well_framed : goal.returns-else-well_framed
returns-else-well_framed c =
    let read-header = c.read_header in
    let k = c.in-Some in
    let if1 = c.if-n-k in
    let well-framed = c.well_framed in
    let if2 = c.if-well_framed in
    sym (open_fault _ _ _ _ (sym read-header.ensures ∙ k.is) if1.false (sym well-framed.ensures ∙ if2.false))
