-- `mend::entry_fate` meets its contract. Assumes nothing.
use Rattle.mend_kept.proofs.Walk.{fate_is, key_is-name}
use Rattle.mend.proofs.entry_fate.Goals as goal

pub repeated-before-requires : goal.repeated-before-requires
repeated-before-requires c =
    let element = c.element-x in
    record { known = c.requires.known; x_value = key_is-name _ _ _ element.ensures c.requires.e_value }

pub returns : goal.returns
returns c =
    let element = c.element-x in
    let repeated = c.repeated-before in
    let fate-of = c.fate_of in
    fate_is _ _ _ _ _ _ element.ensures repeated.ensures fate-of.ensures
