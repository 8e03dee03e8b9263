-- `strict::judged_at` meets its contract. Assumes nothing.
use mathlib.Core.Path.{sym, ◌∙◌}
use Rattle.strict.proofs.Judging.{seen-broken, seen-bad, seen-good}
use Rattle.strict.proofs.Strictly.{decoded_within, decoded_free}
use Rattle.strict.proofs.judged_at.Goals as goal

pub entry_number-number-requires : goal.entry_number-number-requires
entry_number-number-requires c =
    let d = sym c.decode.ensures ∙ c.in-Ok.is in
    record { within = decoded_within _ _ _ _ _ d; e_value = decoded_free _ _ _ _ _ d }

pub returns-then-number-ne-DONE : goal.returns-then-number-ne-DONE
returns-then-number-ne-DONE c =
    let args = c.args in
    let d = sym c.decode.ensures ∙ c.in-Ok.is in
    seen-bad args.rules args.s.now args.at _ _ _ d _ c.entry_number-number.ensures c.if-number-ne-DONE.true

pub returns-else-number-ne-DONE : goal.returns-else-number-ne-DONE
returns-else-number-ne-DONE c =
    let args = c.args in
    let d = sym c.decode.ensures ∙ c.in-Ok.is in
    seen-good args.rules args.s.now args.at _ _ _ d _ c.entry_number-number.ensures c.if-number-ne-DONE.false

pub returns-in-Err : goal.returns-in-Err
returns-in-Err c =
    let args = c.args in
    let decode = c.decode in
    let v = c.in-Err in
    seen-broken args.rules args.s.now args.at _ (sym decode.ensures ∙ v.is)
