-- `hex_of_id::hex_of_id` meets its contract. Assumes nothing.
use mathlib.Core.Path.{sym, ap, ◌∙◌}
use lib.ListN.{length}
use Rattle.ground.specs.declared.Answer.{Answer}
use Rattle.ground.proofs.Laws.{gate_open, id_small}
use Rattle.output.proofs.Laws.{fitted-done, refused-both, fitted-both, shut-refuses}
use Rattle.hex_of_id.proofs.Laws.{hex-shut, hex_open, hex-length}
use Rattle.hex_of_id.proofs.hex_of_id.Goals as goal

pub returns-in-Err : goal.returns-in-Err
returns-in-Err c =
    let r = (let bounds = c.bounds in
    let v = c.in-Err in
    let args = c.args in
    let g = sym bounds.ensures ∙ v.is in
    refused-both _ _ _ (hex-shut args.id.now (length args.out.now) _ g) (shut-refuses _ _ _ _ g)) in
    record { value = r.0; out_after = r.1 }

pub count_digits-requires : goal.count_digits-requires
count_digits-requires c = (id_small _ (gate_open _ _ _ (sym c.bounds.ensures ∙ c.in-Ok.is)).0).1

pub returns-then-number-ne-DONE : goal.returns-then-number-ne-DONE
returns-then-number-ne-DONE c =
    let r = (let count-digits = c.count_digits in
    let fit = c.fit-a in
    let args = c.args in
    let bounds = c.bounds in
    let enum_told = c.in-Ok in
    let f = rw count-digits.ensures at fit.ensures in
    let opens = hex_open args.id.now (length args.out.now) (sym bounds.ensures ∙ enum_told.is) in
    refused-both _ _ _ (opens ∙ sym f) c.if-number-ne-DONE.true) in
    record { value = r.0; out_after = r.1 }

pub put_hex-requires : goal.put_hex-requires
put_hex-requires c =
    let count-digits = c.count_digits in
    let fit = c.fit-a in
    let if1 = c.if-number-ne-DONE in
    let f = rw count-digits.ensures at fit.ensures in
    (fitted-done _ _ (sym (ap (λ (x : Answer). x.verdict.number) f) ∙ if1.false)).1

pub returns : goal.returns
returns c =
    let r = (let count-digits = c.count_digits in
    let fit = c.fit-a in
    let args = c.args in
    let bounds = c.bounds in
    let enum_told = c.in-Ok in
    let if1 = c.if-number-ne-DONE in
    let put-hex = c.put_hex in
    let f = rw count-digits.ensures at fit.ensures in
    let opens = hex_open args.id.now (length args.out.now) (sym bounds.ensures ∙ enum_told.is) in
    fitted-both _ _ _ args.out.now _ (opens ∙ sym f) f if1.false (λ z. sym (hex-length args.id.now)) put-hex.ensures) in
    record { value = r.0; out_after = r.1 }
