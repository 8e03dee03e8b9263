-- `id_of_hex::id_of_hex` meets its contract. Assumes nothing.
use mathlib.Core.Path.{sym, ap, ◌∙◌}
use native.Mathlib.Omega.{arith}
use lib.ListN.{length}
use Rattle.ground.specs.declared.Answer.{Answer}
use Rattle.output.proofs.Laws.{fitted-done, refused-both, fitted-both, shut-refuses}
use Rattle.id_of_hex.proofs.Laws.{id-shut, id_open, read_done, bytes-length}
use Rattle.id_of_hex.proofs.id_of_hex.Goals as goal

pub returns-in-Err : goal.returns-in-Err
returns-in-Err c =
    let r = (let bounds = c.bounds in
    let v = c.in-Err in
    let args = c.args in
    let half = c.half in
    let g = sym bounds.ensures ∙ v.is in
    refused-both _ _ _ (id-shut args.digits.now (length args.out.now) _ half.ensures _ g) (shut-refuses _ _ _ _ g)) in
    record { value = r.0; out_after = r.1 }

pub returns-then-number-ne-DONE : goal.returns-then-number-ne-DONE
returns-then-number-ne-DONE c =
    let r = (let read-digits = c.read_digits in
    let fit = c.fit-a in
    let args = c.args in
    let half = c.half in
    let bounds = c.bounds in
    let enum_told = c.in-Ok in
    let f = rw read-digits.ensures at fit.ensures in
    let opens = id_open args.digits.now (length args.out.now) _ half.ensures (sym bounds.ensures ∙ enum_told.is) in
    refused-both _ _ _ (opens ∙ sym f) c.if-number-ne-DONE.true) in
    record { value = r.0; out_after = r.1 }

pub put_bytes-requires : goal.put_bytes-requires
put_bytes-requires c =
    let read-digits = c.read_digits in
    let fit = c.fit-a in
    let if1 = c.if-number-ne-DONE in
    let args = c.args in
    let f = rw read-digits.ensures at fit.ensures in
    let d = fitted-done _ _ (sym (ap (λ (x : Answer). x.verdict.number) f) ∙ if1.false) in
    let r = read_done args.digits.now d.0 in
    (r.0, omega (arith, d.1, r.1))

pub returns : goal.returns
returns c =
    let r = (let read-digits = c.read_digits in
    let fit = c.fit-a in
    let args = c.args in
    let half = c.half in
    let bounds = c.bounds in
    let enum_told = c.in-Ok in
    let if1 = c.if-number-ne-DONE in
    let put-bytes = c.put_bytes in
    let f = rw read-digits.ensures at fit.ensures in
    let d = args.digits.now in
    let opens = id_open d (length args.out.now) _ half.ensures (sym bounds.ensures ∙ enum_told.is) in
    fitted-both _ _ _ args.out.now _ (opens ∙ sym f) f if1.false (λ z. (read_done d z).1 ∙ sym (bytes-length d)) put-bytes.ensures) in
    record { value = r.0; out_after = r.1 }
