-- `commit_write::put_encoding` meets its contract. Assumes nothing.
use Rattle.commit_write.proofs.Laws.{encoding_range, encoding-given, encoding-absent}
use Rattle.grammar.specs.Grammar.{encoding_bytes}
use mathlib.Core.Path.{refl, sym}
use native.Mathlib.Nat.{add-zero}
use native.Mathlib.Omega.{arith}
use Rattle.commit_write.proofs.put_encoding.Goals as goal

pub put_line-requires : goal.put_line-requires
put_line-requires c =
    let args = c.args in
    let r = encoding_range args.bytes.now args.p c.requires.p_value c.if-p-eq1.true in
    record { from_le_to = r; from_bound = omega (arith, r, c.requires.bytes_len_bound) }

pub returns-then-p-eq1 : goal.returns-then-p-eq1
unfolding encoding_bytes
returns-then-p-eq1 c =
    let given = encoding-given c.args.bytes.now c.args.p c.if-p-eq1.true in
    record { value = rw given c.put_line.ensures.value; out_after = rw given c.put_line.ensures.out_after }

pub returns : goal.returns
unfolding encoding_bytes
returns c =
    let absent = encoding-absent c.args.bytes.now c.args.p c.if-p-eq1.false in
    record { value = rw absent (sym (add-zero c.args.at)); out_after = rw absent refl }
