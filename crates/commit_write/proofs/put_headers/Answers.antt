-- `commit_write::put_headers` meets its contract. Assumes nothing.
use Rattle.std.proofs.Common.{◌≡◌, ◌/◌, true, length, arith}
use native.Mathlib.Nat.{sub-zero}
use Rattle.header.specs.Record.{width}
use Rattle.grammar.specs.Named.{header_named}
use Rattle.commit_check.specs.Check.{header_fits}
use Rattle.commit_check.proofs.Laws.{headers-step}
use Rattle.commit_write.specs.Written.{header_written}
use Rattle.commit_write.proofs.Laws.{left_all, left-next, left-none, headers-none, headers-next, header_le}
use Rattle.commit_write.proofs.put_headers.Goals as goal

pub loop-i-init : goal.loop-i-init
loop-i-init c = record { passes = rw sub-zero c.requires.headers_value; room = omega arith; left = rw sub-zero (left_all _ _ _) }

pub put_header-to-requires : goal.put_header-to-requires
put_header-to-requires c =
    let a = c.args in
    let l = c.loop-i in
    let s = headers-step (header_fits a.bytes.now) a.headers.now (length a.headers.now / width) l.i c.loop-i-test.true l.invariant.passes in
    record {
      x_value = rw c.header_at.ensures s.0;
      bytes_len_bound = (c.requires.bytes_len_bound.0, omega (arith, c.requires.bytes_len_bound.1, l.invariant.room));
    }

pub loop-i-preserved : goal.loop-i-preserved
loop-i-preserved c =
    let a = c.args in
    let l = c.loop-i in
    let n = length a.headers.now / width in
    let x = c.header_at.result in
    let s = headers-step (header_fits a.bytes.now) a.headers.now n l.i c.loop-i-test.true l.invariant.passes in
    let f : header_fits a.bytes.now x ≡ true = rw c.header_at.ensures s.0 in
    let next = headers-next a.bytes.now a.headers.now n l.i c.loop-i-test.true x c.header_at.ensures in
    let put = c.put_header-to.ensures in
    record {
      passes = s.1;
      room = omega (arith, l.invariant.room, header_le a.bytes.now x f c.requires.bytes_len_bound.0, put.value);
      left = left-next (header_written (header_named a.bytes.now x)) _ _ _ l.invariant.left next put.out_after put.value;
    }

pub returns : goal.returns
returns c =
    let a = c.args in
    let r = left-none c.loop-i.invariant.left (headers-none a.bytes.now a.headers.now (length a.headers.now / width) c.loop-i.i c.loop-i-test.false) in
    record { value = r.0; out_after = r.1 }
