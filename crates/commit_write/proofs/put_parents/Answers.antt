-- `commit_write::put_parents` meets its contract. Assumes nothing.
use Rattle.std.proofs.Common.{get_or, arith}
use Rattle.header.specs.Words.{parent_word}
use Rattle.grammar.specs.Grammar.{line}
use Rattle.grammar.specs.Named.{id_named}
use Rattle.commit_check.specs.Check.{id_fits}
use Rattle.commit_check.proofs.Laws.{id-inside, parents-step}
use Rattle.commit_write.specs.Written.{lower_hex}
use Rattle.commit_write.proofs.Laws.{left_all, left-next, left-none, parents-none, parents-next, id-line_le}
use Rattle.commit_write.proofs.put_parents.Goals as goal

pub loop-from-init : goal.loop-from-init
loop-from-init c = record { passes = omega (arith, c.requires.parents_value); room = omega arith; left = left_all _ _ _ }

pub put_id_line-to-requires : goal.put_id_line-to-requires
put_id_line-to-requires c =
    let a = c.args in
    let l = c.loop-from in
    let s = parents-step (id_fits a.h a.bytes.now) a.parents.now l.from-index c.loop-from-test.true l.invariant.passes in
    record {
      h_in_bounds = id-inside a.h a.bytes.now (get_or a.parents.now l.from-index 0) s.0;
      h_bound = (c.requires.h_bound.0, omega (arith, c.requires.h_bound, l.invariant.room));
    }

pub loop-from-preserved : goal.loop-from-preserved
loop-from-preserved c =
    let a = c.args in
    let l = c.loop-from in
    let from = get_or a.parents.now l.from-index 0 in
    let s = parents-step (id_fits a.h a.bytes.now) a.parents.now l.from-index c.loop-from-test.true l.invariant.passes in
    let most = id-line_le a.h a.bytes.now from c.requires.h_bound.0 s.0 in
    let next = parents-next a.h a.bytes.now a.parents.now l.from-index c.loop-from-test.true in
    let put = c.put_id_line-to.ensures in
    record {
      passes = s.1;
      room = omega (arith, l.invariant.room, most, put.value);
      left = left-next (line parent_word (lower_hex (id_named a.h a.bytes.now from))) _ _ _ l.invariant.left next put.out_after put.value;
    }

pub returns : goal.returns
returns c =
    let a = c.args in
    let r = left-none c.loop-from.invariant.left (parents-none a.h a.bytes.now a.parents.now c.loop-from.from-index c.loop-from-test.false) in
    record { value = r.0; out_after = r.1 }
