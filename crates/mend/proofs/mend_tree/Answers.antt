-- `mend::mend_tree` meets its contract. Assumes nothing.
use mathlib.Core.Path.{sym, ◌∙◌}
use Rattle.mend.proofs.Whole.{gate_refuses, gate_sizes, gate_answer, gate_read, shut_all, answer_all}
use lib.ListN.{length}
use Rattle.mend.proofs.mend_tree.Goals as goal

pub mend_read-requires : goal.mend_read-requires
mend_read-requires c =
    let args = c.args in
    let longer = c.longer in
    let bounds = c.bounds in
    let enum_told = c.in-Ok in
    let read_tree = c.read_tree-a in
    let g = sym bounds.ensures ∙ enum_told.is in record {
      s_len_bound = gate_sizes args.h args.bytes.now (length args.fates.now) (length args.out.now) _ longer.ensures g;
      a_value = gate_read args.h args.bytes.now
          (length args.fates.now) (length args.out.now) _ longer.ensures g _ read_tree.ensures.answer;
    }

pub returns-in-Err : goal.returns-in-Err
returns-in-Err c =
    let r = (let args = c.args in
    let longer = c.longer in
    let bounds = c.bounds in
    let v = c.in-Err in
    let no-mending = c.no_mending in
    let w = gate_refuses args.h args.bytes.now (length args.fates.now) (length args.out.now) _ longer.ensures _
    (sym bounds.ensures ∙ v.is) in
    shut_all _ _ _ _ _ _ _ no-mending.ensures w.0 w.1) in
    record { answer = r.0; fates = r.1.0; out = r.1.1 }

pub returns-in-Ok : goal.returns-in-Ok
returns-in-Ok c =
    let r = (let args = c.args in
    let longer = c.longer in
    let bounds = c.bounds in
    let enum_told = c.in-Ok in
    let g = sym bounds.ensures ∙ enum_told.is in
    answer_all _ _ _ _ _ _ _ _ _ (gate_answer args.h args.bytes.now (length args.fates.now) (length args.out.now) _ longer.ensures g)
    (c.mend_read.ensures.answer, (c.mend_read.ensures.fates, c.mend_read.ensures.out))) in
    record { answer = r.0; fates = r.1.0; out = r.1.1 }
