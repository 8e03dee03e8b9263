-- `mend::mend_read` meets its contract. Assumes nothing.
use native.Mathlib.Omega.{arith}
use mathlib.Core.Path.{sym, ap, ◌∙◌}
use Rattle.mend.specs.Mend.{not_mended}
use Rattle.mend.proofs.Whole.{read_none, read-many, read_stopped, counted_stopped, counted-short, counted-fine, refused_all}
use Rattle.mend.proofs.mend_read.Goals as goal

pub mend_own-requires : goal.mend_own-requires
mend_own-requires c =
    let if1 = c.if-number-eq-DONE in
    let p = c.requires.s_len_bound in
    record { s_len_bound = (p.0, p.1, p.2); s_value = read_none _ _ _ c.requires.a_value if1.true; count_in_bounds = (omega arith, omega arith, omega arith) }

pub returns-then-number-eq-DONE : goal.returns-then-number-eq-DONE
returns-then-number-eq-DONE c =
    let if1 = c.if-number-eq-DONE in
    let own = c.mend_own in record { answer = own.ensures.answer ∙ sym (counted-fine _ _ _ _ 0 (read_none _ _ _ c.requires.a_value if1.true) (omega arith)); fates = own.ensures.fates; out = own.ensures.out }

pub returns-then-number-ne-FEW_RECORDS : goal.returns-then-number-ne-FEW_RECORDS
returns-then-number-ne-FEW_RECORDS c =
    let r = (let if1 = c.if-number-eq-DONE in
    let if2 = c.if-number-ne-FEW_RECORDS in
    let no-mending = c.no_mending in
    refused_all _ _ _ _ _ _ _ no-mending.ensures (counted_stopped _ _ _ _ _ (read_stopped _ _ _ c.requires.a_value if1.false if2.true)) if1.false) in
    record { answer = r.0; fates = r.1.0; out = r.1.1 }

pub returns-then-fates-n : goal.returns-then-fates-n
returns-then-fates-n c =
    let r = (let if1 = c.if-number-eq-DONE in
    let if2 = c.if-number-ne-FEW_RECORDS in
    let if3 = c.if-fates-n in
    let no-mending2 = c.no_mending-then-fates-n in
    let w = read-many _ _ _ c.requires.a_value if2.false in
    refused_all _ _ _ _ _ _ _ no-mending2.ensures (counted-short _ _ _ _ _ w.1 if3.true ∙ ap not_mended (sym w.0)) if1.false) in
    record { answer = r.0; fates = r.1.0; out = r.1.1 }

pub mend_own-requires-then-n-le1024 : goal.mend_own-requires-then-n-le1024
mend_own-requires-then-n-le1024 c =
    let if2 = c.if-number-ne-FEW_RECORDS in
    let if3 = c.if-fates-n in
    let if4 = c.if-n-le1024 in
    let p = c.requires.s_len_bound in
    record { s_len_bound = (p.0, p.1, p.2); s_value = (read-many _ _ _ c.requires.a_value if2.false).1; count_in_bounds = (if3.false, if4.true, omega arith) }

pub returns-then-n-le1024 : goal.returns-then-n-le1024
returns-then-n-le1024 c =
    let if2 = c.if-number-ne-FEW_RECORDS in
    let if3 = c.if-fates-n in
    let own = c.mend_own-then-n-le1024 in record { answer = own.ensures.answer ∙ sym (counted-fine _ _ _ _ _ (read-many _ _ _ c.requires.a_value if2.false).1 if3.false); fates = own.ensures.fates; out = own.ensures.out }

pub mend_large-requires : goal.mend_large-requires
mend_large-requires c =
    let if2 = c.if-number-ne-FEW_RECORDS in
    let if3 = c.if-fates-n in
    let p = c.requires.s_len_bound in
    record { s_len_bound = (p.0, p.1, p.2); s_value = (read-many _ _ _ c.requires.a_value if2.false).1; count_in_bounds = (if3.false, omega (arith, p.3, if3.false)) }

pub returns : goal.returns
returns c =
    let if2 = c.if-number-ne-FEW_RECORDS in
    let if3 = c.if-fates-n in
    let mend-large = c.mend_large in record { answer = mend-large.ensures.answer ∙ sym (counted-fine _ _ _ _ _ (read-many _ _ _ c.requires.a_value if2.false).1 if3.false); fates = mend-large.ensures.fates; out = mend-large.ensures.out }
