-- `mend::mend_large` meets its contract: it calls itself only on a way that its `requires` shuts. Assumes nothing.
use Rattle.mend.proofs.Whole.{over, most_le}
use Rattle.mend.proofs.+mend_large.Goals as goal

pub mend_large-requires : goal.mend_large-requires
mend_large-requires t c =
    absurd (over c.args.count c.requires.count_in_bounds.1 c.if-count-gt-MOST_RECORDS.true)

pub shape_of-fates-then-count-gt-MOST_RECORDS : goal.shape_of-fates-then-count-gt-MOST_RECORDS
shape_of-fates-then-count-gt-MOST_RECORDS t c =
    absurd (over c.args.count c.requires.count_in_bounds.1 c.if-count-gt-MOST_RECORDS.true)

pub shape_of-out-then-count-gt-MOST_RECORDS : goal.shape_of-out-then-count-gt-MOST_RECORDS
shape_of-out-then-count-gt-MOST_RECORDS t c =
    absurd (over c.args.count c.requires.count_in_bounds.1 c.if-count-gt-MOST_RECORDS.true)

pub returns-then-count-gt-MOST_RECORDS : goal.returns-then-count-gt-MOST_RECORDS
returns-then-count-gt-MOST_RECORDS t c =
    absurd (over c.args.count c.requires.count_in_bounds.1 c.if-count-gt-MOST_RECORDS.true)

pub mend_own-requires : goal.mend_own-requires
mend_own-requires t c =
    let r = c.requires in
    record {
      s_len_bound = r.s_len_bound;
      s_value = r.s_value;
      count_in_bounds = (r.count_in_bounds.0, r.count_in_bounds.1, most_le);
    }

pub shape_of-fates : goal.shape_of-fates
shape_of-fates t c = c.mend_own.auto.fates

pub shape_of-out : goal.shape_of-out
shape_of-out t c = c.mend_own.auto.out

pub returns : goal.returns
returns t c =
    let e = c.mend_own.ensures in
    record { answer = e.answer; fates = e.fates; out = e.out }
