-- `merge::next_entry` meets its contract. Assumes nothing.
use mathlib.Core.Logic.{⊎_elim}
use Rattle.merge.proofs.Laws as laws
use Rattle.merge.proofs.next_entry.Goals as goal

pub returns-then-left-eq0 : goal.returns-then-left-eq0
returns-then-left-eq0 c =
    let args = c.args in
    ⊎_elim (λ w. laws.ahead_none args.h args.bundle.now args.c w)
    (λ v. ⊎_elim (λ w. laws.ahead_crossed args.h args.bundle.now args.c w.0 w.1) (λ w. laws.ahead_outside args.h args.bundle.now args.c w.0 w.1 w.2) v)
    c.then-left-eq0.either

pub slice_bounds-decode-start : goal.slice_bounds-decode-start
slice_bounds-decode-start c = c.if-end-start.false

pub slice_bounds-decode-end : goal.slice_bounds-decode-end
slice_bounds-decode-end c = c.if-bundle-end.false

pub overflow_add-name_start : goal.overflow_add-name_start
overflow_add-name_start c =
    let args = c.args in
    let good = c.well_formed in
    let if1 = c.if-left-eq0 in
    let if2 = c.if-end-start in
    let if3 = c.if-bundle-end in
    let decode = c.decode in
    let e = c.in-Ok in
    record {
      fits = (laws.ahead-fits args.h args.bundle.now args.c if1.false if2.false if3.false decode.result
          decode.ensures e.e e.next e.is good.0.0).0;
    }

pub overflow_add-name_end : goal.overflow_add-name_end
overflow_add-name_end c =
    let args = c.args in
    let good = c.well_formed in
    let if1 = c.if-left-eq0 in
    let if2 = c.if-end-start in
    let if3 = c.if-bundle-end in
    let decode = c.decode in
    let e = c.in-Ok in
    record {
      fits = (laws.ahead-fits args.h args.bundle.now args.c if1.false if2.false if3.false decode.result
          decode.ensures e.e e.next e.is good.0.0).1;
    }

pub overflow_add-id_start : goal.overflow_add-id_start
overflow_add-id_start c =
    let args = c.args in
    let good = c.well_formed in
    let if1 = c.if-left-eq0 in
    let if2 = c.if-end-start in
    let if3 = c.if-bundle-end in
    let decode = c.decode in
    let e = c.in-Ok in
    record {
      fits = (laws.ahead-fits args.h args.bundle.now args.c if1.false if2.false if3.false decode.result
          decode.ensures e.e e.next e.is good.0.0).2;
    }

pub overflow_add-text_start : goal.overflow_add-text_start
overflow_add-text_start c =
    let args = c.args in
    let good = c.well_formed in
    let if1 = c.if-left-eq0 in
    let if2 = c.if-end-start in
    let if3 = c.if-bundle-end in
    let decode = c.decode in
    let e = c.in-Ok in
    record {
      fits = (laws.ahead-fits args.h args.bundle.now args.c if1.false if2.false if3.false decode.result
          decode.ensures e.e e.next e.is good.0.0).3;
    }

pub returns-in-Err : goal.returns-in-Err
returns-in-Err c =
    let args = c.args in
    let if1 = c.if-left-eq0 in
    let if2 = c.if-end-start in
    let if3 = c.if-bundle-end in
    let decode = c.decode in
    let enum_told = c.in-Err in
    laws.ahead-broken args.h args.bundle.now args.c if1.false if2.false if3.false decode.result decode.ensures enum_told.field-0
    enum_told.is

pub returns-in-Ok : goal.returns-in-Ok
returns-in-Ok c =
    let args = c.args in
    let if1 = c.if-left-eq0 in
    let if2 = c.if-end-start in
    let if3 = c.if-bundle-end in
    let decode = c.decode in
    let e = c.in-Ok in
    laws.ahead-whole args.h args.bundle.now args.c if1.false if2.false if3.false decode.result decode.ensures e.e
    e.next e.is
