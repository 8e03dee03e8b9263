-- `commit_read::read_commit` meets its contract. Assumes nothing.
use mathlib.Core.Path.{sym, ◌∙◌}
use native.Mathlib.Omega.{arith}
use Rattle.commit_fields.proofs.Laws.{outcome_fits}
use Rattle.commit_read.proofs.Laws.{answer_fails, answer-whole, parents-kept, headers-kept, parents-done, headers-done}
use Rattle.commit_read.proofs.read_commit.Goals as goal

pub overflow_mul-h : goal.overflow_mul-h
overflow_mul-h c = omega (arith, (outcome_fits _ _ _ _ _ (sym c.decide.ensures ∙ c.in-Ok.is)).small)

pub overflow_add-h : goal.overflow_add-h
overflow_add-h c = omega (arith, (outcome_fits _ _ _ _ _ (sym c.decide.ensures ∙ c.in-Ok.is)).small)

pub fill_parents-requires : goal.fill_parents-requires
fill_parents-requires c =
    let decide = c.decide in
    let k = outcome_fits _ _ _ _ _ (sym decide.ensures ∙ c.in-Ok.is) in
    record { n_in_bounds = k.parents_room; h_bound = omega (arith, k.parents_inside) }

pub returns-in-Err : goal.returns-in-Err
returns-in-Err c =
    let decide = c.decide in
    let args = c.args in
    let q = sym decide.ensures ∙ c.in-Err.is in record {
      answer = c.refused.ensures ∙ sym (answer_fails _ _ q);
      parents = sym (parents-kept _ args.h args.parents.now _ q);
      headers = sym
          (headers-kept _ args.bytes.now args.headers.now _ q);
    }

pub returns-in-Ok : goal.returns-in-Ok
returns-in-Ok c =
    let fill-headers = c.fill_headers in
    let fill-parents = c.fill_parents in
    let f = c.in-Ok in
    let decide = c.decide in
    let args = c.args in
    let q = sym decide.ensures ∙ f.is in
    let k = outcome_fits _ _ _ _ _ q in record {
      answer = c.done.ensures ∙ sym (answer-whole _ _ q);
      parents = fill-parents.ensures ∙ sym
          (parents-done _ args.h args.parents.now _ q k.parents_room);
      headers = fill-headers.ensures ∙ sym
          (headers-done _ args.bytes.now args.headers.now _ q k.headers_are k.headers_room);
    }
