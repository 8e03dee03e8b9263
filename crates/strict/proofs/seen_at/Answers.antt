-- `strict::seen_at` meets its contract. Assumes nothing.
use native.Mathlib.Omega.{arith}
use Rattle.strict.proofs.Scanned.{scan_starts, scan-within, scan_kept}
use Rattle.strict.proofs.seen_at.Goals as goal

pub overflow_add-name_start : goal.overflow_add-name_start
overflow_add-name_start c =
    let args = c.args in
    let quick-code = c.quick_code-code in
    omega (arith, scan_starts args.h args.s.now args.at _ quick-code.ensures c.if-code-eq0.false)

pub is_kept-requires : goal.is_kept-requires
is_kept-requires c =
    let args = c.args in
    let quick-code = c.quick_code-code in
    let if1 = c.if-code-eq0 in
    scan-within args.h args.s.now args.at _ quick-code.ensures if1.false _ c.find_nul_or_slash-name_end.ensures

pub overflow_add-id_start : goal.overflow_add-id_start
overflow_add-id_start c = omega (arith, c.is_kept.ensures c.if-is_kept.true)

pub overflow_add-next : goal.overflow_add-next
overflow_add-next c = omega (arith, c.is_kept.ensures c.if-is_kept.true)

pub returns-then-is_kept : goal.returns-then-is_kept
returns-then-is_kept c =
    let args = c.args in
    let quick-code = c.quick_code-code in
    let find-nul-or-slash = c.find_nul_or_slash-name_end in
    let if1 = c.if-code-eq0 in
    let is-kept = c.is_kept in
    scan_kept args.h args.s.now args.at _ quick-code.ensures if1.false _ find-nul-or-slash.ensures args.rules
    (is-kept.ensures c.if-is_kept.true)
