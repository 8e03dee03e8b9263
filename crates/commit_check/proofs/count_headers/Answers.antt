-- `commit_check::count_headers` meets its contract. Assumes nothing.
use mathlib.Core.Path.{sym, ◌∙◌}
use native.Mathlib.Omega.{arith}
use Rattle.commit_check.specs.Check.{header_fits}
use Rattle.commit_check.proofs.Laws.{heads_end, heads-bad, heads-more}
use Rattle.commit_check.proofs.count_headers.Goals as goal

pub loop-i-preserved : goal.loop-i-preserved
loop-i-preserved c =
    let h = heads-more (header_fits c.args.bytes.now) c.args.headers.now _ c.loop-i.i c.loop-i-test.true _ c.header_at.ensures (sym c.is_header.ensures ∙ c.if-not-is_header.false) in
    omega (arith, c.loop-i.invariant, h)

pub returns-then-not-is_header : goal.returns-then-not-is_header
returns-then-not-is_header c =
    let h = heads-bad (header_fits c.args.bytes.now) c.args.headers.now _ c.loop-i.i c.loop-i-test.true _ c.header_at.ensures (sym c.is_header.ensures ∙ c.if-not-is_header.true) in
    omega (arith, c.loop-i.invariant, h)

pub returns : goal.returns
returns c = omega (arith, c.loop-i.invariant, c.loop-i.auto, heads_end (header_fits c.args.bytes.now) c.args.headers.now _ c.loop-i.i c.loop-i-test.false)
