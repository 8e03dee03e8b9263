-- `component::find_entry` meets its contract. Assumes nothing.
use native.Mathlib.Omega.{arith}
use Prim.Native.Nat.{◌-◌}
use mathlib.Core.Path.{refl, sym, ◌∙◌}
use lib.ListN.{length}
use Rattle.entry.proofs.Laws.{decode-inside}
use Rattle.component.proofs.Laws.{named_end, named-broken, named_here, named_on}
use Rattle.component.proofs.find_entry.Goals as goal

pub loop-c-init : goal.loop-c-init
loop-c-init c = (length c.args.tree.now, omega arith, refl)

pub returns-in-Err : goal.returns-in-Err
returns-in-Err c =
    let loop = c.loop-c in
    let if1 = c.loop-c-test in
    let decode = c.decode in
    let enum_told = c.in-Err in
    sym (loop.invariant.2 ∙ named-broken _ _ _ loop.invariant.0 _ if1.true (omega arith) (sym decode.ensures ∙ enum_told.is))

pub slice_bounds-same_bytes-count : goal.slice_bounds-same_bytes-count
slice_bounds-same_bytes-count c = omega (arith, decode-inside _ _ _ _ _ (sym c.decode.ensures ∙ c.in-Ok.is))

pub slice_bounds-same_bytes-start : goal.slice_bounds-same_bytes-start
slice_bounds-same_bytes-start c = omega (arith, decode-inside _ _ _ _ _ (sym c.decode.ensures ∙ c.in-Ok.is))

pub slice_bounds-same_bytes-end : goal.slice_bounds-same_bytes-end
slice_bounds-same_bytes-end c = omega (arith, decode-inside _ _ _ _ _ (sym c.decode.ensures ∙ c.in-Ok.is))

pub returns-then-same_bytes : goal.returns-then-same_bytes
returns-then-same_bytes c =
    let loop = c.loop-c in
    let if1 = c.loop-c-test in
    let decode = c.decode in
    let e = c.in-Ok in
    let same_bytes = c.same_bytes in
    let if2 = c.if-same_bytes in
    sym (loop.invariant.2 ∙ named_here _ _ _ loop.invariant.0 _ if1.true (omega arith) _ _ (sym decode.ensures ∙ e.is)
    (sym same_bytes.ensures ∙ if2.true))

pub loop-c-smaller : goal.loop-c-smaller
loop-c-smaller c =
    let decode = c.decode in
    let e = c.in-Ok in
    omega (arith, decode-inside _ _ _ _ _ (sym decode.ensures ∙ e.is))

pub loop-c-preserved : goal.loop-c-preserved
loop-c-preserved c =
    let loop = c.loop-c in
    let if1 = c.loop-c-test in
    let decode = c.decode in
    let e = c.in-Ok in
    let same_bytes = c.same_bytes in
    let if2 = c.if-same_bytes in (
      loop.invariant.0 - 1,
      omega (arith, decode-inside _ _ _ _ _ (sym decode.ensures ∙ e.is)),
      loop.invariant.2 ∙ named_on _ _ _ loop.invariant.0 _ if1.true
          (omega arith) _ _ (sym decode.ensures ∙ e.is) (sym same_bytes.ensures ∙ if2.false),
    )

pub returns : goal.returns
returns c = sym (c.loop-c.invariant.2 ∙ named_end _ _ _ c.loop-c.invariant.0 _ c.loop-c-test.false)
