-- `frame::read_header` meets its contract. Assumes nothing.
use mathlib.Core.Path.{sym, ◌∙◌}
use native.Mathlib.Omega.{arith}
use lib.Seq.{length-take-le}
use Rattle.frame.proofs.Laws.{head-short, head-mark, head-one, head-two, head_other}
use Rattle.frame.proofs.read_header.Goals as goal

pub returns-then-s-lt10 : goal.returns-then-s-lt10
returns-then-s-lt10 c = sym (head-short _ c.if-s-lt10.true)

pub slice_bounds-same_bytes-end : goal.slice_bounds-same_bytes-end
slice_bounds-same_bytes-end c = sym (length-take-le 3 c.args.s.now (omega arith))

pub returns-then-version-eq1 : goal.returns-then-version-eq1
returns-then-version-eq1 c =
    let same_bytes = c.same_bytes in
    let if2 = c.if-same_bytes in
    let two_at = c.two_at-version in
    let if3 = c.if-version-eq1 in
    let fields_at = c.fields_at in
    fields_at.ensures ∙ sym (head-one _ (sym same_bytes.ensures ∙ if2.true) _ two_at.ensures.made if3.true)

pub returns-then-version-eq2 : goal.returns-then-version-eq2
returns-then-version-eq2 c =
    let same_bytes = c.same_bytes in
    let if2 = c.if-same_bytes in
    let two_at = c.two_at-version in
    let if4 = c.if-version-eq2 in
    let ruled = c.ruled in
    ruled.ensures ∙ sym (head-two _ (sym same_bytes.ensures ∙ if2.true) _ two_at.ensures.made if4.true)

pub returns-else-version-eq2 : goal.returns-else-version-eq2
returns-else-version-eq2 c =
    let same_bytes = c.same_bytes in
    let if2 = c.if-same_bytes in
    let two_at = c.two_at-version in
    let if3 = c.if-version-eq1 in
    let if4 = c.if-version-eq2 in
    sym (head_other _ (sym same_bytes.ensures ∙ if2.true) _ two_at.ensures.made if3.false if4.false)

pub returns-else-same_bytes : goal.returns-else-same_bytes
returns-else-same_bytes c = sym (head-mark _ (sym c.same_bytes.ensures ∙ c.if-same_bytes.false))
