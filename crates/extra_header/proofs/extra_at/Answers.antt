-- `extra_header::extra_at` meets its contract. Assumes nothing.
use mathlib.Core.Path.{sym}
use Rattle.extra_header.proofs.Laws.{extra_blank, extra_unnamed, extra_bare, extra_open, extra_folded, extra_line}
use Rattle.extra_header.proofs.extra_at.Goals as goal
use Rattle.extra_header.proofs.extra_at.Goals.{then-space-at-via-then-space-at, then-space-at-via-else-space-at+then-lf-space, then-space-at-via-else-space-at+else-lf-space+then-s-lf}

pub returns-then-lf-at : goal.returns-then-lf-at
returns-then-lf-at c =
    let a = c.args in
    sym (extra_blank a.s.now a.at _ c.find_byte-lf.ensures c.if-lf-at.true)

pub returns-then-space-at : goal.returns-then-space-at
returns-then-space-at c =
    let space = c.find_byte-space.ensures in
    let lf = c.find_byte-lf.ensures in
    let a = c.args in
    elim c.then-space-at.branch [
      | then-space-at-via-then-space-at w ↦ sym (extra_unnamed a.s.now a.at _ _ space lf w.if-space-at.true)
      | then-space-at-via-else-space-at+then-lf-space w ↦
          sym (extra_bare a.s.now a.at _ _ space lf w.if-space-at.false w.if-lf-space.true)
      | then-space-at-via-else-space-at+else-lf-space+then-s-lf w ↦
          sym (extra_open a.s.now a.at _ _ space lf w.if-space-at.false w.if-lf-space.false w.if-s-lf.true)
    ]

pub returns-then-rest-end : goal.returns-then-rest-end
returns-then-rest-end c =
    let a = c.args in
    sym (extra_folded a.s.now a.at _ _ c.find_byte-space.ensures c.find_byte-lf.ensures c.if-space-at.false c.if-lf-space.false c.if-s-lf.false _
    c.fold_end-end.ensures c.if-rest-end.true)

pub returns : goal.returns
returns c =
    let a = c.args in
    sym (extra_line a.s.now a.at _ _ c.find_byte-space.ensures c.find_byte-lf.ensures c.if-space-at.false c.if-lf-space.false c.if-s-lf.false _
    c.fold_end-end.ensures c.if-rest-end.false)
