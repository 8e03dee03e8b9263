-- `seeking::seek_object` meets its contract. Assumes nothing.
use native.Mathlib.Omega.{arith}
use mathlib.Core.Path.{sym, ◌∙◌}
use Rattle.frame.proofs.Laws.{frame-inside}
use Rattle.seeking.proofs.Laws.{seek_out, seek_framed, seek_broken, seek_here, seek_other}
use Rattle.seeking.proofs.seek_object.Goals as goal

pub returns-then-index-i : goal.returns-then-index-i
returns-then-index-i c = c.find_object.ensures ∙ seek_out _ _ _ _ _ c.place_in-i.ensures c.if-index-i.true

pub overflow_add-end : goal.overflow_add-end
overflow_add-end c = omega (arith, frame-inside _ _ _ _ (sym c.frame_at.ensures ∙ c.in-Some.is))

pub slice_bounds-same_bytes-count : goal.slice_bounds-same_bytes-count
slice_bounds-same_bytes-count c = omega (arith, frame-inside _ _ _ _ (sym c.frame_at.ensures ∙ c.in-Some.is))

pub slice_bounds-same_bytes-start : goal.slice_bounds-same_bytes-start
slice_bounds-same_bytes-start c = omega (arith, frame-inside _ _ _ _ (sym c.frame_at.ensures ∙ c.in-Some.is))

pub slice_bounds-same_bytes-end : goal.slice_bounds-same_bytes-end
slice_bounds-same_bytes-end c = omega (arith, frame-inside _ _ _ _ (sym c.frame_at.ensures ∙ c.in-Some.is))

pub returns-then-same_bytes : goal.returns-then-same_bytes
returns-then-same_bytes c =
    let place_in = c.place_in-i in
    let if1 = c.if-index-i in
    let place_of = c.place_of-at in
    let frame_at = c.frame_at in
    let f = c.in-Some in
    let same_bytes = c.same_bytes in
    let if2 = c.if-same_bytes in
    seek_here _ _ _ _ _ place_in.ensures if1.false _ (seek_framed _ _ _ _ _ frame_at.ensures place_of.ensures) _ f.is
    (sym same_bytes.ensures ∙ if2.true)

pub returns-in-None : goal.returns-in-None
returns-in-None c =
    let place_in = c.place_in-i in
    let if1 = c.if-index-i in
    let place_of = c.place_of-at in
    let frame_at = c.frame_at in
    let enum_told = c.in-None in
    let find-object2 = c.find_object-in-None in
    find-object2.ensures ∙ seek_broken _ _ _ _ _ place_in.ensures if1.false _ (seek_framed _ _ _ _ _ frame_at.ensures place_of.ensures)
    enum_told.is

pub returns-else-same_bytes : goal.returns-else-same_bytes
returns-else-same_bytes c =
    let place_in = c.place_in-i in
    let if1 = c.if-index-i in
    let place_of = c.place_of-at in
    let frame_at = c.frame_at in
    let f = c.in-Some in
    let same_bytes = c.same_bytes in
    let if2 = c.if-same_bytes in
    let find-object3 = c.find_object-in-Some in
    find-object3.ensures ∙ seek_other _ _ _ _ _ place_in.ensures if1.false _ (seek_framed _ _ _ _ _ frame_at.ensures place_of.ensures) _
    f.is (sym same_bytes.ensures ∙ if2.false)
