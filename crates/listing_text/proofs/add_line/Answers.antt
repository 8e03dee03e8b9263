-- `listing_text::add_line` meets its contract. Assumes nothing.
use native.Mathlib.Omega.{arith}
use Rattle.listing_text.specs.Text.{line}
use Rattle.listing_text.proofs.Laws.{added_then, added_is, line-said, line-most}
use Rattle.listing_text.proofs.add_line.Goals as goal

pub returns : goal.returns
returns c =
    let a = c.args in
    let s = a.s.now in
    let w = line-said a.h s a.e _ _ _ c.saturating_sub-n.ensures c.piece.ensures.0 c.piece-2.ensures.0 in
    let x = added_then (added_then c.add_mode-p.ensures.0 c.add_hex-q.ensures.0) c.add-u.ensures in
    let e = added_is (line a.h s a.e) w (added_then (added_then x c.add-w.ensures) c.add.ensures) in
    (e, omega (arith, e.place, line-most a.h s a.e, c.requires.1, c.requires.2))
