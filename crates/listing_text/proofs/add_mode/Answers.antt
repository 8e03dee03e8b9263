-- `listing_text::add_mode` meets its contract. Assumes nothing.
use native.Mathlib.Omega.{arith}
use Rattle.listing_text.specs.Text.{mode_words}
use Rattle.listing_text.proofs.Laws.{added_then, added_is, text-most, word-most, mode-said, mode-most}
use Rattle.listing_text.proofs.add_mode.Goals as goal

pub add-p-requires : goal.add-p-requires
add-p-requires c =
    let t = text-most c.args.mode c.as_bytes-t.ensures in
    let p = c.piece.ensures.1 in
    (omega arith, omega (arith, p, t))

pub add-q-requires : goal.add-q-requires
add-q-requires c =
    let t = text-most c.args.mode c.as_bytes-t.ensures in
    let p = c.piece.ensures.1 in
    (omega (arith, c.add-p.ensures.place, p, t), omega arith)

pub add-u-requires : goal.add-u-requires
add-u-requires c =
    let t = text-most c.args.mode c.as_bytes-t.ensures in
    let p = c.piece.ensures.1 in
    let w = word-most c.args.mode c.as_str-w.ensures in
    let k = c.piece-2.ensures.1 in
    let x = c.add-p.ensures.place in
    let y = c.add-q.ensures.place in
    (omega (arith, x, y, p, t), omega (arith, k, w))

pub add-requires : goal.add-requires
add-requires c =
    let t = text-most c.args.mode c.as_bytes-t.ensures in
    let p = c.piece.ensures.1 in
    let w = word-most c.args.mode c.as_str-w.ensures in
    let k = c.piece-2.ensures.1 in
    let x = c.add-p.ensures.place in
    let y = c.add-q.ensures.place in
    (omega (arith, x, y, c.add-u.ensures.place, p, t, k, w), omega arith)

pub returns : goal.returns
returns c =
    let m = c.args.mode in
    let w = mode-said m _ _ _ _ c.as_bytes-t.ensures c.as_str-w.ensures c.piece.ensures.0 c.piece-2.ensures.0 in
    let x = added_then (added_then c.add-p.ensures c.add-q.ensures) c.add-u.ensures in
    let e = added_is (mode_words m) w (added_then x c.add.ensures) in
    (e, omega (arith, e.place, mode-most m))
