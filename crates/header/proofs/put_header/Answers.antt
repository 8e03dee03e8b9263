-- `header::put_header` meets its contract. Assumes nothing.
use Rattle.std.proofs.Common.{◌≡◌, ℕ, ◌+◌, ◌-◌, ◌*◌, ◌≤◌, length, List, refl, sym, append_assoc, arith}
use Rattle.std.proofs.lemmas.List.{drop-drop}
use Rattle.std.proofs.lemmas.List.Edits.{sets, sets-eq}
use borrow.Rule.Slice.PartMut.{put_mid}
use Rattle.header.specs.Record.{flat}
use Rattle.header.proofs.Laws.{put-none, put_is}
use Rattle.header.proofs.put_header.Goals as goal

pub returns-then-headers-i : goal.returns-then-headers-i
returns-then-headers-i c = sym (put-none c.args.headers.now c.args.i c.args.x c.if-headers-i.true)

-- a part of five numbers that is overwritten
copied : (l ys : List ℕ) (a : ℕ) → length ys ≡ 5 → a + 5 ≤ length l → put_mid a (a + 5 - a) l ys ≡ sets l a ys
copied l ys a e h =
    let le : a + length ys ≤ length l = omega arith in
    let k : a + (a + 5 - a) ≡ a + length ys = omega arith in
    sym (simp (sets-eq ys l a le, drop-drop, k, append_assoc) refl)

pub returns : goal.returns
returns c =
    let a = c.args in
    let e = c.copy_from_slice.ensures.after in
    rw (put_is a.headers.now a.i a.x c.if-headers-i.false, e) (copied a.headers.now (flat a.x) (a.i * 5) refl (omega arith))
