-- `header::header_at` meets its contract. Assumes nothing.
use mathlib.Core.Path.{sym}
use Rattle.header.proofs.Laws.{header-none, header_is}
use Rattle.header.proofs.header_at.Goals as goal

pub returns-then-headers-i : goal.returns-then-headers-i
returns-then-headers-i c = sym (header-none c.args.headers.now c.args.i c.if-headers-i.true)

pub returns : goal.returns
returns c =
    let if1 = c.if-headers-i in
    let args = c.args in
    sym (header_is args.headers.now args.i if1.false)
