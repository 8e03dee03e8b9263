-- `piece_name::differs` meets its contract. Assumes nothing.
use native.Mathlib.Omega.{arith}
use mathlib.Core.Path.{sym}
use borrow.Author.Tests.{ltb-true, ltb-false}
use Rattle.std.proofs.lemmas.List.{get_or_read}
use Rattle.piece_name.proofs.Names.{decides, stays_level}
use Rattle.piece_name.proofs.differs.Goals as goal

pub returns-in-Some : goal.returns-in-Some
returns-in-Some c =
    let x = c.args in
    decides x.held.now x.last x.at x.shared x.some.now x.n _ _ (ltb-true _ _ (sym c.in-Some.ensures.lookup.0)) c.byte_at.ensures
    (rw (← get_or_read _ _ _ (ltb-true _ _ (sym c.in-Some.ensures.lookup.0)) c.in-Some.ensures.lookup.1 0) c.meet-stand.ensures)

pub returns-in-None : goal.returns-in-None
returns-in-None c =
    let x = c.args in
    stays_level x.held.now x.last x.at x.shared x.some.now x.n (ltb-false _ _ (sym c.in-None.ensures.lookup.0))
