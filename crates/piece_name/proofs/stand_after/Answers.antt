-- `piece_name::stand_after` meets its contract. Assumes nothing.
use Rattle.piece_name.proofs.Names.{after_level, after-decided}
use Rattle.piece_name.proofs.stand_after.Goals as goal

pub returns-in-Level : goal.returns-in-Level
returns-in-Level c =
    let x = c.args in
    after_level x.held.now x.last x.l.stand x.l.size x.l.shared x.some.now _ c.in-Level.is c.stand_level.ensures

pub returns-in-Over : goal.returns-in-Over
returns-in-Over c = let x = c.args in after-decided x.held.now x.last x.l.stand x.l.size x.l.shared x.some.now c.in-Over.is
