-- `walk::joined` meets its contract. Assumes nothing.
use Rattle.walk.proofs.Doing as doing
use Rattle.walk.proofs.joined.Goals as goal

pub returns-then-pl-eq0 : goal.returns-then-pl-eq0
returns-then-pl-eq0 c = doing.joined-none c.args.pl c.args.name c.if-pl-eq0.true

pub returns : goal.returns
returns c = doing.joined-some c.args.pl c.args.name c.if-pl-eq0.false
