-- `item::put_path` meets its contract. Assumes nothing.
use Prim.Native.Nat.{ℕ, ◌+◌, ◌-◌}
use native.Mathlib.Omega.{arith}
use mathlib.Core.Path.{◌≡◌, ap, ◌∙◌}
use lib.ListN.{drop}
use lib.Seq.{paste}
use Rattle.item.proofs.Laws.{path_bare, path-shut, path_full}
use Rattle.item.proofs.put_path.Goals as goal

pub returns-then-pl-eq0 : goal.returns-then-pl-eq0
returns-then-pl-eq0 c =
    let a = c.args in
    c.put.ensures ∙ path_bare a.paths.now a.m a.ps a.pl a.name.now c.if-pl-eq0.true

pub returns-then-has_room : goal.returns-then-has_room
returns-then-has_room c =
    let a = c.args in
    let all : a.ps + a.pl - a.ps ≡ a.pl = omega arith in
    c.put-then-has_room.ensures
    ∙ path_full a.paths.now a.m a.ps a.pl a.name.now c.if-pl-eq0.false c.has_room.result c.has_room.ensures c.if-has_room.true _
    (c.copy_within.ensures.after ∙ ap (λ (k : ℕ). paste a.paths.now a.m (drop a.ps a.paths.now) k) all)

pub returns-else-has_room : goal.returns-else-has_room
returns-else-has_room c =
    let a = c.args in
    path-shut a.paths.now a.m a.ps a.pl a.name.now c.if-pl-eq0.false c.has_room.result c.has_room.ensures c.if-has_room.false
