-- `entry_record::well_formed` meets its contract: the definition's tests in another order. Assumes nothing.
use Prim.Native.Nat.{◌+◌}
use mathlib.Core.Path.{◌≡◌, refl, ap}
use mathlib.Core.Bool.{Bool, true, false, ◌&&◌}
use lib.Dec.{leb}
use Rattle.entry.specs.Record.{well_formed}
use Rattle.entry_record.proofs.well_formed.Goals as goal

swap : (a b c : Bool) → (a && (b && c)) ≡ (b && (a && c))
swap true b c = refl
swap false true c = refl
swap false false c = refl

pub returns : goal.returns
unfolding well_formed
returns c =
    let args = c.args in
    let e = args.e in
    let ends = leb e.name_end args.len in
    let order = leb e.name_start e.name_end in
    let rest = leb (e.id_start + args.h) args.len && leb e.text_start e.name_start in
    rw c.holds_id-id.ensures (ap (λ (x : Bool). leb e.mode 65535 && x) (swap ends order rest))
