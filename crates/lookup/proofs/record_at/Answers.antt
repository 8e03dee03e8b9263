-- `lookup::record_at` meets its contract. Assumes nothing.
use Prim.Native.Nat.{◌+◌, ◌-◌, ◌*◌}
use mathlib.Core.Path.{◌≡◌, ◌∙◌}
use native.Mathlib.Omega.{arith}
use Rattle.entry.specs.Record.{width}
use Rattle.entry.proofs.Laws.{records-part}
use Rattle.lookup.proofs.record_at.Goals as goal

pub returns : goal.returns
returns c =
    let five : c.args.i * width + width - c.args.i * width ≡ width = omega arith in
    c.entry_at.ensures ∙ rw five (records-part c.args.records.now c.args.i c.requires)
