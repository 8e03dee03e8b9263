-- `lookups::each` meets its contract: the verdict and the stored answers from the start are those from here. Assumes nothing.
use Prim.Native.Nat.{◌-◌, ◌*◌}
use mathlib.Core.Path.{◌≡◌}
use lib.ListN.{length, drop}
use lib.Seq.{sets}
use Rattle.lookups.specs.Many.{width, sought_of, one_answer, first_bad, all_kept}
use Rattle.lookups.proofs.each.Given as goal

abbrev pub invariant-loop-i : goal.invariant-loop-i
invariant-loop-i l =
    let f = one_answer l.h l.object l.records l.names in
    (length l.answers ≡ length l.initial.answers)
    × (first_bad f l.from (drop l.from (sought_of l.sought)) ≡ first_bad f l.i (drop l.i (sought_of l.sought)))
    × (sets l.initial.answers (l.from * width) (all_kept f (drop l.from (sought_of l.sought))) ≡ sets l.answers (l.i * width) (all_kept f (drop l.i (sought_of l.sought))))
