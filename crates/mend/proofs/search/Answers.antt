-- `mend::search` meets its contract. Assumes nothing.
use Prim.Native.Nat.{ℕ}
use mathlib.Core.Bool.{Bool, ◌&&◌, not}
use mathlib.Core.Path.{◌≡◌, refl, sym, ◌∙◌}
use mathlib.Core.Logic.{⊎_elim}
use lib.Dec.{eqb}
use borrow.Author.Tests.{eq-eqb, ne_eqb}
use Rattle.ground.proofs.Laws.{equal}
use Rattle.std.proofs.Common.{rules}
use Rattle.std.proofs.lemmas.List.Sorted.{IsPartitionPoint-from_clause}
use Rattle.keys.specs.Key.{key_at, below_by}
use Rattle.keys.specs.Strict.{Strict}
use Rattle.keys.proofs.Keys.{key_strict}
use Rattle.mend_kept.proofs.Bisect.{parted, lowest}
use Rattle.mend.proofs.search.Goals as goal

-- an element is below one where it is another and below it: nothing is below itself
other_below : (below : ℕ → ℕ → Bool) → Strict below → (y x : ℕ) → (not (eqb y x) && below y x) ≡ below y x
other_below below strict y x = ⊎_elim (λ e. rw (eq-eqb y x e, e) (sym (strict.self x))) (λ n. rw (ne_eqb y x n) refl) (equal y x)

-- so a call's answer is told, beside what else is known of the call
told : {P : Type 0} (below : ℕ → ℕ → Bool) → Strict below → (y x : ℕ) (r : Bool) → (r ≡ (not (eqb y x) && below y x)) × P → (r ≡ below y x) × P
told below strict y x r m = (m.0 ∙ other_below below strict y x, m.1)

pub returns : goal.returns
returns c =
    let a = c.args in
    let strict = key_strict (key_at a.s.now 32 0) in
    let in_order = parted _ a.list.now a.x strict c.requires in
    let point = IsPartitionPoint-from_clause (λ y. below_by (key_at a.s.now 32 0) y a.x) _ _ c.partition_point.ensures.partitioned in_order
    (λ b r f k. told (below_by (key_at a.s.now 32 0)) strict b.0.now a.x r (search rules)) in
    lowest _ _ _ _ c.partition_point.ensures.bound point
