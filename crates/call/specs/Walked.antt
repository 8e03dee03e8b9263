-- The first demand of a call, said of its contract as an assertion of the logic, in any world that the code may run in: no plain claim is read off it, so
-- what follows from it is said in the logic. Assumes nothing.
use Rattle.std.specs.Prelude.{ℕ, ◌≡◌, List}
use seplogic.Ra.Ura.{Ura}
use base.Logic.{SProp, ent, sep, emp}
use prog.Memory.{Memory}
use prog.Routine.{Routine}
use types.Logic.{Logic}
use contract.Lifetimes.{Lfts}
use contract.Monad.{Fun, fact}
use denote.Triple.Entry.{Args, Res}
use denote.Triple.Clauses.{Ended, AtExit, Clauses}
use Rattle.call.specs.Call.{Said, Fits}

-- a call that is lent nothing to write: its contract in each world, and what its answer says
pub record Walked : Type 3 where
  pub ended : Ended
  pub contract : (M : Type 1) (𝓤 : Ura M) (𝓛 : Logic 𝓤) → (Memory → SProp 𝓤) → (Routine → Fun 𝓤) → Clauses 𝓤 ended
  pub said : (κs : Lfts ended.signature.lifetimes) → Res ended.signature κs → Said

-- every outcome has a property: in each world the contract's promise entails it
abbrev pub EachOutcome : (d : Walked) → ((κs : Lfts d.ended.signature.lifetimes) → Args d.ended.signature κs → Res d.ended.signature κs → Type 0) → Type 2
EachOutcome d P =
    (M : Type 1) (𝓤 : Ura M) (𝓛 : Logic 𝓤) (mem : Memory → SProp 𝓤) (run : Routine → Fun 𝓤) (κs : Lfts d.ended.signature.lifetimes)
    (a : Args d.ended.signature κs) (g : (d.contract M 𝓤 𝓛 mem run κs a).ghost) (x : Res d.ended.signature κs) (w : AtExit d.ended κs)
    → ent 𝓤 ((d.contract M 𝓤 𝓛 mem run κs a).ensures g x w) (fact 𝓤 (P κs a x))

-- It takes every input: in each world what its contract asks follows from nothing. No second answer meets the contract, and it gives these numbers and no
-- other.
pub record KeepsWalked (d : Walked) (numbers : List ℕ) : Type 2 where
  pub takes : (M : Type 1) (𝓤 : Ura M) (𝓛 : Logic 𝓤) (mem : Memory → SProp 𝓤) (run : Routine → Fun 𝓤) (κs : Lfts d.ended.signature.lifetimes)
      (a : Args d.ended.signature κs) → (g : (d.contract M 𝓤 𝓛 mem run κs a).ghost) × ent 𝓤 (emp 𝓤) ((d.contract M 𝓤 𝓛 mem run κs a).requires g)
  pub once : (M : Type 1) (𝓤 : Ura M) (𝓛 : Logic 𝓤) (mem : Memory → SProp 𝓤) (run : Routine → Fun 𝓤) (κs : Lfts d.ended.signature.lifetimes)
      (a : Args d.ended.signature κs) (g : (d.contract M 𝓤 𝓛 mem run κs a).ghost) (x y : Res d.ended.signature κs) (w v : AtExit d.ended κs)
      → ent 𝓤 (sep 𝓤 ((d.contract M 𝓤 𝓛 mem run κs a).ensures g x w) ((d.contract M 𝓤 𝓛 mem run κs a).ensures g y v)) (fact 𝓤 (x ≡ y))
  pub fits : EachOutcome d (λ κs a x. Fits numbers (d.said κs x))
