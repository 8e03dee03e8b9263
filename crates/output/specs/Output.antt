-- The answer of a call that writes: refusal 8, and what a gate refuses (docs/FORMAT.md, "Writing"). Assumes nothing.
use Rattle.std.specs.Prelude.{ℕ, ◌&&◌, eqb, ltb, Err, Ok, Result, ⊤}
use Rattle.ground.specs.Basics.{pick}
use Rattle.ground.specs.Verdict.{verdict, refused}
use Rattle.ground.specs.declared.Answer.{Answer}
use Rattle.ground.specs.declared.Verdict.{Verdict}

-- 8 with the bytes needed where the room is short for what would be written
unfoldable pub fitted : ℕ → Answer → Answer
fitted room a = pick (eqb a.verdict.number 0 && ltb room a.count) (refused (verdict 8 a.count)) a

-- the answer of a call behind a gate
unfoldable pub gated : Result ⊤ Verdict → Answer → Answer
gated (Ok tt) a = a
gated (Err v) a = refused v
