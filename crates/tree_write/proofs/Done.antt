-- Where writing is done: the size asked alone is the same answer (`done-size`), and it is the length of what is written (`done-length`).
-- And it is done wherever nothing refuses (`writes`).
-- Assumes nothing.
use native.Mathlib.Omega.{arith}
use Prim.Native.Nat.{ℕ, ◌+◌, ◌≤◌, max}
use mathlib.Core.Path.{◌≡◌, refl, ap, sym, ◌∙◌}
use mathlib.Core.Logic.{◌⊎◌}
use mathlib.Core.Bool.{true}
use mathlib.Core.List.{List}
use lib.ListN.{length}
use Rattle.ground.specs.Verdict.{gate_of, counted, most_bytes, most_records}
use Rattle.ground.proofs.Laws.{gate_open, gate_fine}
use Rattle.ground.specs.declared.Answer.{Answer}
use Rattle.output.specs.Output.{fitted}
use Rattle.output.proofs.Laws.{fitted-fine, fitted-done, gated_open, gated-done}
use Rattle.entry.specs.Record.{records_of}
use Rattle.tree_write.specs.Write.{written, judged, measured, tree_size, tree_answer}
use Rattle.tree_write.proofs.Laws.{measured-fine, measured-length, measured-size}
use Rattle.std.specs.Prelude.{Ok}

module _ (h : ℕ) (bytes records : List ℕ) (room : ℕ) (z : (tree_answer h bytes records room).verdict.number ≡ 0) where
  -- the call began
  pub began : gate_of h (max (length bytes) room) (length (records_of records)) ≡ Ok tt
  unfolding tree_answer
  began = gated-done h (max (length bytes) room) (length (records_of records)) _ z

  fits : tree_answer h bytes records room ≡ fitted room (measured true h bytes 0 0 (records_of records))
  unfolding tree_answer
  fits = gated_open _ _ began

  had_room : ((measured true h bytes 0 0 (records_of records)).verdict.number ≡ 0) × ((measured true h bytes 0 0 (records_of records)).count ≤ room)
      × (fitted room (measured true h bytes 0 0 (records_of records)) ≡ measured true h bytes 0 0 (records_of records))
  had_room = fitted-done room (measured true h bytes 0 0 (records_of records)) (sym (ap (λ (a : Answer). a.verdict.number) fits) ∙ z)

  -- no record was refused
  pub done-passes : (measured true h bytes 0 0 (records_of records)).verdict.number ≡ 0
  done-passes = had_room.0

  done-measured : tree_answer h bytes records room ≡ measured true h bytes 0 0 (records_of records)
  done-measured = fits ∙ had_room.2

  pub done-size : tree_size h bytes records ≡ tree_answer h bytes records room
  unfolding tree_size
  done-size =
      let o = gate_open h (max (length bytes) room) (length (records_of records)) began in
      gated_open _ _ (gate_fine h (length bytes) (length (records_of records)) o.0 (omega (arith, o.1)) o.2)
      ∙ measured-size h bytes 0 0 (records_of records) done-passes
      ∙ sym done-measured

  pub done-length : (tree_answer h bytes records room).count ≡ length (written h bytes (records_of records))
  done-length = ap (λ (a : Answer). a.count) done-measured ∙ measured-length true h bytes 0 0 (records_of records) done-passes ∙ omega arith

  -- and that has room
  pub done-fits : length (written h bytes (records_of records)) ≤ room
  done-fits = omega (arith, done-length, ap (λ (a : Answer). a.count) done-measured, had_room.1)

-- within the bounds, records that none refuses are written where there is room
pub writes : (h : ℕ) (bytes records : List ℕ) (room : ℕ) → (h ≡ 20) ⊎ (h ≡ 32) → length bytes ≤ most_bytes → room ≤ most_bytes → length (records_of records) ≤ most_records
    → (judged true h bytes 0 (records_of records)).number ≡ 0 → length (written h bytes (records_of records)) ≤ room
    → tree_answer h bytes records room ≡ counted (length (written h bytes (records_of records)))
unfolding tree_answer
writes h bytes records room i p q r j l =
    let z : 0 + length (written h bytes (records_of records)) ≡ length (written h bytes (records_of records)) = omega arith in
    gated_open _ _ (gate_fine h (max (length bytes) room) (length (records_of records)) i (omega arith) r)
    ∙ rw (measured-fine true h bytes 0 0 (records_of records) j, z) (fitted-fine room (counted (length (written h bytes (records_of records)))) refl l)
