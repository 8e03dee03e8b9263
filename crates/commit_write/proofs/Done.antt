-- Where writing is done: the size asked alone is the same answer (`done-size`), and it is the length of what is written (`done-length`),
-- which has room (`done-fits`). And it is done wherever nothing refuses (`writes`).
-- Assumes nothing.
use native.Mathlib.Omega.{arith}
use Prim.Native.Nat.{ℕ, ◌≤◌}
use mathlib.Core.Path.{◌≡◌, refl, ap, sym, ◌∙◌}
use mathlib.Core.Logic.{⊎_elim}
use mathlib.Core.List.{List}
use lib.ListN.{length}
use Rattle.ground.specs.Verdict.{counted}
use Rattle.ground.specs.declared.Verdict.{Verdict}
use Rattle.ground.specs.declared.Answer.{Answer}
use Rattle.ground.proofs.Laws.{equal}
use Rattle.output.specs.Output.{fitted}
use Rattle.output.proofs.Laws.{fitted-fine, fitted-done}
use Rattle.header.specs.declared.CommitParts.{CommitParts}
use Rattle.commit_check.specs.Sound.{Sound}
use Rattle.commit_check.proofs.Laws.{checked-sound, sound-checked}
use Rattle.commit_write.specs.Write.{encoding_named, parts_written, measured, encoding_refusal, commit_size, commit_answer}
use Rattle.commit_write.proofs.Laws.{measured-fine, measured-checked, measured-length, checked_less, answer-bad, answer-fault, answer-fits}

module _ (h : ℕ) (bytes : List ℕ) (p : CommitParts) (parents headers : List ℕ) (room : ℕ) where
  module _ (z : (commit_answer h bytes p parents headers room).verdict.number ≡ 0) where
    -- no record was refused
    pub done-measured : (measured h bytes p parents headers room).verdict.number ≡ 0
    done-measured =
        ⊎_elim (λ e. e) (λ n. absurd (n (ap (λ (a : Answer). a.verdict.number) (sym (answer-bad h bytes p parents headers room n)) ∙ z)))
        (equal (measured h bytes p parents headers room).verdict.number 0)

    pub done-sound : Sound h bytes p parents headers room
    done-sound = checked-sound h bytes p parents headers room (measured-checked h bytes p parents headers room done-measured)

    -- and the encoding was not
    pub done-encoding : encoding_refusal (encoding_named bytes p) ≡ 0
    done-encoding =
        ⊎_elim (λ e. e) (λ n. absurd (n (ap (λ (a : Answer). a.verdict.number) (sym (answer-fault h bytes p parents headers room done-measured n)) ∙ z)))
        (equal (encoding_refusal (encoding_named bytes p)) 0)

    fits : commit_answer h bytes p parents headers room ≡ fitted room (measured h bytes p parents headers room)
    fits = answer-fits h bytes p parents headers room done-measured done-encoding

    had_room : ((measured h bytes p parents headers room).verdict.number ≡ 0) × ((measured h bytes p parents headers room).count ≤ room)
        × (fitted room (measured h bytes p parents headers room) ≡ measured h bytes p parents headers room)
    had_room = fitted-done room (measured h bytes p parents headers room) (sym (ap (λ (a : Answer). a.verdict.number) fits) ∙ z)

    done-counted : commit_answer h bytes p parents headers room ≡ counted (length (parts_written h bytes p parents headers))
    done-counted = fits ∙ had_room.2 ∙ measured-fine h bytes p parents headers room (measured-checked h bytes p parents headers room done-measured)

    pub done-size : commit_size h bytes p parents headers ≡ commit_answer h bytes p parents headers room
    done-size =
        measured-fine h bytes p parents headers 0 (checked_less h bytes p parents headers room (measured-checked h bytes p parents headers room done-measured))
        ∙ sym done-counted

    pub done-length : (commit_answer h bytes p parents headers room).count ≡ length (parts_written h bytes p parents headers)
    done-length = ap (λ (a : Answer). a.count) done-counted

    pub done-fits : length (parts_written h bytes p parents headers) ≤ room
    done-fits = omega (arith, measured-length h bytes p parents headers room done-measured, had_room.1)

  -- a commit that passes, with an encoding that may be written, is written where there is room
  pub writes : Sound h bytes p parents headers room → encoding_refusal (encoding_named bytes p) ≡ 0 → length (parts_written h bytes p parents headers) ≤ room
      → commit_answer h bytes p parents headers room ≡ counted (length (parts_written h bytes p parents headers))
  writes s e l =
      let m = measured-fine h bytes p parents headers room (ap (λ (v : Verdict). v.number) (sound-checked h bytes p parents headers room s)) in
      answer-fits h bytes p parents headers room (ap (λ (a : Answer). a.verdict.number) m) e
      ∙ rw m (fitted-fine room (counted (length (parts_written h bytes p parents headers))) refl l)
