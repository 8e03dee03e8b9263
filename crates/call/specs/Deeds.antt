-- What an answer says, and the calls by what they are lent. Assumes nothing.
use Rattle.std.specs.Prelude.{ℕ, List, [], ◌∷◌, Result, ⊤}
use Rattle.ground.specs.Verdict.{fine, gate_verdict}
use Rattle.ground.specs.declared.Verdict.{Verdict}
use Rattle.ground.specs.declared.Answer.{Answer}
use Rattle.call.specs.Call.{Call, Input, Outcome, Answered, Said, Deed}

abbrev pub of_verdict : Verdict → Said
of_verdict v = record { verdict = v; counts = [] }

abbrev pub of_answer : Answer → Said
of_answer a = record { verdict = a.verdict; counts = a.count ∷ [] }

abbrev pub of_gate : Result ⊤ Verdict → Said
of_gate g = of_verdict (gate_verdict g)

-- a call that is lent nothing to write
abbrev pub reads : (c : Call) → ((i : Input c) → Answered c i → Said) → Deed
reads c said = record { call = c; before = λ i. []; after = λ i o. []; handed = λ i o. []; said = λ i o. said i o.answer }

-- a call that only stores, and refuses nothing
abbrev pub stores : (c : Call) → (Input c → List ℕ) → ((i : Input c) → Outcome c i → List ℕ) → Deed
stores c before after =
    record { call = c; before = λ i. before i ∷ []; after = λ i o. after i o ∷ []; handed = λ i o. []; said = λ i o. of_verdict fine }

-- a call that counts and writes to one thing lent
abbrev pub writes : (c : Call) → ((i : Input c) → Answered c i → Answer) → (Input c → List ℕ) → ((i : Input c) → Outcome c i → List ℕ) → Deed
writes c is before after =
    record { call = c; before = λ i. before i ∷ []; after = λ i o. after i o ∷ []; handed = λ i o. []; said = λ i o. of_answer (is i o.answer) }

-- a call that hands its answer over
abbrev pub hands : (d : Call) → ((i : Input d) → Outcome d i → List ℕ) → (List ℕ → Said) → (Input d → List (List ℕ)) → ((i : Input d) → Outcome d i → List (List ℕ)) → Deed
hands d handed says before after = record { call = d; before = before; after = after; handed = handed; said = λ i o. says (handed i o) }
