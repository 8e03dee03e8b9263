-- A public call by its own contract, and what the first demand says of it (docs/FORMAT.md, "Numbers"). The contract is the one that the function was proved
-- to meet, as the toolchain reads it off the function (`Kinds`, `Reads`): nothing of it is said again here. Assumes nothing.
use Rattle.std.specs.Prelude.{ℕ, ◌≡◌, Bool, true, false, ◌&&◌, ◌||◌, List, [], ◌∷◌, ◌++◌, eqb}
use contract.Lifetimes.{Lfts}
use denote.Triple.Clauses.{AtExit}
use borrow.Fn.Kinds.{In, Out, ParamKind, ResultKind, Dens, res_t, ended_of}
use Rattle.ground.specs.Basics.{pick}
use Rattle.ground.specs.Verdict.{is_part}
use Rattle.ground.specs.declared.Verdict.{Verdict}

-- how many lifetimes it names, the kinds of its parameters and of its result, and its contract: what a caller has to show of the arguments, and what is
-- promised of the arguments, the result, and the arguments at the end
pub record Call : Type 3 where
  pub lifetimes : ℕ
  pub params : List (ParamKind lifetimes)
  pub result : ResultKind lifetimes
  pub asked : In lifetimes params
  pub promised : Out lifetimes params result

abbrev pub call : {n : ℕ} (ps : List (ParamKind n)) (r : ResultKind n) → In n ps → Out n ps r → Call
call {n} ps r A P = record { lifetimes = n; params = ps; result = r; asked = A; promised = P }

-- what a call is handed: the arguments, and the lifetimes of those that are lent
pub record Input (c : Call) : Type 0 where
  pub κs : Lfts c.lifetimes
  pub args : Dens κs c.params

abbrev pub Answered : (c : Call) → Input c → Type 0
Answered c i = (res_t c.result i.κs).Denot

-- what it comes to: the answer, and the arguments at the end
pub record Outcome (c : Call) (i : Input c) : Type 0 where
  pub answer : Answered c i
  pub last : AtExit (ended_of c.lifetimes c.params c.result) i.κs

-- an outcome that the contract allows
abbrev pub Meets : (c : Call) (i : Input c) → Outcome c i → Type 0
Meets c i o = c.promised i.κs i.args o.answer o.last

-- a run: what a call is handed, and an outcome that its contract allows
pub record Run (c : Call) : Type 0 where
  pub given : Input c
  pub came : Outcome c given
  pub meets : Meets c given came

-- The call takes every input: what a caller has to show holds of all of them.
abbrev pub TakesAll : Call → Type 0
TakesAll c = (i : Input c) → c.asked i.κs i.args

-- No second answer meets the contract.
abbrev pub OneAnswer : Call → Type 0
OneAnswer c = (i : Input c) (o p : Outcome c i) → Meets c i o → Meets c i p → o.answer ≡ p.answer

infixr 5 ◌and◌
-- both of several calls
pub data EachOnce : List Call → Type 3 where
  none : EachOnce []
  ◌and◌ : {c : Call} {cs : List Call} → TakesAll c × OneAnswer c → EachOnce cs → EachOnce (c ∷ cs)

-- ---- a call that is done or refused

-- what an answer says: its verdict, and its counts
pub record Said : Type 0 where
  pub verdict : Verdict
  pub counts : List ℕ

-- The call; what is lent to it to be written (each buffer and list), as it was and as it is at the end; the numbers that are lent for its answer alone, at
-- the end (none, but for the calls under C names and the memory of an import); and what its answer says.
pub record Deed : Type 3 where
  pub call : Call
  pub before : Input call → List (List ℕ)
  pub after : (i : Input call) → Outcome call i → List (List ℕ)
  pub handed : (i : Input call) → Outcome call i → List ℕ
  pub said : (i : Input call) → Outcome call i → Said

-- a number is one of these
abbrev pub among : ℕ → List ℕ → Bool
among n [] = false
among n (k ∷ ks) = eqb n k || among n ks

-- the numbers that come with a place; with any other the place is 0
abbrev pub placed : List ℕ
placed = 3 ∷ 4 ∷ 5 ∷ 6 ∷ 7 ∷ 8 ∷ 9 ∷ 10 ∷ 11 ∷ 12 ∷ 16 ∷ 17 ∷ 18 ∷ 20 ∷ []

-- a part comes with 3, and is one of the three; with any other number it is 0
abbrev pub parted : Verdict → Bool
parted v = pick (eqb v.number 3) (is_part v.part) (eqb v.part 0)

-- a verdict of the table, its number one of these
abbrev pub listed : List ℕ → Verdict → Bool
listed numbers v = among v.number numbers && ((among v.number placed || eqb v.place 0) && parted v)

-- every count is 0
abbrev pub nothing : List ℕ → Bool
nothing [] = true
nothing (n ∷ ns) = eqb n 0 && nothing ns

abbrev pub Refusal : Verdict → Type 0
Refusal v = v.number ≡ 0 → ⊥

-- the verdict is one of the call's own, and every refusal but 15 has a count of 0
pub record Fits (numbers : List ℕ) (s : Said) : Type 0 where
  pub known : listed numbers s.verdict ≡ true
  pub empty : Refusal s.verdict → (s.verdict.number ≡ 15 → ⊥) → nothing s.counts ≡ true

-- The first demand of such a call: it takes every input; no second answer meets the contract, and nothing else can stand in what was lent; it gives these
-- numbers and no other; and a refusal leaves all that was lent as it was.
pub record Keeps (d : Deed) (numbers : List ℕ) : Type 0 where
  pub takes : TakesAll d.call
  pub once : (i : Input d.call) (o p : Outcome d.call i) → Meets d.call i o → Meets d.call i p
      → (o.answer ≡ p.answer) × (d.handed i o ≡ d.handed i p) × (d.after i o ≡ d.after i p)
  pub fits : (i : Input d.call) (o : Outcome d.call i) → Meets d.call i o → Fits numbers (d.said i o)
  pub leaves : (i : Input d.call) (o : Outcome d.call i) → Meets d.call i o → Refusal (d.said i o).verdict → d.after i o ≡ d.before i

-- The first demand of a call that is handed what another said, and lent nothing to write: it takes every input, no second answer meets the contract, and
-- what it says has one of these numbers, or one that it was handed.
pub record HandsOn (d : Deed) (given : Input d.call → Said) (numbers : List ℕ) : Type 0 where
  pub takes : TakesAll d.call
  pub once : OneAnswer d.call
  pub fits : (i : Input d.call) (o : Outcome d.call i) → Meets d.call i o → (handed : List ℕ) → Fits handed (given i)
      → Fits (numbers ++ handed) (d.said i o)

-- The first demand of a call that prints, since its text is written to what is lent, refused or not: it takes every input, no second answer and no second
-- text meets the contract, and it gives these numbers and no other.
pub record Prints (d : Deed) (numbers : List ℕ) : Type 0 where
  pub takes : TakesAll d.call
  pub once : (i : Input d.call) (o p : Outcome d.call i) → Meets d.call i o → Meets d.call i p → (o.answer ≡ p.answer) × (d.after i o ≡ d.after i p)
  pub known : (i : Input d.call) (o : Outcome d.call i) → Meets d.call i o → listed numbers (d.said i o).verdict ≡ true
