-- What one bundle's answers hang on: nothing but the objects that a path meets, so one guest's folder cannot alter another's (docs/FORMAT.md, "Paths").
-- It is said of every answer that the contract of `follow_path` allows. `proofs/Isolation.antt` proves it. Assumes nothing.
use Rattle.std.specs.Prelude.{ℕ, ◌≤◌, ◌≡◌, false, ◌↔◌, length}
use mathlib.Core.List.{List, ◌∷◌, Memᴰ}
use contract.Lifetimes.{Lfts}
use denote.Triple.Clauses.{AtExit}
use borrow.Fn.Kinds.{Dens, ended_of}
use Rattle.ground.specs.Verdict.{most_bytes}
use Rattle.twice.specs.Ids.{repeats}
use Rattle.bundle.specs.Bundle.{Object, good, bundle_of, ids_of}
use Rattle.component.specs.Component.{components}
use Rattle.component.specs.Named.{there}
use Rattle.path.specs.Path.{step_to}
use Rattle.path_walk.specs.declared.Followed.{Followed}
use Rattle.path.proofs.follow_path.Kinds as kinds
use Rattle.path.proofs.follow_path.Reads as reads
use Rattle.bundle.specs.declared.Checked.{Checked}
use Rattle.bundle.proofs.check_bundle.Kinds as check-kinds
use Rattle.bundle.proofs.check_bundle.Reads as check-reads

-- a path from an id meets that id, and where its first component leads to an entry and another component follows, what that one meets from the entry's id;
-- the id of the last entry is the answer, and is not met: nobody opens it
pub data Meets (h : ℕ) (os : List Object) : List ℕ → List (List ℕ) → List ℕ → Type 0 where
  first : {id c : List ℕ} {cs : List (List ℕ)} → Meets h os id (c ∷ cs) id
  later : {id c d next x : List ℕ} {ds : List (List ℕ)} {mode : ℕ} → step_to h os id c ≡ there mode next → Meets h os next (d ∷ ds) x → Meets h os id (c ∷ d ∷ ds) x

-- no object has the id
abbrev pub Lacks : List Object → List ℕ → Type 0
Lacks os id = (o : Object) → Memᴰ o os → o.id ≡ id → ⊥

-- an object has the id, the kind and the bytes
abbrev pub Holds : List Object → List ℕ → ℕ → List ℕ → Type 0
Holds os id kind bytes = Memᴰ (record { id = id; kind = kind; bytes = bytes }) os

-- two bundles agree on an id: neither has it, or both have it with equal kind and equal bytes
pub data Agree (ps qs : List Object) (id : List ℕ) : Type 0 where
  neither : Lacks ps id → Lacks qs id → Agree ps qs id
  both : (kind : ℕ) (bytes : List ℕ) → Holds ps id kind bytes → Holds qs id kind bytes → Agree ps qs id

-- a bundle that can be used: within the bound, well framed, with ids of h bytes and these objects, and no id twice
pub record Usable (s : List ℕ) (h : ℕ) (os : List Object) : Type 0 where
  pub within : length s ≤ most_bytes
  pub framed : bundle_of s ≡ good h os
  pub apart : repeats (ids_of os) ≡ false

-- a call of `follow_path`: its three lent buffers, and an answer that its contract allows
pub record Called (s root path : List ℕ) (r : Followed) : Type 0 where
  pub κs : Lfts 3
  pub args : Dens κs kinds.ps
  pub last : AtExit (ended_of 3 kinds.ps kinds.r) κs
  pub kept : reads.Post κs args r last
  pub first : args.0.now ≡ s
  pub second : args.1.0.now ≡ root
  pub third : args.1.1.0.now ≡ path

-- a call of `check_bundle`, the same
pub record CheckCalled (s : List ℕ) (r : Checked) : Type 0 where
  pub κs : Lfts 1
  pub args : Dens κs check-kinds.ps
  pub last : AtExit (ended_of 1 check-kinds.ps check-kinds.r) κs
  pub kept : check-reads.Post κs args r last
  pub lent : args.0.now ≡ s

pub record Isolation : Type 0 where
  -- a bundle can be used exactly where `check_bundle` is done, with ids of the length that it says
  pub checked : (s : List ℕ) (r : Checked) → CheckCalled s r → (r.verdict.number ≡ 0) ↔ ((os : List Object) × Usable s r.h os)
  -- Take two bundles with one id length, both of which can be used. If they agree on each id that the walk of a path meets, whatever else they hold, then a
  -- run of the call from one root id answers the same for both, refusals included.
  pub isolated : (s t root path : List ℕ) (h : ℕ) (ps qs : List Object) (r q : Followed) → Usable s h ps → Usable t h qs
      → ((id : List ℕ) → Meets h ps root (components path) id → Agree ps qs id) → Called s root path r → Called t root path q → r ≡ q
  -- Two bundles of the same objects, in whatever order and wherever they stand, give every path the same answer: no answer is a position.
  pub no_position : (s t root path : List ℕ) (h : ℕ) (ps qs : List Object) (r q : Followed) → Usable s h ps → Usable t h qs
      → ((o : Object) → Memᴰ o ps ↔ Memᴰ o qs) → Called s root path r → Called t root path q → r ≡ q
  -- an answer that is done has an id of the bundle's own length
  pub whole_id : (s root path : List ℕ) (h : ℕ) (os : List Object) (r : Followed) → bundle_of s ≡ good h os → Called s root path r
      → r.verdict.number ≡ 0 → r.size ≡ h
