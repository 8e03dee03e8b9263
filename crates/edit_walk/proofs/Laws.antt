-- How a new entry is written, and the walk behind its gate. Assumes nothing.
use Prim.Native.Nat.{ℕ, ◌+◌, ◌≤◌, max}
use mathlib.Core.Bool.{Bool}
use mathlib.Core.Path.{◌≡◌, sym, ◌∙◌}
use mathlib.Core.List.{List, [], ◌∷◌, ◌++◌}
use native.Mathlib.Omega.{arith}
use lib.ListN.{length, length-append}
use lib.Seq.{sets, append_snoc}
use Rattle.ground.specs.Verdict.{most_bytes, most_records, size_gate}
use Rattle.ground.specs.declared.Verdict.{Verdict}
use Rattle.ground.proofs.Laws.{sets_append, size_open, size-fine}
use Rattle.mode.specs.Write.{write_mode}
use Rattle.entry.specs.Entry.{Entry, entry_bytes}
use Rattle.reading.specs.Listing.{plain}
use Rattle.edit_walk.specs.Walk.{carried, kept_in, walk_gate, walk_bytes, walk_of}
use Rattle.edit_walk.specs.declared.Walked.{Walked}
use Rattle.std.specs.Prelude.{Err, Ok}

pub new-length : (new : Entry) → length (entry_bytes new) ≡ length (write_mode new.mode) + 1 + length new.name + 1 + length new.id
unfolding entry_bytes
new-length new = simp length-append (omega arith)

-- an entry is written in three pieces: mode text and space, name and NUL, id
pub new-stored : (new : Entry) (out first second after text : List ℕ) (at name id : ℕ) → text ≡ write_mode new.mode
    → name ≡ at + length (write_mode new.mode) + 1 → id ≡ name + length new.name + 1
    → first ≡ sets out at (text ++ 32 ∷ []) → second ≡ sets first name (new.name ++ 0 ∷ []) → after ≡ sets second id new.id
    → after ≡ sets out at (entry_bytes new)
unfolding entry_bytes
new-stored new out first second after text at name id t p q x y z =
    let m : List ℕ = write_mode new.mode in
    let n : List ℕ = new.name in
    let d : List ℕ = new.id in
    let a : at + length (m ++ 32 ∷ []) ≡ name = simp length-append (omega arith) in
    let b : name + length (n ++ 0 ∷ []) ≡ id = simp length-append (omega arith) in
    z ∙ rw (y, x, t)
    (sym
    (rw (← append_snoc m 32 (n ++ 0 ∷ d), ← append_snoc n 0 d)
    (sets_append out at (m ++ 32 ∷ []) ((n ++ 0 ∷ []) ++ d)
    ∙ rw a (sets_append (sets out at (m ++ 32 ∷ [])) name (n ++ 0 ∷ []) d ∙ rw b))))

-- ---- the walk behind its gate

-- what is promised of it
abbrev pub Walks : ℕ → List ℕ → ℕ → Entry → Bool → Walked → List ℕ → List ℕ → Type 0
Walks h s count new placed w out after = (w ≡ walk_of h s count new placed) × (after ≡ sets out 0 (walk_bytes h s count new placed))

module _ (h : ℕ) (s : List ℕ) (count : ℕ) (new : Entry) (placed : Bool) (out : List ℕ) (m : ℕ)
    (e : m ≡ max (length s) (max (length new.name) (length new.id))) where
  pub walk_shut : (v : Verdict) → size_gate m count ≡ Err v → Walks h s count new placed (record { used = 0; kept = 0 }) out out
  unfolding walk_of walk_bytes walk_gate
  walk_shut v g = let z : size_gate (max (length s) (max (length new.name) (length new.id))) count ≡ Err v = rw (← e) g in (sym (rw z), sym (rw z))

  pub walk_open : size_gate m count ≡ Ok tt → (w : Walked) (after : List ℕ) → w.used ≡ length (carried h s new placed (plain h count 0 s))
      → w.kept ≡ kept_in s new.name (plain h count 0 s) → after ≡ sets out 0 (carried h s new placed (plain h count 0 s))
      → Walks h s count new placed w out after
  unfolding walk_of walk_bytes walk_gate
  walk_open g w after u k a =
      let z : size_gate (max (length s) (max (length new.name) (length new.id))) count ≡ Ok tt = rw (← e) g in
      (sym (rw (z, ← u, ← k)), a ∙ sym (rw z))

  pub walk_small : size_gate m count ≡ Ok tt
      → (length new.name ≤ most_bytes) × (length new.id ≤ most_bytes) × (length s ≤ most_bytes) × (count ≤ most_records)
  walk_small g =
      let o = size_open m count g in
      (omega (arith, o.0), omega (arith, o.0), omega (arith, o.0), o.1)

-- within the bounds
module _ (h : ℕ) (s : List ℕ) (count : ℕ) (new : Entry) (placed : Bool) (a : length s ≤ most_bytes) (b : length new.name ≤ most_bytes)
    (c : length new.id ≤ most_bytes) (d : count ≤ most_records) where
  gate_is : walk_gate s count new ≡ Ok tt
  unfolding walk_gate
  gate_is = size-fine (max (length s) (max (length new.name) (length new.id))) count (omega arith) d

  pub walk_bytes_are : walk_bytes h s count new placed ≡ carried h s new placed (plain h count 0 s)
  unfolding walk_bytes
  walk_bytes_are = rw gate_is

  pub walk_used : (walk_of h s count new placed).used ≡ length (carried h s new placed (plain h count 0 s))
  unfolding walk_of walk_bytes
  walk_used = rw gate_is

  pub walk_kept : (walk_of h s count new placed).kept ≡ kept_in s new.name (plain h count 0 s)
  unfolding walk_of
  walk_kept = rw gate_is
