-- Laws of the rules: each way through the tests of a mode text and of a name, and through the gate of a rule set. Assumes nothing.
use Prim.Native.Nat.{ℕ, ◌≤◌}
use native.Mathlib.Omega.{arith}
use mathlib.Core.Path.{◌≡◌, refl, sym, ◌∙◌}
use mathlib.Core.Bool.{Bool, true, false, not, ◌&&◌, ◌||◌}
use mathlib.Core.List.{List, [], ◌∷◌}
use mathlib.Core.Logic.{◌⊎◌, inl, inr}
use lib.Dec.{eqb, leb}
use borrow.Author.Tests.{eqb-true}
use Rattle.ground.specs.Basics.{pick, ascii}
use Rattle.ground.specs.Scan.{same_bytes, free_of}
use Rattle.ground.specs.Verdict.{verdict, most_bytes, most_records, id_length, size_gate, gate_of, is_set}
use Rattle.ground.specs.declared.Verdict.{Verdict}
use Rattle.ground.proofs.Laws.{and_left, and_right, gate_open}
use Rattle.names.proofs.Laws.{plain-parts}
use Rattle.mode.specs.Mode.{value_of, sort_of, executes, kind_of}
use Rattle.mode.specs.Mode.{word_of}
use Rattle.mode_table.specs.Table.{rows, row_at, written_of, find_text}
use Rattle.mode_text.specs.Write.{shown}
use Rattle.mode_text.specs.Write.{trimmed, write_mode, mode_text}
use Rattle.mode_table.specs.declared.Written.{Written}
use Rattle.rules.specs.Rules.{is_text, group_row, modes_of, permitted, name_number, bare_number}
use Rattle.rules.specs.Gate.{rule_gate}
use Rattle.rules.specs.Code.{is_group}
pub use Rattle.names.proofs.Laws.{name-empty, number-bad, number-slash, number-slashless}
use Rattle.std.specs.Prelude.{Err, None, Ok, Some, Result, ⊤}

-- ---- a mode text

or_right : (a b : Bool) → b ≡ true → (a || b) ≡ true
or_right true b e = refl
or_right false b e = e

or-none : (a : Bool) → (a || false) ≡ a
or-none true = refl
or-none false = refl

text-found : (t : List ℕ) (rs : List Written) (m : ℕ) → find_text t rs ≡ Some m → is_text rs t ≡ true
text-found t [] m e = let z : ◌≡◌ {A = ℕ} 0 1 = cc in absurd (omega arith)
text-found t (r ∷ rs) m e = go (text-found t rs m) (same_bytes t (shown r.text)) e
  where
    go : (find_text t rs ≡ Some m → is_text rs t ≡ true) → (v : Bool) → pick v (Some r.mode) (find_text t rs) ≡ Some m
        → (v || is_text rs t) ≡ true
    go ih true e = refl
    go ih false e = ih e

text-none : (t : List ℕ) (rs : List Written) → find_text t rs ≡ None → is_text rs t ≡ false
text-none t [] e = refl
text-none t (r ∷ rs) e = go (text-none t rs) (same_bytes t (shown r.text)) e
  where
    go : (find_text t rs ≡ None → is_text rs t ≡ false) → (v : Bool) → pick v (Some r.mode) (find_text t rs) ≡ None
        → (v || is_text rs t) ≡ false
    go ih true e = let z : ◌≡◌ {A = ℕ} 0 1 = cc in absurd (omega arith)
    go ih false e = ih e

-- the row of early Git keeps the table's rule: its text is the one written for its mode, its kind the mode's, its word the kind's
pub group-is : group_row ≡ record { mode = 0o100664; kind = kind_of 0o100664; text = mode_text 0o100664; word = word_of 0o100664 }
unfolding group_row kind_of sort_of value_of executes mode_text write_mode trimmed word_of written_of row_at rows
group-is = refl

module _ (k : ℕ) (t : List ℕ) where
  -- a text of a rule set is one of the five, or the one besides
  pub texts_five : is_text rows t ≡ true → is_text (modes_of k) t ≡ true
  texts_five e = go (eqb k 1)
    where
      go : (v : Bool) → is_text (pick v (group_row ∷ rows) rows) t ≡ true
      go true = or_right (same_bytes t (shown group_row.text)) (is_text rows t) e
      go false = e

  texts-group : is_text rows t ≡ false → is_text (modes_of k) t ≡ is_group k t
  unfolding is_group
  texts-group e = go (eqb k 1)
    where
      go : (v : Bool) → is_text (pick v (group_row ∷ rows) rows) t ≡ (v && same_bytes t (shown group_row.text))
      go true = rw e (or-none (same_bytes t (shown group_row.text)))
      go false = e

  pub mode-found : (m : ℕ) → find_text t rows ≡ Some m → is_text (modes_of k) t ≡ true
  mode-found m e = texts_five (text-found t rows m e)

  pub mode-none : find_text t rows ≡ None → is_text (modes_of k) t ≡ is_group k t
  mode-none e = texts-group (text-none t rows e)

  pub group-text : (eqb k 1 && same_bytes t (ascii "100664")) ≡ is_group k t
  unfolding is_group group_row
  group-text = refl

-- ---- a name

module _ (n : List ℕ) where
  -- what a permitted name is
  pub permitted-parts : permitted n ≡ true
      → (not (same_bytes n []) ≡ true) × (free_of 0 n ≡ true) × (free_of 47 n ≡ true) × (not (same_bytes n (ascii ".")) ≡ true)
      × (not (same_bytes n (ascii "..")) ≡ true) × (not (same_bytes n (ascii ".git")) ≡ true)
  unfolding permitted
  permitted-parts e = let p = plain-parts n (and_right (free_of 0 n) _ e) in (p.0, and_left (free_of 0 n) _ e, p.1, p.2, p.3, p.4)

  -- of a name free of NUL it is what the rules say
  pub number_free : free_of 0 n ≡ true → bare_number n ≡ name_number n
  unfolding bare_number name_number permitted
  number_free f = rw f

-- ---- the gate of a rule set

pub set_is : (k : ℕ) → is_set k ≡ true → (k ≡ 1) ⊎ (k ≡ 2)
unfolding is_set
set_is k e = go (eqb k 1) refl e
  where
    go : (v : Bool) → eqb k 1 ≡ v → (v || eqb k 2) ≡ true → (k ≡ 1) ⊎ (k ≡ 2)
    go true q e = inl (eqb-true k 1 q)
    go false q e = inr (eqb-true k 2 e)

set-made : (k : ℕ) → (k ≡ 1) ⊎ (k ≡ 2) → is_set k ≡ true
unfolding is_set
set-made k (inl e) = rw e
set-made k (inr e) = rw e

-- with one of the two it is the gate of plain reading
pub rule_known : (k h bytes records : ℕ) → (k ≡ 1) ⊎ (k ≡ 2) → rule_gate k h bytes records ≡ gate_of h bytes records
unfolding rule_gate gate_of
rule_known k h bytes records i = rw (set-made k i)

-- with another it is shut, by 1 or by 19
module _ (k h bytes records : ℕ) (other : is_set k ≡ false) where
  pub rule_other : gate_of h 0 0 ≡ Ok tt → rule_gate k h bytes records ≡ Err (verdict 19 0)
  unfolding rule_gate gate_of
  rule_other e = rw other (go (id_length h) e)
    where
      go : (v : Bool) → pick v (size_gate 0 0) (Err (verdict 1 0)) ≡ Ok tt → pick {A = Result ⊤ Verdict} v (Err (verdict 19 0)) (Err (verdict 1 0)) ≡ Err (verdict 19 0)
      go true e = refl
      go false e = let z : ◌≡◌ {A = ℕ} 0 1 = cc in absurd (omega arith)

  pub rule_id : (v : Verdict) → gate_of h 0 0 ≡ Err v → rule_gate k h bytes records ≡ Err v
  unfolding rule_gate gate_of size_gate
  rule_id v e = rw other (go (id_length h) e)
    where
      go : (b : Bool) → pick {A = Result ⊤ Verdict} b (Ok tt) (Err (verdict 1 0)) ≡ Err v → pick {A = Result ⊤ Verdict} b (Err (verdict 19 0)) (Err (verdict 1 0)) ≡ Err v
      go true e = let z : ◌≡◌ {A = ℕ} 0 1 = cc in absurd (omega arith)
      go false e = e

-- whatever it is shut with
pub rule_shut : (P : Verdict → Type 0) → P (verdict 1 0) → P (verdict 19 0) → P (verdict 2 0) → (k h bytes records : ℕ) (v : Verdict)
    → rule_gate k h bytes records ≡ Err v → P v
unfolding rule_gate size_gate
rule_shut P one nineteen two k h bytes records v e = go (id_length h) (is_set k) (leb bytes most_bytes && leb records most_records) e
  where
    go : (a b c : Bool) → pick {A = Result ⊤ Verdict} a (pick b (pick c (Ok tt) (Err (verdict 2 0))) (Err (verdict 19 0))) (Err (verdict 1 0)) ≡ Err v → P v
    go false b c e = let y : verdict 1 0 ≡ v = cc in rw y at one
    go true false c e = let y : verdict 19 0 ≡ v = cc in rw y at nineteen
    go true true false e = let y : verdict 2 0 ≡ v = cc in rw y at two
    go true true true e = let z : ◌≡◌ {A = ℕ} 0 1 = cc in absurd (omega arith)

-- where it is open the rule set is one of the two
pub rule_open : (k h bytes records : ℕ) → rule_gate k h bytes records ≡ Ok tt → (k ≡ 1) ⊎ (k ≡ 2)
unfolding rule_gate
rule_open k h bytes records e = go (id_length h) (is_set k) refl e
  where
    go : (a b : Bool) → is_set k ≡ b → pick a (pick b (size_gate bytes records) (Err (verdict 19 0))) (Err (verdict 1 0)) ≡ Ok tt → (k ≡ 1) ⊎ (k ≡ 2)
    go true true q e = set_is k q
    go true false q e = let z : ◌≡◌ {A = ℕ} 0 1 = cc in absurd (omega arith)
    go false b q e = let z : ◌≡◌ {A = ℕ} 0 1 = cc in absurd (omega arith)

-- and the object is within its bound
pub rule_bytes : (k h bytes records : ℕ) → rule_gate k h bytes records ≡ Ok tt → bytes ≤ most_bytes
rule_bytes k h bytes records e = (gate_open h bytes records (sym (rule_known k h bytes records (rule_open k h bytes records e)) ∙ e)).1
