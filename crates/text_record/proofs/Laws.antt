-- Laws of one record of text, one for each way through a definition. Assumes nothing.
use Prim.Native.Nat.{ℕ, ◌-◌, ◌<◌, ◌≤◌}
use native.Mathlib.Omega.{arith}
use mathlib.Core.Path.{◌≡◌, refl, ap, sym, ◌∙◌}
use mathlib.Core.Bool.{Bool, true, false, ◌&&◌}
use mathlib.Core.List.{List}
use lib.Dec.{eqb, ltb}
use lib.ListN.{length, get_or, take, drop, get_or-eq_default}
use borrow.Author.Tests.{eq-eqb, ne_eqb, lt-ltb, le-ltb, ltb-true}
use Rattle.ground.specs.Basics.{pick, part}
use Rattle.ground.specs.Scan.{same_bytes, place_from}
use Rattle.ground.proofs.Laws.{and_left, and_right, part-from}
use Rattle.mode_table.specs.Table.{rows}
use Rattle.rules.specs.Rules.{is_text, modes_of, group_row, bare_number}
use Rattle.tree_text.specs.Text.{front_text, front_of}
use Rattle.tree_text.specs.declared.Front.{Front}
use Rattle.tree_text.proofs.Laws.{front-is}
use Rattle.text_form.specs.Form.{begins, name_from}
use Rattle.text_record.specs.Record.{front_mode, pared, name_end, name_in, formed, said_number, text_number}

-- ---- digits

module _ (t : List ℕ) where
  pub bare_zero : get_or t 0 0 ≡ 48 → take (length t - 1) (drop 1 t) ≡ pared t
  unfolding pared
  bare_zero p = part-from t 1 ∙ sym (ap (λ (b : Bool). pick b (drop 1 t) t) (eq-eqb (get_or t 0 0) 48 p))

  pub bare_other : (get_or t 0 0 ≡ 48 → ⊥) → t ≡ pared t
  unfolding pared
  bare_other p = sym (ap (λ (b : Bool). pick b (drop 1 t) t) (ne_eqb (get_or t 0 0) 48 p))

  pub bare_none : length t ≡ 0 → t ≡ pared t
  bare_none p = let z : length t ≤ 0 = omega arith in bare_other (λ e. omega (arith, sym (get_or-eq_default t 0 z) ∙ e))

-- ---- digits and word

pub begins-is : (m : ℕ) (b : List ℕ) (f : Front) → f ≡ front_of m → {x : List ℕ} → x ≡ take f.len b → {v : Bool}
    → v ≡ same_bytes x (take f.len f.bytes) → v ≡ begins (front_text m) b
begins-is m b f e {x} p q =
    let w = front-is f m e in
    q ∙ ap (λ (l : List ℕ). same_bytes l (take f.len f.bytes)) p ∙ ap (same_bytes (take f.len b)) w.3
    ∙ ap (λ (n : ℕ). same_bytes (take n b) (front_text m)) w.0

module _ (b : List ℕ) where
  module _ (p : begins (front_text 0o40000) b ≡ true) where
    pub written-tree : 0o40000 ≡ front_mode rows b
    unfolding front_mode rows
    written-tree = rw p refl

  module _ (p : begins (front_text 0o40000) b ≡ false) where
    pub written-blob : begins (front_text 0o100644) b ≡ true → 0o100644 ≡ front_mode rows b
    unfolding front_mode rows
    written-blob q = rw (p, q) refl

    module _ (q : begins (front_text 0o100644) b ≡ false) where
      pub written_exe : begins (front_text 0o100755) b ≡ true → 0o100755 ≡ front_mode rows b
      unfolding front_mode rows
      written_exe r = rw (p, q, r) refl

      module _ (r : begins (front_text 0o100755) b ≡ false) where
        pub written_link : begins (front_text 0o120000) b ≡ true → 0o120000 ≡ front_mode rows b
        unfolding front_mode rows
        written_link s = rw (p, q, r, s) refl

        module _ (s : begins (front_text 0o120000) b ≡ false) where
          pub written-commit : begins (front_text 0o160000) b ≡ true → 0o160000 ≡ front_mode rows b
          unfolding front_mode rows
          written-commit t = rw (p, q, r, s, t) refl

          pub written_none : begins (front_text 0o160000) b ≡ false → 0 ≡ front_mode rows b
          unfolding front_mode rows
          written_none t = rw (p, q, r, s, t) refl

module _ (k : ℕ) (b : List ℕ) where
  pub mode-plain : (k ≡ 1 → ⊥) → {m : ℕ} → m ≡ front_mode rows b → m ≡ front_mode (modes_of k) b
  mode-plain n e = e ∙ rw (ne_eqb k 1 n) refl

  pub mode-group : k ≡ 1 → begins (front_text 0o100664) b ≡ true → 0o100664 ≡ front_mode (modes_of k) b
  unfolding front_mode group_row
  mode-group n p = rw (eq-eqb k 1 n, p) refl

  pub mode_other : k ≡ 1 → begins (front_text 0o100664) b ≡ false → {m : ℕ} → m ≡ front_mode rows b → m ≡ front_mode (modes_of k) b
  unfolding front_mode group_row
  mode_other n p e = e ∙ rw (eq-eqb k 1 n, p) refl

-- ---- what is said of them

module _ (k : ℕ) (b name : List ℕ) {x y : List ℕ} {v : Bool} (p : x ≡ take 6 b) (q : y ≡ pared x) (e : v ≡ is_text (modes_of k) y) where
  text-is : is_text (modes_of k) (pared (take 6 b)) ≡ v
  text-is = sym (e ∙ ap (λ (l : List ℕ). is_text (modes_of k) l) (q ∙ ap pared p))

  pub said-mode : v ≡ false → 5 ≡ said_number k b name
  unfolding said_number
  said-mode z = sym (ap (λ (t : Bool). pick t (pick (eqb (front_mode (modes_of k) b) 0) 20 (bare_number name)) 5) (text-is ∙ z))

  module _ (z : v ≡ true) {m : ℕ} (f : m ≡ front_mode (modes_of k) b) where
    pub said-word : m ≡ 0 → 20 ≡ said_number k b name
    unfolding said_number
    said-word o =
        sym (ap (λ (t : Bool). pick t (pick (eqb (front_mode (modes_of k) b) 0) 20 (bare_number name)) 5) (text-is ∙ z)
        ∙ ap (λ (t : Bool). pick t 20 (bare_number name)) (eq-eqb (front_mode (modes_of k) b) 0 (sym f ∙ o)))

    pub said-name : (m ≡ 0 → ⊥) → {r : ℕ} → r ≡ bare_number name → r ≡ said_number k b name
    unfolding said_number
    said-name o g =
        g ∙ sym (ap (λ (t : Bool). pick t (pick (eqb (front_mode (modes_of k) b) 0) 20 (bare_number name)) 5) (text-is ∙ z)
        ∙ ap (λ (t : Bool). pick t 20 (bare_number name)) (ne_eqb (front_mode (modes_of k) b) 0 (λ w. o (f ∙ w))))

-- ---- the record

and_no : (a b : Bool) → b ≡ false → (a && b) ≡ false
and_no true b e = e
and_no false b e = refl

module _ (h : ℕ) (b : List ℕ) where
  formed-none : name_from h b ≡ 0 → formed h b ≡ false
  unfolding formed
  formed-none e = ap (λ (n : ℕ). ltb 0 n && ltb (name_end h b) (length b)) e

  formed_open : length b ≤ name_end h b → formed h b ≡ false
  unfolding formed
  formed_open e = and_no (ltb 0 (name_from h b)) _ (le-ltb (name_end h b) (length b) e)

  formed-whole : (name_from h b ≡ 0 → ⊥) → name_end h b < length b → formed h b ≡ true
  unfolding formed
  formed-whole n e =
      ap (λ (t : Bool). t && ltb (name_end h b) (length b)) (lt-ltb 0 (name_from h b) (omega arith)) ∙ lt-ltb (name_end h b) (length b) e

  -- a record stands there exactly so
  pub formed-parts : formed h b ≡ true → (0 < name_from h b) × (name_end h b < length b)
  unfolding formed
  formed-parts e = (ltb-true 0 (name_from h b) (and_left (ltb 0 (name_from h b)) _ e), ltb-true (name_end h b) (length b) (and_right (ltb 0 (name_from h b)) _ e))

pub end_is : (h : ℕ) (b : List ℕ) {from r : ℕ} → from ≡ name_from h b → r ≡ place_from 0 b from → r ≡ name_end h b
unfolding name_end place_from
end_is h b p q = q ∙ rw p refl

module _ (k h : ℕ) (b : List ℕ) {from : ℕ} (p : from ≡ name_from h b) where
  unformed : formed h b ≡ false → 20 ≡ text_number k h b
  unfolding text_number
  unformed e = sym (ap (λ (t : Bool). pick t (said_number k b (name_in h b)) 20) e)

  pub number-none : from ≡ 0 → 20 ≡ text_number k h b
  number-none z = unformed (formed-none h b (sym p ∙ z))

  module _ {end : ℕ} (q : end ≡ place_from 0 b from) where
    pub number_open : length b ≤ end → 20 ≡ text_number k h b
    number_open l = unformed (formed_open h b (omega (arith, end_is h b p q)))

    pub number-said : (from ≡ 0 → ⊥) → end < length b → {r : ℕ} → r ≡ said_number k b (part from end b) → r ≡ text_number k h b
    unfolding text_number name_in
    number-said n l e =
        let z : part from end b ≡ part (name_from h b) (name_end h b) b = rw (p, end_is h b p q) refl in
        e ∙ ap (said_number k b) z
        ∙ sym (ap (λ (t : Bool). pick t (said_number k b (part (name_from h b) (name_end h b) b)) 20)
        (formed-whole h b (λ z. n (p ∙ z)) (omega (arith, end_is h b p q))))
