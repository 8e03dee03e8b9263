-- Laws of a new entry: what refuses it. Assumes nothing.
use Prim.Native.Nat.{ℕ, ◌+◌, ◌-◌, ◌≤◌, ◌<◌}
use mathlib.Core.Bool.{Bool, true, false, ◌||◌, false≢true}
use mathlib.Core.Path.{◌≡◌, refl, ap, sym, ◌∙◌}
use mathlib.Core.List.{List, [], ◌∷◌, ◌++◌}
use mathlib.Core.Logic.{◌⊎◌, inl, inr}
use native.Mathlib.Omega.{arith}
use borrow.Author.Tests.{eq-eqb, ne_eqb, eqb-true}
use lib.Dec.{eqb}
use lib.ListN.{length}
use Rattle.ground.specs.Basics.{pick}
use Rattle.ground.specs.Scan.{count_to, same_bytes, free_of}
use Rattle.ground.proofs.Laws.{is_false, equal, same_refl, same_true, free_whole, whole_free}
use Rattle.mode.specs.Read.{read_mode}
use Rattle.mode.specs.Table.{rows, shown}
use Rattle.mode.specs.Write.{write_mode, again}
use Rattle.mode.specs.declared.EntryMode.{EntryMode}
use Rattle.mode_table.specs.declared.Written.{Written}
use Rattle.mode_round.proofs.Again.{again-same, again_less, written_reads}
use Rattle.entry.specs.Entry.{Entry}
use Rattle.rules.specs.Rules.{or_else, is_text, group_row, modes_of, permitted, name_number, bare_number, git_rules}
use Rattle.rules.proofs.Laws.{number_free}
use Rattle.one_listing.specs.Sound.{is_mode}
use Rattle.one_listing.specs.Lawful.{RowOk, RowsOk}
use Rattle.one_listing.proofs.Present.{git_ok}
use Rattle.edit.specs.Edit.{new_no}
use Rattle.std.specs.Prelude.{Some}
use Rattle.ground.proofs.Pairs.{some_parts}

-- ---- a mode by its text

-- a row's text is not that of mode 0, nor its mode one that a mode loses its highest bit for
abbrev Apart : List Written → Type 0
Apart [] = Unit {0}
Apart (r ∷ rs) = (same_bytes (48 ∷ []) (shown r.text) ≡ false) × ((r.mode ≤ 16384) ⊎ (20480 ≤ r.mode)) × Apart rs

rows_apart : Apart rows
unfolding rows
rows_apart = (refl, inl (omega arith), (refl, inr (omega arith), (refl, inr (omega arith), (refl, inr (omega arith), (refl, inr (omega arith), tt)))))

modes-apart : (k : ℕ) → Apart (modes_of k)
unfolding group_row
modes-apart k = go (eqb k 1)
  where
    go : (v : Bool) → Apart (pick v (group_row ∷ rows) rows)
    go true = (refl, inr (omega arith), rows_apart)
    go false = rows_apart

-- two modes that are written alike read alike
reads-alike : (m r : ℕ) → (m ≡ 0 → ⊥) → m < 65536 → (r ≡ 0 → ⊥) → r < 65536 → write_mode m ≡ write_mode r → again m ≡ again r
reads-alike m r a b c d q =
    let e : Some (record { internal = again m }, length (write_mode m) + 1) ≡ Some (record { internal = again r }, length (write_mode r) + 1)
    = sym (written_reads m [] a b) ∙ ap (λ (t : List ℕ). read_mode (t ++ 32 ∷ [])) q ∙ written_reads r [] c d in
    ap (λ (x : EntryMode). x.internal) (some_parts e).0

again_back : (m r : ℕ) → again m ≡ r → (r ≤ 16384) ⊎ (20480 ≤ r) → m ≡ r
again_back m r e p = go p (λ a b. again_less m a b) (λ f. again-same m f)
  where
    go : (r ≤ 16384) ⊎ (20480 ≤ r) → (49152 < m → m < 53248 → again m ≡ m - 32768) → ((49152 < m → m < 53248 → ⊥) → again m ≡ m) → m ≡ r
    go (inl q) f g = sym (g (λ a b. omega (arith, f a b, e))) ∙ e
    go (inr q) f g = sym (g (λ a b. omega (arith, f a b, e))) ∙ e

zero-text : (m : ℕ) → m ≡ 0 → write_mode m ≡ 48 ∷ []
unfolding write_mode
zero-text m e = rw e

row-text : (r : Written) (m : ℕ) → RowOk r → m < 65536 → same_bytes (48 ∷ []) (shown r.text) ≡ false → (r.mode ≤ 16384) ⊎ (20480 ≤ r.mode)
    → same_bytes (write_mode m) (shown r.text) ≡ eqb r.mode m
row-text r m o l z p = go (equal r.mode m)
  where
    alike : same_bytes (write_mode m) (shown r.text) ≡ true → (r.mode ≡ m → ⊥) → ⊥
    alike s f = zero (equal m 0)
      where
        zero : (m ≡ 0) ⊎ (m ≡ 0 → ⊥) → ⊥
        zero (inl e) = false≢true (sym z ∙ ap (λ (t : List ℕ). same_bytes t (shown r.text)) (sym (zero-text m e)) ∙ s)
        zero (inr n) =
            let q : write_mode m ≡ write_mode r.mode = same_true (write_mode m) (shown r.text) s ∙ o.written in
            f (sym (again_back m r.mode (reads-alike m r.mode n l o.some o.small q ∙ o.same) p))

    go : (r.mode ≡ m) ⊎ (r.mode ≡ m → ⊥) → same_bytes (write_mode m) (shown r.text) ≡ eqb r.mode m
    go (inl e) = ap (same_bytes (write_mode m)) (o.written ∙ ap write_mode e) ∙ same_refl (write_mode m) ∙ sym (eq-eqb r.mode m e)
    go (inr f) = is_false (same_bytes (write_mode m) (shown r.text)) (λ s. alike s f) ∙ sym (ne_eqb r.mode m f)

both_or : {a b c d : Bool} → a ≡ b → c ≡ d → (a || c) ≡ (b || d)
both_or p q = cc

rows-text : (rs : List Written) (m : ℕ) → RowsOk rs → Apart rs → m < 65536 → is_text rs (write_mode m) ≡ is_mode rs m
unfolding is_mode
rows-text [] m o a l = refl
rows-text (r ∷ rs) m o a l = both_or (row-text r m o.0 l a.0 a.1) (rows-text rs m o.1 a.2 l)

rows-small : (rs : List Written) (m : ℕ) → RowsOk rs → is_mode rs m ≡ true → m < 65536
unfolding is_mode
rows-small [] m o e = absurd (false≢true e)
rows-small (r ∷ rs) m o e = go (rows-small rs m o.1) (eqb r.mode m) refl e
  where
    go : (is_mode rs m ≡ true → m < 65536) → (v : Bool) → eqb r.mode m ≡ v → (v || is_mode rs m) ≡ true → m < 65536
    go ih true q e = omega (arith, eqb-true r.mode m q, o.0.small)
    go ih false q e = ih e

modes_ok : (k : ℕ) → RowsOk (modes_of k)
unfolding git_rules
modes_ok k = (git_ok k).modes

-- a mode of 16 bits is permitted exactly where its text is
pub mode_text : (k m : ℕ) (t : List ℕ) {b : Bool} → m ≤ 65535 → t ≡ write_mode m → b ≡ is_text (modes_of k) t → b ≡ is_mode (modes_of k) m
mode_text k m t l e q = q ∙ ap (is_text (modes_of k)) e ∙ rows-text (modes_of k) m (modes_ok k) (modes-apart k) (omega arith)

pub mode_small : (k m : ℕ) → is_mode (modes_of k) m ≡ true → m ≤ 65535
mode_small k m e = omega (arith, rows-small (modes_of k) m (modes_ok k) e)

pub mode-over : (k m : ℕ) → 65535 < m → false ≡ is_mode (modes_of k) m
mode-over k m l = sym (is_false (is_mode (modes_of k) m) (λ e. omega (arith, mode_small k m e)))

-- ---- a new entry

name_nul : (n : List ℕ) → (count_to 0 n ≡ length n → ⊥) → name_number n ≡ 6
unfolding name_number permitted
name_nul n f = rw (is_false (free_of 0 n) (λ p. f (whole_free 0 n p)))

module _ (k h : ℕ) (new : Entry) where
  pub new-id : (length new.id ≡ h → ⊥) → 10 ≡ new_no (git_rules k) h new
  unfolding new_no
  new-id f = sym (rw (ne_eqb (length new.id) h f))

  module _ (i : length new.id ≡ h) where
    pub new-mode : is_mode (modes_of k) new.mode ≡ false → 5 ≡ new_no (git_rules k) h new
    unfolding new_no git_rules
    new-mode f = sym (rw (eq-eqb (length new.id) h i, f))

    module _ (m : is_mode (modes_of k) new.mode ≡ true) where
      pub new_nul : (count_to 0 new.name ≡ length new.name → ⊥) → 6 ≡ new_no (git_rules k) h new
      unfolding new_no git_rules
      new_nul f = sym (rw (eq-eqb (length new.id) h i, m, name_nul new.name f))

      pub new-name : count_to 0 new.name ≡ length new.name → (number : ℕ) → number ≡ bare_number new.name → number ≡ new_no (git_rules k) h new
      unfolding new_no git_rules
      new-name f number q = q ∙ number_free new.name (free_whole 0 new.name f) ∙ sym (rw (eq-eqb (length new.id) h i, m))

  -- what is not refused
  pub new-good : new_no (git_rules k) h new ≡ 0 → (length new.id ≡ h) × (is_mode (modes_of k) new.mode ≡ true) × (name_number new.name ≡ 0)
  unfolding new_no git_rules
  new-good z = go (eqb (length new.id) h) refl (is_mode (modes_of k) new.mode) refl z
    where
      go : (a : Bool) → eqb (length new.id) h ≡ a → (b : Bool) → is_mode (modes_of k) new.mode ≡ b
          → pick a (or_else (pick b 0 5) (name_number new.name)) 10 ≡ 0
          → (length new.id ≡ h) × (is_mode (modes_of k) new.mode ≡ true) × (name_number new.name ≡ 0)
      go true p true q z = (eqb-true (length new.id) h p, q, z)
      go true p false q z = absurd (omega arith)
      go false p b q z = absurd (omega arith)
