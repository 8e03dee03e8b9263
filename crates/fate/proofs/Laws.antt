-- Laws of what is done to an entry. Assumes nothing.
use Prim.Native.Nat.{ℕ, ◌%◌, ◌/◌, ◌≤◌}
use native.Mathlib.Omega.{arith}
use mathlib.Core.Path.{◌≡◌, refl, ap, sym, ◌∙◌}
use mathlib.Core.Bool.{Bool, true, false, ◌&&◌, ◌||◌}
use mathlib.Core.List.{List}
use lib.Dec.{eqb}
use lib.ListN.{length, take}
use lib.Seq.{length-take-le}
use borrow.Author.Tests.{eq-eqb, ne_eqb}
use Rattle.ground.specs.Basics.{pick}
use Rattle.ground.specs.Scan.{same_bytes}
use Rattle.mode.specs.Mode.{top_bits, value_of, sort_of, executes, kind_of, is_tree}
use Rattle.mode.specs.Table.{rows, row_at, written_of}
use Rattle.mode_table.specs.declared.EntryKind.{EntryKind}
use Rattle.mode_table.specs.declared.EntryKind.TheVariants.{Tree, Blob, BlobExecutable, Link, Commit}
use Rattle.mode_text.specs.declared.ShortText.{ShortText}
use Rattle.mode_table.specs.declared.Written.{Written}
use Rattle.fate.specs.Fate.{stays_mode, own_text, fate_of}

-- a mode's sort and kind are told by its low 16 bits
top_low : (m : ℕ) → top_bits (m % 65536) ≡ top_bits m
top_low m = omega arith

pub sort-low : (m : ℕ) → sort_of (m % 65536) ≡ sort_of m
unfolding sort_of value_of
sort-low m = go (eqb (top_bits m) 0o140000) refl
  where
    go : (v : Bool) → eqb (top_bits m) 0o140000 ≡ v → sort_of (m % 65536) ≡ sort_of m
    go true q = rw (top_low m, q)
    go false q = rw (top_low m, q, top_low m)

executes-low : (m : ℕ) → executes (m % 65536) ≡ executes m
unfolding executes value_of
executes-low m = go (eqb (top_bits m) 0o140000) refl
  where
    bit : m % 65536 / 0o100 % 2 ≡ m / 0o100 % 2
    bit = omega arith

    go : (v : Bool) → eqb (top_bits m) 0o140000 ≡ v → executes (m % 65536) ≡ executes m
    go true q = rw (top_low m, q)
    go false q = rw (top_low m, q, bit)

pub kind-low : (m : ℕ) → kind_of (m % 65536) ≡ kind_of m
unfolding kind_of
kind-low m = rw (sort-low m, executes-low m)

-- the four sorts in turn
stays_all : (m : ℕ)
    → stays_mode m
    ≡ (eqb (sort_of (m % 65536)) 0o100000 || (eqb (sort_of (m % 65536)) 0o120000 || (is_tree (m % 65536) || eqb (sort_of (m % 65536)) 0o160000)))
unfolding stays_mode is_tree
stays_all m = rw (sort-low m)

module _ (m : ℕ) where
  pub stays-file : eqb (sort_of (m % 65536)) 0o100000 ≡ true → true ≡ stays_mode m
  stays-file p = sym (stays_all m ∙ rw p)

  module _ (a : eqb (sort_of (m % 65536)) 0o100000 ≡ false) where
    pub stays_link : eqb (sort_of (m % 65536)) 0o120000 ≡ true → true ≡ stays_mode m
    stays_link p = sym (stays_all m ∙ rw (a, p))

    module _ (b : eqb (sort_of (m % 65536)) 0o120000 ≡ false) where
      pub stays-tree : is_tree (m % 65536) ≡ true → true ≡ stays_mode m
      stays-tree p = sym (stays_all m ∙ rw (a, b, p))

      pub stays-commit : is_tree (m % 65536) ≡ false → eqb (sort_of (m % 65536)) 0o160000 ≡ stays_mode m
      stays-commit p = sym (stays_all m ∙ rw (a, b, p))

-- the text of a kind's own mode
pub own-few : (k : EntryKind) → ((written_of k).text.len ≤ 6) × ((written_of k).text.len ≤ length (written_of k).text.bytes)
unfolding written_of row_at rows
own-few Tree = (omega arith, omega arith)
own-few Blob = (omega arith, omega arith)
own-few BlobExecutable = (omega arith, omega arith)
own-few Link = (omega arith, omega arith)
own-few Commit = (omega arith, omega arith)

pub own-fits : (m : ℕ) (t : ShortText) → t ≡ (written_of (kind_of m)).text → (t.len ≤ 6) × (t.len ≤ length t.bytes)
own-fits m t q = rw q (own-few (kind_of m))

pub own-shown : (m : ℕ) (t : ShortText) → t ≡ (written_of (kind_of m)).text → take t.len t.bytes ≡ own_text m
unfolding own_text
own-shown m t q = rw q refl

pub own-length : (m : ℕ) (t : ShortText) → t ≡ (written_of (kind_of m)).text → t.len ≡ length (own_text m)
own-length m t q = sym (ap length (sym (own-shown m t q)) ∙ length-take-le _ _ (own-fits m t q).1)

-- whether a text is that one
pub text-own : (text : List ℕ) (m : ℕ) {t : ShortText} (b : Bool) → t ≡ (written_of (kind_of m)).text → same_bytes text (take t.len t.bytes) ≡ b
    → ◌≡◌ {A = ℕ} (pick (same_bytes text (own_text m)) 0 1) (pick b 0 1)
text-own text m {t} b q p = ap (λ (v : Bool). pick {A = ℕ} v 0 1) (ap (same_bytes text) (sym (own-shown m t q)) ∙ p)

-- the ways of a fate
module _ (number mode : ℕ) (before : Bool) (text : List ℕ) where
  pub fate_name : (number ≡ 0 → ⊥) → fate_of number mode before text ≡ 2
  unfolding fate_of
  fate_name p = rw (ne_eqb number 0 p)

  module _ (n : number ≡ 0) where
    pub fate_mode : stays_mode mode ≡ false → fate_of number mode before text ≡ 3
    unfolding fate_of
    fate_mode p = rw (eq-eqb number 0 n, p)

    pub fate_before : stays_mode mode ≡ true → before ≡ true → fate_of number mode before text ≡ 4
    unfolding fate_of
    fate_before p b = rw (eq-eqb number 0 n, p, b)

    pub fate_kept : stays_mode mode ≡ true → before ≡ false → fate_of number mode before text ≡ pick (same_bytes text (own_text mode)) 0 1
    unfolding fate_of
    fate_kept p b = rw (eq-eqb number 0 n, p, b)

-- an entry that may stay
pub may_not : (number mode : ℕ) → (number ≡ 0 → ⊥) → false ≡ (eqb number 0 && stays_mode mode)
may_not number mode p = sym (rw (ne_eqb number 0 p))

pub may_if : (number mode : ℕ) → number ≡ 0 → stays_mode mode ≡ (eqb number 0 && stays_mode mode)
may_if number mode p = sym (rw (eq-eqb number 0 p))

-- the text of the row of a mode's kind
pub own_row : (m : ℕ) (row : Written) (k : EntryKind) → row ≡ written_of k → k ≡ kind_of (m % 65536) → row.text ≡ (written_of (kind_of m)).text
own_row m row k p q = ap (λ (r : Written). r.text) p ∙ ap (λ (j : EntryKind). (written_of j).text) (q ∙ kind-low m)
