-- Laws of what stands before a record's id, and of a listing as text. Assumes nothing.
use Prim.Native.Nat.{ℕ, ◌+◌, ◌*◌, ◌/◌, ◌%◌, ◌≤◌}
use native.Mathlib.Omega.{arith}
use mathlib.Core.Path.{◌≡◌, refl, sym, ap, ◌∙◌}
use mathlib.Core.Bool.{Bool, true, false}
use mathlib.Core.List.{[], ◌∷◌}
use lib.Dec.{eqb}
use lib.ListN.{length, take, length-append, length-replicate}
use lib.Seq.{take-append_seam}
use Rattle.ground.specs.Basics.{pick, ascii}
use Rattle.mode.specs.Mode.{top_bits, value_of, sort_of, is_tree}
use Rattle.entry.specs.Entry.{Entry}
use Rattle.entry.proofs.Laws.{folder-low}
use Rattle.hex_of_id.proofs.Laws.{hex-length}
use Rattle.tree_text.specs.Text.{sort_word, front_text, front_of, record_text}
use Rattle.tree_text.specs.declared.Front.{Front}

-- a mode's sort is told by its low 16 bits
sort-low : (m : ℕ) → sort_of (m % 65536) ≡ sort_of m
unfolding sort_of value_of
sort-low m = go (eqb (top_bits m) 0o140000) refl
  where
    top : top_bits (m % 65536) ≡ top_bits m
    top = omega arith

    go : (v : Bool) → eqb (top_bits m) 0o140000 ≡ v → sort_of (m % 65536) ≡ sort_of m
    go true q = rw (top, q)
    go false q = rw (top, q, top)

module _ (m : ℕ) where
  word-tree : {v : Bool} → v ≡ is_tree (m % 65536) → v ≡ true → sort_word m ≡ ascii "tree"
  unfolding sort_word
  word-tree t p = rw (sym (folder-low m) ∙ sym t ∙ p)

  word-commit : {v w : Bool} → v ≡ is_tree (m % 65536) → v ≡ false → w ≡ eqb (sort_of (m % 65536)) 0o160000 → w ≡ true → sort_word m ≡ ascii "commit"
  unfolding sort_word
  word-commit t p u q = rw (sym (folder-low m) ∙ sym t ∙ p, sym (ap (λ (x : ℕ). eqb x 0o160000) (sort-low m)) ∙ sym u ∙ q)

  word-blob : {v w : Bool} → v ≡ is_tree (m % 65536) → v ≡ false → w ≡ eqb (sort_of (m % 65536)) 0o160000 → w ≡ false → sort_word m ≡ ascii "blob"
  unfolding sort_word
  word-blob t p u q = rw (sym (folder-low m) ∙ sym t ∙ p, sym (ap (λ (x : ℕ). eqb x 0o160000) (sort-low m)) ∙ sym u ∙ q)

-- six bytes that are the octal digits of a mode
abbrev pub Digits : ℕ → ℕ → ℕ → ℕ → ℕ → ℕ → ℕ → Type 0
Digits m a b c d e f =
    (a ≡ 48 + m / 0o100000 % 8) × (b ≡ 48 + m / 0o10000 % 8) × (c ≡ 48 + m / 0o1000 % 8) × (d ≡ 48 + m / 0o100 % 8) × (e ≡ 48 + m / 0o10 % 8) × (f ≡ 48 + m % 8)

module _ (m : ℕ) {a b c d e f : ℕ} (x : Digits m a b c d e f) where
  -- the three fronts
  pub front_tree : {v : Bool} → v ≡ is_tree (m % 65536) → v ≡ true
      → ◌≡◌ {A = Front} (record { bytes = a ∷ b ∷ c ∷ d ∷ e ∷ f ∷ 32 ∷ 116 ∷ 114 ∷ 101 ∷ 101 ∷ 32 ∷ 0 ∷ 0 ∷ []; len = 12 }) (front_of m)
  unfolding front_of front_text
  front_tree t p = rw (word-tree m t p, x.0, x.1, x.2, x.3, x.4, x.5) refl

  pub front_commit : {v w : Bool} → v ≡ is_tree (m % 65536) → v ≡ false → w ≡ eqb (sort_of (m % 65536)) 0o160000 → w ≡ true
      → ◌≡◌ {A = Front} (record { bytes = a ∷ b ∷ c ∷ d ∷ e ∷ f ∷ 32 ∷ 99 ∷ 111 ∷ 109 ∷ 109 ∷ 105 ∷ 116 ∷ 32 ∷ []; len = 14 }) (front_of m)
  unfolding front_of front_text
  front_commit t p u q = rw (word-commit m t p u q, x.0, x.1, x.2, x.3, x.4, x.5) refl

  pub front_blob : {v w : Bool} → v ≡ is_tree (m % 65536) → v ≡ false → w ≡ eqb (sort_of (m % 65536)) 0o160000 → w ≡ false
      → ◌≡◌ {A = Front} (record { bytes = a ∷ b ∷ c ∷ d ∷ e ∷ f ∷ 32 ∷ 98 ∷ 108 ∷ 111 ∷ 98 ∷ 32 ∷ 0 ∷ 0 ∷ []; len = 12 }) (front_of m)
  unfolding front_of front_text
  front_blob t p u q = rw (word-blob m t p u q, x.0, x.1, x.2, x.3, x.4, x.5) refl

-- ---- for those that store it

word_le : (m : ℕ) → (4 ≤ length (sort_word m)) × (length (sort_word m) ≤ 6)
unfolding sort_word
word_le m = go (is_tree m) (eqb (sort_of m) 0o160000)
  where
    go : (v w : Bool) → (4 ≤ length (pick v (ascii "tree") (pick w (ascii "commit") (ascii "blob"))))
        × (length (pick v (ascii "tree") (pick w (ascii "commit") (ascii "blob"))) ≤ 6)
    go true w = (omega arith, omega arith)
    go false true = (omega arith, omega arith)
    go false false = (omega arith, omega arith)

pub front_le : (m : ℕ) → length (front_text m) ≤ 14
unfolding front_text
front_le m = simp length-append (omega (arith, word_le m))

-- the bytes that it shows
pub front-is : (r : Front) (m : ℕ) → r ≡ front_of m → (r.len ≡ length (front_text m)) × (r.len ≤ 14) × (length r.bytes ≡ 14) × (take r.len r.bytes ≡ front_text m)
unfolding front_of
front-is r m e =
    rw e (refl, front_le m, simp (length-append, length-replicate) (omega (arith, front_le m)), take-append_seam (front_text m) _)

pub record_length : (e : Entry) → length (record_text e) ≡ length (front_text e.mode) + (2 * length e.id + 1) + (length e.name + 1)
unfolding record_text
record_length e = simp length-append (omega (arith, hex-length e.id))
