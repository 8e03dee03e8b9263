-- Runs of stores, and a path that is stored. Assumes nothing.
use Prim.Native.Nat.{ℕ, suc, ◌+◌, ◌*◌, ◌/◌, ◌≤◌, ◌<◌}
use mathlib.Core.Bool.{Bool, true, false, ◌&&◌}
use mathlib.Core.Path.{◌≡◌, ap, sym, ◌∙◌}
use mathlib.Core.List.{List, [], ◌∷◌, ◌++◌, append_assoc}
use native.Mathlib.Omega.{arith}
use native.Mathlib.Nat.{add-zero, add-suc, suc-add}
use native.Mathlib.Numerals.{add-one}
use borrow.Author.Tests.{eq-eqb, ne_eqb, le-leb, lt-ltb, le-ltb, leb-true, ltb-true}
use lib.Dec.{leb, ltb}
use lib.ListN.{length, get_or, take, drop, set, length-drop, length-append, get_or-append}
use lib.Seq.{sets, sets-eq, paste, length-take-le, get_or-take}
use Rattle.ground.proofs.Laws.{and_left, and_right}
use Rattle.merge.specs.declared.Change.{Change}
use Rattle.item.specs.Items.{join}
use Rattle.item.specs.Put.{numbers_at, put_numbers, put_path}

-- ---- runs of stores

pub sets_append : (l : List ℕ) (n : ℕ) (xs ys : List ℕ) → sets (sets l n xs) (n + length xs) ys ≡ sets l n (xs ++ ys)
sets_append l n [] ys = rw add-zero
sets_append l n (x ∷ xs) ys = rw (add-suc, ← suc-add) (sets_append (set l n x) (suc n) xs ys)

six_sets : (l : List ℕ) (i a b c d e f : ℕ) → set (set (set (set (set (set l i a) (i + 1) b) (i + 2) c) (i + 3) d) (i + 4) e) (i + 5) f ≡ sets l i (a ∷ b ∷ c ∷ d ∷ e ∷ f ∷ [])
six_sets l i a b c d e f =
    let p : i + 1 ≡ suc i = omega arith in
    let q : i + 2 ≡ suc (suc i) = omega arith in
    let r : i + 3 ≡ suc (suc (suc i)) = omega arith in
    let t : i + 4 ≡ suc (suc (suc (suc i))) = omega arith in
    let u : i + 5 ≡ suc (suc (suc (suc (suc i)))) = omega arith in
    rw (p, q, r, t, u)

-- ---- the numbers of an item

module _ (l : List ℕ) (n start end : ℕ) (c : Change) where
  pub numbers-none : length l / 6 ≤ n → l ≡ put_numbers l n start end c
  unfolding put_numbers
  numbers-none h = rw (le-ltb _ _ h)

  pub numbers-stored : n < length l / 6
      → set (set (set (set (set (set l (6 * n) start) (6 * n + 1) end) (6 * n + 2) c.left.mode) (6 * n + 3) c.right.mode) (6 * n + 4) c.left.id_start) (6 * n + 5) c.right.id_start
      ≡ put_numbers l n start end c
  unfolding put_numbers
  numbers-stored h = six_sets l (6 * n) start end _ _ _ _ ∙ rw (lt-ltb _ _ h)

  -- as a walk needs it: all six are stored where there is room
  pub numbers-room : (m : List ℕ) → m ≡ put_numbers l n start end c → 6 * (n + 1) ≤ length l → m ≡ sets l (6 * n) (numbers_at start end c)
  unfolding put_numbers
  numbers-room m e h = let f : n < length l / 6 = omega arith in e ∙ rw (lt-ltb _ _ f)

-- ---- room for a folder's path and a slash

module _ (ps pl m len : ℕ) where
  abbrev pub Room : Bool
  Room = leb (ps + pl) m && ltb (m + pl) len

  pub room_says : (t : Bool) → t ≡ Room → t ≡ true → (ps + pl ≤ m) × (m + pl < len)
  room_says t e k =
      let r : Room ≡ true = sym e ∙ k in
      (leb-true (ps + pl) m (and_left (leb (ps + pl) m) (ltb (m + pl) len) r), ltb-true (m + pl) len (and_right (leb (ps + pl) m) (ltb (m + pl) len) r))

-- ---- a path

module _ (d : List ℕ) (m ps pl : ℕ) (name : List ℕ) where
  pub path_bare : pl ≡ 0 → sets d m name ≡ put_path d m ps pl name
  unfolding put_path
  path_bare h = rw (eq-eqb _ _ h)

  module _ (h : pl ≡ 0 → ⊥) (t : Bool) (e : t ≡ Room ps pl m (length d)) where
    pub path-shut : t ≡ false → d ≡ put_path d m ps pl name
    unfolding put_path
    path-shut k = rw (ne_eqb _ _ h, ← e, k)

    pub path_full : t ≡ true → (d₁ : List ℕ) → d₁ ≡ paste d m (drop ps d) pl → sets (set d₁ (m + pl) 47) (m + pl + 1) name ≡ put_path d m ps pl name
    unfolding put_path
    path_full k d₁ f =
        let r = room_says ps pl m (length d) t e k in
        let long : length (take pl (drop ps d)) ≡ pl = length-take-le pl (drop ps d) (omega (arith, length-drop ps d, r.0, r.1)) in
        let fits : m + length (take pl (drop ps d)) ≤ length d = omega (arith, long, r.1) in
        let g : d₁ ≡ sets d m (take pl (drop ps d)) = f ∙ sym (sets-eq (take pl (drop ps d)) d m fits ∙ rw long) in
        rw (ne_eqb _ _ h, ← e, k, ← sets_append d m (take pl (drop ps d)) (47 ∷ name), ← g, long, add-one)

-- as a walk needs it: below a folder whose path stands at ps, all of a path is stored where there is room
pub path_room : (d : List ℕ) (m ps pl : ℕ) (prefix name p : List ℕ) → length prefix ≡ pl → p ≡ put_path d m ps pl name → ps + pl ≤ m → take (length prefix) (drop ps d) ≡ prefix
    → m + length (join prefix name) ≤ length d → p ≡ sets d m (join prefix name)
unfolding join put_path
path_room d m ps pl prefix name p l e far held r = go prefix (e ∙ ap (λ (n : ℕ). put_path d m ps n name) (sym l)) (omega (arith, far, l)) held r
  where
    go : (q : List ℕ) → p ≡ put_path d m ps (length q) name → ps + length q ≤ m → take (length q) (drop ps d) ≡ q → m + length (join q name) ≤ length d → p ≡ sets d m (join q name)
    go [] e far held r = e
    go (x ∷ xs) e far held r =
        let j : length (join (x ∷ xs) name) ≡ length (x ∷ xs) + suc (length name) = length-append (x ∷ xs) (47 ∷ name) in
        let n : length (x ∷ xs) ≡ 0 → ⊥ = λ z. omega arith in
        let f : m + length (x ∷ xs) < length d = omega arith in
        e ∙ rw (ne_eqb (length (x ∷ xs)) 0 n, le-leb (ps + length (x ∷ xs)) m far, lt-ltb (m + length (x ∷ xs)) (length d) f, held)
