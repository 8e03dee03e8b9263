-- What a mode that was read says of its bytes: they end with a space, the mode has 16 bits, and the rest begins behind the first space.
-- Assumes nothing.
use Prim.Native.Nat.{ℕ, suc, ◌+◌, ◌-◌, ◌*◌, ◌%◌, ◌≤◌, ◌<◌}
use mathlib.Core.Path.{◌≡◌, refl, ap, ◌∙◌}
use mathlib.Core.Bool.{Bool, true, false, ◌&&◌}
use mathlib.Core.List.{List, [], ◌∷◌}
use native.Mathlib.Omega.{arith}
use lib.ListN.{length, get_or, take, length-take}
use lib.Dec.{eqb, leb}
use borrow.Author.Tests.{ne_eqb, eqb-true, leb-true}
use Rattle.ground.specs.Basics.{pick}
use Rattle.ground.specs.Scan.{count_to}
use Rattle.ground.proofs.Laws.{and_left, count-is, count_at, count-take}
use Rattle.mode.specs.Read.{octal_from, text_len, has_six, settle, read_mode}
use Rattle.mode.proofs.Laws.{text_six, text-count, rest_more, read-parts}
use Rattle.std.specs.Prelude.{None, Some}

-- ---- digits that say a number: it has 16 bits, and none of them is a space

octal-parts : (sum : ℕ) (bs : List ℕ) (v : ℕ) → sum < 0o200000 → octal_from sum bs ≡ Some v → (v < 0o200000) × (count_to 32 bs ≡ length bs)
unfolding octal_from
octal-parts sum [] v p e = let z : sum ≡ v = cc in (omega arith, refl)
octal-parts sum (b ∷ bs) v p e = go (octal-parts ((sum * 8 + (b - 48)) % 0o200000) bs v (omega arith)) (leb 48 b) refl (leb b 55) e
  where
    go : (octal_from ((sum * 8 + (b - 48)) % 0o200000) bs ≡ Some v → (v < 0o200000) × (count_to 32 bs ≡ length bs))
        → (t : Bool) → leb 48 b ≡ t → (u : Bool) → pick (t && u) (octal_from ((sum * 8 + (b - 48)) % 0o200000) bs) None ≡ Some v
        → (v < 0o200000) × (count_to 32 (b ∷ bs) ≡ suc (length bs))
    go ih true q true e = ((ih e).0, simp (ne_eqb b 32 (λ z. omega (arith, leb-true 48 b q))) (ap suc (ih e).1))
    go ih true q false e = let z : ◌≡◌ {A = ℕ} 0 1 = cc in absurd (omega arith)
    go ih false q u e = let z : ◌≡◌ {A = ℕ} 0 1 = cc in absurd (omega arith)

settle-small : (v a : ℕ) → v < 0o200000 → settle v a < 0o200000
unfolding settle
settle-small v a p = go (eqb v 16384 && eqb a 48)
  where
    go : (t : Bool) → pick t 49152 v < 0o200000
    go true = omega arith
    go false = p

-- ---- a text that does not fill the bytes ends with a space

text-space : (b : List ℕ) → text_len b < length b → (v : Bool) → has_six b ≡ v → get_or b (text_len b) 0 ≡ 32
unfolding has_six
text-space b p true e = rw (text_six b e) (eqb-true _ _ (and_left (eqb (get_or b 6 0) 32) _ e))
text-space b p false e = rw (text-count b e) (count-is 32 b (rw (text-count b e) at p))

module _ (b : List ℕ) (m n : ℕ) (e : read_mode b ≡ Some (record { internal = m }, n)) where
  -- A mode that was read has 16 bits.
  pub read_small : m < 0o200000
  read_small =
      let q = read-parts b m n e in
      omega (arith, q.made, settle-small q.sum (get_or b 0 0) (octal-parts 0 (take (text_len b) b) q.sum (omega arith) q.digits).0)

  module _ (p : 7 < length b) where
    rest-is : n ≡ text_len b + 1
    rest-is = let q = read-parts b m n e in q.rest ∙ rest_more (text_len b) (length b) (omega arith)

    -- Read from more than seven bytes, it was ended by a space.
    pub mode-space : (0 < n) × (n ≤ length b) × (get_or b (n - 1) 0 ≡ 32)
    mode-space =
        let q = read-parts b m n e in
        let z : n - 1 ≡ text_len b = omega (arith, rest-is) in
        (omega (arith, rest-is), omega (arith, rest-is), rw z (text-space b (omega arith) (has_six b) refl))

    -- Of more than seven bytes the rest begins behind the first space.
    pub read_count : n ≡ count_to 32 b + 1
    read_count = omega (arith, rest-is, go (has_six b) refl)
      where
        go : (v : Bool) → has_six b ≡ v → text_len b ≡ count_to 32 b
        go false h = text-count b h
        go true h =
            let q = read-parts b m n e in
            let l : text_len b ≡ 6 = text_six b h in
            let s : get_or b 6 0 ≡ 32 = rw l at (text-space b (omega arith) true h) in
            let f = (octal-parts 0 (take (text_len b) b) q.sum (omega arith) q.digits).1 in
            omega (arith, f, count-take 32 (text_len b) b, length-take (text_len b) b, count_at 32 b 6 (omega arith) s)
