-- The number of a mode is what its digits say by their places. Assumes nothing.
use Prim.Native.Nat.{ℕ, suc, ◌+◌, ◌-◌, ◌*◌, ◌/◌, ◌%◌, ◌^◌, ◌≤◌, ◌<◌}
use native.Mathlib.Nat.{add-mul, mul_assoc, mul_comm, mul_right_comm, mul-zero, pow-suc}
use native.Mathlib.Omega.{arith}
use mathlib.Core.Path.{◌≡◌, refl, sym, ap, ◌∙◌}
use mathlib.Core.Bool.{Bool, true, false, ◌&&◌}
use mathlib.Core.List.{List, [], ◌∷◌}
use lib.ListN.{length, get_or, length-take}
use Rattle.ground.specs.Basics.{pick}
use Rattle.mode.specs.Read.{is_octal, octal_from, text_len, settle, mode_of, read_mode}
use Rattle.mode.specs.declared.EntryMode.{EntryMode}
use Rattle.mode.proofs.Laws.{read-parts}
use Rattle.demands.specs.Demand2.{octal, are_octal, text_in}
use Rattle.std.specs.Prelude.{None, Option, Some}
use Rattle.ground.proofs.Pairs.{some_parts}

-- ---- modulo 65,536

over : (a z w y : ℕ) → a ≡ z * 65536 + w → (w + y) % 65536 ≡ (a + y) % 65536
over a z w y e = omega arith

-- what is kept of a number is all that its multiples need
carry : (x k y : ℕ) → (x % 65536 * k + y) % 65536 ≡ (x * k + y) % 65536
carry x k y =
    let e : x ≡ x / 65536 * 65536 + x % 65536 = omega arith in
    over (x * k) (x / 65536 * k) (x % 65536 * k) y
    (ap (λ (n : ℕ). n * k) e ∙ add-mul (x / 65536 * 65536) (x % 65536) k ∙ ap (λ (n : ℕ). n + x % 65536 * k) (mul_right_comm (x / 65536) 65536 k))

-- ---- the digits

both : (x y : Bool) → x ≡ true → y ≡ true → (x && y) ≡ true
both x y p q = rw (p, q)

regroup : (a b c d : ℕ) → a ≡ d → (a + b) + c ≡ d + (b + c)
regroup a b c d q = omega arith

-- one digit more
shifted : (sum d n rest : ℕ) → (sum * 8 + d) * 8 ^ n + rest ≡ sum * 8 ^ suc n + (d * 8 ^ n + rest)
shifted sum d n rest =
    let e : sum * 8 * 8 ^ n ≡ sum * 8 ^ suc n = mul_right_comm sum 8 (8 ^ n) ∙ mul_assoc sum (8 ^ n) 8 ∙ ap (λ (k : ℕ). sum * k) (sym (pow-suc 8 n)) in
    ap (λ (k : ℕ). k + rest) (add-mul (sum * 8) d (8 ^ n)) ∙ regroup (sum * 8 * 8 ^ n) (d * 8 ^ n) rest (sum * 8 ^ suc n) e

-- the mode of digits, by the first of them
digit : (first rest sum b : ℕ) (bs : List ℕ)
    → mode_of first rest (octal_from sum (b ∷ bs)) ≡ pick (is_octal b) (mode_of first rest (octal_from ((sum * 8 + (b - 48)) % 65536) bs)) None
unfolding octal_from
digit first rest sum b bs = picked (mode_of first rest) (is_octal b) _ _
  where
    picked : {X : Type 0} (f : X → Option (EntryMode × ℕ)) (t : Bool) (x y : X) → f (pick t x y) ≡ pick t (f x) (f y)
    picked f true x y = refl
    picked f false x y = refl

mode-says : (first rest sum : ℕ) (bs : List ℕ) (m n : ℕ) → sum < 65536 → mode_of first rest (octal_from sum bs) ≡ Some (record { internal = m }, n)
    → (are_octal bs ≡ true) × (m ≡ settle ((sum * 8 ^ length bs + octal bs) % 65536) first)
unfolding octal_from octal
mode-says first rest sum [] m n l e =
    let z : sum ≡ (sum * 1 + 0) % 65536 = omega arith in
    (refl, sym (ap (λ (x : EntryMode). x.internal) (some_parts e).0) ∙ ap (λ (v : ℕ). settle v first) z)
mode-says first rest sum (b ∷ bs) m n l e =
    go (mode-says first rest ((sum * 8 + (b - 48)) % 65536) bs m n (omega arith)) (is_octal b) refl (sym (digit first rest sum b bs) ∙ e)
  where
    next : ℕ
    next = (sum * 8 + (b - 48)) % 65536

    go : (mode_of first rest (octal_from next bs) ≡ Some (record { internal = m }, n)
        → (are_octal bs ≡ true) × (m ≡ settle ((next * 8 ^ length bs + octal bs) % 65536) first))
        → (t : Bool) → is_octal b ≡ t → pick t (mode_of first rest (octal_from next bs)) None ≡ Some (record { internal = m }, n)
        → (are_octal (b ∷ bs) ≡ true) × (m ≡ settle ((sum * 8 ^ suc (length bs) + ((b - 48) * 8 ^ length bs + octal bs)) % 65536) first)
    go ih true q e =
        let i = ih e in
        let c : (next * 8 ^ length bs + octal bs) % 65536 ≡ (sum * 8 ^ suc (length bs) + ((b - 48) * 8 ^ length bs + octal bs)) % 65536
        = carry (sum * 8 + (b - 48)) (8 ^ length bs) (octal bs) ∙ ap (λ (k : ℕ). k % 65536) (shifted sum (b - 48) (length bs) (octal bs)) in
        (both (is_octal b) (are_octal bs) q i.0, i.1 ∙ ap (λ (v : ℕ). settle v first) c)
    go ih false q e = let z : ◌≡◌ {A = ℕ} 0 1 = cc in absurd (omega arith)

none_before : (k y : ℕ) → (0 * k + y) % 65536 ≡ y % 65536
none_before k y = let z : 0 + y ≡ y = omega arith in ap (λ (n : ℕ). (n + y) % 65536) (mul_comm 0 k ∙ mul-zero k) ∙ ap (λ (n : ℕ). n % 65536) z

pub by_places : (s : List ℕ) (m n : ℕ) → read_mode s ≡ Some (record { internal = m }, n)
    → (are_octal (text_in s) ≡ true) × (length (text_in s) ≤ 7) × (m ≡ settle (octal (text_in s) % 65536) (get_or s 0 0))
by_places s m n e =
    let p = read-parts s m n e in
    let first : ℕ = get_or s 0 0 in
    let o = mode-says first 0 0 (text_in s) (settle p.sum first) 0 (omega arith) (ap (mode_of first 0) p.digits) in (
      o.0,
      omega (arith, length-take (text_len s) s, p.few),
      sym p.made ∙ o.1 ∙ ap (λ (v : ℕ). settle v first) (none_before (8 ^ length (text_in s)) (octal (text_in s))),
    )
