-- Decimal digits: how they are stored from the last one, and what they say (theorems `decimal-says`, `decimal-digits`, `decimal-first`, `decimal-most`).
-- Assumes nothing.
use native.Mathlib.Nat.{pow-suc, pow-zero}
use native.Mathlib.Omega.{arith}
use Prim.Native.Nat.{ℕ, zero, suc, ◌+◌, ◌-◌, ◌*◌, ◌/◌, ◌%◌, ◌^◌, ◌≤◌, ◌<◌}
use mathlib.Core.Path.{◌≡◌, refl, ap, sym, ◌∙◌}
use mathlib.Core.Bool.{Bool, true, false, ◌&&◌}
use mathlib.Core.List.{List, [], ◌∷◌, ◌++◌, append-nil}
use lib.Dec.{leb, ltb}
use lib.ListN.{length, get_or, take, drop, set, replicate, length-append, length-set, length-drop, length-replicate, take-append-drop, get_or-append}
use lib.Seq.{drop-cons, append_snoc, get_or-set_same, drop-set-lt, take-set-le, take-take, drop_at}
use borrow.Author.Tests.{le-leb, lt-ltb, le-ltb, ltb-true, ltb-false}
use Rattle.ground.specs.Basics.{pick}
use Rattle.loose_header.specs.Digits.{said_after, are_digits}
use Rattle.loose_header.specs.Header.{digits, decimal, decimal_text}
use Rattle.loose_header.specs.declared.Decimal.{Decimal}

-- ---- one more digit

module _ (k n : ℕ) where
  pub digits_last : n < 10 → digits (suc k) n ≡ (48 + n) ∷ []
  unfolding digits
  digits_last h = simp (lt-ltb n 10 h)

  pub digits_more : 10 ≤ n → digits (suc k) n ≡ digits k (n / 10) ++ (48 + n % 10) ∷ []
  unfolding digits
  digits_more h = simp (le-ltb n 10 h)

-- a number with two digits or more
pub two_digits : (k n : ℕ) → n < 10 ^ k → 10 ≤ n → 1 < k
two_digits zero n p h = absurd (omega (arith, pow-zero 10))
two_digits (suc zero) n p h = absurd (omega (arith, pow-suc 10 0, pow-zero 10))
two_digits (suc (suc k)) n p h = omega arith

-- its tenth part has one digit fewer
tenth_less : (k n : ℕ) → n < 10 ^ suc k → n / 10 < 10 ^ k
tenth_less k n p = let q : 10 ^ suc k ≡ 10 ^ k * 10 = pow-suc 10 k in omega arith

pub tenth_at : (at n : ℕ) → 0 < at → n < 10 ^ at → n / 10 < 10 ^ (at - 1)
tenth_at zero n h p = absurd (omega arith)
tenth_at (suc k) n h p = let z : suc k - 1 ≡ k = omega arith in rw z (tenth_less k n p)

-- ---- digits stored in a text, the last one first

drop-set : (l : List ℕ) (k v : ℕ) → k < length l → drop k (set l k v) ≡ v ∷ drop (suc k) l
drop-set l k v h = rw (drop-cons (set l k v) k 0 (rw (length-set l k v) h), get_or-set_same l k v 0 h, drop-set-lt (suc k) l k v (omega arith))

pub store-start : (n : ℕ) → decimal n ≡ digits 20 n ++ []
unfolding decimal
store-start n = sym (append-nil (digits 20 n))

pub store-more : (text : List ℕ) (at rest : ℕ) → 0 < at → at ≤ length text → 10 ≤ rest
    → digits at rest ++ drop at text ≡ digits (at - 1) (rest / 10) ++ drop (at - 1) (set text (at - 1) (48 + rest % 10))
store-more text zero rest p q h = absurd (omega arith)
store-more text (suc k) rest p q h =
    let z : suc k - 1 ≡ k = omega arith in
    rw (z, drop-set text k (48 + rest % 10) (omega arith), digits_more k rest h) (append_snoc (digits k (rest / 10)) (48 + rest % 10) (drop (suc k) text))

pub store-last : (text : List ℕ) (at rest : ℕ) → 0 < at → at ≤ length text → rest < 10
    → digits at rest ++ drop at text ≡ drop (at - 1) (set text (at - 1) (48 + rest))
store-last text zero rest p q h = absurd (omega arith)
store-last text (suc k) rest p q h =
    let z : suc k - 1 ≡ k = omega arith in
    rw (z, drop-set text k (48 + rest) (omega arith), digits_last k rest h)

-- ---- at most as many as allowed

digits-most : (k n : ℕ) → length (digits k n) ≤ k
unfolding digits
digits-most zero n = omega arith
digits-most (suc k) n = go (ltb n 10) (digits-most k (n / 10))
  where
    go : (v : Bool) → length (digits k (n / 10)) ≤ k → length (pick v ((48 + n) ∷ []) (digits k (n / 10) ++ (48 + n % 10) ∷ [])) ≤ suc k
    go true h = omega arith
    go false h = simp length-append (omega arith)

pub decimal-most : (n : ℕ) → length (decimal n) ≤ 20
unfolding decimal
decimal-most n = digits-most 20 n

-- ---- the whole text: 0 stands before the digits

take-zeros : (k : ℕ) → take k (replicate {A = ℕ} (suc k) 0) ≡ replicate k 0
take-zeros zero = refl
take-zeros (suc k) = ap (λ (l : List ℕ). 0 ∷ l) (take-zeros k)

pub zeros-before : (text : List ℕ) (at v : ℕ) → 0 < at → take at text ≡ replicate at 0 → take (at - 1) (set text (at - 1) v) ≡ replicate (at - 1) 0
zeros-before text zero v h e = absurd (omega arith)
zeros-before text (suc k) v h e =
    let z : suc k - 1 ≡ k = omega arith in
    rw (z, take-set-le k text k v (omega arith)) (sym (take-take k (suc k) text (omega arith)) ∙ rw e (take-zeros k))

pub decimal-text : (text : List ℕ) (at n : ℕ) → length text ≡ 20 → at ≤ 20 → take at text ≡ replicate at 0 → drop at text ≡ decimal n
    → record { text = text; at = at } ≡ decimal_text n
decimal-text text at n q h z e =
    let l : at ≡ 20 - length (decimal n) = rw (← e) (omega (arith, length-drop at text)) in
    let t : text ≡ replicate (20 - length (decimal n)) 0 ++ decimal n = sym (take-append-drop at text) ∙ rw (z, e, l) refl in
    rw (t, l) refl

-- the digits are what stands from that place on
pub decimal-part : (r : Decimal) (n : ℕ) → r ≡ decimal_text n → (r.at ≤ 20) × (length r.text ≡ 20) × (drop r.at r.text ≡ decimal n)
decimal-part r n q =
    let zeros : List ℕ = replicate (20 - length (decimal n)) 0 in
    let l : length zeros ≡ 20 - length (decimal n) = length-replicate {A = ℕ} (20 - length (decimal n)) 0 in
    rw q (omega arith, length-append zeros (decimal n) ∙ omega (arith, l, decimal-most n), drop_at zeros (decimal n) (20 - length (decimal n)) l)

-- ---- what they say

said_append : (n : ℕ) (a b : List ℕ) → said_after n (a ++ b) ≡ said_after (said_after n a) b
unfolding said_after
said_append n [] b = refl
said_append n (d ∷ a) b = said_append (n * 10 + (d - 48)) a b

digits_append : (a b : List ℕ) → are_digits (a ++ b) ≡ (are_digits a && are_digits b)
unfolding are_digits
digits_append [] b = refl
digits_append (d ∷ a) b = go (leb 48 d && leb d 57) (digits_append a b)
  where
    go : (v : Bool) → are_digits (a ++ b) ≡ (are_digits a && are_digits b) → (v && are_digits (a ++ b)) ≡ ((v && are_digits a) && are_digits b)
    go true h = h
    go false h = refl

one-digit : (d : ℕ) → d < 10 → are_digits ((48 + d) ∷ []) ≡ true
unfolding are_digits
one-digit d h = simp (le-leb 48 (48 + d) (omega arith), le-leb (48 + d) 57 (omega arith))

-- for a number that has room: they are digits, they say it, and the first one is 0 only where the number is 0
record Said (n : ℕ) (l : List ℕ) : Type 0 where
  some : 0 < length l
  all : are_digits l ≡ true
  says : said_after 0 l ≡ n
  first : 0 < n → 48 < get_or l 0 0

said-last : (n : ℕ) → n < 10 → Said n ((48 + n) ∷ [])
unfolding said_after
said-last n b = record { some = omega arith; all = one-digit n b; says = omega arith; first = λ z. omega arith }

said_more : (n : ℕ) (l : List ℕ) → 10 ≤ n → Said (n / 10) l → Said n (l ++ (48 + n % 10) ∷ [])
unfolding said_after
said_more n l b s = record {
  some = simp length-append (omega (arith, s.some));
  all = rw (digits_append l ((48 + n % 10) ∷ []), s.all) (one-digit (n % 10) (omega arith));
  says = rw (said_append 0 l ((48 + n % 10) ∷ []), s.says) (omega arith);
  first = λ z. rw (get_or-append l ((48 + n % 10) ∷ []) 0 0 s.some) (s.first (omega arith));
}

digits-said : (k n : ℕ) → n < 10 ^ k → 0 < k → Said n (digits k n)
digits-said zero n p h = absurd (omega arith)
digits-said (suc k) n p h = go (λ f g. digits-said k (n / 10) f g) (ltb n 10) refl
  where
    go : (n / 10 < 10 ^ k → 0 < k → Said (n / 10) (digits k (n / 10))) → (v : Bool) → ltb n 10 ≡ v → Said n (digits (suc k) n)
    go ih true q = let b : n < 10 = ltb-true n 10 q in rw (digits_last k n b) (said-last n b)
    go ih false q =
        let b : 10 ≤ n = ltb-false n 10 q in
        let t : 1 < suc k = two_digits (suc k) n p b in
        rw (digits_more k n b) (said_more n (digits k (n / 10)) b (ih (tenth_less k n p) (omega arith)))

-- the digits of a number below 10 ^ 20, so of any of 64 bits
module _ (n : ℕ) (h : n < 10 ^ 20) where
  decimal-said : Said n (decimal n)
  unfolding decimal
  decimal-said = digits-said 20 n h (omega arith)

  -- each is a digit
  pub decimal-digits : are_digits (decimal n) ≡ true
  decimal-digits = decimal-said.all

  -- they say the number
  pub decimal-says : said_after 0 (decimal n) ≡ n
  decimal-says = decimal-said.says

  -- none stands before the first that counts: the first is not `0` where the number is not 0
  pub decimal-first : 0 < n → 48 < get_or (decimal n) 0 0
  decimal-first = decimal-said.first

-- and 0 is the one digit `0`
pub decimal-zero : decimal 0 ≡ 48 ∷ []
unfolding decimal digits
decimal-zero = refl
