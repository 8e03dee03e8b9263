-- The laws of the comparison by words: words that differ stand as the bytes they are made of, and what agrees so far is passed on. Assumes nothing.
use Prim.Native.Nat.{ℕ, zero, suc, ◌+◌, ◌*◌, ◌/◌, ◌%◌, ◌^◌, ◌<◌, ◌≤◌, min}
use mathlib.Core.Path.{◌≡◌, refl, sym, ap, subst, ◌∙◌}
use mathlib.Core.Bool.{Bool}
use mathlib.Core.List.{List, [], ◌∷◌, ◌++◌}
use native.Mathlib.Nat.{pow-suc, suc-mul, mul-le-mul_right}
use native.Mathlib.Decide.{dec_lt}
use native.Mathlib.Omega.{arith}
use lib.ListN.{length, get_or, take, drop, length-drop, take-append-drop}
use lib.Seq.{drop-cons, take-add, take-take, get_or-take}
use Rattle.scan.specs.Word.{word, Bytes, WordOf}
use Rattle.scan.proofs.Word.{part_length}
use Rattle.order.specs.Order.{by_number, opposite, next, name_order}
use Rattle.order.proofs.Laws.{by_lt, by_gt, by-eq, order_flip}
use Rattle.compare.specs.Told.{turned, Within, Ready, Told}
use Rattle.std.specs.declared.cmp.Ordering.{Ordering}
use Rattle.std.specs.declared.cmp.Ordering.TheVariants.{Equal, Greater, Less}

-- ---- bytes turned round

pub turned-small : (k w : ℕ) → turned k w < 256 ^ k
unfolding turned
turned-small zero w = omega arith
turned-small (suc k) w =
    rw (pow-suc 256 k) (omega (arith, turned-small k (w / 256), mul-le-mul_right {m = w % 256} {n = 255} (256 ^ k) (omega arith)))

pub turned_two : (w : ℕ) → w % 256 * 256 + w / 256 % 256 ≡ turned 2 w
unfolding turned
turned_two w = omega arith

pub turned-four : (w : ℕ) → turned 2 w * 65536 + turned 2 (w / 65536) ≡ turned 4 w
unfolding turned
turned-four w = let e : w / 65536 ≡ w / 256 / 256 = omega arith in rw e (omega arith)

pub turned_eight : (w : ℕ) → turned 4 w * 4294967296 + turned 4 (w / 4294967296) ≡ turned 8 w
unfolding turned
turned_eight w = let e : w / 4294967296 ≡ w / 256 / 256 / 256 / 256 = omega arith in rw e (omega arith)

-- a byte more in front
turned_front : (k b : ℕ) (bs : List ℕ) → b < 256 → turned (suc k) (word (b ∷ bs)) ≡ b * 256 ^ k + turned k (word bs)
unfolding turned word
turned_front k b bs h =
    let e : (word bs * 256 + b) % 256 ≡ b = omega arith in
    let f : (word bs * 256 + b) / 256 ≡ word bs = omega arith in
    rw (e, f)

-- the lists that two words are made of stand as the words do, turned round
word_below : (k : ℕ) (bs cs p q : List ℕ) (s t : Bool) → length bs ≡ length cs → length bs ≤ k → Bytes bs → Bytes cs
    → turned k (word bs) < turned k (word cs) → name_order (bs ++ p) s (cs ++ q) t ≡ Less
unfolding Bytes name_order
word_below k [] [] p q s t n l u v h = absurd (omega arith)
word_below k [] (c ∷ cs) p q s t n l u v h = absurd (omega arith)
word_below k (b ∷ bs) [] p q s t n l u v h = absurd (omega arith)
word_below zero (b ∷ bs) (c ∷ cs) p q s t n l u v h = absurd (omega arith)
word_below (suc k) (b ∷ bs) (c ∷ cs) p q s t n l u v h =
    let e = turned_front k b bs u.0 in
    let f = turned_front k c cs v.0 in
    elim (dec_lt b c) [
      | yes g ↦ rw (by_lt {x = b} {y = c} g)
      | no g ↦ elim (dec_lt c b) [
        | yes j ↦ absurd (omega (arith, e, f, turned-small k (word cs), suc-mul c (256 ^ k), mul-le-mul_right {m = suc c} {n = b} (256 ^ k) (omega arith)))
        | no j ↦
            let z : b ≡ c = omega arith in
            let m = ap (λ (x : ℕ). x * 256 ^ k) z in
            rw (by-eq z) (word_below k bs cs p q s t (omega arith) (omega arith) u.1 v.1 (omega (arith, e, f, m)))
      ]
    ]

-- a word, turned round, is made of one list
word-once : (k : ℕ) (bs cs : List ℕ) → length bs ≡ length cs → length bs ≤ k → Bytes bs → Bytes cs → turned k (word bs) ≡ turned k (word cs) → bs ≡ cs
unfolding Bytes
word-once k [] [] n l u v h = refl
word-once k [] (c ∷ cs) n l u v h = absurd (omega arith)
word-once k (b ∷ bs) [] n l u v h = absurd (omega arith)
word-once zero (b ∷ bs) (c ∷ cs) n l u v h = absurd (omega arith)
word-once (suc k) (b ∷ bs) (c ∷ cs) n l u v h =
    let e = turned_front k b bs u.0 in
    let f = turned_front k c cs v.0 in
    elim (dec_lt b c) [
      | yes g ↦ absurd (omega (arith, e, f, turned-small k (word bs), suc-mul b (256 ^ k), mul-le-mul_right {m = suc b} {n = c} (256 ^ k) (omega arith)))
      | no g ↦ elim (dec_lt c b) [
        | yes j ↦ absurd (omega (arith, e, f, turned-small k (word cs), suc-mul c (256 ^ k), mul-le-mul_right {m = suc c} {n = b} (256 ^ k) (omega arith)))
        | no j ↦
            let z : b ≡ c = omega arith in
            let m = ap (λ (x : ℕ). x * 256 ^ k) z in
            let r = word-once k bs cs (omega arith) (omega arith) u.1 v.1 (omega (arith, e, f, m)) in
            cc
      ]
    ]

-- ---- names that agree up to a place

-- what agrees decides nothing
past : (i : ℕ) (a b : List ℕ) (s t : Bool) → i ≤ length a → i ≤ length b → take i a ≡ take i b → name_order a s b t ≡ name_order (drop i a) s (drop i b) t
unfolding name_order
past zero a b s t h k e = refl
past (suc i) [] b s t h k e = absurd (omega arith)
past (suc i) (x ∷ a) [] s t h k e = absurd (omega arith)
past (suc i) (x ∷ a) (y ∷ b) s t h k e =
    let z : x ≡ y = ap (λ (l : List ℕ). get_or l 0 0) e in
    rw (by-eq z) (past i a b s t (omega arith) (omega arith) (ap (λ (l : List ℕ). drop 1 l) e))

-- the next k bytes as words
module _ (a b : List ℕ) (i k u v : ℕ) (r : Ready a b i k) (l : k ≤ 8) (p : WordOf (take k (drop i a)) u) (q : WordOf (take k (drop i b)) v) where
  left-length : length (take k (drop i a)) ≡ k
  left-length = part_length a i k r.0.0

  right-length : length (take k (drop i b)) ≡ k
  right-length = part_length b i k r.0.1

  same-list : turned 8 u ≡ turned 8 v → take k (drop i a) ≡ take k (drop i b)
  same-list e =
      word-once 8 (take k (drop i a)) (take k (drop i b)) (left-length ∙ sym right-length) (omega (arith, left-length)) p.bytes q.bytes
      (ap (turned 8) (sym p.value) ∙ e ∙ ap (turned 8) q.value)

  -- equal words: the names agree past them
  pub words_same : u ≡ v → Told a b (i + k) Equal
  unfolding Told
  words_same e = rw (take-add i k a, take-add i k b, r.1, same-list (ap (turned 8) e))

  -- the lesser word, turned round, is of the name that is below
  word_order : turned 8 u < turned 8 v → (s t : Bool) → name_order a s b t ≡ Less
  word_order h s t =
      let w = word_below 8 (take k (drop i a)) (take k (drop i b)) (drop k (drop i a)) (drop k (drop i b)) s t (left-length ∙ sym right-length)
      (omega (arith, left-length)) p.bytes q.bytes (rw (← p.value, ← q.value) h) in
      past i a b s t (omega (arith, r.0.0)) (omega (arith, r.0.1)) r.1 ∙ (rw (take-append-drop k (drop i a), take-append-drop k (drop i b)) at w)

  pub words_below : {x y : ℕ} → x ≡ turned 8 u → y ≡ turned 8 v → x < y → Told a b (i + k) Less
  unfolding Told
  words_below f g h = word_order (rw (← f, ← g) h)

  -- no other word is the same, turned round
  turned-once : turned 8 u ≡ turned 8 v → u ≡ v
  turned-once e = p.value ∙ ap word (same-list e) ∙ sym q.value

-- the greater word is of the name that is above
pub words_above : (a b : List ℕ) (i k u v : ℕ) → Ready a b i k → k ≤ 8 → WordOf (take k (drop i a)) u → WordOf (take k (drop i b)) v
    → {x y : ℕ} → x ≡ turned 8 u → y ≡ turned 8 v → (u ≡ v → ⊥) → y ≤ x → Told a b (i + k) Greater
unfolding Told
words_above a b i k u v r l p q {x} {y} f g d h s t =
    elim (dec_lt y x) [
      | yes j ↦
          order_flip b t a s
          ∙ ap opposite (word_order b a i k v u ((r.0.1, r.0.0), sym r.1) l q p (rw (← f, ← g) j) t s)
      | no j ↦ absurd (d (turned-once a b i k u v r l p q (omega arith)))
    ]

-- ---- what is told, passed on

module _ (a b : List ℕ) (j : ℕ) {r : Ordering} (t : Told a b j r) where
  pub told_below : (k : ℕ) → r ≡ Less → Told a b k Less
  unfolding Told
  told_below k e = subst (Told a b j) e t

  pub told_above : (k : ℕ) → r ≡ Greater → Told a b k Greater
  unfolding Told
  told_above k e = subst (Told a b j) e t

  pub told_same : r ≡ Equal → take j a ≡ take j b
  unfolding Told
  told_same e = subst (Told a b j) e t

-- names that do not agree in so many bytes are told by these, however many there are
pub told_differ : (a b : List ℕ) (j n : ℕ) (r : Ordering) → Told a b j r → (take j a ≡ take j b → ⊥) → Told a b n r
unfolding Told
told_differ a b j n Less t d = t
told_differ a b j n Equal t d = absurd (d t)
told_differ a b j n Greater t d = t

pub told_at : (a b : List ℕ) (j k : ℕ) (r : Ordering) → j ≡ k → Told a b j r → Told a b k r
told_at a b j k r e t = subst (λ (x : ℕ). Told a b x r) e t

-- the names go on after what agrees, or at a place before
pub ready-after : (a b : List ℕ) (j n i k : ℕ) → take j a ≡ take j b → Within a b n → i ≤ j → i + k ≤ n → Ready a b i k
ready-after a b j n i k e w h l = ((omega (arith, w.0), omega (arith, w.1)), sym (take-take i j a h) ∙ ap (take i) e ∙ take-take i j b h)

pub ready-first : (a b : List ℕ) (n k : ℕ) → Within a b n → k ≤ n → Ready a b 0 k
ready-first a b n k w h = ((omega (arith, w.0), omega (arith, w.1)), refl)

-- ---- byte by byte

module _ (a b : List ℕ) (i : ℕ) (h : i < length a) (k : i < length b) (e : take i a ≡ take i b) where
  by_front : (s t : Bool) → name_order a s b t ≡ name_order (get_or a i 0 ∷ drop (suc i) a) s (get_or b i 0 ∷ drop (suc i) b) t
  by_front s t = past i a b s t (omega arith) (omega arith) e ∙ rw (drop-cons a i 0 h, drop-cons b i 0 k)

  pub byte-below : (n : ℕ) → get_or a i 0 < get_or b i 0 → Told a b n Less
  unfolding Told name_order
  byte-below n l s t = by_front s t ∙ rw (by_lt {x = get_or a i 0} {y = get_or b i 0} l)

  pub byte_above : (n : ℕ) → get_or b i 0 < get_or a i 0 → Told a b n Greater
  unfolding Told name_order
  byte_above n l s t = by_front s t ∙ rw (by_gt {x = get_or a i 0} {y = get_or b i 0} l)

  pub byte_same : (j : ℕ) → j ≡ i + 1 → get_or b i 0 ≤ get_or a i 0 → get_or a i 0 ≤ get_or b i 0 → take j a ≡ take j b
  byte_same j f l m =
      let z : get_or a i 0 ≡ get_or b i 0 = omega arith in
      rw (f, take-add i 1 a, take-add i 1 b, e, drop-cons a i 0 h, drop-cons b i 0 k, z)

-- a byte more that is the same, or is not
pub agree_step : (a b : List ℕ) (i k : ℕ) → i + k < length a → i + k < length b → get_or a (i + k) 0 ≡ get_or b (i + k) 0 → take (i + k) a ≡ take (i + k) b
    → take (i + (k + 1)) a ≡ take (i + (k + 1)) b
agree_step a b i k h l z e = byte_same a b (i + k) h l e (i + (k + 1)) (omega arith) (omega arith) (omega arith)

pub differ_here : (a b : List ℕ) (i k : ℕ) → (get_or a (i + k) 0 ≡ get_or b (i + k) 0 → ⊥) → take (i + (k + 1)) a ≡ take (i + (k + 1)) b → ⊥
differ_here a b i k d e =
    d (sym (get_or-take (i + (k + 1)) a (i + k) 0 (omega arith)) ∙ ap (λ (l : List ℕ). get_or l (i + k) 0) e ∙ get_or-take (i + (k + 1)) b (i + k) 0 (omega arith))

pub differ_on : (a b : List ℕ) (i k : ℕ) → (take (i + k) a ≡ take (i + k) b → ⊥) → take (i + (k + 1)) a ≡ take (i + (k + 1)) b → ⊥
differ_on a b i k d e =
    d (sym (take-take (i + k) (i + (k + 1)) a (omega arith)) ∙ ap (take (i + k)) e ∙ take-take (i + k) (i + (k + 1)) b (omega arith))

-- ---- where one of them ends

at-end : (p q : List ℕ) (s t : Bool) → min (length p) (length q) ≡ 0 → name_order p s q t ≡ by_number (next p s) (next q t)
unfolding name_order
at-end [] [] s t h = refl
at-end [] (y ∷ q) s t h = refl
at-end (x ∷ p) [] s t h = refl
at-end (x ∷ p) (y ∷ q) s t h = absurd (omega arith)

pub by_end : (a b : List ℕ) (n : ℕ) (s t : Bool) → n ≡ min (length a) (length b) → take n a ≡ take n b
    → name_order a s b t ≡ by_number (next (drop n a) s) (next (drop n b) t)
by_end a b n s t h e =
    past n a b s t (omega arith) (omega arith) e
    ∙ at-end (drop n a) (drop n b) s t (omega (arith, length-drop n a, length-drop n b))

-- bytes that agree, as they are told
pub told-from : (a b : List ℕ) (i n : ℕ) → i ≡ n → take i a ≡ take i b → Told a b n Equal
unfolding Told
told-from a b i n h e = subst (λ (x : ℕ). take x a ≡ take x b) h e

-- the order, where the first bytes decide it
module _ (a b : List ℕ) (n : ℕ) (s t : Bool) {r : Ordering} (w : Told a b n r) where
  pub order_below : r ≡ Less → Less ≡ name_order a s b t
  unfolding Told
  order_below e = sym (told_below a b n w n e s t)

  pub order_above : r ≡ Greater → Greater ≡ name_order a s b t
  unfolding Told
  order_above e = sym (told_above a b n w n e s t)
