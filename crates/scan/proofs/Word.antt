-- Laws of words: what the sums and bit operations on a number do to the bytes that it is made of. Assumes nothing.
use Prim.Native.Nat.{ℕ, zero, suc, ◌+◌, ◌-◌, ◌*◌, ◌/◌, ◌%◌, ◌^◌, ◌<◌, ◌≤◌}
use mathlib.Core.Path.{◌≡◌, refl, sym, ap, ◌∙◌}
use mathlib.Core.Bool.{Bool, true, false, ◌&&◌}
use mathlib.Core.List.{List, [], ◌∷◌, ◌++◌}
use mathlib.Core.Logic.{⊎_elim}
use native.Mathlib.Nat.{mul_assoc, pow-suc}
use native.Mathlib.Numerals.{add-one}
use native.Mathlib.Omega.{arith}
use lib.Bits.{bit_and, bit_or, bit_xor, and_block, or_block, xor_block, and_le_l, and_le_r, or_add_and, xor_add_and, or_lt, xor_lt, xor_self}
use lib.Count.{count_trailing_zeros}
use lib.Dec.{eqb, lit<}
use lib.ListN.{length, get_or, take, drop, replicate, length-drop}
use lib.Seq.{drop-cons, drop-drop, take-add, length-take-le}
use borrow.Author.Tests.{eqb-true, eq-eqb, ne_eqb}
use Rattle.std.specs.Int.{w64, from_le_bytes}
use Rattle.ground.specs.Basics.{pick}
use Rattle.ground.proofs.Laws.{and_left, and_right, equal}
use Rattle.scan.specs.Word.{word, Bytes, WordOf, marks_of, zeros, Marked}

-- ---- words out of the bytes of a list

-- so many bytes from a place on
pub part_length : (s : List ℕ) (i k : ℕ) → i + k ≤ length s → length (take k (drop i s)) ≡ k
part_length s i k h = length-take-le k (drop i s) (simp length-drop (omega arith))

front : (s : List ℕ) (i j : ℕ) → i < length s → j ≡ i + 1 → drop i s ≡ get_or s i 0 ∷ drop j s
front s i j h f = drop-cons s i 0 h ∙ rw (f, add-one)

part_eight : (s : List ℕ) (i : ℕ) → i + 8 ≤ length s
    → take 8 (drop i s) ≡ get_or s i 0 ∷ get_or s (i + 1) 0 ∷ get_or s (i + 2) 0 ∷ get_or s (i + 3) 0 ∷ get_or s (i + 4) 0 ∷ get_or s (i + 5) 0 ∷ get_or s (i + 6) 0 ∷ get_or s (i + 7) 0 ∷ []
part_eight s i h =
    rw (
      front s i (i + 1) (omega arith) (omega arith),
      front s (i + 1) (i + 2) (omega arith) (omega arith),
      front s (i + 2) (i + 3) (omega arith) (omega arith),
      front s (i + 3) (i + 4) (omega arith) (omega arith),
      front s (i + 4) (i + 5) (omega arith) (omega arith),
      front s (i + 5) (i + 6) (omega arith) (omega arith),
      front s (i + 6) (i + 7) (omega arith) (omega arith),
      front s (i + 7) (i + 8) (omega arith) (omega arith),
    )

-- eight bytes of a list
pub word_of_eight : (s : List ℕ) (i : ℕ) → i + 8 ≤ length s → ((k : ℕ) → get_or s k 0 < 256)
    → WordOf (take 8 (drop i s)) (from_le_bytes w64 (get_or s i 0 ∷ get_or s (i + 1) 0 ∷ get_or s (i + 2) 0 ∷ get_or s (i + 3) 0 ∷ get_or s (i + 4) 0 ∷ get_or s (i + 5) 0 ∷ get_or s (i + 6) 0 ∷ get_or s (i + 7) 0 ∷ []))
unfolding Bytes word
word_of_eight s i h f =
    rw (part_eight s i h)
    (record {
      bytes = (f i, (f (i + 1), (f (i + 2), (f (i + 3), (f (i + 4), (f (i + 5), (f (i + 6), (f (i + 7), tt))))))));
      value = omega arith;
    })

part-four : (s : List ℕ) (i : ℕ) → i + 4 ≤ length s
    → take 4 (drop i s) ≡ get_or s i 0 ∷ get_or s (i + 1) 0 ∷ get_or s (i + 2) 0 ∷ get_or s (i + 3) 0 ∷ []
part-four s i h =
    rw (
      front s i (i + 1) (omega arith) (omega arith),
      front s (i + 1) (i + 2) (omega arith) (omega arith),
      front s (i + 2) (i + 3) (omega arith) (omega arith),
      front s (i + 3) (i + 4) (omega arith) (omega arith),
    )

pub word-four : (s : List ℕ) (i a b c d : ℕ) → i + 4 ≤ length s
    → a ≡ get_or s i 0 → b ≡ get_or s (i + 1) 0 → c ≡ get_or s (i + 2) 0 → d ≡ get_or s (i + 3) 0
    → a < 256 → b < 256 → c < 256 → d < 256 → WordOf (take 4 (drop i s)) (a + b * 256 + c * 65536 + d * 16777216)
unfolding Bytes word
word-four s i a b c d h ea eb ec ed a< b< c< d< =
    rw (part-four s i h, ← ea, ← eb, ← ec, ← ed) (record { bytes = (a<, (b<, (c<, (d<, tt)))); value = omega arith })

word_append : (bs cs : List ℕ) → word (bs ++ cs) ≡ word bs + word cs * 256 ^ length bs
unfolding word
word_append [] cs = omega arith
word_append (a ∷ bs) cs = rw (pow-suc 256 (length bs)) (omega (arith, word_append bs cs, mul_assoc (word cs) (256 ^ length bs) 256))

bytes_append : (bs cs : List ℕ) → Bytes bs → Bytes cs → Bytes (bs ++ cs)
unfolding Bytes
bytes_append [] cs p q = q
bytes_append (a ∷ bs) cs p q = (p.0, bytes_append bs cs p.1 q)

-- two words of four bytes are one of eight
pub word_eight : (s : List ℕ) (i u v : ℕ) → i + 8 ≤ length s → WordOf (take 4 (drop i s)) u → WordOf (take 4 (drop (i + 4) s)) v
    → WordOf (take 8 (drop i s)) (u + v * 4294967296)
word_eight s i u v h p q =
    let e : take 8 (drop i s) ≡ take 4 (drop i s) ++ take 4 (drop (i + 4) s) = take-add 4 4 (drop i s) ∙ rw (drop-drop 4 i s) in
    let n : length (take 4 (drop i s)) ≡ 4 = part_length s i 4 (omega arith) in
    let w = rw n at (word_append (take 4 (drop i s)) (take 4 (drop (i + 4) s))) in
    rw e (record { bytes = bytes_append _ _ p.bytes q.bytes; value = omega (arith, w, p.value, q.value) })

-- ---- the marks of the bytes that are 0

-- 128 and 1 for each of so many bytes
unfoldable highs : ℕ → ℕ
highs zero = 0
highs (suc n) = highs n * 256 + 128

unfoldable lows : ℕ → ℕ
lows zero = 0
lows (suc n) = lows n * 256 + 1

-- what the code makes of a word, of as many bytes as h and l have
abbrev flags : ℕ → ℕ → ℕ → ℕ
flags w h l = h - bit_and (bit_or (bit_or w h - l) w) h

-- one byte: tried at all 256
tried : ℕ → Bool
tried zero = true
tried (suc n) = eqb (flags n 128 1) (pick (eqb n 0) 128 0) && tried n

tried_at : (n b : ℕ) → tried n ≡ true → b < n → flags b 128 1 ≡ pick (eqb b 0) 128 0
unfolding tried
tried_at zero b t h = absurd (omega arith)
tried_at (suc n) b t h =
    let p = eqb-true (flags n 128 1) (pick (eqb n 0) 128 0) (and_left (eqb (flags n 128 1) (pick (eqb n 0) 128 0)) (tried n) t) in
    ⊎_elim (λ e. rw e p) (λ e. tried_at n b (and_right (eqb (flags n 128 1) (pick (eqb n 0) 128 0)) (tried n) t) (omega arith)) (equal b n)

flag_byte : (b : ℕ) → b < 256 → flags b 128 1 ≡ pick (eqb b 0) 128 0
unfolding tried
flag_byte b h = tried_at 256 b refl h

-- setting bits makes no number smaller
pub or_ge : (a b : ℕ) → b ≤ bit_or a b
or_ge a b = omega (arith, or_add_and a b, and_le_l a b)

lows_le : (n : ℕ) → lows n ≤ highs n
unfolding lows highs
lows_le zero = omega arith
lows_le (suc n) = omega (arith, lows_le n)

-- a byte more in front
flags_more : (W H L b : ℕ) → L ≤ H → b < 256 → flags (W * 256 + b) (H * 256 + 128) (L * 256 + 1) ≡ flags W H L * 256 + flags b 128 1
flags_more W H L b l h =
    let X = bit_or W H in
    let x = bit_or b 128 in
    let xb : x < 256 = or_lt 8 b 128 h (lit< tt) in
    let e1 : bit_or (W * 256 + b) (H * 256 + 128) ≡ X * 256 + x = or_block 8 W H b 128 h (lit< tt) in
    let e2 : bit_or (W * 256 + b) (H * 256 + 128) - (L * 256 + 1) ≡ (X - L) * 256 + (x - 1) = omega (arith, e1, or_ge W H, or_ge b 128) in
    let yb : bit_or (x - 1) b < 256 = or_lt 8 (x - 1) b (omega arith) h in
    let e3 : bit_or ((X - L) * 256 + (x - 1)) (W * 256 + b) ≡ bit_or (X - L) W * 256 + bit_or (x - 1) b = or_block 8 (X - L) W (x - 1) b (omega arith) h in
    let Y = bit_or (X - L) W in
    let y = bit_or (x - 1) b in
    let e4 : bit_and (Y * 256 + y) (H * 256 + 128) ≡ bit_and Y H * 256 + bit_and y 128 = and_block 8 Y H y 128 yb (lit< tt) in
    rw (e2, e3, e4) (omega (arith, and_le_r Y H, and_le_r y 128))

flags_marks : (bs : List ℕ) → Bytes bs → flags (word bs) (highs (length bs)) (lows (length bs)) ≡ word (marks_of 0 bs)
unfolding word Bytes marks_of highs lows
flags_marks [] p = refl
flags_marks (b ∷ bs) p =
    flags_more (word bs) (highs (length bs)) (lows (length bs)) b (lows_le (length bs)) p.0
    ∙ omega (arith, flags_marks bs p.1, flag_byte b p.0)

mark-small : (v : Bool) → pick v 128 0 < 256
mark-small true = omega arith
mark-small false = omega arith

bytes-marks : (x : ℕ) (bs : List ℕ) → Bytes (marks_of x bs)
unfolding Bytes marks_of
bytes-marks x [] = tt
bytes-marks x (b ∷ bs) = (mark-small (eqb b x), bytes-marks x bs)

pub word-marks : (bs : List ℕ) (w : ℕ) → length bs ≡ 8 → WordOf bs w
    → WordOf (marks_of 0 bs) (0x8080808080808080 - bit_and (bit_or (bit_or w 0x8080808080808080 - 0x0101010101010101) w) 0x8080808080808080)
unfolding highs lows
word-marks bs w n p = record { bytes = bytes-marks 0 bs; value = rw p.value (rw n at (flags_marks bs p.bytes)) }

-- ---- where two words differ

-- the bits in which two lists differ, byte by byte
abbrev pub xors : List ℕ → List ℕ → List ℕ
xors [] cs = []
xors (a ∷ bs) [] = []
xors (a ∷ bs) (b ∷ cs) = bit_xor a b ∷ xors bs cs

pub xors_length : (bs cs : List ℕ) → length bs ≡ length cs → length (xors bs cs) ≡ length bs
xors_length [] cs n = refl
xors_length (a ∷ bs) [] n = absurd (omega arith)
xors_length (a ∷ bs) (b ∷ cs) n = ap suc (xors_length bs cs (omega arith))

xors_bytes : (bs cs : List ℕ) → Bytes bs → Bytes cs → Bytes (xors bs cs)
unfolding Bytes
xors_bytes [] cs p q = tt
xors_bytes (a ∷ bs) [] p q = tt
xors_bytes (a ∷ bs) (b ∷ cs) p q = (xor_lt 8 a b p.0 q.0, xors_bytes bs cs p.1 q.1)

xors_word : (bs cs : List ℕ) → length bs ≡ length cs → Bytes bs → Bytes cs → bit_xor (word bs) (word cs) ≡ word (xors bs cs)
unfolding Bytes word
xors_word [] [] n p q = refl
xors_word [] (b ∷ cs) n p q = absurd (omega arith)
xors_word (a ∷ bs) [] n p q = absurd (omega arith)
xors_word (a ∷ bs) (b ∷ cs) n p q =
    xor_block 8 (word bs) (word cs) a b p.0 q.0 ∙ ap (λ (z : ℕ). z * 256 + bit_xor a b) (xors_word bs cs (omega arith) p.1 q.1)

pub word_xors : (bs cs : List ℕ) (u v : ℕ) → length bs ≡ length cs → WordOf bs u → WordOf cs v → WordOf (xors bs cs) (bit_xor u v)
word_xors bs cs u v n p q =
    record { bytes = xors_bytes bs cs p.bytes q.bytes; value = rw (p.value, q.value) (xors_word bs cs n p.bytes q.bytes) }

-- numbers that differ in no bit are the same
pub xor-zero : (a b : ℕ) → bit_xor a b ≡ 0 → a ≡ b
xor-zero a b e = omega (arith, xor_add_and a b, and_le_l a b, and_le_r a b)

-- a byte eight times
bytes_all : (n x : ℕ) → x < 256 → Bytes (replicate n x)
unfolding Bytes
bytes_all zero x h = tt
bytes_all (suc n) x h = (h, bytes_all n x h)

word_all : (x : ℕ) → x < 256 → WordOf (replicate 8 x) (x * 0x0101010101010101)
unfolding word
word_all x h = record { bytes = bytes_all 8 x h; value = omega arith }

mark_xor : (b x : ℕ) → eqb (bit_xor b x) 0 ≡ eqb b x
mark_xor b x = ⊎_elim (λ e. eq-eqb (bit_xor b x) 0 (rw e (xor_self x)) ∙ sym (eq-eqb b x e))
    (λ e. ne_eqb (bit_xor b x) 0 (λ z. e (xor-zero b x z)) ∙ sym (ne_eqb b x e)) (equal b x)

marks_xors : (x : ℕ) (bs : List ℕ) → marks_of 0 (xors bs (replicate (length bs) x)) ≡ marks_of x bs
unfolding marks_of
marks_xors x [] = refl
marks_xors x (b ∷ bs) = rw (mark_xor b x, marks_xors x bs)

pub word-marks_at : (bs : List ℕ) (w x m : ℕ) → length bs ≡ 8 → x < 256 → WordOf bs w
    → Marked (bit_xor w (x * 0x0101010101010101)) m → WordOf (marks_of x bs) m
word-marks_at bs w x m n h p f =
    let k : length bs ≡ length (replicate 8 x) = n in
    let q = f (xors bs (replicate 8 x)) (xors_length bs (replicate 8 x) k ∙ n) (word_xors bs (replicate 8 x) w _ k p (word_all x h)) in
    let e = rw n at (marks_xors x bs) in
    rw e at q

-- ---- the first byte that is not 0

-- the zeros below the lowest set digit, digit by digit
tz_even : (k n : ℕ) → count_trailing_zeros (suc k) (n * 2) ≡ suc (count_trailing_zeros k n)
unfolding count_trailing_zeros
tz_even k n =
    let e : n * 2 % 2 ≡ 0 = omega arith in
    let f : n * 2 / 2 ≡ n = omega arith in
    rw (e, f)

tz_odd : (k n : ℕ) → count_trailing_zeros (suc k) (n * 2 + 1) ≡ 0
unfolding count_trailing_zeros
tz_odd k n = let e : (n * 2 + 1) % 2 ≡ 1 = omega arith in rw e

-- j more than k
abbrev up : ℕ → ℕ → ℕ
up zero k = k
up (suc j) k = suc (up j k)

tz_past : (k n : ℕ) → count_trailing_zeros (up 8 k) (n * 256) ≡ up 8 (count_trailing_zeros k n)
tz_past k n =
    let e : n * 256 ≡ n * 2 * 2 * 2 * 2 * 2 * 2 * 2 * 2 = omega arith in
    rw e (simp tz_even)

-- a digit more, of which it is not asked what it is
tz_half : (j k m n b : ℕ) → m ≡ n * 2 + b → (0 < b / 2 → count_trailing_zeros k (n + b / 2) < j) → 0 < b → count_trailing_zeros (suc k) m < suc j
tz_half j k m n b e r h =
    ⊎_elim
    (λ (z : b % 2 ≡ 0). let f : m ≡ (n + b / 2) * 2 = omega arith in rw f (omega (arith, tz_even k (n + b / 2), r (omega arith))))
    (λ (z : b % 2 ≡ 0 → ⊥). let f : m ≡ (n + b / 2) * 2 + 1 = omega arith in rw f (omega (arith, tz_odd k (n + b / 2))))
    (equal (b % 2) 0)

-- fewer zeros than the digits of a number that is not 0
tz_here : (j k n b : ℕ) → 0 < b → b < 2 ^ j → count_trailing_zeros (up j k) (n * 2 ^ j + b) < j
tz_here zero k n b h l = absurd (omega arith)
tz_here (suc j) k n b h l =
    let p = pow-suc 2 j in
    let e : n * 2 ^ suc j + b ≡ n * 2 ^ j * 2 + b = rw p (omega (arith, mul_assoc n (2 ^ j) 2)) in
    tz_half j (up j k) (n * 2 ^ suc j + b) (n * 2 ^ j) b e (λ q. tz_here j k n (b / 2) q (omega arith)) h

-- the digits of so many bytes
unfoldable digits : ℕ → ℕ
digits zero = 0
digits (suc n) = up 8 (digits n)

first-set : (bs : List ℕ) → Bytes bs → (word bs ≡ 0 → ⊥) → count_trailing_zeros (digits (length bs)) (word bs) / 8 ≡ zeros bs
unfolding Bytes word zeros digits
first-set [] p n = absurd (n refl)
first-set (zero ∷ bs) p n =
    let e : word bs * 256 + 0 ≡ word bs * 256 = omega arith in
    rw e (omega (arith, tz_past (digits (length bs)) (word bs), first-set bs p.1 (λ z. n (omega arith))))
first-set (suc b ∷ bs) p n = omega (arith, tz_here 8 (digits (length bs)) (word bs) (suc b) (omega arith) p.0)

-- the first byte of eight that is not 0
pub word_first : (bs : List ℕ) (m : ℕ) → length bs ≡ 8 → WordOf bs m → (m ≡ 0 → ⊥) → count_trailing_zeros 64 m / 8 ≡ zeros bs
unfolding digits
word_first bs m k p n = rw p.value (rw k at (first-set bs p.bytes (λ z. n (p.value ∙ z))))

-- how far zeros go
word_none : (bs : List ℕ) → word bs ≡ 0 → zeros bs ≡ length bs
unfolding word zeros
word_none [] e = refl
word_none (zero ∷ bs) e = ap suc (word_none bs (omega arith))
word_none (suc b ∷ bs) e = absurd (omega arith)

word_some : (bs : List ℕ) → (word bs ≡ 0 → ⊥) → zeros bs < length bs
unfolding word zeros
word_some [] n = absurd (n refl)
word_some (zero ∷ bs) n = omega (arith, word_some bs (λ z. n (omega arith)))
word_some (suc b ∷ bs) n = omega arith

pub zeros_all : (bs : List ℕ) (m : ℕ) → WordOf bs m → m ≡ 0 → zeros bs ≡ length bs
zeros_all bs m p e = word_none bs (sym p.value ∙ e)

pub zeros-some : (bs : List ℕ) (m : ℕ) → WordOf bs m → (m ≡ 0 → ⊥) → zeros bs < length bs
zeros-some bs m p n = word_some bs (λ z. n (p.value ∙ z))
