-- Reading a bundle and writing one are inverse: some bytes are read as a bundle of some objects exactly where they are its bytes. Assumes nothing.
use Prim.Native.Nat.{ℕ, zero, suc, ◌+◌, ◌-◌, ◌*◌, ◌<◌, ◌≤◌, ◌/◌, ◌%◌}
use native.Mathlib.Decide.{dec_lt}
use native.Mathlib.Omega.{arith}
use mathlib.Core.Path.{◌≡◌, refl, ap, sym, ◌∙◌}
use mathlib.Core.Bool.{Bool, true, false, false≢true, ◌&&◌, ◌||◌}
use mathlib.Core.List.Memᴰ
use mathlib.Core.List.{List, [], ◌∷◌, ◌++◌, map, append_assoc, Memᴰ}
use mathlib.Core.Logic.{◌⊎◌, inl, inr, ⊎_elim}
use lib.Dec.{eqb, leb}
use lib.ListN.{length, get_or, take, drop, length-append, length-drop, length-take, take-append-drop, drop_of_length-le, get_or-eq_default}
use lib.Seq.{take_at, drop_at, get_or_at, drop-append-add, drop-drop, drop-cons, get_or-drop, get_or-take, length-take-le}
use borrow.Author.Tests.{eq-eqb, eqb-true, le-leb, leb-true}
use Rattle.ground.specs.Basics.{pick, ascii}
use Rattle.ground.specs.Scan.{same_bytes}
use Rattle.ground.specs.Verdict.{most_records, id_length, is_set}
use Rattle.ground.proofs.Laws.{and_left, and_right, same_true, id-is}
use Rattle.frame.specs.Frame.{little, fields_at, by_rules, by_version, head_of, size_of, is_frame, frame_of, frame_at, done, fault, onward, frames, frames_by, frames_in, whole}
use Rattle.frame.specs.Place.{id_in}
use Rattle.frame.specs.declared.Header.{Header}
use Rattle.frame.proofs.Laws.{fields-good, head-one}
use Rattle.bundle.specs.Bundle.{Object, object_of, good, bad, bundle_by, bundle_of}
use Rattle.bundle_grammar.specs.Grammar.{as_little, object_bytes, objects_bytes, Version, first, second, version_bytes, rules_of, begins_at, bundle_bytes, IsObject, IsBundle, AreBytes, Joined}
use Rattle.std.specs.Prelude.{None, Option, Some}

-- ---- numbers

little_of : (n : ℕ) → n < 4294967296 → little (as_little 4 n) ≡ n
unfolding as_little
little_of n p = omega arith

four-long : (n : ℕ) → length (as_little 4 n) ≡ 4
unfolding as_little
four-long n = refl

-- ---- what was written is read

-- an object's bytes with more behind them
abbrev laid : Object → List ℕ → List ℕ
laid o rest = o.id ++ (o.kind ∷ (as_little 4 (length o.bytes) ++ (o.bytes ++ rest)))

object-laid : (o : Object) (rest : List ℕ) → object_bytes o ++ rest ≡ laid o rest
unfolding object_bytes
object-laid o rest = simp append_assoc

make : (o : Object) (i : List ℕ) (k : ℕ) (b : List ℕ) → i ≡ o.id → k ≡ o.kind → b ≡ o.bytes → ◌≡◌ {A = Object} (record { id = i; kind = k; bytes = b }) o
make o i k b p q r =
    ap (λ (x : List ℕ). ◌of x k b) p ∙ ap (λ (x : ℕ). ◌of o.id x b) q ∙ ap (λ (x : List ℕ). ◌of o.id o.kind x) r
  where
    ◌of : List ℕ → ℕ → List ℕ → Object
    ◌of x y z = record { id = x; kind = y; bytes = z }

module _ (h : ℕ) (o : Object) (rest : List ℕ) (g : IsObject h o) where
  laid-kind : get_or (laid o rest) h 0 ≡ o.kind
  laid-kind = get_or_at o.id o.kind (as_little 4 (length o.bytes) ++ (o.bytes ++ rest)) 0 h g.sized

  laid-past : drop (h + 1) (laid o rest) ≡ as_little 4 (length o.bytes) ++ (o.bytes ++ rest)
  laid-past = rw (← g.sized) (drop-append-add o.id (o.kind ∷ (as_little 4 (length o.bytes) ++ (o.bytes ++ rest))) 1)

  laid-size : size_of h (laid o rest) ≡ length o.bytes
  laid-size =
      ap (λ (l : List ℕ). little (take 4 l)) laid-past
      ∙ ap little (take_at (as_little 4 (length o.bytes)) (o.bytes ++ rest) 4 (four-long (length o.bytes)))
      ∙ little_of (length o.bytes) g.short

  laid-rest : drop (h + 5) (laid o rest) ≡ o.bytes ++ rest
  laid-rest =
      let z : h + 5 ≡ h + 1 + 4 = omega arith in
      ap (λ (n : ℕ). drop n (laid o rest)) z ∙ sym (drop-drop 4 (h + 1) (laid o rest)) ∙ ap (drop 4) laid-past
      ∙ drop_at (as_little 4 (length o.bytes)) (o.bytes ++ rest) 4 (four-long (length o.bytes))

  laid-length : length (laid o rest) ≡ h + 5 + length o.bytes + length rest
  laid-length =
      let a = length-append o.id (o.kind ∷ (as_little 4 (length o.bytes) ++ (o.bytes ++ rest))) in
      let b = length-append (as_little 4 (length o.bytes)) (o.bytes ++ rest) in
      let c = length-append o.bytes rest in
      let d = four-long (length o.bytes) in
      let e = g.sized in
      omega arith

  laid-frame : is_frame h (laid o rest) ≡ true
  unfolding is_frame
  laid-frame =
      let l = laid-length in
      let z = laid-size in
      let w : h + 5 + size_of h (laid o rest) ≤ length (laid o rest) = omega arith in
      rw (le-leb (h + 5) (length (laid o rest)) (omega arith), laid-kind, le-leb 1 o.kind g.low, le-leb o.kind 4 g.high, le-leb (h + 5 + size_of h (laid o rest)) (length (laid o rest)) w)

  module _ (s : List ℕ) (at : ℕ) (e : drop at s ≡ laid o rest) where
    read-object : object_of h s (frame_of h at (laid o rest)) ≡ o
    unfolding object_of id_in
    read-object =
        let z = laid-size in
        let n : at + (h + 5 + size_of h (laid o rest)) - (at + (h + 5)) ≡ length o.bytes = omega arith in
        let d : drop (at + (h + 5)) s ≡ o.bytes ++ rest = sym (drop-drop (h + 5) at s) ∙ ap (drop (h + 5)) e ∙ laid-rest in
        make o _ _ _ (ap (take h) e ∙ take_at o.id _ h g.sized) laid-kind
        (ap (λ (k : ℕ). take k (drop (at + (h + 5)) s)) n ∙ ap (take (length o.bytes)) d ∙ take_at o.bytes rest (length o.bytes) refl)

    read_next : drop (at + (h + 5 + size_of h (laid o rest))) s ≡ rest
    read_next =
        let z = laid-size in
        let n : at + (h + 5 + size_of h (laid o rest)) ≡ at + (h + 5 + length o.bytes) = omega arith in
        let d : drop (h + 5 + length o.bytes) (laid o rest) ≡ rest =
        sym (drop-drop (length o.bytes) (h + 5) (laid o rest)) ∙ ap (drop (length o.bytes)) laid-rest ∙ drop_at o.bytes rest (length o.bytes) refl in
        ap (λ (k : ℕ). drop k s) n ∙ sym (drop-drop (h + 5 + length o.bytes) at s) ∙ ap (drop (h + 5 + length o.bytes)) e ∙ d

    read-inside : at ≤ length s → at + (h + 5 + size_of h (laid o rest)) ≤ length s
    read-inside p =
        let a = ap length e in
        let b = length-drop at s in
        let c = laid-length in
        let z = laid-size in
        omega arith

-- objects that were written are read in turn, and nothing is left over
frames-read : (h : ℕ) (s : List ℕ) (at : ℕ) (os : List Object) → at ≤ length s → drop at s ≡ objects_bytes os → ((o : Object) → Memᴰ o os → IsObject h o)
    → (whole (frames h s (length os) at) ≡ true) × (map (object_of h s) (frames_in (frames h s (length os) at)) ≡ os)
unfolding frames onward frame_at whole frames_in objects_bytes
frames-read h s at [] p e each =
    let z : at ≡ length s = omega (arith, ap length e, length-drop at s) in
    let q = eq-eqb at (length s) z in
    (rw q, rw q)
frames-read h s at (o ∷ os) p e each =
    let g = each o (Memᴰ.head refl) in
    let d : drop at s ≡ laid o (objects_bytes os) = e ∙ object-laid o (objects_bytes os) in
    let f = laid-frame h o (objects_bytes os) g in
    let w = frames-read h s (at + (h + 5 + size_of h (laid o (objects_bytes os)))) os (read-inside h o (objects_bytes os) g s at d p) (read_next h o (objects_bytes os) g s at d) (λ x m. each x (Memᴰ.tail m)) in
    let r = read-object h o (objects_bytes os) g s at d in
    (rw (d, f) w.0, rw (d, f) (rw (r, w.1)))

-- what a bundle begins with, and what stands behind it
bundle_front : (v : Version) (h : ℕ) (os : List Object)
    → (begins_at v ≤ length (bundle_bytes v h os)) × (drop (begins_at v) (bundle_bytes v h os) ≡ objects_bytes os)
unfolding bundle_bytes version_bytes as_little
bundle_front first h os = (omega arith, refl)
bundle_front (second rules) h os = (omega arith, refl)

-- the second version's header ends in its fields
head-second : (s : List ℕ) → same_bytes (take 3 s) (ascii "GOB") ≡ true → 2 ≡ little (take 2 (drop 3 s)) → (r : ℕ) → r ≡ little (take 2 (drop 5 s)) → is_set r ≡ true
    → head_of s ≡ fields_at r 7 s
unfolding head_of by_version by_rules
head-second s g w r q t = rw (g, ← w, ← q, t)

set-made : (r : ℕ) → (r ≡ 1) ⊎ (r ≡ 2) → is_set r ≡ true
unfolding is_set
set-made r (inl e) = rw e
set-made r (inr e) = rw e

set_is : (r : ℕ) → is_set r ≡ true → (r ≡ 1) ⊎ (r ≡ 2)
unfolding is_set
set_is r e = go (eqb r 1) refl e
  where
    go : (a : Bool) → eqb r 1 ≡ a → (a || eqb r 2) ≡ true → (r ≡ 1) ⊎ (r ≡ 2)
    go true p e = inl (eqb-true r 1 p)
    go false p e = inr (eqb-true r 2 e)

small : (r : ℕ) → (r ≡ 1) ⊎ (r ≡ 2) → r < 256
small r (inl e) = omega arith
small r (inr e) = omega arith

two_of : (r : ℕ) → r < 256 → r ≡ little (as_little 2 r)
unfolding as_little
two_of r p = omega arith

head_read : (v : Version) (h : ℕ) (os : List Object) → (rules_of v ≡ 1) ⊎ (rules_of v ≡ 2) → (h ≡ 20) ⊎ (h ≡ 32) → length os ≤ most_records
    → head_of (bundle_bytes v h os) ≡ Some (record { h = h; rules = rules_of v; count = length os; from = begins_at v })
unfolding bundle_bytes version_bytes as_little
head_read first h os t i few =
    head-one (bundle_bytes first h os) refl 1 refl refl
    ∙ fields-good 2 5 (bundle_bytes first h os) (bundle_front first h os).0 h (length os) refl (sym (little_of (length os) (omega arith))) i few
head_read (second r) h os t i few =
    head-second (bundle_bytes (second r) h os) refl refl r (two_of r (small r t)) (set-made r t)
    ∙ fields-good r 7 (bundle_bytes (second r) h os) (bundle_front (second r) h os).0 h (length os) refl (sym (little_of (length os) (omega arith))) i few

written_head : (v : Version) (h : ℕ) (os : List Object) (s : List ℕ) → IsBundle v h os s
    → head_of s ≡ Some (record { h = h; rules = rules_of v; count = length os; from = begins_at v })
written_head v h os s b = ap head_of b.laid ∙ head_read v h os b.set b.length_of_ids b.few

written_read : (v : Version) (h : ℕ) (os : List Object) (s : List ℕ) → IsBundle v h os s → bundle_of s ≡ good h os
unfolding bundle_by
written_read v h os s b =
    let head = head_read v h os b.set b.length_of_ids b.few in
    let front = bundle_front v h os in
    let w = frames-read h (bundle_bytes v h os) (begins_at v) os front.0 front.1 b.each in
    ap bundle_of b.laid ∙ rw head (rw (w.0, w.1))

-- ---- what is read was written

-- bytes from a place on, and the first of some bytes, are bytes
drop-bytes : (m : ℕ) (s : List ℕ) → AreBytes s → AreBytes (drop m s)
drop-bytes m s y i = rw (get_or-drop m s i 0) (y (m + i))

take-bytes : (m : ℕ) (s : List ℕ) → AreBytes s → AreBytes (take m s)
take-bytes m s y i =
    elim (dec_lt i m) [
      | yes p ↦ rw (get_or-take m s i 0 p) (y i)
      | no p ↦ rw (get_or-eq_default (take m s) 0 {n = i} (omega (arith, length-take m s))) (omega arith)
    ]

byte-first : (k a m : ℕ) → a < 256 → as_little (suc k) (a + 256 * m) ≡ a ∷ as_little k m
unfolding as_little
byte-first k a m p =
    let r : (a + 256 * m) % 256 ≡ a = omega arith in
    let q : (a + 256 * m) / 256 ≡ m = omega arith in
    rw (r, q)

-- four bytes are their number, written
as_four : (l : List ℕ) → length l ≡ 4 → AreBytes l → (as_little 4 (little l) ≡ l) × (little l < 4294967296)
unfolding as_little
as_four [] e y = absurd (omega arith)
as_four (a ∷ []) e y = absurd (omega arith)
as_four (a ∷ b ∷ []) e y = absurd (omega arith)
as_four (a ∷ b ∷ c ∷ []) e y = absurd (omega arith)
as_four (a ∷ b ∷ c ∷ d ∷ []) e y =
    let ya : a < 256 = y 0 in
    let yb : b < 256 = y 1 in
    let yc : c < 256 = y 2 in
    let yd : d < 256 = y 3 in (
      byte-first 3 a _ ya ∙ ap (λ (r : List ℕ). a ∷ r) (byte-first 2 b _ yb ∙ ap (λ (r : List ℕ). b ∷ r)
          (byte-first 1 c _ yc ∙ ap (λ (r : List ℕ). c ∷ r) (byte-first 0 d 0 yd))),
      omega arith,
    )
as_four (a ∷ b ∷ c ∷ d ∷ x ∷ r) e y = absurd (omega arith)

join : {a c b d : List ℕ} → a ≡ c → b ≡ d → a ++ b ≡ c ++ d
join p q = cc

module _ (h at : ℕ) (s : List ℕ) (t : is_frame h (drop at s) ≡ true) (y : AreBytes s) where
  fits : (h + 5 ≤ length (drop at s)) × (1 ≤ get_or (drop at s) h 0) × (get_or (drop at s) h 0 ≤ 4) × (h + 5 + size_of h (drop at s) ≤ length (drop at s))
  unfolding is_frame
  fits =
      let a = and_right (leb (h + 5) (length (drop at s))) _ t in
      let b = and_right (leb 1 (get_or (drop at s) h 0)) _ a in (
        leb-true _ _ (and_left (leb (h + 5) (length (drop at s))) _ t),
        leb-true _ _ (and_left (leb 1 (get_or (drop at s) h 0)) _ a),
        leb-true _ _ (and_left (leb (get_or (drop at s) h 0) 4) _ b),
        leb-true _ _ (and_right (leb (get_or (drop at s) h 0) 4) _ b),
      )

  four_back : (as_little 4 (size_of h (drop at s)) ≡ take 4 (drop (h + 1) (drop at s))) × (size_of h (drop at s) < 4294967296)
  four_back =
      let f = fits in
      as_four (take 4 (drop (h + 1) (drop at s)))
      (length-take-le 4 (drop (h + 1) (drop at s)) (omega (arith, length-drop (h + 1) (drop at s))))
      (take-bytes 4 (drop (h + 1) (drop at s)) (drop-bytes (h + 1) (drop at s) (drop-bytes at s y)))

  bytes_back : (object_of h s (frame_of h at (drop at s))).bytes ≡ take (size_of h (drop at s)) (drop (h + 5) (drop at s))
  unfolding object_of
  bytes_back =
      let n : at + (h + 5 + size_of h (drop at s)) - (at + (h + 5)) ≡ size_of h (drop at s) = omega arith in
      ap (λ (k : ℕ). take k (drop (at + (h + 5)) s)) n ∙ ap (take (size_of h (drop at s))) (sym (drop-drop (h + 5) at s))

  length_back : length (object_of h s (frame_of h at (drop at s))).bytes ≡ size_of h (drop at s)
  length_back =
      let f = fits in
      ap length bytes_back ∙ length-take-le (size_of h (drop at s)) (drop (h + 5) (drop at s)) (omega (arith, length-drop (h + 5) (drop at s)))

  object_back : IsObject h (object_of h s (frame_of h at (drop at s)))
  unfolding object_of id_in
  object_back =
      let f = fits in
      record { sized = length-take-le h (drop at s) (omega arith); low = f.1; high = f.2; short = rw length_back four_back.1 }

  laid_back : drop at s ≡ laid (object_of h s (frame_of h at (drop at s))) (drop (at + (h + 5 + size_of h (drop at s))) s)
  unfolding object_of id_in
  laid_back =
      let f = fits in
      let rest : drop (size_of h (drop at s)) (drop (h + 5) (drop at s)) ≡ drop (at + (h + 5 + size_of h (drop at s))) s =
      drop-drop (size_of h (drop at s)) (h + 5) (drop at s) ∙ drop-drop (h + 5 + size_of h (drop at s)) at s in
      let e3 = sym (take-append-drop (size_of h (drop at s)) (drop (h + 5) (drop at s))) ∙ join (sym bytes_back) rest in
      let z : h + 1 + 4 ≡ h + 5 = omega arith in
      let e2 = sym (take-append-drop 4 (drop (h + 1) (drop at s)))
      ∙ join (sym four_back.0 ∙ ap (as_little 4) (sym length_back)) (drop-drop 4 (h + 1) (drop at s) ∙ ap (λ (k : ℕ). drop k (drop at s)) z ∙ e3) in
      let one : suc h ≡ h + 1 = omega arith in
      let e1 = drop-cons (drop at s) h 0 (omega arith) ∙ ap (λ (l : List ℕ). get_or (drop at s) h 0 ∷ l) (ap (λ (k : ℕ). drop k (drop at s)) one ∙ e2) in
      sym (take-append-drop h (drop at s)) ∙ join {a = take h (drop at s)} refl e1

-- objects that were read in turn, with nothing left over, are what was written from there on
record Back (h : ℕ) (s : List ℕ) (at n : ℕ) (os : List Object) : Type 0 where
  same : drop at s ≡ objects_bytes os
  many : length os ≡ n
  each : (o : Object) → Memᴰ o os → IsObject h o

frames_back : (h : ℕ) (s : List ℕ) (n at : ℕ) → AreBytes s → whole (frames h s n at) ≡ true → Back h s at n (map (object_of h s) (frames_in (frames h s n at)))
unfolding frames onward frame_at whole frames_in objects_bytes
frames_back h s zero at y w = go (eqb at (length s)) refl w
  where
    go : (v : Bool) → eqb at (length s) ≡ v → whole (pick v done fault) ≡ true → Back h s at 0 (map (object_of h s) (frames_in (pick v done fault)))
    go true p w = record { same = drop_of_length-le s {i = at} (omega (arith, eqb-true at (length s) p)); many = refl; each = λ o m. absurd (Memᴰ.not-nil m) }
    go false p w = absurd (false≢true w)
frames_back h s (suc n) at y w = go (λ (b : ℕ) q. frames_back h s n b y q) (is_frame h (drop at s)) refl w
  where
    go : ((b : ℕ) → whole (frames h s n b) ≡ true → Back h s b n (map (object_of h s) (frames_in (frames h s n b)))) → (v : Bool) → is_frame h (drop at s) ≡ v
        → whole (onward (frames h s n) (pick v (Some (frame_of h at (drop at s))) None)) ≡ true
        → Back h s at (suc n) (map (object_of h s) (frames_in (onward (frames h s n) (pick v (Some (frame_of h at (drop at s))) None))))
    go ih true p w =
        let r = ih (at + (h + 5 + size_of h (drop at s))) w in
        let o : Object = object_of h s (frame_of h at (drop at s)) in
        record {
          same = laid_back h at s p y ∙ sym (object-laid o (drop (at + (h + 5 + size_of h (drop at s))) s)) ∙ join {a = object_bytes o} refl r.same;
          many = ap suc r.many;
          each = λ x m. ⊎_elim (λ (q : x ≡ o). rw q (object_back h at s p y)) (λ k. r.each x k) (Memᴰ.cases_cons m);
        }
    go ih false p w = absurd (false≢true w)

-- ---- the header that was read

-- two bytes are their number, written
as_two : (l : List ℕ) → length l ≡ 2 → AreBytes l → as_little 2 (little l) ≡ l
unfolding as_little
as_two [] e y = absurd (omega arith)
as_two (a ∷ []) e y = absurd (omega arith)
as_two (a ∷ b ∷ []) e y =
    let ya : a < 256 = y 0 in
    let yb : b < 256 = y 1 in
    byte-first 1 a _ ya ∙ ap (λ (r : List ℕ). a ∷ r) (byte-first 0 b 0 yb)
as_two (a ∷ b ∷ c ∷ r) e y = absurd (omega arith)

-- what its fields say, and that they are written so
record Fields (rules at : ℕ) (s : List ℕ) (k : Header) : Type 0 where
  long : at + 5 ≤ length s
  same_rules : k.rules ≡ rules
  length_of_ids : (k.h ≡ 20) ⊎ (k.h ≡ 32)
  few : k.count ≤ most_records
  begins : k.from ≡ at + 5
  laid : drop at s ≡ k.h ∷ (as_little 4 k.count ++ drop (at + 5) s)

fields_back : (rules at : ℕ) (s : List ℕ) (k : Header) → AreBytes s → fields_at rules at s ≡ Some k → Fields rules at s k
unfolding fields_at
fields_back rules at s k y e = go (leb (at + 5) (length s) && (id_length (get_or s at 0) && leb (little (take 4 (drop (at + 1) s))) most_records)) refl e
  where
    go : (v : Bool) → (leb (at + 5) (length s) && (id_length (get_or s at 0) && leb (little (take 4 (drop (at + 1) s))) most_records)) ≡ v
        → pick v (Some (record { h = get_or s at 0; rules = rules; count = little (take 4 (drop (at + 1) s)); from = at + 5 })) None ≡ Some k → Fields rules at s k
    go true p e =
        let r : ◌≡◌ {A = Header} (record { h = get_or s at 0; rules = rules; count = little (take 4 (drop (at + 1) s)); from = at + 5 }) k = cc in
        let l = leb-true (at + 5) (length s) (and_left (leb (at + 5) (length s)) _ p) in
        let a = and_right (leb (at + 5) (length s)) _ p in
        let i = and_left (id_length (get_or s at 0)) (leb (little (take 4 (drop (at + 1) s))) most_records) a in
        let n = leb-true (little (take 4 (drop (at + 1) s))) most_records (and_right (id_length (get_or s at 0)) _ a) in
        let eh : get_or s at 0 ≡ k.h = ap (λ (x : Header). x.h) r in
        let ec : little (take 4 (drop (at + 1) s)) ≡ k.count = ap (λ (x : Header). x.count) r in
        let count = as_four (take 4 (drop (at + 1) s)) (length-take-le 4 (drop (at + 1) s) (omega (arith, length-drop (at + 1) s)))
        (take-bytes 4 (drop (at + 1) s) (drop-bytes (at + 1) s y)) in
        let z : at + 1 + 4 ≡ at + 5 = omega arith in
        let e2 = sym (take-append-drop 4 (drop (at + 1) s))
        ∙ join (sym count.0 ∙ ap (as_little 4) ec) (drop-drop 4 (at + 1) s ∙ ap (λ (j : ℕ). drop j s) z) in
        let one : suc at ≡ at + 1 = omega arith in
        record {
          long = l;
          same_rules = sym (ap (λ (x : Header). x.rules) r);
          length_of_ids = id-is k.h (rw eh at i);
          few = omega arith;
          begins = sym (ap (λ (x : Header). x.from) r);
          laid = drop-cons s at 0 (omega arith) ∙ join {a = get_or s at 0 ∷ []} (ap (λ (x : ℕ). x ∷ []) eh) (ap (λ (j : ℕ). drop j s) one ∙ e2);
        }
    go false p e = let z : ◌≡◌ {A = ℕ} 0 1 = cc in absurd (omega arith)

-- the whole header, by its version
record Headed (v : Version) (s : List ℕ) (k : Header) : Type 0 where
  set : (rules_of v ≡ 1) ⊎ (rules_of v ≡ 2)
  length_of_ids : (k.h ≡ 20) ⊎ (k.h ≡ 32)
  few : k.count ≤ most_records
  laid : s ≡ ascii "GOB" ++ (version_bytes v ++ (k.h ∷ (as_little 4 k.count ++ drop k.from s)))

module _ (s : List ℕ) (k : Header) (y : AreBytes s) (g : same_bytes (take 3 s) (ascii "GOB") ≡ true) where
  mark_back : s ≡ ascii "GOB" ++ drop 3 s
  mark_back = sym (take-append-drop 3 s) ∙ join (same_true (take 3 s) (ascii "GOB") g) refl

  two_back : (i n : ℕ) → i + 2 ≤ length s → little (take 2 (drop i s)) ≡ n → drop i s ≡ as_little 2 n ++ drop (i + 2) s
  two_back i n p e =
      sym (take-append-drop 2 (drop i s))
      ∙ join (sym (as_two (take 2 (drop i s)) (length-take-le 2 (drop i s) (omega (arith, length-drop i s))) (take-bytes 2 (drop i s) (drop-bytes i s y))) ∙ ap (as_little 2) e)
      (drop-drop 2 i s)

  headed_first : little (take 2 (drop 3 s)) ≡ 1 → fields_at 2 5 s ≡ Some k → Headed first s k
  unfolding version_bytes
  headed_first w e =
      let f = fields_back 2 5 s k y e in
      let l = f.long in
      record {
        set = inr refl;
        length_of_ids = f.length_of_ids;
        few = f.few;
        laid = mark_back ∙ join {a = ascii "GOB"} refl (two_back 3 1 (omega arith) w ∙ join {a = as_little 2 1} refl (f.laid
            ∙ ap (λ (j : ℕ). k.h ∷ (as_little 4 k.count ++ drop j s)) (sym f.begins)));
      }

  headed_second : little (take 2 (drop 3 s)) ≡ 2 → is_set (little (take 2 (drop 5 s))) ≡ true → fields_at (little (take 2 (drop 5 s))) 7 s ≡ Some k
      → Headed (second (little (take 2 (drop 5 s)))) s k
  unfolding version_bytes
  headed_second w t e =
      let r : ℕ = little (take 2 (drop 5 s)) in
      let f = fields_back r 7 s k y e in
      let l = f.long in
      record {
        set = set_is r t;
        length_of_ids = f.length_of_ids;
        few = f.few;
        laid = mark_back
            ∙ join {a = ascii "GOB"} refl (two_back 3 2 (omega arith) w ∙ join {a = as_little 2 2} refl (two_back 5 r (omega arith) refl
            ∙ join {a = as_little 2 r} refl (f.laid ∙ ap (λ (j : ℕ). k.h ∷ (as_little 4 k.count ++ drop j s)) (sym f.begins)))
            ∙ sym (append_assoc (as_little 2 2) (as_little 2 r) _));
      }

head_back : (s : List ℕ) (k : Header) → AreBytes s → head_of s ≡ Some k → (v : Version) × Headed v s k
unfolding head_of by_version by_rules
head_back s k y e =
    go (same_bytes (take 3 s) (ascii "GOB")) refl (eqb (little (take 2 (drop 3 s))) 1) refl (eqb (little (take 2 (drop 3 s))) 2) refl (is_set (little (take 2 (drop 5 s)))) refl e
  where
    none : None ≡ Some k → (v : Version) × Headed v s k
    none e = let z : ◌≡◌ {A = ℕ} 0 1 = cc in absurd (omega arith)

    go : (a : Bool) → same_bytes (take 3 s) (ascii "GOB") ≡ a → (b : Bool) → eqb (little (take 2 (drop 3 s))) 1 ≡ b → (c : Bool) → eqb (little (take 2 (drop 3 s))) 2 ≡ c
        → (d : Bool) → is_set (little (take 2 (drop 5 s))) ≡ d
        → pick a (pick b (fields_at 2 5 s) (pick c (pick d (fields_at (little (take 2 (drop 5 s))) 7 s) None) None)) None ≡ Some k → (v : Version) × Headed v s k
    go true g true p c q d r e = (first, headed_first s k y g (eqb-true (little (take 2 (drop 3 s))) 1 p) e)
    go true g false p true q true r e = (second (little (take 2 (drop 5 s))), headed_second s k y g (eqb-true (little (take 2 (drop 3 s))) 2 q) r e)
    go true g false p true q false r e = none e
    go true g false p false q d r e = none e
    go false g b p c q d r e = none e

-- ---- the whole

made_back : (s : List ℕ) (k : Header) (v : Version) → Headed v s k → (os : List Object) → Back k.h s k.from k.count os → IsBundle v k.h os s
unfolding bundle_bytes
made_back s k v w os b =
    let n = b.many in
    let f = w.few in
    record {
      set = w.set;
      length_of_ids = w.length_of_ids;
      few = omega arith;
      each = b.each;
      laid = w.laid
          ∙ ap (λ (r : List ℕ). ascii "GOB" ++ (version_bytes v ++ (k.h ∷ r))) (join (ap (as_little 4) (sym b.many)) b.same);
    }

read_written : (h : ℕ) (os : List Object) (s : List ℕ) → AreBytes s → bundle_of s ≡ good h os → (v : Version) × IsBundle v h os s
unfolding bundle_by
read_written h os s y e = go (head_of s) refl e
  where
    all : (k : Header) → head_of s ≡ Some k → (v : Bool) → whole (frames_by s k) ≡ v
        → pick v (good k.h (map (object_of k.h s) (frames_in (frames_by s k)))) bad ≡ good h os → (v : Version) × IsBundle v h os s
    all k p true w e =
        let b = frames_back k.h s k.count k.from y w in
        let eh : k.h ≡ h = cc in
        let eo : map (object_of k.h s) (frames_in (frames_by s k)) ≡ os = cc in
        let d = head_back s k y p in
        (d.0, rw (← eh, ← eo) (made_back s k d.0 d.1 (map (object_of k.h s) (frames_in (frames_by s k))) b))
    all k p false w e = let z : ◌≡◌ {A = ℕ} 0 1 = cc in absurd (omega arith)

    go : (d : Option Header) → head_of s ≡ d → bundle_by s d ≡ good h os → (v : Version) × IsBundle v h os s
    go (Some k) p e = all k p (whole (frames_by s k)) refl e
    go None p e = let z : ◌≡◌ {A = ℕ} 0 1 = cc in absurd (omega arith)

pub joined : Joined
joined = record { written_read = written_read; written_head = written_head; read_written = read_written }
