-- The test accepts exactly the values of the actor form. Assumes nothing.
use Prim.Native.Nat.{ℕ, zero, suc, ◌+◌, ◌-◌, ◌<◌, ◌≤◌}
use mathlib.Core.Path.{◌≡◌, refl, ap, sym, ◌∙◌}
use mathlib.Core.Bool.{Bool, true, false, false≢true, ◌&&◌, ◌||◌, not}
use mathlib.Core.List.{List, [], ◌∷◌, ◌++◌}
use mathlib.Core.Logic.{◌⊎◌, inl, inr, ◌↔◌}
use native.Mathlib.Nat.{lt_of_not-le}
use native.Mathlib.Omega.{arith}
use lib.ListN.{length, get_or, take, drop, length-append, length-take, get_or-eq_default, drop_of_length-le}
use native.Mathlib.Numerals.{add-one}
use lib.Seq.{append_snoc, drop-cons, split_at, take-append_seam, drop-append-add, get_or-append-add, get_or-append_seam}
use lib.Dec.{eqb, ltb, leb}
use borrow.Author.Tests.{eqb-true, eqb-false, ltb-true, leb-true, not-true, ne_eqb, le-leb}
use Rattle.ground.specs.Scan.{count_to, free_of}
use Rattle.ground.proofs.Laws.{and_left, and_right, count-is, count_free}
use Rattle.actor.specs.Actor.{Class, Digit, Name, Address, in_class, all_of, is_name, is_named, is_sign, two_digits, is_zone, is_time, is_addressed, is_actor}
use Rattle.actor.specs.Form.{Plain, NameForm, AddressForm, TimeForm, ZoneForm, ActorForm}
use Rattle.actor.proofs.Laws.{name-is, named_is, zone-length, zone-is, time-is, time_end, address_is, address_end, actor_is, actor_end}

-- ---- classes of bytes

-- two lists free of a byte are free of it together
pub free_both : (x : ℕ) (a b : List ℕ) → free_of x a ≡ true → free_of x b ≡ true → free_of x (a ++ b) ≡ true
free_both x [] b e f = f
free_both x (y ∷ a) b e f =
    rw (and_left (not (eqb y x)) (free_of x a) e) (free_both x a b (and_right (not (eqb y x)) (free_of x a) e) f)

-- bytes of a class are free of each byte outside it
class_free : (k : Class) (x : ℕ) → in_class k x ≡ false → (s : List ℕ) → all_of k s ≡ true → free_of x s ≡ true
class_free k x n [] e = refl
class_free k x n (b ∷ bs) e = go (eqb b x) refl (class_free k x n bs (and_right (in_class k b) (all_of k bs) e))
  where
    go : (t : Bool) → eqb b x ≡ t → free_of x bs ≡ true → (not t && free_of x bs) ≡ true
    go true q ih = absurd (false≢true (sym n ∙ sym (ap (in_class k) (eqb-true b x q)) ∙ and_left (in_class k b) (all_of k bs) e))
    go false q ih = ih

plain-name : (s : List ℕ) → Plain s → all_of Name s ≡ true
unfolding in_class
plain-name [] p = refl
plain-name (b ∷ bs) p =
    rw (
      and_left (not (eqb b 60)) (free_of 60 bs) p.no_left,
      and_left (not (eqb b 62)) (free_of 62 bs) p.no_right,
      and_left (not (eqb b 0)) (free_of 0 bs) p.no_nul,
      and_left (not (eqb b 10)) (free_of 10 bs) p.no_lf,
    )
    (plain-name bs
    record {
      no_left = and_right (not (eqb b 60)) _ p.no_left;
      no_right = and_right (not (eqb b 62)) _ p.no_right;
      no_nul = and_right (not (eqb b 0)) _ p.no_nul;
      no_lf = and_right (not (eqb b 10)) _ p.no_lf;
    })

name-address : (s : List ℕ) → all_of Name s ≡ true → free_of 32 s ≡ true → all_of Address s ≡ true
unfolding in_class
name-address [] e f = refl
name-address (b ∷ bs) e f =
    rw (and_left (not (eqb b 32)) (free_of 32 bs) f, and_left (in_class Name b) (all_of Name bs) e)
    (name-address bs (and_right (in_class Name b) (all_of Name bs) e) (and_right (not (eqb b 32)) (free_of 32 bs) f))

class_plain : (k : Class) → in_class k 60 ≡ false → in_class k 62 ≡ false → in_class k 0 ≡ false → in_class k 10 ≡ false
    → (s : List ℕ) → all_of k s ≡ true → Plain s
class_plain k a b c d s e =
    record { no_left = class_free k 60 a s e; no_right = class_free k 62 b s e; no_nul = class_free k 0 c s e; no_lf = class_free k 10 d s e }

digit-is : (b : ℕ) → in_class Digit b ≡ true → (48 ≤ b) × (b ≤ 57)
unfolding in_class
digit-is b e = (leb-true 48 b (and_left (leb 48 b) (leb b 57) e), leb-true b 57 (and_right (leb 48 b) (leb b 57) e))

digit_made : (b : ℕ) → 48 ≤ b → b ≤ 57 → in_class Digit b ≡ true
unfolding in_class
digit_made b p q = rw (le-leb 48 b p, le-leb b 57 q)

digits_are : (s : List ℕ) → all_of Digit s ≡ true → (i : ℕ) → i < length s → (48 ≤ get_or s i 0) × (get_or s i 0 ≤ 57)
digits_are [] e i p = absurd (omega arith)
digits_are (b ∷ bs) e zero p = digit-is b (and_left (in_class Digit b) (all_of Digit bs) e)
digits_are (b ∷ bs) e (suc i) p = digits_are bs (and_right (in_class Digit b) (all_of Digit bs) e) i (omega arith)

digits-made : (s : List ℕ) → ((i : ℕ) → i < length s → (48 ≤ get_or s i 0) × (get_or s i 0 ≤ 57)) → all_of Digit s ≡ true
digits-made [] f = refl
digits-made (b ∷ bs) f =
    let z = f 0 (omega arith) in
    rw (digit_made b z.0 z.1) (digits-made bs (λ i p. f (suc i) (omega arith)))

-- ---- the parts, from the test to the form

name-form : (m : List ℕ) → is_name m ≡ true → NameForm m
unfolding is_name in_class
name-form m e =
    let a = ltb 0 (length m) in
    let b = not (eqb (get_or m 0 0) 32) in
    let c = not (eqb (get_or m (length m - 1) 0) 32) in
    let abc = and_left (a && b && c) (all_of Name m) e in
    let ab = and_left (a && b) c abc in
    record {
      some = ltb-true 0 (length m) (and_left a b ab);
      plain = class_plain Name refl refl refl refl m (and_right (a && b && c) (all_of Name m) e);
      first = eqb-false (get_or m 0 0) 32 (not-true _ (and_right a b ab));
      last = eqb-false (get_or m (length m - 1) 0) 32 (not-true _ (and_right (a && b) c abc));
    }

-- a name and one space: the name is all but the last byte
module _ (p : List ℕ) (e : is_named p ≡ true) where
  named-space : get_or p (length p - 1) 0 ≡ 32
  unfolding is_named
  named-space = eqb-true _ _ (and_left (eqb (get_or p (length p - 1) 0) 32) (is_name (take (length p - 1) p)) e)

  named-form : NameForm (take (length p - 1) p)
  named-form = name-form _ (sym (named_is p named-space) ∙ e)

  named_some : 0 < length p
  named_some = lt_of_not-le (λ k. let z : ◌≡◌ {A = ℕ} 0 32 = sym (get_or-eq_default p 0 (omega arith)) ∙ named-space in omega arith)

  named-whole : p ≡ take (length p - 1) p ++ 32 ∷ []
  named-whole =
      let n = length p - 1 in
      let w = split_at p n 0 (omega (arith, named_some)) in
      rw (named-space, drop_of_length-le p {i = suc n} (omega (arith, named_some))) at w

not-zone : (z : List ℕ) → (length z ≡ 5 → ⊥) → is_zone z ≡ true → ZoneForm z
not-zone z n e = absurd (false≢true (sym (zone-length z n) ∙ e))

sign-is : (b : ℕ) → is_sign b ≡ true → (b ≡ 43) ⊎ (b ≡ 45)
sign-is b e = go (eqb b 43) refl e
  where
    go : (t : Bool) → eqb b 43 ≡ t → (t || eqb b 45) ≡ true → (b ≡ 43) ⊎ (b ≡ 45)
    go true q e = inl (eqb-true b 43 q)
    go false q e = inr (eqb-true b 45 e)

zone-form : (z : List ℕ) → is_zone z ≡ true → ZoneForm z
unfolding is_zone
zone-form [] e = not-zone [] (λ q. omega arith) e
zone-form (s ∷ []) e = not-zone (s ∷ []) (λ q. omega arith) e
zone-form (s ∷ a ∷ []) e = not-zone (s ∷ a ∷ []) (λ q. omega arith) e
zone-form (s ∷ a ∷ b ∷ []) e = not-zone (s ∷ a ∷ b ∷ []) (λ q. omega arith) e
zone-form (s ∷ a ∷ b ∷ c ∷ []) e = not-zone (s ∷ a ∷ b ∷ c ∷ []) (λ q. omega arith) e
zone-form (s ∷ a ∷ b ∷ c ∷ d ∷ f ∷ z) e = not-zone (s ∷ a ∷ b ∷ c ∷ d ∷ f ∷ z) (λ q. omega arith) e
zone-form (s ∷ a ∷ b ∷ c ∷ d ∷ []) e =
    let n = eqb 5 5 in
    let g = is_sign s in
    let t = all_of Digit (a ∷ b ∷ c ∷ d ∷ []) in
    let hours = leb (two_digits a b) 14 in
    let minutes = leb (two_digits c d) 59 in
    let e1 = and_left (n && g && t && hours) minutes e in
    let e2 = and_left (n && g && t) hours e1 in
    let e3 = and_left (n && g) t e2 in
    let k = digits_are (a ∷ b ∷ c ∷ d ∷ []) (and_right (n && g) t e2) in
    let ka = k 0 (omega arith) in
    let kb = k 1 (omega arith) in
    let kc = k 2 (omega arith) in
    let kd = k 3 (omega arith) in
    let wa : 48 + (a - 48) ≡ a = omega arith in
    let wb : 48 + (b - 48) ≡ b = omega arith in
    let wc : 48 + (c - 48) ≡ c = omega arith in
    let wd : 48 + (d - 48) ≡ d = omega arith in
    record {
      sign = s;
      a = a - 48;
      b = b - 48;
      c = c - 48;
      d = d - 48;
      whole = cc;
      signs = sign-is s (and_right n g e3);
      digits = (omega arith, omega arith, omega arith, omega arith);
      hours = leb-true (two_digits a b) 14 (and_right (n && g && t) hours e1);
      minutes = leb-true (two_digits c d) 59 (and_right (n && g && t && hours) minutes e);
    }

-- digits up to the first space, and the zone after it
module _ (d : List ℕ) (e : is_time d ≡ true) where
  abbrev cut : ℕ
  cut = count_to 32 d

  time-tests : (ltb 0 cut && leb cut 10 && all_of Digit (take cut d) && is_zone (drop (cut + 1) d)) ≡ true
  unfolding is_time
  time-tests = e

  time-first : (ltb 0 cut && leb cut 10 && all_of Digit (take cut d)) ≡ true
  time-first = and_left (ltb 0 cut && leb cut 10 && all_of Digit (take cut d)) (is_zone (drop (cut + 1) d)) time-tests

  time-count : (0 < cut) × (cut ≤ 10)
  time-count =
      let w = and_left (ltb 0 cut && leb cut 10) (all_of Digit (take cut d)) time-first in
      (ltb-true 0 cut (and_left (ltb 0 cut) (leb cut 10) w), leb-true cut 10 (and_right (ltb 0 cut) (leb cut 10) w))

  time-inside : cut < length d
  time-inside = lt_of_not-le (λ k. false≢true (sym (time_end d cut refl (λ z. omega (arith, time-count.0)) time-count.1 k) ∙ e))

  time-form : TimeForm (take cut d)
  time-form =
      let n : length (take cut d) ≡ cut = simp length-take (omega (arith, time-inside)) in
      record {
        some = omega (arith, time-count.0);
        ten = omega (arith, time-count.1);
        digits = digits_are (take cut d) (and_right (ltb 0 cut && leb cut 10) (all_of Digit (take cut d)) time-first);
      }

  time-zone : ZoneForm (drop (cut + 1) d)
  time-zone = zone-form _ (and_right (ltb 0 cut && leb cut 10 && all_of Digit (take cut d)) (is_zone (drop (cut + 1) d)) time-tests)

  time-whole : d ≡ take cut d ++ 32 ∷ drop (cut + 1) d
  time-whole =
      let w = split_at d cut 0 time-inside in
      rw (count-is 32 d time-inside, ← add-one cut) at w

-- the address up to the first `>`, a space, and the time after it
module _ (a : List ℕ) (e : is_addressed a ≡ true) where
  abbrev end : ℕ
  end = count_to 62 a

  address-tests : (ltb 0 end && eqb (get_or a (end + 1) 0) 32 && all_of Address (take end a) && is_time (drop (end + 2) a)) ≡ true
  unfolding is_addressed
  address-tests = e

  address-first : (ltb 0 end && eqb (get_or a (end + 1) 0) 32 && all_of Address (take end a)) ≡ true
  address-first = and_left (ltb 0 end && eqb (get_or a (end + 1) 0) 32 && all_of Address (take end a)) (is_time (drop (end + 2) a)) address-tests

  address-some : 0 < end
  address-some =
      ltb-true 0 end
      (and_left (ltb 0 end) (eqb (get_or a (end + 1) 0) 32)
      (and_left (ltb 0 end && eqb (get_or a (end + 1) 0) 32) (all_of Address (take end a)) address-first))

  address-space : get_or a (end + 1) 0 ≡ 32
  address-space =
      eqb-true (get_or a (end + 1) 0) 32
      (and_right (ltb 0 end) (eqb (get_or a (end + 1) 0) 32)
      (and_left (ltb 0 end && eqb (get_or a (end + 1) 0) 32) (all_of Address (take end a)) address-first))

  address-inside : end + 1 < length a
  address-inside = lt_of_not-le (λ k. false≢true (sym (address_end a end refl (λ z. omega (arith, address-some)) (omega (arith, k))) ∙ e))

  address-form : AddressForm (take end a)
  unfolding in_class
  address-form =
      let n : length (take end a) ≡ end = simp length-take (omega (arith, address-inside)) in
      let t = and_right (ltb 0 end && eqb (get_or a (end + 1) 0) 32) (all_of Address (take end a)) address-first in
      record {
        some = omega (arith, address-some);
        plain = class_plain Address refl refl refl refl (take end a) t;
        no_space = class_free Address 32 refl (take end a) t;
      }

  address-time : is_time (drop (end + 2) a) ≡ true
  address-time = and_right (ltb 0 end && eqb (get_or a (end + 1) 0) 32 && all_of Address (take end a)) (is_time (drop (end + 2) a)) address-tests

  address-whole : a ≡ take end a ++ 62 ∷ 32 ∷ drop (end + 2) a
  address-whole =
      let w = split_at a end 0 (omega (arith, address-inside)) in
      let k : suc (end + 1) ≡ end + 2 = omega arith in
      rw (count-is 62 a (omega (arith, address-inside)), ← add-one end, drop-cons a (end + 1) 0 (omega (arith, address-inside)), address-space, k) at w

-- ---- the parts, from the form to the test

name-made : (m : List ℕ) → NameForm m → is_name m ≡ true
name-made m f = name-is m (λ z. omega (arith, f.some)) f.first f.last ∙ plain-name m f.plain

named-made : (m : List ℕ) → NameForm m → is_named (m ++ 32 ∷ []) ≡ true
named-made m f =
    let p = m ++ 32 ∷ [] in
    let n : length p - 1 ≡ length m = omega (arith, length-append m (32 ∷ [])) in
    named_is p (rw n (get_or-append_seam m 32 [] 0)) ∙ rw (n, take-append_seam m (32 ∷ [])) (name-made m f)

zone-made : (z : List ℕ) → ZoneForm z → is_zone z ≡ true
zone-made z f =
    let y = f.sign ∷ (48 + f.a) ∷ (48 + f.b) ∷ (48 + f.c) ∷ (48 + f.d) ∷ [] in
    let s : is_sign f.sign ≡ true = sign-made f.sign f.signs in
    let g : all_of Digit (drop 1 y) ≡ true =
    rw (
      digit_made (48 + f.a) (omega arith) (omega (arith, f.digits)),
      digit_made (48 + f.b) (omega arith) (omega (arith, f.digits)),
      digit_made (48 + f.c) (omega arith) (omega (arith, f.digits)),
      digit_made (48 + f.d) (omega arith) (omega (arith, f.digits)),
    ) in
    ap is_zone f.whole
    ∙ zone-is y refl s g (omega (arith, f.hours))
    ∙ le-leb (two_digits (48 + f.c) (48 + f.d)) 59 (omega (arith, f.minutes))
  where
    sign-made : (b : ℕ) → (b ≡ 43) ⊎ (b ≡ 45) → is_sign b ≡ true
    sign-made b (inl e) = rw e
    sign-made b (inr e) = rw e

-- where bytes free of x end at an x, they are what counting cuts off, and the rest follows
module _ (x : ℕ) (p r : List ℕ) (e : free_of x p ≡ true) where
  cut-count : length p ≡ count_to x (p ++ x ∷ r)
  cut-count = sym (count_free x p r e)

time-made : (t z : List ℕ) → TimeForm t → ZoneForm z → is_time (t ++ 32 ∷ z) ≡ true
unfolding in_class
time-made t z f g =
    let d = digits-made t f.digits in
    time-is (t ++ 32 ∷ z) (length t) (cut-count 32 t z (class_free Digit 32 refl t d)) (λ k. omega (arith, f.some)) f.ten
    (rw (take-append_seam t (32 ∷ z)) d)
    ∙ rw (drop-append-add t (32 ∷ z) 1) (zone-made z g)

address-made : (a d : List ℕ) → AddressForm a → is_time d ≡ true → is_addressed (a ++ 62 ∷ 32 ∷ d) ≡ true
address-made a d f t =
    let w = a ++ 62 ∷ 32 ∷ d in
    address_is w (length a) (cut-count 62 a (32 ∷ d) f.plain.no_right) (λ k. omega (arith, f.some)) (get_or-append-add a (62 ∷ 32 ∷ d) 1 0)
    (rw (take-append_seam a (62 ∷ 32 ∷ d)) (name-address a (plain-name a f.plain) f.no_space))
    ∙ rw (drop-append-add a (62 ∷ 32 ∷ d) 2) t

actor_made : (m r : List ℕ) → NameForm m → is_addressed r ≡ true → is_actor (m ++ 32 ∷ 60 ∷ r) ≡ true
actor_made m r f g =
    let p = m ++ 32 ∷ [] in
    let w : p ++ 60 ∷ r ≡ m ++ 32 ∷ 60 ∷ r = append_snoc m 32 (60 ∷ r) in
    rw (← w)
    (actor_is (p ++ 60 ∷ r) (length p) (cut-count 60 p r (free_both 60 m (32 ∷ []) f.plain.no_left refl))
    (rw (take-append_seam p (60 ∷ r)) (named-made m f))
    ∙ rw (drop-append-add p (60 ∷ r) 1) g)

-- ---- the theorem

actor_inside : (v : List ℕ) → is_actor v ≡ true → count_to 60 v < length v
actor_inside v e = lt_of_not-le (λ k. false≢true (sym (actor_end v (count_to 60 v) refl k) ∙ e))

-- what the test accepts has the form
pub actor_form : (v : List ℕ) → is_actor v ≡ true → ActorForm v
unfolding is_actor
actor_form v e =
    let n = count_to 60 v in
    let p = take n v in
    let a = drop (n + 1) v in
    let d = drop (count_to 62 a + 2) a in
    let named = and_left (is_named p) (is_addressed a) e in
    let addressed = and_right (is_named p) (is_addressed a) e in
    let timed = address-time a addressed in
    let w : v ≡ p ++ 60 ∷ a = rw (count-is 60 v (actor_inside v e), ← add-one n) at (split_at v n 0 (actor_inside v e)) in
    let m = take (length p - 1) p in
    record {
      name = m;
      address = take (count_to 62 a) a;
      time = take (count_to 32 d) d;
      zone = drop (count_to 32 d + 1) d;
      whole =
          w ∙ ap (λ (q : List ℕ). q ++ 60 ∷ a) (named-whole p named) ∙ append_snoc m 32 (60 ∷ a)
          ∙ ap (λ (q : List ℕ). m ++ 32 ∷ 60 ∷ q) (address-whole a addressed)
          ∙ ap (λ (q : List ℕ). m ++ 32 ∷ 60 ∷ (take (count_to 62 a) a ++ 62 ∷ 32 ∷ q)) (time-whole d timed);
      named = named-form p named;
      addressed = address-form a addressed;
      timed = time-form d timed;
      zoned = time-zone d timed;
    }

-- what has the form is accepted
pub form_actor : (v : List ℕ) → ActorForm v → is_actor v ≡ true
form_actor v f =
    ap is_actor f.whole
    ∙ actor_made f.name _ f.named (address-made f.address _ f.addressed (time-made f.time f.zone f.timed f.zoned))

-- the two together
pub actor_exactly : (v : List ℕ) → (is_actor v ≡ true) ↔ ActorForm v
actor_exactly v = (actor_form v, form_actor v)

-- a value of the form has no LF, so it is one line
time-line : (t : List ℕ) → TimeForm t → free_of 10 t ≡ true
unfolding in_class
time-line t f = class_free Digit 10 refl t (digits-made t f.digits)

sign_line : (s : ℕ) → (s ≡ 43) ⊎ (s ≡ 45) → eqb s 10 ≡ false
sign_line s (inl e) = rw e
sign_line s (inr e) = rw e

zone-line : (z : List ℕ) → ZoneForm z → free_of 10 z ≡ true
zone-line z f =
    rw (
      f.whole,
      sign_line f.sign f.signs,
      ne_eqb (48 + f.a) 10 (λ e. omega arith),
      ne_eqb (48 + f.b) 10 (λ e. omega arith),
      ne_eqb (48 + f.c) 10 (λ e. omega arith),
      ne_eqb (48 + f.d) 10 (λ e. omega arith),
    )

pub actor_one-line : (v : List ℕ) → ActorForm v → free_of 10 v ≡ true
actor_one-line v f =
    ap (free_of 10) f.whole
    ∙ free_both 10 f.name _ f.named.plain.no_lf
    (free_both 10 f.address _ f.addressed.plain.no_lf
    (free_both 10 f.time _ (time-line f.time f.timed) (zone-line f.zone f.zoned)))
