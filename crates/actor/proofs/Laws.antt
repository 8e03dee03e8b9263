-- Laws of the actor form, one for each way through a definition. Assumes nothing.
use Prim.Native.Nat.{ℕ, ◌+◌, ◌-◌, ◌<◌, ◌≤◌}
use mathlib.Core.Path.{◌≡◌, refl, ap, sym, ◌∙◌}
use mathlib.Core.Bool.{Bool, true, false}
use mathlib.Core.List.{List, []}
use native.Mathlib.Omega.{arith}
use lib.ListN.{length, get_or, take, drop, get_or-eq_default, drop_of_length-le}
use lib.Dec.{leb}
use borrow.Author.Tests.{eq-eqb, ne_eqb, lt-ltb, le-ltb, le-leb, lt-leb}
use Rattle.ground.specs.Scan.{count_to}
use Rattle.actor.specs.Actor.{Digit, Name, Address, all_of, is_name, is_named, is_sign, two_digits, is_zone, is_time, is_addressed, is_actor}

module _ (m : List ℕ) where
  pub name-is : (length m ≡ 0 → ⊥) → (get_or m 0 0 ≡ 32 → ⊥) → (get_or m (length m - 1) 0 ≡ 32 → ⊥) → is_name m ≡ all_of Name m
  unfolding is_name
  name-is h a e = simp (lt-ltb 0 (length m) (omega arith), ne_eqb (get_or m 0 0) 32 a, ne_eqb (get_or m (length m - 1) 0) 32 e)

module _ (p : List ℕ) where
  pub named_is : get_or p (length p - 1) 0 ≡ 32 → is_named p ≡ is_name (take (length p - 1) p)
  unfolding is_named
  named_is e = simp (eq-eqb (get_or p (length p - 1) 0) 32 e)

module _ (z : List ℕ) where
  pub zone-length : (length z ≡ 5 → ⊥) → is_zone z ≡ false
  unfolding is_zone
  zone-length e = simp (ne_eqb (length z) 5 e)

  pub zone-is : length z ≡ 5 → is_sign (get_or z 0 0) ≡ true → all_of Digit (drop 1 z) ≡ true → two_digits (get_or z 1 0) (get_or z 2 0) ≤ 14
      → is_zone z ≡ leb (two_digits (get_or z 3 0) (get_or z 4 0)) 59
  unfolding is_zone
  zone-is h s d e = rw (eq-eqb (length z) 5 h, s, d, le-leb (two_digits (get_or z 1 0) (get_or z 2 0)) 14 e)

-- n is how many bytes stand before the space
module _ (d : List ℕ) (n : ℕ) (c : n ≡ count_to 32 d) where
  pub time-none : n ≡ 0 → is_time d ≡ false
  unfolding is_time
  time-none e = rw (← c) (simp (le-ltb 0 n (omega arith)))

  pub time-long : 10 < n → is_time d ≡ false
  unfolding is_time
  time-long e = rw (← c) (simp (lt-ltb 0 n (omega arith), lt-leb n 10 e))

  module _ (a : n ≡ 0 → ⊥) (b : n ≤ 10) where
    pub time_other : all_of Digit (take n d) ≡ false → is_time d ≡ false
    unfolding is_time
    time_other e = rw (← c) (simp (lt-ltb 0 n (omega arith), le-leb n 10 b, e))

    pub time-is : all_of Digit (take n d) ≡ true → is_time d ≡ is_zone (drop (n + 1) d)
    unfolding is_time
    time-is e = rw (← c) (simp (lt-ltb 0 n (omega arith), le-leb n 10 b, e))

    time-by : (t : Bool) → all_of Digit (take n d) ≡ t → length d ≤ n → is_time d ≡ false
    time-by true q e = time-is q ∙ ap is_zone (drop_of_length-le d {i = n + 1} (omega arith)) ∙ zone-length [] (λ z. omega arith)
    time-by false q e = time_other q

    pub time_end : length d ≤ n → is_time d ≡ false
    time_end = time-by (all_of Digit (take n d)) refl

-- n is how many bytes stand before `>`
module _ (a : List ℕ) (n : ℕ) (c : n ≡ count_to 62 a) where
  pub address-none : n ≡ 0 → is_addressed a ≡ false
  unfolding is_addressed
  address-none e = rw (← c) (simp (le-ltb 0 n (omega arith)))

  module _ (h : n ≡ 0 → ⊥) where
    pub address-not : (get_or a (n + 1) 0 ≡ 32 → ⊥) → is_addressed a ≡ false
    unfolding is_addressed
    address-not e = rw (← c) (simp (lt-ltb 0 n (omega arith), ne_eqb (get_or a (n + 1) 0) 32 e))

    pub address_end : length a < n + 2 → is_addressed a ≡ false
    address_end k = address-not (λ e. let z : ◌≡◌ {A = ℕ} 0 32 = sym (get_or-eq_default a 0 (omega arith)) ∙ e in omega arith)

    pub address_is : get_or a (n + 1) 0 ≡ 32 → all_of Address (take n a) ≡ true → is_addressed a ≡ is_time (drop (n + 2) a)
    unfolding is_addressed
    address_is s e = rw (← c) (simp (lt-ltb 0 n (omega arith), eq-eqb (get_or a (n + 1) 0) 32 s, e))

-- n is how many bytes stand before `<`
module _ (v : List ℕ) (n : ℕ) (c : n ≡ count_to 60 v) where
  pub actor_other : is_named (take n v) ≡ false → is_actor v ≡ false
  unfolding is_actor
  actor_other e = rw (← c) (simp e)

  pub actor_is : is_named (take n v) ≡ true → is_actor v ≡ is_addressed (drop (n + 1) v)
  unfolding is_actor
  actor_is e = rw (← c) (simp e)

  actor_by : (t : Bool) → is_named (take n v) ≡ t → length v ≤ n → is_actor v ≡ false
  actor_by true q e = actor_is q ∙ ap is_addressed (drop_of_length-le v {i = n + 1} (omega arith)) ∙ address-none [] 0 refl refl
  actor_by false q e = actor_other q

  pub actor_end : length v ≤ n → is_actor v ≡ false
  actor_end = actor_by (is_named (take n v)) refl
