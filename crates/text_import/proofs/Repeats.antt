-- The records that repeat an earlier one: the least repeated elements say what the definitions say of the records in turn. Assumes nothing.
use Prim.Native.Nat.{ℕ, ◌+◌, ◌/◌, ◌%◌, ◌<◌, ◌≤◌}
use native.Mathlib.Omega.{arith}
use mathlib.Core.Path.{◌≡◌, refl, ap, sym, ◌∙◌}
use mathlib.Core.Logic.{◌⊎◌, inl, inr, ⊎_elim}
use mathlib.Core.Bool.{Bool, true, false, false≢true, ◌&&◌, ◌||◌}
use mathlib.Core.List.Memᴰ
use mathlib.Core.List.{List, [], ◌∷◌, ◌++◌, map, Memᴰ}
use lib.Dec.{eqb, ltb}
use lib.ListN.{length, drop}
use borrow.Author.Tests.{eqb-true, lt-ltb, le-ltb}
use Rattle.ground.specs.Basics.{pick}
use Rattle.ground.specs.Scan.{same_bytes, free_of}
use Rattle.ground.specs.Verdict.{verdict, fine, most_bytes}
use Rattle.ground.specs.declared.Verdict.{Verdict}
use Rattle.ground.proofs.Laws.{and_left, and_right, equal, same_test, same_true, same_refl}
use Rattle.mode.specs.Mode.{is_tree}
use Rattle.order.specs.Order.{name_order}
use Rattle.order.proofs.Laws.{order_self, order_same}
use Rattle.entry.specs.Entry.{Entry}
use Rattle.keys.specs.Key.{name_at, folder, slash, key_at}
use Rattle.keys.proofs.Keys.{key_names}
use Rattle.text_record.specs.Record.{name_in, text_number, entry_in}
use Rattle.text_repeats.specs.Least.{same_record}
use Rattle.text_repeats.proofs.Least.{Least}
use Rattle.text_import.specs.Import.{Texts, done, stop, one, is_same, compare_same, name_same, any_before, repeated}
use Rattle.text_import.specs.Code.{places_in}
use Rattle.text_import.proofs.Places.{mem-map, map-mem, Good, place-good, place_inside, el, element_range, element_half, element_odd, name-there, name-plain, key-there}
use Rattle.std.specs.declared.cmp.Ordering.{Ordering}
use Rattle.std.specs.declared.cmp.Ordering.TheVariants.{Equal, Greater, Less}

-- elements of one name and sort have one key
pub same_key : (s : List ℕ) (x y : ℕ) → same_record s x y ≡ true → key_at s 9 0 x ≡ key_at s 9 0 y
unfolding same_record key_at
same_key s x y e =
    let a : x % 2 ≡ y % 2 = eqb-true (x % 2) (y % 2) (and_left (eqb (x % 2) (y % 2)) _ e) in
    let b : name_at s 9 0 x ≡ name_at s 9 0 y = same_true (name_at s 9 0 x) (name_at s 9 0 y) (and_right (eqb (x % 2) (y % 2)) _ e) in
    ap (λ (l : List ℕ). l ++ slash (folder x)) b ∙ ap (λ (i : ℕ). name_at s 9 0 y ++ slash (eqb i 1)) a

bits : (a b : Bool) → eqb (pick a 1 0) (pick b 1 0) ≡ true → a ≡ b
bits true true e = refl
bits true false e = absurd (false≢true e)
bits false true e = absurd (false≢true e)
bits false false e = refl

bits_same : (a : Bool) → eqb (pick a 1 0) (pick a 1 0) ≡ true
bits_same true = refl
bits_same false = refl

is_same_lem : (o : Ordering) → is_same o ≡ true → o ≡ Equal
is_same_lem Less e = absurd (false≢true e)
is_same_lem Equal e = refl
is_same_lem Greater e = absurd (false≢true e)

module _ (k h : ℕ) (s : List ℕ) where
  abbrev E : ℕ → Entry
  E p = entry_in k h (drop p s)

  abbrev pub tree : Bool → ℕ → Bool
  tree folders p = folders && is_tree (entry_in k h (drop p s)).mode

  abbrev pub S : Bool → ℕ → ℕ → Bool
  S folders p q = same_record s (el k h s folders p) (el k h s folders q)

  module _ (f g : Bool) (p q : ℕ) (e : text_number k h (drop p s) ≡ 0) (d : text_number k h (drop q s) ≡ 0) where
    pub record_is : same_record s (el k h s f p) (el k h s g q)
        ≡ (eqb (pick (tree f p) 1 0) (pick (tree g q) 1 0) && same_bytes (name_in h (drop p s)) (name_in h (drop q s)))
    unfolding same_record
    record_is =
        rw (
          element_odd k h s f p (entry_in k h (drop p s)).mode,
          element_odd k h s g q (entry_in k h (drop q s)).mode,
          name-there k h s p e (el k h s f p) (element_half k h s f p (entry_in k h (drop p s)).mode),
          name-there k h s q d (el k h s g q) (element_half k h s g q (entry_in k h (drop q s)).mode),
        )
        refl

    -- elements of one key have one name and one sort
    pub key-same : key_at s 9 0 (el k h s f p) ≡ key_at s 9 0 (el k h s g q) → same_record s (el k h s f p) (el k h s g q) ≡ true
    key-same z =
        let a : name_in h (drop p s) ++ slash (tree f p) ≡ name_in h (drop q s) ++ slash (tree g q) =
        sym (key-there k h s p e f) ∙ z ∙ key-there k h s q d g in
        let o : name_order (name_in h (drop p s)) (tree f p) (name_in h (drop q s)) (tree g q) ≡ Equal =
        sym (key_names (name_in h (drop p s)) (tree f p) (name_in h (drop q s)) (tree g q) (name-plain k h s p e) (name-plain k h s q d))
        ∙ ap (λ (l : List ℕ). name_order l false (name_in h (drop q s) ++ slash (tree g q)) false) a
        ∙ order_self (name_in h (drop q s) ++ slash (tree g q)) false in
        let w = order_same (name_in h (drop p s)) (tree f p) (name_in h (drop q s)) (tree g q) (name-plain k h s p e) (name-plain k h s q d) o in
        record_is ∙ both (tree f p) (tree g q) (name_in h (drop p s)) (name_in h (drop q s)) w.1 w.0
      where
        both : (a b : Bool) (m n : List ℕ) → a ≡ b → m ≡ n → (eqb (pick a 1 0) (pick b 1 0) && same_bytes m n) ≡ true
        both a b m n x y = rw (x, y, bits_same b, same_refl n) refl

  module _ (p q : ℕ) (e : text_number k h (drop p s) ≡ 0) (d : text_number k h (drop q s) ≡ 0) where
    pub name_agrees : name_same (entry_in k h (drop p s)) (entry_in k h (drop q s)) ≡ S false p q
    unfolding name_same entry_in
    name_agrees = sym (record_is false false p q e d)

    pub order_agrees : compare_same (entry_in k h (drop p s)) (entry_in k h (drop q s)) ≡ S true p q
    unfolding compare_same entry_in
    order_agrees = go (tree true p) (tree true q) (name_in h (drop p s)) (name_in h (drop q s)) (name-plain k h s p e) (name-plain k h s q d) ∙ sym (record_is true true p q e d)
      where
        go : (a b : Bool) (m n : List ℕ) → free_of 47 m ≡ true → free_of 47 n ≡ true
            → is_same (name_order m a n b) ≡ (eqb (pick a 1 0) (pick b 1 0) && same_bytes m n)
        go a b m n f g =
            same_test (is_same (name_order m a n b)) (eqb (pick a 1 0) (pick b 1 0) && same_bytes m n)
            (λ z. let w = order_same m a n b f g (is_same_lem (name_order m a n b) z) in rw (w.0, w.1, bits_same b, same_refl n) refl)
            (λ z.
            let u : a ≡ b = bits a b (and_left (eqb (pick a 1 0) (pick b 1 0)) (same_bytes m n) z) in
            let v : m ≡ n = same_true m n (and_right (eqb (pick a 1 0) (pick b 1 0)) (same_bytes m n) z) in
            rw (u, v, order_self n b) refl)

  -- ---- the first record that repeats an earlier one

  module _ (same : Entry → Entry → Bool) where
    any_found : (P : List ℕ) (d : Entry) → any_before same (map E P) d ≡ true → (p : ℕ) × Memᴰ p P × (same (entry_in k h (drop p s)) d ≡ true)
    unfolding any_before
    any_found [] d e = absurd (false≢true e)
    any_found (p ∷ P) d e = go (same (entry_in k h (drop p s)) d) refl e (λ z. any_found P d z)
      where
        go : (u : Bool) → same (entry_in k h (drop p s)) d ≡ u → (u || any_before same (map E P) d) ≡ true
            → (any_before same (map E P) d ≡ true → (q : ℕ) × Memᴰ q P × (same (entry_in k h (drop q s)) d ≡ true))
            → (q : ℕ) × Memᴰ q (p ∷ P) × (same (entry_in k h (drop q s)) d ≡ true)
        go true f z ih = (p, Memᴰ.head refl, f)
        go false f z ih = let w = ih z in (w.0, Memᴰ.tail w.1, w.2)

    any-there : (P : List ℕ) (d : Entry) (p : ℕ) → Memᴰ p P → same (entry_in k h (drop p s)) d ≡ true → any_before same (map E P) d ≡ true
    unfolding any_before
    any-there [] d p m e = absurd (Memᴰ.not-nil m)
    any-there (q ∷ P) d p m e =
        ⊎_elim (λ z. rw (← z, e) refl) (λ n. or_right (same (entry_in k h (drop q s)) d) (any-there P d p n e)) (Memᴰ.cases_cons m)
      where
        or_right : (a : Bool) {b : Bool} → b ≡ true → (a || b) ≡ true
        or_right true f = refl
        or_right false f = f

  module _ (short : length s ≤ most_bytes) (folders : Bool) (same : Entry → Entry → Bool)
      (agrees : (p q : ℕ) → text_number k h (drop p s) ≡ 0 → text_number k h (drop q s) ≡ 0 → same (entry_in k h (drop p s)) (entry_in k h (drop q s)) ≡ S folders p q)
      (n : ℕ) (A : List ℕ) (good : (p : ℕ) → Memᴰ p A → text_number k h (drop p s) ≡ 0) (r : ℕ) (L : Least (same_record s) (map (el k h s folders) A) r) where
    pub small : (q : ℕ) → Memᴰ q A → el k h s folders q < 4294967296
    small q m =
        omega (arith, place_inside k h s q (good q m), (element_range k h s folders q (entry_in k h (drop q s)).mode).1)

    rises : (p q : ℕ) → p < q → el k h s folders p < el k h s folders q
    rises p q l =
        omega (arith, (element_range k h s folders p (entry_in k h (drop p s)).mode).1, (element_range k h s folders q (entry_in k h (drop q s)).mode).0)

    pub low : (p q : ℕ) → Memᴰ p A → Memᴰ q A → p < q → S folders p q ≡ true → r ≤ el k h s folders q
    low p q a b l e = L.low _ _ (mem-map (el k h s folders) p A a) (mem-map (el k h s folders) q A b) (rises p q l) e

    hit : (r ≡ 4294967296) ⊎ ((p : ℕ) × (q : ℕ) × Memᴰ p A × Memᴰ q A × (p < q) × (S folders p q ≡ true) × (r ≡ el k h s folders q))
    hit =
        ⊎_elim inl
        (λ w.
        let a = map-mem (el k h s folders) w.0 A w.1 in
        let b = map-mem (el k h s folders) r A w.2 in
        let l : a.0 < b.0 =
        ⊎_elim (λ z. absurd (omega (arith, w.3, a.2, b.2, ap (el k h s folders) z)))
        (λ (z : a.0 ≡ b.0 → ⊥).
        omega (
          arith,
          w.3,
          a.2,
          b.2,
          (element_range k h s folders a.0 (entry_in k h (drop a.0 s)).mode).0,
          (element_range k h s folders b.0 (entry_in k h (drop b.0 s)).mode).1,
        )) (equal a.0 b.0) in
        inr (a.0, b.0, a.1, b.1, l, ap (λ (i : ℕ). same_record s i (el k h s folders b.0)) (sym a.2) ∙ ap (same_record s w.0) (sym b.2) ∙ w.4, b.2))
        L.hit

    abbrev answer : Verdict
    answer = pick (ltb r 4294967296) (verdict n (r / 2)) fine

    -- so far no record of P repeats one
    abbrev New : List ℕ → Type 0
    New P = (p q : ℕ) → Memᴰ p A → Memᴰ q P → p < q → S folders p q ≡ true → ⊥

    over : (P : List ℕ) → New P → ((p : ℕ) → Memᴰ p A → Memᴰ p P) → fine ≡ pick (ltb r 4294967296) (verdict n (r / 2)) fine
    over P new all =
        ⊎_elim (λ z. sym (ap (λ (b : Bool). pick b (verdict n (r / 2)) fine) (le-ltb r 4294967296 (omega (arith, z)))))
        (λ w. absurd (new w.0 w.1 w.2 (all w.1 w.3) w.4 w.5)) hit

    found : (at : ℕ) → Memᴰ at A → r ≡ el k h s folders at → verdict n at ≡ pick (ltb r 4294967296) (verdict n (r / 2)) fine
    found at m z =
        let y : at ≡ r / 2 = sym (ap (λ (i : ℕ). i / 2) z ∙ element_half k h s folders at (entry_in k h (drop at s)).mode) in
        ap (verdict n) y ∙ sym (ap (λ (b : Bool). pick b (verdict n (r / 2)) fine) (lt-ltb r 4294967296 (omega (arith, small at m, z))))

    pub first : (P : List ℕ) (lo : ℕ) (t : Texts) → Good k h s lo t → ((p : ℕ) → Memᴰ p P → Memᴰ p A × (p < lo))
        → ((p : ℕ) → Memᴰ p A → Memᴰ p P ⊎ Memᴰ p (places_in t)) → ((p : ℕ) → Memᴰ p (places_in t) → Memᴰ p A) → New P
        → repeated n same (map E P) t ≡ pick (ltb r 4294967296) (verdict n (r / 2)) fine
    unfolding repeated places_in
    first P lo done g in_p split inT new = over P new (λ p m. ⊎_elim (λ a. a) (λ a. absurd (Memᴰ.not-nil a)) (split p m))
    first P lo (stop v) g in_p split inT new = over P new (λ p m. ⊎_elim (λ a. a) (λ a. absurd (Memᴰ.not-nil a)) (split p m))
    first P lo (one at e l) g in_p split inT new =
        ap (λ (d : Entry). pick (any_before same (map E P) d) (verdict n at) (repeated n same (d ∷ map E P) l)) g.1
        ∙ go (any_before same (map E P) (entry_in k h (drop at s))) refl
        (λ nw. first (at ∷ P) (at + 1) l g.3
        (λ p m. ⊎_elim (λ z. (rw z here, omega (arith, z))) (λ a. let w = in_p p a in (w.0, omega (arith, w.1, g.0))) (Memᴰ.cases_cons m))
        (λ p m. ⊎_elim (λ a. inl (Memᴰ.tail a)) (λ a. ⊎_elim (λ z. inl (Memᴰ.head z)) (λ b. inr b) (Memᴰ.cases_cons a)) (split p m))
        (λ p m. inT p (Memᴰ.tail m)) nw)
      where
        here : Memᴰ at A
        here = inT at (Memᴰ.head refl)

        go : (u : Bool) → any_before same (map E P) (entry_in k h (drop at s)) ≡ u
            → (New (at ∷ P) → repeated n same (map E (at ∷ P)) l ≡ pick (ltb r 4294967296) (verdict n (r / 2)) fine)
            → pick u (verdict n at) (repeated n same (map E (at ∷ P)) l) ≡ pick (ltb r 4294967296) (verdict n (r / 2)) fine
        go true f ih =
            let w = any_found same P (entry_in k h (drop at s)) f in
            let i = in_p w.0 w.1 in
            let c = low w.0 at i.0 here (omega (arith, i.1, g.0)) (sym (agrees w.0 at (good w.0 i.0) g.2) ∙ w.2) in
            ⊎_elim (λ z. absurd (omega (arith, c, z, small at here)))
            (λ v.
            ⊎_elim (λ a. absurd (new v.0 v.1 v.2 a v.4 v.5))
            (λ a.
            ⊎_elim (λ z. found at here (v.6 ∙ ap (el k h s folders) z))
            (λ b. absurd (omega (arith, c, v.6, rises at v.1 (omega (arith, (place-good k h s (at + 1) l g.3 v.1 b).0)))))
            (Memᴰ.cases_cons a))
            (split v.1 v.3))
            hit
        go false f ih =
            ih (λ p q a b o e.
            ⊎_elim
            (λ z.
            ⊎_elim
            (λ c. false≢true (sym f ∙ any-there same P (entry_in k h (drop at s)) p c (agrees p at (good p a) g.2 ∙ ap (S folders p) (sym z) ∙ e)))
            (λ c.
            ⊎_elim (λ y. absurd (omega (arith, y, z, o))) (λ y. absurd (omega (arith, z, o, (place-good k h s (at + 1) l g.3 p y).0))) (Memᴰ.cases_cons c))
            (split p a))
            (λ c. new p q a c o e) (Memᴰ.cases_cons b))
