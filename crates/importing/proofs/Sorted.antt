-- Entries put in Git's order: no two of one name and sort stand strictly after each other, and what holds of each still holds. Assumes nothing.
use Prim.Native.Nat.{ℕ}
use mathlib.Core.Path.{◌≡◌, refl, ap, sym, ◌∙◌}
use mathlib.Core.Logic.{⊎_elim}
use mathlib.Core.Bool.{Bool, true, false, false≢true, ◌||◌}
use mathlib.Core.List.Memᴰ
use mathlib.Core.List.{List, [], ◌∷◌, Memᴰ}
use Rattle.ground.specs.Basics.{pick}
use Rattle.ground.specs.Verdict.{verdict}
use Rattle.ground.proofs.Laws.{same_refl}
use Rattle.mode.specs.Mode.{is_tree}
use Rattle.order.specs.Order.{is_below, name_order, opposite}
use Rattle.order.proofs.Laws.{below-is, order_flip}
use Rattle.entry.specs.Entry.{Entry}
use Rattle.rules.specs.Rules.{stands_before}
use Rattle.one_listing.specs.Sound.{Before, Ascending, EachSound, Distinct}
use Rattle.sorting.specs.Sort.{insert_by, sort_by, Perm, none, more, flip, then}
use Rattle.sorting.proofs.Sorted.{sort_perm, perm_sym}
use Rattle.sorting.proofs.Repeats.{perm_mem}
use Rattle.text_import.specs.Import.{Texts, done, stop, one, entries_in, is_same, compare_same, name_same, any_before, repeated}
use Rattle.std.specs.declared.cmp.Ordering.{Ordering}
use Rattle.std.specs.declared.cmp.Ordering.TheVariants.{Equal, Greater, Less}

-- ---- no entry repeats an earlier one

-- no two entries are the same by a test, the earlier one first
abbrev pub Apart : (Entry → Entry → Bool) → List Entry → Type 0
Apart same [] = Unit {0}
Apart same (e ∷ es) = ((d : Entry) → Memᴰ d es → same e d ≡ false) × Apart same es

or-none : (a b : Bool) → (a || b) ≡ false → (a ≡ false) × (b ≡ false)
or-none true b e = absurd (false≢true (sym e))
or-none false b e = (refl, e)

none_before : (same : Entry → Entry → Bool) (before : List Entry) (e d : Entry) → any_before same before e ≡ false → Memᴰ d before → same d e ≡ false
unfolding any_before
none_before same [] e d p m = absurd (Memᴰ.not-nil m)
none_before same (b ∷ before) e d p m =
    let w = or-none (same b e) (any_before same before e) p in
    ⊎_elim (λ z. ap (λ (x : Entry). same x e) z ∙ w.0) (λ n. none_before same before e d w.1 n) (Memᴰ.cases_cons m)

pub clear : (n : ℕ) → (n ≡ 0 → ⊥) → (same : Entry → Entry → Bool) (before : List Entry) (t : Texts) → (repeated n same before t).number ≡ 0
    → ((d e : Entry) → Memᴰ d before → Memᴰ e (entries_in t) → same d e ≡ false) × Apart same (entries_in t)
unfolding repeated entries_in
clear n z same before done p = ((λ d e a b. absurd (Memᴰ.not-nil b)), tt)
clear n z same before (stop v) p = ((λ d e a b. absurd (Memᴰ.not-nil b)), tt)
clear n z same before (one at e l) p = go (any_before same before e) refl p (λ q. clear n z same (e ∷ before) l q)
  where
    go : (u : Bool) → any_before same before e ≡ u → (pick u (verdict n at) (repeated n same (e ∷ before) l)).number ≡ 0
        → ((repeated n same (e ∷ before) l).number ≡ 0 → ((d f : Entry) → Memᴰ d (e ∷ before) → Memᴰ f (entries_in l) → same d f ≡ false) × Apart same (entries_in l))
        → ((d f : Entry) → Memᴰ d before → Memᴰ f (e ∷ entries_in l) → same d f ≡ false) × Apart same (e ∷ entries_in l)
    go true q r ih = absurd (z r)
    go false q r ih =
        let w = ih r in (
          (λ d f a b. ⊎_elim (λ y. ap (same d) y ∙ none_before same before e d q a) (λ c. w.0 d f (Memᴰ.tail a) c) (Memᴰ.cases_cons b)),
          ((λ d m. w.0 e d (Memᴰ.head refl) m), w.1),
        )

-- ---- in order

not_same : (x y : Entry) → stands_before y x ≡ false → compare_same x y ≡ false → Before x y
unfolding stands_before compare_same
not_same x y p q = go (name_order x.name (is_tree x.mode) y.name (is_tree y.mode)) refl
  where
    go : (o : Ordering) → name_order x.name (is_tree x.mode) y.name (is_tree y.mode) ≡ o → o ≡ Less
    go Less e = refl
    go Equal e = absurd (false≢true (sym q ∙ ap is_same e))
    go Greater e =
        absurd (false≢true (sym p ∙ ap is_below (order_flip x.name (is_tree x.mode) y.name (is_tree y.mode) ∙ ap opposite e)))

stands-before : (x y : Entry) → stands_before x y ≡ true → Before x y
unfolding stands_before
stands-before x y p = below-is (name_order x.name (is_tree x.mode) y.name (is_tree y.mode)) p

-- an entry put in after one that stands before it
after : (x y : Entry) (l : List Entry) → Before y x → Ascending (y ∷ l) → Ascending (insert_by stands_before x l) → Ascending (y ∷ insert_by stands_before x l)
unfolding insert_by
after x y [] b a i = (b, tt)
after x y (z ∷ l) b a i = go (stands_before z x) i
  where
    go : (u : Bool) → Ascending (pick u (z ∷ insert_by stands_before x l) (x ∷ z ∷ l)) → Ascending (y ∷ pick u (z ∷ insert_by stands_before x l) (x ∷ z ∷ l))
    go true i = (a.0, i)
    go false i = (b, i)

rest_up : (y : Entry) (l : List Entry) → Ascending (y ∷ l) → Ascending l
rest_up y [] a = tt
rest_up y (z ∷ l) a = a.1

insert-up : (x : Entry) (l : List Entry) → Ascending l → ((y : Entry) → Memᴰ y l → compare_same x y ≡ false) → Ascending (insert_by stands_before x l)
unfolding insert_by
insert-up x [] a n = tt
insert-up x (y ∷ l) a n = go (stands_before y x) refl (insert-up x l (rest_up y l a) (λ z m. n z (Memᴰ.tail m)))
  where
    go : (u : Bool) → stands_before y x ≡ u → Ascending (insert_by stands_before x l) → Ascending (pick u (y ∷ insert_by stands_before x l) (x ∷ y ∷ l))
    go true p i = after x y l (stands-before y x p) a i
    go false p i = (not_same x y p (n y (Memᴰ.head refl)), a)

pub sort-up : (l : List Entry) → Apart compare_same l → Ascending (sort_by stands_before l)
unfolding sort_by
sort-up [] a = tt
sort-up (x ∷ l) a = insert-up x (sort_by stands_before l) (sort-up l a.1) (λ y m. a.0 y (perm_mem (sort_perm stands_before l) m))

-- ---- whatever their order

pub each_perm : (k h : ℕ) {l m : List Entry} → Perm l m → EachSound k h l → EachSound k h m
each_perm k h none a = a
each_perm k h (more p) a = (a.0, each_perm k h p a.1)
each_perm k h flip a = (a.1.0, (a.0, a.1.1))
each_perm k h (then p q) a = each_perm k h q (each_perm k h p a)

pub distinct_perm : {l m : List Entry} → Perm l m → Distinct l → Distinct m
distinct_perm none a = a
distinct_perm (more p) a = ((λ b m e. a.0 b (perm_mem (perm_sym p) m) e), distinct_perm p a.1)
distinct_perm (flip {x} {y} {xs}) a = (
  (λ b m e. ⊎_elim (λ z. a.0 y (Memᴰ.head refl) (sym (e ∙ ap (λ (d : Entry). d.name) z))) (λ n. a.1.0 b n e) (Memᴰ.cases_cons m)),
  ((λ b m e. a.0 b (Memᴰ.tail m) e), a.1.1),
)
distinct_perm (then p q) a = distinct_perm q (distinct_perm p a)

-- names apart are distinct
pub apart_distinct : (l : List Entry) → Apart name_same l → Distinct l
unfolding name_same
apart_distinct [] a = tt
apart_distinct (x ∷ l) a = ((λ b m e. false≢true (sym (a.0 b m) ∙ rw e (same_refl b.name))), apart_distinct l a.1)
