-- The items of a walk are exactly what differs. Assumes nothing.
use Prim.Native.Nat.{ℕ, zero, suc, ◌+◌}
use mathlib.Core.Bool.{Bool, true, false, ◌&&◌, not, false≢true}
use mathlib.Core.Path.{◌≡◌, refl, ap, sym, subst, ◌∙◌}
use mathlib.Core.List.Memᴰ
use mathlib.Core.List.{List, [], ◌∷◌, ◌++◌, Memᴰ}
use mathlib.Core.Logic.{◌⊎◌, inl, inr, ⊎_elim, ◌↔◌}
use native.Mathlib.Omega.{arith}
use lib.ListN.{length}
use Rattle.ground.specs.Basics.{pick}
use Rattle.order.specs.Order.{name_order, opposite}
use Rattle.order.proofs.Laws.{order_same, order_flip, order_trans, order_irreflexive}
use Rattle.rules.specs.Rules.{permitted}
use Rattle.rules.proofs.Laws.{permitted-parts}
use Rattle.merge.specs.Merge.{by_order}
use Rattle.item.specs.Items.{Side, absent, Named, is_folder, Item, Folder, shut, holds, join, same_id, same_side}
use Rattle.walk.specs.Walk.{Out, Done, nothing, put, and_then, Lower, change, left_only, right_only, both, rights, against}
use Rattle.walk.specs.Walk.{compare_entries, opened, compare_folders}
use Rattle.walk.proofs.Walks.{then_is, then-first, then-second, put-done}
use Rattle.differing.specs.Differing.{Bound, any, past, Ascending}
use Rattle.differing.specs.Exactly.{Alone, Changed, only-left, only-right, in_both, item_of, goes_on, Differing, here, inside, Exactly}
use Rattle.differing.proofs.Theorems.{trees_open}
use Rattle.std.specs.declared.cmp.Ordering.{Ordering}
use Rattle.std.specs.declared.cmp.Ordering.TheVariants.{Equal, Greater, Less}

-- where nothing is refused, an item is among those of a walk exactly in this case
abbrev Tells : Out → Item → Type 0 → Type 0
Tells o x T = Done o → Memᴰ x o.items ↔ T

-- ---- an entry and those behind it

beyond_all : (n : List ℕ) (s : Bool) (es : List Named) → Ascending (past n s) es → (f : Named) → Memᴰ f es → name_order n s f.name (is_folder f) ≡ Less
beyond_all n s [] a f m = absurd (Memᴰ.not-nil m)
beyond_all n s (e ∷ es) a f m = go (Memᴰ.cases_cons m) (beyond_all e.name (is_folder e) es a.2 f)
  where
    go : (f ≡ e) ⊎ Memᴰ f es → (Memᴰ f es → name_order e.name (is_folder e) f.name (is_folder f) ≡ Less)
        → name_order n s f.name (is_folder f) ≡ Less
    go (inl q) ih = subst (λ (k : Named). name_order n s k.name (is_folder k) ≡ Less) (sym q) a.1
    go (inr k) ih = order_trans n s e.name (is_folder e) f.name (is_folder f) a.1 (ih k)

no-below : (a b : List ℕ) (s t : Bool) → a ≡ b → s ≡ t → name_order a s b t ≡ Less → ⊥
no-below a b s t p q h = order_irreflexive b t (rw (p, q) at h)

alone : (e : Named) (es : List Named) → Ascending (past e.name (is_folder e)) es → Alone e es
alone e es a f m p q = no-below e.name f.name (is_folder e) (is_folder f) p q (beyond_all e.name (is_folder e) es a f m)

alone-none : (e : Named) → Alone e []
alone-none e f m p q = Memᴰ.not-nil m

alone_rest : (e f : Named) (es : List Named) → Alone e (f ∷ es) → Alone e es
alone_rest e f es a g m = a g (Memᴰ.tail m)

alone-more : (e f : Named) (es : List Named) → (e.name ≡ f.name → is_folder e ≡ is_folder f → ⊥) → Alone e es → Alone e (f ∷ es)
alone-more e f es n a g m p q =
    ⊎_elim (λ (z : g ≡ f). n (p ∙ ap (λ (k : Named). k.name) z) (q ∙ ap (λ (k : Named). is_folder k) z)) (λ k. a g k p q) (Memᴰ.cases_cons m)

-- ---- one entry less: what was made of it, or what is changed among the others

module _ (Inside : List ℕ → List ℕ → List ℕ → Item → Type 0) (prefix : List ℕ) where
  -- an item that was made, or one inside
  abbrev Made : Item → Bool → Item → Type 0
  Made y deep x = (x ≡ y) ⊎ ((deep ≡ true) × Inside y.path y.left.id y.right.id x)

  abbrev Some : List Named → List Named → Item → Type 0
  Some ls rs x = (c : Changed ls rs) × Made (item_of prefix c) (goes_on c) x

  abbrev OfLeft : Named → Item → Type 0
  OfLeft l x = Made (record { path = join prefix l.name; left = l.side; right = absent }) (is_folder l) x

  abbrev OfRight : Named → Item → Type 0
  OfRight r x = Made (record { path = join prefix r.name; left = absent; right = r.side }) (is_folder r) x

  abbrev OfBoth : Named → Named → Item → Type 0
  OfBoth l r x = Made (record { path = join prefix l.name; left = l.side; right = r.side }) (is_folder l && not (same_id l.side r.side)) x

  none-changed : (c : Changed [] []) → ⊥
  none-changed (only-left l m a) = Memᴰ.not-nil m
  none-changed (only-right r m a) = Memᴰ.not-nil m
  none-changed (in_both l r m k p q s) = Memᴰ.not-nil m

  module _ (l : Named) (ls rs : List Named) (al : Alone l rs) (x : Item) where
    left_out : (c : Changed (l ∷ ls) rs) → Made (item_of prefix c) (goes_on c) x → OfLeft l x ⊎ Some ls rs x
    left_out (only-left e m a) w = go (Memᴰ.cases_cons m)
      where
        go : (e ≡ l) ⊎ Memᴰ e ls → OfLeft l x ⊎ Some ls rs x
        go (inl z) = inl (subst (λ (k : Named). OfLeft k x) z w)
        go (inr k) = inr (only-left e k a, w)
    left_out (only-right e m a) w = inr (only-right e m (alone_rest e l ls a), w)
    left_out (in_both e f m n p q s) w = go (Memᴰ.cases_cons m)
      where
        go : (e ≡ l) ⊎ Memᴰ e ls → OfLeft l x ⊎ Some ls rs x
        go (inl z) = absurd (al f n (ap (λ (k : Named). k.name) (sym z) ∙ p) (ap (λ (k : Named). is_folder k) (sym z) ∙ q))
        go (inr k) = inr (in_both e f k n p q s, w)

    left_in : (c : Changed ls rs) → Made (item_of prefix c) (goes_on c) x → Some (l ∷ ls) rs x
    left_in (only-left e m a) w = (only-left e (Memᴰ.tail m) a, w)
    left_in (only-right e m a) w = (only-right e m (alone-more e l ls (λ p q. al e m (sym p) (sym q)) a), w)
    left_in (in_both e f m n p q s) w = (in_both e f (Memᴰ.tail m) n p q s, w)

    left_step : Some (l ∷ ls) rs x ↔ (OfLeft l x ⊎ Some ls rs x)
    left_step = (λ c. left_out c.0 c.1, ⊎_elim (λ w. (only-left l (Memᴰ.head refl) al, w)) (λ c. left_in c.0 c.1))

  module _ (r : Named) (ls rs : List Named) (al : Alone r ls) (x : Item) where
    right-out : (c : Changed ls (r ∷ rs)) → Made (item_of prefix c) (goes_on c) x → OfRight r x ⊎ Some ls rs x
    right-out (only-left e m a) w = inr (only-left e m (alone_rest e r rs a), w)
    right-out (only-right e m a) w = go (Memᴰ.cases_cons m)
      where
        go : (e ≡ r) ⊎ Memᴰ e rs → OfRight r x ⊎ Some ls rs x
        go (inl z) = inl (subst (λ (k : Named). OfRight k x) z w)
        go (inr k) = inr (only-right e k a, w)
    right-out (in_both e f m n p q s) w = go (Memᴰ.cases_cons n)
      where
        go : (f ≡ r) ⊎ Memᴰ f rs → OfRight r x ⊎ Some ls rs x
        go (inl z) = absurd (al e m (sym (p ∙ ap (λ (k : Named). k.name) z)) (sym (q ∙ ap (λ (k : Named). is_folder k) z)))
        go (inr k) = inr (in_both e f m k p q s, w)

    right_in : (c : Changed ls rs) → Made (item_of prefix c) (goes_on c) x → Some ls (r ∷ rs) x
    right_in (only-left e m a) w = (only-left e m (alone-more e r rs (λ p q. al e m (sym p) (sym q)) a), w)
    right_in (only-right e m a) w = (only-right e (Memᴰ.tail m) a, w)
    right_in (in_both e f m n p q s) w = (in_both e f m (Memᴰ.tail n) p q s, w)

    right-step : Some ls (r ∷ rs) x ↔ (OfRight r x ⊎ Some ls rs x)
    right-step = (λ c. right-out c.0 c.1, ⊎_elim (λ w. (only-right r (Memᴰ.head refl) al, w)) (λ c. right_in c.0 c.1))

  module _ (l r : Named) (ls rs : List Named) (en : l.name ≡ r.name) (es : is_folder l ≡ is_folder r) (al : Alone l rs) (ar : Alone r ls) (x : Item) where
    both_out : (c : Changed (l ∷ ls) (r ∷ rs)) → Made (item_of prefix c) (goes_on c) x → ((same_side l.side r.side ≡ false) × OfBoth l r x) ⊎ Some ls rs x
    both_out (only-left e m a) w = go (Memᴰ.cases_cons m)
      where
        go : (e ≡ l) ⊎ Memᴰ e ls → ((same_side l.side r.side ≡ false) × OfBoth l r x) ⊎ Some ls rs x
        go (inl z) = absurd (a r (Memᴰ.head refl) (ap (λ (k : Named). k.name) z ∙ en) (ap (λ (k : Named). is_folder k) z ∙ es))
        go (inr k) = inr (only-left e k (alone_rest e r rs a), w)
    both_out (only-right e m a) w = go (Memᴰ.cases_cons m)
      where
        go : (e ≡ r) ⊎ Memᴰ e rs → ((same_side l.side r.side ≡ false) × OfBoth l r x) ⊎ Some ls rs x
        go (inl z) = absurd (a l (Memᴰ.head refl) (ap (λ (k : Named). k.name) z ∙ sym en) (ap (λ (k : Named). is_folder k) z ∙ sym es))
        go (inr k) = inr (only-right e k (alone_rest e l ls a), w)
    both_out (in_both e f m n p q s) w = go (Memᴰ.cases_cons m) (Memᴰ.cases_cons n)
      where
        go : (e ≡ l) ⊎ Memᴰ e ls → (f ≡ r) ⊎ Memᴰ f rs → ((same_side l.side r.side ≡ false) × OfBoth l r x) ⊎ Some ls rs x
        go (inl z) (inl y) = inl (
          ap (λ (k : Named). same_side k.side r.side) (sym z) ∙ ap (λ (k : Named). same_side e.side k.side) (sym y) ∙ s,
          subst (λ (k : Named). OfBoth k r x) z (subst (λ (k : Named). OfBoth e k x) y w),
        )
        go (inl z) (inr k) = absurd (al f k (ap (λ (k : Named). k.name) (sym z) ∙ p) (ap (λ (k : Named). is_folder k) (sym z) ∙ q))
        go (inr k) (inl y) = absurd (ar e k (sym (p ∙ ap (λ (k : Named). k.name) y)) (sym (q ∙ ap (λ (k : Named). is_folder k) y)))
        go (inr k) (inr j) = inr (in_both e f k j p q s, w)

    both-in : (c : Changed ls rs) → Made (item_of prefix c) (goes_on c) x → Some (l ∷ ls) (r ∷ rs) x
    both-in (only-left e m a) w = (only-left e (Memᴰ.tail m) (alone-more e r rs (λ p q. ar e m (sym p) (sym q)) a), w)
    both-in (only-right e m a) w = (only-right e (Memᴰ.tail m) (alone-more e l ls (λ p q. al e m (sym p) (sym q)) a), w)
    both-in (in_both e f m n p q s) w = (in_both e f (Memᴰ.tail m) (Memᴰ.tail n) p q s, w)

    equal_step : same_side l.side r.side ≡ true → Some (l ∷ ls) (r ∷ rs) x ↔ Some ls rs x
    equal_step t = (λ c. ⊎_elim (λ w. absurd (false≢true (sym w.0 ∙ t))) (λ k. k) (both_out c.0 c.1), λ c. both-in c.0 c.1)

    both-step : same_side l.side r.side ≡ false → Some (l ∷ ls) (r ∷ rs) x ↔ (OfBoth l r x ⊎ Some ls rs x)
    both-step t = (
      λ c. ⊎_elim (λ w. inl w.1) (λ k. inr k) (both_out c.0 c.1),
      ⊎_elim (λ w. (in_both l r (Memᴰ.head refl) (Memᴰ.head refl) en es t, w)) (λ c. both-in c.0 c.1),
    )

  -- ---- the walk, where nothing is refused

  module _ (below : Lower) (exact : (path a b : List ℕ) (n : ℕ) (x : Item) → Tells (below path a b n) x (Inside path a b x)) where
    inner-exact : (deep : Bool) (path a b : List ℕ) (n : ℕ) (x : Item) → Tells (pick deep (below path a b n) nothing) x ((deep ≡ true) × Inside path a b x)
    inner-exact true path a b n x h = (λ m. (refl, (exact path a b n x h).0 m), λ w. (exact path a b n x h).1 w.1)
    inner-exact false path a b n x h = (λ m. absurd (Memᴰ.not-nil m), λ w. absurd (false≢true w.0))

    -- three parts in a row
    parts-exact : (y x : Item) (deep : Bool) (is gs all : List Item) (S T : Type 0) → all ≡ y ∷ (is ++ gs)
        → (Memᴰ x is ↔ ((deep ≡ true) × Inside y.path y.left.id y.right.id x)) → (Memᴰ x gs ↔ S)
        → (T ↔ (Made y deep x ⊎ S)) → Memᴰ x all ↔ T
    parts-exact y x deep is gs all S T e f g t = (
      λ m. t.1
          (⊎_elim (λ (z : x ≡ y). inl (inl z)) (λ k. ⊎_elim (λ i. inl (inr (f.0 i))) (λ j. inr (g.0 j)) (Memᴰ.append_cases is k))
          (Memᴰ.cases_cons (subst (λ (l : List Item). Memᴰ x l) e m))),
      λ w. subst (λ (l : List Item). Memᴰ x l) (sym e)
          (⊎_elim
          (λ k. ⊎_elim (λ (z : x ≡ y). Memᴰ.head z) (λ i. Memᴰ.tail (Memᴰ.append_left gs (f.1 i))) k)
          (λ j. Memᴰ.tail (Memᴰ.append_right is (g.1 j))) (t.0 w)),
    )

    change-exact : (n : ℕ) (name : List ℕ) (deep : Bool) (l r : Side) (go : ℕ → Out) (S T : Type 0) (x : Item)
        → ((m : ℕ) → Tells (go m) x S) → (T ↔ (Made (record { path = join prefix name; left = l; right = r }) deep x ⊎ S))
        → Tells (change below prefix n name deep l r go) x T
    unfolding change
    change-exact n name deep l r go S T x g t h =
        let f : Done (put n y) = then-first n (put n y) on h in
        let h' : Done (on i) = then-second n (put n y) on h in
        let e : (and_then n (put n y) on).items ≡ (put n y).items ++ (on i).items = ap (λ (o : Out). o.items) (then_is n (put n y) on f) in
        let p : (put n y).items ≡ y ∷ [] = ap (λ (o : Out). o.items) (put-done n y f) in
        let f' : Done (inner i) = then-first i (inner i) go h' in
        let e' : (on i).items ≡ (inner i).items ++ (go j).items = ap (λ (o : Out). o.items) (then_is i (inner i) go f') in
        parts-exact y x deep (inner i).items (go j).items _ S T (e ∙ ap (λ (k : List Item). k ++ (on i).items) p ∙ ap (λ (k : List Item). y ∷ k) e')
        (inner-exact deep (join prefix name) l.id r.id i x f') (g j (then-second i (inner i) go h')) t
      where
        y : Item
        y = record { path = join prefix name; left = l; right = r }

        inner : ℕ → Out
        inner m = pick deep (below (join prefix name) l.id r.id m) nothing

        on : ℕ → Out
        on m = and_then m (inner m) go

        i : ℕ
        i = n + length (put n y).items

        j : ℕ
        j = i + length (inner i).items

    rights-exact : (rs : List Named) (n : ℕ) (x : Item) → Tells (rights below prefix n rs) x (Some [] rs x)
    unfolding rights
    rights-exact [] n x h = (λ m. absurd (Memᴰ.not-nil m), λ c. absurd (none-changed c.0))
    rights-exact (r ∷ rs) n x h =
        change-exact n r.name (is_folder r) absent r.side (λ m. rights below prefix m rs) (Some [] rs x) (Some [] (r ∷ rs) x) x
        (λ m k. rights-exact rs m x k) (right-step r [] rs (alone-none r) x) h

    both-exact : (l r : Named) (ls rs : List Named) (x : Item) (go : ℕ → Out) → l.name ≡ r.name → is_folder l ≡ is_folder r → Alone l rs → Alone r ls
        → ((m : ℕ) → Tells (go m) x (Some ls rs x)) → (n : ℕ) → Tells (both below prefix n l r go) x (Some (l ∷ ls) (r ∷ rs) x)
    unfolding both
    both-exact l r ls rs x go en es al ar g n = cases (same_side l.side r.side) refl
      where
        cases : (t : Bool) → same_side l.side r.side ≡ t
            → Tells (pick t (go n) (change below prefix n l.name (is_folder l && not (same_id l.side r.side)) l.side r.side go)) x
            (Some (l ∷ ls) (r ∷ rs) x)
        cases true t h = let s = equal_step l r ls rs en es al ar x t in (λ m. s.1 ((g n h).0 m), λ c. (g n h).1 (s.0 c))
        cases false t h =
            change-exact n l.name (is_folder l && not (same_id l.side r.side)) l.side r.side go (Some ls rs x) (Some (l ∷ ls) (r ∷ rs) x) x
            g (both-step l r ls rs en es al ar x t) h

    against-exact : (l : Named) (ls : List Named) (next : ℕ → List Named → Out) (x : Item) → permitted l.name ≡ true
        → Ascending (past l.name (is_folder l)) ls
        → ((rs : List Named) (b : Bound) → Ascending b rs → (n : ℕ) → Tells (next n rs) x (Some ls rs x))
        → (rs : List Named) (b : Bound) → Ascending b rs → (n : ℕ) → Tells (against below prefix l next n rs) x (Some (l ∷ ls) rs x)
    unfolding against
    against-exact l ls next x f p nx [] b a n h =
        change-exact n l.name (is_folder l) l.side absent (λ m. next m []) (Some ls [] x) (Some (l ∷ ls) [] x) x (λ m k. nx [] any tt m k)
        (left_step l ls [] (alone-none l) x) h
    against-exact l ls next x f p nx (r ∷ rs) b a n h =
        cases (λ m k. against-exact l ls next x f p nx rs (past r.name (is_folder r)) a.2 m k)
        (name_order l.name (is_folder l) r.name (is_folder r)) refl h
      where
        cases : ((m : ℕ) → Tells (against below prefix l next m rs) x (Some (l ∷ ls) rs x))
            → (o : Ordering) → name_order l.name (is_folder l) r.name (is_folder r) ≡ o
            → Tells
            (by_order o (left_only below prefix n l (λ m. next m (r ∷ rs))) (both below prefix n l r (λ m. next m rs))
            (right_only below prefix n r (λ m. against below prefix l next m rs))) x (Some (l ∷ ls) (r ∷ rs) x)
        cases rec Less e h =
            let q : Ascending (past l.name (is_folder l)) (r ∷ rs) = (a.0, e, a.2) in
            change-exact n l.name (is_folder l) l.side absent (λ m. next m (r ∷ rs)) (Some ls (r ∷ rs) x) (Some (l ∷ ls) (r ∷ rs) x) x
            (λ m k. nx (r ∷ rs) (past l.name (is_folder l)) q m k) (left_step l ls (r ∷ rs) (alone l (r ∷ rs) q) x) h
        cases rec Equal e h =
            let k = order_same l.name (is_folder l) r.name (is_folder r) (permitted-parts l.name f).2 (permitted-parts r.name a.0).2 e in
            let q : Ascending (past l.name (is_folder l)) rs = rw (k.0, k.1) a.2 in
            let q' : Ascending (past r.name (is_folder r)) ls = rw (k.0, k.1) at p in
            both-exact l r ls rs x (λ m. next m rs) k.0 k.1 (alone l rs q) (alone r ls q') (λ m g. nx rs (past l.name (is_folder l)) q m g) n h
        cases rec Greater e h =
            let q : Ascending (past r.name (is_folder r)) (l ∷ ls) = (f, order_flip l.name (is_folder l) r.name (is_folder r) ∙ ap opposite e, p) in
            change-exact n r.name (is_folder r) absent r.side (λ m. against below prefix l next m rs) (Some (l ∷ ls) rs x) (Some (l ∷ ls) (r ∷ rs) x) x
            rec (right-step r (l ∷ ls) rs (alone r (l ∷ ls) q) x) h

    entries-exact : (ls : List Named) (b : Bound) → Ascending b ls → (rs : List Named) (c : Bound) → Ascending c rs → (n : ℕ) (x : Item)
        → Tells (compare_entries below prefix ls n rs) x (Some ls rs x)
    unfolding compare_entries
    entries-exact [] b p rs c q n x h = rights-exact rs n x h
    entries-exact (l ∷ ls) b p rs c q n x h =
        against-exact l ls (compare_entries below prefix ls) x p.0 p.2
        (λ rs' c' q' n' h'. entries-exact ls (past l.name (is_folder l)) p.2 rs' c' q' n' x h') rs c q n h

-- ---- folders

made_differs : (folder : List ℕ → Folder) (prefix a b : List ℕ) (x : Item) (ls rs : List Named) → folder a ≡ holds ls → folder b ≡ holds rs
    → Some (Differing folder) prefix ls rs x → Differing folder prefix a b x
made_differs folder prefix a b x ls rs p q w = ⊎_elim (λ (e : x ≡ item_of prefix w.0). here p q w.0 e) (λ k. inside p q w.0 k.0 k.1) w.1

module _ (folder : List ℕ → Folder) (sound : (id : List ℕ) (es : List Named) → folder id ≡ holds es → Ascending any es) (d : ℕ)
    (exact : (path a b : List ℕ) (n : ℕ) (x : Item) → Tells (compare_folders folder d path a b n) x (Differing folder path a b x))
    (prefix a b : List ℕ) (n : ℕ) (x : Item) where
  abbrev Walked : Out
  Walked = compare_folders folder (suc d) prefix a b n

  level : (ls rs : List Named) → folder a ≡ holds ls → folder b ≡ holds rs → Tells Walked x (Some (Differing folder) prefix ls rs x)
  level ls rs p q h =
      let t : Walked ≡ compare_entries (compare_folders folder d) prefix ls n rs = trees_open folder d prefix a b n ls rs p q in
      let g = entries-exact (Differing folder) prefix (compare_folders folder d) exact ls any (sound a ls p) rs any (sound b rs q) n x
      (subst (λ (o : Out). Done o) t h) in
      (λ m. g.0 (subst (λ (o : Out). Memᴰ x o.items) t m), λ w. subst (λ (o : Out). Memᴰ x o.items) (sym t) (g.1 w))

  only_differing : Done Walked → Memᴰ x Walked.items → Differing folder prefix a b x
  unfolding compare_folders opened
  only_differing h m = left (folder a) refl m
    where
      right : (ls : List Named) → folder a ≡ holds ls → (y : Folder) → folder b ≡ y
          → Memᴰ x (opened y (λ rs. compare_entries (compare_folders folder d) prefix ls n rs)).items → Differing folder prefix a b x
      right ls p (shut v) q k = absurd (Memᴰ.not-nil k)
      right ls p (holds rs) q k = made_differs folder prefix a b x ls rs p q ((level ls rs p q h).0 m)

      left : (y : Folder) → folder a ≡ y
          → Memᴰ x (opened y (λ ls. opened (folder b) (λ rs. compare_entries (compare_folders folder d) prefix ls n rs))).items
          → Differing folder prefix a b x
      left (shut v) p k = absurd (Memᴰ.not-nil k)
      left (holds ls) p k = right ls p (folder b) refl k

  all_differing : Done Walked → Differing folder prefix a b x → Memᴰ x Walked.items
  all_differing h (here {ls = ls} {rs = rs} p q c e) = (level ls rs p q h).1 (c, inl e)
  all_differing h (inside {ls = ls} {rs = rs} p q c g w) = (level ls rs p q h).1 (c, inr (g, w))

pub exactly : Exactly
unfolding compare_folders
exactly folder sound zero prefix a b n h x = absurd (omega arith)
exactly folder sound (suc d) prefix a b n h x = (
  only_differing folder sound d (λ path a' b' n' x' h'. exactly folder sound d path a' b' n' h' x') prefix a b n x h,
  all_differing folder sound d (λ path a' b' n' x' h'. exactly folder sound d path a' b' n' h' x') prefix a b n x h,
)
