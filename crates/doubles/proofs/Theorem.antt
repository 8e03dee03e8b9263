-- In an ascending listing the open names say exactly whether an earlier entry has the name of the present one; and how many can be open. Assumes nothing.
use Prim.Native.Nat.{ℕ, ◌+◌, ◌*◌, ◌≤◌, ◌<◌}
use native.Mathlib.Decide.{dec_lt}
use native.Mathlib.Nat.{mul-le-mul_right}
use native.Mathlib.Omega.{arith}
use mathlib.Core.Path.{◌≡◌, refl, sym, ap, subst, ◌∙◌}
use mathlib.Core.Bool.{Bool, true, false, ◌&&◌, ◌||◌}
use mathlib.Core.List.{List, [], ◌∷◌}
use mathlib.Core.Logic.{◌⊎◌, inl, inr, ⊎_elim}
use lib.ListN.{length}
use borrow.Author.Tests.{eq-eqb, eqb-true, lt-ltb, le-ltb}
use Rattle.ground.specs.Scan.{common_start, same_bytes}
use Rattle.ground.proofs.Laws.{same_test, same_true, same_refl, common_right}
use Rattle.mode.specs.Mode.{is_tree}
use Rattle.order.specs.Order.{name_order, next}
use Rattle.order.proofs.Laws.{by-below, order_trans, order_irreflexive, below_rest}
use Rattle.entry.specs.Entry.{Entry}
use Rattle.doubles.specs.Doubles.{named_before, shut, top_is, last_name, noted, opened, held}
use Rattle.doubles.proofs.Common.{common-self, common_through, common_turn, common_whole, common_between}
use Rattle.std.specs.declared.cmp.Ordering.TheVariants.{Less}

-- ---- an ascending listing, the nearest entry first

-- an entry stands after the one before
abbrev pub After : List Entry → Entry → Type 0
After [] e = Unit {0}
After (d ∷ before) e = name_order d.name (is_tree d.mode) e.name (is_tree e.mode) ≡ Less

abbrev pub Ascends : List Entry → Type 0
Ascends [] = Unit {0}
Ascends (e ∷ before) = After before e × Ascends before

-- ---- among the entries seen; among the open lengths

abbrev Among : Entry → List Entry → Type 0
Among d [] = ⊥
Among d (e ∷ seen) = (d ≡ e) ⊎ Among d seen

abbrev In : ℕ → List ℕ → Type 0
In k [] = ⊥
In k (j ∷ ks) = (k ≡ j) ⊎ In k ks

-- none is longer than m, and each at most as long as the one before it
abbrev Falls : ℕ → List ℕ → Type 0
Falls m [] = Unit {0}
Falls m (k ∷ ks) = (k ≤ m) × Falls k ks

-- ---- the lengths

falls-more : (m n : ℕ) (ks : List ℕ) → m ≤ n → Falls m ks → Falls n ks
falls-more m n [] h f = tt
falls-more m n (k ∷ ks) h f = (omega (arith, f.0), f.1)

falls_in : (m k : ℕ) (ks : List ℕ) → Falls m ks → In k ks → k ≤ m
falls_in m k [] f i = elim i [ ]
falls_in m k (j ∷ ks) f (inl e) = omega (arith, f.0)
falls_in m k (j ∷ ks) f (inr i) = omega (arith, f.0, falls_in j k ks f.1 i)

module _ (p j : ℕ) (ks : List ℕ) where
  pub shut_drops : p < j → shut p (j ∷ ks) ≡ shut p ks
  unfolding shut
  shut_drops h = rw (lt-ltb p j h)

  pub shut_stops : j ≤ p → shut p (j ∷ ks) ≡ j ∷ ks
  unfolding shut
  shut_stops h = rw (le-ltb p j h)

le_not : (a b : ℕ) → (a < b → ⊥) → b ≤ a
le_not a b h = elim (dec_lt a b) [ yes k ↦ absurd (h k) | no k ↦ omega arith ]

-- none above p is left, in the order they had
shut-falls : (p m : ℕ) (ks : List ℕ) → Falls m ks → Falls p (shut p ks)
unfolding shut
shut-falls p m [] f = tt
shut-falls p m (j ∷ ks) f =
    elim (dec_lt p j) [
      | yes h ↦ subst (λ (l : List ℕ). Falls p l) (sym (shut_drops p j ks h)) (shut-falls p j ks f.1)
      | no h ↦ let g : j ≤ p = le_not p j h in subst (λ (l : List ℕ). Falls p l) (sym (shut_stops p j ks g)) (g, f.1)
    ]

-- what is left was there
shut_was : (p k : ℕ) (ks : List ℕ) → In k (shut p ks) → In k ks
unfolding shut
shut_was p k [] i = i
shut_was p k (j ∷ ks) i =
    elim (dec_lt p j) [
      | yes h ↦ inr (shut_was p k ks (subst (λ (l : List ℕ). In k l) (shut_drops p j ks h) i))
      | no h ↦ subst (λ (l : List ℕ). In k l) (shut_stops p j ks (le_not p j h)) i
    ]

-- what was there and is not above p is left
shut-keeps : (p k : ℕ) (ks : List ℕ) → k ≤ p → In k ks → In k (shut p ks)
unfolding shut
shut-keeps p k [] h i = i
shut-keeps p k (j ∷ ks) h i =
    elim (dec_lt p j) [
      | yes g ↦ subst (λ (l : List ℕ). In k l) (sym (shut_drops p j ks g)) (⊎_elim (λ e. absurd (omega arith)) (λ w. shut-keeps p k ks h w) i)
      | no g ↦ subst (λ (l : List ℕ). In k l) (sym (shut_stops p j ks (le_not p j g))) i
    ]

-- the top, where none is longer
top_in : (k : ℕ) (ks : List ℕ) → top_is k ks ≡ true → In k ks
unfolding top_is
top_in k [] e = let z : ◌≡◌ {A = ℕ} 0 1 = cc in absurd (omega arith)
top_in k (j ∷ ks) e = inl (sym (eqb-true j k e))

in_top : (k : ℕ) (ks : List ℕ) → Falls k ks → In k ks → top_is k ks ≡ true
unfolding top_is
in_top k [] f i = absurd i
in_top k (j ∷ ks) f i = eq-eqb j k (⊎_elim (λ e. sym e) (λ w. omega (arith, f.0, falls_in j k ks f.1 w)) i)

-- ---- noted

module _ (e : Entry) (ks : List ℕ) where
  pub noted-tree : is_tree e.mode ≡ true → noted e ks ≡ ks
  unfolding noted
  noted-tree h = rw h

  pub noted-file : is_tree e.mode ≡ false → noted e ks ≡ length e.name ∷ ks
  unfolding noted
  noted-file h = rw h

two : (b : Bool) → (b ≡ true) ⊎ (b ≡ false)
two true = inl refl
two false = inr refl

-- ---- the open lengths fall, whatever the entries

opened-falls : (seen : List Entry) → Falls (length (last_name seen)) (opened seen)
unfolding opened last_name
opened-falls [] = tt
opened-falls (e ∷ seen) =
    let p = common_start (last_name seen) e.name in
    let f = shut-falls p (length (last_name seen)) (opened seen) (opened-falls seen) in
    let ks = shut p (opened seen) in
    let g = falls-more p (length e.name) ks (common_right (last_name seen) e.name) f in
    ⊎_elim (λ h. subst (λ (l : List ℕ). Falls (length e.name) l) (sym (noted-tree e ks h)) g)
    (λ h. subst (λ (l : List ℕ). Falls (length e.name) l) (sym (noted-file e ks h)) (omega arith, g))
    (two (is_tree e.mode))

-- ---- each is the length of a file's name that starts the last name

abbrev FileOf : List Entry → List ℕ → ℕ → Type 0
FileOf seen n k = (d : Entry) × Among d seen × (is_tree d.mode ≡ false) × (length d.name ≡ k) × (k ≤ common_start d.name n)

-- of those that stay at the next name n, if it holds of all
left-of : (seen : List Entry) → ((k : ℕ) → In k (opened seen) → FileOf seen (last_name seen) k) → (n : List ℕ) (k : ℕ) → In k (shut (common_start (last_name seen) n) (opened seen)) → FileOf seen n k
left-of seen all n k i =
    let p = common_start (last_name seen) n in
    let w = all k (shut_was p k (opened seen) i) in
    let h : k ≤ p = falls_in p k (shut p (opened seen)) (shut-falls p (length (last_name seen)) (opened seen) (opened-falls seen)) i in
    (w.0, w.1, w.2, w.3, common_through k w.0.name (last_name seen) n w.4 h)

opened-file : (seen : List Entry) (k : ℕ) → In k (opened seen) → FileOf seen (last_name seen) k
unfolding opened last_name
opened-file [] k i = absurd i
opened-file (e ∷ seen) k i =
    let ks = shut (common_start (last_name seen) e.name) (opened seen) in
    let old : In k ks → FileOf (e ∷ seen) e.name k = λ j. let w = left-of seen (opened-file seen) e.name k j in (w.0, inr w.1, w.2, w.3, w.4) in
    ⊎_elim (λ h. old (subst (λ (l : List ℕ). In k l) (noted-tree e ks h) i))
    (λ h. ⊎_elim (λ q. (e, inl refl, h, sym q, omega (arith, common-self e.name))) old (subst (λ (l : List ℕ). In k l) (noted-file e ks h) i))
    (two (is_tree e.mode))

left-file : (seen : List Entry) (n : List ℕ) (k : ℕ) → In k (shut (common_start (last_name seen) n) (opened seen)) → FileOf seen n k
left-file seen n k i = left-of seen (opened-file seen) n k i

-- ---- and each such file is there

abbrev Lower : Entry → Entry → Type 0
Lower d e = name_order d.name (is_tree d.mode) e.name (is_tree e.mode) ≡ Less

-- every earlier entry is below, not the last alone
pub earlier : (seen : List Entry) (e : Entry) → Ascends (e ∷ seen) → (d : Entry) → Among d seen → Lower d e
earlier [] e h d m = absurd m
earlier (l ∷ seen) e h d (inl q) = subst (λ (x : Entry). Lower x e) (sym q) h.0
earlier (l ∷ seen) e h d (inr m) = order_trans d.name (is_tree d.mode) l.name (is_tree l.mode) e.name (is_tree e.mode) (earlier seen l h.1 d m) h.0

-- a file that starts e's name starts the last name before e
starts_last : (seen : List Entry) (e : Entry) → Ascends (e ∷ seen) → (d : Entry) → Among d seen → is_tree d.mode ≡ false → length d.name ≤ common_start d.name e.name → length d.name ≤ common_start d.name (last_name seen)
unfolding last_name
starts_last [] e h d m f s = absurd m
starts_last (l ∷ seen) e h d (inl q) f s = omega (arith, ap (λ (x : Entry). common_start d.name x.name) q, common-self d.name)
starts_last (l ∷ seen) e h d (inr m) f s =
    common_between d.name l.name (is_tree l.mode) e.name (is_tree e.mode)
    (subst (λ (b : Bool). name_order d.name b l.name (is_tree l.mode) ≡ Less) f (earlier seen l h.1 d m)) h.0 s

abbrev Kept : List Entry → Type 0
Kept seen = (d : Entry) → Among d seen → is_tree d.mode ≡ false → length d.name ≤ common_start d.name (last_name seen) → In (length d.name) (opened seen)

left-kept : (seen : List Entry) → Kept seen → (e : Entry) → Ascends (e ∷ seen) → (d : Entry) → Among d seen → is_tree d.mode ≡ false → length d.name ≤ common_start d.name e.name → In (length d.name) (shut (common_start (last_name seen) e.name) (opened seen))
left-kept seen all e h d m f s =
    let g = starts_last seen e h d m f s in
    let t : length d.name ≤ common_start (last_name seen) d.name = omega (arith, common_turn (last_name seen) d.name) in
    shut-keeps (common_start (last_name seen) e.name) (length d.name) (opened seen) (common_through (length d.name) (last_name seen) d.name e.name t s) (all d m f g)

noted-keeps : (e : Entry) (k : ℕ) (ks : List ℕ) → In k ks → In k (noted e ks)
noted-keeps e k ks i =
    ⊎_elim (λ h. subst (λ (l : List ℕ). In k l) (sym (noted-tree e ks h)) i) (λ h. subst (λ (l : List ℕ). In k l) (sym (noted-file e ks h)) (inr i)) (two (is_tree e.mode))

opened-kept : (seen : List Entry) → Ascends seen → Kept seen
unfolding opened last_name
opened-kept [] h d m f s = absurd m
opened-kept (e ∷ seen) h d (inl q) f s =
    subst (λ (l : List ℕ). In (length d.name) l) (sym (noted-file e _ (ap (λ (x : Entry). is_tree x.mode) (sym q) ∙ f))) (inl (ap (λ (x : Entry). length x.name) q))
opened-kept (e ∷ seen) h d (inr m) f s = noted-keeps e _ _ (left-kept seen (opened-kept seen h.1) e h d m f s)

-- ---- equal names

and_parts : (a b : Bool) → (a && b) ≡ true → (a ≡ true) × (b ≡ true)
and_parts true b h = (refl, h)
and_parts false b h = let z : ◌≡◌ {A = ℕ} 0 1 = cc in absurd (omega arith)

or_parts : (a b : Bool) → (a || b) ≡ true → (a ≡ true) ⊎ (b ≡ true)
or_parts true b h = inl refl
or_parts false b h = inr h

pub named-there : (seen : List Entry) (n : List ℕ) → named_before seen n ≡ true → (d : Entry) × Among d seen × (d.name ≡ n)
unfolding named_before
named-there [] n h = let z : ◌≡◌ {A = ℕ} 0 1 = cc in absurd (omega arith)
named-there (e ∷ seen) n h =
    ⊎_elim (λ p. (e, inl refl, same_true e.name n p)) (λ p. let w = named-there seen n p in (w.0, inr w.1, w.2)) (or_parts (same_bytes e.name n) (named_before seen n) h)

or_right : (a : Bool) → (a || true) ≡ true
or_right true = refl
or_right false = refl

pub there-named : (seen : List Entry) (n : List ℕ) (d : Entry) → Among d seen → d.name ≡ n → named_before seen n ≡ true
unfolding named_before
there-named [] n d m q = absurd m
there-named (e ∷ seen) n d (inl p) q =
    let r : same_bytes e.name n ≡ true = rw (← q, p) (same_refl e.name) in rw r
there-named (e ∷ seen) n d (inr m) q = rw (there-named seen n d m q) (or_right (same_bytes e.name n))

-- of two entries of one name the lower is a file and the other a folder
not_down : (n : List ℕ) → name_order n true n false ≡ Less → ⊥
unfolding name_order next
not_down [] h = omega (arith, by-below h)
not_down (x ∷ n) h = not_down n (below_rest x n true x n false refl h)

own : (n : List ℕ) (s t : Bool) → name_order n s n t ≡ Less → (s ≡ false) × (t ≡ true)
own n true true h = absurd (order_irreflexive n true h)
own n true false h = absurd (not_down n h)
own n false true h = (refl, refl)
own n false false h = absurd (order_irreflexive n false h)

pub own_kinds : (d e : Entry) → Lower d e → d.name ≡ e.name → (is_tree d.mode ≡ false) × (is_tree e.mode ≡ true)
own_kinds d e h q = own e.name (is_tree d.mode) (is_tree e.mode) (rw q at h)

-- ---- the theorem

-- the entry is a folder and its name is open
unfoldable pub marked : List Entry → Entry → Bool
marked seen e = is_tree e.mode && top_is (length e.name) (held (e ∷ seen))

marked_there : (seen : List Entry) (e : Entry) → marked seen e ≡ true → named_before seen e.name ≡ true
unfolding marked held
marked_there seen e h =
    let w = and_parts (is_tree e.mode) _ h in
    let d = left-file seen e.name (length e.name) (top_in (length e.name) (shut (common_start (last_name seen) e.name) (opened seen)) w.1) in
    there-named seen e.name d.0 d.1 (common_whole d.0.name e.name d.3 (omega (arith, d.3, d.4)))

there_marked : (seen : List Entry) (e : Entry) → Ascends (e ∷ seen) → named_before seen e.name ≡ true → marked seen e ≡ true
unfolding marked held
there_marked seen e h b =
    let w = named-there seen e.name b in
    let d = w.0 in
    let k = own_kinds d e (earlier seen e h d w.1) w.2 in
    let q : length d.name ≡ length e.name = ap length w.2 in
    let c : common_start d.name e.name ≡ length d.name = ap (λ (n : List ℕ). common_start d.name n) (sym w.2) ∙ common-self d.name in
    let p = common_start (last_name seen) e.name in
    let i = left-kept seen (opened-kept seen h.1) e h d w.1 k.0 (omega arith) in
    let f = falls-more p (length e.name) (shut p (opened seen)) (common_right (last_name seen) e.name) (shut-falls p (length (last_name seen)) (opened seen) (opened-falls seen)) in
    let t : top_is (length e.name) (shut p (opened seen)) ≡ true = in_top (length e.name) (shut p (opened seen)) f (subst (λ (j : ℕ). In j (shut p (opened seen))) q i) in
    rw k.1 t

pub marked_is : (seen : List Entry) (e : Entry) → Ascends (e ∷ seen) → marked seen e ≡ named_before seen e.name
marked_is seen e h = same_test _ _ (marked_there seen e) (there_marked seen e h)

-- ---- how many can be open at once

-- a file's own length is not open already
once : (seen : List Entry) (e : Entry) → Ascends (e ∷ seen) → is_tree e.mode ≡ false → In (length e.name) (shut (common_start (last_name seen) e.name) (opened seen)) → ⊥
once seen e h t i =
    let d = left-file seen e.name (length e.name) i in
    let k = own_kinds d.0 e (earlier seen e h d.0 d.1) (common_whole d.0.name e.name d.3 (omega (arith, d.3, d.4))) in
    let z : ◌≡◌ {A = ℕ} 0 1 = cc k.1 in
    omega arith

-- each shorter than the one before it
abbrev Steep : ℕ → List ℕ → Type 0
Steep m [] = Unit {0}
Steep m (k ∷ ks) = (k < m) × Steep k ks

steep_more : (m n : ℕ) (ks : List ℕ) → m ≤ n → Steep m ks → Steep n ks
steep_more m n [] h f = tt
steep_more m n (k ∷ ks) h f = (omega (arith, f.0), f.1)

shut_steep : (p m : ℕ) (ks : List ℕ) → Steep m ks → Steep (p + 1) (shut p ks)
unfolding shut
shut_steep p m [] f = tt
shut_steep p m (j ∷ ks) f =
    elim (dec_lt p j) [
      | yes h ↦ subst (λ (l : List ℕ). Steep (p + 1) l) (sym (shut_drops p j ks h)) (shut_steep p j ks f.1)
      | no h ↦ let g : j ≤ p = le_not p j h in subst (λ (l : List ℕ). Steep (p + 1) l) (sym (shut_stops p j ks g)) (omega arith, f.1)
    ]

-- without its own greatest value
steep_less : (m : ℕ) (ks : List ℕ) → Steep (m + 1) ks → (In m ks → ⊥) → Steep m ks
steep_less m [] f n = tt
steep_less m (k ∷ ks) f n = elim (dec_lt k m) [ yes h ↦ (h, f.1) | no h ↦ absurd (n (inl (omega (arith, f.0, le_not k m h)))) ]

pub opened_steep : (seen : List Entry) → Ascends seen → Steep (length (last_name seen) + 1) (opened seen)
unfolding opened last_name
opened_steep [] h = tt
opened_steep (e ∷ seen) h =
    let p = common_start (last_name seen) e.name in
    let ks = shut p (opened seen) in
    let f = shut_steep p (length (last_name seen) + 1) (opened seen) (opened_steep seen h.1) in
    let q = common_right (last_name seen) e.name in
    let g : Steep (length e.name + 1) ks = steep_more (p + 1) (length e.name + 1) ks (omega arith) f in
    ⊎_elim (λ t. subst (λ (l : List ℕ). Steep (length e.name + 1) l) (sym (noted-tree e ks t)) g)
    (λ t. subst (λ (l : List ℕ). Steep (length e.name + 1) l) (sym (noted-file e ks t)) (omega arith, steep_less (length e.name) ks g (λ i. once seen e h t i)))
    (two (is_tree e.mode))

-- the bytes of the names
unfoldable pub name_bytes : List Entry → ℕ
name_bytes [] = 0
name_bytes (e ∷ seen) = length e.name + name_bytes seen

total : List ℕ → ℕ
total [] = 0
total (k ∷ ks) = k + total ks

shut_total : (p : ℕ) (ks : List ℕ) → total (shut p ks) ≤ total ks
unfolding shut total
shut_total p [] = omega arith
shut_total p (j ∷ ks) =
    elim (dec_lt p j) [
      | yes h ↦ omega (arith, ap total (shut_drops p j ks h), shut_total p ks)
      | no h ↦ omega (arith, ap total (shut_stops p j ks (le_not p j h)))
    ]

opened_total : (seen : List Entry) → total (opened seen) ≤ name_bytes seen
unfolding opened total name_bytes
opened_total [] = omega arith
opened_total (e ∷ seen) =
    let p = common_start (last_name seen) e.name in
    let ks = shut p (opened seen) in
    ⊎_elim (λ t. omega (arith, ap total (noted-tree e ks t), shut_total p (opened seen), opened_total seen))
    (λ t. omega (arith, ap total (noted-file e ks t), shut_total p (opened seen), opened_total seen))
    (two (is_tree e.mode))

pub steep_length : (m : ℕ) (ks : List ℕ) → Steep m ks → length ks ≤ m
steep_length m [] f = omega arith
steep_length m (k ∷ ks) f = omega (arith, f.0, steep_length k ks f.1)

square : (n : ℕ) → (n + 1) * (n + 1) ≡ n * n + 2 * n + 1
square n = omega arith

steep_total : (m : ℕ) (ks : List ℕ) → Steep m ks → length ks * length ks ≤ 2 * total ks + length ks
unfolding total
steep_total m [] f = omega arith
steep_total m (k ∷ ks) f =
    let n = length ks in
    let e : length (k ∷ ks) ≡ n + 1 = omega arith in
    rw e (omega (arith, square n, steep_length k ks f.1, steep_total k ks f.1))

spread : (a b : ℕ) → (a + 1) * b ≡ a * b + b
spread a b = omega arith

turned : (a b : ℕ) → a * b ≡ b * a
turned a b = omega arith

grows : (n room : ℕ) → room < n → room * room + room + n ≤ n * n
grows n room h =
    omega (arith, mul-le-mul_right {m = room + 1} {n = n} n (omega arith), mul-le-mul_right {m = room + 1} {n = n} room (omega arith), spread room n, spread room room, turned room n)

-- no more than so much room takes
pub opened-few : (seen : List Entry) → Ascends seen → (bytes room : ℕ) → name_bytes seen ≤ bytes → 2 * bytes < room * room + room → length (opened seen) ≤ room
opened-few seen h bytes room b r =
    let n = length (opened seen) in
    let q = steep_total (length (last_name seen) + 1) (opened seen) (opened_steep seen h) in
    elim (dec_lt room n) [ yes g ↦ absurd (omega (arith, q, opened_total seen, grows n room g)) | no g ↦ le_not room n g ]

shut_fewer : (p : ℕ) (ks : List ℕ) → length (shut p ks) ≤ length ks
unfolding shut
shut_fewer p [] = omega arith
shut_fewer p (j ∷ ks) =
    elim (dec_lt p j) [
      | yes h ↦ omega (arith, ap length (shut_drops p j ks h), shut_fewer p ks)
      | no h ↦ omega (arith, ap length (shut_stops p j ks (le_not p j h)))
    ]

pub held-few : (seen : List Entry) (e : Entry) → Ascends seen → (bytes room : ℕ) → name_bytes seen ≤ bytes → 2 * bytes < room * room + room → length (held (e ∷ seen)) ≤ room
unfolding held
held-few seen e h bytes room b r = omega (arith, shut_fewer (common_start (last_name seen) e.name) (opened seen), opened-few seen h bytes room b r)

-- and no more than the name before has bytes, and one
pub held-within : (seen : List Entry) (e : Entry) → Ascends seen → length (held (e ∷ seen)) ≤ length (last_name seen) + 1
unfolding held
held-within seen e h =
    omega (arith, shut_fewer (common_start (last_name seen) e.name) (opened seen), steep_length (length (last_name seen) + 1) (opened seen) (opened_steep seen h))
