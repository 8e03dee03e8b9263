-- An edit of a sound listing is a sound listing. Assumes nothing.
use Prim.Native.Nat.{ℕ}
use mathlib.Core.Bool.{Bool, true, false, false≢true}
use mathlib.Core.Path.{◌≡◌, refl, ap, sym, ◌∙◌}
use mathlib.Core.List.Memᴰ
use mathlib.Core.List.{List, [], ◌∷◌, Memᴰ}
use mathlib.Core.Logic.{◌⊎◌, inl, inr}
use Rattle.ground.specs.Basics.{pick}
use Rattle.ground.specs.Scan.{same_bytes, free_of}
use Rattle.ground.proofs.Laws.{same_refl}
use Rattle.mode.specs.Mode.{is_tree}
use Rattle.order.specs.Order.{is_below, name_order, opposite}
use Rattle.order.proofs.Laws.{below-is, order_flip, order_trans, order_same}
use Rattle.entry.specs.Entry.{Entry}
use Rattle.doubles.specs.Doubles.{named_before}
use Rattle.rules.specs.Rules.{git_rules, stands_before, is_after, after_number}
use Rattle.one_listing.specs.Sound.{SoundEntry, Before, Ascending, EachSound, Distinct, SoundListing}
use Rattle.one_listing.proofs.Present.{plainly}
use Rattle.edit.specs.Table.{remove_from, insert, put_in}
use Rattle.edit.specs.Edit.{new_no}
use Rattle.edit.proofs.Leaves.{new-good}
use Rattle.editing.proofs.Tables.{Without, removed_without}
use Rattle.std.specs.declared.cmp.Ordering.{Ordering}
use Rattle.std.specs.declared.cmp.Ordering.TheVariants.{Equal, Greater, Less}

-- ---- each entry

remove-each : (k h : ℕ) (name : List ℕ) (es : List Entry) → EachSound k h es → EachSound k h (remove_from name es)
unfolding remove_from
remove-each k h name [] s = tt
remove-each k h name (e ∷ es) s = go (remove-each k h name es s.1) (same_bytes e.name name)
  where
    go : EachSound k h (remove_from name es) → (u : Bool) → EachSound k h (pick u (remove_from name es) (e ∷ remove_from name es))
    go ih true = ih
    go ih false = (s.0, ih)

insert-each : (k h : ℕ) (new : Entry) (es : List Entry) → SoundEntry k h new → EachSound k h es → EachSound k h (insert new es)
unfolding insert
insert-each k h new [] n s = (n, tt)
insert-each k h new (e ∷ es) n s = go (insert-each k h new es n s.1) (stands_before e new)
  where
    go : EachSound k h (insert new es) → (v : Bool) → EachSound k h (pick v (e ∷ insert new es) (new ∷ e ∷ es))
    go ih true = (s.0, ih)
    go ih false = (n, s)

-- ---- their order

weaken : (a b : Entry) (es : List Entry) → Before a b → Ascending (b ∷ es) → Ascending (a ∷ es)
weaken a b [] p s = tt
weaken a b (c ∷ es) p s = (order_trans a.name (is_tree a.mode) b.name (is_tree b.mode) c.name (is_tree c.mode) p s.0, s.1)

remove-past : (name : List ℕ) (a : Entry) (es : List Entry) → Ascending (a ∷ es) → Ascending (a ∷ remove_from name es)
unfolding remove_from
remove-past name a [] s = tt
remove-past name a (e ∷ es) s = go (remove-past name a es (weaken a e es s.0 s.1)) (remove-past name e es s.1) (same_bytes e.name name)
  where
    go : Ascending (a ∷ remove_from name es) → Ascending (e ∷ remove_from name es) → (u : Bool) → Ascending (a ∷ pick u (remove_from name es) (e ∷ remove_from name es))
    go ih jh true = ih
    go ih jh false = (s.0, jh)

ascending_rest : (a : Entry) (es : List Entry) → Ascending (a ∷ es) → Ascending es
ascending_rest a [] s = tt
ascending_rest a (e ∷ es) s = s.1

remove-ascends : (name : List ℕ) (es : List Entry) → Ascending es → Ascending (remove_from name es)
unfolding remove_from
remove-ascends name [] s = tt
remove-ascends name (e ∷ es) s = go (remove-ascends name es (ascending_rest e es s)) (remove-past name e es s) (same_bytes e.name name)
  where
    go : Ascending (remove_from name es) → Ascending (e ∷ remove_from name es) → (u : Bool) → Ascending (pick u (remove_from name es) (e ∷ remove_from name es))
    go ih jh true = ih
    go ih jh false = jh

stands : (e new : Entry) → stands_before e new ≡ true → Before e new
unfolding stands_before
stands e new q = below-is (name_order e.name (is_tree e.mode) new.name (is_tree new.mode)) q

-- an entry of another name that does not stand before stands after
turns : (e new : Entry) → free_of 47 e.name ≡ true → free_of 47 new.name ≡ true → same_bytes e.name new.name ≡ false → stands_before e new ≡ false → Before new e
unfolding stands_before
turns e new f g d q = go (name_order e.name (is_tree e.mode) new.name (is_tree new.mode)) refl q
  where
    go : (o : Ordering) → name_order e.name (is_tree e.mode) new.name (is_tree new.mode) ≡ o → is_below o ≡ false → Before new e
    go Less k z = absurd (false≢true (sym z))
    go Equal k z =
        let s = order_same e.name (is_tree e.mode) new.name (is_tree new.mode) f g k in
        absurd (false≢true (sym d ∙ ap (same_bytes e.name) (sym s.0) ∙ same_refl e.name))
    go Greater k z = order_flip e.name (is_tree e.mode) new.name (is_tree new.mode) ∙ ap opposite k

module _ (k h : ℕ) (new : Entry) (n : SoundEntry k h new) where
  insert-past : (a : Entry) (es : List Entry) → Before a new → Ascending (a ∷ es) → EachSound k h es → Without new.name es → Ascending (a ∷ insert new es)
  unfolding insert
  insert-past a [] p s c w = (p, tt)
  insert-past a (e ∷ es) p s c w = go (λ q. insert-past e es q s.1 c.1 w.1) (stands_before e new) refl
    where
      go : (Before e new → Ascending (e ∷ insert new es)) → (v : Bool) → stands_before e new ≡ v → Ascending (a ∷ pick v (e ∷ insert new es) (new ∷ e ∷ es))
      go ih true q = (s.0, ih (stands e new q))
      go ih false q = (p, (turns e new c.0.slashless n.slashless w.0 q, s.1))

  insert-ascends : (es : List Entry) → Ascending es → EachSound k h es → Without new.name es → Ascending (insert new es)
  unfolding insert
  insert-ascends [] s c w = tt
  insert-ascends (e ∷ es) s c w = go (stands_before e new) refl
    where
      go : (v : Bool) → stands_before e new ≡ v → Ascending (pick v (e ∷ insert new es) (new ∷ e ∷ es))
      go true q = insert-past e es (stands e new q) s c.1 w.1
      go false q = (turns e new c.0.slashless n.slashless w.0 q, s)

-- ---- no two of one name

mem_removed : (name : List ℕ) (es : List Entry) (b : Entry) → Memᴰ b (remove_from name es) → Memᴰ b es
unfolding remove_from
mem_removed name [] b m = m
mem_removed name (e ∷ es) b m = go (mem_removed name es b) (same_bytes e.name name) m
  where
    or : (Memᴰ b (remove_from name es) → Memᴰ b es) → (b ≡ e) ⊎ Memᴰ b (remove_from name es) → Memᴰ b (e ∷ es)
    or ih (inl q) = Memᴰ.head q
    or ih (inr i) = Memᴰ.tail (ih i)

    go : (Memᴰ b (remove_from name es) → Memᴰ b es) → (u : Bool) → Memᴰ b (pick u (remove_from name es) (e ∷ remove_from name es)) → Memᴰ b (e ∷ es)
    go ih true m = Memᴰ.tail (ih m)
    go ih false m = or ih (Memᴰ.cases_cons m)

remove_distinct : (name : List ℕ) (es : List Entry) → Distinct es → Distinct (remove_from name es)
unfolding remove_from
remove_distinct name [] d = tt
remove_distinct name (e ∷ es) d = go (remove_distinct name es d.1) (same_bytes e.name name)
  where
    go : Distinct (remove_from name es) → (u : Bool) → Distinct (pick u (remove_from name es) (e ∷ remove_from name es))
    go ih true = ih
    go ih false = ((λ b m. d.0 b (mem_removed name es b m)), ih)

without_apart : (name : List ℕ) (es : List Entry) → Without name es → (b : Entry) → Memᴰ b es → b.name ≡ name → ⊥
without_apart name [] w b m q = Memᴰ.not-nil m
without_apart name (e ∷ es) w b m q = go (without_apart name es w.1 b) (Memᴰ.cases_cons m)
  where
    go : (Memᴰ b es → b.name ≡ name → ⊥) → (b ≡ e) ⊎ Memᴰ b es → ⊥
    go ih (inl p) = false≢true (sym w.0 ∙ ap (λ (x : Entry). same_bytes x.name name) (sym p) ∙ ap (λ (n : List ℕ). same_bytes n name) q ∙ same_refl name)
    go ih (inr i) = ih i q

mem-insert : (new : Entry) (es : List Entry) (b : Entry) → Memᴰ b (insert new es) → (b ≡ new) ⊎ Memᴰ b es
unfolding insert
mem-insert new [] b m = Memᴰ.cases_cons m
mem-insert new (e ∷ es) b m = go (mem-insert new es b) (stands_before e new) m
  where
    more : (b ≡ new) ⊎ Memᴰ b es → (b ≡ new) ⊎ Memᴰ b (e ∷ es)
    more (inl q) = inl q
    more (inr i) = inr (Memᴰ.tail i)

    or : (Memᴰ b (insert new es) → (b ≡ new) ⊎ Memᴰ b es) → (b ≡ e) ⊎ Memᴰ b (insert new es) → (b ≡ new) ⊎ Memᴰ b (e ∷ es)
    or ih (inl q) = inr (Memᴰ.head q)
    or ih (inr i) = more (ih i)

    go : (Memᴰ b (insert new es) → (b ≡ new) ⊎ Memᴰ b es) → (v : Bool) → Memᴰ b (pick v (e ∷ insert new es) (new ∷ e ∷ es)) → (b ≡ new) ⊎ Memᴰ b (e ∷ es)
    go ih true m = or ih (Memᴰ.cases_cons m)
    go ih false m = Memᴰ.cases_cons m

insert_distinct : (new : Entry) (es : List Entry) → Distinct es → Without new.name es → Distinct (insert new es)
unfolding insert
insert_distinct new [] d w = ((λ b m q. Memᴰ.not-nil m), tt)
insert_distinct new (e ∷ es) d w = go (insert_distinct new es d.1 w.1) (stands_before e new)
  where
    apart : (b : Entry) → (b ≡ new) ⊎ Memᴰ b es → e.name ≡ b.name → ⊥
    apart b (inl p) q = without_apart new.name (e ∷ es) w e (Memᴰ.head refl) (q ∙ ap (λ (x : Entry). x.name) p)
    apart b (inr i) q = d.0 b i q

    go : Distinct (insert new es) → (v : Bool) → Distinct (pick v (e ∷ insert new es) (new ∷ e ∷ es))
    go ih true = ((λ b m. apart b (mem-insert new es b m)), ih)
    go ih false = ((λ b m q. without_apart new.name (e ∷ es) w b m (sym q)), d)

-- ---- both edits

new-sound : (k h : ℕ) (new : Entry) → new_no (git_rules k) h new ≡ 0 → SoundEntry k h new
unfolding git_rules after_number is_after named_before
new-sound k h new z =
    let g = new-good k h new z in
    ((plainly k h (new ∷ [])).1 (record { known = g.1; named = g.2; placed = refl; sized = g.0 }, tt)).0.0

pub remove-sound : (k h : ℕ) (name : List ℕ) (es : List Entry) → SoundListing k h es → SoundListing k h (remove_from name es)
remove-sound k h name es p = (remove-each k h name es p.0, remove-ascends name es p.1, remove_distinct name es p.2)

pub put-sound : (k h : ℕ) (new : Entry) (es : List Entry) → new_no (git_rules k) h new ≡ 0 → SoundListing k h es → SoundListing k h (put_in new es)
unfolding put_in
put-sound k h new es z p =
    let n = new-sound k h new z in
    let r = remove-sound k h new.name es p in
    let w = removed_without new.name es in (
      insert-each k h new (remove_from new.name es) n r.0,
      insert-ascends k h new n (remove_from new.name es) r.1 r.0 w,
      insert_distinct new (remove_from new.name es) r.2 w,
    )
