-- The edits of a listing, by its table, and what they carry over. Assumes nothing.
use Prim.Native.Nat.{ℕ}
use mathlib.Core.Bool.{Bool, true, false, false≢true}
use mathlib.Core.Path.{◌≡◌, refl, ap, sym, ◌∙◌}
use mathlib.Core.List.{List, [], ◌∷◌}
use Rattle.ground.specs.Basics.{pick}
use Rattle.ground.specs.Scan.{same_bytes}
use Rattle.ground.proofs.Laws.{same_refl, same_true}
use Rattle.entry.specs.Entry.{Entry}
use Rattle.rules.specs.Rules.{stands_before}
use Rattle.edit.specs.Table.{remove_from, insert, put_in, none, held, table_of, table_put, table_remove}

-- no entry has the name
abbrev pub Without : List ℕ → List Entry → Type 0
Without name [] = Unit {0}
Without name (e ∷ es) = (same_bytes e.name name ≡ false) × Without name es

pub removed_without : (name : List ℕ) (es : List Entry) → Without name (remove_from name es)
unfolding remove_from
removed_without name [] = tt
removed_without name (e ∷ es) = go (removed_without name es) (same_bytes e.name name) refl
  where
    go : Without name (remove_from name es) → (u : Bool) → same_bytes e.name name ≡ u → Without name (pick u (remove_from name es) (e ∷ remove_from name es))
    go ih true q = ih
    go ih false q = (q, ih)

pub without_same : (name : List ℕ) (es : List Entry) → Without name es → remove_from name es ≡ es
unfolding remove_from
without_same name [] w = refl
without_same name (e ∷ es) w = rw w.0 (ap (λ (l : List Entry). e ∷ l) (without_same name es w.1))

insert_removed : (new : Entry) (es : List Entry) → Without new.name es → remove_from new.name (insert new es) ≡ es
unfolding remove_from insert
insert_removed new [] w = rw (same_refl new.name) refl
insert_removed new (e ∷ es) w = go (insert_removed new es w.1) (stands_before e new)
  where
    go : remove_from new.name (insert new es) ≡ es → (v : Bool) → remove_from new.name (pick v (e ∷ insert new es) (new ∷ e ∷ es)) ≡ e ∷ es
    go ih true = rw w.0 (ap (λ (l : List Entry). e ∷ l) ih)
    go ih false = rw (same_refl new.name, w.0) (ap (λ (l : List Entry). e ∷ l) (without_same new.name es w.1))

pub carried_over : (new : Entry) (es : List Entry) → remove_from new.name (put_in new es) ≡ remove_from new.name es
unfolding put_in
carried_over new es = insert_removed new (remove_from new.name es) (removed_without new.name es)

-- ---- the table

not-both : (a b c : List ℕ) → same_bytes a b ≡ false → same_bytes a c ≡ true → same_bytes b c ≡ true → ⊥
not-both a b c p q r =
    let x : a ≡ c = same_true a c q in
    let y : b ≡ c = same_true b c r in
    false≢true (sym p ∙ ap (same_bytes a) (y ∙ sym x) ∙ same_refl a)

pub remove-table : (name : List ℕ) (es : List Entry) (n : List ℕ) → table_of (remove_from name es) n ≡ table_remove name (table_of es) n
unfolding table_of table_remove remove_from
remove-table name [] n = go (same_bytes name n)
  where
    go : (u : Bool) → none ≡ pick u none none
    go true = refl
    go false = refl
remove-table name (e ∷ es) n = go (remove-table name es n) (same_bytes e.name name) (same_bytes e.name n) (same_bytes name n) refl refl refl
  where
    go : table_of (remove_from name es) n ≡ pick (same_bytes name n) none (table_of es n) → (u v w : Bool) → same_bytes e.name name ≡ u → same_bytes e.name n ≡ v → same_bytes name n ≡ w
        → table_of (pick u (remove_from name es) (e ∷ remove_from name es)) n ≡ pick w none (pick v (held e.mode e.id) (table_of es n))
    go ih true v true p q r = ih ∙ rw r refl
    go ih true true false p q r = absurd (false≢true (sym r ∙ ap (λ (x : List ℕ). same_bytes x n) (sym (same_true e.name name p)) ∙ q))
    go ih true false false p q r = ih ∙ rw r refl
    go ih false true true p q r = absurd (not-both e.name name n p q r)
    go ih false true false p q r = rw q refl
    go ih false false w p q r = rw q (ih ∙ ap (λ (b : Bool). pick b none (table_of es n)) r)

insert-table : (new : Entry) (es : List Entry) (n : List ℕ) → Without new.name es → table_of (insert new es) n ≡ pick (same_bytes new.name n) (held new.mode new.id) (table_of es n)
unfolding table_of insert
insert-table new [] n w = refl
insert-table new (e ∷ es) n w = go (insert-table new es n w.1) (stands_before e new) (same_bytes e.name n) (same_bytes new.name n) refl refl
  where
    go : table_of (insert new es) n ≡ pick (same_bytes new.name n) (held new.mode new.id) (table_of es n) → (v a b : Bool) → same_bytes e.name n ≡ a → same_bytes new.name n ≡ b
        → table_of (pick v (e ∷ insert new es) (new ∷ e ∷ es)) n ≡ pick b (held new.mode new.id) (pick a (held e.mode e.id) (table_of es n))
    go ih true true true p q = absurd (not-both e.name new.name n w.0 p q)
    go ih true true false p q = rw p refl
    go ih true false b p q = rw p (ih ∙ ap (λ (x : Bool). pick x (held new.mode new.id) (table_of es n)) q)
    go ih false a b p q = rw (q, p) refl

pub put-table : (new : Entry) (es : List Entry) (n : List ℕ) → table_of (put_in new es) n ≡ table_put new (table_of es) n
unfolding put_in table_put table_remove
put-table new es n =
    insert-table new (remove_from new.name es) n (removed_without new.name es) ∙ go (same_bytes new.name n) refl
  where
    go : (b : Bool) → same_bytes new.name n ≡ b → pick b (held new.mode new.id) (table_of (remove_from new.name es) n) ≡ pick b (held new.mode new.id) (table_of es n)
    go true q = refl
    go false q = remove-table new.name es n ∙ rw q refl
