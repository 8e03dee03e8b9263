-- Any sequence of edits leaves the table after them, as written; and edits that give the object back. Assumes nothing.
use Prim.Native.Nat.{ℕ}
use mathlib.Core.Bool.{Bool, true, false}
use mathlib.Core.Path.{◌≡◌, refl, ap, sym, ◌∙◌}
use mathlib.Core.List.{List, [], ◌∷◌}
use borrow.Author.Tests.{eqb-true}
use lib.ListN.{length}
use Rattle.ground.specs.Basics.{pick}
use Rattle.ground.specs.Scan.{same_bytes}
use Rattle.ground.proofs.Laws.{same_true}
use Rattle.entry.specs.Entry.{Entry}
use Rattle.edit.specs.Table.{remove_from, none, held, Table, table_put, table_remove}
use Rattle.editing.specs.Demand.{Written, DoneWritten, puts, removes, table_changed, number_of, given, is_done, next, after, table_after, InTurn, SamePut, ThereAndBack}
use Rattle.editing.proofs.Tables.{carried_over, removed_without, without_same}
use Rattle.editing.proofs.Writing.{one_writing, put_written, remove-written}

pub done-written : DoneWritten
done-written k h t s (puts new) out w z =
    let p = put_written k h t s w new out z in
    (p.0, ap (remove_from new.name) p.1 ∙ carried_over new w.listing)
done-written k h t s (removes name) out w z =
    let p = remove-written k h t s w name out z in
    (p.0, ap (remove_from name) p.1 ∙ without_same name (remove_from name w.listing) (removed_without name w.listing))

pub in_turn : InTurn
unfolding after table_after
in_turn k h t s [] w = w
in_turn k h t s (x ∷ xs) w = in_turn k h (pick (is_done k h s x) (table_changed x.change t) t) (next k h s x) xs (go (is_done k h s x) refl)
  where
    go : (v : Bool) → is_done k h s x ≡ v → Written k h (pick v (table_changed x.change t) t) (pick v (given k h s x.change x.out) s)
    go true e = (done-written k h t s x.change x.out w (eqb-true (number_of k h s x.change (length x.out)) 0 e)).0
    go false e = w

-- a table as written is also an equal table as written
with-table : (k h : ℕ) (t u : Table) (s : List ℕ) → ((n : List ℕ) → t n ≡ u n) → Written k h t s → Written k h u s
with-table k h t u s e w = record {
  rules = w.rules;
  id = w.id;
  listing = w.listing;
  sound = w.sound;
  bytes = w.bytes;
  holds = λ n. w.holds n ∙ e n;
  short = w.short;
  few = w.few;
}

put-there : (new : Entry) (t : Table) → t new.name ≡ held new.mode new.id → (n : List ℕ) → table_put new t n ≡ t n
unfolding table_put
put-there new t e n = go (same_bytes new.name n) refl
  where
    go : (v : Bool) → same_bytes new.name n ≡ v → pick v (held new.mode new.id) (t n) ≡ t n
    go true q = sym e ∙ ap t (same_true new.name n q)
    go false q = refl

pub same_put : SamePut
same_put k h t s new out w e z =
    one_writing k h t (given k h s (puts new) out) s
    (with-table k h (table_put new t) t (given k h s (puts new) out) (put-there new t e) (done-written k h t s (puts new) out w z).0) w

back-again : (new : Entry) (t : Table) → t new.name ≡ none → (n : List ℕ) → table_remove new.name (table_put new t) n ≡ t n
unfolding table_put table_remove
back-again new t e n = go (same_bytes new.name n) refl
  where
    go : (v : Bool) → same_bytes new.name n ≡ v → pick v none (pick v (held new.mode new.id) (t n)) ≡ t n
    go true q = sym e ∙ ap t (same_true new.name n q)
    go false q = refl

pub there_and_back : ThereAndBack
there_and_back k h t s new out back w e z y =
    let u = given k h s (puts new) out in
    let p = (done-written k h t s (puts new) out w z).0 in
    let r = (done-written k h (table_put new t) u (removes new.name) back p y).0 in
    one_writing k h t (given k h u (removes new.name) back) s
    (with-table k h (table_remove new.name (table_put new t)) t (given k h u (removes new.name) back) (back-again new t e) r) w
