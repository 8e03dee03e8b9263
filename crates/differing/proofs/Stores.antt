-- What strict reading opens is in order, so all of it holds of every store. Assumes nothing.
use Prim.Native.Nat.{ℕ}
use mathlib.Core.Bool.{Bool, true, false}
use mathlib.Core.Path.{◌≡◌, refl, subst}
use mathlib.Core.List.{List, [], ◌∷◌, map}
use native.Mathlib.Omega.{arith}
use borrow.Author.Tests.{eqb-true}
use lib.Dec.{eqb}
use Rattle.ground.specs.Basics.{pick}
use Rattle.ground.specs.Verdict.{verdict}
use Rattle.mode.specs.Mode.{is_tree}
use Rattle.order.specs.Order.{name_order}
use Rattle.order.proofs.Laws.{below-is}
use Rattle.entry.specs.Entry as entries
use Rattle.entry.specs.Entry.{Entry}
use Rattle.reading.specs.Listing.{Listing, done, stop, entry, listing, records_in}
use Rattle.doubles.specs.Doubles.{named_before}
use Rattle.rules.specs.Rules.{git_rules, judge, modes_of, or_else, is_text, permitted, is_dot_git, name_number, stands_before, is_after, after_number}
use Rattle.strict.specs.Strict.{strict_count, cut, text_of}
use Rattle.rules.proofs.Laws.{permitted-parts}
use Rattle.item.specs.Items.{Named, named_of, is_folder, Stored, missing, object, shut, holds, read_strictly, tree_of, folder_of}
use Rattle.differing.specs.Differing.{Slashless, Bound, any, past, Beyond, Ascending, StoreOrder, StoreEmpty, StoreDistinct}
use Rattle.differing.proofs.Theorems.{empty_exactly}
use Rattle.differing.proofs.Ordered.{git_order}
use Rattle.differing.proofs.Once.{distinct}
use Rattle.ground.specs.declared.Verdict.{Verdict}
use Rattle.std.specs.Prelude.{Err, Ok, Result}

judged : (k : ℕ) (before : List Entry) (text : List ℕ) (e : Entry) → judge (git_rules k) before text e ≡ 0 → (permitted e.name ≡ true) × (is_after before e ≡ true)
unfolding judge git_rules name_number after_number
judged k before text e h = cases (is_text (modes_of k) text) (permitted e.name) (is_dot_git e.name) (is_after before e) (named_before before e.name) refl refl h
  where
    cases : (t u g v w : Bool) → permitted e.name ≡ u → is_after before e ≡ v
        → or_else (pick t 0 5) (or_else (or_else (pick u 0 6) (pick g 18 0)) (or_else (pick v 0 7) (pick w 17 0))) ≡ 0 → (permitted e.name ≡ true) × (is_after before e ≡ true)
    cases true true false true w p q z = (p, q)
    cases true true true v w p q z = absurd (omega arith)
    cases true true false false w p q z = absurd (omega arith)
    cases true false g v w p q z = absurd (omega arith)
    cases false u g v w p q z = absurd (omega arith)

bound_of : List Entry → Bound
bound_of [] = any
bound_of (p ∷ ps) = past p.name (is_tree p.mode)

after_bound : (before : List Entry) (e : Entry) → is_after before e ≡ true → Beyond (bound_of before) e.name (is_tree e.mode)
unfolding bound_of is_after stands_before
after_bound [] e h = tt
after_bound (p ∷ ps) e h = below-is (name_order p.name (is_tree p.mode) e.name (is_tree e.mode)) h

cut_ascending : (k h start : ℕ) (s : List ℕ) (before : List Entry) (l : Listing) → Ascending (bound_of before) (map (named_of h start s) (records_in (cut (git_rules k) h s before l)))
unfolding records_in cut named_of entries.entry_of bound_of
cut_ascending k h start s before done = tt
cut_ascending k h start s before (stop v) = tt
cut_ascending k h start s before (entry at e l) = cases (cut_ascending k h start s (entries.entry_of h s e ∷ before) l) (eqb (judge (git_rules k) before (text_of s at e) (entries.entry_of h s e)) 0) refl
  where
    cases : Ascending (bound_of (entries.entry_of h s e ∷ before)) (map (named_of h start s) (records_in (cut (git_rules k) h s (entries.entry_of h s e ∷ before) l)))
        → (t : Bool) → eqb (judge (git_rules k) before (text_of s at e) (entries.entry_of h s e)) 0 ≡ t
        → Ascending (bound_of before) (map (named_of h start s) (records_in (pick t (entry at e (cut (git_rules k) h s (entries.entry_of h s e ∷ before) l)) (stop (verdict (judge (git_rules k) before (text_of s at e) (entries.entry_of h s e)) at)))))
    cases rec true q =
        let j = judged k before (text_of s at e) (entries.entry_of h s e) (eqb-true _ 0 q) in
        (j.0, after_bound before (entries.entry_of h s e) j.1, rec)
    cases rec false q = tt

holds-is : (es fs : List Named) → holds es ≡ holds fs → es ≡ fs
holds-is es fs e = cc

pub store_ascending : (k h : ℕ) (store : List ℕ → Stored) (id : List ℕ) (es : List Named) → folder_of k h store id ≡ holds es → Ascending any es
unfolding folder_of tree_of read_strictly bound_of
store_ascending k h store [] es e = subst (λ (l : List Named). Ascending any l) (holds-is [] es e) tt
store_ascending k h store (x ∷ id) es e = found (store (x ∷ id)) e
  where
    counted : (start : ℕ) (s : List ℕ) (c : Result ℕ Verdict) → read_strictly k h start s c ≡ holds es → Ascending any es
    counted start s (Err v) q = let z : ◌≡◌ {A = ℕ} 0 1 = cc in absurd (omega arith)
    counted start s (Ok n) q = subst (λ (l : List Named). Ascending any l) (holds-is _ es q) (cut_ascending k h start s [] (listing h s))

    found : (o : Stored) → tree_of k h o ≡ holds es → Ascending any es
    found missing q = let z : ◌≡◌ {A = ℕ} 0 1 = cc in absurd (omega arith)
    found (object kind start s) q = tree (eqb kind 2) q
      where
        tree : (t : Bool) → pick t (read_strictly k h start s (strict_count k h s)) (shut (verdict 28 0)) ≡ holds es → Ascending any es
        tree true q = counted start s (strict_count k h s) q
        tree false q = let z : ◌≡◌ {A = ℕ} 0 1 = cc in absurd (omega arith)

ascending_slashless : (b : Bound) (es : List Named) → Ascending b es → Slashless es
ascending_slashless b [] a = tt
ascending_slashless b (e ∷ es) a = ((permitted-parts e.name a.0).2, ascending_slashless (past e.name (is_folder e)) es a.2)

pub store_order : StoreOrder
store_order k h store d a b = git_order (folder_of k h store) (store_ascending k h store) d [] a b 0

pub store-empty : StoreEmpty
store-empty k h store d a b ls rs p q g =
    empty_exactly (folder_of k h store) d [] a b 0 ls rs p q (ascending_slashless any ls (store_ascending k h store a ls p)) (ascending_slashless any rs (store_ascending k h store b rs q)) g

pub store_distinct : StoreDistinct
store_distinct k h store d a b = distinct (store_order k h store d a b)
