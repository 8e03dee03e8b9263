-- The verdict of a walk over two trees is one of those that its folders have, or done, 2, 27. Assumes nothing.
use Prim.Native.Nat.{ℕ, zero, suc}
use mathlib.Core.Bool.{Bool}
use mathlib.Core.List.{List, [], ◌∷◌}
use lib.Dec.{eqb, ltb}
use Rattle.ground.specs.Verdict.{verdict, fine, most_records}
use Rattle.ground.specs.declared.Verdict.{Verdict}
use Rattle.order.specs.Order.{name_order}
use Rattle.merge.specs.Merge.{by_order}
use Rattle.item.specs.Items.{Side, Named, is_folder, Folder, shut, holds, same_side}
use Rattle.walk.specs.Walk.{Lower, Out, put, and_then, change, both, rights, against, compare_entries, opened, compare_folders}
use Rattle.call.proofs.Laws.{each-pick}
use Rattle.std.specs.declared.cmp.Ordering.{Ordering}
use Rattle.std.specs.declared.cmp.Ordering.TheVariants.{Equal, Greater, Less}

-- a folder that opens, or is shut with such a verdict
abbrev pub Opens : (Verdict → Type 0) → Folder → Type 0
Opens P (shut v) = P v
Opens P (holds es) = Unit {0}

module _ (P : Verdict → Type 0) (ends : P fine) (two : P (verdict 2 0)) (deep : P (verdict 27 0)) where
  abbrev Ends : Out → Type 0
  Ends o = P o.verdict

  then-ends : (n : ℕ) (o : Out) (go : ℕ → Out) → Ends o → ((m : ℕ) → Ends (go m)) → Ends (and_then n o go)
  unfolding and_then
  then-ends n o go p q = each-pick Ends (eqb o.verdict.number 0) _ _ (q _) p

  module _ (below : Lower) (lower : (path a b : List ℕ) (n : ℕ) → Ends (below path a b n)) (prefix : List ℕ) where
    change-ends : (n : ℕ) (name : List ℕ) (t : Bool) (l r : Side) (go : ℕ → Out) → ((m : ℕ) → Ends (go m)) → Ends (change below prefix n name t l r go)
    unfolding change put
    change-ends n name t l r go q =
        then-ends n _ _ (each-pick Ends (ltb n most_records) _ _ ends two) (λ m. then-ends m _ go (each-pick Ends t _ _ (lower _ _ _ m) ends) q)

    both_ends : (n : ℕ) (l r : Named) (go : ℕ → Out) → ((m : ℕ) → Ends (go m)) → Ends (both below prefix n l r go)
    unfolding both
    both_ends n l r go q = each-pick Ends (same_side l.side r.side) _ _ (q n) (change-ends n _ _ _ _ go q)

    rights-ends : (rs : List Named) (n : ℕ) → Ends (rights below prefix n rs)
    unfolding rights
    rights-ends [] n = ends
    rights-ends (r ∷ rs) n = change-ends n _ _ _ _ _ (λ m. rights-ends rs m)

    order_ends : (o : Ordering) (x y z : Out) → Ends x → Ends y → Ends z → Ends (by_order o x y z)
    order_ends Less x y z p q r = p
    order_ends Equal x y z p q r = q
    order_ends Greater x y z p q r = r

    against-ends : (l : Named) (next : ℕ → List Named → Out) → ((m : ℕ) (rs : List Named) → Ends (next m rs)) → (rs : List Named) (n : ℕ) → Ends (against below prefix l next n rs)
    unfolding against
    against-ends l next q [] n = change-ends n _ _ _ _ _ (λ m. q m [])
    against-ends l next q (r ∷ rs) n =
        order_ends (name_order l.name (is_folder l) r.name (is_folder r)) _ _ _ (change-ends n _ _ _ _ _ (λ m. q m (r ∷ rs))) (both_ends n l r _ (λ m. q m rs))
        (change-ends n _ _ _ _ _ (λ m. against-ends l next q rs m))

    entries_end : (ls : List Named) (n : ℕ) (rs : List Named) → Ends (compare_entries below prefix ls n rs)
    unfolding compare_entries
    entries_end [] n rs = rights-ends rs n
    entries_end (l ∷ ls) n rs = against-ends l (compare_entries below prefix ls) (λ m qs. entries_end ls m qs) rs n

  opened-ends : (f : Folder) (go : List Named → Out) → Opens P f → ((es : List Named) → Ends (go es)) → Ends (opened f go)
  unfolding opened
  opened-ends (shut v) go p q = p
  opened-ends (holds es) go p q = q es

  pub walk_ends : (folder : List ℕ → Folder) → ((id : List ℕ) → Opens P (folder id)) → (d : ℕ) (prefix a b : List ℕ) (n : ℕ) → Ends (compare_folders folder d prefix a b n)
  unfolding compare_folders
  walk_ends folder f zero prefix a b n = deep
  walk_ends folder f (suc d) prefix a b n =
      opened-ends (folder a) _ (f a) (λ ls. opened-ends (folder b) _ (f b) (λ rs. entries_end (compare_folders folder d) (λ path x y m. walk_ends folder f d path x y m) prefix ls n rs))
