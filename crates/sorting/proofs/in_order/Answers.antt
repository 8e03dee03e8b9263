-- `sorting::in_order` meets its contract. Assumes nothing.
use Rattle.std.proofs.Common.{ℕ, ◌+◌, ◌<◌, ◌≡◌, Bool, true, false, not, List, length, get_or, MatchBool, refl, sym, subst, rules, arith, suc}
use Rattle.std.specs.List.{AllAdjacentBelow}
use Rattle.std.proofs.lemmas.Fn.{always_returns_same}
use mathlib.Core.Bool.{false≢true}
use Rattle.keys.specs.Key.{key_at, below_by}
use Rattle.sorting.specs.Sort.{Ascends, UpTo}
use Rattle.sorting.proofs.Sorted.{ascends-by}
use Rattle.sorting.proofs.in_order.Goals as goal

plain : (b : Bool) → not b ≡ true → b ≡ false
plain true h = absurd (false≢true h)
plain false h = refl

ascends : (below : ℕ → ℕ → Bool) (l : List ℕ) (r : Bool) (other : Type 0)
    → MatchBool r (AllAdjacentBelow (λ x y. true ≡ not (below y x)) l (length l)) other → r ≡ true → Ascends below l
ascends below l true other h e = ascends-by below 0 l (λ i p. let e : i + 1 ≡ suc i = omega arith in subst (λ (k : ℕ). UpTo below (get_or l i 0) (get_or l k 0)) e (plain _ (sym (h i 0 (omega arith)))))
ascends below l false other h e = absurd (false≢true e)

pub returns : goal.returns
returns c =
    let args = c.args in
    let below = below_by (key_at args.text.now args.mark args.width) in
    ascends below args.list.now _ _ (c.is_sorted_by.ensures.cases (λ x y. not (below y x)) (always_returns_same _ _ _ (λ a r f q. search rules)))
