-- The first demand of the text of a listing. Assumes nothing.
use Prim.Native.Nat.{ℕ}
use mathlib.Core.Path.{◌≡◌, refl, sym, subst}
use mathlib.Core.List.{List, [], ◌∷◌}
use lib.Dec.{leb}
use lib.ListN.{length}
use Rattle.ground.specs.Verdict.{id_length, most_records}
use Rattle.reading.specs.Listing.{listing, tally}
use Rattle.reading.proofs.Laws.{tally_stops, plain_stops}
use Rattle.listing_text.specs.Text.{longest, tally_verdict, listed_of, listed}
use Rattle.listing_text.specs.declared.Listed.{Listed}
use Rattle.tree_calls.specs.First.{OfListing}
use Rattle.call.proofs.Laws.{same, one_list, Lists, keeps-stores, each-pick}
use Rattle.ground.specs.declared.Verdict.{Verdict}
use Rattle.std.specs.Prelude.{Err, Ok, Result}

abbrev numbers : List ℕ
numbers = 0 ∷ 1 ∷ 2 ∷ 3 ∷ []

tally-listed : (h : ℕ) (s : List ℕ) (c : Result ℕ Verdict) → tally 0 (listing h s) ≡ c → Lists numbers (tally_verdict c)
unfolding tally_verdict
tally-listed h s (Ok n) q = refl
tally-listed h s (Err v) q = tally_stops (Lists numbers) 0 (listing h s) v (plain_stops (Lists numbers) refl (λ at k p. p) h most_records 0 s) q

listing-listed : (h : ℕ) (s : List ℕ) → Lists numbers (listed h s).verdict
unfolding listed_of listed
listing-listed h s =
    each-pick (λ (x : Listed). Lists numbers x.verdict) (id_length h) _ _
    (each-pick (Lists numbers) (leb (length s) longest) _ _ (tally-listed h s (tally 0 (listing h s)) refl) refl) refl

pub of_listing : OfListing
of_listing = record {
  put_part = keeps-stores _ (λ i. tt) _ _ _ _ (λ i o m. m);
  put_listing = record {
    takes = λ i. tt;
    once = λ i o p m n. (same m.0 n.0, one_list (same m.1 n.1));
    known = λ i o m. subst (λ (x : Listed). Lists numbers x.verdict) (sym m.0) (listing-listed _ _);
  };
}
