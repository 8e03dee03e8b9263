-- The first rewrite equals the second exactly when no mode that was read lies from 49153 to 53247: such a mode loses a digit. Assumes nothing.
use Prim.Native.Nat.{ℕ, ◌≤◌}
use native.Mathlib.Omega.{arith}
use mathlib.Core.Path.{◌≡◌, refl, ap, sym, ◌∙◌}
use mathlib.Core.List.{List, [], ◌∷◌, map}
use lib.ListN.{length}
use Rattle.mode_round.proofs.Again.{again-same}
use Rattle.entry.specs.Entry.{Entry, as_written, entry_of, entries_of}
use Rattle.entry.specs.declared.EntryRecord.{EntryRecord}
use Rattle.reading.specs.Listing.{listing, records_in}
use Rattle.one_listing.specs.Again.{again_entry}
use Rattle.rewriting.specs.Demand.{NoneBetween, FirstLasts}
use Rattle.rewriting.proofs.Settle.{again-shorter, again-length, length-cons, again_cons, no_longer, first, second}

module _ (h : ℕ) (s : List ℕ) where
  same_none : (rs : List EntryRecord) → length (as_written (entries_of h s rs)) ≤ length (as_written (map again_entry (entries_of h s rs))) → NoneBetween rs
  unfolding entry_of
  same_none [] p = tt
  same_none (r ∷ rs) p =
      let e : Entry = entry_of h s r in
      let a = length-cons e (entries_of h s rs) in
      let b = again_cons e (entries_of h s rs) in
      let n = no_longer (entries_of h s rs) in
      ((λ x y. omega (arith, again-shorter r.mode (omega arith) (omega arith))), same_none rs (omega (arith, again-length r.mode)))

  none-same : (rs : List EntryRecord) → NoneBetween rs → map again_entry (entries_of h s rs) ≡ entries_of h s rs
  unfolding entry_of again_entry
  none-same [] f = refl
  none-same (r ∷ rs) f = rw (again-same r.mode (λ x y. f.0 (omega arith) (omega arith)), none-same rs f.1)

pub first_lasts : FirstLasts
first_lasts h s lent n g = (
  (λ e.
      let q : as_written (entries_of h s (records_in (listing h s))) ≡ as_written (map again_entry (entries_of h s (records_in (listing h s))))
      = sym (first h s lent n g) ∙ e ∙ second h s lent n g in
      same_none h s (records_in (listing h s)) (omega (arith, ap length q))),
  (λ f. first h s lent n g ∙ ap as_written (sym (none-same h s (records_in (listing h s)) f)) ∙ sym (second h s lent n g)),
)
