-- In an accepted object bisection finds an entry exactly when it is there, and gives that one. Assumes nothing.
use Prim.Native.Nat.{ℕ, ◌≤◌, ◌<◌, max}
use native.Mathlib.Omega.{arith}
use mathlib.Core.Path.{◌≡◌, sym, subst, ◌∙◌}
use mathlib.Core.Bool.{Bool, true}
use mathlib.Core.List.{List}
use mathlib.Core.Logic.{◌↔◌}
use lib.ListN.{length, get_or, length-map, get_or-map}
use Rattle.ground.specs.Scan.{free_of}
use Rattle.ground.specs.Verdict.{most_bytes}
use Rattle.ground.proofs.Laws.{gate_fine, gate_open, get_d_any}
use Rattle.entry.specs.Record.{many, no_record, records_of, folder_of}
use Rattle.entry.specs.Entry.{Entry, entry_of, entries_of}
use Rattle.entry.specs.declared.EntryRecord.{EntryRecord}
use Rattle.reading.specs.Listing.{listing, records_in}
use Rattle.rules.specs.Rules.{Rules}
use Rattle.one_listing.specs.Lawful.{RulesOk}
use Rattle.one_listing.specs.Demand.{Accepts}
use Rattle.lookup.specs.Halving.{found, absent}
use Rattle.lookup.specs.Lookup.{lookup_in, nth, Allowed, Stands}
use Rattle.lookup.proofs.Theorems.{lookup-finds, lookup-misses}
use Rattle.tree_round.specs.Demand.{returned, empty_entry, Holds, Finds, Misses}
use Rattle.tree_round.proofs.Returned.{accepted, count-is, returned-is, entries_are, accepted-sorted}

-- an entry of the listing is the entry that its record names
entry_at : (h : ℕ) (s : List ℕ) (rs : List EntryRecord) (i : ℕ) → i < length rs → get_or (entries_of h s rs) i empty_entry ≡ entry_of h s (nth rs i)
entry_at h s rs i l =
    get_d_any (entries_of h s rs) i empty_entry (entry_of h s no_record) (rw (length-map rs (entry_of h s)) l) ∙ get_or-map (entry_of h s) rs i no_record

module _ (h : ℕ) (s : List ℕ) (rs : List EntryRecord) (name : List ℕ) (folder : Bool) (i : ℕ) where
  stands-holds : Stands s rs name folder i → Holds (entries_of h s rs) name folder i
  unfolding entry_of folder_of
  stands-holds t =
      let e = entry_at h s rs i t.inside in
      record { inside = rw (length-map rs (entry_of h s)) t.inside; named = rw e t.named; sort = rw e t.sort }

  holds-stands : Holds (entries_of h s rs) name folder i → Stands s rs name folder i
  unfolding entry_of folder_of
  holds-stands t =
      let l : i < length rs = rw (length-map rs (entry_of h s)) at t.inside in
      let e = entry_at h s rs i l in
      record { inside = l; named = rw e at t.named; sort = rw e at t.sort }

module _ (R : Rules) (ok : RulesOk R) (h : ℕ) (s lent : List ℕ) (es : List Entry) (a : Accepts R h s lent es) (name : List ℕ) (short : length name ≤ most_bytes) (free : free_of 47 name ≡ true) (folder : Bool) where
  abbrev rs : List EntryRecord
  rs = records_in (listing h s)

  -- the lookup is within the bounds
  pub allowed : Allowed h s rs name
  allowed =
      let w = accepted R h s lent es a in
      let g = gate_open h (length s) (many (length lent)) w.0 in
      gate_fine h (max (length s) (length name)) (length rs) g.0 (omega (arith, g.1)) (omega (arith, g.2, w.2, count-is R h s lent es a))

  same : entries_of h s rs ≡ es
  same = entries_are R h s lent es a

  finds_at : (i : ℕ) → ((c : ℕ) × (lookup_in h s (records_of (returned R h s lent (length es))) name folder ≡ found i c)) ↔ Holds es name folder i
  finds_at i =
      let f = lookup-finds h s rs (accepted-sorted R ok h s lent es a) name folder allowed free i in
      rw (returned-is R h s lent es a) (
        (λ w. subst (λ (l : List Entry). Holds l name folder i) same (stands-holds h s rs name folder i (f.0 w))),
        (λ t. f.1 (holds-stands h s rs name folder i (subst (λ (l : List Entry). Holds l name folder i) (sym same) t))),
      )

  misses_all : ((c : ℕ) × (lookup_in h s (records_of (returned R h s lent (length es))) name folder ≡ absent c)) ↔ ((i : ℕ) → Holds es name folder i → ⊥)
  misses_all =
      let f = lookup-misses h s rs (accepted-sorted R ok h s lent es a) name folder allowed free in
      rw (returned-is R h s lent es a) (
        (λ w i t. f.0 w i (holds-stands h s rs name folder i (subst (λ (l : List Entry). Holds l name folder i) (sym same) t))),
        (λ none. f.1 (λ i t. none i (subst (λ (l : List Entry). Holds l name folder i) same (stands-holds h s rs name folder i t)))),
      )

pub finds : (R : Rules) → RulesOk R → Finds R
finds R ok h s lent es a name short free folder i = finds_at R ok h s lent es a name short free folder i

pub misses : (R : Rules) → RulesOk R → Misses R
misses R ok h s lent es a name short free folder = misses_all R ok h s lent es a name short free folder
