-- What is claimed of the lookup of a name whatever its sort, in an object that was read strictly (`proofs/Any.antt` proves it). Assumes nothing.
use Rattle.std.specs.Prelude.{ℕ, ◌*◌, ◌≤◌, ◌<◌, ◌≡◌, true, List, ◌↔◌, length, get_or}
use Rattle.ground.specs.Scan.{free_of}
use Rattle.ground.specs.Verdict.{most_bytes}
use Rattle.entry.specs.Record.{records_of}
use Rattle.entry.specs.Entry.{Entry}
use Rattle.entry.specs.declared.EntryRecord.{EntryRecord}
use Rattle.rules.specs.Rules.{git_rules}
use Rattle.one_listing.specs.Demand.{Accepts}
use Rattle.lookup.specs.Halving.{found, absent, most_comparisons}
use Rattle.lookup.specs.Lookup.{any_in}
use Rattle.tree_round.specs.Demand.{returned, empty_entry}

-- the entry at an index of a listing has this name, whatever its sort
pub record Bears (es : List Entry) (name : List ℕ) (i : ℕ) : Type 0 where
  pub inside : i < length es
  pub named : (get_or es i empty_entry).name ≡ name

-- In an accepted object at most one entry has a name.
abbrev pub OnlyOne : Type 0
OnlyOne =
    (k h : ℕ) (s lent : List ℕ) (es : List Entry) → Accepts (git_rules k) h s lent es
    → (name : List ℕ) (i j : ℕ) → Bears es name i → Bears es name j → i ≡ j

-- The search for a name without a slash, of whatever sort: an index is answered where the entry there has the name, and only there.
abbrev pub FindsAny : Type 0
FindsAny =
    (k h : ℕ) (s lent : List ℕ) (es : List Entry) → Accepts (git_rules k) h s lent es
    → (name : List ℕ) → length name ≤ most_bytes → free_of 47 name ≡ true → (i : ℕ)
    → ((c : ℕ) × (any_in h s (records_of (returned (git_rules k) h s lent (length es))) name ≡ found i c)) ↔ Bears es name i

-- It answers 15 exactly when no entry has the name.
abbrev pub MissesAny : Type 0
MissesAny =
    (k h : ℕ) (s lent : List ℕ) (es : List Entry) → Accepts (git_rules k) h s lent es
    → (name : List ℕ) → length name ≤ most_bytes → free_of 47 name ≡ true
    → ((c : ℕ) × (any_in h s (records_of (returned (git_rules k) h s lent (length es))) name ≡ absent c)) ↔ ((i : ℕ) → Bears es name i → ⊥)

-- Whatever is lent, it compares at most twice as many records as their number has binary digits.
abbrev pub FewAny : Type 0
FewAny = (h : ℕ) (object : List ℕ) (records : List EntryRecord) (name : List ℕ) → (any_in h object records name).compared ≤ 2 * most_comparisons (length records)
