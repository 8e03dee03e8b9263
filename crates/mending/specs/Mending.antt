-- What is claimed of mending, for every answer that the contract of `mend_tree` allows (`proofs/Theorem.antt` proves it). Assumes nothing.
use Rattle.std.specs.Prelude.{ℕ, ◌≤◌, ◌≡◌, length}
use mathlib.Core.List.{List, [], ◌∷◌, map, Memᴰ}
use Rattle.ground.specs.Verdict.{most_records}
use Rattle.entry.specs.Record.{many, name_of, id_of}
use Rattle.entry.specs.Entry.{Entry}
use Rattle.entry.specs.declared.EntryRecord.{EntryRecord}
use Rattle.rules.specs.Rules.{git_rules, stands_before}
use Rattle.reading.specs.Listing.{listing, records_in}
use Rattle.one_listing.specs.Demand.{Accepts}
use Rattle.sorting.specs.Sort.{sort_by}
use Rattle.mend.specs.Mend.{fates_of, kept_of, mended_entry, mended, mend_answer}

-- the entries of the new object
unfoldable pub mended_listing : ℕ → List ℕ → List Entry
mended_listing h s = sort_by stands_before (map (mended_entry h s) (kept_of h s))

-- a call that was done: with room for so many numbers and bytes it answers so many bytes and entries
abbrev pub Done : ℕ → List ℕ → ℕ → ℕ → Type 0
Done h s list room = (mend_answer h s list room).verdict.number ≡ 0

-- each number says kept
abbrev pub AllKept : List ℕ → Type 0
AllKept [] = Unit {0}
AllKept (f ∷ fs) = (f ≡ 0) × AllKept fs

pub record Mending : Type 0 where
  -- the list has a number for each entry of the object
  pub named : (h : ℕ) (s : List ℕ) (list room : ℕ) → Done h s list room
      → ((mend_answer h s list room).entries ≡ length (records_in (listing h s))) × (length (fates_of h s) ≡ length (records_in (listing h s)))
  -- the bytes written are the new object's, and are no more than the object's
  pub shorter : (h : ℕ) (s : List ℕ) (list room : ℕ) → Done h s list room
      → ((mend_answer h s list room).count ≡ length (mended h s)) × (length (mended h s) ≤ length s)
  -- each entry of the new object has the name and the id of an entry of the object
  pub names_and_ids : (h : ℕ) (s : List ℕ) (e : Entry) → Memᴰ e (mended_listing h s)
      → (r : EntryRecord) × Memᴰ r (records_in (listing h s)) × (e.name ≡ name_of s r) × (e.id ≡ id_of h s r)
  -- the new object is accepted under rule set 2, with just these entries, by a reader with room for as many records as the object has entries
  pub accepted : (h : ℕ) (s : List ℕ) (list room : ℕ) (lent : List ℕ) → Done h s list room → length (records_in (listing h s)) ≤ many (length lent)
      → many (length lent) ≤ most_records → Accepts (git_rules 2) h (mended h s) lent (mended_listing h s)
  -- where rule set 2 accepts the object, the new one is the same, byte for byte, and each of its numbers is 0
  pub unchanged : (h : ℕ) (s lent : List ℕ) (es : List Entry) → many (length lent) ≤ most_records → Accepts (git_rules 2) h s lent es
      → (mended h s ≡ s) × AllKept (fates_of h s)
  -- mending twice is mending once
  pub twice : (h : ℕ) (s : List ℕ) (list room : ℕ) → Done h s list room → (mended h (mended h s) ≡ mended h s) × AllKept (fates_of h (mended h s))
