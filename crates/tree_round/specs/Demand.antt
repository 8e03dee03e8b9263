-- What is claimed of an object that was read by any rules that keep the laws of `one_listing`: bisection in it, and its rewriting; and of reading back what
-- was written. Assumes nothing.
use Rattle.std.specs.Prelude.{ℕ, ◌*◌, ◌≤◌, ◌<◌, ◌≡◌, Bool, true, List, [], ◌∷◌, map, ◌↔◌, length, get_or, take}
use Rattle.ground.specs.Scan.{free_of}
use Rattle.ground.specs.Verdict.{counted, most_bytes, most_records}
use Rattle.mode.specs.Mode.{is_tree}
use Rattle.entry.specs.Record.{width, many, records_of}
use Rattle.entry.specs.Entry.{Entry, entries_of}
use Rattle.entry.specs.declared.EntryRecord.{EntryRecord}
use Rattle.reading.specs.Listing.{listing}
use Rattle.rules.specs.Rules.{Rules}
use Rattle.strict.specs.Strict.{strictly}
use Rattle.reading.specs.Whole.{read_answer, read_records}
use Rattle.one_listing.specs.Again.{again_entry}
use Rattle.one_listing.specs.Demand.{Accepts}
use Rattle.lookup.specs.Halving.{found, absent}
use Rattle.lookup.specs.Lookup.{lookup_in}
use Rattle.tree_write.specs.Write.{written, tree_answer}

-- the records that the strict reader returned by some rules, as they lie in the lent list
abbrev pub returned : Rules → ℕ → List ℕ → List ℕ → ℕ → List ℕ
returned R h s lent n = take (n * width) (read_records h s (strictly R h s) lent)

-- the entry at an index of a listing has this name and this sort
abbrev pub empty_entry : Entry
empty_entry = record { mode = 0; name = []; id = [] }

pub record Holds (es : List Entry) (name : List ℕ) (folder : Bool) (i : ℕ) : Type 0 where
  pub inside : i < length es
  pub named : (get_or es i empty_entry).name ≡ name
  pub sort : is_tree (get_or es i empty_entry).mode ≡ folder

-- The search for a name without a slash and for a sort, in an object that was accepted: an index is answered where the entry there has both, and only there.
abbrev pub Finds : Rules → Type 0
Finds R =
    (h : ℕ) (s lent : List ℕ) (es : List Entry) → Accepts R h s lent es → (name : List ℕ) → length name ≤ most_bytes → free_of 47 name ≡ true → (folder : Bool) (i : ℕ)
    → ((c : ℕ) × (lookup_in h s (records_of (returned R h s lent (length es))) name folder ≡ found i c)) ↔ Holds es name folder i

-- It answers 15 exactly when no entry has the name and the sort.
abbrev pub Misses : Rules → Type 0
Misses R =
    (h : ℕ) (s lent : List ℕ) (es : List Entry) → Accepts R h s lent es → (name : List ℕ) → length name ≤ most_bytes → free_of 47 name ≡ true → (folder : Bool)
    → ((c : ℕ) × (lookup_in h s (records_of (returned R h s lent (length es))) name folder ≡ absent c)) ↔ ((i : ℕ) → Holds es name folder i → ⊥)

-- What the strict reader accepts the plain reader accepts, with the same answer and the same records.
abbrev pub PlainToo : Rules → Type 0
PlainToo R =
    (h : ℕ) (s lent : List ℕ) (es : List Entry) → Accepts R h s lent es
    → (read_answer h s (listing h s) lent ≡ counted (length es)) × (read_records h s (listing h s) lent ≡ read_records h s (strictly R h s) lent)

-- An accepted object, written from the records that were returned into room for it, is itself, byte for byte.
abbrev pub Rewrites : Rules → Type 0
Rewrites R =
    (h : ℕ) (s lent : List ℕ) (es : List Entry) (room : ℕ) → Accepts R h s lent es → length s ≤ room → room ≤ most_bytes
    → (tree_answer h s (returned R h s lent (length es)) room ≡ counted (length s)) × (written h s (records_of (returned R h s lent (length es))) ≡ s)

-- no record has mode 0
abbrev pub SomeModes : List EntryRecord → Type 0
SomeModes [] = Unit {0}
SomeModes (r ∷ rs) = (r.mode ≡ 0 → ⊥) × SomeModes rs

-- What was written from records, none of mode 0, the plain reader accepts with room for it, and it returns the same names and ids, each with the mode
-- that its text reads as.
abbrev pub ReadsBack : Type 0
ReadsBack =
    (h : ℕ) (bytes records lent : List ℕ) (room n : ℕ) → tree_answer h bytes records room ≡ counted n → SomeModes (records_of records)
    → length (records_of records) ≤ many (length lent) → many (length lent) ≤ most_records
    → let w = written h bytes (records_of records) in let k = length (records_of records) in
    (read_answer h w (listing h w) lent ≡ counted k)
    × (entries_of h w (take k (records_of (read_records h w (listing h w) lent))) ≡ map again_entry (entries_of h bytes (records_of records)))
