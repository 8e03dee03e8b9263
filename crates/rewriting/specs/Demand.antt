-- What is claimed of reading an object plainly and writing it again, over and over (docs/FORMAT.md, "Rewriting"; `proofs/` proves it). Assumes nothing.
use Rattle.std.specs.Prelude.{ℕ, zero, suc, ◌-◌, ◌*◌, ◌≤◌, ◌≡◌, List, [], ◌∷◌, ◌↔◌, length, take}
use Rattle.ground.specs.Basics.{part}
use Rattle.ground.specs.Verdict.{counted, most_bytes}
use Rattle.mode_text.specs.Write.{write_mode}
use Rattle.entry.specs.Record.{width, records_of}
use Rattle.entry.specs.declared.EntryRecord.{EntryRecord}
use Rattle.reading.specs.Listing.{listing, records_in}
use Rattle.reading.specs.Whole.{read_answer, read_records}
use Rattle.tree_write.specs.Write.{written, tree_answer}
use Rattle.tree_round.specs.Demand.{SomeModes}

-- an object with ids of h bytes, read plainly and written from what was read
unfoldable pub rewrite : ℕ → List ℕ → List ℕ
rewrite h s = written h s (records_in (listing h s))

-- rewritten so many times
unfoldable pub times : ℕ → ℕ → List ℕ → List ℕ
times h zero s = s
times h (suc k) s = rewrite h (times h k s)

-- That is what reading and writing give: where the plain reader accepts, the records that it returns are written, into room enough, as the
-- rewritten object.
abbrev pub Passes : Type 0
Passes =
    (h : ℕ) (s lent : List ℕ) (n room : ℕ) → read_answer h s (listing h s) lent ≡ counted n → length (rewrite h s) ≤ room → room ≤ most_bytes
    → let records = take (n * width) (read_records h s (listing h s) lent) in
    (tree_answer h s records room ≡ counted (length (rewrite h s))) × (written h s (records_of records) ≡ rewrite h s)

-- ---- the objects that are spoken of

-- the plain reader accepts the object s, with this list lent, and counts n entries, none of mode 0
pub record Given (h : ℕ) (s lent : List ℕ) (n : ℕ) : Type 0 where
  pub answer : read_answer h s (listing h s) lent ≡ counted n
  pub modes : SomeModes (records_in (listing h s))

-- no mode lies from 49153 to 53247
abbrev pub NoneBetween : List EntryRecord → Type 0
NoneBetween [] = Unit {0}
NoneBetween (r ∷ rs) = (49153 ≤ r.mode → r.mode ≤ 53247 → ⊥) × NoneBetween rs

-- the mode text of an entry, as it stands in the object s: from where it starts to the space ahead of the name
unfoldable pub text_in : List ℕ → EntryRecord → List ℕ
text_in s r = part r.text_start (r.name_start - 1) s

-- each mode text in the object s is the one that is written for its mode
abbrev pub TextsAsWritten : List ℕ → List EntryRecord → Type 0
TextsAsWritten s [] = Unit {0}
TextsAsWritten s (r ∷ rs) = (text_in s r ≡ write_mode r.mode) × TextsAsWritten s rs

-- ---- the three sentences

-- Where the first rewrite is within the bound of a buffer, it and every later one is accepted again with the same list lent, with as many
-- entries, none of mode 0.
abbrev pub AcceptedAgain : Type 0
AcceptedAgain =
    (h : ℕ) (s lent : List ℕ) (n : ℕ) → Given h s lent n → length (rewrite h s) ≤ most_bytes → (k : ℕ) → Given h (times h k s) lent n

-- The second rewrite equals every later one.
abbrev pub SecondLasts : Type 0
SecondLasts = (h : ℕ) (s lent : List ℕ) (n : ℕ) → Given h s lent n → (k : ℕ) → 2 ≤ k → times h k s ≡ times h 2 s

-- The first rewrite is the second where no mode of the object lies from 49153 to 53247, and only there.
abbrev pub FirstLasts : Type 0
FirstLasts =
    (h : ℕ) (s lent : List ℕ) (n : ℕ) → Given h s lent n → (times h 1 s ≡ times h 2 s) ↔ NoneBetween (records_in (listing h s))

-- The object is its own first rewrite where each mode text is its mode's own, and only there.
abbrev pub OwnRewrite : Type 0
OwnRewrite =
    (h : ℕ) (s lent : List ℕ) (n : ℕ) → Given h s lent n → (s ≡ times h 1 s) ↔ TextsAsWritten s (records_in (listing h s))
