-- One listing, one object: what is claimed of the strict reader (`proofs/Theorem.antt` proves it). Assumes nothing.
use Rattle.std.specs.Prelude.{ℕ, ◌≤◌, ◌<◌, ◌≡◌, ◌⊎◌, ◌↔◌, length, take}
use mathlib.Core.List.{List, [], Memᴰ}
use Rattle.ground.specs.Verdict.{verdict, counted, refused, most_bytes, most_records}
use Rattle.entry.specs.Record.{many, records_of}
use Rattle.entry.specs.Entry.{Entry, entries_of, as_written}
use Rattle.rules.specs.Rules.{Rules}
use Rattle.reading.specs.Whole.{read_answer, read_records}
use Rattle.strict.specs.Strict.{strictly}
use Rattle.one_listing.specs.Sound.{Sound}

-- the strict reader accepts the bytes s, with this list lent, and returns this listing: it counts its entries, and the first records of the list name them
pub record Accepts (R : Rules) (h : ℕ) (s lent : List ℕ) (es : List Entry) : Type 0 where
  pub answer : read_answer h s (strictly R h s) lent ≡ counted (length es)
  pub listed : entries_of h s (take (length es) (records_of (read_records h s (strictly R h s) lent))) ≡ es

-- two listings hold the same set of entries
abbrev pub SameSet : List Entry → List Entry → Type 0
SameSet es fs = (e : Entry) → Memᴰ e es ↔ Memᴰ e fs

-- whatever is counted has a listing: where the strict reader is done, it returns one
abbrev pub SomeListing : Rules → Type 0
SomeListing R = (h : ℕ) (s lent : List ℕ) (n : ℕ) → read_answer h s (strictly R h s) lent ≡ counted n → (es : List Entry) × Accepts R h s lent es

-- within the bounds bytes are accepted, with a listing, exactly when they are that listing as written, it is sound, and the list lent has room for it
abbrev pub OneListing : Rules → Type 0
OneListing R =
    (h : ℕ) (s lent : List ℕ) (es : List Entry) → (h ≡ 20) ⊎ (h ≡ 32) → length s ≤ most_bytes → many (length lent) ≤ most_records
    → Accepts R h s lent es ↔ (Sound R h [] es × (length es ≤ many (length lent)) × (s ≡ as_written es))

-- with less room it is refused 4, with the records needed
abbrev pub ShortRoom : Rules → Type 0
ShortRoom R =
    (h : ℕ) (s lent : List ℕ) (es : List Entry) → (h ≡ 20) ⊎ (h ≡ 32) → length s ≤ most_bytes → many (length lent) < length es → length es ≤ most_records
    → Sound R h [] es → s ≡ as_written es → read_answer h s (strictly R h s) lent ≡ refused (verdict 4 (length es))

-- of two accepted objects whose ids are equally long: the same entries, in whatever order they are asked for, and the same bytes follow from each other
abbrev pub OneObject : Rules → Type 0
OneObject R =
    (h : ℕ) (s t lent space : List ℕ) (es fs : List Entry) → Accepts R h s lent es → Accepts R h t space fs → SameSet es fs ↔ (s ≡ t)
