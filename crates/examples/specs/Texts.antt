-- Entries remember their mode text: what the fifth number of a record says (docs/FORMAT.md, "Records"). `proofs/Texts.antt` proves the laws.
-- Assumes nothing.
use Rattle.std.specs.Prelude.{ℕ, ◌-◌, ◌≡◌, refl, true, List, [], ◌∷◌, ◌++◌, map, ◌↔◌, length, get_or, take, drop, replicate, Some}
use Prim.Native.String.{String}
use Rattle.ground.specs.Basics.{ascii, part}
use Rattle.ground.specs.Scan.{free_of}
use Rattle.ground.specs.Verdict.{counted, id_length, size_gate, gate_of, stored}
use Rattle.mode_text.specs.Read.{read_text}
use Rattle.mode.specs.Read.{octal_from, has_six, text_len, settle, rest_at, read_mode}
use Rattle.mode.specs.Write.{trimmed, write_mode}
use Rattle.entry.specs.Record.{records_of, name_of, id_of}
use Rattle.entry.specs.Entry.{Entry}
use Rattle.entry.specs.Decode.{short_part, decode_name, decode_mode, decode}
use Rattle.entry.specs.declared.EntryRecord.{EntryRecord}
use Rattle.reading.specs.Listing.{Listing, done, stop, entry, follow, plain, listing, records_in, flats, tally}
use Rattle.strict.specs.Strict.{text_of, strictly}
use Rattle.rules.specs.Rules.{git_rules}
use Rattle.reading.specs.Whole.{answer_of, read_answer, read_records}
use Rattle.one_listing.specs.Demand.{Accepts}
use Rattle.tree_write.specs.Write.{written}
use Rattle.examples.specs.Examples.{O}

-- the mode text that a record remembers: the bytes from its fifth number to the space before its name
abbrev pub remembered : List ℕ → EntryRecord → List ℕ
remembered s r = part r.text_start (r.name_start - 1) s

-- that text stands there as a mode's: the mode read from its first byte on is the record's and its rest is the name, a space stands between, and the text has
-- none
pub record Remembers (s : List ℕ) (r : EntryRecord) : Type 0 where
  pub reads : read_mode (drop r.text_start s) ≡ Some (record { internal = r.mode }, r.name_start - r.text_start)
  pub space : get_or s (r.name_start - 1) 0 ≡ 32
  pub spaceless : free_of 32 (remembered s r) ≡ true

-- it is the text that is written for the record's mode
abbrev pub OwnText : List ℕ → EntryRecord → Type 0
OwnText s r = remembered s r ≡ write_mode r.mode

-- each of the records has the property P
abbrev pub Each : (EntryRecord → Type 0) → List EntryRecord → Type 0
Each P [] = Unit {0}
Each P (r ∷ rs) = P r × Each P rs

-- the entries of records as they stood: the text that is remembered, a space, the name, NUL, the id
abbrev pub as_stood : ℕ → List ℕ → List EntryRecord → List ℕ
as_stood h s [] = []
as_stood h s (r ∷ rs) = (remembered s r ++ 32 ∷ (name_of s r ++ 0 ∷ id_of h s r)) ++ as_stood h s rs

-- the plain reader accepts the bytes s, with this list lent, and returns these records
pub record Returned (h : ℕ) (s lent : List ℕ) (rs : List EntryRecord) : Type 0 where
  pub answer : read_answer h s (listing h s) lent ≡ counted (length rs)
  pub first : take (length rs) (records_of (read_records h s (listing h s) lent)) ≡ rs

-- in a listing, each record remembers the text of which the strict rules judge
abbrev pub Judged : List ℕ → Listing → Type 0
Judged s done = Unit {0}
Judged s (stop v) = Unit {0}
Judged s (entry at e l) = (remembered s e ≡ text_of s at e) × Judged s l

pub record TextLaws : Type 0 where
  -- what a record remembers is the mode text at its entry's first byte
  pub the_text : (h : ℕ) (s : List ℕ) → Judged s (listing h s)
  -- each record that was returned remembers a mode text
  pub remembers : (h : ℕ) (s lent : List ℕ) (rs : List EntryRecord) → Returned h s lent rs → Each (Remembers s) rs
  -- all of the object is in its records: it is its entries as they stood
  pub stands : (h : ℕ) (s lent : List ℕ) (rs : List EntryRecord) → Returned h s lent rs → as_stood h s rs ≡ s
  -- what is written from the records is the object again exactly where each text is the one written for its mode
  pub rewrites : (h : ℕ) (s lent : List ℕ) (rs : List EntryRecord) → Returned h s lent rs → (written h s rs ≡ s) ↔ Each (OwnText s) rs
  -- so it is in an object that is accepted strictly
  pub strict_own : (k h : ℕ) (s lent : List ℕ) (es : List Entry) → Accepts (git_rules k) h s lent es
      → Each (OwnText s) (take (length es) (records_of (read_records h s (strictly (git_rules k) h s) lent)))

-- ---- computed

-- a record by its five numbers, its text as it stood, and the text that is written for its mode
pub record Kept : Type 0 where
  pub numbers : List ℕ
  pub stood : List ℕ
  pub rewritten : List ℕ

abbrev keeps : ℕ → ℕ → ℕ → ℕ → ℕ → String → String → Kept
keeps m s e i t was is = record { numbers = m ∷ s ∷ e ∷ i ∷ t ∷ []; stood = ascii was; rewritten = ascii is }

abbrev kept : List ℕ → List Kept
kept s = map told (records_in (listing 20 s))
  where
    told : EntryRecord → Kept
    told r =
        record {
          numbers = r.mode ∷ r.name_start ∷ r.name_end ∷ r.id_start ∷ r.text_start ∷ [];
          stood = remembered s r;
          rewritten = write_mode r.mode;
        }

-- O, and behind it an entry with this mode text and the name `c`
abbrev and_then : String → List ℕ
and_then text = O ++ ascii text ++ ascii " c" ++ 0 ∷ replicate 20 0x33

abbrev of_o : List Kept → List Kept
of_o l = keeps 0o100644 7 8 9 0 "100644" "100644" ∷ keeps 0o40000 35 36 37 29 "40000" "40000" ∷ l

pub record Texts : Type 0 where
  -- O's records
  pub two : kept O ≡ of_o []
  -- a text that begins with `0` is kept, and written so again
  pub padded : kept (and_then "040000") ≡ of_o (keeps 49152 64 65 66 57 "040000" "040000" ∷ [])
  -- P3, and a file's mode with a `0` before it: each is kept as it stood, and another is written
  pub changed : kept (and_then "140755") ≡ of_o (keeps 49645 64 65 66 57 "140755" "040755" ∷ [])
  pub longer : kept (and_then "0100644") ≡ of_o (keeps 33188 65 66 67 57 "0100644" "100644" ∷ [])
  -- the same as they lie in the lent list, with room for three
  pub lent : read_records 20 O (listing 20 O) (replicate 15 9)
      ≡ 0o100644 ∷ 7 ∷ 8 ∷ 9 ∷ 0 ∷ 0o40000 ∷ 35 ∷ 36 ∷ 37 ∷ 29 ∷ 9 ∷ 9 ∷ 9 ∷ 9 ∷ 9 ∷ []

pub texts : Texts
unfolding octal_from has_six text_len settle rest_at read_text read_mode trimmed write_mode short_part decode_name decode_mode decode follow plain records_in flats
    tally id_length size_gate gate_of stored answer_of
texts = record { two = refl; padded = refl; changed = refl; longer = refl; lent = refl }
