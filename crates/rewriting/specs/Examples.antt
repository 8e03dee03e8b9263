-- Why each condition is there, computed: rewritings of objects of one entry, with ids of 20 bytes. Assumes nothing.
use Rattle.std.specs.Prelude.{ℕ, ◌≡◌, refl, List, [], ◌∷◌, ◌++◌, map, replicate, Err, Ok}
use Prim.Native.String.{String}
use Rattle.ground.specs.Basics.{ascii}
use Rattle.ground.specs.Verdict.{broken}
use Rattle.mode.specs.Read.{read_mode}
use Rattle.mode_text.specs.Read.{octal_from, has_six, text_len, settle, rest_at, read_text}
use Rattle.mode_text.specs.Write.{trimmed, write_mode}
use Rattle.entry.specs.Record.{name_of, id_of}
use Rattle.entry.specs.Entry.{entry_bytes, as_written, entry_of}
use Rattle.entry.specs.Decode.{decode_name, decode_mode, decode}
use Rattle.entry.specs.declared.EntryRecord.{EntryRecord}
use Rattle.reading.specs.Listing.{follow, plain, listing, records_in, tally}
use Rattle.rewriting.specs.Demand.{rewrite, times}

-- a mode text, the mode that it reads as, and the texts after three rewrites
pub record Example : Type 0 where
  pub text : String
  pub mode : ℕ
  pub first : String
  pub second : String
  pub third : String

-- an object of one entry with this mode text, the name `abc`, and an id that starts with a space
abbrev pub object : String → List ℕ
object text = ascii text ++ 32 ∷ (ascii "abc" ++ 0 ∷ 32 ∷ replicate 19 7)

abbrev pub examples : List Example
examples =
    -- a written text stays
    record { text = "100644"; mode = 0o100644; first = "100644"; second = "100644"; third = "100644" }
    -- a padded tree is 49152, and stays; a padded file does not
    ∷ record { text = "040000"; mode = 49152; first = "040000"; second = "040000"; third = "040000" }
    ∷ record { text = "0100644"; mode = 0o100644; first = "100644"; second = "100644"; third = "100644" }
    -- P3: 49645 is written as 16877 with a zero ahead, which is then left out
    ∷ record { text = "140755"; mode = 49645; first = "040755"; second = "40755"; third = "40755" }
    -- so it goes from 49153 to 53247, and not with the mode after
    ∷ record { text = "140001"; mode = 49153; first = "040001"; second = "40001"; third = "40001" }
    ∷ record { text = "147777"; mode = 53247; first = "047777"; second = "47777"; third = "47777" }
    ∷ record { text = "0150000"; mode = 53248; first = "150000"; second = "150000"; third = "150000" }
    -- a short text is written longer, so that the first rewrite may be past the bound of a buffer
    ∷ record { text = "01"; mode = 1; first = "000001"; second = "000001"; third = "000001" }
    ∷ []

-- the modes that an object reads as, and three rewrites of it
abbrev pub seen : Example → List (List ℕ)
seen e =
    let s : List ℕ = object e.text in
    map (λ (r : EntryRecord). r.mode) (records_in (listing 20 s)) ∷ times 20 1 s ∷ times 20 2 s ∷ times 20 3 s ∷ []

-- the same as the table has them
abbrev pub told : Example → List (List ℕ)
told e = (e.mode ∷ []) ∷ object e.first ∷ object e.second ∷ object e.third ∷ []

pub examples_hold : map seen examples ≡ map told examples
unfolding rewrite times octal_from has_six text_len settle rest_at read_text read_mode trimmed write_mode name_of id_of entry_bytes as_written entry_of
    decode_name decode_mode decode follow plain records_in
examples_hold = refl

-- each of them is accepted at last
pub accepted_hold : map (λ (e : Example). tally 0 (listing 20 (object e.third))) examples ≡ map (λ (e : Example). Ok 1) examples
unfolding octal_from has_six text_len settle rest_at read_text read_mode decode_name decode_mode decode follow plain tally
accepted_hold = refl

-- P14: mode 0 is written as `0`, and with this name and this id that is refused 3
pub zero_lost : (times 20 1 (object "000000") ≡ object "0") × (tally 0 (listing 20 (object "0")) ≡ Err (broken 0 1))
unfolding rewrite times octal_from has_six text_len settle rest_at read_text read_mode trimmed write_mode name_of id_of entry_bytes as_written entry_of
    decode_name decode_mode decode follow plain records_in tally
zero_lost = (refl, refl)
