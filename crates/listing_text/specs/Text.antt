-- What `listing` says of a tree object whose ids have `h` bytes (docs/FORMAT.md, "Examples"). Assumes nothing.
use Rattle.std.specs.Prelude.{ℕ, ◌%◌, List, [], ◌∷◌, ◌++◌, leb, length, Err, Ok, Result}
use Rattle.ground.specs.Basics.{pick, ascii}
use Rattle.ground.specs.Verdict.{verdict, fine, id_length}
use Rattle.ground.specs.declared.Verdict.{Verdict}
use Rattle.mode_text.specs.Write.{write_mode}
use Rattle.mode.specs.Mode.{word_of}
use Rattle.mode_text.specs.Write.{shown}
use Rattle.entry.specs.Record.{name_of, id_of}
use Rattle.entry.specs.declared.EntryRecord.{EntryRecord}
use Rattle.reading.specs.Listing.{listing, records_in, tally}
use Rattle.loose_header.specs.Header.{decimal}
use Rattle.hex_of_id.specs.Hex.{hex_of}
use Rattle.listing_text.specs.declared.Listed.{Listed}

abbrev pub space : List ℕ
space = ascii " "

abbrev pub lf : List ℕ
lf = 10 ∷ []

-- a mode, which has 16 bits: its text and the word of its kind
unfoldable pub mode_words : ℕ → List ℕ
mode_words m = write_mode (m % 65536) ++ space ++ shown (word_of (m % 65536)) ++ space

-- an entry's line: mode text, word, id in hex, name
unfoldable pub line : ℕ → List ℕ → EntryRecord → List ℕ
line h s e = mode_words e.mode ++ hex_of (id_of h s e) ++ space ++ name_of s e ++ lf

-- the lines of entries, one after the other
unfoldable pub lines : ℕ → List ℕ → List EntryRecord → List ℕ
lines h s [] = []
lines h s (e ∷ es) = line h s e ++ lines h s es

-- the line before them
unfoldable pub head : ℕ → List ℕ
head n = ascii "entries " ++ decimal n ++ lf

-- the line of a refusal
unfoldable pub refusal : Verdict → List ℕ
refusal v = ascii "refused " ++ decimal v.number ++ ascii " at " ++ decimal v.place ++ lf

-- the longest object that is listed
abbrev pub longest : ℕ
longest = 65536

-- the text, and the verdict, of an object that was read
unfoldable pub told_of : ℕ → List ℕ → List EntryRecord → Result ℕ Verdict → List ℕ
told_of h s es (Ok n) = head n ++ lines h s es
told_of h s es (Err v) = refusal v

unfoldable pub tally_verdict : Result ℕ Verdict → Verdict
tally_verdict (Ok n) = fine
tally_verdict (Err v) = v

-- the whole text where ids have one of the two lengths: a longer object is refused 2
unfoldable pub text_of : ℕ → List ℕ → List ℕ
text_of h s = pick (leb (length s) longest) (told_of h s (records_in (listing h s)) (tally 0 (listing h s))) (refusal (verdict 2 0))

-- and of any: 1 comes first
unfoldable pub text : ℕ → List ℕ → List ℕ
text h s = pick (id_length h) (text_of h s) (refusal (verdict 1 0))

-- its verdict, and how long the text is
unfoldable pub listed_of : ℕ → List ℕ → Listed
listed_of h s = record { verdict = pick (leb (length s) longest) (tally_verdict (tally 0 (listing h s))) (verdict 2 0); len = length (text_of h s) }

unfoldable pub listed : ℕ → List ℕ → Listed
listed h s = pick (id_length h) (listed_of h s) (record { verdict = verdict 1 0; len = length (refusal (verdict 1 0)) })
