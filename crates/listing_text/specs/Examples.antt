-- Texts, computed: refusals, and the object of two entries from docs/FORMAT.md, whole and cut. Assumes nothing.
use Rattle.std.specs.Prelude.{ℕ, ◌≡◌, refl, List, [], ◌∷◌, ◌++◌, take, replicate}
use Rattle.ground.specs.Basics.{ascii}
use Rattle.ground.specs.Verdict.{verdict, broken, id_length}
use Rattle.mode.specs.Mode.{value_of, sort_of, executes, kind_of}
use Rattle.mode.specs.Read.{read_mode}
use Rattle.mode_text.specs.Read.{octal_from, has_six, text_len, settle, rest_at, read_text}
use Rattle.mode_text.specs.Write.{trimmed, write_mode}
use Rattle.mode.specs.Mode.{word_of}
use Rattle.mode_table.specs.Table.{rows, row_at, written_of}
use Rattle.entry.specs.Record.{name_of, id_of}
use Rattle.entry.specs.Decode.{short_part, decode_name, decode_mode, decode}
use Rattle.reading.specs.Listing.{follow, plain, records_in, tally}
use Rattle.loose_header.specs.Header.{digits, decimal}
use Rattle.hex_digits.specs.Hex.{digit_of}
use Rattle.hex_of_id.specs.Hex.{hex_of}
use Rattle.listing_text.specs.Text.{lf, mode_words, line, lines, head, refusal, told_of, tally_verdict, text_of, text, listed_of, listed}

pub refusals : (refusal (verdict 2 0) ≡ ascii "refused 2 at 0" ++ lf) × (refusal (broken 29 3) ≡ ascii "refused 3 at 29" ++ lf)
unfolding digits decimal refusal
refusals = (refl, refl)

pub texts : (head 2978 ≡ ascii "entries 2978" ++ lf) × (hex_of (0x0a ∷ 0xf9 ∷ []) ≡ ascii "0af9")
unfolding digits decimal digit_of hex_of head
texts = (refl, refl)

abbrev object : List ℕ
object = ascii "100644 a" ++ 0 ∷ (replicate 20 0x11 ++ (ascii "40000 b" ++ 0 ∷ replicate 20 0x2a))

pub whole : text 20 object
    ≡ ascii "entries 2" ++ lf
    ++ ascii "100644 blob 1111111111111111111111111111111111111111 a" ++ lf
    ++ ascii "40000 tree 2a2a2a2a2a2a2a2a2a2a2a2a2a2a2a2a2a2a2a2a b" ++ lf
unfolding value_of sort_of executes kind_of octal_from has_six text_len settle rest_at read_text read_mode trimmed write_mode rows row_at written_of word_of name_of id_of short_part decode_name decode_mode decode follow plain records_in tally digits decimal digit_of hex_of mode_words line lines head told_of id_length text_of text
whole = refl

pub cut : (text 20 (take 56 object) ≡ ascii "refused 3 at 29" ++ lf) × ((listed 20 (take 56 object)).verdict ≡ broken 29 3)
unfolding octal_from has_six text_len settle rest_at read_text read_mode short_part decode_name decode_mode decode follow plain records_in tally digits decimal refusal told_of tally_verdict id_length text_of text listed_of listed
cut = (refl, refl)

-- one byte more than is listed
pub long : text 20 (replicate 65537 0x20) ≡ ascii "refused 2 at 0" ++ lf
unfolding digits decimal refusal id_length text_of text
long = refl
