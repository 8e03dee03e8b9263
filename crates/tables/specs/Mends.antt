-- Trees mended, computed: what is done to each entry and the new object, and each number of the call in its case, with its place and part
-- (docs/FORMAT.md, "Mending"). Assumes nothing.
use Rattle.std.specs.Prelude.{ℕ, ◌≡◌, refl, List, [], ◌∷◌, ◌++◌, map, replicate, take}
use Prim.Native.String.{String}
use Rattle.ground.specs.Basics.{ascii}
use Rattle.ground.specs.Verdict.{id_length, size_gate, gate_of, verdict, broken, fine}
use Rattle.mode.specs.Mode.{value_of, sort_of, executes, kind_of, is_tree}
use Rattle.mode_text.specs.Read.{read_text}
use Rattle.mode.specs.Read.{octal_from, has_six, text_len, settle, rest_at, read_mode}
use Rattle.mode.specs.Table.{rows, row_at, written_of}
use Rattle.mode.specs.Write.{trimmed, write_mode}
use Rattle.order.specs.Order.{by_number, next, name_order}
use Rattle.entry.specs.Record.{name_of, id_of}
use Rattle.entry.specs.Entry.{entry_bytes, as_written}
use Rattle.entry.specs.Decode.{short_part, decode_name, decode_mode, decode}
use Rattle.rules.specs.Rules.{is_plain, permitted, is_dot_git, name_number, stands_before}
use Rattle.reading.specs.Listing.{follow, plain, records_in, tally}
use Rattle.strict.specs.Strict.{text_of}
use Rattle.sorting.specs.Sort.{insert_by, sort_by}
use Rattle.fate.specs.Fate.{stays_mode, own_mode, own_text, fate_of}
use Rattle.mend.specs.Mend.{among, fate_in, names_after, fates_from, kept_from, fates_of, mended_entry, mended}
use Rattle.mend.specs.Mend.{not_mended, in_room, counted_answer, answer_by, mend_answer}
use Rattle.mend.specs.declared.Mended.{Mended}
use Rattle.examples.specs.Examples.{O}

-- ---- what is done to each entry, and what is written

-- an object, what is done to its entries, and the new object
pub record Row : Type 0 where
  pub object : List ℕ
  pub list : List ℕ
  pub new : List ℕ

infix 90 ◌gets◌leaving◌
abbrev pub ◌gets◌leaving◌ : List ℕ → List ℕ → List ℕ → Row
o gets l leaving n = record { object = o; list = l; new = n }

-- an entry with an id of 20 equal bytes
abbrev entry : String → String → ℕ → List ℕ
entry mode name id = ascii mode ++ 32 ∷ (ascii name ++ 0 ∷ replicate 20 id)

abbrev file : String → List ℕ
file mode = entry mode "a" 0x33

unfoldable pub rows_of_mending : List Row
rows_of_mending =
    -- 0, and 1 where the text is not that of the kind's own mode, by its text and not by its number
    O gets (0 ∷ 0 ∷ []) leaving O
    ∷ file "100755" gets (0 ∷ []) leaving file "100755"
    ∷ file "0100644" gets (1 ∷ []) leaving file "100644"
    ∷ file "300644" gets (1 ∷ []) leaving file "100644"
    ∷ file "100664" gets (1 ∷ []) leaving file "100644"
    ∷ file "120777" gets (1 ∷ []) leaving file "120000"
    -- by its sort, a tree and a submodule
    ∷ file "040000" gets (1 ∷ []) leaving file "40000"
    ∷ file "140755" gets (1 ∷ []) leaving file "40000"
    ∷ file "160001" gets (1 ∷ []) leaving file "160000"
    -- 3: no sort, though the kind of such a mode is a submodule's
    ∷ file "0" gets (3 ∷ []) leaving []
    ∷ file "20000" gets (3 ∷ []) leaving []
    -- 2 ahead of 3
    ∷ entry "100644" ".GIT" 0x33 gets (2 ∷ []) leaving []
    ∷ entry "20000" ".." 0x33 gets (2 ∷ []) leaving []
    -- 3 ahead of 4, which is for a name that was kept, of whatever sort
    ∷ (file "20000" ++ (entry "100644" "a" 0x11 ++ (entry "40000" "a" 0x22 ++ file "0"))) gets (3 ∷ 0 ∷ 4 ∷ 3 ∷ []) leaving entry "100644" "a" 0x11
    -- in plain byte order: the folder goes behind, and each number stays in its entry's place
    ∷ (entry "40000" "a" 0x11 ++ (entry "0100644" "a-b" 0x22 ++ entry "100644" "a.b" 0x33))
    gets (0 ∷ 1 ∷ 0 ∷ []) leaving (entry "100644" "a-b" 0x22 ++ (entry "100644" "a.b" 0x33 ++ entry "40000" "a" 0x11))
    ∷ []

pub lists_hold : map (λ (r : Row). fates_of 20 r.object) rows_of_mending ≡ map (λ (r : Row). r.list) rows_of_mending
unfolding rows_of_mending value_of sort_of executes kind_of octal_from has_six text_len settle rest_at read_text read_mode rows row_at written_of name_of short_part decode_name
    decode_mode decode is_plain permitted is_dot_git name_number follow plain records_in text_of stays_mode own_text fate_of among fate_in names_after fates_from
lists_hold = refl

pub objects_hold : map (λ (r : Row). mended 20 r.object) rows_of_mending ≡ map (λ (r : Row). r.new) rows_of_mending
unfolding rows_of_mending value_of sort_of executes kind_of is_tree octal_from has_six text_len settle rest_at read_text read_mode rows row_at written_of trimmed write_mode
    by_number next name_order name_of id_of entry_bytes as_written short_part decode_name decode_mode decode is_plain permitted is_dot_git name_number stands_before follow
    plain records_in text_of insert_by sort_by stays_mode own_mode own_text fate_of among fate_in names_after kept_from mended_entry mended
objects_hold = refl

-- ---- each number

-- a call, and its answer
pub record Answered : Type 0 where
  pub asked : Mended
  pub answer : Mended

infix 90 ◌is◌
abbrev pub ◌is◌ : Mended → Mended → Answered
q is a = record { asked = q; answer = a }

abbrev gives : ℕ → ℕ → Mended
gives n p = not_mended (verdict n p)

unfoldable pub rows_of_answers : List Answered
rows_of_answers =
    -- 1, then 2: an output and a list over their bounds
    mend_answer 21 O 1048577 1073741825 is gives 1 0
    ∷ mend_answer 20 O 2 1073741825 is gives 2 0
    ∷ mend_answer 20 O 1048577 57 is gives 2 0
    -- 3, with its place and part
    ∷ mend_answer 20 (take 56 O) 0 0 is not_mended (broken 29 3)
    -- 4 with the entries, then 8 with the bytes needed
    ∷ mend_answer 20 O 1 0 is gives 4 2
    ∷ mend_answer 20 O 2 56 is gives 8 57
    ∷ mend_answer 20 (O ++ file "20000") 3 56 is gives 8 57
    -- done: the bytes written, and the entries read
    ∷ mend_answer 20 O 2 57 is record { verdict = fine; count = 57; entries = 2 }
    ∷ mend_answer 20 (O ++ file "20000") 3 57 is record { verdict = fine; count = 57; entries = 3 }
    ∷ mend_answer 20 [] 0 0 is record { verdict = fine; count = 0; entries = 0 }
    ∷ []

pub answers_hold : map (λ (r : Answered). r.asked) rows_of_answers ≡ map (λ (r : Answered). r.answer) rows_of_answers
unfolding rows_of_answers id_length size_gate gate_of value_of sort_of executes kind_of is_tree octal_from has_six text_len settle rest_at read_text read_mode rows row_at
    written_of trimmed write_mode by_number next name_order name_of id_of entry_bytes as_written short_part decode_name decode_mode decode is_plain permitted is_dot_git
    name_number stands_before follow plain records_in tally text_of insert_by sort_by stays_mode own_mode own_text fate_of among fate_in names_after kept_from mended_entry
    mended in_room counted_answer answer_by mend_answer
answers_hold = refl
