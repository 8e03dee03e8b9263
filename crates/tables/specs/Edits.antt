-- Edits of the object O, computed: each number of the two calls in its case, with its place (docs/FORMAT.md, "Edits"). Assumes nothing.
use Rattle.std.specs.Prelude.{ℕ, ◌≡◌, refl, List, [], ◌∷◌, map, replicate, take}
use Prim.Native.String.{String}
use Rattle.ground.specs.Basics.{ascii}
use Rattle.ground.specs.Verdict.{id_length, size_gate, verdict, broken, counted, refused, is_set}
use Rattle.ground.specs.declared.Answer.{Answer}
use Rattle.output.specs.Output.{gated, fitted}
use Rattle.mode.specs.Mode.{value_of, sort_of, is_tree}
use Rattle.mode_text.specs.Read.{read_text}
use Rattle.mode.specs.Read.{octal_from, has_six, text_len, settle, rest_at, read_mode}
use Rattle.mode.specs.Table.{rows}
use Rattle.mode.specs.Write.{trimmed, write_mode}
use Rattle.order.specs.Order.{by_number, next, name_order}
use Rattle.entry.specs.Record.{name_of, id_of}
use Rattle.entry.specs.Entry.{entry_bytes, as_written, entry_of}
use Rattle.entry.specs.Decode.{short_part, decode_name, decode_mode, decode}
use Rattle.doubles.specs.Doubles.{named_before}
use Rattle.rules.specs.Rules.{judge, is_plain, permitted, is_dot_git, name_number, stands_before, is_after, group_row, after_number, git_rules}
use Rattle.rules.specs.Gate.{rule_gate}
use Rattle.reading.specs.Listing.{follow, plain, records_in, tally}
use Rattle.strict.specs.Strict.{text_of, cut}
use Rattle.one_listing.specs.Sound.{is_mode}
use Rattle.edit_walk.specs.Walk.{new_entry}
use Rattle.edit.specs.Table.{remove_from, insert, put_in, is_held, table_of}
use Rattle.edit.specs.Edit.{new_no, size_of, putting, removing, on_counted, put_answer, remove_answer}
use Rattle.examples.specs.Examples.{O}

-- a call, and its answer
pub record Row : Type 0 where
  pub asked : Answer
  pub answer : Answer

infix 90 ◌is◌
abbrev pub ◌is◌ : Answer → Answer → Row
q is a = record { asked = q; answer = a }

-- an id of so many bytes
abbrev id : ℕ → List ℕ
id n = replicate n 0x33

-- a name put into O with a mode and an id of 20 bytes, by a rule set, with so much room; and a name removed
abbrev puts : ℕ → ℕ → String → ℕ → Answer
puts k mode name room = put_answer k 20 O (new_entry mode (ascii name) (id 20)) room

abbrev removes : ℕ → String → ℕ → Answer
removes k name room = remove_answer k 20 O (ascii name) room

abbrev gives : ℕ → ℕ → Answer
gives n p = refused (verdict n p)

unfoldable pub rows_of_edits : List Row
rows_of_edits =
    -- 1, then 19; a broken object
    put_answer 3 21 O (new_entry 0o100644 (ascii "c") (id 20)) 99 is gives 1 0
    ∷ puts 3 0o100644 "c" 99 is gives 19 0
    ∷ put_answer 2 20 (take 56 O) (new_entry 0o100644 (ascii "c") (id 20)) 99 is refused (broken 29 3)
    -- of the new entry: 10, 5, 6, 18, all at 0
    ∷ put_answer 2 20 O (new_entry 0o100600 (ascii ".") (id 19)) 0 is gives 10 0
    ∷ puts 2 0o100664 "." 0 is gives 5 0
    ∷ puts 2 0o240000 "c" 0 is gives 5 0
    ∷ puts 2 0o40000 "a/b" 0 is gives 6 0
    ∷ puts 2 0o40000 ".GIT" 0 is gives 18 0
    -- 8 with the bytes needed; a new name; an old one, and a file that becomes a folder
    ∷ puts 2 0o100644 "c" 85 is gives 8 86
    ∷ puts 2 0o100644 "c" 86 is counted 86
    ∷ puts 1 0o100664 "a" 57 is counted 57
    ∷ puts 2 0o40000 "a" 56 is counted 56
    -- a removal: 15, also of a name that no entry may have; 8; done
    ∷ removes 2 "c" 99 is gives 15 0
    ∷ removes 2 ".git" 99 is gives 15 0
    ∷ removes 2 "a" 27 is gives 8 28
    ∷ removes 2 "b" 29 is counted 29
    ∷ []

pub edits_hold : map (λ (r : Row). r.asked) rows_of_edits ≡ map (λ (r : Row). r.answer) rows_of_edits
unfolding rows_of_edits id_length size_gate gated fitted value_of sort_of is_tree octal_from has_six text_len settle rest_at read_text read_mode rows trimmed write_mode by_number next
    name_order name_of id_of entry_bytes as_written entry_of short_part decode_name decode_mode decode named_before judge is_plain permitted is_dot_git name_number
    stands_before is_after group_row after_number git_rules is_set rule_gate follow plain records_in tally text_of cut is_mode remove_from insert put_in is_held table_of new_no
    size_of putting removing on_counted put_answer remove_answer
edits_hold = refl
