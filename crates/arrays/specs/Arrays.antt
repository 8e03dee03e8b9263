-- What a caller finds in the arrays that it lends for answers (include/sarpukten.h, "Answers"), number by number: one table, and one claim over it, which
-- the definitions compute. So no two numbers of an answer can be exchanged in its definition and in the code that lays it. Assumes nothing.
use Rattle.std.specs.Prelude.{ℕ, ◌≡◌, refl, true, false, List, [], ◌∷◌, ◌++◌, map, take, replicate}
use Prim.Native.String.{String}
use Rattle.ground.specs.Basics.{ascii}
use Rattle.ground.specs.Scan.{place_from}
use Rattle.ground.specs.Verdict.{id_length, size_gate, gate_of, is_set}
use Rattle.output.specs.Output.{fitted, gated}
use Rattle.mode.specs.Mode.{value_of, sort_of, executes, kind_of, is_tree, from_number}
use Rattle.mode_text.specs.Read.{read_text}
use Rattle.mode.specs.Read.{octal_from, has_six, text_len, settle, rest_at, read_mode, mode_alone}
use Rattle.mode.specs.Write.{trimmed, write_mode}
use Rattle.mode.specs.Table.{rows}
use Rattle.order.specs.Order.{by_number, next, name_order}
use Rattle.entry.specs.Record.{records_of, well_formed, name_of, id_of, folder_of}
use Rattle.entry.specs.Entry.{entry_bytes, as_written, entry_of}
use Rattle.entry.specs.Decode.{short_part, decode_name, decode_mode, decode, step_over, step_from, step_of}
use Rattle.doubles.specs.Doubles.{named_before}
use Rattle.reading.specs.Listing.{follow, plain, listing, records_in, tally}
use Rattle.rules.specs.Rules.{is_plain, judge, permitted, is_dot_git, name_number, stands_before, is_after, after_number, git_rules}
use Rattle.strict.specs.Strict.{text_of, cut, strict_answer}
use Rattle.reading.specs.Whole.{answer_of, read_answer}
use Rattle.rules.specs.Gate.{rule_gate}
use Rattle.lookup.specs.Halving.{mid, halving, search_from}
use Rattle.lookup.specs.Lookup.{compare_entry, lookup_in}
use Rattle.tree_write.specs.Write.{refusal, judged, measured, tree_size, tree_answer}
use Rattle.loose_header.specs.Header.{kind_word, digits, decimal, loose_header, header_answer}
use Rattle.actor.specs.Actor.{in_class, is_name, is_named, is_zone, is_time, is_addressed, is_actor}
use Rattle.hex_digits.specs.Hex.{hex_value}
use Rattle.commit_line.specs.Line.{word_at, id_from, id_at, line_from, line_at}
use Rattle.extra_header.specs.Extra.{fold_from, fold_end, folded_or, extra_at, folded_form}
use Rattle.header.specs.Record.{header_at}
use Rattle.header.specs.Record.{well_formed as header_well}
use Rattle.header.specs.declared.CommitParts.{CommitParts}
use Rattle.unfold.specs.Unfold.{has_form, plain_from, plain_of, room_plan, value_plan, gate_plan, unfold_plan, unfold_answer}
use Rattle.unfold.specs.Unfold.{answer_of as plan_answer}
use Rattle.commit_fields.specs.Parents.{parent_at, parents_from, rest_parents}
use Rattle.commit_fields.specs.Headers.{heads_from, rest_heads}
use Rattle.commit_fields.specs.Headers.{tally as head_tally}
use Rattle.commit_fields.specs.Fields.{actor_of, actor_at, encoding_of, encoding_at, blank_of, ending_of, with_committer, with_author, people_of, fields_of}
use Rattle.commit_fields.specs.Outcome.{room_of, gated_by, outcome_of}
use Rattle.commit_read.specs.Read.{answer_in, commit_answer}
use Rattle.border.specs.Border.{answer_numbers}
use Rattle.border_mode.specs.Border.{mode_numbers, mode_asked}
use Rattle.border_tree.specs.Border.{step_numbers}
use Rattle.border_lookup.specs.Border.{looked_numbers}
use Rattle.border_commit.specs.Border.{commit_numbers}
use Rattle.border_commit_write.specs.Border.{parts_of}
use Rattle.examples.specs.Examples.{O}

-- what lies in an array that was lent for an answer, and the parts that an array of ten numbers says
pub data Array : Type 0 where
  lies : List ℕ → Array
  says : CommitParts → Array

-- an array by its definition, and its numbers
pub record Row : Type 0 where
  pub array : Array
  pub numbers : Array

infix 90 ◌is◌
abbrev pub ◌is◌ : Array → Array → Row
a is n = record { array = a; numbers = n }

-- ---- what the calls are given

-- the two records of O: mode, name start, name end, id start, mode text start
abbrev pub records_of_o : List ℕ
records_of_o = 0o100644 ∷ 7 ∷ 8 ∷ 9 ∷ 0 ∷ 0o40000 ∷ 35 ∷ 36 ∷ 37 ∷ 29 ∷ []

abbrev line : String → List ℕ
line s = ascii s ++ 10 ∷ []

-- a commit with one parent, an encoding and two extra headers, the first of them folded
abbrev pub commit : List ℕ
commit =
    line "tree 1111111111111111111111111111111111111111"
    ++ line "parent 2222222222222222222222222222222222222222"
    ++ line "author A <a@b> 1 +0000"
    ++ line "committer B <c@d> 22 -0100"
    ++ line "encoding x"
    ++ line "k one"
    ++ line " two"
    ++ line "m three"
    ++ line ""
    ++ ascii "text"

-- its answer, with room for so many parents and headers
abbrev pub read : List ℕ → ℕ → ℕ → Array
read s parents headers = lies (commit_numbers (commit_answer s 20 (replicate parents 0) (replicate headers 0)))

-- ---- the table

unfoldable pub arrays : List Row
arrays =
    -- a call that counts: number, place, part, count
    lies (answer_numbers (read_answer 20 O (listing 20 O) (replicate 10 0))) is lies (0 ∷ 0 ∷ 0 ∷ 2 ∷ [])
    ∷ lies (answer_numbers (read_answer 20 (take 56 O) (listing 20 (take 56 O)) (replicate 10 0))) is lies (3 ∷ 29 ∷ 3 ∷ 0 ∷ [])
    ∷ lies (answer_numbers (strict_answer 2 20 O (replicate 5 0))) is lies (4 ∷ 2 ∷ 0 ∷ 0 ∷ [])
    ∷ lies (answer_numbers (strict_answer 2 20 (take 36 O) (replicate 5 0))) is lies (3 ∷ 29 ∷ 2 ∷ 0 ∷ [])
    ∷ lies (answer_numbers (tree_size 20 O records_of_o)) is lies (0 ∷ 0 ∷ 0 ∷ 57 ∷ [])
    ∷ lies (answer_numbers (tree_answer 20 O records_of_o 56)) is lies (8 ∷ 57 ∷ 0 ∷ 0 ∷ [])
    ∷ lies (answer_numbers (header_answer 2 57 8)) is lies (0 ∷ 0 ∷ 0 ∷ 8 ∷ [])
    -- a header's value: the five numbers that name it, in their order, and how many bytes it unfolds to
    ∷ lies (answer_numbers (unfold_answer commit (header_at (155 ∷ 156 ∷ 157 ∷ 166 ∷ 1 ∷ []) 0) (replicate 9 0))) is lies (0 ∷ 0 ∷ 0 ∷ 8 ∷ [])
    -- a mode: number, place, part, mode
    ∷ lies (mode_numbers (mode_alone (ascii "100644 "))) is lies (0 ∷ 0 ∷ 0 ∷ 0o100644 ∷ [])
    ∷ lies (mode_numbers (mode_alone [])) is lies (3 ∷ 0 ∷ 1 ∷ 0 ∷ [])
    ∷ lies (mode_numbers (from_number 0o200000)) is lies (23 ∷ 0 ∷ 0 ∷ 0 ∷ [])
    -- the seven questions: a tree, none, a file, an executable file, a file or link, a link, a commit
    ∷ lies (mode_asked 0o40000) is lies (1 ∷ 0 ∷ 0 ∷ 0 ∷ 0 ∷ 0 ∷ 0 ∷ [])
    ∷ lies (mode_asked 0o100644) is lies (0 ∷ 1 ∷ 1 ∷ 0 ∷ 1 ∷ 0 ∷ 0 ∷ [])
    ∷ lies (mode_asked 0o100755) is lies (0 ∷ 1 ∷ 1 ∷ 1 ∷ 1 ∷ 0 ∷ 0 ∷ [])
    ∷ lies (mode_asked 0o120000) is lies (0 ∷ 1 ∷ 0 ∷ 0 ∷ 1 ∷ 1 ∷ 0 ∷ [])
    ∷ lies (mode_asked 0o160000) is lies (0 ∷ 1 ∷ 0 ∷ 0 ∷ 0 ∷ 0 ∷ 1 ∷ [])
    -- a step: number, place, part, found, next, and the entry's record
    ∷ lies (step_numbers (step_of 20 O (record { at = 29 }))) is lies (0 ∷ 0 ∷ 0 ∷ 1 ∷ 57 ∷ 0o40000 ∷ 35 ∷ 36 ∷ 37 ∷ 29 ∷ [])
    ∷ lies (step_numbers (step_of 20 O (record { at = 57 }))) is lies (0 ∷ 0 ∷ 0 ∷ 0 ∷ 57 ∷ 0 ∷ 0 ∷ 0 ∷ 0 ∷ 0 ∷ [])
    ∷ lies (step_numbers (step_of 20 (take 56 O) (record { at = 29 }))) is lies (3 ∷ 29 ∷ 3 ∷ 0 ∷ 56 ∷ 0 ∷ 0 ∷ 0 ∷ 0 ∷ 0 ∷ [])
    -- a lookup: number, place, part, index, compared
    ∷ lies (looked_numbers (lookup_in 20 O (records_of records_of_o) (ascii "a") false)) is lies (0 ∷ 0 ∷ 0 ∷ 0 ∷ 2 ∷ [])
    ∷ lies (looked_numbers (lookup_in 20 O (records_of records_of_o) (ascii "b") true)) is lies (0 ∷ 0 ∷ 0 ∷ 1 ∷ 1 ∷ [])
    ∷ lies (looked_numbers (lookup_in 20 O (records_of records_of_o) (ascii "b") false)) is lies (15 ∷ 0 ∷ 0 ∷ 0 ∷ 2 ∷ [])
    -- a commit: number, place, part, field, parents, headers; tree, author, committer, encoding, message
    ∷ read commit 1 10 is lies (0 ∷ 0 ∷ 0 ∷ 0 ∷ 1 ∷ 2 ∷ 5 ∷ 101 ∷ 116 ∷ 127 ∷ 143 ∷ 1 ∷ 153 ∷ 154 ∷ 175 ∷ 179 ∷ [])
    ∷ read (take 140 commit) 1 10 is lies (11 ∷ 117 ∷ 0 ∷ 3 ∷ replicate 12 0)
    ∷ read commit 1 5 is lies (4 ∷ 2 ∷ 0 ∷ 0 ∷ replicate 12 0)
    -- the parts that a caller says
    ∷ says (parts_of (5 ∷ 101 ∷ 116 ∷ 127 ∷ 143 ∷ 1 ∷ 153 ∷ 154 ∷ 175 ∷ 179 ∷ [])) is says (record {
      tree = 5;
      author_start = 101;
      author_end = 116;
      committer_start = 127;
      committer_end = 143;
      encoding = 1;
      encoding_start = 153;
      encoding_end = 154;
      message_start = 175;
      message_end = 179;
    })
    ∷ []

pub arrays_hold : map (λ (r : Row). r.array) arrays ≡ map (λ (r : Row). r.numbers) arrays
unfolding arrays id_length size_gate gate_of fitted gated octal_from has_six text_len settle rest_at read_text read_mode mode_alone from_number value_of sort_of executes
    kind_of is_tree trimmed write_mode rows by_number next name_order records_of well_formed name_of id_of folder_of entry_bytes as_written entry_of short_part
    decode_name decode_mode decode step_over step_from step_of follow plain records_in tally judge text_of cut is_plain permitted is_dot_git name_number stands_before
    is_after named_before after_number git_rules is_set rule_gate answer_of mid halving search_from compare_entry lookup_in refusal judged measured tree_size
    tree_answer kind_word digits decimal loose_header header_answer place_from in_class is_name is_named is_zone is_time is_addressed is_actor hex_value word_at
    id_from id_at line_from line_at fold_from fold_end folded_or extra_at folded_form header_at header_well has_form plain_from plain_of room_plan value_plan gate_plan
    unfold_plan plan_answer parent_at parents_from rest_parents heads_from rest_heads head_tally actor_of actor_at encoding_of encoding_at blank_of ending_of
    with_committer with_author people_of fields_of room_of gated_by outcome_of answer_in
arrays_hold = refl
