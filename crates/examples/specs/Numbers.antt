-- Each number in its case: a table of every number that a call gives, with its place, its part and its field, which the definitions compute; and the bounds.
-- Assumes nothing.
use Rattle.std.specs.Prelude.{ℕ, ◌*◌, ◌≡◌, refl, false, take, replicate, Err, Ok, Result, ⊤}
use Prim.Native.String.{String}
use mathlib.Core.List.{List, [], ◌∷◌, ◌++◌, map}
use Rattle.ground.specs.Basics.{ascii}
use Rattle.ground.specs.Scan.{place_from}
use Rattle.ground.specs.Verdict.{verdict, id_length, size_gate, gate_of, is_set}
use Rattle.ground.specs.declared.Verdict.{Verdict}
use Rattle.output.specs.Output.{fitted, gated}
use Rattle.mode.specs.Mode.{value_of, sort_of, is_tree, from_number}
use Rattle.mode_text.specs.Read.{read_text}
use Rattle.mode.specs.Read.{octal_from, has_six, text_len, settle, rest_at, read_mode, mode_alone}
use Rattle.mode.specs.Write.{trimmed, write_mode}
use Rattle.mode.specs.Table.{rows}
use Rattle.order.specs.Order.{by_number, next, name_order}
use Rattle.entry.specs.Record.{width, records_of, well_formed, name_of, id_of, folder_of}
use Rattle.entry.specs.Entry.{entry_bytes, as_written, entry_of}
use Rattle.entry.specs.Decode.{short_part, decode_name, decode_mode, decode, step_over, step_from, step_of}
use Rattle.doubles.specs.Doubles.{named_before}
use Rattle.reading.specs.Listing.{done, stop, follow, plain, listing, tally}
use Rattle.rules.specs.Rules.{is_plain, judge, permitted, is_dot_git, name_number, stands_before, is_after, group_row, after_number, git_rules}
use Rattle.strict.specs.Strict.{text_of, cut, strict_answer}
use Rattle.reading.specs.Whole.{answer_of, read_answer}
use Rattle.rules.specs.Gate.{rule_gate}
use Rattle.lookup.specs.Halving.{mid, halving, search_from}
use Rattle.lookup.specs.Lookup.{compare_entry, lookup_in}
use Rattle.tree_write.specs.Write.{refusal, judged, measured, tree_size, tree_answer}
use Rattle.loose_header.specs.Header.{kind_word, digits, decimal, loose_header, header_answer}
use Rattle.actor.specs.Actor.{in_class, is_name, is_named, is_zone, is_time, is_addressed, is_actor}
use Rattle.hex_digits.specs.Hex.{hex_value}
use Rattle.commit_line.specs.Line.{word_at, id_from, id_at, line_from, line_at}
use Rattle.extra_header.specs.Extra.{fold_from, fold_end, folded_or, extra_at, folded_form}
use Rattle.header.specs.Record as header
use Rattle.header.specs.declared.CommitParts.{CommitParts}
use Rattle.unfold.specs.Unfold as unfolded
use Rattle.commit_fields.specs.Parents.{parent_at, parents_from, rest_parents}
use Rattle.commit_fields.specs.Headers as heads
use Rattle.commit_fields.specs.Fields.{actor_of, actor_at, encoding_of, encoding_at, blank_of, ending_of, with_committer, with_author, people_of, fields_of}
use Rattle.commit_fields.specs.Outcome.{room_of, gated_by, outcome_of}
use Rattle.commit_read.specs.Read.{answer_in, commit_answer}
use Rattle.commit_read.specs.declared.CommitRead.{CommitRead}
use Rattle.grammar.specs.Grammar.{parents_bytes, encoding_bytes}
use Rattle.grammar.specs.Named.{records_from}
use Rattle.commit_check.specs.Check as check
use Rattle.commit_value.specs.Fold.{fold_rest, fold_value}
use Rattle.commit_write.specs.Written.{lower_digit, header_written, headers_written, commit_written}
use Rattle.commit_write.specs.Write as write
use Rattle.examples.specs.Examples.{O}

-- what a call says: its number, place and part, and where a commit is read the field
pub record Said : Type 0 where
  pub number : ℕ
  pub place : ℕ
  pub part : ℕ
  pub field : ℕ

-- ---- the answers

-- it is done
abbrev fine : Said
fine = record { number = 0; place = 0; part = 0; field = 0 }

-- a number at a place
abbrev gives : ℕ → ℕ → Said
gives n p = record { number = n; place = p; part = 0; field = 0 }

-- number 3 at a place, with its part
abbrev breaks : ℕ → ℕ → Said
breaks p k = record { number = 3; place = p; part = k; field = 0 }

-- number 11 at a place, with its field
abbrev lacks : ℕ → ℕ → Said
lacks p f = record { number = 11; place = p; part = 0; field = f }

-- ---- the questions: each takes the id length first, where the call has one

abbrev said : Verdict → Said
said v = record { number = v.number; place = v.place; part = v.part; field = 0 }

-- a tree read plainly, with room for so many records
abbrev reads : ℕ → ℕ → List ℕ → Said
reads h room s = said (read_answer h s (listing h s) (replicate (room * width) 0)).verdict

-- the same strictly, by a rule set
abbrev strictly : ℕ → ℕ → ℕ → List ℕ → Said
strictly k h room s = said (strict_answer k h s (replicate (room * width) 0)).verdict

-- a step of the cursor from a place
abbrev steps : ℕ → ℕ → List ℕ → Said
steps h from s = said (step_of h s (record { at = from })).verdict

-- a blob's name sought in O among records
abbrev looks : ℕ → List ℕ → String → Said
looks h records name = said (lookup_in h O (records_of records) (ascii name) false).verdict

-- a tree written from bytes and records to so much room, and its size asked alone
abbrev writes : ℕ → List ℕ → ℕ → Said
writes h records room = said (tree_answer h O records room).verdict

abbrev sizes : ℕ → List ℕ → Said
sizes h records = said (tree_size h O records).verdict

-- a commit read, with room for so many parents and so many headers
abbrev said_of : CommitRead → Said
said_of r = record { number = r.verdict.number; place = r.verdict.place; part = r.verdict.part; field = r.field }

abbrev commits : ℕ → ℕ → ℕ → List ℕ → Said
commits h np nh s = said_of (commit_answer s h (replicate np 0) (replicate (nh * header.width) 0))

-- a commit written from 40 digits and `k`, LF to so much room, with its encoding, parents and headers; and its size
abbrev lent : List ℕ
lent = replicate 40 97 ++ 107 ∷ 10 ∷ []

abbrev parts : ℕ → ℕ → ℕ → ℕ → CommitParts
parts tree mark from to =
    record {
      tree = tree;
      author_start = 40;
      author_end = 41;
      committer_start = 40;
      committer_end = 41;
      encoding = mark;
      encoding_start = from;
      encoding_end = to;
      message_start = 40;
      message_end = 41;
    }

abbrev commit_writes : ℕ → CommitParts → List ℕ → ℕ → Said
commit_writes h p parents room = said (write.commit_answer h lent p parents [] room).verdict

abbrev commit_sizes : ℕ → CommitParts → List ℕ → Said
commit_sizes h p parents = said (write.commit_size h lent p parents []).verdict

-- a value of two lines in `kv`, LF, ` w`, LF, unfolded by a mark to so much room
abbrev unfolds : ℕ → ℕ → Said
unfolds mark room =
    said (unfolded.unfold_answer (ascii "kv" ++ 10 ∷ ascii " w" ++ 10 ∷ []) (header.header_of 0 1 1 6 mark) (replicate room 0)).verdict

-- ---- what is read

-- an entry by its mode text and its name, with an id of 20 bytes; `file` has 29 bytes
abbrev entry : String → String → List ℕ
entry mode name = ascii mode ++ 32 ∷ (ascii name ++ 0 ∷ replicate 20 0x11)

abbrev file : List ℕ
file = entry "100644" "a"

-- records of O: its own two, and its first with another
abbrev own : List ℕ
own = 0o100644 ∷ 7 ∷ 8 ∷ 9 ∷ 0 ∷ 0o40000 ∷ 35 ∷ 36 ∷ 37 ∷ 29 ∷ []

abbrev and_then : ℕ → ℕ → ℕ → ℕ → ℕ → List ℕ
and_then m s e i t = 0o100644 ∷ 7 ∷ 8 ∷ 9 ∷ 0 ∷ m ∷ s ∷ e ∷ i ∷ t ∷ []

-- the lines of a commit: 46, 48, 21 and 24 bytes
abbrev ended : String → List ℕ
ended l = ascii l ++ 10 ∷ []

abbrev tree_line : List ℕ
tree_line = ascii "tree " ++ replicate 40 97 ++ 10 ∷ []

abbrev parent_line : List ℕ
parent_line = ascii "parent " ++ replicate 40 98 ++ 10 ∷ []

abbrev author : List ℕ
author = ended "author A <a> 1 +0000"

abbrev committer : List ℕ
committer = ended "committer A <a> 1 +0000"

-- one parent and two headers
abbrev commit : List ℕ
commit = tree_line ++ parent_line ++ author ++ committer ++ ended "k v" ++ ended "l w" ++ ended "" ++ ascii "m"

-- ---- the table

pub record Row : Type 0 where
  pub asked : Said
  pub answer : Said

infix 90 ◌is◌
abbrev pub ◌is◌ : Said → Said → Row
q is a = record { asked = q; answer = a }

unfoldable pub trees : List Row
trees =
    -- the plain reader: 1; 4 with the records needed
    reads 21 2 O is gives 1 0
    ∷ reads 20 1 O is gives 4 2
    ∷ reads 20 2 O is fine
    -- 3: the mode cannot be read
    ∷ reads 20 2 (ascii "9") is breaks 0 1
    ∷ reads 20 2 (ascii "12345678") is breaks 0 1
    ∷ reads 20 2 (ascii "100644" ++ 0 ∷ []) is breaks 0 1
    -- it can, and no NUL follows
    ∷ reads 20 2 (ascii "1234567") is breaks 0 2
    ∷ reads 20 2 (ascii "100644 ab") is breaks 0 2
    -- one does, and the id is cut
    ∷ reads 20 2 (take 28 file) is breaks 0 3
    -- the same behind a whole entry
    ∷ reads 20 2 (file ++ ascii "9") is breaks 29 1
    ∷ reads 20 2 (file ++ ascii "12345678") is breaks 29 1
    ∷ reads 20 2 (file ++ ascii "100644" ++ 0 ∷ []) is breaks 29 1
    ∷ reads 20 2 (file ++ ascii "1234567") is breaks 29 2
    ∷ reads 20 2 (file ++ ascii "100644 ab") is breaks 29 2
    ∷ reads 20 2 (take 56 O) is breaks 29 3
    -- a step of the cursor
    ∷ steps 33 0 O is gives 1 0
    ∷ steps 20 29 (take 56 O) is breaks 29 3
    ∷ steps 20 57 O is fine
    -- the strict reader: 1, then 19 for another rule set, 3, 4
    ∷ strictly 3 21 2 O is gives 1 0
    ∷ strictly 0 20 2 O is gives 19 0
    ∷ strictly 3 32 2 O is gives 19 0
    ∷ strictly 2 20 2 (file ++ ascii "40000 b") is breaks 29 2
    ∷ strictly 2 20 1 O is gives 4 2
    ∷ strictly 2 20 2 O is fine
    -- 5: a mode text that its rule set has not
    ∷ strictly 2 20 2 (entry "100664" "a") is gives 5 0
    ∷ strictly 1 20 2 (entry "100664" "a") is fine
    ∷ strictly 1 20 2 (file ++ entry "040000" "b") is gives 5 29
    -- 6: a name that is not permitted
    ∷ strictly 2 20 2 (entry "100644" "") is gives 6 0
    ∷ strictly 2 20 2 (entry "100644" "a/b") is gives 6 0
    ∷ strictly 2 20 2 (entry "100644" "..") is gives 6 0
    ∷ strictly 2 20 2 (entry "40000" ".git") is gives 6 0
    -- 18: `.git` in capitals
    ∷ strictly 2 20 2 (entry "40000" ".Git") is gives 18 0
    -- 7: not after the entry before
    ∷ strictly 2 20 2 (file ++ file) is gives 7 29
    ∷ strictly 2 20 2 (entry "100644" "b" ++ file) is gives 7 29
    -- 17: a name that an entry before has, adjacent or not
    ∷ strictly 2 20 2 (file ++ entry "40000" "a") is gives 17 29
    ∷ strictly 2 20 3 (file ++ entry "100644" "a.b" ++ entry "40000" "a") is gives 17 60
    -- of several that fit an entry, the first: 5, 6, 18, 7
    ∷ strictly 2 20 2 (file ++ entry "100600" ".") is gives 5 29
    ∷ strictly 2 20 2 (file ++ entry "100644" ".") is gives 6 29
    ∷ strictly 2 20 2 (file ++ entry "100644" ".GIT") is gives 18 29
    -- lookup: 1, 15, and 10 at the record that the search met, which is the second
    ∷ looks 19 own "a" is gives 1 0
    ∷ looks 20 own "c" is gives 15 0
    ∷ looks 20 own "a" is fine
    ∷ looks 20 (and_then 65536 35 36 37 29) "a" is gives 10 1
    -- a mode text that starts at the name is one; above it is none
    ∷ looks 20 (and_then 0o40000 35 36 37 35) "a" is fine
    ∷ looks 20 (and_then 0o40000 35 36 37 36) "a" is gives 10 1
    -- writing: 1; 10 and 9 at the record's index; 8 with the bytes needed
    ∷ writes 0 own 57 is gives 1 0
    ∷ writes 20 (and_then 0o40000 36 35 37 29) 57 is gives 10 1
    ∷ writes 20 (and_then 0o40000 35 36 37 36) 57 is gives 10 1
    ∷ writes 20 (and_then 0o40000 35 36 37 35) 57 is fine
    ∷ writes 20 (and_then 0o40000 7 9 37 0) 57 is gives 9 1
    ∷ writes 20 own 56 is gives 8 57
    -- sizes, asked alone, refuse 1 and 10
    ∷ sizes 64 own is gives 1 0
    ∷ sizes 20 (and_then 0o40000 35 36 38 29) is gives 10 1
    ∷ sizes 20 (and_then 0o40000 35 36 37 36) is gives 10 1
    ∷ sizes 20 (and_then 0o40000 7 9 37 0) is fine
    -- a mode text alone, and a mode from a number
    ∷ said (mode_alone (ascii "100648")).verdict is breaks 0 1
    ∷ said (mode_alone (ascii "100644")).verdict is fine
    ∷ said (from_number 0o200000).verdict is gives 23 0
    ∷ said (from_number 0o300644).verdict is fine
    -- a loose header: 23 for another kind, 8 with the bytes needed
    ∷ said (header_answer 5 1 28).verdict is gives 23 0
    ∷ said (header_answer 1 10 9).verdict is gives 8 10
    ∷ []

unfoldable pub commit_table : List Row
commit_table =
    commits 21 1 2 commit is gives 1 0
    -- 11: tree 1, author 2, committer 3, blank line 4, each at the bytes consumed before it
    ∷ commits 20 1 2 parent_line is lacks 0 1
    ∷ commits 20 1 2 (tree_line ++ committer) is lacks 46 2
    ∷ commits 20 1 2 (tree_line ++ parent_line ++ ended "parent c" ++ author) is lacks 94 2
    ∷ commits 20 1 2 (tree_line ++ author ++ author) is lacks 67 3
    ∷ commits 20 1 2 (tree_line ++ author ++ committer) is lacks 91 4
    ∷ commits 20 1 2 (tree_line ++ author ++ committer ++ ended "k v" ++ ascii "l") is lacks 95 4
    -- 12: an author or a committer without the form
    ∷ commits 20 1 2 (tree_line ++ ended "author A" ++ committer) is gives 12 46
    ∷ commits 20 1 2 (tree_line ++ author ++ ended "committer A <a> 1 +1500") is gives 12 67
    -- 4 for the parents, then for the headers
    ∷ commits 20 0 0 commit is gives 4 1
    ∷ commits 20 1 1 commit is gives 4 2
    ∷ commits 20 1 2 commit is fine
    -- writing: 1; 10 at an index; 13, 14; 8 with the bytes needed
    ∷ commit_writes 21 (parts 0 0 0 0) [] 69 is gives 1 0
    ∷ commit_writes 20 (parts 1 0 0 0) [] 69 is gives 10 0
    ∷ commit_writes 20 (parts 0 2 0 0) (0 ∷ []) 200 is gives 10 4
    ∷ commit_writes 20 (parts 0 1 40 40) [] 0 is gives 13 0
    ∷ commit_writes 20 (parts 0 1 40 42) [] 0 is gives 14 0
    ∷ commit_writes 20 (parts 0 0 0 0) [] 68 is gives 8 69
    ∷ commit_writes 20 (parts 0 0 0 0) [] 69 is fine
    -- sizes refuse 1 and 10
    ∷ commit_sizes 0 (parts 0 0 0 0) [] is gives 1 0
    ∷ commit_sizes 20 (parts 0 0 0 0) (0 ∷ 9 ∷ []) is gives 10 2
    ∷ commit_sizes 20 (parts 0 1 40 40) [] is fine
    -- unfolding: 10 at 0, 8 with the bytes needed
    ∷ unfolds 2 9 is gives 10 0
    ∷ unfolds 1 3 is gives 8 4
    ∷ unfolds 1 4 is fine
    ∷ []

pub trees_hold : map (λ (r : Row). r.asked) trees ≡ map (λ (r : Row). r.answer) trees
unfolding trees id_length size_gate gate_of fitted gated value_of sort_of is_tree from_number octal_from has_six text_len settle rest_at read_text read_mode mode_alone
    trimmed write_mode rows by_number next name_order records_of well_formed name_of id_of folder_of entry_bytes as_written entry_of short_part decode_name decode_mode
    decode step_over step_from step_of named_before follow plain tally judge text_of cut is_plain permitted is_dot_git name_number stands_before is_after group_row
    after_number git_rules answer_of is_set rule_gate mid halving search_from compare_entry lookup_in refusal judged measured tree_size tree_answer kind_word
    digits decimal loose_header header_answer
trees_hold = refl

pub commits_hold : map (λ (r : Row). r.asked) commit_table ≡ map (λ (r : Row). r.answer) commit_table
unfolding commit_table id_length size_gate gate_of fitted place_from in_class is_name is_named is_zone is_time is_addressed is_actor hex_value word_at id_from id_at
    line_from line_at fold_from fold_end folded_or extra_at folded_form header.header_at header.well_formed unfolded.has_form unfolded.plain_from unfolded.plain_of
    unfolded.room_plan unfolded.value_plan unfolded.gate_plan unfolded.unfold_plan unfolded.answer_of parent_at parents_from rest_parents heads.heads_from
    heads.rest_heads heads.tally actor_of actor_at encoding_of encoding_at blank_of ending_of with_committer with_author people_of fields_of room_of gated_by outcome_of
    answer_in parents_bytes encoding_bytes records_from check.ranged check.id_fits check.encoding_fits check.header_fits check.judged check.after check.checked
    fold_rest fold_value lower_digit header_written headers_written commit_written write.measured write.encoding_refusal write.encoded write.commit_answer
commits_hold = refl

-- ---- the bounds

-- whether a call may begin, and that it may or with what it is refused
pub record Bound : Type 0 where
  pub asked : Result ⊤ Verdict
  pub answer : Result ⊤ Verdict

infix 90 ◌opens◌
abbrev pub ◌opens◌ : Result ⊤ Verdict → Result ⊤ Verdict → Bound
q opens a = record { asked = q; answer = a }

abbrev two : Result ⊤ Verdict
two = Err (verdict 2 0)

unfoldable pub bounds : List Bound
bounds =
    -- 1,073,741,824 bytes and 1,048,576 records, and one over each, for each id length
    gate_of 20 1073741824 1048576 opens (Ok tt)
    ∷ gate_of 20 1073741825 0 opens two
    ∷ gate_of 20 0 1048577 opens two
    ∷ gate_of 32 1073741824 1048576 opens (Ok tt)
    ∷ gate_of 32 1073741825 0 opens two
    ∷ gate_of 32 0 1048577 opens two
    -- 1 is ahead of 2
    ∷ gate_of 21 1073741825 1048577 opens Err (verdict 1 0)
    -- without an id length
    ∷ size_gate 1073741824 1048576 opens (Ok tt)
    ∷ size_gate 1073741825 0 opens two
    ∷ size_gate 0 1048577 opens two
    -- strict reading: 1, then 19, then 2
    ∷ rule_gate 1 32 1073741824 1048576 opens (Ok tt)
    ∷ rule_gate 2 20 1073741824 1048576 opens (Ok tt)
    ∷ rule_gate 2 20 1073741825 0 opens two
    ∷ rule_gate 2 20 0 1048577 opens two
    ∷ rule_gate 3 20 1073741825 1048577 opens Err (verdict 19 0)
    ∷ rule_gate 3 21 1073741825 1048577 opens Err (verdict 1 0)
    ∷ []

pub bounds_hold : map (λ (b : Bound). b.asked) bounds ≡ map (λ (b : Bound). b.answer) bounds
unfolding bounds id_length size_gate gate_of is_set rule_gate
bounds_hold = refl

-- An object is read for at most 1,048,576 entries; with none left to come, its end is its end, and bytes that remain are 2.
pub record FullList : Type 0 where
  pub most : (h : ℕ) (s : List ℕ) → listing h s ≡ plain h 1048576 0 s
  pub ends : (h at : ℕ) → plain h 0 at [] ≡ done
  pub remains : (h at x : ℕ) (xs : List ℕ) → plain h 0 at (x ∷ xs) ≡ stop (verdict 2 0)

pub full_list : FullList
unfolding plain
full_list = record { most = λ h s. refl; ends = λ h at. refl; remains = λ h at x xs. refl }
