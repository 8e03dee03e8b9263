-- Exports, computed: one table, and two claims over it. Assumes nothing.
use Rattle.std.specs.Prelude.{ℕ, ◌≡◌, refl, List, [], ◌∷◌, ◌++◌, map, replicate}
use Prim.Native.String.{String}
use Rattle.ground.specs.Basics.{ascii}
use Rattle.ground.specs.Verdict.{verdict, broken, counted, refused, id_length, size_gate, stored, is_set}
use Rattle.ground.specs.declared.Answer.{Answer}
use Rattle.output.specs.Output.{fitted, gated}
use Rattle.mode.specs.Mode.{value_of, sort_of, is_tree}
use Rattle.mode_text.specs.Read.{read_text}
use Rattle.mode.specs.Read.{octal_from, has_six, text_len, settle, rest_at, read_mode}
use Rattle.mode.specs.Table.{rows}
use Rattle.order.specs.Order.{by_number, next, name_order}
use Rattle.entry.specs.Record.{name_of, id_of}
use Rattle.entry.specs.Entry.{entry_of}
use Rattle.entry.specs.Decode.{short_part, decode_name, decode_mode, decode}
use Rattle.doubles.specs.Doubles.{named_before}
use Rattle.reading.specs.Listing.{follow, plain, records_in, tally}
use Rattle.rules.specs.Rules.{is_plain, judge, permitted, is_dot_git, name_number, stands_before, is_after, group_row, after_number, git_rules}
use Rattle.rules.specs.Gate.{rule_gate}
use Rattle.strict.specs.Strict.{text_of, cut}
use Rattle.hex_digits.specs.Hex.{digit_of}
use Rattle.hex_of_id.specs.Hex.{hex_of}
use Rattle.tree_text.specs.Text.{sort_word, front_text, record_text, as_text}
use Rattle.tree_export.specs.Export.{text_in, counted_in, export_answer}
use Rattle.examples.specs.Examples.{O}

-- an entry of an object, and its record of text; the id is twenty times a byte
abbrev entry : String → String → ℕ → List ℕ
entry mode name byte = ascii mode ++ (32 ∷ (ascii name ++ 0 ∷ replicate 20 byte))

-- an object by a rule set into room of nines: the answer, and what the room holds afterwards
pub record Example : Type 0 where
  pub rules : ℕ
  pub object : List ℕ
  pub room : ℕ
  pub answer : Answer
  pub output : List ℕ

unfoldable pub examples : List Example
examples =
    record {
      rules = 2;
      object = O;
      room = 111;
      answer = counted 110;
      output =
          ascii "100644 blob 1111111111111111111111111111111111111111"
          ++ 9 ∷ 97 ∷ 0 ∷ (ascii "040000 tree 2222222222222222222222222222222222222222" ++ 9 ∷ 98 ∷ 0 ∷ 9 ∷ []);
    }
    -- a byte too little room: 8 with the bytes needed, and nothing is written
    ∷ record { rules = 2; object = O; room = 109; answer = refused (verdict 8 110); output = replicate 109 9 }
    -- an executable and a link are blobs, a submodule is a commit; ids in lower case
    ∷ record {
      rules = 2;
      object = entry "100755" "a" 0xab ++ entry "160000" "b" 0xcd;
      room = 112;
      answer = counted 112;
      output =
          ascii "100755 blob abababababababababababababababababababab"
          ++ 9 ∷ 97 ∷ 0 ∷ (ascii "160000 commit cdcdcdcdcdcdcdcdcdcdcdcdcdcdcdcdcdcdcdcd" ++ 9 ∷ 98 ∷ 0 ∷ []);
    }
    -- 100664 by the rule set, and the strict refusals; no rule set 3
    ∷ record { rules = 1; object = entry "100664" "a" 0; room = 3; answer = refused (verdict 8 55); output = replicate 3 9 }
    ∷ record { rules = 2; object = entry "100664" "a" 0; room = 3; answer = refused (verdict 5 0); output = replicate 3 9 }
    ∷ record { rules = 2; object = entry "100644" "a" 0 ++ entry "40000" "a" 0; room = 3; answer = refused (verdict 17 29); output = replicate 3 9 }
    ∷ record { rules = 2; object = ascii "100644"; room = 3; answer = refused (broken 0 2); output = replicate 3 9 }
    ∷ record { rules = 3; object = O; room = 3; answer = refused (verdict 19 0); output = replicate 3 9 }
    ∷ record { rules = 2; object = []; room = 1; answer = counted 0; output = 9 ∷ [] }
    ∷ []

pub answers_hold : map (λ (e : Example). export_answer e.rules 20 e.object e.room) examples ≡ map (λ (e : Example). e.answer) examples
unfolding examples id_length size_gate fitted gated value_of sort_of is_tree octal_from has_six text_len settle rest_at read_text read_mode rows by_number next name_order
    name_of id_of entry_of short_part decode_name decode_mode decode named_before follow plain records_in tally is_plain judge permitted is_dot_git name_number stands_before
    is_after group_row after_number git_rules is_set rule_gate text_of cut digit_of hex_of sort_word front_text record_text as_text counted_in export_answer
answers_hold = refl

abbrev after : Example → List ℕ
after e = stored (export_answer e.rules 20 e.object e.room).verdict (text_in 20 e.object) (replicate e.room 9)

pub outputs_hold : map after examples ≡ map (λ (e : Example). e.output) examples
unfolding examples id_length size_gate fitted gated stored value_of sort_of is_tree octal_from has_six text_len settle rest_at read_text read_mode rows by_number next name_order
    name_of id_of entry_of short_part decode_name decode_mode decode named_before follow plain records_in tally is_plain judge permitted is_dot_git name_number stands_before
    is_after group_row after_number git_rules is_set rule_gate text_of cut digit_of hex_of sort_word front_text record_text as_text counted_in export_answer
outputs_hold = refl
