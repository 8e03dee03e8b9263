-- Imports, computed: one table, and two claims over it. Assumes nothing.
use Rattle.std.specs.Prelude.{ℕ, ◌≡◌, refl, List, [], ◌∷◌, ◌++◌, map, replicate}
use Prim.Native.String.{String}
use Rattle.ground.specs.Basics.{ascii}
use Rattle.ground.specs.Scan.{common_start}
use Rattle.ground.specs.Verdict.{verdict, counted, refused, id_length, size_gate, stored, is_set}
use Rattle.ground.specs.declared.Answer.{Answer}
use Rattle.output.specs.Output.{fitted, gated}
use Rattle.mode.specs.Mode.{value_of, sort_of, is_tree}
use Rattle.mode.specs.Table.{rows}
use Rattle.mode.specs.Write.{trimmed, write_mode}
use Rattle.order.specs.Order.{by_number, next, name_order}
use Rattle.entry.specs.Entry.{entry_bytes, as_written}
use Rattle.rules.specs.Rules.{is_plain, is_dot_git, bare_number, stands_before, group_row}
use Rattle.rules.specs.Gate.{rule_gate}
use Rattle.sorting.specs.Sort.{insert_by, sort_by}
use Rattle.hex_digits.specs.Hex.{hex_value}
use Rattle.id_of_hex.specs.Id.{bytes_of}
use Rattle.tree_text.specs.Text.{sort_word, front_text}
use Rattle.text_form.specs.Form.{between, within, all_within, word_len, front_len, name_from}
use Rattle.text_record.specs.Record.{front_mode, pared, name_end, name_in, id_in, formed, said_number, text_number, entry_in, size_in}
use Rattle.text_import.specs.Import.{texts, read_from, entries_in, ending, compare_same, name_same, any_before, repeated, import_verdict, imported, counted_of, import_answer}

-- digits and word, so many times a digit, and a name
abbrev rec : List ℕ → ℕ → ℕ → List ℕ → List ℕ
rec front many digit name = front ++ (replicate many digit ++ 9 ∷ (name ++ 0 ∷ []))

abbrev blob : ℕ → String → List ℕ
blob digit name = rec (ascii "100644 blob ") 40 digit (ascii name)

abbrev tree : ℕ → String → List ℕ
tree digit name = rec (ascii "040000 tree ") 40 digit (ascii name)

-- a text with ids of h bytes by a rule set into room of nines: the answer, and what the room holds afterwards
pub record Example : Type 0 where
  pub h : ℕ
  pub rules : ℕ
  pub text : List ℕ
  pub room : ℕ
  pub answer : Answer
  pub output : List ℕ

unfoldable pub examples : List Example
examples =
    -- a folder before a file: the object has them in Git's order, and a byte of the room stays
    record {
      h = 20;
      rules = 2;
      text = tree 50 "a" ++ blob 49 "a.b";
      room = 60;
      answer = counted 59;
      output = ascii "100644 a.b" ++ 0 ∷ (replicate 20 17 ++ (ascii "40000 a" ++ 0 ∷ (replicate 20 34 ++ 9 ∷ [])));
    }
    -- a byte too little room
    ∷ record { h = 20; rules = 2; text = blob 49 "a"; room = 28; answer = refused (verdict 8 29); output = replicate 28 9 }
    -- ids of another length, which comes before the rule set; no rule set 3
    ∷ record { h = 21; rules = 3; text = []; room = 1; answer = refused (verdict 1 0); output = 9 ∷ [] }
    ∷ record { h = 20; rules = 3; text = 0 ∷ []; room = 1; answer = refused (verdict 19 0); output = 9 ∷ [] }
    -- the second record: its form, its mode, its name
    ∷ record { h = 20; rules = 2; text = blob 49 "a" ++ blob 65 "b"; room = 1; answer = refused (verdict 20 55); output = 9 ∷ [] }
    ∷ record {
      h = 20;
      rules = 2;
      text = blob 49 "a" ++ rec (ascii "300644 blob ") 40 49 (ascii "b");
      room = 1;
      answer = refused (verdict 5 55);
      output = 9 ∷ [];
    }
    ∷ record { h = 20; rules = 2; text = blob 49 "a" ++ blob 49 "b/c"; room = 1; answer = refused (verdict 6 55); output = 9 ∷ [] }
    ∷ record { h = 20; rules = 2; text = blob 49 "a" ++ blob 49 ".Git"; room = 1; answer = refused (verdict 18 55); output = 9 ∷ [] }
    -- 7 over all records before 17, though the record that is 17 comes first
    ∷ record { h = 20; rules = 2; text = tree 49 "a" ++ blob 49 "a" ++ blob 50 "a"; room = 1; answer = refused (verdict 7 110); output = 9 ∷ [] }
    ∷ record { h = 20; rules = 2; text = tree 49 "a" ++ blob 49 "a.b" ++ blob 50 "a"; room = 1; answer = refused (verdict 17 112); output = 9 ∷ [] }
    ∷ []

pub answers_hold : map (λ (e : Example). import_answer e.rules e.h e.text e.room) examples ≡ map (λ (e : Example). e.answer) examples
unfolding examples common_start id_length size_gate fitted gated value_of sort_of is_tree rows trimmed write_mode by_number next name_order entry_bytes
    as_written is_plain is_dot_git bare_number stands_before group_row is_set rule_gate insert_by sort_by hex_value bytes_of sort_word front_text between within
    all_within word_len front_len name_from front_mode pared name_end name_in id_in formed said_number text_number entry_in size_in read_from entries_in ending
    compare_same name_same any_before repeated import_verdict imported counted_of import_answer
answers_hold = refl

abbrev after : Example → List ℕ
after e = stored (import_answer e.rules e.h e.text e.room).verdict (imported (texts e.rules e.h e.text)) (replicate e.room 9)

pub outputs_hold : map after examples ≡ map (λ (e : Example). e.output) examples
unfolding examples stored common_start id_length size_gate fitted gated value_of sort_of is_tree rows trimmed write_mode by_number next name_order entry_bytes
    as_written is_plain is_dot_git bare_number stands_before group_row is_set rule_gate insert_by sort_by hex_value bytes_of sort_word front_text between within
    all_within word_len front_len name_from front_mode pared name_end name_in id_in formed said_number text_number entry_in size_in read_from entries_in ending
    compare_same name_same any_before repeated import_verdict imported counted_of import_answer
outputs_hold = refl
