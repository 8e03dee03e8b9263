-- Imports, computed: one table, and one claim over it. Assumes nothing.
use Rattle.std.specs.Prelude.{ℕ, ◌≡◌, refl, List, [], ◌∷◌, ◌++◌, map, replicate}
use Rattle.ground.specs.Basics.{ascii}
use Rattle.ground.specs.Scan.{common_start}
use Rattle.ground.specs.Verdict.{verdict, counted, refused, id_length, size_gate, is_set}
use Rattle.ground.specs.declared.Answer.{Answer}
use Rattle.output.specs.Output.{fitted, gated}
use Rattle.mode.specs.Mode.{value_of, sort_of, is_tree}
use Rattle.mode.specs.Table.{rows}
use Rattle.mode.specs.Write.{trimmed, write_mode}
use Rattle.order.specs.Order.{by_number, next, name_order}
use Rattle.entry.specs.Entry.{entry_bytes, as_written}
use Rattle.rules.specs.Rules.{is_plain, is_dot_git, bare_number, stands_before, group_row}
use Rattle.rules.specs.Gate.{rule_gate}
use Rattle.sorting.specs.Sort.{insert_by, sort_by}
use Rattle.hex_digits.specs.Hex.{hex_value}
use Rattle.id_of_hex.specs.Id.{bytes_of}
use Rattle.tree_text.specs.Text.{sort_word, front_text}
use Rattle.text_form.specs.Form.{between, within, all_within, word_len, front_len, name_from}
use Rattle.text_record.specs.Record.{front_mode, pared, name_end, name_in, id_in, formed, said_number, text_number, entry_in, size_in}
use Rattle.text_import.specs.Import.{read_from, entries_in, ending, compare_same, name_same, any_before, repeated, import_verdict, imported, counted_of, import_answer}

-- digits and word, forty times a digit, and a name
abbrev rec : List ℕ → ℕ → List ℕ → List ℕ
rec front digit name = front ++ (replicate 40 digit ++ 9 ∷ (name ++ 0 ∷ []))

-- a text, by a rule set, into 100 bytes: the answer
pub record Example : Type 0 where
  pub rules : ℕ
  pub text : List ℕ
  pub answer : Answer

unfoldable pub examples : List Example
examples =
    record { rules = 2; text = []; answer = counted 0 }
    -- a folder and a file, in either order; with `a.b` the folder `a` stands behind it
    ∷ record { rules = 2; text = rec (ascii "040000 tree ") 50 (ascii "b") ++ rec (ascii "100644 blob ") 49 (ascii "a"); answer = counted 57 }
    -- nothing but NUL; no NUL at the end; an id in capitals; five digits; a word that disagrees
    ∷ record { rules = 2; text = 0 ∷ []; answer = refused (verdict 20 0) }
    ∷ record { rules = 2; text = rec (ascii "100644 blob ") 49 (ascii "a") ++ ascii "100644"; answer = refused (verdict 20 55) }
    ∷ record { rules = 2; text = rec (ascii "100644 blob ") 65 (ascii "a"); answer = refused (verdict 20 0) }
    ∷ record { rules = 2; text = rec (ascii "40000 tree ") 49 (ascii "a"); answer = refused (verdict 20 0) }
    ∷ record { rules = 2; text = rec (ascii "100644 tree ") 49 (ascii "a"); answer = refused (verdict 20 0) }
    -- modes are compared as text; 100664 by the rule set
    ∷ record { rules = 2; text = rec (ascii "300644 tree ") 49 (ascii "a"); answer = refused (verdict 5 0) }
    ∷ record { rules = 2; text = rec (ascii "100664 blob ") 49 (ascii "a"); answer = refused (verdict 5 0) }
    ∷ record { rules = 1; text = rec (ascii "100664 blob ") 49 (ascii "a"); answer = counted 29 }
    -- names: none, `.git`, `.GIT`; a tab is a byte as any other
    ∷ record { rules = 2; text = rec (ascii "100644 blob ") 49 []; answer = refused (verdict 6 0) }
    ∷ record { rules = 2; text = rec (ascii "100644 blob ") 49 (ascii ".git"); answer = refused (verdict 6 0) }
    ∷ record { rules = 2; text = rec (ascii "100644 blob ") 49 (ascii ".GIT"); answer = refused (verdict 18 0) }
    ∷ record { rules = 2; text = rec (ascii "100644 blob ") 49 (9 ∷ []); answer = counted 29 }
    -- a folder and a file of one name, in either order, are 17 at the second; 7 comes before, over all records, whatever mode and id
    ∷ record { rules = 2; text = rec (ascii "040000 tree ") 49 (ascii "a") ++ rec (ascii "100644 blob ") 49 (ascii "a"); answer = refused (verdict 17 55) }
    ∷ record {
      rules = 2;
      text =
          rec (ascii "040000 tree ") 49 (ascii "a") ++ rec (ascii "100644 blob ") 49 (ascii "a") ++ rec (ascii "120000 blob ") 50 (ascii "a");
      answer = refused (verdict 7 110);
    }
    ∷ []

pub answers_hold : map (λ (e : Example). import_answer e.rules 20 e.text 100) examples ≡ map (λ (e : Example). e.answer) examples
unfolding examples common_start id_length size_gate fitted gated value_of sort_of is_tree rows trimmed write_mode by_number next name_order entry_bytes as_written is_plain is_dot_git bare_number stands_before group_row is_set rule_gate insert_by sort_by hex_value bytes_of sort_word front_text between within all_within word_len front_len name_from front_mode pared name_end name_in id_in formed said_number text_number entry_in size_in read_from entries_in ending compare_same name_same any_before repeated import_verdict imported counted_of import_answer
answers_hold = refl
