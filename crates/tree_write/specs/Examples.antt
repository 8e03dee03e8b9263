-- Writings, computed: one table, and three claims over it. Assumes nothing.
use Rattle.std.specs.Prelude.{ℕ, ◌≡◌, refl, List, [], ◌∷◌, ◌++◌, map, length, replicate}
use Rattle.ground.specs.Basics.{ascii}
use Rattle.ground.specs.Verdict.{verdict, counted, refused, id_length, size_gate, gate_of, stored}
use Rattle.ground.specs.declared.Answer.{Answer}
use Rattle.output.specs.Output.{fitted, gated}
use Rattle.mode_text.specs.Write.{write_mode, trimmed}
use Rattle.entry.specs.Record.{records_of, well_formed, name_of, id_of}
use Rattle.entry.specs.Entry.{entry_bytes, as_written, entry_of}
use Rattle.tree_write.specs.Write.{written, refusal, judged, measured, tree_size, tree_answer}

-- a writing with ids of 20 bytes: the bytes, the records, the output before; the answer, the size asked alone, and the output after
pub record Example : Type 0 where
  pub bytes : List ℕ
  pub records : List ℕ
  pub room : List ℕ
  pub answer : Answer
  pub size : Answer
  pub output : List ℕ

abbrev two_entries : List ℕ
two_entries = ascii "100644 a" ++ 0 ∷ (replicate 20 0x11 ++ (ascii "40000 b" ++ 0 ∷ replicate 20 0x22))

unfoldable pub examples : List Example
examples =
    -- an object of 57 bytes from its own records, into two bytes more than it needs
    record {
      bytes = two_entries;
      records = 0o100644 ∷ 7 ∷ 8 ∷ 9 ∷ 0 ∷ 0o40000 ∷ 35 ∷ 36 ∷ 37 ∷ 29 ∷ [];
      room = replicate 59 9;
      answer = counted 57;
      size = counted 57;
      output = two_entries ++ 9 ∷ 9 ∷ [];
    }
    -- mode 0, a name, and an id that starts with a space
    ∷ record {
      bytes = ascii "abc" ++ (32 ∷ replicate 19 7);
      records = 0 ∷ 0 ∷ 3 ∷ 3 ∷ 0 ∷ [];
      room = replicate 26 9;
      answer = counted 26;
      size = counted 26;
      output = ascii "0 abc" ++ 0 ∷ 32 ∷ replicate 19 7;
    }
    -- too little room: 8 with the bytes needed, and nothing is written; the numbers past the second record are no record
    ∷ record {
      bytes = two_entries;
      records = 0o100644 ∷ 7 ∷ 8 ∷ 9 ∷ 0 ∷ 0o40000 ∷ 35 ∷ 36 ∷ 37 ∷ 29 ∷ 65536 ∷ 0 ∷ 0 ∷ 0 ∷ [];
      room = replicate 56 9;
      answer = refused (verdict 8 57);
      size = counted 57;
      output = replicate 56 9;
    }
    -- a NUL in the second name: 9 at its index, before 10 at the next, which is all that the size refuses
    ∷ record {
      bytes = two_entries;
      records = 0o100644 ∷ 7 ∷ 8 ∷ 9 ∷ 0 ∷ 0o40000 ∷ 7 ∷ 9 ∷ 9 ∷ 0 ∷ 65536 ∷ 7 ∷ 8 ∷ 9 ∷ 0 ∷ [];
      room = 9 ∷ [];
      answer = refused (verdict 9 1);
      size = refused (verdict 10 2);
      output = 9 ∷ [];
    }
    -- a mode text may start anywhere up to the name, and is not written; one that starts after the name does is 10
    ∷ record {
      bytes = two_entries;
      records = 0o100644 ∷ 7 ∷ 8 ∷ 9 ∷ 7 ∷ 0o40000 ∷ 35 ∷ 36 ∷ 37 ∷ 36 ∷ [];
      room = 9 ∷ [];
      answer = refused (verdict 10 1);
      size = refused (verdict 10 1);
      output = 9 ∷ [];
    }
    ∷ []

pub answers_hold : map (λ (e : Example). tree_answer 20 e.bytes e.records (length e.room)) examples ≡ map (λ (e : Example). e.answer) examples
unfolding examples id_length size_gate gate_of fitted gated write_mode trimmed records_of well_formed name_of id_of entry_bytes as_written entry_of refusal judged measured tree_answer
answers_hold = refl

pub sizes_hold : map (λ (e : Example). tree_size 20 e.bytes e.records) examples ≡ map (λ (e : Example). e.size) examples
unfolding examples id_length size_gate gate_of gated write_mode trimmed records_of well_formed name_of id_of entry_bytes as_written entry_of refusal judged measured tree_size
sizes_hold = refl

abbrev after : Example → List ℕ
after e = stored (tree_answer 20 e.bytes e.records (length e.room)).verdict (written 20 e.bytes (records_of e.records)) e.room

pub outputs_hold : map after examples ≡ map (λ (e : Example). e.output) examples
unfolding examples id_length size_gate gate_of fitted gated stored write_mode trimmed records_of well_formed name_of id_of entry_bytes as_written entry_of refusal judged measured tree_answer
outputs_hold = refl
