-- Writings, computed: one table, and three claims over it. Assumes nothing.
use Rattle.std.specs.Prelude.{ℕ, ◌≡◌, refl, List, [], ◌∷◌, ◌++◌, map, length, replicate}
use Rattle.ground.specs.Basics.{ascii}
use Rattle.ground.specs.Scan.{place_from}
use Rattle.ground.specs.Verdict.{verdict, counted, refused, id_length, size_gate, gate_of, stored}
use Rattle.ground.specs.declared.Answer.{Answer}
use Rattle.output.specs.Output.{fitted}
use Rattle.hex_digits.specs.Hex.{hex_value}
use Rattle.extra_header.specs.Extra.{fold_from, fold_end, folded_form}
use Rattle.header.specs.Record.{header_at, well_formed}
use Rattle.header.specs.declared.CommitParts.{CommitParts}
use Rattle.unfold.specs.Unfold.{has_form}
use Rattle.grammar.specs.Grammar.{parents_bytes, encoding_bytes}
use Rattle.grammar.specs.Named.{records_from}
use Rattle.commit_check.specs.Check.{ranged, id_fits, encoding_fits, header_fits, judged, after, checked}
use Rattle.commit_value.specs.Fold.{fold_rest, fold_value}
use Rattle.commit_write.specs.Written.{lower_digit, header_written, headers_written, commit_written}
use Rattle.commit_write.specs.Write.{parts_written, measured, encoding_refusal, encoded, commit_size, commit_answer}

-- a writing with ids of 20 bytes: the parts, the lent lists, the output before; the answer, the size asked alone, and the output after
pub record Example : Type 0 where
  pub parts : CommitParts
  pub parents : List ℕ
  pub headers : List ℕ
  pub room : List ℕ
  pub answer : Answer
  pub size : Answer
  pub output : List ℕ

-- the bytes of all examples: 40 digits, then `A`, `C`, `m`, `k`, and from 44 on `a`, LF, `b`, LF, ` c`, LF
abbrev lent : List ℕ
lent = replicate 40 66 ++ ascii "ACmk" ++ 97 ∷ 10 ∷ 98 ∷ 10 ∷ 32 ∷ 99 ∷ 10 ∷ []

abbrev parts : ℕ → ℕ → ℕ → CommitParts
parts mark from to =
    record {
      tree = 0;
      author_start = 40;
      author_end = 41;
      committer_start = 41;
      committer_end = 42;
      encoding = mark;
      encoding_start = from;
      encoding_end = to;
      message_start = 42;
      message_end = 43;
    }

abbrev digits : List ℕ
digits = replicate 40 98

abbrev people : List ℕ
people = ascii "author A" ++ 10 ∷ ascii "committer C" ++ 10 ∷ []

unfoldable pub examples : List Example
examples =
    -- the digits in lower case; a value of two lines is folded; one byte more than is needed
    record {
      parts = parts 0 99 7;
      parents = 0 ∷ [];
      headers = 43 ∷ 44 ∷ 44 ∷ 48 ∷ 0 ∷ [];
      room = replicate 125 9;
      answer = counted 124;
      size = counted 124;
      output =
          (ascii "tree " ++ digits ++ 10 ∷ ascii "parent " ++ digits ++ 10 ∷ people)
          ++ (ascii "k a" ++ 10 ∷ ascii " b" ++ 10 ∷ 10 ∷ ascii "m" ++ 9 ∷ []);
    }
    -- an encoding; an empty value is a name, a space and an LF; a folded one is copied
    ∷ record {
      parts = parts 1 43 44;
      parents = [];
      headers = 43 ∷ 44 ∷ 44 ∷ 44 ∷ 0 ∷ 42 ∷ 43 ∷ 46 ∷ 51 ∷ 1 ∷ 7 ∷ [];
      room = replicate 90 9;
      answer = counted 90;
      size = counted 90;
      output =
          (ascii "tree " ++ digits ++ 10 ∷ people)
          ++ (ascii "encoding k" ++ 10 ∷ ascii "k " ++ 10 ∷ ascii "m b" ++ 10 ∷ ascii " c" ++ 10 ∷ 10 ∷ ascii "m");
    }
    -- a byte too little
    ∷ record {
      parts = parts 0 0 0;
      parents = [];
      headers = [];
      room = replicate 68 9;
      answer = refused (verdict 8 69);
      size = counted 69;
      output = replicate 68 9;
    }
    -- an LF in the encoding; and an empty one: the size counts both as they would be written
    ∷ record {
      parts = parts 1 44 46;
      parents = [];
      headers = [];
      room = [];
      answer = refused (verdict 14 0);
      size = counted 81;
      output = [];
    }
    ∷ record {
      parts = parts 1 44 44;
      parents = [];
      headers = [];
      room = [];
      answer = refused (verdict 13 0);
      size = counted 79;
      output = [];
    }
    -- the second parent has a byte that is no digit; a header that is not folded, counted after the absent encoding
    ∷ record {
      parts = parts 2 0 0;
      parents = 0 ∷ 4 ∷ [];
      headers = [];
      room = [];
      answer = refused (verdict 10 2);
      size = refused (verdict 10 2);
      output = [];
    }
    ∷ record {
      parts = parts 0 0 0;
      parents = 0 ∷ [];
      headers = 0 ∷ 0 ∷ 0 ∷ 0 ∷ 0 ∷ 43 ∷ 44 ∷ 44 ∷ 46 ∷ 1 ∷ [];
      room = [];
      answer = refused (verdict 10 6);
      size = refused (verdict 10 6);
      output = [];
    }
    ∷ []

pub answers_hold : map (λ (e : Example). commit_answer 20 lent e.parts e.parents e.headers (length e.room)) examples ≡ map (λ (e : Example). e.answer) examples
unfolding examples id_length size_gate gate_of fitted place_from hex_value fold_from fold_end folded_form header_at well_formed has_form parents_bytes encoding_bytes records_from ranged id_fits encoding_fits header_fits judged after checked fold_rest fold_value lower_digit header_written headers_written commit_written measured encoding_refusal encoded commit_answer
answers_hold = refl

pub sizes_hold : map (λ (e : Example). commit_size 20 lent e.parts e.parents e.headers) examples ≡ map (λ (e : Example). e.size) examples
unfolding examples id_length size_gate gate_of place_from hex_value fold_from fold_end folded_form header_at well_formed has_form parents_bytes encoding_bytes records_from ranged id_fits encoding_fits header_fits judged after checked fold_rest fold_value lower_digit header_written headers_written commit_written measured
sizes_hold = refl

abbrev output_after : Example → List ℕ
output_after e = stored (commit_answer 20 lent e.parts e.parents e.headers (length e.room)).verdict (parts_written 20 lent e.parts e.parents e.headers) e.room

pub outputs_hold : map output_after examples ≡ map (λ (e : Example). e.output) examples
unfolding examples id_length size_gate gate_of fitted stored place_from hex_value fold_from fold_end folded_form header_at well_formed has_form parents_bytes encoding_bytes records_from ranged id_fits encoding_fits header_fits judged after checked fold_rest fold_value lower_digit header_written headers_written commit_written measured encoding_refusal encoded commit_answer
outputs_hold = refl
