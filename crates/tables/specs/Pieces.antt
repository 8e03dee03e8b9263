-- The check in pieces, computed: each number in its case, with place and part, however the object is cut (docs/FORMAT.md, "A check in pieces"). Assumes
-- nothing.
use Rattle.std.specs.Prelude.{ℕ, ◌≡◌, refl, List, [], ◌∷◌, ◌++◌, map, length, replicate, take, drop}
use Prim.Native.String.{String}
use Rattle.ground.specs.Basics.{ascii}
use Rattle.ground.specs.Verdict.{id_length, size_gate, verdict, broken, counted, refused, most_bytes, most_records, is_set}
use Rattle.ground.specs.declared.Answer.{Answer}
use Rattle.mode.specs.Mode.{value_of, sort_of, is_tree}
use Rattle.mode_text.specs.Read.{octal_from, has_six, text_len, settle, rest_at, read_text}
use Rattle.mode.specs.Read.{read_mode}
use Rattle.mode.specs.Table.{rows}
use Rattle.order.specs.Order.{by_number, next, name_order}
use Rattle.entry.specs.Record.{name_of, id_of}
use Rattle.entry.specs.Entry.{entry_of}
use Rattle.entry.specs.Decode.{short_part}
use Rattle.doubles.specs.Doubles.{top_is, named_before}
use Rattle.doubles.specs.Stack.{stack_of, kept_of, open_at, marks_at, is_double, open_of}
use Rattle.rules.specs.Rules.{judge, is_plain, permitted, is_dot_git, name_number, bare_number, stands_before, is_after, group_row, after_number, git_rules}
use Rattle.rules.specs.Gate.{rule_gate}
use Rattle.reading.specs.Listing.{follow, tally}
use Rattle.strict.specs.Strict.{text_of, cut}
use Rattle.arriving.specs.declared.Marks.{Marks}
use Rattle.arriving.specs.declared.Phase.TheVariants.{Head}
use Rattle.arriving.specs.Feed.{together, start_of, meet, name_marks, name_held, judged, placed, closed, closed_ends, id_marks, id_ends, body, bodies, begin, head_step}
use Rattle.arriving.specs.Feed.{over, byte_step, feed_of, finish_of}
use Rattle.checking.specs.Whole.{held_name, held_mode, arriving, check_of}
use Rattle.checking.specs.Claims.{in_pieces, answer}
use Rattle.examples.specs.Examples.{O}

-- a check, and its answer
pub record Row : Type 0 where
  pub asked : Answer
  pub answer : Answer

infix 90 ◌is◌
abbrev pub ◌is◌ : Answer → Answer → Row
q is a = record { asked = q; answer = a }

-- pieces one after the other, by id length and rule set; in rooms of 8, which is enough for these names
abbrev pieces : ℕ → ℕ → List (List ℕ) → Answer
pieces h k ps = answer h k (replicate 8 0) (replicate 8 0) ps

-- two pieces with an empty one between, ids of 20 bytes, rule set 2
abbrev cut_at : ℕ → List ℕ → Answer
cut_at n s = pieces 20 2 (take n s ∷ [] ∷ drop n s ∷ [])

-- a mode text and a name with an id
abbrev entry : String → String → List ℕ
entry mode name = ascii mode ++ 32 ∷ ascii name ++ 0 ∷ replicate 20 0x33

abbrev gives : ℕ → ℕ → Answer
gives n p = refused (verdict n p)

-- a name of so many bytes behind a mode text and a space, and what follows it
abbrev named : String → ℕ → List ℕ → List ℕ
named mode n rest = ascii mode ++ 32 ∷ replicate n 97 ++ rest

-- one byte more, where so many bytes and so many entries have come and the entry has this one first byte
abbrev after : ℕ → ℕ → List ℕ → Answer
after at count first = finish_of (feed_of (together (replicate 8 0) (replicate 8 0) (reached (start_of 20 2))) (48 ∷ [])).marks
  where
    reached : Marks → Marks
    reached m =
        record {
          verdict = m.verdict;
          h = m.h;
          rules = m.rules;
          at = at;
          first = at;
          count = count;
          last = m.last;
          ended = m.ended;
          head = first ++ replicate 7 0;
          phase = Head (length first);
        }

unfoldable pub rows_of_pieces : List Row
rows_of_pieces =
    -- 1, then 19, whatever is fed
    pieces 21 3 (ascii "8" ∷ []) is gives 1 0
    ∷ pieces 20 3 (ascii "8" ∷ []) is gives 19 0
    -- no entry, and two, cut inside a mode, a name and an id
    ∷ pieces 20 2 [] is counted 0
    ∷ cut_at 3 O is counted 2
    ∷ cut_at 8 O is counted 2
    ∷ cut_at 30 O is counted 2
    -- 3 with its three parts
    ∷ cut_at 29 (take 29 O ++ ascii "8") is refused (broken 29 1)
    ∷ cut_at 1 (ascii "100644 a") is refused (broken 0 2)
    ∷ cut_at 40 (take 56 O) is refused (broken 29 3)
    -- 5 by rule set 2, not by 1; 6, 18, 7
    ∷ cut_at 5 (entry "100664" "a") is gives 5 0
    ∷ pieces 20 1 (entry "100664" "a" ∷ []) is counted 1
    ∷ cut_at 30 (O ++ entry "100644" "a/b") is gives 6 57
    ∷ cut_at 60 (O ++ entry "100644" ".Git") is gives 18 57
    ∷ cut_at 60 (O ++ entry "100644" "a") is gives 7 57
    -- 17 for a folder after the file of its name, with another between
    ∷ cut_at 40 (entry "100644" "a" ++ entry "100644" "a.b" ++ entry "40000" "a") is gives 17 60
    -- a refusal that is settled stays
    ∷ pieces 20 2 (entry "100664" "a" ∷ ascii "8" ∷ []) is gives 5 0
    -- 2 past the most bytes, but 3 where they settle it, and past the most entries
    ∷ after most_bytes 5 [] is gives 2 0
    ∷ after most_bytes 5 (49 ∷ []) is gives 2 0
    ∷ after most_bytes 5 (56 ∷ []) is refused (broken most_bytes 1)
    ∷ after 9 most_records [] is gives 2 0
    ∷ []

-- a whole object, which the answer of any cutting is
unfoldable pub rows_of_names : List Row
rows_of_names =
    -- a name of 4,096 bytes is held, one of 4,097 is 16, ahead of what may be missing behind it, of 5 and of 6; behind a mode that cannot be read it is 3
    check_of 20 2 (named "100644" 4096 (0 ∷ replicate 20 7)) is counted 1
    ∷ check_of 20 2 (named "100644" 4096 []) is refused (broken 0 2)
    ∷ check_of 20 2 (named "100644" 4097 (0 ∷ replicate 20 7)) is gives 16 0
    ∷ check_of 20 2 (O ++ named "100600" 4097 []) is gives 16 57
    ∷ check_of 20 2 (named "8" 4097 (0 ∷ replicate 20 7)) is refused (broken 0 1)
    ∷ []

pub pieces_hold : map (λ (r : Row). r.asked) rows_of_pieces ≡ map (λ (r : Row). r.answer) rows_of_pieces
unfolding rows_of_pieces id_length size_gate value_of sort_of is_tree octal_from has_six text_len settle rest_at read_text read_mode rows by_number next short_part stack_of
    kept_of open_at marks_at is_double open_of is_plain is_dot_git bare_number group_row is_set rule_gate start_of meet name_marks name_held judged placed closed closed_ends id_marks
    id_ends body bodies begin head_step over byte_step feed_of finish_of in_pieces top_is
pieces_hold = refl

pub names_hold : map (λ (r : Row). r.asked) rows_of_names ≡ map (λ (r : Row). r.answer) rows_of_names
unfolding rows_of_names id_length size_gate value_of sort_of is_tree octal_from has_six text_len settle rest_at read_text read_mode rows by_number next name_order name_of
    id_of entry_of short_part named_before judge is_plain permitted is_dot_git name_number stands_before is_after group_row after_number git_rules is_set rule_gate follow tally text_of
    cut held_name held_mode arriving check_of
names_hold = refl
