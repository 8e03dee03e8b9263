-- The worked examples P1 to P14: one table, and one claim over it, which the definitions compute (docs/FORMAT.md, "Examples"). Assumes nothing.
use Rattle.std.specs.Prelude.{ℕ, ◌≡◌, refl, Bool, true, false, List, [], ◌∷◌, ◌++◌, map, ℤ, pos, negsuc, length, take, replicate, None, Option, Some}
use Prim.Native.String.{String}
use Rattle.ground.specs.Basics.{ascii}
use Rattle.ground.specs.Verdict.{broken, counted, refused, id_length, size_gate, gate_of, stored, is_set}
use Rattle.ground.specs.declared.Answer.{Answer}
use Rattle.output.specs.Output.{fitted, gated}
use Rattle.mode.specs.Mode.{value_of, sort_of, executes, kind_of, is_tree}
use Rattle.mode_text.specs.Read.{read_text}
use Rattle.mode.specs.Read.{octal_from, has_six, text_len, settle, rest_at, read_mode}
use Rattle.mode.specs.Write.{trimmed, write_mode}
use Rattle.mode.specs.Table.{rows}
use Rattle.mode_table.specs.declared.EntryKind.{EntryKind}
use Rattle.mode_table.specs.declared.EntryKind.TheVariants.{Tree, Blob, Commit}
use Rattle.order.specs.Order.{by_number, next, name_order, order_number}
use Rattle.entry.specs.Record.{records_of, well_formed, name_of, id_of}
use Rattle.entry.specs.Entry.{Entry, entry_bytes, as_written, entry_of, entries_of}
use Rattle.entry.specs.Decode.{short_part, decode_name, decode_mode, decode}
use Rattle.doubles.specs.Doubles.{named_before}
use Rattle.rules.specs.Rules.{judge, is_plain, permitted, is_dot_git, name_number, stands_before, is_after, after_number, git_rules}
use Rattle.rules.specs.Gate.{rule_gate}
use Rattle.reading.specs.Listing.{Listing, follow, plain, listing, records_in, flats, tally}
use Rattle.reading.specs.Whole.{answer_of, read_answer, read_records}
use Rattle.strict.specs.Strict.{text_of, cut, strict_answer, strict_records}
use Rattle.commit_value.specs.Fold.{fold_rest, fold_value}
use Rattle.commit_write.specs.Written.{header_written}
use Rattle.tree_write.specs.Write.{written, refusal, judged, measured, tree_answer}
use Rattle.mode.specs.declared.EntryMode.{EntryMode}

-- an answer, by what was asked
pub data Told : Type 0 where
  -- a text reads as a mode: its number, where the rest begins, its value, its kind, and the text it is written with
  reads : ℕ → ℕ → ℕ → EntryKind → List ℕ → Told
  -- a text is no mode
  refuses : Told
  -- two names compare so
  compares : ℤ → Told
  -- an object has so many bytes
  has : ℕ → Told
  -- an object is read: the answer, and the entries that the returned records name
  lists : Answer → List Entry → Told
  -- an extra header is written so
  gives : List ℕ → Told
  -- a listing is written: the answer, and the output afterwards
  writes : Answer → List ℕ → Told

-- ---- the questions

-- what a mode text is
abbrev pub text : List ℕ → Told
text i = told (read_mode i)
  where
    told : Option (EntryMode × ℕ) → Told
    told (Some (m, n)) = reads m.internal n (value_of m.internal) (kind_of m.internal) (write_mode m.internal)
    told None = refuses

-- a blob's name or a tree's
pub record Name : Type 0 where
  pub name : List ℕ
  pub tree : Bool

abbrev blob : List ℕ → Name
blob n = record { name = n; tree = false }

abbrev tree : List ℕ → Name
tree n = record { name = n; tree = true }

-- how two names compare
abbrev pub names : Name → Name → Told
names a b = compares (order_number (name_order a.name a.tree b.name b.tree))

-- how an object is read, with ids of 20 bytes and room for two records
abbrev pub room : List ℕ
room = replicate 10 0

abbrev pub read : (List ℕ → Listing) → List ℕ → Told
read by s = told (read_answer 20 s (by s) room)
  where
    told : Answer → Told
    told a = lists a (entries_of 20 s (take a.count (records_of (read_records 20 s (by s) room))))

abbrev plainly : List ℕ → Listing
plainly = listing 20

-- the same strictly, by rule set 2
abbrev pub strict : List ℕ → Told
strict s = told (strict_answer 2 20 s room)
  where
    told : Answer → Told
    told a = lists a (entries_of 20 s (take a.count (records_of (strict_records 2 20 s room))))

-- how records are written, to so much room
abbrev pub write : List ℕ → List ℕ → ℕ → Told
write bytes records n =
    writes (tree_answer 20 bytes records n) (stored (tree_answer 20 bytes records n).verdict (written 20 bytes (records_of records)) (replicate n 0))

-- ---- the objects

-- O: blob `a` and tree `b`
abbrev pub O : List ℕ
O = ascii "100644 a" ++ 0 ∷ (replicate 20 0x11 ++ (ascii "40000 b" ++ 0 ∷ replicate 20 0x22))

abbrev pub entries_of_o : List Entry
entries_of_o =
    record { mode = 0o100644; name = ascii "a"; id = replicate 20 0x11 }
    ∷ record { mode = 0o40000; name = ascii "b"; id = replicate 20 0x22 }
    ∷ []

-- mode 0, `abc`, and an id that starts with a space
abbrev pub zero_mode : List ℕ
zero_mode = ascii "0 abc" ++ 0 ∷ 32 ∷ replicate 19 7

-- two lines, each with its LF
abbrev lines : String → String → List ℕ
lines a b = ascii a ++ 10 ∷ (ascii b ++ 10 ∷ [])

-- ---- the table

-- a question, and what is told
pub record Row : Type 0 where
  pub asked : Told
  pub answer : Told

infix 90 ◌is◌
abbrev pub ◌is◌ : Told → Told → Row
q is a = record { asked = q; answer = a }

unfoldable pub table : List Row
table =
    -- P1: a plain file
    text (ascii "100644 ") is reads 33188 7 33188 Blob (ascii "100644")
    -- P2: one number is kept apart from the other, and both have one value
    ∷ text (ascii "40000 ") is reads 16384 6 16384 Tree (ascii "40000")
    ∷ text (ascii "040000 ") is reads 49152 7 16384 Tree (ascii "040000")
    -- P3: what is written for a mode reads as another, and that is written differently again
    ∷ text (ascii "140755 ") is reads 49645 7 16384 Tree (ascii "040755")
    ∷ text (write_mode 49645 ++ ascii " ") is reads 16877 7 16877 Tree (ascii "40755")
    -- P4: seven digits pass, eight do not
    ∷ text (ascii "0000000 x") is reads 0 8 0 Commit (ascii "0")
    ∷ text (ascii "00000000 x") is refuses
    -- P5: a space at byte 6 makes the first six bytes the text
    ∷ text (ascii "0 abcd e") is refuses
    ∷ text (ascii "0 abc de") is reads 0 2 0 Commit (ascii "0")
    -- P6: an empty text is the number 0
    ∷ text (ascii " abc") is reads 0 1 0 Commit (ascii "0")
    ∷ text (ascii " 12345 x") is refuses
    -- P7: the sum keeps 16 bits
    ∷ text (ascii "200000 ") is reads 0 7 0 Commit (ascii "0")
    -- P8: four names, each below the next
    ∷ names (blob (ascii "a")) (blob (ascii "a.b")) is compares (negsuc 0)
    ∷ names (blob (ascii "a.b")) (tree (ascii "a")) is compares (negsuc 0)
    ∷ names (tree (ascii "a")) (blob (ascii "a0")) is compares (negsuc 0)
    -- P9: the comparison ends at the slash
    ∷ names (tree (ascii "a")) (blob (ascii "a/b")) is compares (pos 0)
    -- P10: the empty object, plainly and strictly
    ∷ read plainly [] is lists (counted 0) []
    ∷ strict [] is lists (counted 0) []
    -- P11: O, its length, its two entries, and its rewriting from the records that were returned
    ∷ has (length O) is has 57
    ∷ read plainly O is lists (counted 2) entries_of_o
    ∷ strict O is lists (counted 2) entries_of_o
    ∷ write O (read_records 20 O (plainly O) room) 57 is writes (counted 57) O
    -- P12: O without its last byte: the id is cut
    ∷ read plainly (take 56 O) is lists (refused (broken 29 3)) []
    -- an entry that ends in its mode text or its name has no NUL; a mode of digits alone reads
    ∷ read plainly (take 36 O) is lists (refused (broken 29 2)) []
    ∷ read plainly (ascii "1") is lists (refused (broken 0 2)) []
    ∷ read plainly (ascii "1234567") is lists (refused (broken 0 2)) []
    ∷ strict (ascii "12345678") is lists (refused (broken 0 1)) []
    -- P13: a value of two lines is folded, and its last LF is kept
    ∷ gives (header_written (record { name = ascii "k"; value = lines "a" "b"; mark = 0 })) is gives (lines "k a" " b")
    -- P14: an entry of mode 0 is written, and what was written is refused
    ∷ write (ascii "abc" ++ (32 ∷ replicate 19 7)) (0 ∷ 0 ∷ 3 ∷ 3 ∷ 0 ∷ []) 26 is writes (counted 26) zero_mode
    ∷ read plainly zero_mode is lists (refused (broken 0 1)) []
    ∷ []

pub all_hold : map (λ (r : Row). r.asked) table ≡ map (λ (r : Row). r.answer) table
unfolding table fold_rest fold_value header_written octal_from has_six text_len settle rest_at read_text read_mode value_of sort_of executes kind_of is_tree trimmed write_mode rows by_number next name_order order_number id_length size_gate gate_of stored fitted gated records_of well_formed name_of id_of entry_bytes as_written entry_of short_part decode_name decode_mode decode follow plain records_in flats tally judge text_of cut is_plain permitted is_dot_git name_number stands_before is_after named_before after_number git_rules is_set rule_gate answer_of refusal judged measured tree_answer
all_hold = refl
