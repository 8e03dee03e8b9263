-- Differences, computed: what `compare_trees` answers, each of its numbers in its case with its place and part, and lists of items with their paths
-- (docs/FORMAT.md, "Differences"). Assumes nothing.
use Rattle.std.specs.Prelude.{ℕ, zero, suc, ◌/◌, ◌≡◌, refl, List, [], ◌∷◌, ◌++◌, map, replicate, take}
use Prim.Native.String.{String}
use Rattle.ground.specs.Basics.{ascii}
use Rattle.ground.specs.Verdict.{verdict, broken, counted, refused, id_length, size_gate, stored, is_set}
use Rattle.ground.specs.declared.Answer.{Answer}
use Rattle.mode.specs.Mode.{value_of, sort_of, is_tree}
use Rattle.mode_text.specs.Read.{read_text}
use Rattle.mode.specs.Read.{octal_from, has_six, text_len, settle, rest_at, read_mode}
use Rattle.mode.specs.Table.{rows}
use Rattle.order.specs.Order.{by_number, next, name_order}
use Rattle.entry.specs.Record.{name_of, id_of}
use Rattle.entry.specs.Entry.{entry_of}
use Rattle.entry.specs.Decode.{short_part, decode_name, decode_mode, decode}
use Rattle.doubles.specs.Doubles.{named_before}
use Rattle.reading.specs.Listing.{follow, plain, records_in, tally}
use Rattle.rules.specs.Rules.{is_plain, judge, permitted, is_dot_git, name_number, stands_before, is_after, group_row, after_number, git_rules}
use Rattle.strict.specs.Strict.{text_of, cut, strict_count}
use Rattle.frame.specs.Frame.{fields_at, by_rules, by_version, head_of, is_frame, frame_at, onward, frames, whole}
use Rattle.frame.specs.Place.{id_in, first_of, place_by}
use Rattle.twice.specs.Ids.{ids_in, among, repeats}
use Rattle.bundle.specs.Bundle.{open_by, open_from}
use Rattle.item.specs.Items.{Item, named_of, read_strictly, tree_of, folder_of, join}
use Rattle.walk.specs.Walk.{refused_by, put, and_then, change, both, rights, against, compare_entries, opened, compare_folders}
use Rattle.walk.specs.Lent.{paths_of, numbers_of, fitted}
use Rattle.difference.specs.Whole.{stored_at, store_of, differences, roots_of, walked, gated, found, answer}
use Rattle.difference.specs.Whole.{items_after, paths_after}
use Rattle.tables.specs.Bundles.{first, second, id, object}

-- an entry with an id of 20 equal bytes
abbrev entry : String → ℕ → List ℕ
entry text byte = ascii text ++ 0 ∷ id byte

-- `a` on both sides, `b` and the folder `d` only left, `c` only right, `f` the same
abbrev pub left : List ℕ
left = entry "100644 a" 0xa1 ++ entry "100644 b" 0xb1 ++ entry "40000 d" 51 ++ entry "100644 f" 0xf1

abbrev pub right : List ℕ
right = entry "100755 a" 0xa2 ++ entry "100644 c" 0xc2 ++ entry "100644 f" 0xf1

-- both as objects, and the folder's, which holds `e`
abbrev pub roots : List ℕ
roots = object 17 2 left ++ object 34 2 right

abbrev pub B : List ℕ
B = first 3 ++ roots ++ object 51 2 (entry "120000 e" 0xe1)

-- ---- the answer, with room for so many items and so many bytes of paths

pub record Row : Type 0 where
  pub bundle : List ℕ
  pub left : List ℕ
  pub right : List ℕ
  pub room : ℕ
  pub bytes : ℕ
  pub answer : Answer

-- a number, at place 0
abbrev no : ℕ → Answer
no n = refused (verdict n 0)

-- a bundle of two objects, of which the first is to be compared with the second
abbrev two : List ℕ → List ℕ → List ℕ
two l r = first 2 ++ object 17 2 l ++ object 34 2 r

-- a tree by its id, and below it so many folders `a`, one in the other, each with the next id
unfoldable pub chain : ℕ → ℕ → List ℕ
chain zero x = object x 2 []
chain (suc d) x = object x 2 (entry "40000 a" (suc x)) ++ chain d (suc x)

unfoldable pub table : List Row
table =
    row B (id 17) (id 34) 5 7 (counted 5)
    ∷ row B (id 34) (id 17) 5 7 (counted 5)
    ∷ row B (id 17) (id 17) 0 0 (counted 0)
    -- two roots with equal entries
    ∷ row (two right right) (id 17) (id 34) 0 0 (counted 0)
    -- 4 with the items, 8 with the bytes; 4 is ahead of 8
    ∷ row B (id 17) (id 34) 4 7 (refused (verdict 4 5))
    ∷ row B (id 17) (id 34) 5 6 (refused (verdict 8 7))
    ∷ row B (id 17) (id 34) 4 6 (refused (verdict 4 5))
    -- 24: a byte left over, root ids of two lengths, or both of another length; it is ahead of 25
    ∷ row (B ++ 0 ∷ []) (id 17) (id 34) 5 7 (no 24)
    ∷ row B (id 17) (replicate 32 34) 5 7 (no 24)
    ∷ row B (replicate 32 17) (replicate 32 34) 5 7 (no 24)
    ∷ row (first 2 ++ object 17 2 [] ++ object 17 2 [] ++ 0 ∷ []) (id 17) (id 17) 5 7 (no 24)
    ∷ row (first 2 ++ object 17 2 [] ++ object 17 2 []) (id 17) (id 17) 5 7 (no 25)
    -- 28: a root is missing or no tree, a folder's object is missing
    ∷ row B (id 18) (id 34) 5 7 (no 28)
    ∷ row B (id 17) (id 35) 5 7 (no 28)
    ∷ row (first 2 ++ object 17 3 [] ++ object 34 2 []) (id 17) (id 34) 5 7 (no 28)
    ∷ row (first 2 ++ roots) (id 17) (id 34) 5 7 (no 28)
    -- 27: 33 folders one in the other, where 32 are done; a tree that holds itself
    ∷ row (first 34 ++ chain 32 1 ++ object 99 2 []) (id 1) (id 99) 32 1024 (counted 32)
    ∷ row (first 35 ++ chain 33 1 ++ object 99 2 []) (id 1) (id 99) 0 0 (no 27)
    ∷ row (two (entry "40000 a" 17) []) (id 17) (id 34) 0 0 (no 27)
    -- what strict reading gives: the place is in that object, and 3 has its part
    ∷ row (two [] (entry "100644 a" 0 ++ take 28 (entry "100644 b" 0))) (id 17) (id 34) 5 7 (refused (broken 29 3))
    ∷ row (two (ascii "100644") []) (id 17) (id 34) 5 7 (refused (broken 0 2))
    ∷ row (two (ascii "x") []) (id 17) (id 34) 5 7 (refused (broken 0 1))
    ∷ row (two [] (entry "100664 a" 0)) (id 17) (id 34) 5 7 (no 5)
    ∷ row (two [] (entry "100644 .." 0)) (id 17) (id 34) 5 7 (no 6)
    ∷ row (two [] (entry "100644 .GIT" 0)) (id 17) (id 34) 5 7 (no 18)
    ∷ row (two (entry "100644 b" 0 ++ entry "100644 a" 0) []) (id 17) (id 34) 5 7 (refused (verdict 7 29))
    ∷ row (two (entry "100644 a" 0 ++ entry "40000 a" 0) []) (id 17) (id 34) 5 7 (refused (verdict 17 29))
    -- 100664 by the bundle's own rule set
    ∷ row (second 1 2 ++ object 17 2 [] ++ object 34 2 (entry "100664 a" 0)) (id 17) (id 34) 5 7 (counted 1)
    -- left is opened before right
    ∷ row (two (ascii "x") []) (id 17) (id 35) 5 7 (refused (broken 0 1))
    ∷ row (two (ascii "x") []) (id 35) (id 17) 5 7 (no 28)
    ∷ []
  where
    row : List ℕ → List ℕ → List ℕ → ℕ → ℕ → Answer → Row
    row b l r n m a = record { bundle = b; left = l; right = r; room = n; bytes = m; answer = a }

pub table-holds : map (λ (r : Row). answer r.bundle r.left r.right r.bytes r.room) table ≡ map (λ (r : Row). r.answer) table
unfolding table chain head_of by_version by_rules fields_at is_set id_length size_gate is_frame frame_at onward frames whole id_in ids_in among repeats open_by
    open_from first_of place_by stored_at store_of differences paths_of numbers_of fitted roots_of walked gated found answer put and_then change both rights
    against compare_entries opened compare_folders named_of read_strictly tree_of folder_of join value_of sort_of is_tree octal_from has_six text_len settle
    rest_at read_text read_mode rows by_number next name_order name_of id_of entry_of short_part decode_name decode_mode decode named_before follow plain
    records_in tally is_plain judge permitted is_dot_git name_number stands_before is_after group_row after_number git_rules text_of cut strict_count
table-holds = refl

-- ---- what was lent, nines before

-- two roots of B with room for so many numbers and so many bytes, and what both then hold
pub record Listed : Type 0 where
  pub left : List ℕ
  pub right : List ℕ
  pub numbers : ℕ
  pub bytes : ℕ
  pub items : List ℕ
  pub paths : List ℕ

unfoldable pub lists : List Listed
lists =
    -- a change, a file only left, one only right, a folder only left with what is in it; each path behind the one before
    record {
      left = id 17;
      right = id 34;
      numbers = 31;
      bytes = 8;
      items =
          0 ∷ 1 ∷ 0o100644 ∷ 0o100755 ∷ 44 ∷ 184
          ∷ 1 ∷ 2 ∷ 0o100644 ∷ 0 ∷ 73 ∷ 0
          ∷ 2 ∷ 3 ∷ 0 ∷ 0o100644 ∷ 0 ∷ 213
          ∷ 3 ∷ 4 ∷ 0o40000 ∷ 0 ∷ 101 ∷ 0
          ∷ 4 ∷ 7 ∷ 0o120000 ∷ 0 ∷ 296 ∷ 0
          ∷ 9 ∷ [];
      paths = ascii "abcdd/e" ++ 9 ∷ [];
    }
    -- the folder's own tree against the right root: `e`, which is left, stands among the others by its name
    ∷ record {
      left = id 51;
      right = id 34;
      numbers = 24;
      bytes = 4;
      items =
          0 ∷ 1 ∷ 0 ∷ 0o100755 ∷ 0 ∷ 184
          ∷ 1 ∷ 2 ∷ 0 ∷ 0o100644 ∷ 0 ∷ 213
          ∷ 2 ∷ 3 ∷ 0o120000 ∷ 0 ∷ 296 ∷ 0
          ∷ 3 ∷ 4 ∷ 0 ∷ 0o100644 ∷ 0 ∷ 242
          ∷ [];
      paths = ascii "acef";
    }
    -- a number too few for the last item, a byte too few, and 28: nothing is stored
    ∷ record { left = id 17; right = id 34; numbers = 29; bytes = 7; items = replicate 29 9; paths = replicate 7 9 }
    ∷ record { left = id 17; right = id 34; numbers = 30; bytes = 6; items = replicate 30 9; paths = replicate 6 9 }
    ∷ record { left = id 17; right = id 35; numbers = 6; bytes = 1; items = replicate 6 9; paths = replicate 1 9 }
    ∷ []

abbrev lent : Listed → List (List ℕ)
lent x =
    items_after B x.left x.right x.bytes (replicate x.numbers 9)
    ∷ paths_after B x.left x.right (replicate x.bytes 9) (x.numbers / 6)
    ∷ []

pub lists_hold : map lent lists ≡ map (λ (x : Listed). x.items ∷ x.paths ∷ []) lists
unfolding lists stored head_of by_version by_rules fields_at is_set id_length size_gate is_frame frame_at onward frames whole id_in ids_in among repeats open_by
    open_from first_of place_by stored_at store_of differences paths_of numbers_of fitted roots_of walked gated found answer put and_then change both rights
    against compare_entries opened compare_folders named_of read_strictly tree_of folder_of join value_of sort_of is_tree octal_from has_six text_len settle
    rest_at read_text read_mode rows by_number next name_order name_of id_of entry_of short_part decode_name decode_mode decode named_before follow plain
    records_in tally is_plain judge permitted is_dot_git name_number stands_before is_after group_row after_number git_rules text_of cut strict_count
lists_hold = refl

-- ---- 2 for one item too many

-- the 1,048,576th item is put, the next is not
pub last-put : (x : Item) → (put 1048575 x).verdict ≡ verdict 0 0
unfolding put
last-put x = refl

pub one_too_many : (x : Item) → put 1048576 x ≡ refused_by (verdict 2 0)
unfolding put
one_too_many x = refl
