-- Bundles and paths by example: a table of what `follow_path` answers, each of its numbers in its case with its place, which the definitions compute; and
-- the header of either version. Assumes nothing.
use Rattle.std.specs.Prelude.{ℕ, ◌≡◌, refl, List, [], ◌∷◌, ◌++◌, map, length, drop, replicate, Err}
use Prim.Native.String.{String}
use Rattle.ground.specs.Basics.{ascii}
use Rattle.ground.specs.Verdict.{verdict, id_length, size_gate, is_set}
use Rattle.mode_text.specs.Read.{read_text}
use Rattle.mode.specs.Read.{octal_from, has_six, text_len, settle, rest_at, read_mode}
use Rattle.entry.specs.Record.{name_of, id_of}
use Rattle.entry.specs.Entry.{entry_of}
use Rattle.entry.specs.Decode.{short_part, decode_name, decode_mode, decode}
use Rattle.reading.specs.Listing as reading
use Rattle.frame.specs.Frame.{fields_at, by_rules, by_version, head_of, is_frame, frame_at, onward, frames, whole, frames_in}
use Rattle.frame.specs.Place.{id_in}
use Rattle.twice.specs.Ids.{ids_in, among, repeats}
use Rattle.bundle.specs.Bundle.{object_of, bundle_by, object_with, open_by, open_from, told, check_of}
use Rattle.bundle.specs.declared.Checked.{Checked}
use Rattle.component.specs.Component.{on_head, pieces, filled, is_path}
use Rattle.component.specs.Named.{there, entries_read, first_named}
use Rattle.path.specs.Path.{in_object, step_to, onto, walk_along, padded, refused_with, answered, follow_along, follow_in, follow_from, follow}
use Rattle.path_walk.specs.declared.Followed.{Followed}

-- what a bundle of some objects begins with, ids of 20 bytes: in version 1, and in version 2 with a rule set
abbrev pub first : ℕ → List ℕ
first n = ascii "GOB" ++ 1 ∷ 0 ∷ 20 ∷ n ∷ 0 ∷ 0 ∷ 0 ∷ []

abbrev pub second : ℕ → ℕ → List ℕ
second rules n = ascii "GOB" ++ 2 ∷ 0 ∷ rules ∷ 0 ∷ 20 ∷ n ∷ 0 ∷ 0 ∷ 0 ∷ []

-- an id of one byte twenty times, and an object with its id, its kind and its bytes
abbrev pub id : ℕ → List ℕ
id x = replicate 20 x

abbrev pub object : ℕ → ℕ → List ℕ → List ℕ
object x kind bytes = id x ++ kind ∷ length bytes ∷ 0 ∷ 0 ∷ 0 ∷ bytes

-- a folder `a` with id 34, and a file `b` with id 51
abbrev pub outer : List ℕ
outer = ascii "40000 a" ++ 0 ∷ id 34

abbrev pub inner : List ℕ
inner = ascii "100644 b" ++ 0 ∷ id 51

-- a tree with the folder, and the folder's tree with the file; the file's own object is not there
abbrev pub objects : List ℕ
objects = object 17 2 outer ++ object 34 2 inner

abbrev pub B : List ℕ
B = first 2 ++ objects

-- ---- a table of paths

pub record Row : Type 0 where
  pub bundle : List ℕ
  pub root : List ℕ
  pub path : String
  pub answer : Followed

-- found: a mode, and an id by value
abbrev found : ℕ → List ℕ → Followed
found mode i = answered (there mode i)

-- a number, at place 0
abbrev no : ℕ → Followed
no n = refused_with (verdict n 0)

unfoldable pub table : List Row
table =
    row B (id 17) "a" (found 16384 (id 34))
    ∷ row B (id 17) "a/b" (found 33188 (id 51))
    ∷ row B (id 34) "b" (found 33188 (id 51))
    ∷ row (second 1 2 ++ objects) (id 17) "a/b" (found 33188 (id 51))
    -- 24: bytes left over, a count too large, version 3, rule set 3, kind 5, the empty buffer, a root id of another length
    ∷ row (B ++ 0 ∷ []) (id 17) "a" (no 24)
    ∷ row (first 3 ++ objects) (id 17) "a" (no 24)
    ∷ row (ascii "GOB" ++ 3 ∷ drop 4 B) (id 17) "a" (no 24)
    ∷ row (second 3 2 ++ objects) (id 17) "a" (no 24)
    ∷ row (first 1 ++ object 17 5 outer) (id 17) "a" (no 24)
    ∷ row [] (id 17) "a" (no 24)
    ∷ row B (drop 1 (id 17)) "a" (no 24)
    -- 25: an id twice, in equal copies too; 24 is ahead of it
    ∷ row (first 2 ++ object 17 2 outer ++ object 17 2 outer) (id 17) "a" (no 25)
    ∷ row (first 2 ++ object 17 2 outer ++ object 17 2 outer ++ 0 ∷ []) (id 17) "a" (no 24)
    -- 26: an empty component; it is ahead of 15
    ∷ row B (id 17) "/" (no 26)
    ∷ row B (id 17) "/a" (no 26)
    ∷ row B (id 17) "a/" (no 26)
    ∷ row B (id 99) "a//b" (no 26)
    -- 15: no such entry, no such object, an object that is no tree, the empty path
    ∷ row B (id 17) "b" (no 15)
    ∷ row B (id 99) "a" (no 15)
    ∷ row B (id 17) "a/b/c" (no 15)
    ∷ row (first 1 ++ object 17 3 outer) (id 17) "a" (no 15)
    ∷ row B (id 17) "" (no 15)
    -- the first entry of the name, of any kind, and none behind one that cannot be read
    ∷ row (first 1 ++ object 17 2 (ascii "100644 a" ++ 0 ∷ id 51 ++ outer)) (id 17) "a" (found 33188 (id 51))
    ∷ row (first 1 ++ object 17 2 (ascii "x" ++ outer)) (id 17) "a" (no 15)
    ∷ []
  where
    row : List ℕ → List ℕ → String → Followed → Row
    row b r p a = record { bundle = b; root = r; path = p; answer = a }

pub table-holds : map (λ (r : Row). follow r.bundle r.root (ascii r.path)) table ≡ map (λ (r : Row). r.answer) table
unfolding table head_of by_version by_rules fields_at is_set id_length size_gate is_frame frame_at onward frames whole frames_in id_in among repeats object_of bundle_by object_with follow_from follow_in follow_along is_path filled pieces on_head walk_along step_to onto in_object entries_read first_named answered padded reading.plain reading.follow reading.records_in entry_of name_of id_of decode decode_mode decode_name short_part read_text read_mode octal_from has_six text_len settle rest_at
table-holds = refl

-- 2 for each of the three buffers is the gate's: `Numbers` has its bounds
pub over : (s root path : List ℕ) → follow_from s root path (Err (verdict 2 0)) ≡ refused_with (verdict 2 0)
unfolding follow_from
over s root path = refl

-- ---- the header of either version

abbrev says : ℕ → ℕ → Checked
says rules count = record { verdict = verdict 0 0; h = 20; rules = rules; count = count }

-- version 1 means rule set 2, version 2 carries one of the two
pub versions : map check_of (B ∷ (second 1 2 ++ objects) ∷ (second 2 2 ++ objects) ∷ first 0 ∷ []) ≡ says 2 2 ∷ says 1 2 ∷ says 2 2 ∷ says 2 0 ∷ []
unfolding head_of by_version by_rules fields_at is_set id_length size_gate is_frame frame_at onward frames whole id_in ids_in among repeats open_by open_from told
versions = refl
