-- What a difference is said with: the entries of a folder, items, and the objects of a store (docs/FORMAT.md, "Differences"). Assumes nothing.
use Rattle.std.specs.Prelude.{ℕ, ◌+◌, Bool, ◌&&◌, List, [], ◌∷◌, ◌++◌, map, eqb, Err, Ok, Result}
use Rattle.ground.specs.Basics.{pick}
use Rattle.ground.specs.Scan.{same_bytes}
use Rattle.ground.specs.Verdict.{verdict}
use Rattle.ground.specs.declared.Verdict.{Verdict}
use Rattle.mode.specs.Mode.{is_tree}
use Rattle.entry.specs.Record.{name_of, id_of}
use Rattle.entry.specs.Entry.{Entry}
use Rattle.entry.specs.declared.EntryRecord.{EntryRecord}
use Rattle.reading.specs.Listing.{records_in}
use Rattle.rules.specs.Rules.{git_rules}
use Rattle.strict.specs.Strict.{strictly, strict_count}

-- what one side has: a mode, an id, and the id's place in the bundle
pub record Side : Type 0 where
  pub mode : ℕ
  pub id : List ℕ
  pub place : ℕ

-- nothing is there: no mode, no id
abbrev pub absent : Side
absent = record { mode = 0; id = []; place = 0 }

-- an entry of a folder
pub record Named : Type 0 where
  pub name : List ℕ
  pub side : Side

-- its sort: a folder or not
abbrev pub is_folder : Named → Bool
is_folder e = is_tree e.side.mode

-- a path, and what each side has there
pub record Item : Type 0 where
  pub path : List ℕ
  pub left : Side
  pub right : Side

-- what a store has for an id: nothing, or an object by its kind, the place of its first byte, and its bytes
pub data Stored : Type 0 where
  missing : Stored
  object : ℕ → ℕ → List ℕ → Stored

-- a folder: its entries, or why it cannot be opened
pub data Folder : Type 0 where
  shut : Verdict → Folder
  holds : List Named → Folder

-- the entry that a record names in an object whose first byte stands at a place
unfoldable pub named_of : ℕ → ℕ → List ℕ → EntryRecord → Named
named_of h start s e = record { name = name_of s e; side = record { mode = e.mode; id = id_of h s e; place = start + e.id_start } }

-- the entries of an object that strict reading by rule set k counted, or its refusal
unfoldable pub read_strictly : ℕ → ℕ → ℕ → List ℕ → Result ℕ Verdict → Folder
read_strictly k h start s (Err v) = shut v
read_strictly k h start s (Ok n) = holds (map (named_of h start s) (records_in (strictly (git_rules k) h s)))

-- 28 for what is missing or no tree, then what strict reading gives
unfoldable pub tree_of : ℕ → ℕ → Stored → Folder
tree_of k h missing = shut (verdict 28 0)
tree_of k h (object kind start s) = pick (eqb kind 2) (read_strictly k h start s (strict_count k h s)) (shut (verdict 28 0))

-- the folder of an id; where nothing is, nothing is in it
unfoldable pub folder_of : ℕ → ℕ → (List ℕ → Stored) → List ℕ → Folder
folder_of k h store [] = holds []
folder_of k h store (x ∷ id) = tree_of k h (store (x ∷ id))

-- a name in the folder of a path, which is empty for a root
unfoldable pub join : List ℕ → List ℕ → List ℕ
join [] name = name
join (p ∷ ps) name = (p ∷ ps) ++ (47 ∷ name)

-- mode, name and id: an entry wherever it stands
abbrev pub entry_of : Named → Entry
entry_of e = record { mode = e.side.mode; name = e.name; id = e.side.id }

-- two sides with one id, and with one mode too
abbrev pub same_id : Side → Side → Bool
same_id l r = same_bytes l.id r.id

abbrev pub same_side : Side → Side → Bool
same_side l r = eqb l.mode r.mode && same_id l r
