-- What the private functions of mending say, by elements of the crate `sorting`: places of entries in the object. Assumes nothing.
use Rattle.std.specs.Prelude.{ℕ, ◌+◌, ◌-◌, ◌*◌, ◌/◌, ◌≤◌, ◌<◌, ◌≡◌, Bool, true, false, ◌&&◌, ◌||◌, List, [], ◌∷◌, ◌++◌, eqb, ltb, length, get_or, drop, Err, Ok, Result}
use Rattle.ground.specs.Basics.{pick, part}
use Rattle.ground.specs.Scan.{same_bytes}
use Rattle.entry.specs.Record.{name_of, folder_of}
use Rattle.entry.specs.Decode.{decode}
use Rattle.entry.specs.declared.EntryRecord.{EntryRecord}
use Rattle.entry.specs.declared.Cursor.{Cursor}
use Rattle.rules.specs.Rules.{bare_number}
use Rattle.strict.specs.Strict.{text_of}
use Rattle.keys.specs.Key.{key_at, below_by}
use Rattle.sorting.specs.Sort.{Ascends}
use Rattle.fate.specs.Fate.{stays_mode, own_text, fate_of}
use Rattle.ground.specs.declared.Verdict.{Verdict}

-- a record's mode text and name lie inside so many bytes
abbrev pub Inside : ℕ → EntryRecord → Type 0
Inside len e = (e.text_start < e.name_start) × (e.name_start ≤ e.name_end) × (e.name_end ≤ len)

-- an entry is gathered: the first time where it may stay by itself, the second time where it is kept
unfoldable pub chosen : Bool → List ℕ → List ℕ → ℕ → EntryRecord → Bool
chosen true s fates n e = ltb (get_or fates n 2) 2
chosen false s fates n e = eqb (bare_number (name_of s e)) 0 && stays_mode e.mode

-- its element: twice its place, and the second time one more for a folder
unfoldable pub element_of : Bool → EntryRecord → ℕ
element_of second e = e.text_start * 2 + pick (second && folder_of e) 1 0

-- the elements of those gathered, from entry n on
unfoldable pub elements : Bool → List ℕ → List ℕ → ℕ → List EntryRecord → List ℕ
elements second s fates n [] = []
elements second s fates n (e ∷ es) =
    pick (chosen second s fates n e) (element_of second e ∷ elements second s fates (n + 1) es) (elements second s fates (n + 1) es)

-- the first r elements of a list stand below x, and no other does
pub record Lowest (below : ℕ → ℕ → Bool) (l : List ℕ) (x r : ℕ) : Type 0 where
  pub inside : r ≤ length l
  pub under : (j : ℕ) → j < r → below (get_or l j 0) x ≡ true
  pub over : (j : ℕ) → r ≤ j → j < length l → below (get_or l j 0) x ≡ false

-- a decoded entry has a name
unfoldable pub has_name : List ℕ → List ℕ → Result (EntryRecord × Cursor) Verdict → Bool
has_name s name (Ok (e, next)) = same_bytes (name_of s e) name
has_name s name (Err v) = false

-- the elements ascend by their keys, and each key is the name of the entry that can be read at its place
pub record Known (h : ℕ) (s list : List ℕ) : Type 0 where
  pub up : Ascends (below_by (key_at s 32 0)) list
  pub whole : (j : ℕ) → j < length list → (e : EntryRecord) × (next : Cursor) × (decode h (get_or list j 0 / 2) (drop (get_or list j 0 / 2) s) ≡ Ok (e, next)) × (key_at s 32 0 (get_or list j 0) ≡ name_of s e)

-- a smaller element of the list has the same key
unfoldable pub earlier : (ℕ → List ℕ) → List ℕ → ℕ → Bool
earlier key [] x = false
earlier key (y ∷ l) x = (same_bytes (key y) (key x) && ltb y x) || earlier key l x

-- what is done to an entry, with the elements that may stay
unfoldable pub code_fate : List ℕ → List ℕ → EntryRecord → ℕ
code_fate s list e = fate_of (bare_number (name_of s e)) e.mode (earlier (key_at s 32 0) list (element_of false e)) (text_of s e.text_start e)

unfoldable pub code_fates : List ℕ → List ℕ → List EntryRecord → List ℕ
code_fates s list [] = []
code_fates s list (e ∷ es) = code_fate s list e ∷ code_fates s list es

-- what an entry adds to the new object, by what is done to it: its kind's own mode text, a space, and all from its name on
unfoldable pub kept_size : ℕ → ℕ → EntryRecord → ℕ
kept_size h fate e = pick (ltb fate 2) (length (own_text e.mode) + 1 + (e.id_start + h - e.name_start)) 0

unfoldable pub code_size : ℕ → List ℕ → List ℕ → List EntryRecord → ℕ
code_size h s list [] = 0
code_size h s list (e ∷ es) = kept_size h (code_fate s list e) e + code_size h s list es

-- the bytes of a decoded entry that is kept
unfoldable pub kept_bytes : List ℕ → Result (EntryRecord × Cursor) Verdict → List ℕ
kept_bytes s (Ok (e, next)) = own_text e.mode ++ 32 ∷ part e.name_start next.at s
kept_bytes s (Err v) = []

-- those of an element, and of elements in turn
abbrev pub bytes_at : ℕ → List ℕ → ℕ → List ℕ
bytes_at h s x = kept_bytes s (decode h (x / 2) (drop (x / 2) s))

unfoldable pub all_bytes : ℕ → List ℕ → List ℕ → List ℕ
all_bytes h s [] = []
all_bytes h s (x ∷ xs) = bytes_at h s x ++ all_bytes h s xs
