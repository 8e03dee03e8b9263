-- What is claimed of the edits (docs/FORMAT.md, "Edits"; `proofs/` proves it): over the answers and outputs that the contracts of the two calls name.
-- Assumes nothing.
use Rattle.std.specs.Prelude.{ℕ, ◌≤◌, ◌≡◌, Bool, List, [], ◌∷◌, ◌⊎◌, ◌↔◌, eqb, length, take}
use Rattle.ground.specs.Basics.{pick}
use Rattle.ground.specs.Verdict.{verdict, refused, most_bytes, most_records}
use Rattle.entry.specs.Record.{many}
use Rattle.entry.specs.Entry.{Entry, as_written}
use Rattle.rules.specs.Rules.{git_rules}
use Rattle.one_listing.specs.Sound.{SoundListing}
use Rattle.one_listing.specs.Demand.{Accepts}
use Rattle.edit.specs.Table.{remove_from, none, held, Table, table_of, table_put, table_remove}
use Rattle.edit.specs.Edit.{put_answer, remove_answer, put_output, remove_output}

-- By rule set k and with ids of h bytes an object is a table as written: it is a sound listing as written, within the bounds, and that listing's table is
-- this one.
pub record Written (k h : ℕ) (t : Table) (s : List ℕ) : Type 0 where
  pub rules : (k ≡ 1) ⊎ (k ≡ 2)
  pub id : (h ≡ 20) ⊎ (h ≡ 32)
  pub listing : List Entry
  pub sound : SoundListing k h listing
  pub bytes : s ≡ as_written listing
  pub holds : (n : List ℕ) → table_of listing n ≡ t n
  pub short : length s ≤ most_bytes
  pub few : length listing ≤ most_records

-- a table is written in one way only
abbrev pub OneWriting : Type 0
OneWriting = (k h : ℕ) (t : Table) (s u : List ℕ) → Written k h t s → Written k h t u → s ≡ u

-- An object that the strict reader accepts, with a listing, is that listing's table as written.
abbrev pub FromAccepted : Type 0
FromAccepted =
    (k h : ℕ) (s lent : List ℕ) (es : List Entry) → (k ≡ 1) ⊎ (k ≡ 2) → (h ≡ 20) ⊎ (h ≡ 32) → length s ≤ most_bytes → many (length lent) ≤ most_records
    → Accepts (git_rules k) h s lent es → Written k h (table_of es) s

-- A table as written is accepted by the same rule set, with any list lent that has room.
abbrev pub AcceptedAgain : Type 0
AcceptedAgain =
    (k h : ℕ) (t : Table) (s : List ℕ) (w : Written k h t s) (lent : List ℕ) → many (length lent) ≤ most_records → length w.listing ≤ many (length lent)
    → Accepts (git_rules k) h s lent w.listing

-- ---- one edit

pub data Change : Type 0 where
  puts : Entry → Change
  removes : List ℕ → Change

-- the name that it is of
abbrev pub name_of : Change → List ℕ
name_of (puts new) = new.name
name_of (removes name) = name

-- the table afterwards
abbrev pub table_changed : Change → Table → Table
table_changed (puts new) t = table_put new t
table_changed (removes name) t = table_remove name t

-- the verdict's number of an edit of the object s with so much room, the bytes that it counts, and the output afterwards
abbrev pub number_of : ℕ → ℕ → List ℕ → Change → ℕ → ℕ
number_of k h s (puts new) room = (put_answer k h s new room).verdict.number
number_of k h s (removes name) room = (remove_answer k h s name room).verdict.number

abbrev pub count_of : ℕ → ℕ → List ℕ → Change → ℕ → ℕ
count_of k h s (puts new) room = (put_answer k h s new room).count
count_of k h s (removes name) room = (remove_answer k h s name room).count

abbrev pub output_of : ℕ → ℕ → List ℕ → Change → List ℕ → List ℕ
output_of k h s (puts new) out = put_output k h s new out
output_of k h s (removes name) out = remove_output k h s name out

-- what an edit gives: the bytes that it counts, at the front of the output
abbrev pub given : ℕ → ℕ → List ℕ → Change → List ℕ → List ℕ
given k h s c out = take (count_of k h s c (length out)) (output_of k h s c out)

-- An edit of a table as written that is done gives the changed table as written; all other entries are carried over, in the same order.
abbrev pub DoneWritten : Type 0
DoneWritten =
    (k h : ℕ) (t : Table) (s : List ℕ) (c : Change) (out : List ℕ) (w : Written k h t s) → number_of k h s c (length out) ≡ 0
    → (v : Written k h (table_changed c t) (given k h s c out)) × (remove_from (name_of c) v.listing ≡ remove_from (name_of c) w.listing)

-- ---- edits in turn

-- an edit and the output that is lent to it
pub record Step : Type 0 where
  pub change : Change
  pub out : List ℕ

abbrev pub is_done : ℕ → ℕ → List ℕ → Step → Bool
is_done k h s x = eqb (number_of k h s x.change (length x.out)) 0

-- the object after one edit: what it gives, or where it is refused the object as it was
abbrev pub next : ℕ → ℕ → List ℕ → Step → List ℕ
next k h s x = pick (is_done k h s x) (given k h s x.change x.out) s

-- the object after all of them, each of what the one before left
unfoldable pub after : ℕ → ℕ → List ℕ → List Step → List ℕ
after k h s [] = s
after k h s (x ∷ xs) = after k h (next k h s x) xs

-- the table after those of them that are done
unfoldable pub table_after : ℕ → ℕ → List ℕ → List Step → Table → Table
table_after k h s [] t = t
table_after k h s (x ∷ xs) t = table_after k h (next k h s x) xs (pick (is_done k h s x) (table_changed x.change t) t)

-- From a table as written, any sequence of edits leaves the table after them, as written.
abbrev pub InTurn : Type 0
InTurn = (k h : ℕ) (t : Table) (s : List ℕ) (xs : List Step) → Written k h t s → Written k h (table_after k h s xs t) (after k h s xs)

-- ---- what a removal answers, and two edits that give the object back

-- Within the bounds a removal is 15 exactly where the table has nothing under the name.
abbrev pub Missing : Type 0
Missing =
    (k h : ℕ) (t : Table) (s name : List ℕ) (room : ℕ) → Written k h t s → length name ≤ most_bytes → room ≤ most_bytes
    → (remove_answer k h s name room ≡ refused (verdict 15 0)) ↔ (t name ≡ none)

-- a put of what is there that is done gives the same bytes
abbrev pub SamePut : Type 0
SamePut =
    (k h : ℕ) (t : Table) (s : List ℕ) (new : Entry) (out : List ℕ) → Written k h t s → t new.name ≡ held new.mode new.id
    → number_of k h s (puts new) (length out) ≡ 0 → given k h s (puts new) out ≡ s

-- a put of a new name, and then its removal, both done, give the object back
abbrev pub ThereAndBack : Type 0
ThereAndBack =
    (k h : ℕ) (t : Table) (s : List ℕ) (new : Entry) (out back : List ℕ) → Written k h t s → t new.name ≡ none
    → number_of k h s (puts new) (length out) ≡ 0 → let u = given k h s (puts new) out in
    number_of k h u (removes new.name) (length back) ≡ 0 → given k h u (removes new.name) back ≡ s
