-- One step of the merge of two trees' entries, by positions in the bundle (docs/FORMAT.md, "Differences"). Assumes nothing.
use Rattle.std.specs.Prelude.{ℕ, ◌+◌, ◌-◌, ◌≤◌, Bool, false, ◌≡◌, List, eqb, leb, length, drop, Err, None, Ok, Option, Result, Some}
use Rattle.ground.specs.Basics.{pick, part}
use Rattle.ground.specs.Scan.{same_bytes}
use Rattle.order.specs.Order.{name_order}
use Rattle.entry.specs.Record.{folder_of}
use Rattle.entry.specs.Decode.{decode}
use Rattle.entry.specs.declared.EntryRecord.{EntryRecord}
use Rattle.merge.specs.declared.Rest.{Rest}
use Rattle.merge.specs.declared.Side.{Side}
use Rattle.merge.specs.declared.Change.{Change}
use Rattle.merge.specs.declared.Step.{Step}
use Rattle.merge.specs.declared.Step.TheVariants as step
use Rattle.entry.specs.declared.Cursor.{Cursor}
use Rattle.ground.specs.declared.Verdict.{Verdict}
use Rattle.std.specs.declared.cmp.Ordering.{Ordering}
use Rattle.std.specs.declared.cmp.Ordering.TheVariants.{Equal, Greater, Less}

-- the first of three where an order is below, the second where it is the same, the third where it is above
abbrev pub by_order : {A : Type 0} → Ordering → A → A → A → A
by_order Less a b c = a
by_order Equal a b c = b
by_order Greater a b c = c

-- ---- what is left of a tree

-- the tree's bytes
abbrev pub bytes_of : List ℕ → Rest → List ℕ
bytes_of s c = part c.start c.end s

-- they lie inside the bundle
abbrev pub Within : List ℕ → Rest → Type 0
Within s c = (c.start ≤ c.end) × (c.end ≤ length s)

-- a record of the tree that begins at a place, with its positions counted in the bundle
abbrev pub moved : ℕ → EntryRecord → EntryRecord
moved start e = record {
  mode = e.mode;
  name_start = start + e.name_start;
  name_end = start + e.name_end;
  id_start = start + e.id_start;
  text_start = start + e.text_start;
}

-- an entry that was decoded, and what is left behind it
unfoldable pub ahead_of : Rest → Result (EntryRecord × Cursor) Verdict → Option (EntryRecord × Rest)
ahead_of c (Err v) = None
ahead_of c (Ok (e, next)) = Some (moved c.start e, record { start = c.start; end = c.end; at = next.at; left = c.left - 1 })

-- the next entry: none where none is left, or where the tree does not lie inside the bundle
unfoldable pub ahead_at : ℕ → List ℕ → Rest → Option (EntryRecord × Rest)
ahead_at h s c =
    pick (eqb c.left 0) None
    (pick (leb c.start c.end) (pick (leb c.end (length s)) (ahead_of c (decode h c.at (drop c.at (bytes_of s c)))) None) None)

-- an entry's name and id lie inside so many bytes
abbrev pub EntryWithin : ℕ → ℕ → EntryRecord → Type 0
EntryWithin h len e = (e.name_start ≤ e.name_end) × (e.name_end ≤ len) × (e.id_start + h ≤ len)

-- so do those of the next entry, and one entry fewer is left behind it
abbrev pub AheadWithin : ℕ → List ℕ → Rest → Option (EntryRecord × Rest) → Type 0
AheadWithin h s c None = Unit {0}
AheadWithin h s c (Some (e, next)) = EntryWithin h (length s) e × Within s next × (next.left + 1 ≡ c.left)

-- ---- a step

-- the side where an entry is not
abbrev pub no_side : Side
no_side = record { mode = 0; id_start = 0; id_end = 0 }

-- the side of an entry whose id has h bytes
abbrev pub side_of : ℕ → EntryRecord → Side
side_of h e = record { mode = e.mode; id_start = e.id_start; id_end = e.id_start + h }

-- the name of an entry, and the id of a side
abbrev pub name_in : List ℕ → EntryRecord → List ℕ
name_in s e = part e.name_start e.name_end s

abbrev pub id_in : List ℕ → Side → List ℕ
id_in s x = part x.id_start x.id_end s

-- a change under the name of an entry
abbrev pub change_of : EntryRecord → Side → Side → Bool → Change
change_of e l r deep = record { name_start = e.name_start; name_end = e.name_end; left = l; right = r; deep = deep }

-- an entry on one side: a folder is opened
abbrev pub left_change : ℕ → EntryRecord → Change
left_change h e = change_of e (side_of h e) no_side (folder_of e)

abbrev pub right_change : ℕ → EntryRecord → Change
right_change h e = change_of e no_side (side_of h e) (folder_of e)

-- an entry of both: no change where id and mode are the same, and folders with one id are not opened
unfoldable pub both_of : ℕ → List ℕ → EntryRecord → EntryRecord → Rest → Rest → Step
both_of h s a b l r =
    pick (same_bytes (id_in s (side_of h a)) (id_in s (side_of h b)))
    (pick (eqb a.mode b.mode) (step.Same l r) (step.Differs (change_of a (side_of h a) (side_of h b) false) l r))
    (step.Differs (change_of a (side_of h a) (side_of h b) (folder_of a)) l r)

-- the lower of two entries in Git's order comes alone; entries of one name and sort come together
unfoldable pub merge_step : ℕ → List ℕ → Rest → Rest → Option (EntryRecord × Rest) → Option (EntryRecord × Rest) → Step
merge_step h s l r None None = step.Done
merge_step h s l r None (Some (b, next)) = step.Differs (right_change h b) l next
merge_step h s l r (Some (a, next)) None = step.Differs (left_change h a) next r
merge_step h s l r (Some (a, nextl)) (Some (b, nextr)) =
    by_order (name_order (name_in s a) (folder_of a) (name_in s b) (folder_of b))
    (step.Differs (left_change h a) nextl r)
    (both_of h s a b nextl nextr)
    (step.Differs (right_change h b) l nextr)

unfoldable pub step_at : ℕ → List ℕ → Rest → Rest → Step
step_at h s l r = merge_step h s l r (ahead_at h s l) (ahead_at h s r)

-- ---- where a step leads

-- an id lies inside so many bytes
abbrev pub SideWithin : ℕ → Side → Type 0
SideWithin len x = (x.id_start ≤ x.id_end) × (x.id_end ≤ len)

-- so do a change's name and both ids
abbrev pub ChangeWithin : ℕ → Change → Type 0
ChangeWithin len c = (c.name_start ≤ c.name_end) × (c.name_end ≤ len) × SideWithin len c.left × SideWithin len c.right

-- from two rests to two others inside the bundle, with fewer entries left
abbrev pub Leads : List ℕ → Rest → Rest → Rest → Rest → Type 0
Leads s l r l' r' = Within s l' × Within s r' × (l'.left + r'.left + 1 ≤ l.left + r.left)

-- so does every step that is not the last
abbrev pub StepWithin : List ℕ → Rest → Rest → Step → Type 0
StepWithin s l r step.Done = Unit {0}
StepWithin s l r (step.Same l' r') = Leads s l r l' r'
StepWithin s l r (step.Differs c l' r') = ChangeWithin (length s) c × Leads s l r l' r'
