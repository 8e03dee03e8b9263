-- What the functions say: folders, entries and items by positions in the bundle, the walk with an index, and a part of it. Assumes nothing.
use Rattle.std.specs.Prelude.{ℕ, zero, suc, ◌+◌, ◌*◌, ◌≤◌, ◌≡◌, List, [], map, eqb, leb, length, take, drop, Err, Ok, Result}
use Rattle.std.proofs.lemmas.List.Edits.{sets}
use Rattle.ground.specs.Basics.{pick, part}
use Rattle.ground.specs.Verdict.{verdict, counted, refused, most_bytes}
use Rattle.ground.specs.declared.Answer.{Answer}
use Rattle.frame.specs.declared.Header.{Header}
use Rattle.reading.specs.Listing.{plain, records_in}
use Rattle.merge.specs.Merge.{bytes_of, id_in}
use Rattle.merge.specs.declared.Rest.{Rest}
use Rattle.merge.specs.declared.Side.{Side}
use Rattle.merge.specs.declared.Change.{Change}
use Rattle.item.specs.Items as items
use Rattle.item.specs.Items.{Item, Named, Folder, shut, holds, named_of}
use Rattle.opening.specs.Opening.{open_in}
use Rattle.walk.specs.Walk.{Out, refused_by, nothing, Lower, levels, compare_folders}
use Rattle.walk.specs.Lent.{paths_of, numbers_of}
use Rattle.walk.specs.declared.Mark.{Mark}
use Rattle.ground.specs.declared.Verdict.{Verdict}

-- the entries of a tree that are still to be read
unfoldable pub entries_from : ℕ → List ℕ → Rest → List Named
entries_from h s c = map (named_of h c.start (bytes_of s c)) (records_in (plain h c.left c.at (drop c.at (bytes_of s c))))

-- the folder that was opened
unfoldable pub folder_at : ℕ → List ℕ → Result Rest Verdict → Folder
folder_at h s (Err v) = shut v
folder_at h s (Ok c) = holds (entries_from h s c)

-- the folders of a bundle, each object sought with an index, whatever that is
abbrev pub folders_in : Header → List ℕ → List ℕ → List ℕ → Folder
folders_in k s index id = folder_at k.h s (open_in k s id index)

-- how two roots differ, by those folders: 2 over the bound
unfoldable pub walk_in : Header → List ℕ → List ℕ → List ℕ → List ℕ → Out
walk_in k s index left right = pick (leb (length s) most_bytes) (compare_folders (folders_in k s index) levels [] left right 0) (refused_by (verdict 2 0))

-- the answer from the mark of a walk by the room that was lent: its refusal; then 4 with the items needed, then 8 with the bytes that the paths need
unfoldable pub answer_of : Mark → ℕ → ℕ → Answer
answer_of w room bytes =
    pick (eqb w.verdict.number 0)
    (pick (leb w.count room) (pick (leb w.used bytes) (counted w.count) (refused (verdict 8 w.used))) (refused (verdict 4 w.count)))
    (refused w.verdict)

-- a side of a change, its name, and the item that it is below a path
abbrev pub side_in : List ℕ → Side → items.Side
side_in s x = record { mode = x.mode; id = id_in s x; place = x.id_start }

abbrev pub name_of_change : List ℕ → Change → List ℕ
name_of_change s c = part c.name_start c.name_end s

abbrev pub item_of : List ℕ → List ℕ → Change → Item
item_of s prefix c = record { path = items.join prefix (name_of_change s c); left = side_in s c.left; right = side_in s c.right }

-- what differs inside a change: where it is deep, between the folders of its two ids
abbrev pub inside : Lower → List ℕ → List ℕ → Change → ℕ → Out
inside below prefix s c n = pick c.deep (below prefix (id_in s c.left) (id_in s c.right) n) nothing

-- the length of a path from those of its folder's path and its name
unfoldable pub join_length : ℕ → ℕ → ℕ
join_length zero name = name
join_length (suc pl) name = suc pl + 1 + name

-- a path stands at a place of the lent bytes
abbrev pub Held : List ℕ → ℕ → List ℕ → Type 0
Held prefix ps paths = take (length prefix) (drop ps paths) ≡ prefix

-- what a part of the walk did from a mark on: its mark is as o says; the lists hold what o says where there is room for all of it,
-- and the bytes do so where C holds too
abbrev pub Did : Mark → Type 0 → List ℕ → List ℕ → Out → Mark → List ℕ → List ℕ → Type 0
Did m C items paths o w items' paths' =
    (w ≡ record { verdict = o.verdict; count = m.count + length o.items; used = m.used + length (paths_of o.items) })
    × (6 * (m.count + length o.items) ≤ length items → items' ≡ sets items (6 * m.count) (numbers_of m.used o.items))
    × (C → m.used + length (paths_of o.items) ≤ length paths → paths' ≡ sets paths m.used (paths_of o.items))

-- no more than 1,048,576 items, with paths of no more than 2 ^ 37 bytes each
abbrev pub Small : Mark → Type 0
Small m = (m.count ≤ 1048576) × (m.used ≤ m.count * 137438953472)

-- a mark with one item more, whose path is longer than its folder's by a slash and a name at most
abbrev pub Added : Mark → ℕ → Mark → Type 0
Added m pl r = Small r × (m.used ≤ r.used) × (r.used ≤ m.used + pl + 1073741825)

-- a path with so many levels to go, each of which may add 2 ^ 31 bytes
abbrev pub Short : ℕ → ℕ → Type 0
Short pl depth = pl + depth * 2147483648 ≤ 137438953472
