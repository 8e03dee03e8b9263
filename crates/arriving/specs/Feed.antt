-- The strict check fed byte by byte, with one name held: its step, and its answer at the end. Assumes nothing.
use Rattle.std.specs.Prelude.{ℕ, zero, suc, ◌+◌, ◌-◌, min, Bool, true, false, ◌&&◌, ◌||◌, List, [], ◌∷◌, length, get_or, set, take, drop, replicate, eqb, ltb, leb, Err, None, Ok, Option, Result, Some, ⊤}
use Rattle.ground.specs.Basics.{pick}
use Rattle.ground.specs.Scan.{count_to}
use Rattle.ground.specs.Verdict.{verdict, broken, fine, counted, refused, most_bytes, most_records}
use Rattle.ground.specs.declared.Verdict.{Verdict}
use Rattle.ground.specs.declared.Answer.{Answer}
use Rattle.mode.specs.Mode.{is_tree}
use Rattle.mode.specs.Read.{read_mode}
use Rattle.order.specs.Order.{next}
use Rattle.entry.specs.Decode.{short_part}
use Rattle.doubles.specs.Stack.{marks_at, open_of}
use Rattle.rules.specs.Rules.{or_else, is_text, modes_of, bare_number}
use Rattle.rules.specs.Gate.{rule_gate}
use Rattle.arriving.specs.declared.Stand.{Stand}
use Rattle.arriving.specs.declared.Stand.TheVariants.{Level, Over, NotOver}
use Rattle.arriving.specs.declared.Last.{Last}
use Rattle.arriving.specs.declared.Line.{Line}
use Rattle.arriving.specs.declared.Phase.{Phase}
use Rattle.arriving.specs.declared.Phase.TheVariants.{Head, Name, Id}
use Rattle.arriving.specs.declared.Marks.{Marks}
use Rattle.arriving.specs.declared.Check.{Check}
use Rattle.doubles.specs.declared.Misplaced.{Misplaced}
use Rattle.doubles.specs.declared.Misplaced.TheVariants.{Double, NotAfter}
use Rattle.mode.specs.declared.EntryMode.{EntryMode}

-- the most bytes of a name that is held, and the most names that are open at once
abbrev pub most_held : ℕ
most_held = 4096

abbrev pub most_ends : ℕ
most_ends = 4097

-- the held name, the lengths of the open names, and the marks
abbrev pub together : List ℕ → List ℕ → Marks → Check
together held ends m = record { held = held; ends = ends; marks = m }

-- ---- marks that change

-- nothing has come, or nothing but a refusal is kept
abbrev pub fresh : ℕ → ℕ → Verdict → Marks
fresh h k v =
    record {
      verdict = v;
      h = h;
      rules = k;
      at = 0;
      first = 0;
      count = 0;
      last = record { size = 0; folder = false };
      ended = 0;
      head = replicate 8 0;
      phase = Head 0;
    }

-- a refusal is settled
abbrev pub refuse : Marks → Verdict → Marks
refuse m v = fresh m.h m.rules v

-- so many bytes in all have come, and the check stands in a phase with these first bytes of the entry
abbrev pub placed_at : Marks → ℕ → List ℕ → Phase → Marks
placed_at m at head p =
    record {
      verdict = m.verdict;
      h = m.h;
      rules = m.rules;
      at = at;
      first = m.first;
      count = m.count;
      last = m.last;
      ended = m.ended;
      head = head;
      phase = p;
    }

-- one byte more
abbrev pub moved : Marks → List ℕ → Phase → Marks
moved m head p = placed_at m (m.at + 1) head p

-- ---- a name that arrives over the held one

-- a byte against the byte that the held name has in its place
abbrev pub by_byte : ℕ → ℕ → Stand
by_byte x b = pick (eqb x b) Level (pick (ltb x b) Over NotOver)

-- a byte against the place where the held name has ended
abbrev pub by_end : Bool → ℕ → Stand
by_end folder b = pick (ltb (next [] folder) (b + 1)) Over NotOver

-- how the name stands with one byte more: the first difference decides; x is what the held name has in its place
unfoldable pub meet : Stand → Last → ℕ → ℕ → ℕ → Stand
meet Over last size x b = Over
meet NotOver last size x b = NotOver
meet Level last size x b = pick (ltb size last.size) (by_byte x b) (by_end last.folder b)

-- how many bytes the two names share: all so far while they are level, and no more after the first difference
abbrev pub sharing : Stand → ℕ → ℕ → ℕ
sharing Level size shared = size
sharing Over size shared = shared
sharing NotOver size shared = shared

-- the entry's line with one byte more of its name, after which it stands so
abbrev pub line_at : Line → ℕ → ℕ → Stand → Line
line_at l size shared stand = record { written = l.written; folder = l.folder; size = size; shared = shared; stand = stand }

abbrev pub longer : List ℕ → Last → Line → ℕ → Line
longer held last l b =
    line_at l (l.size + 1) (sharing (meet l.stand last l.size (get_or held l.size 0) b) (l.size + 1) l.shared)
    (meet l.stand last l.size (get_or held l.size 0) b)

-- a byte of the name: a NUL ends it, 16 where no more can be held
unfoldable pub name_marks : List ℕ → Marks → Line → ℕ → Marks
name_marks held m l b =
    pick (eqb b 0) (moved m m.head (Id l m.h))
    (pick (leb most_held l.size) (refuse m (verdict 16 m.first)) (moved m m.head (Name (longer held m.last l b))))

-- the held bytes after it: each byte of the name takes the place of the old one
unfoldable pub name_held : List ℕ → Line → ℕ → List ℕ
name_held held l b = pick (eqb b 0) held (pick (leb most_held l.size) held (set held l.size b))

-- ---- the rules, asked when an entry is finished

-- what the held name has where the new one has ended
abbrev pub held_next : List ℕ → Last → ℕ → ℕ
held_next held last size = pick (ltb size last.size) (get_or held size 0 + 1) (next [] last.folder)

-- the finished name stands above the one before
abbrev pub is_over : List ℕ → Last → Line → Stand → Bool
is_over held last l Over = true
is_over held last l NotOver = false
is_over held last l Level = ltb (held_next held last l.size) (next [] l.folder)

-- what is said of a finished entry by itself, and after the one before: 5, 6, 18, 7 or 0
unfoldable pub judged : List ℕ → Last → Line → ℕ
judged held last l = or_else (pick l.written 0 5) (or_else (bare_number (take l.size held)) (pick (is_over held last l l.stand) 0 7))

-- the entry before leaves no name open: it was a folder, or there was none
abbrev pub leaves_none : Last → Bool
leaves_none last = last.folder || eqb last.size 0

-- where it stands among the names that are open, and the lengths of those afterwards
abbrev pub placing : List ℕ → Marks → Line → Result ℕ Misplaced
placing ends m l = open_of ends m.ended l.shared m.last.size (leaves_none m.last) l.size l.folder

abbrev pub ends_next : List ℕ → Marks → Line → List ℕ
ends_next ends m l = marks_at ends (min m.ended (length ends)) l.shared m.last.size (leaves_none m.last)

-- the next entry begins, with so many names open
abbrev pub next_entry : Marks → Line → ℕ → Marks
next_entry m l ended =
    record {
      verdict = m.verdict;
      h = m.h;
      rules = m.rules;
      at = m.at + 1;
      first = m.at + 1;
      count = pick (ltb m.count most_records) (m.count + 1) m.count;
      last = record { size = l.size; folder = l.folder };
      ended = ended;
      head = replicate 8 0;
      phase = Head 0;
    }

-- 17 for a name that was there before
unfoldable pub placed : Marks → Line → Result ℕ Misplaced → Marks
placed m l (Ok n) = next_entry m l n
placed m l (Err Double) = refuse m (verdict 17 m.first)
placed m l (Err NotAfter) = refuse m (verdict 7 m.first)

-- an entry is finished, of which the rules say so: refused, or it is placed among the open names
unfoldable pub closed : List ℕ → Marks → Line → ℕ → Marks
closed ends m l (suc n) = refuse m (verdict (suc n) m.first)
closed ends m l zero = placed m l (placing ends m l)

unfoldable pub closed_ends : List ℕ → Marks → Line → ℕ → List ℕ
closed_ends ends m l (suc n) = ends
closed_ends ends m l zero = ends_next ends m l

-- a byte of the id, of which so many are to come
unfoldable pub id_marks : List ℕ → List ℕ → Marks → Line → ℕ → Marks
id_marks held ends m l left = pick (leb left 1) (closed ends m l (judged held m.last l)) (moved m m.head (Id l (left - 1)))

unfoldable pub id_ends : List ℕ → List ℕ → Marks → Line → ℕ → List ℕ
id_ends held ends m l left = pick (leb left 1) (closed_ends ends m l (judged held m.last l)) ends

-- ---- a byte past the mode

abbrev pub body_in : Check → ℕ → Phase → Check
body_in c b (Head k) = c
body_in c b (Name l) = together (name_held c.held l b) c.ends (name_marks c.held c.marks l b)
body_in c b (Id l left) = together c.held (id_ends c.held c.ends c.marks l left) (id_marks c.held c.ends c.marks l left)

unfoldable pub body : Check → ℕ → Check
body c b = body_in c b c.marks.phase

unfoldable pub bodies : Check → List ℕ → Check
bodies c [] = c
bodies c (b ∷ bs) = bodies (body c b) bs

-- ---- the first eight bytes, which decide the mode

-- the name begins n bytes past the entry's first; the last of eight bytes has come
abbrev pub begun : Marks → List ℕ → ℕ → ℕ → Marks
begun m head mode n =
    placed_at m (m.at - 7 + n) head
    (Name (record { written = is_text (modes_of m.rules) (take (n - 1) head); folder = is_tree mode; size = 0; shared = 0; stand = Level }))

-- the mode is decided: the bytes behind it are the name's, and perhaps the id's
unfoldable pub begin : Check → List ℕ → Option (EntryMode × ℕ) → Check
begin c head (Some (m, n)) = bodies (together c.held c.ends (begun c.marks head m.internal n)) (drop n head)
begin c head None = together c.held c.ends (refuse c.marks (broken c.marks.first 1))

-- one of the first eight bytes, of which k are there; 2 where an entry begins after the most entries
unfoldable pub head_step : Check → ℕ → ℕ → Check
head_step c k b =
    pick (eqb k 0 && leb most_records c.marks.count) (together c.held c.ends (refuse c.marks (verdict 2 0)))
    (pick (ltb k 7) (together c.held c.ends (moved c.marks (set c.marks.head k b) (Head (k + 1))))
    (begin c (set c.marks.head 7 b) (read_mode (set c.marks.head 7 b))))

-- ---- a byte

abbrev pub turn_in : Check → ℕ → Phase → Check
turn_in c b (Head k) = head_step c k b
turn_in c b (Name l) = body c b
turn_in c b (Id l left) = body c b

-- a byte past the bound: 2, or 3 where what has come of the entry can begin no mode
abbrev pub over_mode : Marks → Option (EntryMode × ℕ) → Marks
over_mode m (Some (k, n)) = refuse m (verdict 2 0)
over_mode m None = refuse m (broken m.first 1)

abbrev pub over_in : Marks → Phase → Marks
over_in m (Head k) = pick (eqb k 0) (refuse m (verdict 2 0)) (over_mode m (read_mode (take k m.head)))
over_in m (Name l) = refuse m (verdict 2 0)
over_in m (Id l left) = refuse m (verdict 2 0)

unfoldable pub over : Check → Check
over c = together c.held c.ends (over_in c.marks c.marks.phase)

-- after a refusal nothing changes
unfoldable pub byte_step : Check → ℕ → Check
byte_step c b = pick (eqb c.marks.verdict.number 0) (pick (leb most_bytes c.marks.at) (over c) (turn_in c b c.marks.phase)) c

-- a piece
unfoldable pub feed_of : Check → List ℕ → Check
feed_of c [] = c
feed_of c (b ∷ bs) = feed_of (byte_step c b) bs

-- ---- the start and the end

-- a call that may begin, and one that may not
abbrev pub gate_verdict : Result ⊤ Verdict → Verdict
gate_verdict (Ok tt) = fine
gate_verdict (Err v) = v

-- the marks at the start, whatever is held: 1 where the id length is neither of the two, 19 for another rule set
unfoldable pub start_of : ℕ → ℕ → Marks
start_of h k = fresh h k (gate_verdict (rule_gate k h 0 0))

-- the part that is missing where some first bytes end: 1 where they are no mode, else 2 or 3 by what follows it
abbrev pub head_part : List ℕ → Option (EntryMode × ℕ) → ℕ
head_part b (Some (m, n)) = short_part (length (drop n b) - count_to 0 (drop n b))
head_part b None = 1

abbrev pub end_in : Marks → Phase → Answer
end_in m (Head zero) = counted m.count
end_in m (Head (suc k)) = refused (broken m.first (head_part (take (suc k) m.head) (read_mode (take (suc k) m.head))))
end_in m (Name l) = refused (broken m.first 2)
end_in m (Id l left) = refused (broken m.first 3)

-- the end of the object: 3 inside an entry
unfoldable pub finish_of : Marks → Answer
finish_of m = pick (eqb m.verdict.number 0) (end_in m m.phase) (refused m.verdict)

-- the same of a whole state
abbrev pub end_of : Check → Answer
end_of c = finish_of c.marks
