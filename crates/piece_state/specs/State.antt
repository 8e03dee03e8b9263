-- The marks of a check in pieces as eighteen numbers (include/sarpukten.h), and what any eighteen numbers say. Assumes nothing.
use Rattle.std.specs.Prelude.{ℕ, Bool, true, false, List, [], ◌∷◌, ◌++◌, get_or, eqb, ltb}
use Rattle.ground.specs.Basics.{pick}
use Rattle.border.specs.Border.{yes, verdict_numbers}
use Rattle.arriving.specs.declared.Stand.{Stand}
use Rattle.arriving.specs.declared.Stand.TheVariants.{Level, Over, NotOver}
use Rattle.arriving.specs.declared.Line.{Line}
use Rattle.arriving.specs.declared.Phase.{Phase}
use Rattle.arriving.specs.declared.Phase.TheVariants.{Head, Name, Id}
use Rattle.arriving.specs.declared.Marks.{Marks}

-- ---- numbers of marks

-- how the name that arrives stands
abbrev pub stand_number : Stand → ℕ
stand_number Level = 0
stand_number Over = 1
stand_number NotOver = 2

-- the phase: its sort, the number that comes with it, and the entry's line, of which nothing is known before its name
abbrev pub sort_number : Phase → ℕ
sort_number (Head k) = 0
sort_number (Name l) = 1
sort_number (Id l left) = 2

abbrev pub left_number : Phase → ℕ
left_number (Head k) = k
left_number (Name l) = 0
left_number (Id l left) = left

abbrev pub line_in : Phase → Line
line_in (Head k) = record { written = false; folder = false; size = 0; shared = 0; stand = Level }
line_in (Name l) = l
line_in (Id l left) = l

abbrev pub line_numbers : Line → List ℕ
line_numbers l = yes l.written ∷ yes l.folder ∷ l.size ∷ l.shared ∷ stand_number l.stand ∷ []

-- all eighteen; the entry's first bytes stand beside them
abbrev pub marks_numbers : Marks → List ℕ
marks_numbers m =
    verdict_numbers m.verdict
    ++ m.h ∷ m.rules ∷ m.at ∷ m.first ∷ m.count ∷ m.last.size ∷ yes m.last.folder ∷ m.ended ∷ sort_number m.phase ∷ left_number m.phase
    ∷ line_numbers (line_in m.phase)

-- ---- marks of numbers

-- every number but 0 is yes
abbrev pub is_yes : ℕ → Bool
is_yes n = pick (eqb n 0) false true

-- a rule set has 16 bits; 0 is none
abbrev pub set_said : ℕ → ℕ
set_said n = pick (ltb n 65536) n 0

abbrev pub stand_said : ℕ → Stand
stand_said n = pick (eqb n 0) Level (pick (eqb n 1) Over NotOver)

abbrev pub line_said : List ℕ → Line
line_said l = record { written = is_yes (get_or l 13 0); folder = is_yes (get_or l 14 0); size = get_or l 15 0; shared = get_or l 16 0; stand = stand_said (get_or l 17 0) }

abbrev pub phase_said : ℕ → ℕ → Line → Phase
phase_said sort left line = pick (eqb sort 0) (Head left) (pick (eqb sort 1) (Name line) (Id line left))

abbrev pub marks_said : List ℕ → List ℕ → Marks
marks_said l first =
    record {
      verdict = record { number = get_or l 0 0; place = get_or l 1 0; part = get_or l 2 0 };
      h = get_or l 3 0;
      rules = set_said (get_or l 4 0);
      at = get_or l 5 0;
      first = get_or l 6 0;
      count = get_or l 7 0;
      last = record { size = get_or l 8 0; folder = is_yes (get_or l 9 0) };
      ended = get_or l 10 0;
      head = first;
      phase = phase_said (get_or l 11 0) (get_or l 12 0) (line_said l);
    }
