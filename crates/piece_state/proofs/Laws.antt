-- The numbers of marks say these marks again; and the laws that the code cites. Assumes nothing.
use Prim.Native.Nat.{ℕ, ◌<◌}
use mathlib.Core.Path.{◌≡◌, refl, ap, ◌∙◌}
use mathlib.Core.Bool.{Bool, true, false}
use mathlib.Core.List.{List, [], ◌∷◌}
use lib.ListN.{get_or}
use borrow.Author.Tests.{lt-ltb}
use mir.Val.{bool_byte}
use Rattle.ground.specs.Basics.{pick}
use Rattle.border.specs.Border.{yes}
use Rattle.border.proofs.Laws.{as_number}
use Rattle.arriving.specs.declared.Stand.{Stand}
use Rattle.arriving.specs.declared.Stand.TheVariants.{Level, Over, NotOver}
use Rattle.arriving.specs.declared.Line.{Line}
use Rattle.arriving.specs.declared.Phase.{Phase}
use Rattle.arriving.specs.declared.Phase.TheVariants.{Head, Name, Id}
use Rattle.arriving.specs.declared.Marks.{Marks}
use Rattle.piece_state.specs.State.{stand_number, sort_number, left_number, line_in, marks_numbers, is_yes, set_said, stand_said, line_said, phase_said, marks_said}

-- ---- there and back

yes_back : (b : Bool) → is_yes (yes b) ≡ b
yes_back true = refl
yes_back false = refl

stand_back : (s : Stand) → stand_said (stand_number s) ≡ s
stand_back Level = refl
stand_back Over = refl
stand_back NotOver = refl

set_back : (k : ℕ) → k < 65536 → set_said k ≡ k
set_back k q = ap (λ (b : Bool). pick b k 0) (lt-ltb k 65536 q)

abbrev line_of : Bool → Bool → ℕ → ℕ → Stand → Line
line_of written folder size shared stand = record { written = written; folder = folder; size = size; shared = shared; stand = stand }

-- a line that came back
abbrev again : Line → Line
again l = line_of (is_yes (yes l.written)) (is_yes (yes l.folder)) l.size l.shared (stand_said (stand_number l.stand))

line_back : (l : Line) → again l ≡ l
line_back l =
    ap (λ (b : Bool). line_of b (is_yes (yes l.folder)) l.size l.shared (stand_said (stand_number l.stand))) (yes_back l.written)
    ∙ ap (λ (b : Bool). line_of l.written b l.size l.shared (stand_said (stand_number l.stand))) (yes_back l.folder)
    ∙ ap (λ (s : Stand). line_of l.written l.folder l.size l.shared s) (stand_back l.stand)

phase_back : (p : Phase) → phase_said (sort_number p) (left_number p) (again (line_in p)) ≡ p
phase_back (Head k) = refl
phase_back (Name l) = ap Name (line_back l)
phase_back (Id l left) = ap (λ (x : Line). Id x left) (line_back l)

-- marks that differ from others at most in these three
abbrev changed : Marks → ℕ → Bool → Phase → Marks
changed m k folder p =
    record {
      verdict = m.verdict;
      h = m.h;
      rules = k;
      at = m.at;
      first = m.first;
      count = m.count;
      last = record { size = m.last.size; folder = folder };
      ended = m.ended;
      head = m.head;
      phase = p;
    }

-- what the numbers of marks and their first bytes say is these marks, their rule set having 16 bits
pub marks_back : (m : Marks) → m.rules < 65536 → marks_said (marks_numbers m) m.head ≡ m
marks_back m q =
    let back = phase_said (sort_number m.phase) (left_number m.phase) (again (line_in m.phase)) in
    ap (λ (k : ℕ). changed m k (is_yes (yes m.last.folder)) back) (set_back m.rules q)
    ∙ ap (λ (b : Bool). changed m m.rules b back) (yes_back m.last.folder)
    ∙ ap (λ (p : Phase). changed m m.rules m.last.folder p) (phase_back m.phase)

-- ---- the code

pub marks_are : (l first : List ℕ) {k : ℕ} {f : Bool} {p : Phase} {line : Line} → k ≡ set_said (get_or l 4 0) → f ≡ is_yes (get_or l 9 0)
    → p ≡ phase_said (get_or l 11 0) (get_or l 12 0) line → line ≡ line_said l → changed (marks_said l first) k f p ≡ marks_said l first
marks_are l first {k} {f} {p} a b c d =
    let m = marks_said l first in
    ap (λ (x : ℕ). changed m x f p) a ∙ ap (λ (x : Bool). changed m m.rules x p) b
    ∙ ap (λ (x : Phase). changed m m.rules m.last.folder x) (c ∙ ap (λ (x : Line). phase_said (get_or l 11 0) (get_or l 12 0) x) d)

-- eighteen numbers, of which these seven are to be known
abbrev eighteen : Marks → ℕ → ℕ → ℕ → ℕ → ℕ → ℕ → ℕ → ℕ → List ℕ
eighteen m last sort left written folder size shared stand =
    m.verdict.number ∷ m.verdict.place ∷ m.verdict.part ∷ m.h ∷ m.rules ∷ m.at ∷ m.first ∷ m.count ∷ m.last.size ∷ last ∷ m.ended ∷ sort ∷ left
    ∷ written ∷ folder ∷ size ∷ shared ∷ stand ∷ []

pub stored : (m : Marks) {sort left stand : ℕ} {l : Line} → sort ≡ sort_number m.phase → left ≡ left_number m.phase → l ≡ line_in m.phase
    → stand ≡ stand_number l.stand
    → eighteen m (bool_byte m.last.folder) sort left (bool_byte l.written) (bool_byte l.folder) l.size l.shared stand ≡ marks_numbers m
stored m {sort} {left} {stand} {l} a b c d =
    ap (λ (x : ℕ). eighteen m x sort left (bool_byte l.written) (bool_byte l.folder) l.size l.shared stand) (as_number m.last.folder)
    ∙ ap (λ (x : ℕ). of sort left x (bool_byte l.folder) l.size l.shared stand) (as_number l.written)
    ∙ ap (λ (x : ℕ). of sort left (yes l.written) x l.size l.shared stand) (as_number l.folder)
    ∙ ap (of sort left (yes l.written) (yes l.folder) l.size l.shared) d
    ∙ ap (λ (x : Line). of sort left (yes x.written) (yes x.folder) x.size x.shared (stand_number x.stand)) c
    ∙ ap (λ (x : ℕ). by x left) a
    ∙ ap (by (sort_number m.phase)) b
  where
    of : ℕ → ℕ → ℕ → ℕ → ℕ → ℕ → ℕ → List ℕ
    of = eighteen m (yes m.last.folder)

    by : ℕ → ℕ → List ℕ
    by x y =
        let k = line_in m.phase in of x y (yes k.written) (yes k.folder) k.size k.shared (stand_number k.stand)
