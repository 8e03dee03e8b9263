-- What holds of marks however far a check has come: what moving on keeps, and every refusal that a byte may settle has. Assumes nothing.
use Prim.Native.Nat.{ℕ}
use mathlib.Core.Path.{◌≡◌, refl}
use mathlib.Core.Bool.{Bool, true, false, ◌&&◌}
use mathlib.Core.List.{List, [], ◌∷◌}
use lib.Dec.{eqb, leb, ltb}
use lib.ListN.{set, take, drop}
use Rattle.ground.specs.Basics.{pick}
use Rattle.ground.specs.Verdict.{verdict, broken, most_bytes, most_records}
use Rattle.ground.specs.declared.Verdict.{Verdict}
use Rattle.mode.specs.Read.{read_mode}
use Rattle.rules.specs.Rules.{or_else, is_plain, is_dot_git, bare_number}
use Rattle.arriving.specs.declared.Last.{Last}
use Rattle.arriving.specs.declared.Line.{Line}
use Rattle.arriving.specs.declared.Phase.{Phase}
use Rattle.arriving.specs.declared.Phase.TheVariants.{Head, Name, Id}
use Rattle.arriving.specs.declared.Marks.{Marks}
use Rattle.arriving.specs.declared.Check.{Check}
use Rattle.arriving.specs.Feed.{most_held, together, refuse, placed_at, name_marks, is_over, judged, placing, next_entry, placed, closed, id_marks, body_in, body, bodies}
use Rattle.arriving.specs.Feed.{begun, begin, head_step, turn_in, over_mode, over_in, over, byte_step, feed_of}
use Rattle.doubles.specs.declared.Misplaced.{Misplaced}
use Rattle.doubles.specs.declared.Misplaced.TheVariants.{Double, NotAfter}
use Rattle.mode.specs.declared.EntryMode.{EntryMode}
use Rattle.std.specs.Prelude.{Err, None, Ok, Option, Result, Some}

-- the refusals that a byte may settle
pub data Settles : Verdict → Type 0 where
  two : Settles (verdict 2 0)
  three : (at : ℕ) → Settles (broken at 1)
  five : (at : ℕ) → Settles (verdict 5 at)
  six : (at : ℕ) → Settles (verdict 6 at)
  seven : (at : ℕ) → Settles (verdict 7 at)
  sixteen : (at : ℕ) → Settles (verdict 16 at)
  seventeen : (at : ℕ) → Settles (verdict 17 at)
  eighteen : (at : ℕ) → Settles (verdict 18 at)

-- what the rules say of an entry is one of five numbers
each-judged : (Q : ℕ → Type 0) → Q 0 → Q 5 → Q 6 → Q 7 → Q 18 → (held : List ℕ) (last : Last) (l : Line) → Q (judged held last l)
unfolding judged bare_number
each-judged Q q0 q5 q6 q7 q18 held last l = go l.written (is_plain (take l.size held)) (is_dot_git (take l.size held)) (is_over held last l l.stand)
  where
    go : (w p d o : Bool) → Q (or_else (pick w 0 5) (or_else (or_else (pick p 0 6) (pick d 18 0)) (pick o 0 7)))
    go false p d o = q5
    go true false d o = q6
    go true true true o = q18
    go true true false true = q0
    go true true false false = q7

module _ (P : Marks → Type 0) (refuses : (m : Marks) (v : Verdict) → Settles v → P m → P (refuse m v))
    (moves : (m : Marks) (at : ℕ) (head : List ℕ) (p : Phase) → P m → P (placed_at m at head p))
    (goes : (m : Marks) (l : Line) (n : ℕ) → P m → P (next_entry m l n)) where
  abbrev Has : Check → Type 0
  Has c = P c.marks

  each_of : {A : Type 0} (Q : A → Type 0) (b : Bool) {x y : A} → Q x → Q y → Q (pick b x y)
  each_of Q true p q = p
  each_of Q false p q = q

  each_placed : (m : Marks) (l : Line) (q : Result ℕ Misplaced) → P m → P (placed m l q)
  unfolding placed
  each_placed m l (Ok n) p = goes m l n p
  each_placed m l (Err Double) p = refuses m _ (seventeen m.first) p
  each_placed m l (Err NotAfter) p = refuses m _ (seven m.first) p

  each-closed : (held ends : List ℕ) (m : Marks) (l : Line) → P m → P (closed ends m l (judged held m.last l))
  unfolding closed
  each-closed held ends m l p =
      each-judged (λ (n : ℕ). P (closed ends m l n)) (each_placed m l (placing ends m l) p) (refuses m _ (five m.first) p) (refuses m _ (six m.first) p)
      (refuses m _ (seven m.first) p) (refuses m _ (eighteen m.first) p) held m.last l

  each-name : (held : List ℕ) (m : Marks) (l : Line) (b : ℕ) → P m → P (name_marks held m l b)
  unfolding name_marks
  each-name held m l b p =
      each_of P (eqb b 0) (moves m _ _ _ p) (each_of P (leb most_held l.size) (refuses m _ (sixteen m.first) p) (moves m _ _ _ p))

  each-id : (held ends : List ℕ) (m : Marks) (l : Line) (left : ℕ) → P m → P (id_marks held ends m l left)
  unfolding id_marks
  each-id held ends m l left p = each_of P (leb left 1) (each-closed held ends m l p) (moves m _ _ _ p)

  each-body_in : (c : Check) (b : ℕ) (q : Phase) → Has c → Has (body_in c b q)
  each-body_in c b (Head k) p = p
  each-body_in c b (Name l) p = each-name c.held c.marks l b p
  each-body_in c b (Id l left) p = each-id c.held c.ends c.marks l left p

  each-body : (c : Check) (b : ℕ) → Has c → Has (body c b)
  unfolding body
  each-body c b p = each-body_in c b c.marks.phase p

  each-bodies : (c : Check) (s : List ℕ) → Has c → Has (bodies c s)
  unfolding bodies
  each-bodies c [] p = p
  each-bodies c (b ∷ s) p = each-bodies (body c b) s (each-body c b p)

  each-begin : (c : Check) (head : List ℕ) (r : Option (EntryMode × ℕ)) → Has c → Has (begin c head r)
  unfolding begin
  each-begin c head (Some (m, n)) p = each-bodies (together c.held c.ends (begun c.marks head m.internal n)) (drop n head) (moves c.marks _ _ _ p)
  each-begin c head None p = refuses c.marks _ (three c.marks.first) p

  each-head : (c : Check) (k b : ℕ) → Has c → Has (head_step c k b)
  unfolding head_step
  each-head c k b p =
      each_of Has (eqb k 0 && leb most_records c.marks.count) (refuses c.marks _ two p)
      (each_of Has (ltb k 7) (moves c.marks _ _ _ p) (each-begin c (set c.marks.head 7 b) (read_mode (set c.marks.head 7 b)) p))

  each_turn : (c : Check) (b : ℕ) (q : Phase) → Has c → Has (turn_in c b q)
  each_turn c b (Head k) p = each-head c k b p
  each_turn c b (Name l) p = each-body c b p
  each_turn c b (Id l left) p = each-body c b p

  each-over_mode : (m : Marks) (r : Option (EntryMode × ℕ)) → P m → P (over_mode m r)
  each-over_mode m (Some (k, n)) p = refuses m _ two p
  each-over_mode m None p = refuses m _ (three m.first) p

  each-over_in : (m : Marks) (q : Phase) → P m → P (over_in m q)
  each-over_in m (Head k) p = each_of P (eqb k 0) (refuses m _ two p) (each-over_mode m (read_mode (take k m.head)) p)
  each-over_in m (Name l) p = refuses m _ two p
  each-over_in m (Id l left) p = refuses m _ two p

  each_over : (c : Check) → Has c → Has (over c)
  unfolding over
  each_over c p = each-over_in c.marks c.marks.phase p

  each_step : (c : Check) (b : ℕ) → Has c → Has (byte_step c b)
  unfolding byte_step
  each_step c b p =
      each_of Has (eqb c.marks.verdict.number 0) (each_of Has (leb most_bytes c.marks.at) (each_over c p) (each_turn c b c.marks.phase p)) p

  -- of a piece
  pub each_fed : (c : Check) (s : List ℕ) → P c.marks → P (feed_of c s).marks
  unfolding feed_of
  each_fed c [] p = p
  each_fed c (b ∷ s) p = each_fed (byte_step c b) s (each_step c b p)

-- the rule set stays
pub rules_stay : (c : Check) (s : List ℕ) → (feed_of c s).marks.rules ≡ c.marks.rules
rules_stay c s = each_fed (λ (m : Marks). m.rules ≡ c.marks.rules) (λ m v w e. e) (λ m at head p e. e) (λ m l n e. e) c s refl
