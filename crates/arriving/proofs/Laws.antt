-- Laws of the definitions, one for each way through the code of `piece_judge`, `piece_step` and `pieces`, stated on facts. Assumes nothing.
use Prim.Native.Nat.{ℕ, zero, suc, ◌+◌, ◌-◌, ◌≤◌, ◌<◌, min}
use native.Mathlib.Numerals.{add-one}
use native.Mathlib.Omega.{arith}
use mathlib.Core.Path.{◌≡◌, refl, ap, sym, ◌∙◌}
use mathlib.Core.Bool.{Bool, true, false, not}
use mathlib.Core.Logic.{◌⊎◌, inl, inr}
use mathlib.Core.List.{List, [], ◌∷◌}
use lib.Dec.{eqb, ltb, leb}
use lib.ListN.{length, get_or, set, take, drop, length-drop, drop_of_length-le}
use lib.Seq.{drop-cons, take_all}
use borrow.Author.Tests.{eq-eqb, ne_eqb, lt-ltb, le-ltb, le-leb, lt-leb, ltb-true, ltb-false}
use Rattle.ground.specs.Basics.{pick}
use Rattle.ground.specs.Verdict.{verdict, broken, fine, counted, refused, most_bytes, most_records}
use Rattle.ground.specs.declared.Verdict.{Verdict}
use Rattle.ground.specs.Scan.{count_to, place_from}
use Rattle.mode.specs.Read.{read_mode, read_mode_at, moved}
use Rattle.mode.specs.declared.EntryMode.{EntryMode}
use Rattle.order.specs.Order.{next}
use Rattle.entry.specs.Decode.{short_part}
use Rattle.rules.specs.Rules.{or_else, bare_number}
use Rattle.rules.specs.Gate.{rule_gate}
use Rattle.arriving.specs.Feed as def
use Rattle.arriving.specs.declared.Stand.{Stand}
use Rattle.arriving.specs.declared.Stand.TheVariants.{Level, Over, NotOver}
use Rattle.arriving.specs.declared.Last.{Last}
use Rattle.arriving.specs.declared.Line.{Line}
use Rattle.arriving.specs.declared.Phase.{Phase}
use Rattle.arriving.specs.declared.Phase.TheVariants.{Head, Name, Id}
use Rattle.arriving.specs.declared.Marks.{Marks}
use Rattle.arriving.specs.declared.Check.{Check}
use Rattle.arriving.specs.Feed.{together, refuse, meet, name_marks, name_held, longer, is_over, judged, placing, ends_next, next_entry, placed, closed, closed_ends, id_marks, id_ends, body, bodies, head_step, over_in, over, turn_in, byte_step, feed_of, fresh, start_of, head_part, end_in, finish_of, most_held, body_in}
use Rattle.doubles.specs.declared.Misplaced.{Misplaced}
use Rattle.doubles.specs.declared.Misplaced.TheVariants.{Double, NotAfter}
use Rattle.std.specs.Prelude.{Err, None, Ok, Option, Result, Some}

-- ---- how a name stands

module _ (last : Last) (size x b : ℕ) where
  module _ (h : size < last.size) where
    pub byte_level : x ≡ b → Level ≡ meet Level last size x b
    unfolding meet
    byte_level e = rw (lt-ltb size last.size h, eq-eqb x b e)

    pub byte_over : (x ≡ b → ⊥) → x < b → Over ≡ meet Level last size x b
    unfolding meet
    byte_over e l = rw (lt-ltb size last.size h, ne_eqb x b e, lt-ltb x b l)

    pub byte_not : (x ≡ b → ⊥) → b ≤ x → NotOver ≡ meet Level last size x b
    unfolding meet
    byte_not e l = rw (lt-ltb size last.size h, ne_eqb x b e, le-ltb x b l)

  module _ (h : last.size ≤ size) where
    pub end_over : last.folder ≡ true → 47 < b → Over ≡ meet Level last size x b
    unfolding meet next
    end_over f l = rw (le-ltb size last.size h, f, lt-ltb 48 (b + 1) (omega arith))

    pub end_not : last.folder ≡ true → b ≤ 47 → NotOver ≡ meet Level last size x b
    unfolding meet next
    end_not f l = rw (le-ltb size last.size h, f, le-ltb 48 (b + 1) (omega arith))

    pub end_file : last.folder ≡ false → Over ≡ meet Level last size x b
    unfolding meet next
    end_file f = rw (le-ltb size last.size h, f, lt-ltb 0 (b + 1) (omega arith))

  pub meet-decided : (st : Stand) → (st ≡ Over) ⊎ (st ≡ NotOver) → st ≡ meet st last size x b
  unfolding meet
  meet-decided st (inl e) = rw e
  meet-decided st (inr e) = rw e

-- ---- a finished name that is level

ltb-move : (x : ℕ) → ltb x 47 ≡ ltb (x + 1) 48
ltb-move x = go (ltb x 47) refl
  where
    go : (v : Bool) → ltb x 47 ≡ v → v ≡ ltb (x + 1) 48
    go true e = sym (lt-ltb (x + 1) 48 (omega (arith, ltb-true x 47 e)))
    go false e = sym (le-ltb (x + 1) 48 (omega (arith, ltb-false x 47 e)))

module _ (held : List ℕ) (last : Last) (l : Line) where
  module _ (h : l.size < last.size) where
    pub level_folder : (x : ℕ) → x ≡ get_or held l.size 0 → l.folder ≡ true → ltb x 47 ≡ is_over held last l Level
    unfolding next
    level_folder x e f = rw (lt-ltb l.size last.size h, f, e) (ltb-move (get_or held l.size 0))

    pub level_file : l.folder ≡ false → false ≡ is_over held last l Level
    unfolding next
    level_file f = rw (lt-ltb l.size last.size h, f) (sym (le-ltb (get_or held l.size 0 + 1) 0 (omega arith)))

  module _ (h : last.size ≤ l.size) where
    pub level_new : l.folder ≡ true → not last.folder ≡ is_over held last l Level
    unfolding next
    level_new f = rw (le-ltb l.size last.size h, f) (go last.folder)
      where
        go : (v : Bool) → not v ≡ ltb (next [] v) 48
        go true = refl
        go false = refl

    pub level_none : l.folder ≡ false → false ≡ is_over held last l Level
    unfolding next
    level_none f = rw (le-ltb l.size last.size h, f) (go last.folder)
      where
        go : (v : Bool) → false ≡ ltb (next [] v) 0
        go true = refl
        go false = refl

-- ---- what the rules say

or_five : (a : Bool) (i : ℕ) → a ≡ false → or_else (pick a 0 5) i ≡ 5
or_five a i e = rw e

or_name : (a : Bool) (i j : ℕ) → a ≡ true → (i ≡ 0 → ⊥) → or_else (pick a 0 5) (or_else i j) ≡ i
or_name a zero j e f = absurd (f refl)
or_name a (suc i) j e f = rw e

or_after : (a : Bool) (i j : ℕ) → a ≡ true → i ≡ 0 → or_else (pick a 0 5) (or_else i j) ≡ j
or_after a i j e f = rw (e, f)

shorter-take : (i : ℕ) (h : List ℕ) → take (min i (length h)) h ≡ take i h
shorter-take i h = go (ltb i (length h)) refl
  where
    go : (v : Bool) → ltb i (length h) ≡ v → take (min i (length h)) h ≡ take i h
    go true x = let y = ltb-true i (length h) x in let z : min i (length h) ≡ i = omega arith in rw z
    go false x =
        let y = ltb-false i (length h) x in
        let z : min i (length h) ≡ length h = omega arith in
        rw z (take_all (length h) h (omega arith) ∙ sym (take_all i h y))

module _ (held : List ℕ) (last : Last) (l : Line) where
  pub judged-text : l.written ≡ false → 5 ≡ judged held last l
  unfolding judged
  judged-text f = sym (or_five l.written _ f)

  module _ (w : l.written ≡ true) (i n : ℕ) (e : n ≡ min l.size (length held)) (q : i ≡ bare_number (take n held)) where
    same_name : i ≡ bare_number (take l.size held)
    same_name = q ∙ ap bare_number (ap (λ (j : ℕ). take j held) e ∙ shorter-take l.size held)

    pub judged-name : (i ≡ 0 → ⊥) → i ≡ judged held last l
    unfolding judged
    judged-name f = sym (or_name l.written (bare_number (take l.size held)) _ w (λ z. f (same_name ∙ z)) ∙ sym same_name)

    module _ (z : i ≡ 0) (o : Bool) (g : o ≡ is_over held last l l.stand) where
      last-is : (v : Bool) → o ≡ v → pick v 0 7 ≡ judged held last l
      unfolding judged
      last-is v f =
          sym (or_after l.written (bare_number (take l.size held)) (pick (is_over held last l l.stand) 0 7) w (sym same_name ∙ z)
          ∙ ap (λ (v : Bool). pick v 0 7) (sym g ∙ f))

      pub judged-fine : o ≡ true → 0 ≡ judged held last l
      judged-fine f = last-is true f

      pub judged-after : o ≡ false → 7 ≡ judged held last l
      judged-after f = last-is false f

-- ---- an entry closed

-- what is answered, and what is open then
abbrev pub Closes : List ℕ → Marks → Line → ℕ → Marks → List ℕ → Type 0
Closes ends m l n r left = (r ≡ closed ends m l n) × (left ≡ closed_ends ends m l n)

module _ (ends : List ℕ) (m : Marks) (l : Line) (n : ℕ) where
  pub closed-refused : (n ≡ 0 → ⊥) → Closes ends m l n (refuse m (verdict n m.first)) ends
  unfolding closed closed_ends
  closed-refused f = go n f
    where
      go : (n : ℕ) → (n ≡ 0 → ⊥) → Closes ends m l n (refuse m (verdict n m.first)) ends
      go zero f = absurd (f refl)
      go (suc n) f = (refl, refl)

  module _ (z : n ≡ 0) (r : Result ℕ Misplaced) (left : List ℕ) (e : r ≡ placing ends m l) (o : left ≡ ends_next ends m l) where
    closed-by : (p : Result ℕ Misplaced) → r ≡ p → Closes ends m l n (placed m l p) left
    unfolding closed closed_ends
    closed-by p q = (ap (placed m l) (sym q ∙ e) ∙ ap (λ (i : ℕ). closed ends m l i) (sym z), o ∙ ap (λ (i : ℕ). closed_ends ends m l i) (sym z))

    pub closed-next : (k : ℕ) → r ≡ Ok k → (a : Marks) → a ≡ next_entry m l k → Closes ends m l n a left
    unfolding placed
    closed-next k q a f = rw f (closed-by (Ok k) q)

    pub closed_double : r ≡ Err Double → Closes ends m l n (refuse m (verdict 17 m.first)) left
    unfolding placed
    closed_double q = closed-by (Err Double) q

    pub closed-not : r ≡ Err NotAfter → Closes ends m l n (refuse m (verdict 7 m.first)) left
    unfolding placed
    closed-not q = closed-by (Err NotAfter) q

pub next-is : (m : Marks) (l : Line) (k count : ℕ) → count ≡ pick (ltb m.count most_records) (m.count + 1) m.count
    → record {
      verdict = m.verdict;
      h = m.h;
      rules = m.rules;
      at = m.at + 1;
      first = m.at + 1;
      count = count;
      last = record { size = l.size; folder = l.folder };
      ended = k;
      head = 0 ∷ 0 ∷ 0 ∷ 0 ∷ 0 ∷ 0 ∷ 0 ∷ 0 ∷ [];
      phase = Head 0;
    }
    ≡ next_entry m l k
next-is m l k count e = rw e

-- ---- a byte of the name, and of the id

module _ (held : List ℕ) (m : Marks) (l : Line) (b : ℕ) where
  pub name_nul : b ≡ 0 → (def.moved m m.head (Id l m.h) ≡ name_marks held m l b) × (held ≡ name_held held l b)
  unfolding name_marks name_held
  name_nul e = rw (eq-eqb b 0 e) (refl, refl)

  module _ (n : b ≡ 0 → ⊥) where
    pub name-long : most_held ≤ l.size → (refuse m (verdict 16 m.first) ≡ name_marks held m l b) × (held ≡ name_held held l b)
    unfolding name_marks name_held
    name-long k = rw (ne_eqb b 0 n, le-leb most_held l.size k) (refl, refl)

    pub name-more : l.size < most_held → (def.moved m m.head (Name (longer held m.last l b)) ≡ name_marks held m l b) × (set held l.size b ≡ name_held held l b)
    unfolding name_marks name_held
    name-more k = rw (ne_eqb b 0 n, lt-leb most_held l.size k) (refl, refl)

module _ (held ends : List ℕ) (m : Marks) (l : Line) where
  pub id-last : (left n : ℕ) → left ≤ 1 → n ≡ judged held m.last l → (r : Marks) (after : List ℕ) → Closes ends m l n r after
      → (r ≡ id_marks held ends m l left) × (after ≡ id_ends held ends m l left)
  unfolding id_marks id_ends
  id-last left n k q r after d = rw (le-leb left 1 k, ← q) d

  pub id-more : (left : ℕ) → 1 < left → (def.moved m m.head (Id l (left - 1)) ≡ id_marks held ends m l left) × (ends ≡ id_ends held ends m l left)
  unfolding id_marks id_ends
  id-more left k = rw (lt-leb left 1 k) (refl, refl)

-- ---- a byte past the mode

module _ (held ends : List ℕ) (m : Marks) (b : ℕ) where
  pub body-head : (k : ℕ) → m.phase ≡ Head k → together held ends m ≡ body (together held ends m) b
  unfolding body
  body-head k e = sym (ap (body_in (together held ends m) b) e)

  pub body-name : (l : Line) (after : List ℕ) (r : Marks) → m.phase ≡ Name l → r ≡ name_marks held m l b → after ≡ name_held held l b
      → together after ends r ≡ body (together held ends m) b
  unfolding body
  body-name l after r e p q = rw (p, q) (sym (ap (body_in (together held ends m) b) e))

  pub body-id : (l : Line) (left : ℕ) (r : Marks) (after : List ℕ) → m.phase ≡ Id l left → (r ≡ id_marks held ends m l left) × (after ≡ id_ends held ends m l left)
      → together held after r ≡ body (together held ends m) b
  unfolding body
  body-id l left r after e p = rw (p.0, p.1) (sym (ap (body_in (together held ends m) b) e))

placed_at : (m : Marks) (l : Line) (r : Result ℕ Misplaced) → (placed m l r).at ≤ m.at + 1
unfolding placed
placed_at m l (Ok n) = omega arith
placed_at m l (Err NotAfter) = omega arith
placed_at m l (Err Double) = omega arith

closed_at : (ends : List ℕ) (m : Marks) (l : Line) (n : ℕ) → (closed ends m l n).at ≤ m.at + 1
unfolding closed
closed_at ends m l zero = placed_at m l (placing ends m l)
closed_at ends m l (suc n) = omega arith

-- one byte moves the check by at most one
pub body_at : (c : Check) (b : ℕ) → (body c b).marks.at ≤ c.marks.at + 1
unfolding body name_marks id_marks
body_at c b = go c.marks.phase
  where
    named : (l : Line) (u v : Bool)
        → (pick u (def.moved c.marks c.marks.head (Id l c.marks.h))
        (pick v (refuse c.marks (verdict 16 c.marks.first)) (def.moved c.marks c.marks.head (Name (longer c.held c.marks.last l b))))).at ≤ c.marks.at + 1
    named l true v = omega arith
    named l false true = omega arith
    named l false false = omega arith

    ended : (l : Line) (n : ℕ) → (closed c.ends c.marks l n).at ≤ c.marks.at + 1
    ended l n = closed_at c.ends c.marks l n

    ids : (l : Line) (left : ℕ) (u : Bool)
        → (pick u (closed c.ends c.marks l (judged c.held c.marks.last l)) (def.moved c.marks c.marks.head (Id l (left - 1)))).at ≤ c.marks.at + 1
    ids l left true = ended l (judged c.held c.marks.last l)
    ids l left false = omega arith

    go : (p : Phase) → (body_in c b p).marks.at ≤ c.marks.at + 1
    go (Head k) = omega arith
    go (Name l) = named l (eqb b 0) (leb most_held l.size)
    go (Id l left) = ids l left (leb left 1)

-- ---- the bytes behind the mode

pub bodies-more : (c : Check) (head : List ℕ) (k : ℕ) → k < length head → (after : Check) → after ≡ body c (get_or head k 0) → bodies c (drop k head) ≡ bodies after (drop (k + 1) head)
unfolding bodies
bodies-more c head k l after e = rw (e, add-one k, drop-cons head k 0 l)

-- a turn of the loop: what is to come is what is to come after it, and the check has moved by one
pub bodies-turn : (all c : Check) (head : List ℕ) (k far : ℕ) → k < length head → (after : Check) → after ≡ body c (get_or head k 0)
    → (all ≡ bodies c (drop k head)) × (c.marks.at ≤ far + k) → (all ≡ bodies after (drop (k + 1) head)) × (after.marks.at ≤ far + (k + 1))
bodies-turn all c head k far l after e w =
    let a : after.marks.at ≡ (body c (get_or head k 0)).marks.at = ap (λ (x : Check). x.marks.at) e in
    (w.0 ∙ bodies-more c head k l after e, omega (arith, body_at c (get_or head k 0), w.1))

pub bodies_end : (c : Check) (head : List ℕ) (k : ℕ) → length head ≤ k → bodies c (drop k head) ≡ c
unfolding bodies
bodies_end c head k l = rw (drop_of_length-le head {i = k} l)

-- ---- the first eight bytes

pub read-zero : (s : List ℕ) (r : Option (EntryMode × ℕ)) → read_mode_at s 0 ≡ r → read_mode s ≡ r
unfolding read_mode_at
read-zero s r e = go (read_mode s) e
  where
    go : (q : Option (EntryMode × ℕ)) → moved 0 q ≡ r → q ≡ r
    go None e = e
    go (Some (m, n)) e = let z : 0 + n ≡ n = omega arith in sym (ap ((λ y. Some (m, y))) z) ∙ e

pub read-cut : (head : List ℕ) (k n : ℕ) (r : Option (EntryMode × ℕ)) → n ≡ min k 8 → length head ≡ 8 → r ≡ read_mode_at (take n head) 0 → r ≡ read_mode (take k head)
read-cut head k n r q l e = sym (read-zero (take n head) r (sym e)) ∙ ap read_mode (go (ltb k 8) refl)
  where
    go : (v : Bool) → ltb k 8 ≡ v → take n head ≡ take k head
    go true x = let y = ltb-true k 8 x in let w : n ≡ k = omega arith in rw w
    go false x = let y = ltb-false k 8 x in take_all n head (omega arith) ∙ sym (take_all k head (omega arith))

-- ---- a byte past the bound

module _ (m : Marks) where
  pub over_none : (k : ℕ) → m.phase ≡ Head k → k ≡ 0 → refuse m (verdict 2 0) ≡ over_in m m.phase
  over_none k e z = rw (e, eq-eqb k 0 z)

  module _ (k : ℕ) (e : m.phase ≡ Head k) (z : k ≡ 0 → ⊥) where
    pub over-bad : read_mode (take k m.head) ≡ None → refuse m (broken m.first 1) ≡ over_in m m.phase
    over-bad r = rw (e, ne_eqb k 0 z, r)

    pub over-mode : (a : EntryMode) (i : ℕ) → read_mode (take k m.head) ≡ Some (a, i) → refuse m (verdict 2 0) ≡ over_in m m.phase
    over-mode a i r = rw (e, ne_eqb k 0 z, r)

  pub over-past_mode : ((x : Line) × (m.phase ≡ Name x)) ⊎ ((x : Line) × (left : ℕ) × (m.phase ≡ Id x left))
      → refuse m (verdict 2 0) ≡ over_in m m.phase
  over-past_mode (inl (x, e)) = rw e
  over-past_mode (inr (x, left, e)) = rw e

-- ---- a byte

module _ (held ends : List ℕ) (m : Marks) (b : ℕ) where
  pub step_stopped : (m.verdict.number ≡ 0 → ⊥) → together held ends m ≡ byte_step (together held ends m) b
  unfolding byte_step
  step_stopped n = rw (ne_eqb m.verdict.number 0 n)

  module _ (z : m.verdict.number ≡ 0) where
    pub step_past : (r : Marks) → most_bytes ≤ m.at → r ≡ over_in m m.phase → together held ends r ≡ byte_step (together held ends m) b
    unfolding byte_step over
    step_past r l q = rw (eq-eqb m.verdict.number 0 z, le-leb most_bytes m.at l, q)

    module _ (l : m.at < most_bytes) (c : Check) where
      pub step-first : (k : ℕ) → m.phase ≡ Head k → c ≡ head_step (together held ends m) k b → c ≡ byte_step (together held ends m) b
      unfolding byte_step
      step-first k e q = rw (eq-eqb m.verdict.number 0 z, lt-leb most_bytes m.at l) (q ∙ sym (ap (turn_in (together held ends m) b) e))

      pub step-past_mode : ((x : Line) × (m.phase ≡ Name x)) ⊎ ((x : Line) × (left : ℕ) × (m.phase ≡ Id x left)) → c ≡ body (together held ends m) b
          → c ≡ byte_step (together held ends m) b
      unfolding byte_step
      step-past_mode (inl (x, e)) q = rw (eq-eqb m.verdict.number 0 z, lt-leb most_bytes m.at l) (q ∙ sym (ap (turn_in (together held ends m) b) e))
      step-past_mode (inr (x, left, e)) q = rw (eq-eqb m.verdict.number 0 z, lt-leb most_bytes m.at l) (q ∙ sym (ap (turn_in (together held ends m) b) e))

-- ---- a piece

pub feed-turn : (c : Check) (s : List ℕ) (i : ℕ) → i < length s → (after : Check) → after ≡ byte_step c (get_or s i 0) → feed_of c (drop i s) ≡ feed_of after (drop (i + 1) s)
unfolding feed_of
feed-turn c s i l after e = rw (e, add-one i, drop-cons s i 0 l)

pub feed_end : (c : Check) (s : List ℕ) (i : ℕ) → length s ≤ i → feed_of c (drop i s) ≡ c
unfolding feed_of
feed_end c s i l = rw (drop_of_length-le s {i = i} l)

-- ---- the start and the end

module _ (h k : ℕ) (m : Marks) where
  pub start_open : rule_gate k h 0 0 ≡ Ok tt → m ≡ fresh h k fine → m ≡ start_of h k
  unfolding start_of
  start_open e q = rw e q

  pub start-shut : (v : Verdict) → rule_gate k h 0 0 ≡ Err v → m ≡ fresh h k v → m ≡ start_of h k
  unfolding start_of
  start-shut v e q = rw e q

-- the part that is missing in some first bytes
module _ (b : List ℕ) where
  pub part-bad : read_mode_at b 0 ≡ None → 1 ≡ head_part b (read_mode b)
  part-bad e = rw (read-zero b None e)

  part_by : (a : EntryMode) (n end : ℕ) → read_mode_at b 0 ≡ Some (a, n) → end ≡ place_from 0 b n → head_part b (read_mode b) ≡ short_part (length b - end)
  unfolding place_from
  part_by a n end e q =
      let z : length (drop n b) - count_to 0 (drop n b) ≡ length b - end = omega (arith, length-drop n b) in
      rw (read-zero b (Some (a, n)) e) (ap short_part z)

  pub part_nul : (a : EntryMode) (n end : ℕ) → read_mode_at b 0 ≡ Some (a, n) → end ≡ place_from 0 b n → length b - end ≡ 0 → 2 ≡ head_part b (read_mode b)
  unfolding short_part
  part_nul a n end e q z = sym (part_by a n end e q ∙ rw (eq-eqb (length b - end) 0 z))

  pub part-id : (a : EntryMode) (n end : ℕ) → read_mode_at b 0 ≡ Some (a, n) → end ≡ place_from 0 b n → (length b - end ≡ 0 → ⊥) → 3 ≡ head_part b (read_mode b)
  unfolding short_part
  part-id a n end e q z = sym (part_by a n end e q ∙ rw (ne_eqb (length b - end) 0 z))

pub head-cut : (head : List ℕ) (k n : ℕ) → length head ≡ 8 → n ≡ min k 8 → take n head ≡ take k head
head-cut head k n l e = ap (λ (j : ℕ). take j head) (e ∙ ap (min k) (sym l)) ∙ shorter-take k head

module _ (m : Marks) where
  pub finish-refused : (m.verdict.number ≡ 0 → ⊥) → refused m.verdict ≡ finish_of m
  unfolding finish_of
  finish-refused n = rw (ne_eqb m.verdict.number 0 n)

  module _ (z : m.verdict.number ≡ 0) where
    finish_in : (p : Phase) → m.phase ≡ p → end_in m p ≡ finish_of m
    unfolding finish_of
    finish_in p e = rw (eq-eqb m.verdict.number 0 z) (ap (end_in m) (sym e))

    pub finish-done : (k : ℕ) → m.phase ≡ Head k → k ≡ 0 → counted m.count ≡ finish_of m
    finish-done k e q = finish_in (Head 0) (e ∙ ap Head q)

    pub finish-head : (k part : ℕ) → m.phase ≡ Head k → (k ≡ 0 → ⊥) → part ≡ head_part (take k m.head) (read_mode (take k m.head))
        → refused (broken m.first part) ≡ finish_of m
    finish-head zero part e q p = absurd (q refl)
    finish-head (suc k) part e q p = ap (λ (i : ℕ). refused (broken m.first i)) p ∙ finish_in (Head (suc k)) e

    pub finish-name : (l : Line) → m.phase ≡ Name l → refused (broken m.first 2) ≡ finish_of m
    finish-name l e = finish_in (Name l) e

    pub finish-id : (l : Line) (left : ℕ) → m.phase ≡ Id l left → refused (broken m.first 3) ≡ finish_of m
    finish-id l left e = finish_in (Id l left) e
