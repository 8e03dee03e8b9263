-- The ways through one of the first eight bytes; with the next byte one further, and the bytes behind the mode fed then, it is the check's own.
-- Assumes nothing.
use Prim.Native.Nat.{ℕ, ◌+◌, ◌-◌, ◌≤◌, ◌<◌}
use native.Mathlib.Omega.{arith}
use mathlib.Core.Path.{◌≡◌, refl, ap, sym, ◌∙◌}
use mathlib.Core.Bool.{Bool, true, false, ◌&&◌}
use mathlib.Core.List.{List}
use lib.Dec.{eqb, ltb, leb}
use lib.ListN.{length, set, drop, length-set}
use borrow.Author.Tests.{lt-ltb, le-ltb}
use Rattle.ground.specs.Basics.{pick}
use Rattle.ground.specs.Verdict.{verdict, broken, most_records}
use Rattle.mode.specs.Read.{read_mode, read_mode_at}
use Rattle.mode.specs.declared.EntryMode.{EntryMode}
use Rattle.mode.proofs.Laws.{read_next}
use Rattle.arriving.specs.Feed.{together, refuse, placed_at, moved, bodies, begun, begin, head_step}
use Rattle.arriving.specs.declared.Phase.TheVariants.{Head}
use Rattle.arriving.specs.declared.Marks.{Marks}
use Rattle.arriving.specs.declared.Check.{Check}
use Rattle.arriving.specs.declared.Taken.{Taken}
use Rattle.arriving.proofs.Laws.{read-zero, bodies_end}
use borrow.Author.Rules.{rules}
use denote.Laws.{Is}
use denote.Struct.Declared.{row}
use mir.Val.{Val}
use Rattle.arriving.specs.contracts.Marks as marks
use Rattle.piece_head.specs.Head.{from, begun_at, begin_at, head_at}
use Rattle.std.specs.Prelude.{None, Option, Some}

-- ---- the mode is decided

pub mode-within : (head : List ℕ) (k : EntryMode) (n : ℕ) → length head ≡ 8 → read_mode_at head 0 ≡ Some (k, n) → (0 < n) × (n ≤ 8)
mode-within head k n l e = let q = read_next head k.internal n (read-zero head (Some (k, n)) e) in (q.0, omega arith)

module _ (m : Marks) (at : ℕ) (head : List ℕ) where
  pub begin-bad : read_mode_at head 0 ≡ None → {r : Marks} → r ≡ refuse m (broken m.first 1) → from r 8 ≡ begin_at m at head (read_mode head)
  unfolding begin_at
  begin-bad e q = rw (read-zero head None e) (ap (λ (y : Marks). from y 8) q)

  pub begin-mode : (k : EntryMode) (n : ℕ) → read_mode_at head 0 ≡ Some (k, n) → {r : Marks} → r ≡ begun_at m at head k.internal n
      → from r n ≡ begin_at m at head (read_mode head)
  unfolding begin_at
  begin-mode k n e q = rw (read-zero head (Some (k, n)) e) (ap (λ (y : Marks). from y n) q)

-- ---- one of the eight

module _ (m : Marks) (at k b : ℕ) (full : Bool) (q : full ≡ (eqb k 0 && leb most_records m.count)) where
  pub head_full : full ≡ true → {r : Marks} → r ≡ refuse m (verdict 2 0) → from r 8 ≡ head_at m at k b
  unfolding head_at
  head_full e p = rw (sym q, e) (ap (λ (y : Marks). from y 8) p)

  module _ (e : full ≡ false) where
    pub head_more : k < 7 → {r : Marks} → r ≡ placed_at m at (set m.head k b) (Head (k + 1)) → from r 8 ≡ head_at m at k b
    unfolding head_at
    head_more l p = rw (sym q, e, lt-ltb k 7 l) (ap (λ (y : Marks). from y 8) p)

    pub head_eighth : 7 ≤ k → {t : Taken} → t ≡ begin_at m at (set m.head 7 b) (read_mode (set m.head 7 b)) → t ≡ head_at m at k b
    unfolding head_at
    head_eighth l p = rw (sym q, e, le-ltb k 7 l) p

-- ---- the check's own step

-- the bytes behind the mode are fed
abbrev pub behind : List ℕ → List ℕ → Taken → Check
behind held ends t = bodies (together held ends t.marks) (drop t.next t.marks.head)

module _ (held ends : List ℕ) (m : Marks) where
  begun-one : (head : List ℕ) (r : Option (EntryMode × ℕ)) → behind held ends (begin_at m (m.at + 1) head r) ≡ begin (together held ends m) head r
  unfolding begin_at begin bodies
  begun-one head (Some (k, n)) =
      let e : m.at + 1 - 8 ≡ m.at - 7 = omega arith in
      ap (λ (i : ℕ). bodies (together held ends (placed_at m (i + n) head (begun m head k.internal n).phase)) (drop n head)) e
  begun-one head None = refl

  head-is : (k b : ℕ) → length m.head ≡ 8 → behind held ends (head_at m (m.at + 1) k b) ≡ head_step (together held ends m) k b
  unfolding head_at head_step bodies
  head-is k b l = go (eqb k 0 && leb most_records m.count) (ltb k 7)
    where
      go : (u v : Bool)
          → behind held ends (pick u (from (refuse m (verdict 2 0)) 8) (pick v (from (placed_at m (m.at + 1) (set m.head k b) (Head (k + 1))) 8)
          (begin_at m (m.at + 1) (set m.head 7 b) (read_mode (set m.head 7 b)))))
          ≡ pick u (together held ends (refuse m (verdict 2 0))) (pick v (together held ends (moved m (set m.head k b) (Head (k + 1))))
          (begin (together held ends m) (set m.head 7 b) (read_mode (set m.head 7 b))))
      go true v = refl
      go false true =
          bodies_end (together held ends (moved m (set m.head k b) (Head (k + 1)))) (set m.head k b) 8 (omega (arith, length-set m.head k b))
      go false false = begun-one (set m.head 7 b) (read_mode (set m.head 7 b))

  pub head_led : (k b : ℕ) → length m.head ≡ 8 → {t : Taken} → t ≡ head_at m (m.at + 1) k b → {c : Check} → c ≡ behind held ends t
      → c ≡ head_step (together held ends m) k b
  head_led k b l e q = q ∙ ap (behind held ends) e ∙ head-is k b l

-- the marks stand at most eight bytes further
near : (m : Marks) (at k b : ℕ) → length m.head ≡ 8 → (head_at m at k b).marks.at ≤ at + 8
unfolding head_at begin_at
near m at k b l = go (eqb k 0 && leb most_records m.count) (ltb k 7)
  where
    head : List ℕ
    head = set m.head 7 b

    far : (r : Option (EntryMode × ℕ)) → read_mode head ≡ r → (begin_at m at head r).marks.at ≤ at + 8
    far (Some (a, n)) e = let q = read_next head a.internal n e in omega (arith, length-set m.head 7 b, q.1)
    far None e = omega arith

    go : (u v : Bool)
        → (pick u (from (refuse m (verdict 2 0)) 8) (pick v (from (placed_at m at (set m.head k b) (Head (k + 1))) 8)
        (begin_at m at head (read_mode head)))).marks.at ≤ at + 8
    go true v = omega arith
    go false true = omega arith
    go false false = far (read_mode head) refl

pub head_near : (m : Marks) (at k b : ℕ) → length m.head ≡ 8 → {t : Taken} → t ≡ head_at m at k b → t.marks.at ≤ at + 8
head_near m at k b l {t = t} e = let q : t.marks.at ≡ (head_at m at k b).marks.at = ap (λ (y : Taken). y.marks.at) e in omega (arith, near m at k b l)

-- marks that a function is handed have eight first bytes
pub head-long : (m : Marks) (vs : List Val) → Is (row marks.the_type) m vs → length m.head ≡ 8
head-long m vs g = search (rules, g)
