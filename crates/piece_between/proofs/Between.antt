-- What the tests say, and the marks after some entries. Assumes nothing.
use Prim.Native.Nat.{ℕ, ◌+◌, ◌≤◌, ◌<◌}
use native.Mathlib.Omega.{arith}
use mathlib.Core.Path.{◌≡◌, ap, ◌∙◌}
use mathlib.Core.Bool.{Bool, true, false, ◌&&◌}
use mathlib.Core.List.{List}
use lib.Dec.{eqb, ltb, leb}
use borrow.Author.Tests.{eqb-true, ltb-true, leb-true}
use Rattle.ground.specs.Verdict.{verdict, fine, most_bytes}
use Rattle.ground.specs.declared.Verdict.{Verdict}
use Rattle.ground.proofs.Laws.{and_left, and_right}
use Rattle.arriving.specs.Feed.{most_held, fresh}
use Rattle.arriving.specs.declared.Phase.{Phase}
use Rattle.arriving.specs.declared.Phase.TheVariants.{Head, Name, Id}
use Rattle.arriving.specs.declared.Marks.{Marks}
use Rattle.piece_between.specs.Between.{is_next, is_fine, is_after, is_first, is_between, head_after, ran_of}
use Rattle.piece_run.specs.declared.Run.{Run}

-- ---- what the tests say

-- an entry begins, after one before, and so many bytes more keep the bound
pub record Between (m : Marks) (left : ℕ) : Type 0 where
  pub next : m.phase ≡ Head 0
  pub open· : m.verdict ≡ fine
  pub after : (0 < m.last.size) × (m.last.size ≤ most_held)
  pub first : (m.first ≡ m.at) × (m.at + left ≤ most_bytes)
  pub long : 8 < m.h

is-next : (p : Phase) → is_next p ≡ true → p ≡ Head 0
is-next (Head k) e = ap Head (eqb-true k 0 e)
is-next (Name l) e = let z : ◌≡◌ {A = ℕ} 0 1 = cc in absurd (omega arith)
is-next (Id l left) e = let z : ◌≡◌ {A = ℕ} 0 1 = cc in absurd (omega arith)

is-fine : (v : Verdict) → is_fine v ≡ true → v ≡ fine
is-fine v e =
    let a : Bool = eqb v.number 0 in
    let b : Bool = eqb v.place 0 in
    let c : Bool = eqb v.part 0 in
    let f : (a && b) ≡ true = and_left (a && b) c e in
    ap (λ (i : ℕ). record { number = i; place = v.place; part = v.part }) (eqb-true v.number 0 (and_left a b f))
    ∙ ap (λ (i : ℕ). record { number = 0; place = i; part = v.part }) (eqb-true v.place 0 (and_right a b f))
    ∙ ap (λ (i : ℕ). record { number = 0; place = 0; part = i }) (eqb-true v.part 0 (and_right (a && b) c e))

pub between_is : (m : Marks) (left : ℕ) → is_between m left ≡ true → Between m left
unfolding is_between
between_is m left e =
    let n : Bool = is_next m.phase in
    let f : Bool = is_fine m.verdict in
    let a : Bool = is_after m.last in
    let i : Bool = is_first m.at m.first left in
    let l : Bool = ltb 8 m.h in
    let x = and_left (n && f && a && i) l e in
    let y = and_left (n && f && a) i x in
    let z = and_left (n && f) a y in
    let u = and_right (n && f) a y in
    let v = and_right (n && f && a) i x in
    record {
      next = is-next m.phase (and_left n f z);
      open· = is-fine m.verdict (and_right n f z);
      after = (
        ltb-true 0 m.last.size (and_left (ltb 0 m.last.size) (leb m.last.size most_held) u),
        leb-true m.last.size most_held (and_right (ltb 0 m.last.size) (leb m.last.size most_held) u),
      );
      first = (
        eqb-true m.first m.at (and_left (eqb m.first m.at) (leb (m.at + left) most_bytes) v),
        leb-true (m.at + left) most_bytes (and_right (eqb m.first m.at) (leb (m.at + left) most_bytes) v),
      );
      long = ltb-true 8 m.h (and_right (n && f && a && i) l e);
    }

-- ---- the marks after some entries

module _ (m : Marks) (at all i : ℕ) (t : Run) where
  pub ran_double : t.double ≡ true → (x : Marks) → x ≡ fresh m.h m.rules (verdict 17 at) → record { marks = x; next = all } ≡ ran_of m at all i t
  unfolding ran_of
  ran_double z x e = rw (z, e)

  pub ran_on : t.double ≡ false → (head : List ℕ) → head ≡ head_after m.head i t.next
      → record {
        marks =
            record {
              verdict = fine;
              h = m.h;
              rules = m.rules;
              at = at;
              first = at;
              count = t.count;
              last = t.last;
              ended = t.ended;
              head = head;
              phase = Head 0;
            };
        next = t.next;
      } ≡ ran_of m at all i t
  unfolding ran_of
  ran_on z head e = rw (z, e)
