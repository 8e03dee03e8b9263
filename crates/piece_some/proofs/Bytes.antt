-- The ways through the leaves that take bytes which need no step of their own. Assumes nothing.
use Prim.Native.Nat.{ℕ, ◌+◌, ◌-◌, ◌≤◌, ◌<◌, min}
use native.Mathlib.Decide.{dec_lt}
use native.Mathlib.Omega.{arith}
use mathlib.Core.Path.{◌≡◌, refl, ap, sym, subst, ◌∙◌}
use mathlib.Core.Bool.{Bool, true, false, ◌&&◌}
use mathlib.Core.List.{List}
use lib.Dec.{eqb, leb}
use lib.ListN.{length, take, drop, length-take, length-drop}
use lib.Seq.{sets}
use borrow.Author.Tests.{eq-eqb, ne_eqb, le-leb, lt-leb}
use Rattle.ground.specs.Basics.{pick, part}
use Rattle.ground.specs.Verdict.{most_bytes, most_records}
use Rattle.arriving.specs.Feed.{placed_at}
use Rattle.arriving.specs.declared.Line.{Line}
use Rattle.arriving.specs.declared.Phase.{Phase}
use Rattle.arriving.specs.declared.Phase.TheVariants.{Head, Name, Id}
use Rattle.arriving.specs.declared.Last.{Last}
use Rattle.arriving.specs.declared.Marks.{Marks}
use Rattle.arriving.specs.declared.Taken.{Taken}
use Rattle.piece_name.specs.Names.{name_more, name_some}
use Rattle.piece_name.proofs.Names.{line-size}
use Rattle.piece_some.specs.Bytes.{up_to, taken_at, head_some, head_most, name_part, id_some, some_in, held_in, most_of, some_of, some_held}
use Rattle.piece_some.specs.declared.Got.{Got}

-- how many of an entry's first bytes
module _ (k count most : ℕ) where
  pub head_full : (eqb k 0 && leb most_records count) ≡ true → 0 ≡ head_most k count most
  head_full f = rw f

  pub head_more : (eqb k 0 && leb most_records count) ≡ false → (n : ℕ) → n ≡ min (7 - k) most → n ≡ head_most k count most
  head_more f n e = rw f e

  pub head-within : (n : ℕ) → n ≡ head_most k count most → (n ≤ most) × (n ≤ 7 - k)
  head-within n e = go (eqb k 0 && leb most_records count) e
    where
      go : (v : Bool) → n ≡ pick v 0 (min (7 - k) most) → (n ≤ most) × (n ≤ 7 - k)
      go true z = (omega (arith, z), omega (arith, z))
      go false z = (omega (arith, z), omega (arith, z))

pub taken-long : (n : ℕ) (bs : List ℕ) → n ≤ length bs → n ≡ length (take n bs)
taken-long n bs w = omega (arith, length-take n bs)

pub head-is : (head : List ℕ) (k : ℕ) (bs : List ℕ) (n most : ℕ) → n ≡ most → (after : List ℕ) → after ≡ sets head k (take n bs)
    → record { count = n; head = after; phase = Head (k + n) } ≡ head_some head k bs most
head-is head k bs n most e after h =
    ap (λ (x : List ℕ). record { count = n; head = x; phase = Head (k + n) }) h ∙ ap (head_some head k bs) e

-- a line has no more bytes more than there were
pub line-within : (held : List ℕ) (last : Last) (l : Line) (bs : List ℕ) (r : Line) → r ≡ name_some held last l bs
    → (l.size ≤ r.size) × (r.size - l.size ≤ length bs)
line-within held last l bs r e =
    let z = line-size held last l bs in
    let y : r.size ≡ (name_some held last l bs).size = ap (λ (x : Line). x.size) e in (omega (arith, z, y), omega (arith, z, y))

-- what is taken, and what is held afterwards
module _ (held : List ℕ) (m : Marks) (bs : List ℕ) where
  abbrev Ins : Phase → Got → List ℕ → Type 0
  Ins p g after = (g ≡ some_in held m bs p) × (after ≡ held_in held bs p)

  pub in_head : (k : ℕ) → m.phase ≡ Head k → (g : Got) → g ≡ head_some m.head k bs (head_most k m.count (length bs)) → Ins m.phase g held
  in_head k e g z = subst (λ (p : Phase). Ins p g held) (sym e) (z, refl)

  pub in_name : (l : Line) → m.phase ≡ Name l → (r : Line) (after : List ℕ)
      → (r ≡ name_some held m.last l bs) × (after ≡ sets held l.size (name_more l bs))
      → Ins m.phase (record { count = r.size - l.size; head = m.head; phase = Name r }) after
  in_name l e r after z = rw e (ap (name_part m.head l) z.0, z.1)

  pub in-id : (l : Line) (left : ℕ) → m.phase ≡ Id l left → (n : ℕ) → n ≡ min (left - 1) (length bs)
      → Ins m.phase (record { count = n; head = m.head; phase = Id l (left - n) }) held
  in-id l left e n z = rw e (ap (id_some m.head l left) z, refl)

  -- no more than there are
  count-within : (g : Got) → g ≡ some_in held m bs m.phase → g.count ≤ length bs
  count-within g e = go m.phase (ap (λ (x : Got). x.count) e)
    where
      go : (p : Phase) → g.count ≡ (some_in held m bs p).count → g.count ≤ length bs
      go (Head k) z = (head-within k m.count (length bs) g.count z).0
      go (Name l) z = omega (arith, z, (line-within held m.last l bs _ refl).1)
      go (Id l left) z = omega (arith, z)

pub count_most : (held : List ℕ) (m : Marks) (s : List ℕ) (i most : ℕ) → i + most ≤ length s → (g : Got)
    → g ≡ some_in held m (part i (i + most) s) m.phase → g.count ≤ most
count_most held m s i most w g e =
    omega (arith, count-within held m (part i (i + most) s) g e, length-take (i + most - i) (drop i s), length-drop i s)

-- with what is answered
pub at-is : (m : Marks) (i : ℕ) (g x : Got) → g ≡ x → (y : Marks) → y ≡ placed_at m (m.at + g.count) g.head g.phase
    → (after kept : List ℕ) → after ≡ kept → (record { marks = y; next = i + g.count } ≡ taken_at m i x) × (after ≡ kept)
at-is m i g x e y q after kept h = (ap (λ (z : Marks). record { marks = z; next = i + g.count }) q ∙ ap (taken_at m i) e, h)

module _ (held : List ℕ) (m : Marks) (s : List ℕ) (i : ℕ) where
  abbrev Some : Taken → List ℕ → Type 0
  Some t after = (t ≡ some_of held m s i) × (after ≡ some_held held m s i)

  pub some-rest : (m.verdict.number ≡ 0 → ⊥) → Some (up_to m (length s)) held
  unfolding some_of some_held
  some-rest n = (rw (ne_eqb m.verdict.number 0 n), rw (ne_eqb m.verdict.number 0 n))

  module _ (z : m.verdict.number ≡ 0) where
    some-over : most_bytes ≤ m.at → Some (up_to m i) held
    unfolding some_of some_held
    some-over w = (rw (eq-eqb m.verdict.number 0 z, le-leb most_bytes m.at w), rw (eq-eqb m.verdict.number 0 z, le-leb most_bytes m.at w))

    some_end : m.at < most_bytes → length s ≤ i → Some (up_to m i) held
    unfolding some_of some_held
    some_end a w = (
      rw (eq-eqb m.verdict.number 0 z, lt-leb most_bytes m.at a, le-leb (length s) i w),
      rw (eq-eqb m.verdict.number 0 z, lt-leb most_bytes m.at a, le-leb (length s) i w),
    )

    module _ (most : ℕ) (q : most ≡ most_of m s i) where
      pub some-none : most ≡ 0 → Some (up_to m i) held
      some-none e =
          elim (dec_lt m.at most_bytes) [
            | yes a ↦ some_end a (omega arith)
            | no a ↦ some-over (omega arith)
          ]

      pub some-some : (most ≡ 0 → ⊥) → (t : Taken) (after : List ℕ)
          → (t ≡ taken_at m i (some_in held m (part i (i + most) s) m.phase)) × (after ≡ held_in held (part i (i + most) s) m.phase) → Some t after
      unfolding some_of some_held
      some-some e t after d =
          let a : m.at < most_bytes = omega arith in
          let w : i < length s = omega arith in (
            rw (eq-eqb m.verdict.number 0 z, lt-leb most_bytes m.at a, lt-leb (length s) i w)
                (d.0 ∙ ap (λ (k : ℕ). taken_at m i (some_in held m (part i (i + k) s) m.phase)) q),
            rw (eq-eqb m.verdict.number 0 z, lt-leb most_bytes m.at a, lt-leb (length s) i w)
                (d.1 ∙ ap (λ (k : ℕ). held_in held (part i (i + k) s) m.phase) q),
          )
