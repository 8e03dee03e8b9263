-- Several bytes of a name or of an id taken at once. Assumes nothing.
use Prim.Native.Nat.{ℕ, zero, suc, ◌+◌, ◌-◌, ◌≤◌, ◌<◌}
use native.Mathlib.Nat.{add-zero, sub-zero}
use native.Mathlib.Omega.{arith}
use mathlib.Core.Path.{◌≡◌, refl, ap, sym, ◌∙◌}
use mathlib.Core.List.{List}
use lib.ListN.{length, get_or, set, drop}
use mathlib.Core.Bool.{Bool, false, ◌&&◌}
use lib.Dec.{eqb, leb}
use borrow.Author.Tests.{lt-ltb, eq-eqb, ne_eqb, lt-leb}
use Rattle.ground.specs.Verdict.{most_bytes, most_records}
use Rattle.arriving.specs.Feed.{most_held, together, placed_at, meet, sharing, line_at, longer, name_marks, name_held, id_marks, id_ends, body, head_step, byte_step, feed_of}
use Rattle.arriving.specs.Bulk.{Took}
use Rattle.arriving.specs.declared.Stand.{Stand}
use Rattle.arriving.specs.declared.Line.{Line}
use Rattle.arriving.specs.declared.Phase.{Phase}
use Rattle.arriving.specs.declared.Phase.TheVariants.{Head, Name, Id}
use Rattle.arriving.specs.declared.Marks.{Marks}
use Rattle.arriving.specs.declared.Check.{Check}
use Rattle.arriving.specs.declared.Taken.{Taken}
use Rattle.arriving.proofs.Steps.{feed_stopped}
use Rattle.arriving.proofs.Laws.{feed-turn}

-- the marks as they are
marks-is : (held ends : List ℕ) (m : Marks) (p : Phase) → m.phase ≡ p → together held ends m ≡ together held ends (placed_at m m.at m.head p)
marks-is held ends m p e = ap (λ (q : Phase). together held ends (placed_at m m.at m.head q)) e

module _ (m : Marks) (z : m.verdict.number ≡ 0) (ends : List ℕ) where
  step-id_at : (held : List ℕ) (a : ℕ) (l : Line) (left b : ℕ) → a < most_bytes → 1 < left
      → byte_step (together held ends (placed_at m a m.head (Id l left))) b ≡ together held ends (placed_at m (a + 1) m.head (Id l (left - 1)))
  unfolding byte_step body id_marks id_ends
  step-id_at held a l left b n k = rw (eq-eqb m.verdict.number 0 z, lt-leb most_bytes a n, lt-leb left 1 k)

  step-name_at : (held : List ℕ) (a : ℕ) (l : Line) (b : ℕ) → a < most_bytes → (b ≡ 0 → ⊥) → l.size < most_held
      → byte_step (together held ends (placed_at m a m.head (Name l))) b
      ≡ together (set held l.size b) ends (placed_at m (a + 1) m.head (Name (longer held m.last l b)))
  unfolding byte_step body name_marks name_held
  step-name_at held a l b n k s = rw (eq-eqb m.verdict.number 0 z, lt-leb most_bytes a n, ne_eqb b 0 k, lt-leb most_held l.size s)

  -- so many bytes of an id, its last one not among them
  ids_some : (held : List ℕ) (l : Line) (s : List ℕ) (n i a left : ℕ) → n < left → a + n ≤ most_bytes → i + n ≤ length s
      → feed_of (together held ends (placed_at m a m.head (Id l left))) (drop i s)
      ≡ feed_of (together held ends (placed_at m (a + n) m.head (Id l (left - n)))) (drop (i + n) s)
  ids_some held l s zero i a left k n w = rw (add-zero a, add-zero i, sub-zero left)
  ids_some held l s (suc n) i a left k b w =
      let x : a + 1 + n ≡ a + suc n = omega arith in
      let y : i + 1 + n ≡ i + suc n = omega arith in
      let v : left - 1 - n ≡ left - suc n = omega arith in
      feed-turn _ s i (omega arith) _ (sym (step-id_at held a l left (get_or s i 0) (omega arith) (omega arith)))
      ∙ ids_some held l s n (i + 1) (a + 1) (left - 1) (omega arith) (omega arith) (omega arith) ∙ rw (x, y, v)

  pub took_ids : (held : List ℕ) (l : Line) (left : ℕ) (s : List ℕ) (n i : ℕ) → m.phase ≡ Id l left → n ≤ left - 1 → n ≤ length s - i
      → n ≤ most_bytes - m.at → i ≤ length s → (t : Taken) → t ≡ record { marks = placed_at m (m.at + n) m.head (Id l (left - n)); next = i + n }
      → Took held ends m s i held ends t
  took_ids held l left s zero i e a b c w t q =
      rw q (record {
        same = ap (λ (x : Check). feed_of x (drop i s)) (marks-is held ends m (Id l left) e) ∙ rw (add-zero m.at, add-zero i, sub-zero left);
        from = omega arith;
        within = omega arith;
      })
  took_ids held l left s (suc n) i e a b c w t q =
      rw q (record {
        same = ap (λ (x : Check). feed_of x (drop i s)) (marks-is held ends m (Id l left) e)
            ∙ ids_some held l s (suc n) i m.at left (omega arith) (omega arith) (omega arith);
        from = omega arith;
        within = omega arith;
      })

  -- a turn of the loop over a name
  name-turn : (all : Check) (held : List ℕ) (a : ℕ) (l : Line) (size shared more : ℕ) (stand up : Stand) (s : List ℕ) (k b : ℕ) → a < most_bytes → k < length s
      → b ≡ get_or s k 0 → (b ≡ 0 → ⊥) → size < most_held → up ≡ meet stand m.last size (get_or held size 0) b → more ≡ sharing up (size + 1) shared
      → all ≡ feed_of (together held ends (placed_at m a m.head (Name (line_at l size shared stand)))) (drop k s)
      → all ≡ feed_of (together (set held size b) ends (placed_at m (a + 1) m.head (Name (line_at l (size + 1) more up)))) (drop (k + 1) s)
  name-turn all held a l size shared more stand up s k b n w e f g u v q =
      q ∙ feed-turn _ s k w (together (set held size b) ends (placed_at m (a + 1) m.head (Name (line_at l (size + 1) more up))))
      (sym (ap (byte_step (together held ends (placed_at m a m.head (Name (line_at l size shared stand))))) (sym e)
      ∙ step-name_at held a (line_at l size shared stand) b n f g
      ∙ ap (λ (y : Stand). together (set held size b) ends (placed_at m (a + 1) m.head (Name (line_at l (size + 1) (sharing y (size + 1) shared) y)))) (sym u)
      ∙ ap (λ (j : ℕ). together (set held size b) ends (placed_at m (a + 1) m.head (Name (line_at l (size + 1) j up)))) (sym v)))

-- nothing was taken, or nothing changes any more
pub took_none : (held ends : List ℕ) (m : Marks) (s : List ℕ) (i : ℕ) → i ≤ length s → Took held ends m s i held ends (record { marks = m; next = i })
took_none held ends m s i w = record { same = refl; from = omega arith; within = w }

pub took_rest : (held ends : List ℕ) (m : Marks) (s : List ℕ) (i : ℕ) → i ≤ length s → (m.verdict.number ≡ 0 → ⊥)
    → Took held ends m s i held ends (record { marks = m; next = length s })
took_rest held ends m s i w n =
    record {
      same = feed_stopped (together held ends m) (drop i s) n ∙ sym (feed_stopped (together held ends m) (drop (length s) s) n);
      from = w;
      within = omega arith;
    }

-- ---- the loop over a name

pub name-begin : (held ends : List ℕ) (m : Marks) (l : Line) (s : List ℕ) (i : ℕ) → m.phase ≡ Name l
    → feed_of (together held ends m) (drop i s)
    ≡ feed_of (together held ends (placed_at m (m.at + (i - i)) m.head (Name (line_at l l.size l.shared l.stand)))) (drop i s)
name-begin held ends m l s i e =
    let z : m.at ≡ m.at + (i - i) = omega arith in
    ap (λ (x : Check). feed_of x (drop i s))
    (marks-is held ends m (Name l) e ∙ ap (λ (a : ℕ). together held ends (placed_at m a m.head (Name (line_at l l.size l.shared l.stand)))) z)

pub name-again : (m : Marks) → m.verdict.number ≡ 0 → (ends : List ℕ) (all : Check) (held : List ℕ) (l : Line) (size shared more : ℕ) (stand up : Stand)
    (s : List ℕ) (i k end : ℕ) (b : ℕ) → i ≤ k → k < end → end ≤ length s → m.at + (end - i) ≤ most_bytes → b ≡ get_or s k 0 → (b ≡ 0 → ⊥) → size < most_held
    → up ≡ meet stand m.last size (get_or held size 0) b → more ≡ sharing up (size + 1) shared
    → all ≡ feed_of (together held ends (placed_at m (m.at + (k - i)) m.head (Name (line_at l size shared stand)))) (drop k s)
    → all ≡ feed_of (together (set held size b) ends (placed_at m (m.at + (k + 1 - i)) m.head (Name (line_at l (size + 1) more up)))) (drop (k + 1) s)
name-again m z ends all held l size shared more stand up s i k end b p q r n e f g u x w =
    let v : m.at + (k - i) + 1 ≡ m.at + (k + 1 - i) = omega arith in
    name-turn m z ends all held (m.at + (k - i)) l size shared more stand up s k b (omega arith) (omega arith) e f g u x w
    ∙ ap (λ (a : ℕ). feed_of (together (set held size b) ends (placed_at m a m.head (Name (line_at l (size + 1) more up)))) (drop (k + 1) s)) v

pub took_name : (before ends : List ℕ) (m : Marks) (s : List ℕ) (i : ℕ) (held : List ℕ) (x : Marks) (k : ℕ) → i ≤ k → k ≤ length s
    → feed_of (together before ends m) (drop i s) ≡ feed_of (together held ends x) (drop k s) → (t : Taken) → t ≡ record { marks = x; next = k }
    → Took before ends m s i held ends t
took_name before ends m s i held x k p q e t r = rw r (record { same = e; from = p; within = q })

-- ---- the loop over the first bytes

-- an entry that begins is not one too many, and past its first byte it has begun
pub later-fine : (k count : ℕ) → (eqb k 0 && leb most_records count) ≡ false → (eqb (k + 1) 0 && leb most_records count) ≡ false
later-fine k count e = ap (λ (v : Bool). v && leb most_records count) (ne_eqb (k + 1) 0 (λ z. omega arith))

pub head-begin : (held ends : List ℕ) (m : Marks) (k : ℕ) (s : List ℕ) (i : ℕ) → m.phase ≡ Head k
    → feed_of (together held ends m) (drop i s) ≡ feed_of (together held ends (placed_at m (m.at + (i - i)) m.head (Head k))) (drop i s)
head-begin held ends m k s i e =
    let z : m.at ≡ m.at + (i - i) = omega arith in
    ap (λ (x : Check). feed_of x (drop i s))
    (marks-is held ends m (Head k) e ∙ ap (λ (a : ℕ). together held ends (placed_at m a m.head (Head k))) z)

step-head_at : (m : Marks) (held ends : List ℕ) (a : ℕ) (head : List ℕ) (k b : ℕ) → m.verdict.number ≡ 0 → a < most_bytes
    → (eqb k 0 && leb most_records m.count) ≡ false → k < 7
    → byte_step (together held ends (placed_at m a head (Head k))) b ≡ together held ends (placed_at m (a + 1) (set head k b) (Head (k + 1)))
unfolding byte_step head_step
step-head_at m held ends a head k b z n f l = rw (eq-eqb m.verdict.number 0 z, lt-leb most_bytes a n, f, lt-ltb k 7 l)

-- whatever name is held, and whatever names are open
pub head-turn : (m : Marks) → m.verdict.number ≡ 0 → (all : List ℕ → List ℕ → Check) (head : List ℕ) (s : List ℕ) (i j end n : ℕ) → i ≤ j → j < end
    → end ≤ length s → m.at + (end - i) ≤ most_bytes → (eqb n 0 && leb most_records m.count) ≡ false → n < 7
    → ((held ends : List ℕ) → all held ends ≡ feed_of (together held ends (placed_at m (m.at + (j - i)) head (Head n))) (drop j s))
    → (held ends : List ℕ)
    → all held ends ≡ feed_of (together held ends (placed_at m (m.at + (j + 1 - i)) (set head n (get_or s j 0)) (Head (n + 1)))) (drop (j + 1) s)
head-turn m z all head s i j end n p q r w f l e held ends =
    let v : m.at + (j - i) + 1 ≡ m.at + (j + 1 - i) = omega arith in
    e held ends ∙ feed-turn _ s j (omega arith) _ (sym (step-head_at m held ends (m.at + (j - i)) head n (get_or s j 0) z (omega arith) f l))
    ∙ ap (λ (a : ℕ). feed_of (together held ends (placed_at m a (set head n (get_or s j 0)) (Head (n + 1)))) (drop (j + 1) s)) v
