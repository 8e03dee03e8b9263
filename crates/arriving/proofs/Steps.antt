-- Laws of the machine's step, one for each way through it, on states whose marks are written out. Assumes nothing.
use Prim.Native.Nat.{ℕ, zero, suc, ◌+◌, ◌-◌, ◌≤◌, ◌<◌}
use native.Mathlib.Omega.{arith}
use mathlib.Core.Path.{◌≡◌, refl, ap, sym, ◌∙◌}
use mathlib.Core.List.{List, [], ◌∷◌, ◌++◌}
use lib.ListN.{set}
use borrow.Author.Tests.{eq-eqb, ne_eqb, lt-ltb, le-leb, lt-leb}
use Rattle.ground.specs.Verdict.{verdict, fine, refused, most_bytes, most_records}
use Rattle.ground.specs.declared.Verdict.{Verdict}
use Rattle.mode.specs.Read.{read_mode}
use Rattle.arriving.specs.Feed.{most_held, together, refuse, longer, name_marks, name_held, judged, closed, closed_ends, id_marks, id_ends, body, begin, head_step, over_in, over, byte_step, feed_of, end_in, finish_of, end_of}
use Rattle.arriving.specs.declared.Last.{Last}
use Rattle.arriving.specs.declared.Line.{Line}
use Rattle.arriving.specs.declared.Phase.{Phase}
use Rattle.arriving.specs.declared.Phase.TheVariants.{Head, Name, Id}
use Rattle.arriving.specs.declared.Marks.{Marks}
use Rattle.arriving.specs.declared.Check.{Check}

-- ---- pieces

pub feed-none : (c : Check) → feed_of c [] ≡ c
unfolding feed_of
feed-none c = refl

pub feed-more : (c : Check) (b : ℕ) (bs : List ℕ) → feed_of c (b ∷ bs) ≡ feed_of (byte_step c b) bs
unfolding feed_of
feed-more c b bs = refl

-- Cutting elsewhere changes nothing, nor does an empty piece.
pub feed-cut : (c : Check) (p q : List ℕ) → feed_of (feed_of c p) q ≡ feed_of c (p ++ q)
unfolding feed_of
feed-cut c [] q = refl
feed-cut c (b ∷ p) q = feed-cut (byte_step c b) p q

-- After a refusal further pieces change nothing.
pub feed_stopped : (c : Check) (s : List ℕ) → (c.marks.verdict.number ≡ 0 → ⊥) → feed_of c s ≡ c
unfolding feed_of byte_step
feed_stopped c [] n = refl
feed_stopped c (b ∷ s) n = rw (ne_eqb c.marks.verdict.number 0 n) (feed_stopped c s n)

-- so the answer is the refusal
pub finish_stopped : (c : Check) (v : Verdict) (s : List ℕ) → c.marks.verdict ≡ v → (v.number ≡ 0 → ⊥) → end_of (feed_of c s) ≡ refused v
unfolding finish_of
finish_stopped c v s e n =
    let m : c.marks.verdict.number ≡ 0 → ⊥ = λ z. n (sym (ap (λ (w : Verdict). w.number) e) ∙ z) in
    rw (feed_stopped c s m, ne_eqb c.marks.verdict.number 0 m) (ap refused e)

-- ---- states with nothing refused

abbrev pub marks_of : ℕ → ℕ → ℕ → ℕ → ℕ → ℕ → Last → List ℕ → Phase → Marks
marks_of k ended h at first count last head p =
    record { verdict = fine; h = h; rules = k; at = at; first = first; count = count; last = last; ended = ended; head = head; phase = p }

abbrev pub st : ℕ → List ℕ → ℕ → List ℕ → ℕ → ℕ → ℕ → ℕ → Last → List ℕ → Phase → Check
st k ends ended held h at first count last head p = together held ends (marks_of k ended h at first count last head p)

module _ (k : ℕ) (ends : List ℕ) (ended h at first count : ℕ) (last : Last) (held head : List ℕ) where
  -- the end of the object
  pub finish_in : (p : Phase) → end_of (st k ends ended held h at first count last head p) ≡ end_in (marks_of k ended h at first count last head p) p
  unfolding finish_of
  finish_in p = refl

  -- a byte past the bound
  pub step-over : (p : Phase) (b : ℕ) → most_bytes ≤ at → byte_step (st k ends ended held h at first count last head p) b ≡ together held ends (over_in (marks_of k ended h at first count last head p) p)
  unfolding byte_step over
  step-over p b n = rw (le-leb most_bytes at n)

  module _ (b : ℕ) (n : at < most_bytes) where
    pub step_full : most_records ≤ count → byte_step (st k ends ended held h at first count last head (Head 0)) b ≡ together held ends (refuse (marks_of k ended h at first count last head (Head 0)) (verdict 2 0))
    unfolding byte_step head_step
    step_full f = rw (lt-leb most_bytes at n, le-leb most_records count f)

    -- one of the first seven bytes
    pub step-head : (i : ℕ) → i < 7 → (i ≡ 0 → count < most_records)
        → byte_step (st k ends ended held h at first count last head (Head i)) b ≡ st k ends ended held h (at + 1) first count last (set head i b) (Head (i + 1))
    unfolding byte_step head_step
    step-head zero l f = rw (lt-leb most_bytes at n, lt-leb most_records count (f refl))
    step-head (suc i) l f = rw (lt-leb most_bytes at n, ne_eqb (suc i) 0 (λ z. omega arith), lt-ltb (suc i) 7 l)

    -- the eighth
    pub step_eighth : byte_step (st k ends ended held h at first count last head (Head 7)) b ≡ begin (st k ends ended held h at first count last head (Head 7)) (set head 7 b) (read_mode (set head 7 b))
    unfolding byte_step head_step
    step_eighth = rw (lt-leb most_bytes at n)

    module _ (l : Line) where
      pub step-name-body : byte_step (st k ends ended held h at first count last head (Name l)) b ≡ body (st k ends ended held h at first count last head (Name l)) b
      unfolding byte_step
      step-name-body = rw (lt-leb most_bytes at n)

      pub step_nul : b ≡ 0 → byte_step (st k ends ended held h at first count last head (Name l)) b ≡ st k ends ended held h (at + 1) first count last head (Id l h)
      unfolding byte_step body name_marks name_held
      step_nul z = rw (lt-leb most_bytes at n, eq-eqb b 0 z)

      pub step-name : (b ≡ 0 → ⊥) → l.size < most_held
          → byte_step (st k ends ended held h at first count last head (Name l)) b ≡ st k ends ended (set held l.size b) h (at + 1) first count last head (Name (longer held last l b))
      unfolding byte_step body name_marks name_held
      step-name z i = rw (lt-leb most_bytes at n, ne_eqb b 0 z, lt-leb most_held l.size i)

      pub step-long : (b ≡ 0 → ⊥) → most_held ≤ l.size
          → byte_step (st k ends ended held h at first count last head (Name l)) b ≡ together held ends (refuse (marks_of k ended h at first count last head (Name l)) (verdict 16 first))
      unfolding byte_step body name_marks name_held
      step-long z i = rw (lt-leb most_bytes at n, ne_eqb b 0 z, le-leb most_held l.size i)

      module _ (left : ℕ) where
        pub step-id-body : byte_step (st k ends ended held h at first count last head (Id l left)) b ≡ body (st k ends ended held h at first count last head (Id l left)) b
        unfolding byte_step
        step-id-body = rw (lt-leb most_bytes at n)

        pub step-id : 1 < left → byte_step (st k ends ended held h at first count last head (Id l left)) b ≡ st k ends ended held h (at + 1) first count last head (Id l (left - 1))
        unfolding byte_step body id_marks id_ends
        step-id i = rw (lt-leb most_bytes at n, lt-leb left 1 i)

        pub step-last : left ≤ 1
            → byte_step (st k ends ended held h at first count last head (Id l left)) b ≡ together held (closed_ends ends (marks_of k ended h at first count last head (Id l left)) l (judged held last l))
            (closed ends (marks_of k ended h at first count last head (Id l left)) l (judged held last l))
        unfolding byte_step body id_marks id_ends
        step-last i = rw (lt-leb most_bytes at n, le-leb left 1 i)
