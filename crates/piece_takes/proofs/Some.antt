-- Bytes of a piece that need no step of their own, taken at once. Assumes nothing.
use Prim.Native.Nat.{ℕ, zero, suc, ◌+◌, ◌-◌, ◌≤◌, ◌<◌, min}
use native.Mathlib.Nat.{add-zero}
use native.Mathlib.Numerals.{add-one}
use native.Mathlib.Decide.{dec_lt}
use native.Mathlib.Omega.{arith}
use mathlib.Core.Path.{◌≡◌, refl, ap, sym, ◌∙◌}
use mathlib.Core.Bool.{Bool, true, false, ◌&&◌}
use mathlib.Core.List.{List}
use lib.Dec.{eqb, leb}
use lib.ListN.{length, get_or, set, take, drop, length-take, length-drop}
use lib.Seq.{sets, drop-cons, take-take}
use borrow.Author.Tests.{eqb-true, eqb-false, leb-false}
use Rattle.ground.specs.Basics.{pick, part}
use Rattle.ground.specs.Verdict.{most_bytes, most_records}
use Rattle.arriving.specs.Feed.{most_held, together, placed_at, byte_step, feed_of}
use Rattle.arriving.specs.Bulk.{Took}
use Rattle.arriving.specs.declared.Phase.{Phase}
use Rattle.arriving.specs.declared.Phase.TheVariants.{Head, Name, Id}
use Rattle.arriving.specs.declared.Marks.{Marks}
use Rattle.arriving.specs.declared.Check.{Check}
use Rattle.arriving.specs.declared.Taken.{Taken}
use Rattle.arriving.proofs.Laws.{feed-turn, feed_end}
use Rattle.arriving.proofs.Bulk.{took_none, took_rest, took_ids, head-begin, head-turn, later-fine}
use Rattle.piece_some.specs.Bytes.{up_to, taken_at, head_some, some_in, held_in, most_of, bytes_of, some_of, some_held}
use Rattle.piece_takes.proofs.Stands.{names_took}

-- ---- an entry's first bytes

module _ (m : Marks) (z : m.verdict.number ≡ 0) (s : List ℕ) (i end : ℕ) (r : end ≤ length s) (w : m.at + (end - i) ≤ most_bytes) where
  abbrev fed : List ℕ → List ℕ → List ℕ → ℕ → ℕ → Check
  fed held ends head j k = feed_of (together held ends (placed_at m (m.at + (j - i)) head (Head k))) (drop j s)

  fed-same : (held ends : List ℕ) {head head' : List ℕ} {j j' k k' : ℕ} → head ≡ head' → j ≡ j' → k ≡ k' → fed held ends head j k ≡ fed held ends head' j' k'
  fed-same held ends p q f = rw (p, q, f)

  stored : (n j k : ℕ) (head : List ℕ) → j < length s → sets (set head k (get_or s j 0)) (k + 1) (take n (drop (j + 1) s)) ≡ sets head k (take (suc n) (drop j s))
  stored n j k head h = rw (add-one k, add-one j, drop-cons s j 0 h)

  heads-more : (all : List ℕ → List ℕ → Check) (n j k : ℕ) (head : List ℕ) → i ≤ j → j + n ≤ end → k + n ≤ 7
      → (eqb k 0 && leb most_records m.count) ≡ false → ((held ends : List ℕ) → all held ends ≡ fed held ends head j k)
      → (held ends : List ℕ) → all held ends ≡ fed held ends (sets head k (take n (drop j s))) (j + n) (k + n)
  heads-more all zero j k head p q l f e held ends = rw (add-zero j, add-zero k) (e held ends)
  heads-more all (suc n) j k head p q l f e held ends =
      heads-more all n (j + 1) (k + 1) (set head k (get_or s j 0)) (omega arith) (omega arith) (omega arith) (later-fine k m.count f)
      (head-turn m z all head s i j end k p (omega arith) r w f (omega arith) e) held ends
      ∙ fed-same held ends (stored n j k head (omega arith)) (omega arith) (omega arith)

module _ (held ends : List ℕ) (m : Marks) (k : ℕ) (s : List ℕ) (i most n : ℕ) (p : m.phase ≡ Head k) (w : i + most ≤ length s) where
  heads-none : n ≡ 0 → Took held ends m s i held ends (taken_at m i (head_some m.head k (part i (i + most) s) n))
  heads-none e =
      let at : ℕ → ℕ → Phase → Taken = λ a j q. record { marks = placed_at m a m.head q; next = j } in
      let y : taken_at m i (head_some m.head k (part i (i + most) s) 0) ≡ up_to m i
      = ap (λ (a : ℕ). at a (i + 0) (Head (k + 0))) (add-zero m.at)
      ∙ ap (λ (j : ℕ). at m.at j (Head (k + 0))) (add-zero i)
      ∙ ap (λ (j : ℕ). at m.at i (Head j)) (add-zero k)
      ∙ ap (at m.at i) (sym p) in
      rw (e, y) (took_none held ends m s i (omega arith))

  heads_took : m.verdict.number ≡ 0 → m.at + most ≤ most_bytes → n ≤ most → k + n ≤ 7 → (eqb k 0 && leb most_records m.count) ≡ false
      → Took held ends m s i held ends (taken_at m i (head_some m.head k (part i (i + most) s) n))
  heads_took z a h l f =
      let x : i + n - i ≡ n = omega arith in
      record {
        same =
            heads-more m z s i (i + n) (omega arith) (omega arith) (λ (held ends : List ℕ). feed_of (together held ends m) (drop i s)) n i k m.head
            (omega arith) (omega arith) l f (λ held ends. head-begin held ends m k s i p) held ends
            ∙ ap (λ (j : ℕ). feed_of (together held ends (placed_at m (m.at + j) (sets m.head k (take n (drop i s))) (Head (k + n)))) (drop (i + n) s)) x
            ∙ ap (λ (bs : List ℕ). feed_of (together held ends (placed_at m (m.at + n) (sets m.head k bs) (Head (k + n)))) (drop (i + n) s))
            (sym (take-take n (i + most - i) (drop i s) (omega arith)));
        from = omega arith;
        within = omega arith;
      }

-- ---- in any phase

module _ (held ends : List ℕ) (m : Marks) (s : List ℕ) (i : ℕ) (room : length held ≡ most_held) where
  module _ (z : m.verdict.number ≡ 0) (a : m.at < most_bytes) (w : i < length s) where
    long : length (bytes_of m s i) ≡ most_of m s i
    long = length-take (i + most_of m s i - i) (drop i s) ∙ omega (arith, length-drop i s)

    in_took : (p : Phase) → m.phase ≡ p → Took held ends m s i (held_in held (bytes_of m s i) p) ends (taken_at m i (some_in held m (bytes_of m s i) p))
    in_took (Head k) e = full (eqb k 0 && leb most_records m.count) refl
      where
        full : (v : Bool) → (eqb k 0 && leb most_records m.count) ≡ v
            → Took held ends m s i held ends (taken_at m i (head_some m.head k (bytes_of m s i) (pick v 0 (min (7 - k) (length (bytes_of m s i))))))
        full true y = heads-none held ends m k s i (most_of m s i) 0 e (omega arith) refl
        full false y =
            elim (dec_lt k 7) [
              | yes h ↦ heads_took held ends m k s i (most_of m s i) (min (7 - k) (length (bytes_of m s i))) e (omega arith) z (omega arith)
                  (omega (arith, long)) (omega arith) y
              | no h ↦ heads-none held ends m k s i (most_of m s i) (min (7 - k) (length (bytes_of m s i))) e (omega arith) (omega arith)
            ]
    in_took (Name l) e = names_took held ends m l s i (most_of m s i) z e (omega arith) (omega arith) room
    in_took (Id l left) e =
        took_ids m z ends held l left s (min (left - 1) (length (bytes_of m s i))) i e (omega arith) (omega (arith, long)) (omega (arith, long)) (omega arith) _
        refl

  abbrev inside· : Taken
  inside· = pick (leb (length s) i) (up_to m i) (taken_at m i (some_in held m (bytes_of m s i) m.phase))

  abbrev kept· : List ℕ
  kept· = pick (leb (length s) i) held (held_in held (bytes_of m s i) m.phase)

  third : i ≤ length s → m.verdict.number ≡ 0 → m.at < most_bytes → (v : Bool) → leb (length s) i ≡ v
      → Took held ends m s i (pick v held (held_in held (bytes_of m s i) m.phase)) ends
      (pick v (up_to m i) (taken_at m i (some_in held m (bytes_of m s i) m.phase)))
  third w z a true y = took_none held ends m s i w
  third w z a false y = in_took z a (leb-false (length s) i y) m.phase refl

  second : i ≤ length s → m.verdict.number ≡ 0 → (v : Bool) → leb most_bytes m.at ≡ v
      → Took held ends m s i (pick v held kept·) ends (pick v (up_to m i) inside·)
  second w z true y = took_none held ends m s i w
  second w z false y = third w z (leb-false most_bytes m.at y) (leb (length s) i) refl

  first : i ≤ length s → (v : Bool) → eqb m.verdict.number 0 ≡ v
      → Took held ends m s i (pick v (pick (leb most_bytes m.at) held kept·) held) ends
      (pick v (pick (leb most_bytes m.at) (up_to m i) inside·) (up_to m (length s)))
  first w true y = second w (eqb-true m.verdict.number 0 y) (leb most_bytes m.at) refl
  first w false y = took_rest held ends m s i w (eqb-false m.verdict.number 0 y)

  some_took : i ≤ length s → (after : List ℕ) (t : Taken) → (t ≡ some_of held m s i) × (after ≡ some_held held m s i) → Took held ends m s i after ends t
  unfolding some_of some_held
  some_took w after t d = rw (d.0, d.1) (first w (eqb m.verdict.number 0) refl)

-- ---- one turn over a piece: whole entries, then bytes that need no step of their own, then one that does

module _ (held ends : List ℕ) (m : Marks) (s : List ℕ) (i : ℕ) (middle left : List ℕ) (w : Taken)
    (p : Took held ends m s i middle left w × (length middle ≡ most_held)) (after : List ℕ) (t : Taken)
    (q : (t ≡ some_of middle w.marks s w.next) × (after ≡ some_held middle w.marks s w.next)) where
  some_bytes : Took middle left w.marks s w.next after left t
  some_bytes = some_took middle left w.marks s w.next p.1 p.0.within after t q

  pub turn-from : i ≤ t.next
  turn-from = omega (arith, p.0.from, some_bytes.from)

  pub turn_end : length s ≤ t.next → feed_of (together held ends m) (drop i s) ≡ together after left t.marks
  turn_end l = p.0.same ∙ some_bytes.same ∙ feed_end (together after left t.marks) s t.next l

  pub turn_step : t.next < length s → (last open· : List ℕ) (x : Marks)
      → together last open· x ≡ byte_step (together after left t.marks) (get_or s t.next 0)
      → feed_of (together held ends m) (drop i s) ≡ feed_of (together last open· x) (drop (t.next + 1) s)
  turn_step l last open· x e =
      p.0.same ∙ some_bytes.same ∙ feed-turn (together after left t.marks) s t.next l (together last open· x) e
