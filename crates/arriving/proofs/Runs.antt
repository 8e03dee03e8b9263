-- The machine over several bytes: the first eight, a name, an id. Each phase has a closed form. Assumes nothing.
use Prim.Native.Nat.{ℕ, zero, suc, ◌+◌, ◌-◌, ◌≤◌, ◌<◌}
use native.Mathlib.Numerals.{add-one}
use native.Mathlib.Nat.{add-zero, sub-zero}
use native.Mathlib.Decide.{dec_lt}
use native.Mathlib.Omega.{arith}
use mathlib.Core.Path.{◌≡◌, refl, ap, sym, ◌∙◌}
use mathlib.Core.Bool.{Bool}
use mathlib.Core.List.{List, [], ◌∷◌, ◌++◌, append_assoc, append-nil}
use mathlib.Core.Logic.{⊎_elim}
use lib.ListN.{length, get_or, set, take, drop, length-append, length-take, length-drop, take-append-drop, drop_of_length-le}
use lib.Seq.{get_or-set_other, sets, take-suc, drop-cons, get_or-take, drop-append-le}
use borrow.Author.Tests.{eq-eqb, ne_eqb}
use Rattle.ground.specs.Scan.{count_to, common_start}
use Rattle.ground.specs.Verdict.{verdict, most_bytes, most_records}
use Rattle.ground.proofs.Laws.{equal, sets_append, sets_front}
use Rattle.mode.specs.Read.{read_mode}
use Rattle.mode.specs.Mode.{is_tree}
use Rattle.mode.specs.declared.EntryMode.{EntryMode}
use Rattle.mode.proofs.Laws.{eight_decide, read_next}
use Rattle.rules.specs.Rules.{is_text, modes_of}
use Rattle.arriving.specs.Feed.{most_held, together, longer, meet, judged, closed, closed_ends, bodies, begin, byte_step, feed_of}
use Rattle.arriving.specs.declared.Stand.TheVariants.{Level}
use Rattle.arriving.specs.declared.Last.{Last}
use Rattle.arriving.specs.declared.Line.{Line}
use Rattle.arriving.specs.declared.Phase.TheVariants.{Head, Name, Id}
use Rattle.arriving.specs.declared.Check.{Check}
use Rattle.arriving.proofs.Level.{stand_of, stand_more, shared_more, common_none, meet-same}
use Rattle.arriving.proofs.Steps.{feed-none, feed-more, feed-cut, feed_stopped, marks_of, st, step-head, step_eighth, step-name-body, step_nul, step-name, step-long, step-id-body, step-id, step-last}
use Rattle.std.specs.Prelude.{Some}

-- ---- the first bytes

module _ (k : ℕ) (ends : List ℕ) (ended h first count : ℕ) (last : Last) (held : List ℕ) where
  pub heads-run : (q head : List ℕ) (at i : ℕ) → i + length q ≤ 7 → (i ≡ 0 → count < most_records) → at + length q ≤ most_bytes
      → feed_of (st k ends ended held h at first count last head (Head i)) q
      ≡ st k ends ended held h (at + length q) first count last (sets head i q) (Head (i + length q))
  heads-run [] head at i l f n = feed-none _ ∙ rw (add-zero at, add-zero i)
  heads-run (b ∷ q) head at i l f n =
      let w = heads-run q (set head i b) (at + 1) (i + 1) (omega arith) (λ z. absurd (omega arith)) (omega arith) in
      let x : at + 1 + length q ≡ at + suc (length q) = omega arith in
      let y : i + 1 + length q ≡ i + suc (length q) = omega arith in
      feed-more _ b q ∙ ap (λ (c : Check). feed_of c q) (step-head k ends ended h at first count last held head b (omega arith) i (omega arith) f) ∙ w ∙ rw (x, y, add-one i)

  -- all eight are there
  pub eighth_run : (xs head : List ℕ) (at : ℕ) → 8 ≤ length xs → length head ≡ 8 → count < most_records → at + 8 ≤ most_bytes
      → feed_of (st k ends ended held h at first count last head (Head 0)) xs
      ≡ feed_of (begin (st k ends ended held h (at + 7) first count last (sets head 0 (take 7 xs)) (Head 7)) (take 8 xs) (read_mode xs)) (drop 8 xs)
  eighth_run xs head at l e f n =
      let seven : length (take 7 xs) ≡ 7 = length-take 7 xs ∙ omega arith in
      let split : take 7 xs ++ drop 7 xs ≡ xs = take-append-drop 7 xs in
      let rest : drop 7 xs ≡ get_or xs 7 0 ∷ drop 8 xs = drop-cons xs 7 0 (omega arith) in
      let r : feed_of (st k ends ended held h at first count last head (Head 0)) (take 7 xs) ≡ st k ends ended held h (at + length (take 7 xs)) first count last (sets head 0 (take 7 xs)) (Head (0 + length (take 7 xs)))
      = heads-run (take 7 xs) head at 0 (omega arith) (λ z. f) (omega arith) in
      let u : 0 + length (take 7 xs) ≡ 7 = omega arith in
      let i : at + length (take 7 xs) ≡ at + 7 = omega arith in
      let r2 : feed_of (st k ends ended held h at first count last head (Head 0)) (take 7 xs) ≡ st k ends ended held h (at + 7) first count last (sets head 0 (take 7 xs)) (Head 7)
      = r ∙ rw (u, i) in
      let w : set (sets head 0 (take 7 xs)) 7 (get_or xs 7 0) ≡ take 8 xs = stores seven in
      ap (feed_of _) (sym split) ∙ sym (feed-cut _ (take 7 xs) (drop 7 xs)) ∙ ap (λ (c : Check). feed_of c (drop 7 xs)) r2 ∙ ap (feed_of _) rest
      ∙ feed-more _ (get_or xs 7 0) (drop 8 xs)
      ∙ ap (λ (c : Check). feed_of c (drop 8 xs))
      (step_eighth k ends ended h (at + 7) first count last held (sets head 0 (take 7 xs)) (get_or xs 7 0) (omega arith)
      ∙ ap (λ (p : List ℕ). begin (st k ends ended held h (at + 7) first count last (sets head 0 (take 7 xs)) (Head 7)) p (read_mode p)) w
      ∙ ap (begin (st k ends ended held h (at + 7) first count last (sets head 0 (take 7 xs)) (Head 7)) (take 8 xs)) (eight_decide xs))
    where
      stores : length (take 7 xs) ≡ 7 → set (sets head 0 (take 7 xs)) 7 (get_or xs 7 0) ≡ take 8 xs
      stores seven =
          let z : 0 + length (take 7 xs) ≡ 7 = omega arith in
          let a : sets head 0 (take 7 xs ++ (get_or xs 7 0 ∷ [])) ≡ set (sets head 0 (take 7 xs)) 7 (get_or xs 7 0)
          = sets_append head 0 (take 7 xs) (get_or xs 7 0 ∷ []) ∙ ap (λ (j : ℕ). set (sets head 0 (take 7 xs)) j (get_or xs 7 0)) z in
          let t : take 8 xs ≡ take 7 xs ++ (get_or xs 7 0 ∷ []) = take-suc xs 7 0 (omega arith) in
          let eight : length (take 8 xs) ≡ 8 = length-take 8 xs ∙ omega arith in
          sym a ∙ ap (sets head 0) (sym t) ∙ sets_front head (take 8 xs) (omega arith) ∙ rw (drop_of_length-le head {i = length (take 8 xs)} (omega arith)) (append-nil (take 8 xs))

-- ---- an id

module _ (k : ℕ) (ends : List ℕ) (ended h first count : ℕ) (last : Last) (held head : List ℕ) (l : Line) where
  pub ids_run : (q : List ℕ) (at left : ℕ) → length q < left → at + length q ≤ most_bytes
      → feed_of (st k ends ended held h at first count last head (Id l left)) q ≡ st k ends ended held h (at + length q) first count last head (Id l (left - length q))
  ids_run [] at left j n = feed-none _ ∙ rw (add-zero at, sub-zero left)
  ids_run (b ∷ q) at left j n =
      let i = ids_run q (at + 1) (left - 1) (omega arith) (omega arith) in
      let x : at + 1 + length q ≡ at + suc (length q) = omega arith in
      let y : left - 1 - length q ≡ left - suc (length q) = omega arith in
      feed-more _ b q ∙ ap (λ (c : Check). feed_of c q) (step-id k ends ended h at first count last held head b (omega arith) l left (omega arith)) ∙ i ∙ rw (x, y)

  -- to its last byte
  pub ids_whole : (q : List ℕ) (at j : ℕ) → suc j ≤ length q → at + suc j ≤ most_bytes
      → feed_of (st k ends ended held h at first count last head (Id l (suc j))) q
      ≡ feed_of (together held (closed_ends ends (marks_of k ended h (at + j) first count last head (Id l 1)) l (judged held last l))
      (closed ends (marks_of k ended h (at + j) first count last head (Id l 1)) l (judged held last l))) (drop (suc j) q)
  ids_whole [] at j w n = absurd (omega arith)
  ids_whole (b ∷ q) at zero w n =
      feed-more _ b q ∙ ap (λ (c : Check). feed_of c q) (step-last k ends ended h at first count last held head b (omega arith) l 1 (omega arith)) ∙ rw (add-zero at)
  ids_whole (b ∷ q) at (suc j) w n =
      let i = ids_whole q (at + 1) j (omega arith) (omega arith) in
      let x : at + 1 + j ≡ at + suc j = omega arith in
      let y : suc (suc j) - 1 ≡ suc j = omega arith in
      feed-more _ b q ∙ ap (λ (c : Check). feed_of c q) (step-id k ends ended h at first count last held head b (omega arith) l (suc (suc j)) (omega arith) ∙ rw y) ∙ i ∙ rw x

  -- the bytes behind the mode are fed as if they came alone
  pub ids_bodies : (q : List ℕ) (at left : ℕ) → length q < left → at + length q ≤ most_bytes
      → bodies (st k ends ended held h at first count last head (Id l left)) q ≡ feed_of (st k ends ended held h at first count last head (Id l left)) q
  unfolding bodies
  ids_bodies [] at left j n = sym (feed-none _)
  ids_bodies (b ∷ q) at left j n =
      let s = step-id k ends ended h at first count last held head b (omega arith) l left (omega arith) in
      let d = step-id-body k ends ended h at first count last held head b (omega arith) l left in
      ap (λ (c : Check). bodies c q) (sym d ∙ s) ∙ ids_bodies q (at + 1) (left - 1) (omega arith) (omega arith) ∙ ap (λ (c : Check). feed_of c q) (sym s) ∙ sym (feed-more _ b q)

-- ---- a name

module _ (k : ℕ) (ends : List ℕ) (ended h first count : ℕ) (last : Last) (head : List ℕ) where
  pub names-bodies : (q held : List ℕ) (at : ℕ) (l : Line) → l.size + length q ≤ most_held → length q < h → at + length q ≤ most_bytes
      → bodies (st k ends ended held h at first count last head (Name l)) q ≡ feed_of (st k ends ended held h at first count last head (Name l)) q
  unfolding bodies
  names-bodies [] held at l w j n = sym (feed-none _)
  names-bodies (b ∷ q) held at l w j n =
      let d = step-name-body k ends ended h at first count last held head b (omega arith) l in
      ⊎_elim
      (λ z.
      let s = step_nul k ends ended h at first count last held head b (omega arith) l z in
      ap (λ (c : Check). bodies c q) (sym d ∙ s) ∙ ids_bodies k ends ended h first count last held head l q (at + 1) h (omega arith) (omega arith) ∙ ap (λ (c : Check). feed_of c q) (sym s) ∙ sym (feed-more _ b q))
      (λ z.
      let s = step-name k ends ended h at first count last held head b (omega arith) l z (omega arith) in
      ap (λ (c : Check). bodies c q) (sym d ∙ s) ∙ names-bodies q (set held l.size b) (at + 1) (longer held last l b) (omega arith) (omega arith) (omega arith) ∙ ap (λ (c : Check). feed_of c q) (sym s) ∙ sym (feed-more _ b q))
      (equal b 0)

-- stores leave what stands behind them
stored-after : (q l : List ℕ) (i j : ℕ) → i + length q ≤ j → get_or (sets l i q) j 0 ≡ get_or l j 0
stored-after [] l i j k = refl
stored-after (y ∷ q) l i j k = stored-after q (set l i y) (suc i) j (omega arith) ∙ get_or-set_other l i j y 0 (λ z. omega arith)

pub stored_past : (l p : List ℕ) → get_or (sets l 0 p) (length p) 0 ≡ get_or l (length p) 0
stored_past l p = stored-after p l 0 (length p) (omega arith)

-- counting to a NUL
count_nul : (x : ℕ) (xs : List ℕ) → x ≡ 0 → count_to 0 (x ∷ xs) ≡ 0
count_nul x xs e = rw (eq-eqb x 0 e)

count-more : (x : ℕ) (xs : List ℕ) → (x ≡ 0 → ⊥) → count_to 0 (x ∷ xs) ≡ suc (count_to 0 xs)
count-more x xs e = rw (ne_eqb x 0 e)

module _ (k : ℕ) (ends : List ℕ) (ended h first count : ℕ) (last : Last) (head held : List ℕ) (written folder : Bool) (room : length held ≡ most_held) (fits : last.size ≤ most_held) where
  -- the line after the bytes p of the name, and the state then
  abbrev pub line_of : List ℕ → Line
  line_of p =
      record {
        written = written;
        folder = folder;
        size = length p;
        shared = common_start (take last.size held) p;
        stand = stand_of p (take last.size held) last.folder;
      }

  abbrev pub naming : List ℕ → ℕ → Check
  naming p at = st k ends ended (sets held 0 p) h at first count last head (Name (line_of p))

  -- one byte more
  longer-is : (p : List ℕ) (b : ℕ) → longer (sets held 0 p) last (line_of p) b ≡ line_of (p ++ (b ∷ []))
  longer-is p b =
      let a : List ℕ = take last.size held in
      let la : length a ≡ last.size = length-take last.size held ∙ omega arith in
      let n : length (p ++ (b ∷ [])) ≡ length p + 1 = length-append p (b ∷ []) in
      let x : get_or (sets held 0 p) (length p) 0 ≡ get_or held (length p) 0 = stored_past held p in
      let m : meet (stand_of p a last.folder) last (length p) (get_or (sets held 0 p) (length p) 0) b ≡ stand_of (p ++ (b ∷ [])) a last.folder
      = meet-same (stand_of p a last.folder) last (length p) _ (get_or a (length p) 0) b (λ g. x ∙ sym (get_or-take last.size held (length p) 0 g))
      ∙ ap (λ (i : ℕ). meet (stand_of p a last.folder) (record { size = i; folder = last.folder }) (length p) (get_or a (length p) 0) b) (sym la)
      ∙ sym (stand_more p a last.folder b) in
      rw (n, shared_more p a last.folder b, m)

  step_naming : (p : List ℕ) (at b : ℕ) → at < most_bytes → (b ≡ 0 → ⊥) → length p < most_held → byte_step (naming p at) b ≡ naming (p ++ (b ∷ [])) (at + 1)
  step_naming p at b n z g =
      let w : sets held 0 (p ++ (b ∷ [])) ≡ set (sets held 0 p) (length p) b
      = sets_append held 0 p (b ∷ []) ∙ ap (λ (j : ℕ). set (sets held 0 p) j b) (zero-add (length p)) in
      step-name k ends ended h at first count last (sets held 0 p) head b n (line_of p) z g ∙ ap (λ (x : Line). st k ends ended (set (sets held 0 p) (length p) b) h (at + 1) first count last head (Name x)) (longer-is p b)
      ∙ ap (λ (x : List ℕ). st k ends ended x h (at + 1) first count last head (Name (line_of (p ++ (b ∷ []))))) (sym w)
    where
      zero-add : (j : ℕ) → 0 + j ≡ j
      zero-add j = omega arith

  -- up to its NUL, or to the end where there is none
  pub names-run : (q p : List ℕ) (at : ℕ) → length p + count_to 0 q ≤ most_held → at + length q ≤ most_bytes
      → feed_of (naming p at) q ≡ feed_of (naming (p ++ take (count_to 0 q) q) (at + count_to 0 q)) (drop (count_to 0 q) q)
  names-run [] p at g n = rw (add-zero at, append-nil p)
  names-run (b ∷ q) p at g n =
      ⊎_elim
      (λ z. rw (count_nul b q z, add-zero at, append-nil p))
      (λ z.
      let c : ℕ = count_to 0 q in
      let u = count-more b q z in
      let l = length-append p (b ∷ []) in
      let i = names-run q (p ++ (b ∷ [])) (at + 1) (omega arith) (omega arith) in
      let x : at + 1 + c ≡ at + suc c = omega arith in
      let y : (p ++ (b ∷ [])) ++ take c q ≡ p ++ (b ∷ take c q) = append_assoc p (b ∷ []) (take c q) in
      rw u (feed-more _ b q ∙ ap (λ (c : Check). feed_of c q) (step_naming p at b (omega arith) z (omega arith)) ∙ i ∙ rw (x, y)))
      (equal b 0)

  -- more bytes than are held: 16
  pub names-long : (q p : List ℕ) (at : ℕ) → length p ≤ most_held → most_held < length p + count_to 0 q → at + length q ≤ most_bytes
      → (feed_of (naming p at) q).marks.verdict ≡ verdict 16 first
  names-long [] p at l g n = absurd (omega arith)
  names-long (b ∷ q) p at l g n =
      ⊎_elim
      (λ z. absurd (omega (arith, count_nul b q z)))
      (λ z.
      let u = count-more b q z in
      let a = length-append p (b ∷ []) in
      elim (dec_lt (length p) most_held) [
        | yes s ↦ ap (λ (c : Check). c.marks.verdict) (feed-more _ b q ∙ ap (λ (c : Check). feed_of c q) (step_naming p at b (omega arith) z s))
            ∙ names-long q (p ++ (b ∷ [])) (at + 1) (omega arith) (omega arith) (omega arith)
        | no s ↦ ap (λ (c : Check). c.marks.verdict) (feed-more _ b q ∙ ap (λ (c : Check). feed_of c q) (step-long k ends ended h at first count last (sets held 0 p) head b (omega arith) (line_of p) z (omega arith))
            ∙ feed_stopped _ q (λ y. omega arith))
      ])
      (equal b 0)

-- ---- the mode is read: the bytes behind it are a name's

module _ (k : ℕ) (ends : List ℕ) (ended h at count : ℕ) (last : Last) (held head xs : List ℕ) (room : length held ≡ most_held) (fits : last.size ≤ most_held) (m : EntryMode) (n : ℕ) where
  abbrev pub text_is : Bool
  text_is = is_text (modes_of k) (take (n - 1) (take 8 xs))

  pub mode-run : 8 ≤ length xs → length head ≡ 8 → count < most_records → at + length xs ≤ most_bytes → 8 < h → read_mode xs ≡ Some (m, n)
      → feed_of (st k ends ended held h at at count last head (Head 0)) xs
      ≡ feed_of (naming k ends ended h at count last (take 8 xs) held text_is (is_tree m.internal) room fits [] (at + n)) (drop n xs)
  unfolding begin stand_of
  mode-run l e f b g r =
      let eight : length (take 8 xs) ≡ 8 = length-take 8 xs ∙ omega arith in
      let i = read_next (take 8 xs) m.internal n (eight_decide xs ∙ r) in
      let q : List ℕ = drop n (take 8 xs) in
      let lq : length q ≡ length (take 8 xs) - n = length-drop n (take 8 xs) in
      let w : at + 7 - 7 + n ≡ at + n = omega arith in
      let d : q ++ drop 8 xs ≡ drop n xs = sym (drop-append-le n (take 8 xs) (drop 8 xs) (omega arith)) ∙ ap (drop n) (take-append-drop 8 xs) in
      eighth_run k ends ended h at count last held xs head at l e f (omega arith)
      ∙ ap (λ (c : Check). feed_of c (drop 8 xs))
      (ap (begin (st k ends ended held h (at + 7) at count last (sets head 0 (take 7 xs)) (Head 7)) (take 8 xs)) r
      ∙ ap (λ (j : ℕ). bodies (st k ends ended held h j at count last (take 8 xs) (Name (record { written = text_is; folder = is_tree m.internal; size = 0; shared = 0; stand = Level }))) q) w
      ∙ names-bodies k ends ended h at count last (take 8 xs) q held (at + n) _ (omega arith) (omega arith) (omega arith))
      ∙ feed-cut _ q (drop 8 xs) ∙ ap (feed_of _) d
      ∙ ap (λ (j : ℕ). feed_of (st k ends ended held h (at + n) at count last (take 8 xs) (Name (record { written = text_is; folder = is_tree m.internal; size = 0; shared = j; stand = Level }))) (drop n xs))
      (sym (common_none (take last.size held)))

-- an id of any length
pub ids_all : (k : ℕ) (ends : List ℕ) (ended h first count : ℕ) (last : Last) (held head : List ℕ) (l : Line) (q : List ℕ) (at left : ℕ) → 0 < left → left ≤ length q → at + left ≤ most_bytes
    → feed_of (st k ends ended held h at first count last head (Id l left)) q
    ≡ feed_of (together held (closed_ends ends (marks_of k ended h (at + (left - 1)) first count last head (Id l 1)) l (judged held last l))
    (closed ends (marks_of k ended h (at + (left - 1)) first count last head (Id l 1)) l (judged held last l))) (drop left q)
ids_all k ends ended h first count last held head l q at zero p w n = absurd (omega arith)
ids_all k ends ended h first count last held head l q at (suc j) p w n =
    let z : suc j - 1 ≡ j = omega arith in
    rw z (ids_whole k ends ended h first count last held head l q at j w n)
