-- Fed in pieces, the check answers what it answers of the whole object. Assumes nothing.
use Prim.Native.Nat.{ℕ, zero, suc, ◌+◌, ◌-◌, ◌%◌, ◌≤◌, ◌<◌, min}
use native.Mathlib.Nat.{add-zero}
use native.Mathlib.Decide.{dec_lt}
use native.Mathlib.Omega.{arith}
use mathlib.Core.Path.{◌≡◌, refl, ap, sym, ◌∙◌}
use mathlib.Core.Bool.{Bool, true, false, ◌||◌}
use mathlib.Core.List.{List, [], ◌∷◌, ◌++◌, append-nil}
use lib.Dec.{eqb, ltb}
use lib.ListN.{length, get_or, set, take, drop, replicate, length-take, length-drop, length-set, take-append-drop, drop_of_length-le}
use lib.Seq.{sets, length-sets, drop-cons, drop-drop, take-take, take_all, take-append_seam}
use borrow.Author.Tests.{eq-eqb, ne_eqb, lt-ltb, le-ltb, le-leb, lt-leb, ltb-true, ltb-false}
use Rattle.ground.specs.Basics.{pick}
use Rattle.ground.specs.Scan.{count_to, common_start}
use Rattle.ground.specs.Verdict.{verdict, broken, fine, refused, most_bytes, most_records, id_length, size_gate, is_set}
use Rattle.ground.specs.declared.Verdict.{Verdict}
use Rattle.ground.specs.declared.Answer.{Answer}
use Rattle.ground.proofs.Laws.{sets_front, count-le, count-is, free-count, id-is, id_small}
use Rattle.mode.specs.Read.{read_mode}
use Rattle.mode.specs.Mode.{is_tree}
use Rattle.mode.specs.declared.EntryMode.{EntryMode}
use Rattle.mode.proofs.Laws.{eight_decide, read_next}
use Rattle.entry.specs.Record.{name_of}
use Rattle.entry.specs.Entry.{Entry, entry_of}
use Rattle.entry.specs.Decode.{record_at, short_part}
use Rattle.entry.specs.declared.EntryRecord.{EntryRecord}
use Rattle.reading.specs.Listing.{Listing, stop, entry, follow, tally}
use Rattle.rules.specs.Rules.{or_else, is_text, modes_of, judge, git_rules}
use Rattle.rules.specs.Gate.{rule_gate}
use Rattle.strict.specs.Strict.{text_of, cut}
use Rattle.strict.proofs.Laws.{cut-bad, cut-fine, strict-refuses}
use Rattle.doubles.specs.Doubles.{named_before}
use Rattle.doubles.specs.Stack.{marks_at}
use Rattle.doubles.proofs.Theorem.{Ascends}
use Rattle.doubles.proofs.Placing.{Tracks, tracks-none}
use Rattle.arriving.specs.Feed.{most_held, most_ends, together, refuse, judged, ends_next, placing, placed, closed, closed_ends, begin, over_mode, over_in, feed_of, fresh, start_of, gate_verdict, head_part, end_in, end_of}
use Rattle.checking.specs.Whole.{short_at, end_at, held_name, held_mode, arriving, told, check_in, or_shut, check_of}
use Rattle.arriving.specs.declared.Last.{Last}
use Rattle.arriving.specs.declared.Line.{Line}
use Rattle.arriving.specs.declared.Phase.{Phase}
use Rattle.arriving.specs.declared.Phase.TheVariants.{Head, Name, Id}
use Rattle.arriving.specs.declared.Marks.{Marks}
use Rattle.arriving.specs.declared.Check.{Check}
use Rattle.arriving.proofs.Steps.{feed-none, feed-more, feed-cut, feed_stopped, finish_stopped, marks_of, st, finish_in, step-over, step_full, step_nul}
use Rattle.arriving.proofs.Runs.{heads-run, eighth_run, ids_run, ids_all, names-run, names-long, line_of, naming, mode-run}
use Rattle.arriving.proofs.Judged.{Holds, holds_fits, name-held, judged-is, name-some, goes_up, Stands, stands}
use Rattle.doubles.specs.declared.Misplaced.{Misplaced}
use Rattle.doubles.specs.declared.Misplaced.TheVariants.{Double}
use Rattle.std.specs.Prelude.{Err, None, Ok, Option, Result, Some, ⊤}

-- ---- where the bytes end: the object ends there, or goes on past the bound

abbrev pub Tail : Bool → ℕ → List ℕ → Type 0
Tail false at tail = tail ≡ []
Tail true at tail = (at ≡ most_bytes) × (0 < length tail)

over-refuses : (m : Marks) (p : Phase) → (over_in m p).verdict.number ≡ 0 → ⊥
over-refuses m (Head k) z = go (eqb k 0) (read_mode (take k m.head)) z
  where
    go : (v : Bool) (r : Option (EntryMode × ℕ)) → (pick v (refuse m (verdict 2 0)) (over_mode m r)).verdict.number ≡ 0 → ⊥
    go true r z = omega arith
    go false (Some (k, n)) z = omega arith
    go false None z = omega arith
over-refuses m (Name l) z = omega arith
over-refuses m (Id l left) z = omega arith

module _ (rs : ℕ) (ends : List ℕ) (ended h at first count : ℕ) (last : Last) (held head : List ℕ) where
  ending : (more : Bool) (tail : List ℕ) (p : Phase) → Tail more at tail
      → end_of (feed_of (st rs ends ended held h at first count last head p) tail)
      ≡ pick more (refused (over_in (marks_of rs ended h at first count last head p) p).verdict) (end_in (marks_of rs ended h at first count last head p) p)
  ending false tail p t = rw t (ap end_of (feed-none _) ∙ finish_in rs ends ended h at first count last held head p)
  ending true [] p t = absurd (omega arith)
  ending true (b ∷ bs) p t =
      ap end_of (feed-more _ b bs ∙ ap (λ (c : Check). feed_of c bs) (step-over rs ends ended h at first count last held head p b (omega arith)))
      ∙ finish_stopped (together held ends (over_in (marks_of rs ended h at first count last head p) p)) _ bs refl (over-refuses (marks_of rs ended h at first count last head p) p)

  -- inside a name, inside an id, between two entries, inside the first bytes
  ending-name : (more : Bool) (tail : List ℕ) (l : Line) → Tail more at tail → end_of (feed_of (st rs ends ended held h at first count last head (Name l)) tail) ≡ refused (short_at more first 2)
  ending-name false tail l t = ending false tail (Name l) t
  ending-name true tail l t = ending true tail (Name l) t

  ending-id : (more : Bool) (tail : List ℕ) (l : Line) (left : ℕ) → Tail more at tail → end_of (feed_of (st rs ends ended held h at first count last head (Id l left)) tail) ≡ refused (short_at more first 3)
  ending-id false tail l left t = ending false tail (Id l left) t
  ending-id true tail l left t = ending true tail (Id l left) t

  ending-between : (more : Bool) (tail : List ℕ) → Tail more at tail → end_of (feed_of (st rs ends ended held h at first count last head (Head 0)) tail) ≡ told (tally count (end_at more))
  unfolding tally
  ending-between false tail t = ending false tail (Head 0) t
  ending-between true tail t = ending true tail (Head 0) t

  -- what the first bytes, fewer than eight, give
  abbrev head_says : Bool → List ℕ → Option (EntryMode × ℕ) → Verdict
  head_says more b (Some (m, n)) = short_at more first (head_part b (Some (m, n)))
  head_says more b None = broken first 1

  ending-head : (more : Bool) (tail : List ℕ) (i : ℕ) (r : Option (EntryMode × ℕ)) → read_mode (take (suc i) head) ≡ r → Tail more at tail
      → end_of (feed_of (st rs ends ended held h at first count last head (Head (suc i))) tail) ≡ refused (head_says more (take (suc i) head) r)
  ending-head false tail i (Some (m, n)) q t = ending false tail (Head (suc i)) t ∙ ap (λ (r : Option (EntryMode × ℕ)). refused (broken first (head_part (take (suc i) head) r))) q
  ending-head false tail i None q t = ending false tail (Head (suc i)) t ∙ ap (λ (r : Option (EntryMode × ℕ)). refused (broken first (head_part (take (suc i) head) r))) q
  ending-head true tail i (Some (m, n)) q t = ending true tail (Head (suc i)) t ∙ rw (ne_eqb (suc i) 0 (λ z. omega arith), q)
  ending-head true tail i None q t = ending true tail (Head (suc i)) t ∙ rw (ne_eqb (suc i) 0 (λ z. omega arith), q)

-- the part that is missing where a name has not ended, and where it has
short-name : (i : ℕ) → i ≡ 0 → short_part i ≡ 2
unfolding short_part
short-name i z = rw (eq-eqb i 0 z)

short-id : (i : ℕ) → (i ≡ 0 → ⊥) → short_part i ≡ 3
unfolding short_part
short-id i z = rw (ne_eqb i 0 z)

-- ---- what is said of the whole, one law for each way

pub arriving-none : (more : Bool) (h cap at : ℕ) → arriving more h cap at [] ≡ end_at more
unfolding arriving
arriving-none more h zero at = refl
arriving-none more h (suc cap) at = refl

pub arriving_full : (more : Bool) (h at : ℕ) (xs : List ℕ) → 0 < length xs → arriving more h 0 at xs ≡ stop (verdict 2 0)
unfolding arriving
arriving_full more h at [] p = absurd (omega arith)
arriving_full more h at (x ∷ xs) p = refl

arriving-more : (more : Bool) (h cap at : ℕ) (xs : List ℕ) → 0 < length xs → arriving more h (suc cap) at xs ≡ follow (arriving more h cap) at xs (held_mode more h at xs (read_mode xs))
unfolding arriving
arriving-more more h cap at [] p = absurd (omega arith)
arriving-more more h cap at (x ∷ xs) p = refl

module _ (more : Bool) (h cap at : ℕ) (xs : List ℕ) where
  module _ (some : 0 < length xs) where
    arriving-some : arriving more h (suc cap) at xs ≡ follow (arriving more h cap) at xs (held_mode more h at xs (read_mode xs))
    arriving-some = arriving-more more h cap at xs some

    pub arriving-bad : read_mode xs ≡ None → arriving more h (suc cap) at xs ≡ stop (broken at 1)
    unfolding follow held_mode
    arriving-bad r = arriving-some ∙ rw r

    module _ (m : EntryMode) (n : ℕ) (r : read_mode xs ≡ Some (m, n)) where
      abbrev pub t· : ℕ
      t· = count_to 0 (drop n xs)

      pub arriving-long : most_held < t· → arriving more h (suc cap) at xs ≡ stop (verdict 16 at)
      unfolding follow held_mode held_name
      arriving-long l = arriving-some ∙ rw (r, lt-ltb most_held t· l)

      module _ (s : t· ≤ most_held) where
        pub arriving-short : length (drop n xs) < t· + 1 + h → arriving more h (suc cap) at xs ≡ stop (short_at more at (short_part (length (drop n xs) - t·)))
        unfolding follow held_mode held_name
        arriving-short l = arriving-some ∙ rw (r, le-ltb most_held t· s, lt-leb (t· + 1 + h) (length (drop n xs)) l)

        pub arriving-whole : t· + 1 + h ≤ length (drop n xs)
            → arriving more h (suc cap) at xs ≡ entry at (record_at at m.internal n t·) (arriving more h cap (at + n + (t· + 1 + h)) (drop (n + (t· + 1 + h)) xs))
        unfolding follow held_mode held_name
        arriving-whole l =
            let z : at + n + (t· + 1 + h) - at ≡ n + (t· + 1 + h) = omega arith in
            arriving-some ∙ rw (r, le-ltb most_held t· s, le-leb (t· + 1 + h) (length (drop n xs)) l, z)

-- the open names are kept in as many places
at_length : (a : List ℕ) (n p len : ℕ) (was : Bool) → length (marks_at a n p len was) ≡ length a
unfolding marks_at
at_length a n p len was = go (was || ltb p len)
  where
    go : (v : Bool) → length (pick v a (set a n (len % 4294967296))) ≡ length a
    go true = refl
    go false = length-set a n (len % 4294967296)

-- ---- entry after entry

module _ (more : Bool) (rs h : ℕ) (big : 20 ≤ h) (s tail : List ℕ) where
  -- what the whole gives from a place on, after so many entries
  abbrev says : ℕ → List Entry → Listing → Answer
  says count seen l = told (tally count (cut (git_rules rs) h s seen l))

  says-stop : (count : ℕ) (seen : List Entry) (l : Listing) (v : Verdict) → l ≡ stop v → says count seen l ≡ refused v
  unfolding cut tally
  says-stop count seen l v e = rw e

  says_end : (count : ℕ) (seen : List Entry) (m : Bool) → told (tally count (end_at m)) ≡ says count seen (end_at m)
  unfolding cut
  says_end count seen true = refl
  says_end count seen false = refl

  -- the machine from there on
  abbrev fed : List ℕ → ℕ → List ℕ → ℕ → ℕ → Last → List ℕ → List ℕ → Answer
  fed ends ended held at count last head xs = end_of (feed_of (feed_of (st rs ends ended held h at at count last head (Head 0)) xs) tail)

  -- an entry begins
  pub record Ready (ends : List ℕ) (ended : ℕ) (held : List ℕ) (at : ℕ) (last : Last) (head : List ℕ) (seen : List Entry) (xs : List ℕ) : Type 0 where
    pub room : length held ≡ most_held
    pub long : length ends ≡ most_ends
    pub eight : length head ≡ 8
    pub holds : Holds held last seen
    pub tracks : Tracks ends ended seen
    pub up : Ascends seen
    pub rest : drop at s ≡ xs
    pub within : at + length xs ≤ most_bytes
    pub tails : Tail more (at + length xs) tail

  abbrev Claim : ℕ → Type 0
  Claim cap = (ends : List ℕ) (ended : ℕ) (held : List ℕ) (at count : ℕ) (last : Last) (head : List ℕ) (seen : List Entry) (xs : List ℕ) → Ready ends ended held at last head seen xs → cap + count ≡ most_records
      → fed ends ended held at count last head xs ≡ says count seen (arriving more h cap at xs)

  no_bytes : (cap : ℕ) (ends : List ℕ) (ended : ℕ) (held : List ℕ) (at count : ℕ) (last : Last) (head : List ℕ) (seen : List Entry) → Ready ends ended held at last head seen []
      → fed ends ended held at count last head [] ≡ says count seen (arriving more h cap at [])
  no_bytes cap ends ended held at count last head seen w =
      let t : Tail more at tail = rw (add-zero at) at w.tails in
      ap (λ (c : Check). end_of (feed_of c tail)) (feed-none _) ∙ ending-between rs ends ended h at at count last held head more tail t
      ∙ says_end count seen more ∙ ap (says count seen) (sym (arriving-none more h cap at))

  no_more : Claim 0
  no_more ends ended held at count last head seen [] w e = no_bytes 0 ends ended held at count last head seen w
  no_more ends ended held at count last head seen (x ∷ xs) w e =
      let f = w.within in
      ap (λ (c : Check). end_of (feed_of c tail)) (feed-more _ x xs ∙ ap (λ (c : Check). feed_of c xs) (step_full rs ends ended h at at count last held head x (omega arith) (omega arith)))
      ∙ ap end_of (feed-cut _ xs tail) ∙ finish_stopped _ (verdict 2 0) (xs ++ tail) refl (λ z. omega arith)
      ∙ sym (says-stop count seen _ (verdict 2 0) (arriving_full more h at (x ∷ xs) (omega arith)))

  module _ (cap : ℕ) (again : Claim cap) (ends : List ℕ) (ended : ℕ) (held : List ℕ) (at count : ℕ) (last : Last) (head : List ℕ) (seen : List Entry) (xs : List ℕ) (w : Ready ends ended held at last head seen xs)
      (few : suc cap + count ≡ most_records) (some : 0 < length xs) where
    abbrev Same : Type 0
    Same = fed ends ended held at count last head xs ≡ says count seen (arriving more h (suc cap) at xs)

    -- the machine was refused, and the whole stops so
    stopped : (c : Check) (v : Verdict) → feed_of (st rs ends ended held h at at count last head (Head 0)) xs ≡ c → c.marks.verdict ≡ v → (v.number ≡ 0 → ⊥)
        → arriving more h (suc cap) at xs ≡ stop v → Same
    stopped c v e q n a = ap (λ (c : Check). end_of (feed_of c tail)) e ∙ finish_stopped c v tail q n ∙ sym (says-stop count seen _ v a)

    -- the bytes ended, and the whole stops so
    ended· : (c : Check) (v : Verdict) → feed_of (st rs ends ended held h at at count last head (Head 0)) xs ≡ c → end_of (feed_of c tail) ≡ refused v
        → arriving more h (suc cap) at xs ≡ stop v → Same
    ended· c v e q a = ap (λ (c : Check). end_of (feed_of c tail)) e ∙ q ∙ sym (says-stop count seen _ v a)

    tail_at : (i : ℕ) → i ≡ at + length xs → Tail more i tail
    tail_at i e = rw e w.tails

    fits : last.size ≤ most_held
    fits = holds_fits held last seen w.holds

    -- fewer than eight bytes
    short-head : length xs < 8 → Same
    short-head l =
        let k : ℕ = length xs - 1 in
        let z : 0 + length xs ≡ suc k = omega arith in
        let r = heads-run rs ends ended h at count last held xs head at 0 (omega arith) (λ q. omega arith) w.within in
        let p : take (suc k) (sets head 0 xs) ≡ xs
        = ap (λ (j : ℕ). take j (sets head 0 xs)) (length-suc z) ∙ ap (take (length xs)) (sets_front head xs (omega (arith, w.eight))) ∙ take-append_seam xs (drop (length xs) head) in
        let c : Check = st rs ends ended held h (at + length xs) at count last (sets head 0 xs) (Head (suc k)) in
        go k (r ∙ ap (λ (j : ℕ). st rs ends ended held h (at + length xs) at count last (sets head 0 xs) (Head j)) z) p (read_mode xs) refl
      where
        length-suc : {k : ℕ} → 0 + length xs ≡ suc k → suc k ≡ length xs
        length-suc e = omega arith

        go : (k : ℕ) → feed_of (st rs ends ended held h at at count last head (Head 0)) xs ≡ st rs ends ended held h (at + length xs) at count last (sets head 0 xs) (Head (suc k))
            → take (suc k) (sets head 0 xs) ≡ xs → (r : Option (EntryMode × ℕ)) → read_mode xs ≡ r → Same
        go k e p None r =
            ended· _ (broken at 1) e
            (ending-head rs ends ended h (at + length xs) at count last held (sets head 0 xs) more tail k None (ap read_mode p ∙ r) w.tails) (arriving-bad more h cap at xs some r)
        go k e p (Some (m, n)) r =
            let u = count-le 0 (drop n xs) in
            let v = length-drop n xs in
            ended· _ (short_at more at (head_part xs (Some (m, n)))) e
            (ending-head rs ends ended h (at + length xs) at count last held (sets head 0 xs) more tail k (Some (m, n)) (ap read_mode p ∙ r) w.tails
            ∙ ap (λ (b : List ℕ). refused (short_at more at (head_part b (Some (m, n))))) p)
            (arriving-short more h cap at xs some m n r (omega arith) (omega arith))

    module _ (l : 8 ≤ length xs) where
      -- a mode that cannot be read
      bad-mode : read_mode xs ≡ None → Same
      unfolding begin
      bad-mode r =
          let e = eighth_run rs ends ended h at count last held xs head at l w.eight (omega arith) (omega (arith, w.within)) in
          let c : Check = together held ends (refuse (marks_of rs ended h (at + 7) at count last (sets head 0 (take 7 xs)) (Head 7)) (broken at 1)) in
          stopped c (broken at 1)
          (e ∙ ap (λ (m : Option (EntryMode × ℕ)). feed_of (begin (st rs ends ended held h (at + 7) at count last (sets head 0 (take 7 xs)) (Head 7)) (take 8 xs) m) (drop 8 xs)) r ∙ feed_stopped c (drop 8 xs) (λ z. omega arith))
          refl (λ z. omega arith) (arriving-bad more h cap at xs some r)

      module _ (m : EntryMode) (n : ℕ) (r : read_mode xs ≡ Some (m, n)) where
        abbrev ys· : List ℕ
        ys· = drop n xs

        abbrev n· : ℕ
        n· = count_to 0 (drop n xs)

        abbrev text· : Bool
        text· = is_text (modes_of rs) (take (n - 1) (take 8 xs))

        abbrev name· : List ℕ → ℕ → Check
        name· p i = naming rs ends ended h at count last (take 8 xs) held text· (is_tree m.internal) w.room fits p i

        in_name : feed_of (st rs ends ended held h at at count last head (Head 0)) xs ≡ feed_of (name· [] (at + n)) ys·
        in_name = mode-run rs ends ended h at count last held head xs w.room fits m n l w.eight (omega arith) w.within (omega arith) r

        start-le : n ≤ length xs
        start-le = (read_next xs m.internal n r).1

        left_is : length ys· ≡ length xs - n
        left_is = length-drop n xs

        long-name : most_held < n· → Same
        long-name g =
            stopped (feed_of (name· [] (at + n)) ys·) (verdict 16 at) in_name
            (names-long rs ends ended h at count last (take 8 xs) held text· (is_tree m.internal) w.room fits ys· [] (at + n) (omega arith) (omega arith) (omega (arith, start-le, left_is, w.within)))
            (λ z. omega arith) (arriving-long more h cap at xs some m n r g)

        module _ (g : n· ≤ most_held) where
          named : feed_of (st rs ends ended held h at at count last head (Head 0)) xs ≡ feed_of (name· (take n· ys·) (at + n + n·)) (drop n· ys·)
          named = in_name ∙ names-run rs ends ended h at count last (take 8 xs) held text· (is_tree m.internal) w.room fits ys· [] (at + n) (omega arith) (omega (arith, start-le, left_is, w.within))

          open-name : length ys· ≤ n· → Same
          open-name k =
              let u = count-le 0 ys· in
              ended· (name· (take n· ys·) (at + n + n·)) (short_at more at 2) (named ∙ ap (feed_of _) (drop_of_length-le ys· {i = n·} k) ∙ feed-none _)
              (ending-name rs ends ended h (at + n + n·) at count last (sets held 0 (take n· ys·)) (take 8 xs) more tail _ (tail_at _ (omega (arith, start-le, left_is))))
              (arriving-short more h cap at xs some m n r g (omega arith)
              ∙ ap (λ (i : ℕ). stop (short_at more at i)) (short-name (length ys· - n·) (omega arith)))

          module _ (k : n· < length ys·) where
            abbrev zs· : List ℕ
            zs· = drop (suc n·) ys·

            abbrev line· : Line
            line· = line_of rs ends ended h at count last (take 8 xs) held text· (is_tree m.internal) w.room fits (take n· ys·)

            abbrev in· : ℕ → ℕ → Check
            in· i left = st rs ends ended (sets held 0 (take n· ys·)) h i at count last (take 8 xs) (Id line· left)

            rest-is : length zs· ≡ length ys· - suc n·
            rest-is = length-drop (suc n·) ys·

            in-id : feed_of (st rs ends ended held h at at count last head (Head 0)) xs ≡ feed_of (in· (at + n + n· + 1) h) zs·
            in-id =
                named ∙ ap (feed_of _) (drop-cons ys· n· 0 k) ∙ feed-more _ (get_or ys· n· 0) zs·
                ∙ ap (λ (c : Check). feed_of c zs·)
                (step_nul rs ends ended h (at + n + n·) at count last (sets held 0 (take n· ys·)) (take 8 xs) (get_or ys· n· 0) (omega (arith, start-le, left_is, w.within)) line· (count-is 0 ys· k))

            open_id : length zs· < h → Same
            open_id j =
                ended· (in· (at + n + n· + 1 + length zs·) (h - length zs·)) (short_at more at 3)
                (in-id ∙ ids_run rs ends ended h at count last (sets held 0 (take n· ys·)) (take 8 xs) line· zs· (at + n + n· + 1) h j (omega (arith, start-le, left_is, rest-is, w.within)))
                (ending-id rs ends ended h (at + n + n· + 1 + length zs·) at count last (sets held 0 (take n· ys·)) (take 8 xs) more tail line· (h - length zs·) (tail_at _ (omega (arith, start-le, left_is, rest-is))))
                (arriving-short more h cap at xs some m n r g (omega (arith, rest-is))
                ∙ ap (λ (i : ℕ). stop (short_at more at i)) (short-id (length ys· - n·) (λ z. omega arith)))

            module _ (j : h ≤ length zs·) where
              abbrev e· : EntryRecord
              e· = record_at at m.internal n n·

              abbrev at· : ℕ
              at· = at + n + (n· + 1 + h)

              abbrev xs· : List ℕ
              xs· = drop (n + (n· + 1 + h)) xs

              abbrev held· : List ℕ
              held· = sets held 0 (take n· ys·)

              abbrev judged· : ℕ
              judged· = judged held· last line·

              abbrev marks· : Marks
              marks· = marks_of rs ended h (at + n + n· + 1 + (h - 1)) at count last (take 8 xs) (Id line· 1)

              closing : feed_of (st rs ends ended held h at at count last head (Head 0)) xs
                  ≡ feed_of (together held· (closed_ends ends marks· line· judged·) (closed ends marks· line· judged·)) (drop h zs·)
              closing =
                  in-id ∙ ids_all rs ends ended h at count last held· (take 8 xs) line· zs· (at + n + n· + 1) h (omega arith) j
                  (omega (arith, start-le, left_is, rest-is, w.within))

              whole : arriving more h (suc cap) at xs ≡ entry at e· (arriving more h cap at· xs·)
              whole = arriving-whole more h cap at xs some m n r g (omega (arith, rest-is))

              size_is : length (take n· ys·) ≡ n·
              size_is = length-take n· ys· ∙ omega arith

              name-is : (entry_of h s e·).name ≡ take n· ys·
              unfolding entry_of name_of
              name-is =
                  let z : at + n + n· - (at + n) ≡ n· = omega arith in
                  let d : drop (at + n) s ≡ ys· = sym (drop-drop n at s) ∙ ap (drop n) w.rest in
                  rw (z, d)

              sort-is : is_tree (entry_of h s e·).mode ≡ is_tree m.internal
              unfolding entry_of
              sort-is = refl

              text-is : is_text (modes_of rs) (text_of s at e·) ≡ text·
              unfolding text_of
              text-is =
                  let q = read_next (take 8 xs) m.internal n (eight_decide xs ∙ r) in
                  let z : at + n - 1 - at ≡ n - 1 = omega (arith, q) in
                  let u : take (n - 1) (take 8 xs) ≡ take (n - 1) xs = take-take (n - 1) 8 xs (omega (arith, q, length-take 8 xs)) in
                  rw (z, w.rest, u)

              abbrev before· : Bool
              before· = named_before seen (entry_of h s e·).name

              said-is : judge (git_rules rs) seen (text_of s at e·) (entry_of h s e·) ≡ or_else judged· (pick before· 17 0)
              said-is =
                  judged-is last held text· (is_tree m.internal) w.room fits (take n· ys·) (omega (arith, size_is)) seen w.holds (entry_of h s e·) name-is sort-is
                  (free-count 0 ys·) rs (text_of s at e·) text-is

              -- the rules refuse it, or its name was there before
              refuses : (i : ℕ) (left : List ℕ) → feed_of (st rs ends ended held h at at count last head (Head 0)) xs
                  ≡ feed_of (together held· left (refuse marks· (verdict (suc i) at))) (drop h zs·)
                  → judge (git_rules rs) seen (text_of s at e·) (entry_of h s e·) ≡ suc i → Same
              unfolding tally
              refuses i left q f =
                  let c : Check = together held· left (refuse marks· (verdict (suc i) at)) in
                  ap (λ (x : Check). end_of (feed_of x tail)) (q ∙ feed_stopped c (drop h zs·) (λ z. omega arith))
                  ∙ finish_stopped c (verdict (suc i) at) tail refl (λ z. omega arith)
                  ∙ sym (ap (λ (y : Listing). told (tally count y)) (ap (cut (git_rules rs) h s seen) whole ∙ cut-bad (git_rules rs) h s seen at e· (arriving more h cap at· xs·) (λ z. omega arith))
                  ∙ ap (λ (v : ℕ). refused (verdict v at)) f)

              not-kept : (i : ℕ) → judged· ≡ suc i → Same
              unfolding closed closed_ends
              not-kept i q =
                  refuses i ends (closing ∙ ap (λ (v : ℕ). feed_of (together held· (closed_ends ends marks· line· v) (closed ends marks· line· v)) (drop h zs·)) q)
                  (said-is ∙ ap (λ (v : ℕ). or_else v (pick before· 17 0)) q)

              -- they say nothing of it but, perhaps, that
              module _ (q : judged· ≡ 0) where
                up· : Ascends (entry_of h s e· ∷ seen)
                up· =
                    goes_up last held text· (is_tree m.internal) w.room fits (take n· ys·) (omega (arith, size_is)) seen w.holds (entry_of h s e·) name-is sort-is
                    (free-count 0 ys·) q w.up

                stands· : Stands ends ended (common_start (take last.size held) (take n· ys·)) last (length (take n· ys·)) (is_tree m.internal) seen (entry_of h s e·)
                stands· =
                    stands ends ended last held (entry_of h s e·) w.long w.room seen w.holds w.tracks up· (take n· ys·) (is_tree m.internal) name-is sort-is

                abbrev ends· : List ℕ
                ends· = ends_next ends marks· line·

                placing· : (r : Result ℕ Misplaced) → placing ends marks· line· ≡ r
                    → feed_of (st rs ends ended held h at at count last head (Head 0)) xs ≡ feed_of (together held· ends· (placed marks· line· r)) (drop h zs·)
                unfolding closed closed_ends
                placing· r p =
                    closing ∙ ap (λ (v : ℕ). feed_of (together held· (closed_ends ends marks· line· v) (closed ends marks· line· v)) (drop h zs·)) q
                    ∙ ap (λ (r : Result ℕ Misplaced). feed_of (together held· ends· (placed marks· line· r)) (drop h zs·)) p

                said : (v : Bool) → before· ≡ v → judge (git_rules rs) seen (text_of s at e·) (entry_of h s e·) ≡ pick v 17 0
                said v p = said-is ∙ ap (λ (i : ℕ). or_else i (pick before· 17 0)) q ∙ ap (λ (v : Bool). pick v 17 0) p

                answer· : (v : Bool) → before· ≡ v → placing ends marks· line· ≡ pick v (Err Double) (Ok stands·.n)
                answer· v p = stands·.answer ∙ ap (λ (v : Bool). pick v (Err Double) (Ok stands·.n)) p

                double : before· ≡ true → Same
                unfolding placed
                double p = refuses 16 ends· (placing· (Err Double) (answer· true p)) (said true p)

                kept : before· ≡ false → Same
                unfolding placed tally
                kept p =
                    let f : judge (git_rules rs) seen (text_of s at e·) (entry_of h s e·) ≡ 0 = said false p in
                    let a : at + n + n· + 1 + (h - 1) + 1 ≡ at· = omega arith in
                    let d : drop h zs· ≡ xs·
                    = drop-drop h (suc n·) ys· ∙ drop-drop (suc n· + h) n xs ∙ ap (λ (i : ℕ). drop i xs) (omega-add n n· h) in
                    let y : Last = record { size = length (take n· ys·); folder = is_tree m.internal } in
                    let lx : length xs· ≡ length xs - (n + (n· + 1 + h)) = length-drop (n + (n· + 1 + h)) xs in
                    let t : at· + length xs· ≡ at + length xs = omega (arith, start-le, left_is, rest-is) in
                    let some· = name-some last held text· (is_tree m.internal) w.room fits (take n· ys·) (omega (arith, size_is)) seen w.holds (entry_of h s e·) name-is sort-is
                    (free-count 0 ys·) q in
                    let ready : Ready ends· stands·.n held· at· y (replicate 8 0) (entry_of h s e· ∷ seen) xs·
                    = record {
                      room = length-sets held 0 (take n· ys·) ∙ w.room;
                      long = at_length ends (min ended (length ends)) _ _ _ ∙ w.long;
                      eight = refl;
                      holds = (some·, omega (arith, size_is), name-held last held text· (is_tree m.internal) w.room fits (take n· ys·) (omega (arith, size_is)) ∙ sym name-is, sym sort-is);
                      tracks = stands·.tracks;
                      up = up·;
                      rest = rests;
                      within = omega (arith, w.within);
                      tails = tail_at _ t;
                    } in
                    ap (λ (x : Check). end_of (feed_of x tail)) (placing· (Ok stands·.n) (answer· false p) ∙ rw (lt-ltb count most_records (omega arith), a, d))
                    ∙ again ends· stands·.n held· at· (count + 1) y (replicate 8 0) (entry_of h s e· ∷ seen) xs· ready (omega arith)
                    ∙ sym (ap (λ (z : Listing). told (tally count z)) (ap (cut (git_rules rs) h s seen) whole ∙ cut-fine (git_rules rs) h s seen at e· (arriving more h cap at· xs·) f))
                  where
                    omega-add : (a b c : ℕ) → a + (suc b + c) ≡ a + (b + 1 + c)
                    omega-add a b c = omega arith

                    rests : drop at· s ≡ xs·
                    rests =
                        let z : at· ≡ at + (n + (n· + 1 + h)) = omega arith in
                        ap (λ (i : ℕ). drop i s) z ∙ sym (drop-drop (n + (n· + 1 + h)) at s) ∙ ap (drop (n + (n· + 1 + h))) w.rest

                either : (v : Bool) → before· ≡ v → Same
                either true p = double p
                either false p = kept p

              finished : (v : ℕ) → judged· ≡ v → Same
              finished zero q = either q _ refl
              finished (suc i) q = not-kept i q

        -- the mode is read
        moded : Same
        moded =
            elim (dec_lt most_held n·) [
              | yes g ↦ long-name g
              | no g ↦ elim (dec_lt n· (length ys·)) [
                | yes k ↦ elim (dec_lt (length (drop (suc n·) ys·)) h) [ yes j ↦ open_id (omega arith) k j | no j ↦ finished (omega arith) k (omega arith) _ refl ]
                | no k ↦ open-name (omega arith) (omega arith)
              ]
            ]

    one_entry : Same
    one_entry = elim (dec_lt (length xs) 8) [ yes l ↦ short-head l | no l ↦ go (omega arith) (read_mode xs) refl ]
      where
        go : 8 ≤ length xs → (r : Option (EntryMode × ℕ)) → read_mode xs ≡ r → Same
        go l None r = bad-mode l r
        go l (Some (m, n)) r = moded l m n r

  one_more : (cap : ℕ) → Claim cap → Claim (suc cap)
  one_more cap again ends ended held at count last head seen [] w e = no_bytes (suc cap) ends ended held at count last head seen w
  one_more cap again ends ended held at count last head seen (x ∷ xs) w e = one_entry cap again ends ended held at count last head seen (x ∷ xs) w e (omega arith)

  claims : (cap : ℕ) → Claim cap
  claims zero = no_more
  claims (suc cap) = one_more cap (claims cap)

-- ---- from the start

-- an open gate has an id length
gate_id : (h k : ℕ) → rule_gate k h 0 0 ≡ Ok tt → id_length h ≡ true
unfolding rule_gate
gate_id h k e = pass (id_length h) e
  where
    pass : (v : Bool) → pick v (pick (is_set k) (size_gate 0 0) (Err (verdict 19 0))) (Err (verdict 1 0)) ≡ Ok tt → v ≡ true
    pass true e = refl
    pass false e = let y : ◌≡◌ {A = ℕ} 0 1 = cc in absurd (omega arith)

module _ (h k : ℕ) (s held ends : List ℕ) (room : length held ≡ most_held) (long : length ends ≡ most_ends) where
  abbrev begins : Verdict → Check
  begins v = together held ends (fresh h k v)

  within : id_length h ≡ true → (more : Bool) → (t tail : List ℕ) → t ++ tail ≡ s → length t ≤ most_bytes → Tail more (length t) tail
      → end_of (feed_of (begins fine) s) ≡ check_in (git_rules k) more h t
  within i more t tail e l f =
      let z : 0 + length t ≡ length t = omega arith in
      ap (λ (x : List ℕ). end_of (feed_of (begins fine) x)) (sym e) ∙ ap end_of (sym (feed-cut (begins fine) t tail))
      ∙ claims more k h (id_small h (id-is h i)).0 t tail most_records ends 0 held 0 0 (record { size = 0; folder = false }) (replicate 8 0) [] t
      (record {
        room = room;
        long = long;
        eight = refl;
        holds = (refl, refl);
        tracks = tracks-none ends;
        up = tt;
        rest = refl;
        within = omega arith;
        tails = rw z f;
      })
      (add-zero most_records)

  by-gate : (g : Result ⊤ Verdict) → rule_gate k h 0 0 ≡ g → (more : Bool) → ltb most_bytes (length s) ≡ more
      → end_of (feed_of (begins (gate_verdict g)) s) ≡ or_shut g (check_in (git_rules k) more h (take most_bytes s))
  by-gate (Err v) e more q = finish_stopped (begins v) v s refl (strict-refuses k h 0 0 v e)
  by-gate (Ok tt) e true q =
      let j = ltb-true most_bytes (length s) q in
      let lt = length-take most_bytes s in
      let ld = length-drop most_bytes s in
      within (gate_id h k e) true (take most_bytes s) (drop most_bytes s) (take-append-drop most_bytes s) (omega arith) (omega arith, omega arith)
  by-gate (Ok tt) e false q =
      let j = ltb-false most_bytes (length s) q in
      let a = take_all most_bytes s j in
      within (gate_id h k e) false (take most_bytes s) [] (append-nil (take most_bytes s) ∙ a) (omega (arith, length-take most_bytes s)) refl

  -- Fed whole from the start, whatever is held, the check answers as the definition says of the object: every object, every id length, every rule set.
  pub fed_checks : end_of (feed_of (together held ends (start_of h k)) s) ≡ check_of h k s
  unfolding start_of check_of
  fed_checks = by-gate (rule_gate k h 0 0) refl (ltb most_bytes (length s)) refl
