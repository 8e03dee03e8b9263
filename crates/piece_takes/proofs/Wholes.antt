-- Whole entries of a piece taken at once. Assumes nothing.
use Prim.Native.Nat.{ℕ, zero, suc, ◌+◌, ◌-◌, ◌/◌, ◌%◌, ◌≤◌, ◌<◌, min}
use native.Mathlib.Omega.{arith}
use mathlib.Core.Path.{◌≡◌, refl, ap, sym, ◌∙◌}
use mathlib.Core.Bool.{Bool, true, false}
use mathlib.Core.List.{List, [], ◌∷◌}
use mir.Val.{Val}
use denote.Laws.{Is}
use denote.Struct.Declared.{row}
use lib.Dec.{eqb}
use lib.ListN.{length, take, drop, replicate, length-take, length-drop}
use lib.Seq.{sets, length-sets, drop-drop, take-take}
use borrow.Author.Tests.{eq-eqb, ne_eqb, eqb-true, eqb-false}
use Rattle.ground.specs.Basics.{pick, part}
use Rattle.ground.specs.Scan.{count_to, place_from, common_start}
use Rattle.ground.specs.Verdict.{verdict, fine, most_bytes, most_records}
use Rattle.ground.specs.declared.Verdict.{Verdict}
use Rattle.mode.specs.Mode.{is_tree}
use Rattle.mode.specs.Read.{read_mode, read_mode_at, moved}
use Rattle.mode.specs.declared.EntryMode.{EntryMode}
use Rattle.mode.proofs.Laws.{eight_decide, read_next}
use Rattle.mode_code.specs.Code.{code_at, quick_at}
use Rattle.mode_code.proofs.Laws.{quick_is-code, code-mode}
use Rattle.order.specs.Order.{name_order}
use Rattle.doubles.specs.Stack.{open_at, marks_at, is_double, if_below, place_of, marks_of}
use Rattle.rules.specs.Rules.{is_text, modes_of, bare_number}
use Rattle.rules.proofs.Laws.{name-empty, number-bad}
use Rattle.rules.proofs.Quick.{mode_quick}
use Rattle.arriving.specs.Feed.{most_held, together, fresh, feed_of}
use Rattle.arriving.specs.Bulk.{Took}
use Rattle.arriving.specs.declared.Phase.{Phase}
use Rattle.arriving.specs.declared.Phase.TheVariants.{Head}
use Rattle.arriving.specs.declared.Marks.{Marks}
use Rattle.arriving.specs.declared.Check.{Check}
use Rattle.arriving.specs.declared.Taken.{Taken}
use Rattle.arriving.proofs.Steps.{st}
use Rattle.arriving.specs.contracts.Marks.{the_type}
use Rattle.arriving.proofs.Laws.{feed_end}
use Rattle.piece_seen.specs.Whole.{seen_at}
use Rattle.piece_seen.specs.declared.Seen.{Seen}
use Rattle.piece_seen.proofs.Whole.{Lies, lies, code_fits}
use Rattle.piece_place.specs.Place.{held_after}
use Rattle.piece_run.specs.Runs.{Going, going, run_after, placed_in, open_in, more_by, one_more, all_from, all_of}
use Rattle.piece_run.specs.declared.Run.{Run}
use Rattle.piece_run.proofs.Runs.{Are, one-counts, all_begin}
use Rattle.piece_between.specs.Between.{head_after, ran_of}
use Rattle.piece_between.proofs.Between.{Between}
use Rattle.piece_takes.proofs.Entry.{entry-fine, entry_double}
use Rattle.doubles.specs.declared.Misplaced.{Misplaced}
use Rattle.doubles.specs.declared.Misplaced.TheVariants.{Double, NotAfter}
use Rattle.std.specs.Prelude.{Err, None, Ok, Option, Result, Some}
use Rattle.std.specs.declared.cmp.Ordering.{Ordering}
use Rattle.std.specs.declared.cmp.Ordering.TheVariants.{Equal, Greater, Less}
use Rattle.ground.proofs.Pairs.{some_parts}

-- ---- an entry that is seen

-- the entry at a place of a piece lies in it whole, its mode text is permitted, and nothing is said of its name
pub record Whole (s : List ℕ) (i h : ℕ) (e : Seen) : Type 0 where
  pub mode : ℕ
  pub reads : read_mode (drop i s) ≡ Some (record { internal = mode }, e.start - i)
  pub starts : i < e.start
  pub written : (k : ℕ) → is_text (modes_of k) (part i (e.start - 1) s) ≡ true
  pub sort : e.folder ≡ is_tree mode
  pub ends : e.end ≡ place_from 0 s e.start
  pub whole : h < length s - e.end
  pub small : e.end - e.start ≤ most_held
  pub named : bare_number (part e.start e.end s) ≡ 0

-- what is read at a place, without the place
read-there : (at n : ℕ) (m : EntryMode) (r : Option (EntryMode × ℕ)) → moved at r ≡ Some (m, at + n) → r ≡ Some (m, n)
read-there at n m (Some (k, i)) e =
    let w = some_parts e in
    let y : i ≡ n = omega (arith, w.1) in
    rw (w.0, y)
read-there at n m None e = let z : ◌≡◌ {A = ℕ} 0 1 = cc in absurd (omega arith)

whole_of : (s : List ℕ) (i h : ℕ) (e : Seen) → Lies s i h e → Whole s i h e
unfolding read_mode_at
whole_of s i h e o =
    let c : ℕ = quick_at s i in
    let f = code_fits s i h c refl o.code in
    let q : code_at s i ≡ c = quick_is-code s i o.code in
    let m : EntryMode = record { internal = c / 16 } in
    let y : c % 16 ≡ e.start - i = omega (arith, o.starts) in
    let r : moved i (read_mode (drop i s)) ≡ Some (m, i + c % 16) = code-mode s i (λ z. o.code (sym q ∙ z)) ∙ rw q in
    record {
      mode = c / 16;
      reads = read-there i (c % 16) m (read_mode (drop i s)) r ∙ ap ((λ y. Some (m, y))) y;
      starts = omega (arith, f, o.starts);
      written = λ k. ap (λ (j : ℕ). is_text (modes_of k) (part i (j - 1) s)) o.starts
          ∙ mode_quick k s i (i + c % 16) o.code (ap (λ (v : ℕ). i + v % 16) (sym q));
      sort = o.sort;
      ends = o.ends;
      whole = o.whole;
      small = o.small;
      named = o.named;
    }

-- ---- entries that are taken

-- entries may be taken from a place on, after an entry before
pub record Runs (s : List ℕ) (h : ℕ) (r : Run) : Type 0 where
  pub long : 8 < h
  pub within : r.next ≤ length s
  pub single : r.double ≡ false
  pub after : 0 < r.last.size
  pub fits : r.last.size ≤ most_held

-- the check between two entries, so many bytes in all, by rule set and id length
abbrev pub between : ℕ → ℕ → ℕ → Run → List ℕ → List ℕ → List ℕ → Check
between k h at r head held ends =
    together held ends
    (record { verdict = fine; h = h; rules = k; at = at; first = at; count = r.count; last = r.last; ended = r.ended; head = head; phase = Head 0 })

-- what comes of the rest of a piece: 17 is settled, or the check goes on
abbrev pub rest : ℕ → ℕ → ℕ → Run → List ℕ → List ℕ → List ℕ → List ℕ → Check
rest k h at r head held ends s =
    pick r.double (together held ends (fresh h k (verdict 17 at))) (feed_of (between k h at r head held ends) (drop r.next s))

-- some entries were taken, after which this is held and these names are open: what is to come is what is to come after them
pub record Went (held ends : List ℕ) (r : Run) (s : List ℕ) (h : ℕ) (after left : List ℕ) (t : Run) : Type 0 where
  pub same : (k at : ℕ) (head : List ℕ) → length head ≡ 8 → at + (length s - r.next) ≤ most_bytes
      → feed_of (between k h at r head held ends) (drop r.next s)
      ≡ rest k h (at + (t.next - r.next)) t (head_after head r.next t.next) after left s
  pub from : r.next ≤ t.next
  pub within : t.next ≤ length s
  pub some : 0 < t.last.size
  pub fits : t.last.size ≤ most_held

not-empty : (n : List ℕ) → bare_number n ≡ 0 → 0 < length n
not-empty [] p = absurd (omega (arith, number-bad [] (name-empty [] refl)))
not-empty (x ∷ n) p = omega arith

-- what is not placed leaves the open names
not_left : (o : Ordering) (v : Bool) (n : ℕ) (x a : List ℕ) → if_below o (pick v (Err Double) (Ok n)) (Err NotAfter) ≡ Err NotAfter → if_below o x a ≡ a
not_left Less true n x a e = let z : ◌≡◌ {A = ℕ} 0 1 = cc in absurd (omega arith)
not_left Less false n x a e = let z : ◌≡◌ {A = ℕ} 0 1 = cc in absurd (omega arith)
not_left Equal v n x a e = refl
not_left Greater v n x a e = refl

-- nothing is taken
pub went_none : (held ends : List ℕ) (r : Run) (s : List ℕ) (h : ℕ) → Runs s h r → Went held ends r s h held ends r
went_none held ends r s h w =
    record {
      same = λ k at head e b.
          let z : at + (r.next - r.next) ≡ at = omega arith in
          rw (w.single, eq-eqb r.next r.next refl, z);
      from = omega arith;
      within = w.within;
      some = w.after;
      fits = w.fits;
    }

st_same : (k ended h count : ℕ) (left : List ℕ) {a b size size' : ℕ} {folder folder' : Bool} {held held' head head' xs xs' : List ℕ} → a ≡ b → held ≡ held'
    → size ≡ size' → folder ≡ folder' → head ≡ head' → xs ≡ xs'
    → feed_of (st k left ended held h a a count (record { size = size; folder = folder }) head (Head 0)) xs
    ≡ feed_of (st k left ended held' h b b count (record { size = size'; folder = folder' }) head' (Head 0)) xs'
st_same k ended h count left p q f g u v = rw (p, q, f, g, u, v)

module _ (held ends : List ℕ) (r : Run) (s : List ℕ) (h : ℕ) (w : Runs s h r) (few : r.count < most_records) (room : length held ≡ most_held) (e : Seen)
    (o : Whole s r.next h e) (p : Result ℕ Misplaced) (q : p ≡ place_of ends r.ended (take r.last.size held) r.last.folder (part e.start e.end s)
    e.folder)
    (left : List ℕ) (f : left ≡ marks_of ends r.ended (take r.last.size held) r.last.folder (part e.start e.end s) e.folder)
    (after : List ℕ) (d : after ≡ held_after p held (part e.start e.end s)) where
  abbrev xs· : List ℕ
  xs· = drop r.next s

  abbrev n· : ℕ
  n· = e.start - r.next

  abbrev m· : EntryMode
  m· = record { internal = o.mode }

  long-is : length xs· ≡ length s - r.next
  long-is = length-drop r.next s

  name-at : drop n· xs· ≡ drop e.start s
  name-at =
      let z : r.next + (e.start - r.next) ≡ e.start = omega (arith, o.starts) in
      drop-drop n· r.next s ∙ ap (λ (i : ℕ). drop i s) z

  name-long : length (drop n· xs·) ≡ length s - e.start
  name-long = ap length name-at ∙ length-drop e.start s

  size_is : count_to 0 (drop n· xs·) ≡ e.end - e.start
  unfolding place_from
  size_is = ap (count_to 0) name-at ∙ omega (arith, o.ends)

  end_after : e.start ≤ e.end
  unfolding place_from
  end_after = omega (arith, o.ends)

  name-is : take (count_to 0 (drop n· xs·)) (drop n· xs·) ≡ part e.start e.end s
  name-is = rw (size_is, name-at)

  text-is : (k : ℕ) → is_text (modes_of k) (take (n· - 1) (take 8 xs·)) ≡ true
  text-is k =
      let u = read_next (take 8 xs·) o.mode n· (eight_decide xs· ∙ o.reads) in
      let z : e.start - 1 - r.next ≡ n· - 1 = omega arith in
      let t : take (n· - 1) (take 8 xs·) ≡ take (n· - 1) xs· = take-take (n· - 1) 8 xs· (omega (arith, u, length-take 8 xs·)) in
      ap (is_text (modes_of k)) (t ∙ ap (λ (j : ℕ). take j xs·) (sym z)) ∙ o.written k

  place_is : p ≡ place_of ends r.ended (take r.last.size held) r.last.folder (take (count_to 0 (drop n· xs·)) (drop n· xs·)) (is_tree m·.internal)
  place_is = q ∙ rw (o.sort, name-is)

  left_is : left ≡ marks_of ends r.ended (take r.last.size held) r.last.folder (take (count_to 0 (drop n· xs·)) (drop n· xs·)) (is_tree m·.internal)
  left_is = f ∙ rw (o.sort, name-is)

  named_is : bare_number (take (count_to 0 (drop n· xs·)) (drop n· xs·)) ≡ 0
  named_is = ap bare_number name-is ∙ o.named

  whole_long : count_to 0 (drop n· xs·) + 1 + h ≤ length (drop n· xs·)
  whole_long = omega (arith, size_is, name-long, o.whole, end_after)

  small_is : count_to 0 (drop n· xs·) ≤ most_held
  small_is = omega (arith, size_is, o.small)

  size-long : length (part e.start e.end s) ≡ e.end - e.start
  size-long = length-take (e.end - e.start) (drop e.start s) ∙ omega (arith, length-drop e.start s, o.whole)

  pub went_fine : (i : ℕ) → p ≡ Ok i
      → Went held ends r s h after left
      (record { next = e.end + 1 + h; count = r.count + 1; last = record { size = e.end - e.start; folder = e.folder }; ended = i; double = false })
  went_fine i u =
      record {
        same = λ k at head v b.
            let a : at + (n· + (count_to 0 (drop n· xs·) + 1 + h)) ≡ at + (e.end + 1 + h - r.next) = omega (arith, size_is, end_after, o.starts) in
            let z : r.next + (n· + (count_to 0 (drop n· xs·) + 1 + h)) ≡ e.end + 1 + h = omega (arith, size_is, end_after, o.starts) in
            entry-fine k ends r.ended h at r.count r.last held head xs· room w.fits m· n· v few w.long o.reads
            (omega (arith, long-is)) small_is whole_long
            (text-is k) named_is w.after p place_is (λ y. fine-not i (sym u ∙ y)) left left_is i u
            ∙ st_same k i h (r.count + 1) left a (ap (sets held 0) name-is ∙ sym
            (d ∙ ap (λ (y : Result ℕ Misplaced). held_after y held (part e.start e.end s)) u)) size_is (sym o.sort)
            (sym (ap (λ (y : Bool). pick y head (replicate 8 0)) (ne_eqb (e.end + 1 + h) r.next (λ y. omega (arith, end_after, o.starts)))))
            (drop-drop (n· + (count_to 0 (drop n· xs·) + 1 + h)) r.next s ∙ ap (λ (j : ℕ). drop j s) z);
        from = omega (arith, end_after, o.starts);
        within = omega (arith, o.whole);
        some = omega (arith, size-long, not-empty (part e.start e.end s) o.named);
        fits = o.small;
      }
    where
      fine-not : (i : ℕ) → ◌≡◌ {A = Result ℕ Misplaced} (Ok i) (Err NotAfter) → ⊥
      fine-not i y = let z : ◌≡◌ {A = ℕ} 0 1 = cc in absurd (omega arith)

  pub went_double : p ≡ Err Double
      → Went held ends r s h after left (record { next = r.next; count = r.count; last = r.last; ended = r.ended; double = true })
  went_double u =
      record {
        same = λ k at head v b.
            let z : at ≡ at + (r.next - r.next) = omega arith in
            entry_double k ends r.ended h at r.count r.last held head xs· room w.fits m· n· v few w.long o.reads
            (omega (arith, long-is)) small_is whole_long
            (text-is k) named_is w.after p place_is (λ y. double_not (sym u ∙ y)) left left_is u
            ∙ ap (λ (y : List ℕ). together y left (fresh h k (verdict 17 at)))
            (ap (sets held 0) name-is ∙ sym (d ∙ ap (λ (y : Result ℕ Misplaced). held_after y held (part e.start e.end s)) u))
            ∙ ap (λ (j : ℕ). together after left (fresh h k (verdict 17 j))) z;
        from = omega arith;
        within = w.within;
        some = w.after;
        fits = w.fits;
      }
    where
      double_not : ◌≡◌ {A = Result ℕ Misplaced} (Err Double) (Err NotAfter) → ⊥
      double_not y = let z : ◌≡◌ {A = ℕ} 0 1 = cc in absurd (omega arith)

  -- it stands below: nothing is taken
  pub went_not : p ≡ Err NotAfter → Went held ends r s h after left r
  unfolding place_of marks_of
  went_not u =
      let x : after ≡ held = d ∙ ap (λ (y : Result ℕ Misplaced). held_after y held (part e.start e.end s)) u in
      let a : List ℕ = take r.last.size held in
      let n : List ℕ = part e.start e.end s in
      let i : ℕ = min r.ended (length ends) in
      let j : ℕ = common_start a n in
      let y : left ≡ ends
      = f ∙ not_left (name_order a r.last.folder n e.folder)
      (is_double (marks_at ends i j (length a) r.last.folder) (open_at ends i j (length a) r.last.folder) (length n) e.folder)
      (open_at ends i j (length a) r.last.folder) (marks_at ends i j (length a) r.last.folder) ends (sym q ∙ u) in
      rw (x, y) (went_none held ends r s h w)

-- one after the other
module _ (held ends : List ℕ) (r : Run) (s : List ℕ) (h : ℕ) (middle open· : List ℕ) (t : Run) (a : Went held ends r s h middle open· t)
    (single : t.double ≡ false)
    (after left : List ℕ) (u : Run) (b : Went middle open· t s h after left u) where
  head-twice : (head : List ℕ) → head_after (head_after head r.next t.next) t.next u.next ≡ head_after head r.next u.next
  head-twice head = go (eqb u.next t.next) refl (eqb t.next r.next) refl
    where
      go : (v : Bool) → eqb u.next t.next ≡ v → (w : Bool) → eqb t.next r.next ≡ w
          → pick v (pick w head (replicate 8 0)) (replicate 8 0) ≡ head_after head r.next u.next
      go true e true g =
          let i = eqb-true u.next t.next e in
          let j = eqb-true t.next r.next g in
          sym (ap (λ (y : Bool). pick y head (replicate 8 0)) (eq-eqb u.next r.next (i ∙ j)))
      go true e false g =
          let i = eqb-true u.next t.next e in
          let j = eqb-false t.next r.next g in
          sym (ap (λ (y : Bool). pick y head (replicate 8 0)) (ne_eqb u.next r.next (λ z. j (sym i ∙ z))))
      go false e w g =
          let i = eqb-false u.next t.next e in
          sym (ap (λ (y : Bool). pick y head (replicate 8 0)) (ne_eqb u.next r.next (λ z. i (omega (arith, a.from, b.from)))))

  head_eight : (head : List ℕ) → length head ≡ 8 → length (head_after head r.next t.next) ≡ 8
  head_eight head e = go (eqb t.next r.next)
    where
      go : (v : Bool) → length (pick v head (replicate 8 0)) ≡ 8
      go true = e
      go false = refl

  pub went_then : Went held ends r s h after left u
  went_then =
      record {
        same = λ k at head e w.
            let z : at + (t.next - r.next) + (u.next - t.next) ≡ at + (u.next - r.next) = omega (arith, a.from, b.from) in
            a.same k at head e w
            ∙ ap (λ (v : Bool). pick v (together middle open· (fresh h k (verdict 17 (at + (t.next - r.next)))))
            (feed_of (between k h (at + (t.next - r.next)) t (head_after head r.next t.next) middle open·) (drop t.next s))) single
            ∙ b.same k (at + (t.next - r.next)) (head_after head r.next t.next) (head_eight head e) (omega (arith, a.from, a.within))
            ∙ ap (λ (j : ℕ). rest k h j u (head_after (head_after head r.next t.next) t.next u.next) after left s) z
            ∙ ap (λ (y : List ℕ). rest k h (at + (u.next - r.next)) u y after left s) (head-twice head);
        from = omega (arith, a.from, b.from);
        within = b.within;
        some = b.some;
        fits = b.fits;
      }

-- they may go on
pub runs-next : (held ends : List ℕ) (r : Run) (s : List ℕ) (h : ℕ) (after left : List ℕ)
    (t : Run) → Runs s h r → Went held ends r s h after left t → t.double ≡ false
    → Runs s h t
runs-next held ends r s h after left t w g d = record { long = w.long; within = g.within; single = d; after = g.some; fits = g.fits }

-- ---- all of them

module _ (s : List ℕ) (h : ℕ) where
  -- the held name has as much room as before
  held-long : (p : Result ℕ Misplaced) (held name : List ℕ) → length (held_after p held name) ≡ length held
  held-long (Ok k) held name = length-sets held 0 name
  held-long (Err NotAfter) held name = refl
  held-long (Err Double) held name = length-sets held 0 name

  module _ (g : Going) (room : length g.held ≡ most_held) where
    room_by : (o : Option Seen) → length (more_by g s h o).held ≡ most_held
    room_by None = room
    room_by (Some e) = held-long (placed_in g s e) g.held (part e.start e.end s) ∙ room

    one-room : length (one_more s h g).held ≡ most_held
    unfolding one_more
    one-room = room_by (seen_at s g.run.next h)

    single-placed : (e : Seen) (p : Result ℕ Misplaced) → ((run_after g.run h e p).next ≡ g.run.next → ⊥) → (run_after g.run h e p).double ≡ false
    single-placed e (Ok k) n = refl
    single-placed e (Err NotAfter) n = absurd (n refl)
    single-placed e (Err Double) n = absurd (n refl)

    single-by : (o : Option Seen) → ((more_by g s h o).run.next ≡ g.run.next → ⊥) → (more_by g s h o).run.double ≡ false
    single-by None n = absurd (n refl)
    single-by (Some e) n = single-placed e (placed_in g s e) n

    one_single : ((one_more s h g).run.next ≡ g.run.next → ⊥) → (one_more s h g).run.double ≡ false
    unfolding one_more
    one_single n = single-by (seen_at s g.run.next h) n

    module _ (w : Runs s h g.run) (few : g.run.count < most_records) where
      placed_went : (e : Seen) → Whole s g.run.next h e → (p : Result ℕ Misplaced) → p ≡ placed_in g s e
          → Went g.held g.ends g.run s h (held_after p g.held (part e.start e.end s)) (open_in g s e) (run_after g.run h e p)
      placed_went e o (Ok k) u =
          went_fine g.held g.ends g.run s h w few room e o (Ok k) u (open_in g s e) refl (sets g.held 0 (part e.start e.end s)) refl k refl
      placed_went e o (Err NotAfter) u = went_not g.held g.ends g.run s h w few room e o (Err NotAfter) u (open_in g s e) refl g.held refl refl
      placed_went e o (Err Double) u =
          went_double g.held g.ends g.run s h w few room e o (Err Double) u (open_in g s e) refl (sets g.held 0 (part e.start e.end s)) refl refl

      went_by : (o : Option Seen) → o ≡ seen_at s g.run.next h
          → Went g.held g.ends g.run s h (more_by g s h o).held (more_by g s h o).ends (more_by g s h o).run
      went_by None q = went_none g.held g.ends g.run s h w
      went_by (Some e) q = placed_went e (whole_of s g.run.next h e (lies s g.run.next h e q)) (placed_in g s e) refl

      one_went : Went g.held g.ends g.run s h (one_more s h g).held (one_more s h g).ends (one_more s h g).run
      unfolding one_more
      one_went = went_by (seen_at s g.run.next h) refl

  all_room : (n : ℕ) (g : Going) → length g.held ≡ most_held → length (all_from n s h g).held ≡ most_held
  unfolding all_from
  all_room zero g room = room
  all_room (suc n) g room = go (eqb (one_more s h g).run.next g.run.next) (all_room n (one_more s h g) (one-room g room))
    where
      go : (v : Bool) → length (all_from n s h (one_more s h g)).held ≡ most_held
          → length (pick v (one_more s h g) (all_from n s h (one_more s h g))).held ≡ most_held
      go true f = one-room g room
      go false f = f

  abbrev Goes : Going → Going → Type 0
  Goes g t = Went g.held g.ends g.run s h t.held t.ends t.run

  all_went : (n : ℕ) (g : Going) → Runs s h g.run → length g.held ≡ most_held → n ≤ most_records - g.run.count → Goes g (all_from n s h g)
  unfolding all_from
  all_went zero g w room b = went_none g.held g.ends g.run s h w
  all_went (suc n) g w room b = go (eqb (one_more s h g).run.next g.run.next) refl (all_went n (one_more s h g))
    where
      one : Goes g (one_more s h g)
      one = one_went g room w (omega arith)

      go : (v : Bool) → eqb (one_more s h g).run.next g.run.next ≡ v
          → (Runs s h (one_more s h g).run → length (one_more s h g).held ≡ most_held → n ≤ most_records - (one_more s h g).run.count
          → Goes (one_more s h g) (all_from n s h (one_more s h g)))
          → Goes g (pick v (one_more s h g) (all_from n s h (one_more s h g)))
      go true z f = one
      go false z f =
          let k = eqb-false (one_more s h g).run.next g.run.next z in
          let d = one_single g room k in
          went_then g.held g.ends g.run s h (one_more s h g).held (one_more s h g).ends (one_more s h g).run one d _ _ _
          (f (runs-next g.held g.ends g.run s h (one_more s h g).held (one_more s h g).ends (one_more s h g).run w one d) (one-room g room)
          (omega (arith, one-counts s h g k)))

-- ---- bytes of a piece

-- who owns marks knows that eight first bytes are kept
pub eight_kept : (m : Marks) (vs : List Val) → Is (row the_type) m vs → length m.head ≡ 8
eight_kept m vs p = p.1.1.1.1.1.1.1.1.1.1.0.1.0.1

-- the marks where an entry begins
module _ (m : Marks) (left : ℕ) (b : Between m left) where
  abbrev made : Verdict → ℕ → Phase → Marks
  made v f p =
      record {
        verdict = v;
        h = m.h;
        rules = m.rules;
        at = m.at;
        first = f;
        count = m.count;
        last = m.last;
        ended = m.ended;
        head = m.head;
        phase = p;
      }

  marks_are : (held ends : List ℕ) → together held ends m ≡ together held ends (made fine m.at (Head 0))
  marks_are held ends =
      ap (λ (v : Verdict). together held ends (made v m.first m.phase)) b.open·
      ∙ ap (λ (f : ℕ). together held ends (made fine f m.phase)) b.first.0
      ∙ ap (λ (p : Phase). together held ends (made fine m.at p)) b.next

-- the run that begins with the marks
abbrev pub run_of : Marks → ℕ → Run
run_of m i = record { next = i; count = m.count; last = m.last; ended = m.ended; double = false }

module _ (held ends : List ℕ) (m : Marks) (s : List ℕ) (i : ℕ) (w : i ≤ length s) (b : Between m (length s - i)) (room : length held ≡ most_held)
    (after left : List ℕ) (t : Run) (a : Are t after left (all_of s m.h (going (run_of m i) held ends))) where
  went : Went held ends (run_of m i) s m.h after left t
  went =
      let r : Runs s m.h (run_of m i) = record { long = b.long; within = w; single = refl; after = b.after.0; fits = b.after.1 } in
      let x = all_begin s m.h (run_of m i) held ends b.after.1 in
      rw (a.0, a.1.0, a.1.1, x) (all_went s m.h (most_records - m.count) (going (run_of m i) held ends) r room (omega arith))

  pub run-within : (i ≤ t.next) × (t.next ≤ length s) × (m.at + (t.next - i) ≤ most_bytes)
  run-within = (went.from, went.within, omega (arith, went.from, went.within, b.first.1))

  module _ (e : length m.head ≡ 8) where
    same : feed_of (together held ends m) (drop i s) ≡ rest m.rules m.h (m.at + (t.next - i)) t (head_after m.head i t.next) after left s
    same = ap (λ (c : Check). feed_of c (drop i s)) (marks_are m (length s - i) b held ends) ∙ went.same m.rules m.at m.head e b.first.1

    abbrev stops : Check
    stops = together after left (fresh m.h m.rules (verdict 17 (m.at + (t.next - i))))

    abbrev goes : Check
    goes = between m.rules m.h (m.at + (t.next - i)) t (head_after m.head i t.next) after left

    took_by : (v : Bool) → t.double ≡ v
        → Took held ends m s i after left (pick v (record { marks = stops.marks; next = length s }) (record { marks = goes.marks; next = t.next }))
    took_by true z =
        record {
          same = same ∙ ap (λ (v : Bool). pick v stops (feed_of goes (drop t.next s))) z ∙ sym (feed_end stops s (length s) (omega arith));
          from = w;
          within = omega arith;
        }
    took_by false z =
        record {
          same = same ∙ ap (λ (v : Bool). pick v stops (feed_of goes (drop t.next s))) z;
          from = went.from;
          within = went.within;
        }

    kept-room : length after ≡ most_held
    kept-room =
        let x = all_begin s m.h (run_of m i) held ends b.after.1 in
        rw (a.1.0, x) (all_room s m.h (most_records - m.count) (going (run_of m i) held ends) room)

    pub took_ran : (x : Taken) → x ≡ ran_of m (m.at + (t.next - i)) (length s) i t → Took held ends m s i after left x × (length after ≡ most_held)
    unfolding ran_of
    took_ran x q = (rw q (took_by t.double refl), kept-room)
