-- A whole entry that lies in a piece, taken at once. Assumes nothing.
use Prim.Native.Nat.{ℕ, suc, ◌+◌, ◌-◌, ◌≤◌, ◌<◌}
use native.Mathlib.Omega.{arith}
use mathlib.Core.Path.{◌≡◌, refl, ap, sym, ◌∙◌}
use mathlib.Core.Bool.{Bool, true, false, ◌||◌}
use mathlib.Core.List.{List, []}
use lib.ListN.{length, get_or, take, drop, replicate, length-take, length-drop}
use lib.Seq.{sets, drop-cons, drop-drop}
use borrow.Author.Tests.{ne_eqb, lt-ltb}
use Rattle.ground.specs.Basics.{pick}
use Rattle.ground.specs.Scan.{count_to}
use Rattle.ground.specs.Verdict.{verdict, most_bytes, most_records}
use Rattle.ground.proofs.Laws.{count-is}
use Rattle.mode.specs.Mode.{is_tree}
use Rattle.mode.specs.Read.{read_mode}
use Rattle.mode.specs.declared.EntryMode.{EntryMode}
use Rattle.mode.proofs.Laws.{read_next}
use Rattle.order.specs.Order.{is_below, name_order}
use Rattle.doubles.specs.Stack.{open_of, if_below, place_of, marks_of}
use Rattle.rules.specs.Rules.{or_else, is_text, modes_of, bare_number}
use Rattle.arriving.specs.Feed.{most_held, together, fresh, is_over, judged, leaves_none, placing, ends_next, placed, closed, closed_ends, feed_of}
use Rattle.arriving.specs.declared.Last.{Last}
use Rattle.arriving.specs.declared.Line.{Line}
use Rattle.arriving.specs.declared.Phase.TheVariants.{Head, Id}
use Rattle.arriving.specs.declared.Marks.{Marks}
use Rattle.arriving.specs.declared.Check.{Check}
use Rattle.arriving.proofs.Steps as steps
use Rattle.arriving.proofs.Steps.{feed-more, feed_stopped, st, step_nul}
use Rattle.arriving.proofs.Runs.{ids_all, names-run, line_of, naming, mode-run}
use Rattle.arriving.proofs.Judged.{name-held, over-is}
use Rattle.doubles.specs.declared.Misplaced.{Misplaced}
use Rattle.doubles.specs.declared.Misplaced.TheVariants.{Double, NotAfter}
use Rattle.std.specs.Prelude.{Err, Ok, Result, Some}
use Rattle.std.specs.declared.cmp.Ordering.{Ordering}
use Rattle.std.specs.declared.cmp.Ordering.TheVariants.{Equal, Greater, Less}

or-false : (v : Bool) → (v || false) ≡ v
or-false true = refl
or-false false = refl

-- the entry before leaves no name open exactly where it is a folder
leaves : (last : Last) → 0 < last.size → leaves_none last ≡ last.folder
leaves last s = rw (ne_eqb last.size 0 (λ z. omega arith)) (or-false last.folder)

-- what stands after is below
below-is : (o : Ordering) (x y : Result ℕ Misplaced) → if_below o x (Err NotAfter) ≡ y → (y ≡ Err NotAfter → ⊥) → o ≡ Less
below-is Less x y e n = refl
below-is Equal x y e n = absurd (n (sym e))
below-is Greater x y e n = absurd (n (sym e))

-- nothing is said of an entry
nothing_said : (a : Bool) (i : ℕ) (v : Bool) → a ≡ true → i ≡ 0 → v ≡ true → or_else (pick a 0 5) (or_else i (pick v 0 7)) ≡ 0
nothing_said a i v e f g = rw (e, f, g)

module _ (k : ℕ) (ends : List ℕ) (ended h at count : ℕ) (last : Last) (held head xs : List ℕ) (room : length held ≡ most_held) (fits : last.size ≤ most_held)
    (m : EntryMode) (n : ℕ) (eight : length head ≡ 8) (few : count < most_records) (big : 8 < h) (r : read_mode xs ≡ Some (m, n))
    (within : at + length xs ≤ most_bytes) (g : count_to 0 (drop n xs) ≤ most_held) (j : count_to 0 (drop n xs) + 1 + h ≤ length (drop n xs)) where
  abbrev ys· : List ℕ
  ys· = drop n xs

  abbrev n· : ℕ
  n· = count_to 0 (drop n xs)

  abbrev c· : List ℕ
  c· = take n· ys·

  abbrev zs· : List ℕ
  zs· = drop (suc n·) ys·

  abbrev text· : Bool
  text· = is_text (modes_of k) (take (n - 1) (take 8 xs))

  abbrev line· : Line
  line· = line_of k ends ended h at count last (take 8 xs) held text· (is_tree m.internal) room fits c·

  abbrev held· : List ℕ
  held· = sets held 0 c·

  abbrev marks· : Marks
  marks· = steps.marks_of k ended h (at + n + n· + 1 + (h - 1)) at count last (take 8 xs) (Id line· 1)

  abbrev start· : Check
  start· = st k ends ended held h at at count last head (Head 0)

  left_is : length ys· ≡ length xs - n
  left_is = length-drop n xs

  start-le : n ≤ length xs
  start-le = (read_next xs m.internal n r).1

  rest-is : length zs· ≡ length ys· - suc n·
  rest-is = length-drop (suc n·) ys·

  size_is : length c· ≡ n·
  size_is = length-take n· ys· ∙ omega arith

  -- to the last byte of the id
  closing : feed_of start· xs
      ≡ feed_of (together held· (closed_ends ends marks· line· (judged held· last line·)) (closed ends marks· line· (judged held· last line·))) (drop h zs·)
  closing =
      mode-run k ends ended h at count last held head xs room fits m n (omega (arith, start-le, left_is)) eight few within big r
      ∙ names-run k ends ended h at count last (take 8 xs) held text· (is_tree m.internal) room fits ys· [] (at + n) (omega arith)
      (omega (arith, start-le, left_is))
      ∙ ap (feed_of (naming k ends ended h at count last (take 8 xs) held text· (is_tree m.internal) room fits c· (at + n + n·)))
      (drop-cons ys· n· 0 (omega arith))
      ∙ feed-more _ (get_or ys· n· 0) zs·
      ∙ ap (λ (c : Check). feed_of c zs·)
      (step_nul k ends ended h (at + n + n·) at count last held· (take 8 xs) (get_or ys· n· 0) (omega (arith, start-le, left_is)) line·
      (count-is 0 ys· (omega arith)))
      ∙ ids_all k ends ended h at count last held· (take 8 xs) line· zs· (at + n + n· + 1) h (omega arith) (omega (arith, rest-is))
      (omega (arith, start-le, left_is, rest-is))

  module _ (written : text· ≡ true) (named : bare_number c· ≡ 0) (some : 0 < last.size) (p : Result ℕ Misplaced)
      (q : p ≡ place_of ends ended (take last.size held) last.folder c· (is_tree m.internal))
      (after : p ≡ Err NotAfter → ⊥) where
    a-is : length (take last.size held) ≡ last.size
    a-is = length-take last.size held ∙ omega arith

    below : name_order (take last.size held) last.folder c· (is_tree m.internal) ≡ Less
    unfolding place_of
    below = below-is _ _ p (sym q) after

    said : judged held· last line· ≡ 0
    unfolding judged
    said =
        let o = over-is last held text· (is_tree m.internal) room fits c· (omega (arith, size_is)) ∙ ap is_below below in
        let e = ap bare_number (name-held last held text· (is_tree m.internal) room fits c· (omega (arith, size_is))) ∙ named in
        nothing_said text· (bare_number (take (length c·) held·)) (is_over held· last line· line·.stand) written e o

    placing-is : placing ends marks· line· ≡ p
    unfolding place_of open_of
    placing-is = sym (q ∙ rw (below, leaves last some, a-is))

    ends_is : (left : List ℕ) → left ≡ marks_of ends ended (take last.size held) last.folder c· (is_tree m.internal) → ends_next ends marks· line· ≡ left
    unfolding marks_of
    ends_is left e = sym (e ∙ rw (below, leaves last some, a-is))

    module _ (left : List ℕ) (e : left ≡ marks_of ends ended (take last.size held) last.folder c· (is_tree m.internal)) where
      goes : feed_of start· xs ≡ feed_of (together held· left (placed marks· line· p)) (drop h zs·)
      unfolding closed closed_ends
      goes =
          closing
          ∙ ap (λ (v : ℕ). feed_of (together held· (closed_ends ends marks· line· v) (closed ends marks· line· v)) (drop h zs·)) said
          ∙ ap (λ (v : Result ℕ Misplaced). feed_of (together held· (ends_next ends marks· line·) (placed marks· line· v)) (drop h zs·)) placing-is
          ∙ ap (λ (v : List ℕ). feed_of (together held· v (placed marks· line· p)) (drop h zs·)) (ends_is left e)

      rest_at : drop h zs· ≡ drop (n + (n· + 1 + h)) xs
      rest_at = drop-drop h (suc n·) ys· ∙ drop-drop (suc n· + h) n xs ∙ ap (λ (i : ℕ). drop i xs) (sums n n· h)
        where
          sums : (a b c : ℕ) → a + (suc b + c) ≡ a + (b + 1 + c)
          sums a b c = omega arith

      pub entry-fine : (i : ℕ) → p ≡ Ok i
          → feed_of start· xs
          ≡ feed_of (st k left i held· h (at + (n + (n· + 1 + h))) (at + (n + (n· + 1 + h))) (count + 1)
          (record { size = n·; folder = is_tree m.internal }) (replicate 8 0) (Head 0))
          (drop (n + (n· + 1 + h)) xs)
      unfolding placed
      entry-fine i f =
          let a : at + n + n· + 1 + (h - 1) + 1 ≡ at + (n + (n· + 1 + h)) = omega arith in
          goes ∙ ap (λ (v : Result ℕ Misplaced). feed_of (together held· left (placed marks· line· v)) (drop h zs·)) f
          ∙ rw (lt-ltb count most_records few, a, rest_at, size_is)

      pub entry_double : p ≡ Err Double → feed_of start· xs ≡ together held· left (fresh h k (verdict 17 at))
      unfolding placed
      entry_double f =
          goes ∙ ap (λ (v : Result ℕ Misplaced). feed_of (together held· left (placed marks· line· v)) (drop h zs·)) f
          ∙ feed_stopped (together held· left (fresh h k (verdict 17 at))) (drop h zs·) (λ z. omega arith)
