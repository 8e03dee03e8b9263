-- What the machine says of a finished entry is what the strict rules say of it after the entries before. Assumes nothing.
use Prim.Native.Nat.{ℕ, zero, suc, ◌+◌, ◌≤◌, ◌<◌, min}
use native.Mathlib.Omega.{arith}
use mathlib.Core.Path.{◌≡◌, refl, ap, sym, ◌∙◌}
use mathlib.Core.Bool.{Bool, true, false, ◌&&◌, ◌||◌}
use mathlib.Core.List.{List, [], ◌∷◌}
use lib.Dec.{ltb}
use lib.ListN.{length, get_or, take, drop, length-take}
use lib.Seq.{sets, get_or-take, take-append_seam}
use borrow.Author.Tests.{ne_eqb, ltb-true, ltb-false}
use Rattle.ground.specs.Basics.{pick}
use Rattle.ground.specs.Scan.{common_start, free_of}
use Rattle.ground.proofs.Laws.{sets_front}
use Rattle.mode.specs.Mode.{is_tree}
use Rattle.order.specs.Order.{is_below, by_number, next, name_order}
use Rattle.order.proofs.Laws.{below-is, by_lt, next-byte, next_past}
use Rattle.entry.specs.Entry.{Entry}
use Rattle.doubles.specs.Doubles.{named_before, top_is, last_name, held}
use Rattle.doubles.specs.Stack.{stack_of, kept_of, open_at, marks_at, is_double, open_of}
use Rattle.doubles.proofs.Theorem.{After, Ascends, held-within}
use Rattle.doubles.proofs.Placing.{Tracks, tracks_first, tracks-next, double_is}
use Rattle.rules.specs.Rules.{or_else, is_text, modes_of, name_number, bare_number, judge, stands_before, is_after, after_number, git_rules}
use Rattle.rules.proofs.Laws.{name-empty, number-bad, number_free}
use Rattle.arriving.specs.Feed.{most_held, most_ends, held_next, is_over, judged, leaves_none}
use Rattle.arriving.specs.declared.Stand.{Stand}
use Rattle.arriving.specs.declared.Stand.TheVariants.{Level, Over, NotOver}
use Rattle.arriving.specs.declared.Last.{Last}
use Rattle.arriving.specs.declared.Line.{Line}
use Rattle.arriving.proofs.Level.{stand_order, by_stand}
use Rattle.arriving.proofs.Runs.{stored_past, line_of}
use Rattle.doubles.specs.declared.Misplaced.TheVariants.{Double}
use Rattle.std.specs.Prelude.{Err, Ok, Result}
use Rattle.doubles.specs.declared.Misplaced.{Misplaced}

-- the held name is that of the entry before, if there is one; else it is empty and no folder's
abbrev pub Holds : List ℕ → Last → List Entry → Type 0
Holds held last [] = (last.size ≡ 0) × (last.folder ≡ false)
Holds held last (p ∷ ps) = (0 < last.size) × (last.size ≤ most_held) × (take last.size held ≡ p.name) × (last.folder ≡ is_tree p.mode)

pub holds_fits : (held : List ℕ) (last : Last) (seen : List Entry) → Holds held last seen → last.size ≤ most_held
holds_fits held last [] w = omega arith
holds_fits held last (p ∷ ps) w = w.1

by_over : (held : List ℕ) (last : Last) (l : Line) (g : Stand) (v : Bool) → ltb (held_next held last l.size) (next [] l.folder) ≡ v
    → is_over held last l g ≡ by_stand g v
by_over held last l Level v e = e
by_over held last l Over v e = refl
by_over held last l NotOver v e = refl

-- numbers in a row
or_row : (a b c d : ℕ) → or_else a (or_else b (or_else c d)) ≡ or_else (or_else a (or_else b c)) d
or_row zero zero zero d = refl
or_row zero zero (suc c) d = refl
or_row zero (suc b) c d = refl
or_row (suc a) b c d = refl

or_parts : (a b c : ℕ) → or_else a (or_else b c) ≡ 0 → (b ≡ 0) × (c ≡ 0)
or_parts zero zero c e = (refl, e)
or_parts zero (suc b) c e = absurd (omega arith)
or_parts (suc a) b c e = absurd (omega arith)

or_pick : (v : Bool) → ◌≡◌ {A = ℕ} (pick v 0 7) 0 → v ≡ true
or_pick true e = refl
or_pick false e = absurd (omega arith)

-- a name of which nothing is said is not empty
not-empty : (n : List ℕ) → bare_number n ≡ 0 → 0 < length n
not-empty [] p = absurd (omega (arith, number-bad [] (name-empty [] refl)))
not-empty (x ∷ n) p = omega arith

module _ (last : Last) (held : List ℕ) (written folder : Bool) (room : length held ≡ most_held) (fits : last.size ≤ most_held) (c : List ℕ) (small : length c ≤ most_held) where
  abbrev pub a· : List ℕ
  a· = take last.size held

  abbrev pub h· : List ℕ
  h· = sets held 0 c

  abbrev pub l· : Line
  l· = line_of 0 [] 0 0 0 0 last [] held written folder room fits c

  pub name-held : take (length c) h· ≡ c
  name-held = ap (take (length c)) (sets_front held c (omega arith)) ∙ take-append_seam c (drop (length c) held)

  size_is : length a· ≡ last.size
  size_is = length-take last.size held ∙ omega arith

  next-held : held_next h· last (length c) ≡ next (drop (length c) a·) last.folder
  next-held = go (ltb (length c) last.size) refl
    where
      go : (v : Bool) → ltb (length c) last.size ≡ v
          → pick v (get_or h· (length c) 0 + 1) (next [] last.folder) ≡ next (drop (length c) a·) last.folder
      go true e =
          let k = ltb-true (length c) last.size e in
          let x : get_or h· (length c) 0 ≡ get_or a· (length c) 0 = stored_past held c ∙ sym (get_or-take last.size held (length c) 0 k) in
          ap (λ (j : ℕ). j + 1) x ∙ sym (next-byte a· (length c) last.folder (omega (arith, size_is)))
      go false e = sym (next_past a· (length c) last.folder (omega (arith, size_is, ltb-false (length c) last.size e)))

  pub over-is : is_over h· last l· l·.stand ≡ is_below (name_order a· last.folder c folder)
  over-is = by_over h· last l· l·.stand _ (ap (λ (j : ℕ). ltb j (next [] folder)) next-held) ∙ sym (stand_order c a· last.folder folder)

  module _ (seen : List Entry) (w : Holds held last seen) (e : Entry) (named : e.name ≡ c) (sort : is_tree e.mode ≡ folder) (free : free_of 0 c ≡ true) where
    -- the first entry stands above an empty name
    first-over : (n : List ℕ) (s : Bool) → s ≡ false → 0 < length n → is_below (name_order [] s n folder) ≡ true
    unfolding name_order next
    first-over [] s q p = absurd (omega arith)
    first-over (y ∷ n) s q p = rw (q, below y)
      where
        below : (y : ℕ) → is_below (by_number 0 (suc y)) ≡ true
        below y = rw (by_lt {x = 0} {y = suc y} (omega arith))

    after_order : (seen : List Entry) → Holds held last seen → bare_number c ≡ 0 → is_below (name_order a· last.folder c folder) ≡ is_after seen e
    unfolding is_after stands_before
    after_order [] w p = rw w.0 (first-over c last.folder w.1 (not-empty c p))
    after_order (q ∷ qs) w p = rw (w.2, w.3, named, sort)

    after_is : bare_number c ≡ 0 → is_over h· last l· l·.stand ≡ is_after seen e
    after_is p = over-is ∙ after_order seen w p

    -- what is said of the entry by itself and after the one before, and then of its name among all before
    pub judged-is : (k : ℕ) (text : List ℕ) → is_text (modes_of k) text ≡ written
        → judge (git_rules k) seen text e ≡ or_else (judged h· last l·) (pick (named_before seen e.name) 17 0)
    unfolding judged judge git_rules after_number
    judged-is k text t =
        ap (λ (v : Bool). or_else (pick v 0 5) (or_else (name_number e.name) (or_else (pick (is_after seen e) 0 7) (pick (named_before seen e.name) 17 0)))) t
        ∙ ap (λ (i : ℕ). or_else (pick written 0 5) (or_else i (or_else (pick (is_after seen e) 0 7) (pick (named_before seen e.name) 17 0))))
        (ap name_number named ∙ sym (number_free c free))
        ∙ or_row (pick written 0 5) (bare_number c) (pick (is_after seen e) 0 7) (pick (named_before seen e.name) 17 0)
        ∙ ap (λ (i : ℕ). or_else i (pick (named_before seen e.name) 17 0))
        (go (bare_number c) refl
        ∙ ap (λ (n : List ℕ). or_else (pick written 0 5) (or_else (bare_number n) (pick (is_over h· last l· l·.stand) 0 7))) (sym name-held))
      where
        go : (v : ℕ) → bare_number c ≡ v
            → or_else (pick written 0 5) (or_else v (pick (is_after seen e) 0 7)) ≡ or_else (pick written 0 5) (or_else v (pick (is_over h· last l· l·.stand) 0 7))
        go zero p = rw (after_is p)
        go (suc v) p = refl

    -- of an entry of which nothing is said so far: its name is not empty, and it stands after the one before
    module _ (z : judged h· last l· ≡ 0) where
      parts : (bare_number c ≡ 0) × (◌≡◌ {A = ℕ} (pick (is_over h· last l· l·.stand) 0 7) 0)
      unfolding judged
      parts = let q = or_parts (pick written 0 5) (bare_number (take (length c) h·)) (pick (is_over h· last l· l·.stand) 0 7) z in (ap bare_number (sym name-held) ∙ q.0, q.1)

      pub name-some : 0 < length c
      name-some = not-empty c parts.0

      ascends : (seen : List Entry) → is_after seen e ≡ true → After seen e
      unfolding is_after stands_before
      ascends [] q = tt
      ascends (p ∷ ps) q = below-is _ q

      pub goes_up : Ascends seen → Ascends (e ∷ seen)
      goes_up up = (ascends seen (sym (after_is parts.0) ∙ or_pick _ parts.1), up)

-- ---- its name among all before

-- the answer, and what is kept
pub record Stands (ends : List ℕ) (ended shared : ℕ) (last : Last) (size : ℕ) (folder : Bool) (seen : List Entry) (e : Entry) : Type 0 where
  pub n : ℕ
  pub answer : open_of ends ended shared last.size (leaves_none last) size folder ≡ pick (named_before seen e.name) (Err Double) (Ok n)
  pub tracks : Tracks (marks_at ends (min ended (length ends)) shared last.size (leaves_none last)) n (e ∷ seen)

none_open : (a : List ℕ) (n : ℕ) → stack_of a n ≡ [] → n ≡ 0
unfolding stack_of
none_open a zero q = refl
none_open a (suc n) q = let y : suc (length (stack_of a n)) ≡ 0 = ap length q in absurd (omega arith)

module _ (ends : List ℕ) (ended : ℕ) (last : Last) (e : Entry) (long : length ends ≡ most_ends) where
  -- the first entry
  stands-first : (shared size : ℕ) (folder : Bool) → Tracks ends ended [] → last.size ≡ 0 → last.folder ≡ false → Stands ends ended shared last size folder [] e
  unfolding open_of open_at marks_at is_double kept_of stack_of named_before held top_is
  stands-first shared size folder t p q =
      let z : ended ≡ 0 = none_open ends ended t.holds in
      let m : min ended (length ends) ≡ 0 = omega arith in
      record { n = 0; answer = rw (m, p, q) (same folder); tracks = rw (m, p, q) (tracks_first ends e) }
    where
      same : (v : Bool) → pick {A = Result ℕ Misplaced} (v && false) (Err Double) (Ok 0) ≡ Ok 0
      same true = refl
      same false = refl

  -- one after another
  module _ (p : Entry) (ps : List Entry) (t : Tracks ends ended (p ∷ ps)) (up : Ascends (e ∷ p ∷ ps)) (size : length p.name ≡ last.size)
      (some : 0 < last.size) (fits : last.size ≤ most_held) (sort : last.folder ≡ is_tree p.mode) where
    or-false : (v : Bool) → (v || false) ≡ v
    or-false true = refl
    or-false false = refl

    leaves : leaves_none last ≡ is_tree p.mode
    leaves = rw (ne_eqb last.size 0 (λ z. omega arith)) (or-false last.folder ∙ sort)

    room : length (held (e ∷ p ∷ ps)) ≤ length ends
    unfolding last_name
    room = omega (arith, held-within (p ∷ ps) e up.1)

    within : min ended (length ends) ≡ ended
    within = omega (arith, t.within)

    stands-next : Stands ends ended (common_start p.name e.name) last (length e.name) (is_tree e.mode) (p ∷ ps) e
    unfolding open_of
    stands-next =
        record {
          n = open_at ends ended (common_start p.name e.name) (length p.name) (is_tree p.mode);
          answer =
              rw (leaves, within, sym size)
              (ap (λ (v : Bool). pick v (Err Double) (Ok (open_at ends ended (common_start p.name e.name) (length p.name) (is_tree p.mode))))
              (double_is ends ended p ps t e room (omega arith) up));
          tracks = rw (leaves, within, sym size) (tracks-next ends ended p ps t e room (omega arith));
        }

pub stands : (ends : List ℕ) (ended : ℕ) (last : Last) (held : List ℕ) (e : Entry) → length ends ≡ most_ends → length held ≡ most_held → (seen : List Entry)
    → Holds held last seen → Tracks ends ended seen → Ascends (e ∷ seen) → (c : List ℕ) (folder : Bool) → e.name ≡ c → is_tree e.mode ≡ folder
    → Stands ends ended (common_start (take last.size held) c) last (length c) folder seen e
stands ends ended last held e long room [] w t up c folder named sort =
    stands-first ends ended last e long (common_start (take last.size held) c) (length c) folder t w.0 w.1
stands ends ended last held e long room (p ∷ ps) w t up c folder named sort =
    let z : length p.name ≡ last.size = ap length (sym w.2) ∙ length-take last.size held ∙ omega (arith, w.1) in
    rw (sym named, sym sort, w.2) (stands-next ends ended last e long p ps t up z w.0 w.1 w.3)
