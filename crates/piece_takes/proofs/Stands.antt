-- Some bytes of a name taken at once. Assumes nothing.
use Prim.Native.Nat.{ℕ, zero, suc, ◌+◌, ◌-◌, ◌≤◌, ◌<◌, min}
use native.Mathlib.Nat.{add-zero}
use native.Mathlib.Numerals.{add-one}
use native.Mathlib.Decide.{dec_lt}
use native.Mathlib.Omega.{arith}
use mathlib.Core.Path.{◌≡◌, refl, ap, sym, ◌∙◌}
use mathlib.Core.Bool.{Bool, true, false}
use mathlib.Core.List.{List, [], ◌∷◌}
use mathlib.Core.Logic.{◌⊎◌, inl, inr}
use lib.Dec.{eqb, ltb}
use lib.ListN.{length, get_or, set, take, drop, length-take, length-drop}
use lib.Seq.{sets, drop-cons, take-take, get_or-set_other, get_or-take, get_or-drop}
use borrow.Author.Tests.{eq-eqb, ne_eqb, ltb-true, ltb-false, lt-ltb, le-ltb}
use Rattle.ground.specs.Basics.{pick, part}
use Rattle.ground.specs.Scan.{count_to, common_start}
use Rattle.ground.specs.Verdict.{most_bytes}
use Rattle.ground.proofs.Laws.{equal, count-le, count_at, common_same, common_differ, common_right}
use Rattle.order.specs.Order.{next}
use Rattle.arriving.specs.Feed.{most_held, together, placed_at, line_at, meet, sharing, feed_of}
use Rattle.arriving.specs.Bulk.{Took}
use Rattle.arriving.specs.declared.Stand.{Stand}
use Rattle.arriving.specs.declared.Stand.TheVariants.{Level, Over, NotOver}
use Rattle.arriving.specs.declared.Last.{Last}
use Rattle.arriving.specs.declared.Line.{Line}
use Rattle.arriving.specs.declared.Phase.TheVariants.{Name}
use Rattle.arriving.specs.declared.Marks.{Marks}
use Rattle.arriving.specs.declared.Check.{Check}
use Rattle.arriving.proofs.Bulk.{name-begin, name-again}
use Rattle.piece_name.specs.Names.{differs_of, level_of, stand_of, name_more, name_some}
use Rattle.piece_name.specs.declared.Stood.{Stood}
use Rattle.piece_name.proofs.Names.{stands}
use Rattle.piece_some.specs.Bytes.{taken_at, name_part}

-- how a name stands and how many bytes it shares after some bytes more, one after the other
unfoldable pub stand_after : List ℕ → Last → Stand → ℕ → ℕ → List ℕ → Stood
stand_after held last st size shared [] = record { stand = st; shared = shared }
stand_after held last st size shared (b ∷ bs) =
    stand_after held last (meet st last size (get_or held size 0) b) (size + 1) (sharing (meet st last size (get_or held size 0) b) (size + 1) shared) bs

-- ---- after the first difference

over-stays : (held : List ℕ) (last : Last) (size shared : ℕ) (bs : List ℕ) → stand_after held last Over size shared bs ≡ record { stand = Over; shared = shared }
unfolding stand_after meet
over-stays held last size shared [] = refl
over-stays held last size shared (b ∷ bs) = over-stays held last (size + 1) shared bs

under_stays : (held : List ℕ) (last : Last) (size shared : ℕ) (bs : List ℕ)
    → stand_after held last NotOver size shared bs ≡ record { stand = NotOver; shared = shared }
unfolding stand_after meet
under_stays held last size shared [] = refl
under_stays held last size shared (b ∷ bs) = under_stays held last (size + 1) shared bs

-- ---- a name that is level

meet-same : (last : Last) (size x b : ℕ) → size < last.size → x ≡ b → meet Level last size x b ≡ Level
unfolding meet
meet-same last size x b h e = rw (lt-ltb size last.size h, eq-eqb x b e)

meet_off : (last : Last) (size x b : ℕ) → size < last.size → (x ≡ b → ⊥) → meet Level last size x b ≡ pick (ltb x b) Over NotOver
unfolding meet
meet_off last size x b h e = rw (lt-ltb size last.size h, ne_eqb x b e)

meet_end : (last : Last) (size x b : ℕ) → last.size ≤ size → meet Level last size x b ≡ pick (ltb (next [] last.folder) (b + 1)) Over NotOver
unfolding meet
meet_end last size x b h = rw (le-ltb size last.size h)

module _ (held : List ℕ) (last : Last) where
  -- the first byte decides
  decided : (size shared b : ℕ) (bs : List ℕ) (v : Bool) → meet Level last size (get_or held size 0) b ≡ pick v Over NotOver
      → stand_after held last Level size shared (b ∷ bs) ≡ differs_of held last size shared (b ∷ bs) 0
  unfolding stand_after
  decided size shared b bs true e = rw (e, lt-ltb 0 (suc (length bs)) (omega arith)) (over-stays held last (size + 1) shared bs)
  decided size shared b bs false e = rw (e, lt-ltb 0 (suc (length bs)) (omega arith)) (under_stays held last (size + 1) shared bs)

  none_level : (size shared n : ℕ) (bs : List ℕ) → n ≡ 0
      → differs_of held last (size + n) (pick (eqb n 0) shared (size + n)) bs n ≡ differs_of held last size shared bs 0
  none_level size shared n bs e = rw (e, add-zero size)

  ltb-suc : (n m : ℕ) → ltb (suc n) (suc m) ≡ ltb n m
  ltb-suc n m = go (ltb n m) refl
    where
      go : (v : Bool) → ltb n m ≡ v → ltb (suc n) (suc m) ≡ v
      go true e = lt-ltb (suc n) (suc m) (omega (arith, ltb-true n m e))
      go false e = le-ltb (suc n) (suc m) (omega (arith, ltb-false n m e))

  shares-more : (size k : ℕ) (v : Bool) → eqb k 0 ≡ v → pick v (size + 1) (size + 1 + k) ≡ size + suc k
  shares-more size zero true e = omega arith
  shares-more size (suc k) true e = absurd (false-true (sym (ne_eqb (suc k) 0 (λ z. omega arith)) ∙ e))
    where
      false-true : ◌≡◌ {A = Bool} false true → ⊥
      false-true z = let y : ◌≡◌ {A = ℕ} 0 1 = cc in omega arith
  shares-more size k false e = omega arith

  one-level : (size shared k b : ℕ) (bs : List ℕ)
      → differs_of held last (size + 1 + k) (pick (eqb k 0) (size + 1) (size + 1 + k)) bs k
      ≡ differs_of held last (size + suc k) (pick (eqb (suc k) 0) shared (size + suc k)) (b ∷ bs) (suc k)
  one-level size shared k b bs =
      let y : size + 1 + k ≡ size + suc k = omega arith in
      rw (shares-more size k (eqb k 0) refl, y, ltb-suc k (length bs), ne_eqb (suc k) 0 (λ z. omega arith))

  part_cons : (size to : ℕ) → size < to → to ≤ length held → part size to held ≡ get_or held size 0 ∷ part (size + 1) to held
  part_cons size to h w =
      let y : to - size ≡ suc (to - (size + 1)) = omega arith in
      let z : size + 1 ≡ suc size = omega arith in
      rw (y, drop-cons held size 0 (omega arith), z)

  part_none : (size to : ℕ) → to ≤ size → part size to held ≡ []
  part_none size to h = let y : to - size ≡ 0 = omega arith in rw y

  common_none : (a : List ℕ) → common_start a [] ≡ 0
  common_none a = omega (arith, common_right a [])

  nothing : (b : List ℕ) → common_start [] b ≡ 0
  unfolding common_start
  nothing b = refl

  level_is : (size shared : ℕ) (bs : List ℕ) → size + length bs ≤ length held → (n : ℕ)
      → n ≡ common_start (part size (min last.size (length held)) held) bs
      → stand_after held last Level size shared bs ≡ differs_of held last (size + n) (pick (eqb n 0) shared (size + n)) bs n
  unfolding stand_after
  level_is size shared [] w n e = sym (none_level size shared n [] (e ∙ common_none _))
  level_is size shared (b ∷ bs) w n e =
      elim (dec_lt size last.size) [
        | yes h ↦ inside h (equal (get_or held size 0) b) (level_is (size + 1) (size + 1) bs (omega arith) _ refl)
        | no h ↦ decided size shared b bs (ltb (next [] last.folder) (b + 1)) (meet_end last size (get_or held size 0) b (omega arith))
            ∙ sym (none_level size shared n (b ∷ bs) (e ∙ ap (λ (a : List ℕ). common_start a (b ∷ bs)) (part_none size _ (omega arith)) ∙ nothing (b ∷ bs)))
      ]
    where
      rest : ℕ
      rest = common_start (part (size + 1) (min last.size (length held)) held) bs

      inside : size < last.size → (get_or held size 0 ≡ b) ⊎ (get_or held size 0 ≡ b → ⊥)
          → stand_after held last Level (size + 1) (size + 1) bs ≡ differs_of held last (size + 1 + rest) (pick (eqb rest 0) (size + 1) (size + 1 + rest)) bs rest
          → stand_after held last Level size shared (b ∷ bs) ≡ differs_of held last (size + n) (pick (eqb n 0) shared (size + n)) (b ∷ bs) n
      inside h (inl q) ih =
          let c : n ≡ suc rest = e ∙ ap (λ (a : List ℕ). common_start a (b ∷ bs)) (part_cons size _ (omega arith) (omega arith)) ∙ common_same _ _ _ _ q in
          rw (meet-same last size (get_or held size 0) b h q) ih
          ∙ one-level size shared rest b bs
          ∙ ap (λ (k : ℕ). differs_of held last (size + k) (pick (eqb k 0) shared (size + k)) (b ∷ bs) k) (sym c)
      inside h (inr q) ih =
          decided size shared b bs (ltb (get_or held size 0) b) (meet_off last size (get_or held size 0) b h q)
          ∙ sym (none_level size shared n (b ∷ bs) (e ∙ ap (λ (a : List ℕ). common_start a (b ∷ bs)) (part_cons size _ (omega arith) (omega arith))
          ∙ common_differ _ _ _ _ q))

  -- as it is told at once
  pub stand_is : (st : Stand) (size shared : ℕ) (bs : List ℕ) → length bs ≤ length held - size
      → stand_after held last st size shared bs ≡ stand_of held last st size shared bs
  unfolding stand_after level_of
  stand_is st size shared [] w = sym (stands held last st size shared)
  stand_is Level size shared (b ∷ bs) w = level_is size shared (b ∷ bs) (omega arith) _ refl
  stand_is Over size shared (b ∷ bs) w = over-stays held last size shared (b ∷ bs)
  stand_is NotOver size shared (b ∷ bs) w = under_stays held last size shared (b ∷ bs)

-- ---- the bytes are held, and fed

-- what is held before the name's next byte does not matter
held-before : (held : List ℕ) (last : Last) (at x : ℕ) (st : Stand) (size shared : ℕ) (bs : List ℕ) → at < size
    → stand_after (set held at x) last st size shared bs ≡ stand_after held last st size shared bs
unfolding stand_after
held-before held last at x st size shared [] h = refl
held-before held last at x st size shared (b ∷ bs) h =
    let y : get_or (set held at x) size 0 ≡ get_or held size 0 = get_or-set_other held at size x 0 (λ z. omega arith) in
    rw y (held-before held last at x (meet st last size (get_or held size 0) b) (size + 1) _ bs (omega arith))

module _ (m : Marks) (z : m.verdict.number ≡ 0) (ends : List ℕ) (l : Line) (s : List ℕ) (i end : ℕ) (r : end ≤ length s)
    (w : m.at + (end - i) ≤ most_bytes) where
  abbrev fed : List ℕ → ℕ → ℕ → Stood → Check
  fed held k size x = feed_of (together held ends (placed_at m (m.at + (k - i)) m.head (Name (line_at l size x.shared x.stand)))) (drop k s)

  fed-same : {h h' : List ℕ} {k k' size size' : ℕ} {x x' : Stood} → h ≡ h' → k ≡ k' → size ≡ size' → x ≡ x' → fed h k size x ≡ fed h' k' size' x'
  fed-same p q f g = rw (p, q, f, g)

  held_more : (n k : ℕ) (held : List ℕ) (size : ℕ) → k < length s
      → sets (set held size (get_or s k 0)) (size + 1) (take n (drop (k + 1) s)) ≡ sets held size (take (suc n) (drop k s))
  held_more n k held size h = rw (add-one size, add-one k, drop-cons s k 0 h)

  stood-more : (n k : ℕ) (held : List ℕ) (size shared : ℕ) (stand : Stand) → k < length s
      → stand_after (set held size (get_or s k 0)) m.last (meet stand m.last size (get_or held size 0) (get_or s k 0)) (size + 1)
      (sharing (meet stand m.last size (get_or held size 0) (get_or s k 0)) (size + 1) shared) (take n (drop (k + 1) s))
      ≡ stand_after held m.last stand size shared (take (suc n) (drop k s))
  unfolding stand_after
  stood-more n k held size shared stand h =
      held-before held m.last size (get_or s k 0) _ (size + 1) _ (take n (drop (k + 1) s)) (omega arith) ∙ rw (add-one k, drop-cons s k 0 h)

  names_more : (all : Check) (n k : ℕ) (held : List ℕ) (size shared : ℕ) (stand : Stand) → i ≤ k → k + n ≤ end → n ≤ most_held - size
      → ((j : ℕ) → j < n → get_or s (k + j) 0 ≡ 0 → ⊥) → all ≡ fed held k size (record { stand = stand; shared = shared })
      → all ≡ fed (sets held size (take n (drop k s))) (k + n) (size + n) (stand_after held m.last stand size shared (take n (drop k s)))
  unfolding stand_after
  names_more all zero k held size shared stand p q f g e = rw (add-zero k, add-zero size) e
  names_more all (suc n) k held size shared stand p q f g e =
      names_more all n (k + 1) (set held size (get_or s k 0)) (size + 1) _ _ (omega arith) (omega arith) (omega arith) later
      (name-again m z ends all held l size shared _ stand _ s i k end (get_or s k 0) p (omega arith) r w refl first (omega arith) refl refl e)
      ∙ fed-same (held_more n k held size (omega arith)) (omega arith) (omega arith) (stood-more n k held size shared stand (omega arith))
    where
      first : get_or s k 0 ≡ 0 → ⊥
      first x = let y : k + 0 ≡ k = omega arith in g 0 (omega arith) (ap (λ (j : ℕ). get_or s j 0) y ∙ x)

      later : (j : ℕ) → j < n → get_or s (k + 1 + j) 0 ≡ 0 → ⊥
      later j h x = let y : k + suc j ≡ k + 1 + j = omega arith in g (suc j) (omega arith) (ap (λ (c : ℕ). get_or s c 0) y ∙ x)

module _ (held ends : List ℕ) (m : Marks) (l : Line) (s : List ℕ) (i most : ℕ) (z : m.verdict.number ≡ 0) (p : m.phase ≡ Name l)
    (w : i + most ≤ length s) (a : m.at + most ≤ most_bytes) (room : length held ≡ most_held) where
  abbrev bs· : List ℕ
  bs· = part i (i + most) s

  abbrev n· : ℕ
  n· = min (most_held - l.size) (count_to 0 bs·)

  abbrev more· : List ℕ
  more· = name_more l bs·

  abbrev line· : Line
  line· = name_some held m.last l bs·

  bs_long : length bs· ≡ most
  bs_long = length-take (i + most - i) (drop i s) ∙ omega (arith, length-drop i s)

  n_most : n· ≤ most
  n_most = omega (arith, count-le 0 bs·, bs_long)

  more-is : take n· (drop i s) ≡ more·
  more-is = sym (take-take n· (i + most - i) (drop i s) (omega (arith, n_most)))

  more-long : length more· ≡ n·
  more-long = length-take n· bs· ∙ omega (arith, n_most, bs_long)

  no_nul : (j : ℕ) → j < n· → get_or s (i + j) 0 ≡ 0 → ⊥
  no_nul j h x =
      omega (
        arith,
        count_at 0 bs· j (omega (arith, n_most, bs_long))
            (get_or-take (i + most - i) (drop i s) j 0 (omega (arith, n_most)) ∙ get_or-drop i s j 0 ∙ x),
      )

  size_is : line·.size ≡ l.size + n·
  unfolding name_some
  size_is = ap (λ (k : ℕ). l.size + k) more-long

  pub names_took : Took held ends m s i (sets held l.size more·) ends (taken_at m i (name_part m.head l line·))
  unfolding name_some
  names_took =
      let d : ℕ = line·.size - l.size in
      let e : i + n· ≡ i + d = omega (arith, size_is) in
      let u : l.size + n· ≡ line·.size = sym size_is in
      let y : m.at + (i + d - i) ≡ m.at + d = omega arith in
      let x : stand_after held m.last l.stand l.size l.shared (take n· (drop i s)) ≡ stand_of held m.last l.stand l.size l.shared more·
      = ap (stand_after held m.last l.stand l.size l.shared) more-is
      ∙ stand_is held m.last l.stand l.size l.shared more· (omega (arith, more-long, room)) in
      record {
        same =
            names_more m z ends l s i (i + most) w (omega (arith, a)) _ n· i held l.size l.shared l.stand (omega arith) (omega (arith, n_most))
            (omega arith) no_nul (name-begin held ends m l s i p)
            ∙ fed-same m z ends l s i (i + most) w (omega (arith, a)) (ap (sets held l.size) more-is) e u x
            ∙ ap (λ (k : ℕ). feed_of (together (sets held l.size more·) ends (placed_at m k m.head (Name line·))) (drop (i + d) s)) y;
        from = omega arith;
        within = omega (arith, size_is, n_most);
      }
