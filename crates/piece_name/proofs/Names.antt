-- The ways through the leaves that take some bytes of a name at once. Assumes nothing.
use Prim.Native.Nat.{ℕ, ◌+◌, ◌-◌, ◌≤◌, ◌<◌, min}
use native.Mathlib.Nat.{add-zero}
use native.Mathlib.Omega.{arith}
use mathlib.Core.Path.{◌≡◌, refl, ap, sym, ◌∙◌}
use mathlib.Core.Logic.{◌⊎◌, inl, inr}
use mathlib.Core.List.{List, []}
use lib.Dec.{eqb}
use lib.ListN.{length, get_or, take, drop, length-take, length-drop}
use lib.Seq.{sets}
use borrow.Author.Tests.{lt-ltb, le-ltb}
use Rattle.ground.specs.Basics.{pick, part}
use Rattle.ground.specs.Scan.{count_to, place_from, common_start}
use Rattle.ground.proofs.Laws.{common_left, common_right, count-le, count-take}
use Rattle.arriving.specs.Feed.{most_held, meet, line_at}
use Rattle.arriving.specs.declared.Stand.{Stand}
use Rattle.arriving.specs.declared.Stand.TheVariants.{Level, Over, NotOver}
use Rattle.arriving.specs.declared.Last.{Last}
use Rattle.arriving.specs.declared.Line.{Line}
use Rattle.piece_name.specs.Names.{differs_of, shared_of, level_of, stand_of, name_more, line_of, name_some}
use Rattle.piece_name.specs.declared.Stood.{Stood}

module _ (held : List ℕ) (last : Last) where
  none_level : (size shared n : ℕ) (bs : List ℕ) → n ≡ 0 → shared_of held last size shared bs n ≡ differs_of held last size shared bs 0
  none_level size shared n bs e = rw (e, add-zero size)

  part_none : (size to : ℕ) → to ≤ size → part size to held ≡ []
  part_none size to h = let y : to - size ≡ 0 = omega arith in rw y

  nothing : (b : List ℕ) → common_start [] b ≡ 0
  unfolding common_start
  nothing b = refl

  -- the two ways through `stand_level`
  module _ (size shared : ℕ) (bs : List ℕ) (to : ℕ) (t : to ≡ min last.size (length held)) (r : Stood) where
    level_by : (n : ℕ) → n ≡ common_start (part size to held) bs → level_of held last size shared bs ≡ shared_of held last size shared bs n
    unfolding level_of
    level_by n q = ap (shared_of held last size shared bs) (sym (q ∙ ap (λ (k : ℕ). common_start (part size k held) bs) t))

    pub level_past : to ≤ size → r ≡ differs_of held last size shared bs 0 → r ≡ level_of held last size shared bs
    level_past h e =
        e ∙ sym (level_by _ refl ∙ none_level size shared _ bs (ap (λ (a : List ℕ). common_start a bs) (part_none size to h) ∙ nothing bs))

    pub level_met : (n : ℕ) → n ≡ common_start (part size to held) bs → (s : ℕ) → s ≡ pick (eqb n 0) shared (size + n)
        → r ≡ differs_of held last (size + n) s bs n → r ≡ level_of held last size shared bs
    level_met n q s z e = e ∙ ap (λ (k : ℕ). differs_of held last (size + n) k bs n) z ∙ sym (level_by n q)

  -- what it shares ends where the held name does
  pub shares-within : (size to : ℕ) (bs : List ℕ) (n : ℕ) → to ≡ min last.size (length held) → size < to → n ≡ common_start (part size to held) bs
      → size + n ≤ length held
  shares-within size to bs n t h e =
      omega (arith, common_left (part size to held) bs, length-take (to - size) (drop size held), length-drop size held)

  -- the ways through the other two
  pub decides : (at shared : ℕ) (bs : List ℕ) (n x : ℕ) (st : Stand) → n < length bs → x ≡ get_or held at 0 → st ≡ meet Level last at x (get_or bs n 0)
      → record { stand = st; shared = shared } ≡ differs_of held last at shared bs n
  decides at shared bs n x st h e f = rw (lt-ltb n (length bs) h, f, e)

  pub stays_level : (at shared : ℕ) (bs : List ℕ) (n : ℕ) → length bs ≤ n → record { stand = Level; shared = shared } ≡ differs_of held last at shared bs n
  stays_level at shared bs n h = rw (le-ltb n (length bs) h)

  pub after_level : (st : Stand) (size shared : ℕ) (bs : List ℕ) (r : Stood) → st ≡ Level → r ≡ level_of held last size shared bs
      → r ≡ stand_of held last st size shared bs
  after_level st size shared bs r e f = rw e f

  pub after-decided : (st : Stand) (size shared : ℕ) (bs : List ℕ) → (st ≡ Over) ⊎ (st ≡ NotOver)
      → record { stand = st; shared = shared } ≡ stand_of held last st size shared bs
  after-decided st size shared bs (inl e) = rw e
  after-decided st size shared bs (inr e) = rw e

  -- nothing more comes
  pub stands : (st : Stand) (size shared : ℕ) → stand_of held last st size shared [] ≡ record { stand = st; shared = shared }
  unfolding level_of
  stands Level size shared =
      let a : List ℕ = part size (min last.size (length held)) held in
      none_level size shared (common_start a []) [] (omega (arith, common_right a []))
  stands Over size shared = refl
  stands NotOver size shared = refl

-- ---- some bytes of a name

-- how many they are, found as the place of a NUL
module _ (room : ℕ) (bs : List ℕ) (n k : ℕ) (e : n ≡ min room (length bs)) (q : k ≡ place_from 0 (take n bs) 0) where
  pub bytes-are : k ≡ min room (count_to 0 bs)
  unfolding place_from
  bytes-are = omega (arith, q, e, count-take 0 n bs, count-le 0 bs)

module _ (held : List ℕ) (last : Last) (l : Line) (bs : List ℕ) where
  -- no more can be held
  module _ (h : most_held ≤ l.size) where
    no_more : name_more l bs ≡ []
    no_more = let z : min (most_held - l.size) (count_to 0 bs) ≡ 0 = omega arith in ap (λ (n : ℕ). take n bs) z

    pub held_full : held ≡ sets held l.size (name_more l bs)
    held_full = sym (ap (sets held l.size) no_more)

    pub line_full : l ≡ name_some held last l bs
    unfolding name_some
    line_full =
        sym (ap (λ (c : List ℕ). line_of l (length c) (stand_of held last l.stand l.size l.shared c)) no_more
        ∙ ap (line_of l 0) (stands held last l.stand l.size l.shared)
        ∙ ap (λ (n : ℕ). line_at l n l.shared l.stand) (add-zero l.size))

  module _ (k : ℕ) (e : k ≡ min (most_held - l.size) (count_to 0 bs)) where
    pub more-fits : (k ≤ most_held - l.size) × (k ≤ length bs)
    more-fits = (omega arith, omega (arith, count-le 0 bs))

    more-is : take k bs ≡ name_more l bs
    more-is = ap (λ (n : ℕ). take n bs) e

    pub held_more : (after : List ℕ) → after ≡ sets held l.size (take k bs) → after ≡ sets held l.size (name_more l bs)
    held_more after h = h ∙ ap (sets held l.size) more-is

    pub line-more : (x : Stood) → x ≡ stand_of held last l.stand l.size l.shared (take k bs)
        → record { written = l.written; folder = l.folder; size = l.size + k; shared = x.shared; stand = x.stand } ≡ name_some held last l bs
    unfolding name_some
    line-more x h =
        let z : k ≡ length (take k bs) = sym (length-take k bs ∙ omega (arith, more-fits)) in
        ap (line_of l k) h ∙ ap (λ (n : ℕ). line_of l n (stand_of held last l.stand l.size l.shared (take k bs))) z
        ∙ ap (λ (c : List ℕ). line_of l (length c) (stand_of held last l.stand l.size l.shared c)) more-is

-- a line has so many bytes more
pub line-size : (held : List ℕ) (last : Last) (l : Line) (bs : List ℕ)
    → ((name_some held last l bs).size ≡ l.size + length (name_more l bs)) × (length (name_more l bs) ≤ length bs)
unfolding name_some
line-size held last l bs = (refl, omega (arith, length-take (min (most_held - l.size) (count_to 0 bs)) bs))
