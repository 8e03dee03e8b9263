-- Laws of records, one for each way through a definition. Assumes nothing.
use Prim.Native.Nat.{ℕ, ◌+◌, ◌*◌, ◌/◌, ◌<◌, ◌≤◌}
use mathlib.Core.Path.{◌≡◌, ap, sym, ◌∙◌}
use mathlib.Core.Bool.{true, ◌&&◌}
use mathlib.Core.List.{List}
use lib.ListN.{length, get_or}
use lib.Seq.{sets}
use lib.Dec.{leb}
use borrow.Author.Tests.{lt-ltb, le-ltb, le-leb, leb-true}
use Rattle.ground.proofs.Laws.{and_left, and_right}
use Rattle.header.specs.Record.{width, header_of, flat, header_at, put_header, well_formed}
use Rattle.header.specs.declared.HeaderRecord.{HeaderRecord}

-- what a test says of a number, from the number's own name and the test's answer
pub told : {A : Type 0} (f : ℕ → A) {m n : ℕ} {g w : A} → m ≡ n → g ≡ f m → g ≡ w → f n ≡ w
told f p q r = ap f (sym p) ∙ sym q ∙ r

-- ---- records

module _ (l : List ℕ) (i : ℕ) where
  pub header-none : length l / width ≤ i → header_at l i ≡ header_of 0 0 0 0 0
  unfolding header_at
  header-none h = simp (le-ltb i (length l / width) h)

  pub header_is : i < length l / width
      → header_at l i
      ≡ header_of (get_or l (i * width) 0) (get_or l (i * width + 1) 0) (get_or l (i * width + 2) 0) (get_or l (i * width + 3) 0) (get_or l (i * width + 4) 0)
  unfolding header_at
  header_is h = simp (lt-ltb i (length l / width) h)

  pub put-none : (x : HeaderRecord) → length l / width ≤ i → put_header l i x ≡ l
  unfolding put_header
  put-none x h = simp (le-ltb i (length l / width) h)

  pub put_is : (x : HeaderRecord) → i < length l / width → put_header l i x ≡ sets l (i * width) (flat x)
  unfolding put_header
  put_is x h = simp (lt-ltb i (length l / width) h)

-- a well-formed record's ranges are inside, and its mark is 0 or 1
pub record WellFormed (x : HeaderRecord) (len : ℕ) : Type 0 where
  pub name_forward : x.name_start ≤ x.name_end
  pub name_inside : x.name_end ≤ len
  pub value_forward : x.value_start ≤ x.value_end
  pub value_inside : x.value_end ≤ len
  pub marked : x.mark ≤ 1

pub well_parts : (x : HeaderRecord) (len : ℕ) → well_formed x len ≡ true → WellFormed x len
unfolding well_formed
well_parts x len e =
    let a = leb x.name_start x.name_end in
    let b = leb x.name_end len in
    let c = leb x.value_start x.value_end in
    let d = leb x.value_end len in
    let f = leb x.mark 1 in
    let e1 = and_left (a && b && c && d) f e in
    let e2 = and_left (a && b && c) d e1 in
    let e3 = and_left (a && b) c e2 in
    record {
      name_forward = leb-true x.name_start x.name_end (and_left a b e3);
      name_inside = leb-true x.name_end len (and_right a b e3);
      value_forward = leb-true x.value_start x.value_end (and_right (a && b) c e2);
      value_inside = leb-true x.value_end len (and_right (a && b && c) d e1);
      marked = leb-true x.mark 1 (and_right (a && b && c && d) f e);
    }

pub well_made : (x : HeaderRecord) (len : ℕ) → WellFormed x len → well_formed x len ≡ true
unfolding well_formed
well_made x len w =
    simp (
      le-leb x.name_start x.name_end w.name_forward,
      le-leb x.name_end len w.name_inside,
      le-leb x.value_start x.value_end w.value_forward,
      le-leb x.value_end len w.value_inside,
    ) (le-leb x.mark 1 w.marked)
