-- A name that arrives byte by byte stands to the held one as Git's order says. Assumes nothing.
use Prim.Native.Nat.{ℕ, suc, ◌+◌, ◌≤◌, ◌<◌}
use native.Mathlib.Numerals.{add-one}
use native.Mathlib.Omega.{arith}
use mathlib.Core.Path.{◌≡◌, refl, ap, sym, ◌∙◌}
use mathlib.Core.Bool.{Bool, true, false}
use mathlib.Core.List.{List, [], ◌∷◌, ◌++◌}
use lib.Dec.{eqb, ltb}
use lib.ListN.{length, get_or, drop}
use borrow.Author.Tests.{eqb-true, eqb-false, ltb-true, ltb-false, lt-ltb, le-ltb}
use Rattle.ground.specs.Basics.{pick}
use Rattle.ground.specs.Scan.{common_start}
use Rattle.order.specs.Order.{is_below, by_number, next, name_order, then_by}
use Rattle.order.proofs.Laws.{by_lt, by_gt, by-eq}
use Rattle.arriving.specs.Feed.{by_byte, by_end, meet, sharing}
use Rattle.arriving.specs.declared.Stand.{Stand}
use Rattle.arriving.specs.declared.Stand.TheVariants.{Level, Over, NotOver}
use Rattle.arriving.specs.declared.Last.{Last}
use Rattle.std.specs.declared.cmp.Ordering.TheVariants.{Equal, Greater, Less}

-- how the bytes p stand to the name a, a folder's or not
unfoldable pub stand_of : List ℕ → List ℕ → Bool → Stand
stand_of [] a s = Level
stand_of (y ∷ p) [] s = by_end s y
stand_of (y ∷ p) (x ∷ a) s = pick (eqb x y) (stand_of p a s) (pick (ltb x y) Over NotOver)

-- ---- one byte more

abbrev last_of : List ℕ → Bool → Last
last_of a s = record { size = length a; folder = s }

ltb-suc : (n m : ℕ) → ltb (suc n) (suc m) ≡ ltb n m
ltb-suc n m = go (ltb n m) refl
  where
    go : (v : Bool) → ltb n m ≡ v → ltb (suc n) (suc m) ≡ v
    go true e = lt-ltb (suc n) (suc m) (omega (arith, ltb-true n m e))
    go false e = le-ltb (suc n) (suc m) (omega (arith, ltb-false n m e))

meet-suc : (st : Stand) (n m : ℕ) (s : Bool) (x b : ℕ) → meet st (record { size = suc m; folder = s }) (suc n) x b ≡ meet st (record { size = m; folder = s }) n x b
unfolding meet
meet-suc Level n m s x b = rw (ltb-suc n m)
meet-suc Over n m s x b = refl
meet-suc NotOver n m s x b = refl

meet-settled : (v : Bool) (last : Last) (n x b : ℕ) → meet (pick v Over NotOver) last n x b ≡ pick v Over NotOver
unfolding meet
meet-settled true last n x b = refl
meet-settled false last n x b = refl

pub stand_more : (p a : List ℕ) (s : Bool) (b : ℕ) → stand_of (p ++ (b ∷ [])) a s ≡ meet (stand_of p a s) (last_of a s) (length p) (get_or a (length p) 0) b
unfolding stand_of meet
stand_more [] [] s b = refl
stand_more [] (x ∷ a) s b = rw (lt-ltb 0 (suc (length a)) (omega arith))
stand_more (y ∷ p) [] s b = sym (meet-settled (ltb (next [] s) (y + 1)) (last_of [] s) (suc (length p)) 0 b)
stand_more (y ∷ p) (x ∷ a) s b = go (eqb x y) (stand_more p a s b)
  where
    go : (v : Bool) → stand_of (p ++ (b ∷ [])) a s ≡ meet (stand_of p a s) (last_of a s) (length p) (get_or a (length p) 0) b
        → pick v (stand_of (p ++ (b ∷ [])) a s) (pick (ltb x y) Over NotOver) ≡ meet (pick v (stand_of p a s) (pick (ltb x y) Over NotOver)) (last_of (x ∷ a) s) (suc (length p)) (get_or a (length p) 0) b
    go true ih = ih ∙ sym (meet-suc (stand_of p a s) (length p) (length a) s (get_or a (length p) 0) b)
    go false ih = sym (meet-settled (ltb x y) (last_of (x ∷ a) s) (suc (length p)) (get_or a (length p) 0) b)

-- and how many bytes are shared with one byte more
sharing-settled : (v : Bool) (n k : ℕ) → sharing (pick v Over NotOver) n k ≡ k
sharing-settled true n k = refl
sharing-settled false n k = refl

sharing-suc : (st : Stand) (n k : ℕ) → suc (sharing st n k) ≡ sharing st (suc n) (suc k)
sharing-suc Level n k = refl
sharing-suc Over n k = refl
sharing-suc NotOver n k = refl

pub common_none : (a : List ℕ) → common_start a [] ≡ 0
unfolding common_start
common_none [] = refl
common_none (x ∷ a) = refl

pub shared_more : (p a : List ℕ) (s : Bool) (b : ℕ) → common_start a (p ++ (b ∷ [])) ≡ sharing (stand_of (p ++ (b ∷ [])) a s) (length p + 1) (common_start a p)
unfolding stand_of common_start
shared_more [] [] s b = sym (sharing-settled (ltb (next [] s) (b + 1)) 1 0)
shared_more [] (x ∷ a) s b = go (eqb x b)
  where
    go : (v : Bool) → pick v (suc (common_start a [])) 0 ≡ sharing (pick v Level (pick (ltb x b) Over NotOver)) 1 0
    go true = ap suc (common_none a)
    go false = sym (sharing-settled (ltb x b) 1 0)
shared_more (y ∷ p) [] s b = sym (sharing-settled (ltb (next [] s) (y + 1)) (suc (length p) + 1) 0)
shared_more (y ∷ p) (x ∷ a) s b = go (eqb x y) (shared_more p a s b)
  where
    go : (v : Bool) → common_start a (p ++ (b ∷ [])) ≡ sharing (stand_of (p ++ (b ∷ [])) a s) (length p + 1) (common_start a p)
        → pick v (suc (common_start a (p ++ (b ∷ [])))) 0
        ≡ sharing (pick v (stand_of (p ++ (b ∷ [])) a s) (pick (ltb x y) Over NotOver)) (suc (length p) + 1) (pick v (suc (common_start a p)) 0)
    go true ih =
        let z : suc (length p + 1) ≡ suc (length p) + 1 = omega arith in
        ap suc ih ∙ sharing-suc (stand_of (p ++ (b ∷ [])) a s) (length p + 1) (common_start a p)
        ∙ ap (λ (n : ℕ). sharing (stand_of (p ++ (b ∷ [])) a s) n (suc (common_start a p))) z
    go false ih = sym (sharing-settled (ltb x y) (suc (length p) + 1) 0)

-- past the end of the held name nothing hangs on what stands there
pub meet-same : (st : Stand) (last : Last) (n x y b : ℕ) → (n < last.size → x ≡ y) → meet st last n x b ≡ meet st last n y b
unfolding meet
meet-same Over last n x y b f = refl
meet-same NotOver last n x y b f = refl
meet-same Level last n x y b f = go (ltb n last.size) refl
  where
    go : (v : Bool) → ltb n last.size ≡ v → pick v (by_byte x b) (by_end last.folder b) ≡ pick v (by_byte y b) (by_end last.folder b)
    go true e = rw (f (ltb-true n last.size e))
    go false e = refl

-- ---- the finished name

-- what the stand says, and where it is level the answer given
abbrev pub by_stand : Stand → Bool → Bool
by_stand Level v = v
by_stand Over v = true
by_stand NotOver v = false

below-ltb : (x y : ℕ) → is_below (by_number x y) ≡ ltb x y
unfolding by_number
below-ltb x y = go (ltb x y) (ltb y x)
  where
    go : (u v : Bool) → is_below (pick u Less (pick v Greater Equal)) ≡ u
    go true v = refl
    go false true = refl
    go false false = refl

settled_stand : (v w : Bool) → by_stand (pick v Over NotOver) w ≡ v
settled_stand true w = refl
settled_stand false w = refl

next-is : (y : ℕ) (p : List ℕ) (t : Bool) → next (y ∷ p) t ≡ y + 1
unfolding next
next-is y p t = rw (add-one y)

stand_ends : (y : ℕ) (p : List ℕ) (s t : Bool) → is_below (by_number (next [] s) (next (y ∷ p) t)) ≡ by_stand (by_end s y) (ltb (next [] s) (next [] t))
stand_ends y p s t = below-ltb (next [] s) (next (y ∷ p) t) ∙ ends ∙ sym (settled_stand (ltb (next [] s) (y + 1)) (ltb (next [] s) (next [] t)))
  where
    ends : ltb (next [] s) (next (y ∷ p) t) ≡ ltb (next [] s) (y + 1)
    ends = ap (ltb (next [] s)) (next-is y p t)

pub stand_order : (p a : List ℕ) (s t : Bool) → is_below (name_order a s p t) ≡ by_stand (stand_of p a s) (ltb (next (drop (length p) a) s) (next [] t))
unfolding stand_of name_order
stand_order [] [] s t = below-ltb (next [] s) (next [] t)
stand_order [] (x ∷ a) s t = below-ltb (next (x ∷ a) s) (next [] t)
stand_order (y ∷ p) [] s t = stand_ends y p s t
stand_order (y ∷ p) (x ∷ a) s t = go (eqb x y) refl (ltb x y) refl (stand_order p a s t)
  where
    w : Bool
    w = ltb (next (drop (length p) a) s) (next [] t)

    go : (u : Bool) → eqb x y ≡ u → (v : Bool) → ltb x y ≡ v → is_below (name_order a s p t) ≡ by_stand (stand_of p a s) w
        → is_below (then_by (by_number x y) (name_order a s p t)) ≡ by_stand (pick u (stand_of p a s) (pick v Over NotOver)) w
    go true e v f ih = rw (by-eq (eqb-true x y e)) ih
    go false e true f ih = rw (by_lt (ltb-true x y f))
    go false e false f ih = rw (by_gt (differs (eqb-false x y e) (ltb-false x y f)))
      where
        differs : (x ≡ y → ⊥) → y ≤ x → y < x
        differs n l = omega arith
