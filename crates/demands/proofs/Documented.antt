-- Names without a slash stand in the plain order of bytes, a folder's with a slash behind it. Assumes nothing.
use Prim.Native.Nat.{ℕ, suc}
use native.Mathlib.Decide.{dec_lt}
use native.Mathlib.Omega.{arith}
use mathlib.Core.Path.{◌≡◌, refl, sym, ap, ◌∙◌}
use mathlib.Core.Bool.{Bool, true, false, ◌&&◌, not, false≢true}
use mathlib.Core.List.{List, [], ◌∷◌, ◌++◌}
use lib.Dec.{eqb}
use borrow.Author.Tests.{eq-eqb}
use Rattle.ground.specs.Scan.{free_of}
use Rattle.order.specs.Order.{by_number, then_by, next, name_order}
use Rattle.order.proofs.Laws.{by_lt, by_gt, by-eq}
use Rattle.demands.specs.Demand2.{byte_order, sorted}
use Rattle.std.specs.declared.cmp.Ordering.{Ordering}
use Rattle.std.specs.declared.cmp.Ordering.TheVariants.{Equal}

free_first : (x : ℕ) (a : List ℕ) → free_of 47 (x ∷ a) ≡ true → (x ≡ 47 → ⊥) × (free_of 47 a ≡ true)
free_first x a h = go (eqb x 47) refl h
  where
    go : (v : Bool) → eqb x 47 ≡ v → (not v && free_of 47 a) ≡ true → (x ≡ 47 → ⊥) × (free_of 47 a ≡ true)
    go true e h = absurd (false≢true h)
    go false e h = ((λ q. false≢true (sym e ∙ eq-eqb x 47 q)), h)

-- a folder's name that has ended, against a byte that is no slash
slash-byte : (y : ℕ) (r : Ordering) → (y ≡ 47 → ⊥) → by_number 48 (suc y) ≡ then_by (by_number 47 y) r
slash-byte y r f = elim (dec_lt 47 y) [
  | yes l ↦ by_lt (omega arith) ∙ sym (ap (λ (o : Ordering). then_by o r) (by_lt l))
  | no l ↦ elim (dec_lt y 47) [
    | yes g ↦ by_gt (omega arith) ∙ sym (ap (λ (o : Ordering). then_by o r) (by_gt g))
    | no g ↦ absurd (f (omega arith))
  ]
]

byte_slash : (x : ℕ) (r : Ordering) → (x ≡ 47 → ⊥) → by_number (suc x) 48 ≡ then_by (by_number x 47) r
byte_slash x r f = elim (dec_lt x 47) [
  | yes l ↦ by_lt (omega arith) ∙ sym (ap (λ (o : Ordering). then_by o r) (by_lt l))
  | no l ↦ elim (dec_lt 47 x) [
    | yes g ↦ by_gt (omega arith) ∙ sym (ap (λ (o : Ordering). then_by o r) (by_gt g))
    | no g ↦ absurd (f (omega arith))
  ]
]

pub documented : (a : List ℕ) (s : Bool) (b : List ℕ) (t : Bool) → free_of 47 a ≡ true → free_of 47 b ≡ true
    → name_order a s b t ≡ byte_order (sorted a s) (sorted b t)
unfolding name_order next byte_order
documented [] true [] true p q = let z : by_number 47 47 ≡ Equal = by-eq refl in by-eq refl ∙ sym (ap (λ (o : Ordering). then_by o Equal) z)
documented [] true [] false p q = by_gt (omega arith)
documented [] false [] true p q = by_lt (omega arith)
documented [] false [] false p q = by-eq refl
documented [] true (y ∷ b) true p q = slash-byte y (byte_order [] (b ++ 47 ∷ [])) (free_first y b q).0
documented [] true (y ∷ b) false p q = slash-byte y (byte_order [] b) (free_first y b q).0
documented [] false (y ∷ b) true p q = by_lt (omega arith)
documented [] false (y ∷ b) false p q = by_lt (omega arith)
documented (x ∷ a) true [] true p q = byte_slash x (byte_order (a ++ 47 ∷ []) []) (free_first x a p).0
documented (x ∷ a) false [] true p q = byte_slash x (byte_order a []) (free_first x a p).0
documented (x ∷ a) true [] false p q = by_gt (omega arith)
documented (x ∷ a) false [] false p q = by_gt (omega arith)
documented (x ∷ a) true (y ∷ b) true p q = ap (then_by (by_number x y)) (documented a true b true (free_first x a p).1 (free_first y b q).1)
documented (x ∷ a) true (y ∷ b) false p q = ap (then_by (by_number x y)) (documented a true b false (free_first x a p).1 (free_first y b q).1)
documented (x ∷ a) false (y ∷ b) true p q = ap (then_by (by_number x y)) (documented a false b true (free_first x a p).1 (free_first y b q).1)
documented (x ∷ a) false (y ∷ b) false p q = ap (then_by (by_number x y)) (documented a false b false (free_first x a p).1 (free_first y b q).1)
