-- What a test has to be that a list is sorted by. Assumes nothing.
use Rattle.std.specs.Prelude.{◌≡◌, Bool, true, false}

module _ {A : Type 0} (below : A → A → Bool) where
  -- a test that is a strict total order
  pub record Strict : Type 0 where
    pub self : (x : A) → below x x ≡ false
    pub chain : (x y z : A) → below x y ≡ true → below y z ≡ true → below x z ≡ true
    pub one : (x y : A) → below x y ≡ false → below y x ≡ false → x ≡ y
