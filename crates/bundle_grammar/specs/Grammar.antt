-- The form of a bundle as a grammar: what a packer writes (docs/FORMAT.md, "Bundles"). `proofs/Grammar.antt` joins it to the reading. Assumes nothing.
use Rattle.std.specs.Prelude.{ℕ, zero, suc, ◌<◌, ◌≤◌, ◌/◌, ◌%◌, ◌≡◌, ◌⊎◌, length, get_or, Some}
use mathlib.Core.List.{List, [], ◌∷◌, ◌++◌, Memᴰ}
use Rattle.ground.specs.Basics.{ascii}
use Rattle.ground.specs.Verdict.{most_records}
use Rattle.frame.specs.Frame.{head_of}
use Rattle.bundle.specs.Bundle.{Object, good, bundle_of}

-- a number as so many bytes, the lowest first
unfoldable pub as_little : ℕ → ℕ → List ℕ
as_little zero n = []
as_little (suc k) n = n % 256 ∷ as_little k (n / 256)

-- an object in a bundle: its id, its kind, its length in four bytes, its bytes
unfoldable pub object_bytes : Object → List ℕ
object_bytes o = o.id ++ (o.kind ∷ (as_little 4 (length o.bytes) ++ o.bytes))

-- one after the other
unfoldable pub objects_bytes : List Object → List ℕ
objects_bytes [] = []
objects_bytes (o ∷ os) = object_bytes o ++ objects_bytes os

-- the first version, and the second with its rule set
pub data Version : Type 0 where
  first : Version
  second : ℕ → Version

unfoldable pub version_bytes : Version → List ℕ
version_bytes first = as_little 2 1
version_bytes (second rules) = as_little 2 2 ++ as_little 2 rules

-- the rule set that a version means, and where the objects begin
abbrev pub rules_of : Version → ℕ
rules_of first = 2
rules_of (second rules) = rules

abbrev pub begins_at : Version → ℕ
begins_at first = 10
begins_at (second rules) = 12

-- a bundle: `GOB`, its version, H in one byte, how many objects in four, and the objects
unfoldable pub bundle_bytes : Version → ℕ → List Object → List ℕ
bundle_bytes v h os = ascii "GOB" ++ (version_bytes v ++ (h ∷ (as_little 4 (length os) ++ objects_bytes os)))

-- what can be an object of a bundle
pub record IsObject (h : ℕ) (o : Object) : Type 0 where
  pub sized : length o.id ≡ h
  pub low : 1 ≤ o.kind
  pub high : o.kind ≤ 4
  pub short : length o.bytes < 4294967296

-- some bytes are the bundle of some objects
pub record IsBundle (v : Version) (h : ℕ) (os : List Object) (s : List ℕ) : Type 0 where
  pub set : (rules_of v ≡ 1) ⊎ (rules_of v ≡ 2)
  pub length_of_ids : (h ≡ 20) ⊎ (h ≡ 32)
  pub few : length os ≤ most_records
  pub each : (o : Object) → Memᴰ o os → IsObject h o
  pub laid : s ≡ bundle_bytes v h os

-- every number of a list is a byte
abbrev pub AreBytes : List ℕ → Type 0
AreBytes s = (i : ℕ) → get_or s i 0 < 256

pub record Joined : Type 0 where
  -- what was written as a bundle of objects is read as that
  pub written_read : (v : Version) (h : ℕ) (os : List Object) (s : List ℕ) → IsBundle v h os s → bundle_of s ≡ good h os
  -- with its rule set
  pub written_head : (v : Version) (h : ℕ) (os : List Object) (s : List ℕ) → IsBundle v h os s
      → head_of s ≡ Some (record { h = h; rules = rules_of v; count = length os; from = begins_at v })
  -- bytes that are read as a bundle of objects are that bundle, as written in one of the two versions
  pub read_written : (h : ℕ) (os : List Object) (s : List ℕ) → AreBytes s → bundle_of s ≡ good h os → (v : Version) × IsBundle v h os s
