-- The choice by a test, a quoted text as bytes, and a part of some bytes: what the definitions of every layer are written with.
-- Assumes nothing.
use Rattle.std.specs.Prelude.{ℕ, ◌-◌, Bool, true, false, List, [], ◌∷◌, take, drop}
use Prim.Native.Char.{code}
use Prim.Native.String.{String}
use Prim.Native.String as text

-- the first of two where the test passes, and the second where it fails
abbrev pub pick : {A : Type 0} → Bool → A → A → A
pick true a b = a
pick false a b = b

-- a quoted text as the list of its characters' codes
abbrev pub ascii : String → List ℕ
ascii text.[] = []
ascii (text.◌∷◌ c s) = code c ∷ ascii s

-- the bytes from one place up to another, which is not included
abbrev pub part : ℕ → ℕ → List ℕ → List ℕ
part from to s = take (to - from) (drop from s)
