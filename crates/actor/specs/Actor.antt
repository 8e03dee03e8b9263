-- The actor form as a test (docs/FORMAT.md, "Commits"). Assumes nothing.
use Rattle.std.specs.Prelude.{ℕ, ◌+◌, ◌-◌, ◌*◌, Bool, ◌&&◌, ◌||◌, not, List, length, get_or, take, drop, eqb, ltb, leb}
use Rattle.ground.specs.Scan.{count_to}
use Rattle.std.specs.List.{list_all}

-- a byte from `0` to `9`
abbrev pub is_digit : ℕ → Bool
is_digit b = leb 48 b && leb b 57

-- neither `<`, `>`, NUL nor LF
abbrev pub is_plain : ℕ → Bool
is_plain b = not (eqb b 60) && not (eqb b 62) && not (eqb b 0) && not (eqb b 10)

-- the classes of bytes: those of a number, of a name and of an address
pub data Class : Type 0 where
  Digit : Class
  Name : Class
  Address : Class

-- a byte of a class: an address has no space either
unfoldable pub in_class : Class → ℕ → Bool
in_class Digit b = is_digit b
in_class Name b = is_plain b
in_class Address b = not (eqb b 32) && is_plain b

-- each byte is of the class
abbrev pub all_of : Class → List ℕ → Bool
all_of k s = list_all (in_class k) s

-- one or more bytes of a name, neither starting nor ending with a space
unfoldable pub is_name : List ℕ → Bool
is_name m = ltb 0 (length m) && not (eqb (get_or m 0 0) 32) && not (eqb (get_or m (length m - 1) 0) 32) && all_of Name m

-- a name and one space
unfoldable pub is_named : List ℕ → Bool
is_named p = eqb (get_or p (length p - 1) 0) 32 && is_name (take (length p - 1) p)

-- the number that two digits write
abbrev pub two_digits : ℕ → ℕ → ℕ
two_digits a b = (a - 48) * 10 + (b - 48)

-- `+` or `-`
abbrev pub is_sign : ℕ → Bool
is_sign b = eqb b 43 || eqb b 45

-- a sign and four digits, the first two 00 to 14, the last two 00 to 59
unfoldable pub is_zone : List ℕ → Bool
is_zone z =
    eqb (length z) 5
    && is_sign (get_or z 0 0)
    && all_of Digit (drop 1 z)
    && leb (two_digits (get_or z 1 0) (get_or z 2 0)) 14
    && leb (two_digits (get_or z 3 0) (get_or z 4 0)) 59

-- 1 to 10 digits, a space and a zone
unfoldable pub is_time : List ℕ → Bool
is_time d =
    ltb 0 (count_to 32 d) && leb (count_to 32 d) 10 && all_of Digit (take (count_to 32 d) d) && is_zone (drop (count_to 32 d + 1) d)

-- an address up to `>`, a space and a time
unfoldable pub is_addressed : List ℕ → Bool
is_addressed a =
    ltb 0 (count_to 62 a)
    && eqb (get_or a (count_to 62 a + 1) 0) 32
    && all_of Address (take (count_to 62 a) a)
    && is_time (drop (count_to 62 a + 2) a)

-- a name and a space up to `<`, then the address and the time
unfoldable pub is_actor : List ℕ → Bool
is_actor v = is_named (take (count_to 60 v) v) && is_addressed (drop (count_to 60 v + 1) v)
