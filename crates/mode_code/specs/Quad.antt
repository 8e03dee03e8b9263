-- Four bytes as one number, and the texts told by two such numbers, which is what the leaves `quad` and `six_code` answer. Assumes nothing.
use Rattle.std.specs.Prelude.{ℕ, ◌+◌, ◌*◌, List, ◌&&◌, eqb, get_or}
use Rattle.ground.specs.Basics.{pick}
use Rattle.mode_code.specs.Code.{coded}

-- four bytes as one number, the first lowest
abbrev pub four : ℕ → ℕ → ℕ → ℕ → ℕ
four a b c d = a + b * 256 + c * 65536 + d * 16777216

-- that of the four bytes from a place on
abbrev pub quad_at : List ℕ → ℕ → ℕ
quad_at s i = four (get_or s i 0) (get_or s (i + 1) 0) (get_or s (i + 2) 0) (get_or s (i + 3) 0)

-- the code of a text of six digits and a space, by the numbers of its first four bytes and of its last four
unfoldable pub six_of : ℕ → ℕ → ℕ
six_of a b =
    pick (eqb a 0x36303031 && eqb b 0x20343436) (coded 0o100644 7)
    (pick (eqb a 0x37303031 && eqb b 0x20353537) (coded 0o100755 7)
    (pick (eqb a 0x30303231 && eqb b 0x20303030) (coded 0o120000 7) (pick (eqb a 0x30303631 && eqb b 0x20303030) (coded 0o160000 7) 0)))
