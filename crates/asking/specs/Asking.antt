-- What the words of a command line ask where they are `[sha256] [1|2]`. Assumes nothing.
use Rattle.std.specs.Prelude.{ℕ, List, []}
use Rattle.ground.specs.Basics.{pick}
use Rattle.words.specs.Words.{word_at, says_at, id_length_of, rule_set_at}
use Rattle.asking.specs.declared.Asked.{Asked}

-- where the line behind the one at a place starts
abbrev pub next_line : List ℕ → ℕ → ℕ
next_line s at = (word_at s at).next

-- the words from a place on, where the second line starts at another: none asks for rule set 2, one for the set that it says, more for 0; the
-- input starts behind an empty line
unfoldable pub asked_in : List ℕ → ℕ → ℕ → ℕ → Asked
asked_in s h first next =
    pick (says_at s first [])
    (record { h = h; rules = 2; from = next })
    (pick (says_at s next [])
    (record { h = h; rules = rule_set_at s first; from = next_line s next })
    (record { h = h; rules = 0; from = next_line s next }))

abbrev pub asked_from : List ℕ → ℕ → ℕ → Asked
asked_from s h first = asked_in s h first (next_line s first)

-- the whole line: the length of ids, then the rule set
unfoldable pub asked_of : List ℕ → Asked
asked_of s = asked_from s (id_length_of s).h (id_length_of s).next
