-- The words of a command line, one a line ahead of a program's input. Assumes nothing.
use Rattle.std.specs.Prelude.{ℕ, ◌+◌, min, Bool, List, length}
use Rattle.ground.specs.Basics.{pick, ascii, part}
use Rattle.ground.specs.Scan.{place_from, same_bytes}
use Rattle.words.specs.declared.Word.{Word}
use Rattle.words.specs.declared.Ids.{Ids}

-- the line that starts at a place and ends at an LF, which the next line follows, or at the end of the bytes
abbrev pub line_from : List ℕ → ℕ → Word
line_from s start = record { start = start; end = place_from 10 s start; next = min (place_from 10 s start + 1) (length s) }

-- the line from a place on; past the end of the bytes it is the empty one at their end
unfoldable pub word_at : List ℕ → ℕ → Word
word_at s at = line_from s (min at (length s))

-- its bytes
unfoldable pub text_at : List ℕ → ℕ → List ℕ
text_at s at = part (word_at s at).start (word_at s at).end s

-- the line from a place on is a text
abbrev pub says_at : List ℕ → ℕ → List ℕ → Bool
says_at s at text = same_bytes (text_at s at) text

-- ids have 32 bytes where the first word is `sha256`, and what follows starts behind it; else 20, and it starts at the front
unfoldable pub id_length_of : List ℕ → Ids
id_length_of s = pick (says_at s 0 (ascii "sha256")) (record { h = 32; next = (word_at s 0).next }) (record { h = 20; next = 0 })

-- the rule set that a word says, 1 or 2; 0 for any other word
unfoldable pub rule_set_at : List ℕ → ℕ → ℕ
rule_set_at s at = pick (says_at s at (ascii "1")) 1 (pick (says_at s at (ascii "2")) 2 0)
