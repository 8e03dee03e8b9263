-- Lookups among lent records, and how an answer lies in the numbers that a caller lends. Assumes nothing.
use Rattle.std.specs.Prelude.{ℕ, Bool, List, [], ◌∷◌, ◌++◌, length}
use Rattle.ground.specs.declared.Answer.{Answer}
use Rattle.entry.specs.Record.{records_of}
use Rattle.lookup.specs.Lookup.{lookup_in, any_in}
use Rattle.lookup.specs.declared.Looked.{Looked}
use Rattle.lookups.specs.Many.{many_answer}
use Rattle.border.specs.Border.{verdict_numbers}

-- the name and the sort sought among the records that numbers say
abbrev pub lookup_among : ℕ → List ℕ → List ℕ → List ℕ → Bool → Looked
lookup_among h object records name folder = lookup_in h object (records_of records) name folder

-- the name sought, of whatever sort
abbrev pub any_among : ℕ → List ℕ → List ℕ → List ℕ → Looked
any_among h object records name = any_in h object (records_of records) name

-- many names, with room for so many numbers of answers
abbrev pub many_answered : ℕ → List ℕ → List ℕ → List ℕ → List ℕ → List ℕ → Answer
many_answered h object records names sought answers = many_answer h object records names sought (length answers)

-- the verdict, index, how many records were compared
abbrev pub looked_numbers : Looked → List ℕ
looked_numbers l = verdict_numbers l.verdict ++ l.index ∷ l.compared ∷ []
