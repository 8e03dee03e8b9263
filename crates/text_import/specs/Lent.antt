-- Importing with memory lent for an element of each record. Assumes nothing.
use Rattle.std.specs.Prelude.{ℕ, Bool, ◌&&◌, List, ◌++◌, eqb, ltb, length, take, drop, Err, Ok, Result, ⊤}
use Rattle.std.proofs.lemmas.List.Edits.{sets}
use Rattle.ground.specs.Basics.{pick}
use Rattle.ground.specs.Verdict.{verdict, refused, gate_of}
use Rattle.ground.specs.declared.Answer.{Answer}
use Rattle.output.specs.Output.{gated, fitted}
use Rattle.keys.specs.Key.{key_at, below_by}
use Rattle.sorting.specs.Sort.{sort_by}
use Rattle.text_import.specs.Import.{Texts, texts, entries_in, ending, counted_of}
use Rattle.text_import.specs.Code.{elements_in}
use Rattle.ground.specs.declared.Verdict.{Verdict}

-- a text that was read to its end has more records than the memory has places
unfoldable pub too_many : Texts → ℕ → Bool
too_many t size = eqb (ending t).number 0 && ltb size (length (entries_in t))

-- 4 with the number of records, or what importing into so much room gives
unfoldable pub lent_by : Texts → ℕ → ℕ → Answer
lent_by t room size = pick (too_many t size) (refused (verdict 4 (length (entries_in t)))) (fitted room (counted_of t))

-- 1 and 2 by the text alone come first
unfoldable pub lent_answer : ℕ → ℕ → List ℕ → ℕ → ℕ → Answer
lent_answer k h s room size = gated (gate_of h (length s) 0) (lent_by (texts k h s) room size)

-- the first n in Git's order
abbrev pub front_in_order : List ℕ → ℕ → List ℕ → List ℕ
front_in_order s n l = sort_by (below_by (key_at s 9 0)) (take n l) ++ drop n l

-- the memory afterwards: the elements, as far as there is room, and in Git's order where all of them are there
unfoldable pub left_by : List ℕ → Texts → List ℕ → List ℕ
left_by s t list =
    pick (eqb (ending t).number 0)
    (pick (ltb (length list) (length (entries_in t))) (sets list 0 (elements_in t)) (front_in_order s (length (entries_in t)) (sets list 0 (elements_in t))))
    (sets list 0 (elements_in t))

-- it is left alone where a bound is passed
abbrev pub by_gate : Result ⊤ Verdict → List ℕ → List ℕ → List ℕ
by_gate (Ok tt) l list = l
by_gate (Err v) l list = list

unfoldable pub lent_list : ℕ → ℕ → List ℕ → List ℕ → List ℕ
lent_list k h s list = by_gate (gate_of h (length s) 0) (left_by s (texts k h s) list) list
