-- What exporting a tree object answers (docs/FORMAT.md, "Text"). Assumes nothing.
use Rattle.std.specs.Prelude.{ℕ, max, List, length, Err, Ok, Result}
use Rattle.ground.specs.Verdict.{counted, refused}
use Rattle.ground.specs.declared.Answer.{Answer}
use Rattle.output.specs.Output.{gated, fitted}
use Rattle.entry.specs.Entry.{entries_of}
use Rattle.rules.specs.Rules.{git_rules}
use Rattle.rules.specs.Gate.{rule_gate}
use Rattle.reading.specs.Listing.{listing, records_in, tally}
use Rattle.strict.specs.Strict.{strictly}
use Rattle.tree_text.specs.Text.{as_text}
use Rattle.ground.specs.declared.Verdict.{Verdict}

-- the text of the entries of an object
abbrev pub text_in : ℕ → List ℕ → List ℕ
text_in h s = as_text (entries_of h s (records_in (listing h s)))

-- the length of the text of an object that was read, or the refusal that reading it met
unfoldable pub counted_in : ℕ → List ℕ → Result ℕ Verdict → Answer
counted_in h s (Ok n) = counted (length (text_in h s))
counted_in h s (Err v) = refused v

-- exporting into so much room by rule set k: 1, 19, 2, then the refusals of strict reading, then 8
unfoldable pub export_answer : ℕ → ℕ → List ℕ → ℕ → Answer
export_answer k h s room = gated (rule_gate k h (max (length s) room) 0) (fitted room (counted_in h s (tally 0 (strictly (git_rules k) h s))))
