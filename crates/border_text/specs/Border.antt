-- What a lent output has after a tree was to be written to it as text, or from text. Assumes nothing.
use Rattle.std.specs.Prelude.{ℕ, List, length}
use Rattle.ground.specs.Verdict.{stored}
use Rattle.ground.specs.declared.Answer.{Answer}
use Rattle.tree_export.specs.Export.{text_in, export_answer}
use Rattle.text_import.specs.Import.{texts, imported, import_answer}

-- the text of a strict object: the answer, and the output
abbrev pub export_answered : ℕ → ℕ → List ℕ → List ℕ → Answer
export_answered k h bytes out = export_answer k h bytes (length out)

abbrev pub export_output : ℕ → ℕ → List ℕ → List ℕ → List ℕ
export_output k h bytes out = stored (export_answered k h bytes out).verdict (text_in h bytes) out

-- the strict object of a text: the answer, and the output
abbrev pub import_answered : ℕ → ℕ → List ℕ → List ℕ → Answer
import_answered k h text out = import_answer k h text (length out)

abbrev pub import_output : ℕ → ℕ → List ℕ → List ℕ → List ℕ
import_output k h text out = stored (import_answered k h text out).verdict (imported (texts k h text)) out
