-- What is over its bound is refused 2 in every call: the laws of specs/Bounds.antt. Assumes nothing.
use Prim.Native.Nat.{ℕ, ◌/◌, max}
use native.Mathlib.Omega.{arith}
use mathlib.Core.Path.{◌≡◌, refl, subst, ◌∙◌}
use mathlib.Core.Bool.{Bool, true, false}
use mathlib.Core.List.{List}
use mathlib.Core.Logic.{◌⊎◌, inl, inr}
use lib.Dec.{leb}
use lib.ListN.{length}
use borrow.Author.Tests.{leb-true, leb-false}
use Rattle.ground.specs.Verdict.{refused, size_gate, gate_of, most_bytes}
use Rattle.ground.proofs.Laws.{size-bytes, size-records, gate_id}
use Rattle.output.specs.Output.{fitted, gated}
use Rattle.mode.proofs.Laws.{alone-shut}
use Rattle.entry.specs.Record.{many, records_of}
use Rattle.entry.specs.declared.EntryRecord.{EntryRecord}
use Rattle.entry.proofs.Laws.{step-shut}
use Rattle.reading.specs.Listing.{listing}
use Rattle.rules.specs.Rules.{git_rules}
use Rattle.strict.specs.Strict.{strictly, strict_answer}
use Rattle.rules.specs.Gate.{rule_gate}
use Rattle.rules.proofs.Laws.{rule_known}
use Rattle.reading.proofs.Laws.{answer-shut}
use Rattle.lookup.specs.Halving.{declined}
use Rattle.lookup.specs.Lookup.{lookup_in}
use Rattle.tree_write.specs.Write.{tree_size, tree_answer}
use Rattle.header.specs.Record.{width}
use Rattle.header.specs.declared.CommitParts.{CommitParts}
use Rattle.header.specs.declared.HeaderRecord.{HeaderRecord}
use Rattle.unfold.specs.Unfold.{gate_plan, unfold_plan, answer_of, unfold_answer}
use Rattle.commit_fields.specs.Fields.{refusal}
use Rattle.commit_read.specs.Read.{refused_read, commit_answer, commit_outcome}
use Rattle.commit_fields.proofs.Laws.{outcome_shut}
use Rattle.commit_read.proofs.Laws.{answer_fails}
use Rattle.commit_check.specs.Check.{after, checked}
use Rattle.commit_write.specs.Write as write
use Rattle.walk.specs.Lent as lent
use Rattle.difference.specs.Whole as difference
use Rattle.tables.specs.Bounds.{Over, OneLength, two, OverLaws}
use Rattle.std.specs.Prelude.{Err}

size-over : (bytes records : ℕ) → Over bytes records → size_gate bytes records ≡ Err two
size-over bytes records (inl p) = size-bytes bytes records p
size-over bytes records (inr p) = go (leb bytes most_bytes) refl
  where
    go : (b : Bool) → leb bytes most_bytes ≡ b → size_gate bytes records ≡ Err two
    go true q = size-records bytes records (leb-true bytes most_bytes q) p
    go false q = size-bytes bytes records (leb-false bytes most_bytes q)

gate_over : (h bytes records : ℕ) → OneLength h → Over bytes records → gate_of h bytes records ≡ Err two
gate_over h bytes records i o = gate_id h bytes records i ∙ size-over bytes records o

-- ---- each call, behind its gate

strict-over : (k h : ℕ) (s lent : List ℕ) → (k ≡ 1) ⊎ (k ≡ 2) → OneLength h → Over (length s) (many (length lent)) → strict_answer k h s lent ≡ refused two
strict-over k h s lent j i o =
    answer-shut (strictly (git_rules k) h s) (rule_gate k h (length s) (many (length lent))) (many (length lent)) two
    (rule_known k h (length s) (many (length lent)) j ∙ gate_over h (length s) (many (length lent)) i o)

look-over : (h : ℕ) (object : List ℕ) (records : List EntryRecord) (name : List ℕ) (folder : Bool) → OneLength h
    → Over (max (length object) (length name)) (length records) → lookup_in h object records name folder ≡ declined two
unfolding lookup_in
look-over h object records name folder i o = rw (gate_over h (max (length object) (length name)) (length records) i o)

write-over : (h : ℕ) (bytes records : List ℕ) (room : ℕ) → OneLength h → Over (max (length bytes) room) (length (records_of records))
    → tree_answer h bytes records room ≡ refused two
unfolding tree_answer gated
write-over h bytes records room i o = rw (gate_over h (max (length bytes) room) (length (records_of records)) i o)

size-tree : (h : ℕ) (bytes records : List ℕ) → OneLength h → Over (length bytes) (length (records_of records)) → tree_size h bytes records ≡ refused two
unfolding tree_size gated
size-tree h bytes records i o = rw (gate_over h (length bytes) (length (records_of records)) i o)

commit-over : (s : List ℕ) (h : ℕ) (ps hs : List ℕ) → OneLength h → Over (length s) (max (length ps) (length hs / width))
    → commit_answer s h ps hs ≡ refused_read (refusal 2 0 0)
commit-over s h ps hs i o =
    answer_fails (commit_outcome s h ps hs) (refusal 2 0 0)
    (outcome_shut s h (length ps) (length hs / width) two (gate_over h (length s) (max (length ps) (length hs / width)) i o))

module _ (h : ℕ) (bytes : List ℕ) (p : CommitParts) (parents headers : List ℕ) (room : ℕ) (i : OneLength h)
    (o : Over (max (length bytes) room) (max (length parents) (length headers / width))) where
  checks : checked h bytes p parents headers room ≡ two
  unfolding checked after
  checks = rw (gate_over h (max (length bytes) room) (max (length parents) (length headers / width)) i o)

  measures : write.measured h bytes p parents headers room ≡ refused two
  unfolding write.measured
  measures = rw checks

  commit-write-over : write.commit_answer h bytes p parents headers room ≡ refused two
  unfolding write.commit_answer write.encoded fitted
  commit-write-over = rw measures

commit-size-over : (h : ℕ) (bytes : List ℕ) (p : CommitParts) (parents headers : List ℕ) → OneLength h
    → Over (length bytes) (max (length parents) (length headers / width)) → write.commit_size h bytes p parents headers ≡ refused two
commit-size-over h bytes p parents headers i o =
    let z : length bytes ≡ max (length bytes) 0 = omega arith in
    measures h bytes p parents headers 0 i (subst (λ (n : ℕ). Over n (max (length parents) (length headers / width))) z o)

unfold_over : (s : List ℕ) (x : HeaderRecord) (out : List ℕ) → Over (max (length s) (length out)) 0 → unfold_answer s x out ≡ refused two
unfolding unfold_plan gate_plan answer_of
unfold_over s x out o = rw (size-over (max (length s) (length out)) 0 o)

compare_over : (s left right : List ℕ) (bytes room : ℕ) → Over (max (max (length s) bytes) (max (length left) (length right))) room
    → difference.answer s left right bytes room ≡ refused two
unfolding difference.answer difference.found difference.gated lent.fitted
compare_over s left right bytes room o = rw (size-over (max (max (length s) bytes) (max (length left) (length right))) room o)

pub over_laws : OverLaws
over_laws =
    record {
      reads = λ h s lent i o. answer-shut (listing h s) _ (many (length lent)) two (gate_over h (length s) (many (length lent)) i o);
      strict = strict-over;
      steps = λ h s c i o. step-shut h s c two (gate_over h (length s) 0 i o);
      looks = look-over;
      writes = write-over;
      sizes = size-tree;
      commits = commit-over;
      commit_writes = commit-write-over;
      commit_sizes = commit-size-over;
      unfolds = unfold_over;
      modes = λ t o. alone-shut t two (size-over (length t) 0 o);
      compares = compare_over;
    }
