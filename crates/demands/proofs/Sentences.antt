-- Sentences about single calls: the ways through a step and a lookup, and sizes. Assumes nothing.
use native.Mathlib.Omega.{arith}
use mathlib.Core.Path.{◌≡◌, refl}
use mathlib.Core.Logic.{◌⊎◌, ⊎_elim}
use lib.ListN.{length}
use Rattle.entry.proofs.Laws.{step_end}
use Rattle.lookup.proofs.Theorems.{lookup-count}
use Rattle.tree_write.proofs.Done.{done-size, done-length}
use Rattle.loose_header.proofs.Laws.{header-most}
use Rattle.commit_write.proofs.Done as commit
use Rattle.demands.specs.Sentences.{CursorSentences, LookupSentences, SizeSentences}
use Rattle.tree_calls.proofs.Entries.{each_step}
use Rattle.tree_calls.proofs.Lookup.{each-looked}

pub cursor_sentences : CursorSentences
cursor_sentences = record {
  as_given = λ h s c. each_step (λ x. (x.verdict.number ≡ 1) ⊎ (x.verdict.number ≡ 2) → x.next ≡ c) h s c
      (λ e. refl) (λ e. refl) (λ e. refl) (λ k l p. ⊎_elim (λ z. absurd (omega arith)) (λ z. absurd (omega arith)))
      (λ e next. ⊎_elim (λ z. absurd (omega arith)) (λ z. absurd (omega arith)));
  at-end = λ h s c. each_step (λ x. x.verdict.number ≡ 3 → x.next.at ≡ length s) h s c
      (λ z. absurd (omega arith)) (λ z. absurd (omega arith)) (λ z. absurd (omega arith)) (λ k l p z. refl) (λ e next z. absurd (omega arith));
  past_end = λ h s c. step_end h s c;
}

pub lookup_sentences : LookupSentences
lookup_sentences = record {
  no_index = λ h object records name folder.
      each-looked (λ x. (x.verdict.number ≡ 0 → ⊥) → x.index ≡ 0) (λ i c z. absurd (z refl)) (λ c z. refl) (λ z. refl) (λ z. refl) h object records name folder (λ i l z. refl);
  few = lookup-count;
}

pub size_sentences : SizeSentences
size_sentences = record {
  same_size = done-size;
  true_size = done-length;
  short_header = header-most;
  same_commit_size = commit.done-size;
  true_commit_size = commit.done-length;
}
