-- The second demand in one place. Assumes nothing.
use Prim.Native.Nat.{ℕ, ◌+◌, ◌≤◌, ◌<◌}
use native.Mathlib.Omega.{arith}
use mathlib.Core.Path.{◌≡◌, ap, ◌∙◌}
use mathlib.Core.List.{List, ◌∷◌, ◌++◌}
use mathlib.Core.Logic.{◌⊎◌, ⊎_elim}
use lib.ListN.{length}
use Rattle.mode.specs.Read.{read_mode}
use Rattle.mode.specs.Write.{write_mode}
use Rattle.mode_round.proofs.Again.{again-same, written_reads}
use Rattle.tree_round.proofs.Writing.{reads_back}
use Rattle.actor.proofs.Form.{actor_exactly}
use Rattle.commit_grammar.proofs.Theorems.{read_is_commit, commit_is_read}
use Rattle.commit_grammar.proofs.Refused.{refused_commits}
use Rattle.commit_grammar.proofs.Unfolded.{folded_exactly, unfolds_to_lines}
use Rattle.commit_round.proofs.Folding.{fold_line, fold_lines, fold_gains, fold_unfolds, unfolded_folds}
use Rattle.commit_round.proofs.Itself.{accepted_rewrites}
use Rattle.commit_round.proofs.Back as back
use Rattle.demands.specs.Demand2.{SecondDemand}
use Rattle.demands.proofs.Octal.{by_places}
use Rattle.demands.proofs.Documented.{documented}
use Rattle.demands.proofs.Found.{found_is_entry}
use Rattle.demands.proofs.Stepping.{stepping_ends, steps_are_reading}
use Rattle.demands.proofs.Sentences.{cursor_sentences, lookup_sentences, size_sentences}
use Rattle.std.specs.Prelude.{Some}

reads-written : (m : ℕ) (rest : List ℕ) → 0 < m → m < 65536 → (m ≤ 49152) ⊎ (53248 ≤ m)
    → read_mode (write_mode m ++ 32 ∷ rest) ≡ Some (record { internal = m }, length (write_mode m) + 1)
reads-written m rest some small out =
    written_reads m rest (λ z. omega arith) small
    ∙ ap (λ (k : ℕ). Some (record { internal = k }, length (write_mode m) + 1)) (again-same m (λ a b. ⊎_elim (λ l. omega arith) (λ l. omega arith) out))

pub second_demand : SecondDemand
second_demand = record {
  of_mode_texts = record {
    by_places = by_places;
    written_reads = reads-written;
  };
  of_order = record { order_as_documented = documented };
  of_trees = record {
    found_is_entry = found_is_entry;
    stepping_ends = stepping_ends;
    steps_are_reading = steps_are_reading;
    reads_back = reads_back;
    cursor = cursor_sentences;
    lookup = lookup_sentences;
    sizes = size_sentences;
  };
  of_commit_bytes = record {
    actor_exactly = actor_exactly;
    read_is_commit = read_is_commit;
    commit_is_read = λ h c ps hs k id bytes np nh rp rh. let r = commit_is_read h c ps hs k id bytes np nh rp rh in (r.0, r.3);
    refused_commits = refused_commits;
    folded_exactly = folded_exactly;
    unfolds_to_lines = unfolds_to_lines;
  };
  of_commit_writing = record {
    reads_back = back.reads_back;
    accepted_rewrites = accepted_rewrites;
    fold_line = fold_line;
    fold_lines = fold_lines;
    fold_gains = fold_gains;
    fold_unfolds = fold_unfolds;
    unfolded_folds = unfolded_folds;
  };
}
