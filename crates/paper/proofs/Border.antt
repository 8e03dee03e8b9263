-- The first demand of the calls under C names: each by the law of the call that it stands for. Assumes nothing.
use mathlib.Core.Path.{refl}
use Rattle.ground.proofs.Laws.{stored_refused}
use Rattle.border_tree.specs.Border.{step_numbers}
use Rattle.call.specs.Call.{none, ◌and◌}
use Rattle.paper.specs.Border.{said_in, step_in, commit_in}
use Rattle.paper.specs.Demand1.{OfBorder}
use Rattle.call.proofs.Laws.{answers_once, one_list, two-lists, Of, done, zero, wider, keeps-stores, keeps-hands}
use Rattle.paper.proofs.Modes.{alone-fits, number_fits}
use Rattle.tree_calls.proofs.Entries.{each_step}
use Rattle.tree_calls.proofs.Reading.{plain_fits, strict-fits}
use Rattle.tree_calls.proofs.Lookup.{looked-fits, any-fits, many-fits}
use Rattle.paper.proofs.Hex.{id-fits, hex-fits}
use Rattle.paper.proofs.Text.{export_fits, import_fits}
use Rattle.paper.proofs.Edits.{put-fits, remove-fits}
use Rattle.paper.proofs.Mending.{mend_fits}
use Rattle.paper.proofs.Differences.{compare_fits}
use Rattle.tree_calls.proofs.Writing.{size_fits, tree-fits, header-fits}
use Rattle.commit_calls.proofs.Commits.{unfold_fits, plan_kept, commit-fits, outcome_kept}
use Rattle.commit_calls.proofs.CommitWriting as writing
use Rattle.paper.proofs.Bundles.{both-lists, checked-said, object-said, followed_said}

pub of_border : OfBorder
of_border = record {
  hand = keeps-stores _ (λ i. tt) _ _ _ _ (λ i o m. m);
  mode_read = keeps-hands _ (λ i. tt) _ said_in _ _ _ _ _ _ (λ i o m. (m.0, m.1, refl)) (λ i. wider (alone-fits _) refl) (λ i z. refl);
  mode_from_number = keeps-hands _ (λ i. tt) _ said_in _ _ _ _ _ _ (λ i o m. (m.0, m.1, refl)) (λ i. wider (number_fits _) refl) (λ i z. refl);
  mode_ask = keeps-stores _ (λ i. tt) _ _ _ _ (λ i o m. (refl, m));
  mode_word = keeps-stores _ (λ i. tt) _ _ _ _ (λ i o m. m);
  mode_text = keeps-stores _ (λ i. tt) _ _ _ _ (λ i o m. m);
  tree_step = keeps-hands _ (λ i. tt) _ step_in _ _ _ _ _ _ (λ i o m. (m.0, m.1, refl))
      (λ i. each_step (Of _ (λ x. step_in (step_numbers x))) _ _ _ (zero refl refl) (zero refl refl) (done refl refl) (λ k l p. zero refl p) (λ e next. done refl refl)) (λ i z. refl);
  read_tree = keeps-hands _ (λ i. tt) _ said_in _ _ _ _ _ _ (λ i o m. (m.0, m.1.0, one_list m.1.1)) (λ i. wider (plain_fits _ i.args.0.now i.args.1.1.0.now) refl)
      (λ i z. one_list (stored_refused _ _ _ z));
  read_tree_strict = keeps-hands _ (λ i. tt) _ said_in _ _ _ _ _ _ (λ i o m. (m.0, m.1.0, one_list m.1.1)) (λ i. wider (strict-fits _ _ i.args.0.now i.args.1.1.1.0.now) refl)
      (λ i z. one_list (stored_refused _ _ _ z));
  bisect_entry = keeps-hands _ (λ i. tt) _ said_in _ _ _ _ _ _ (λ i o m. (m.0, m.1, refl)) (λ i. wider (looked-fits _ _ _ _ _) refl) (λ i z. refl);
  bisect_any = keeps-hands _ (λ i. tt) _ said_in _ _ _ _ _ _ (λ i o m. (m.0, m.1, refl)) (λ i. wider (any-fits _ _ _ _) refl) (λ i z. refl);
  bisect_entries = keeps-hands _ (λ i. tt) _ said_in _ _ _ _ _ _ (λ i o m. (m.0, m.1.0, one_list m.1.1)) (λ i. wider (many-fits _ _ _ _ _ _) refl)
      (λ i z. one_list (stored_refused _ _ _ z));
  tree_size = keeps-hands _ (λ i. tt) _ said_in _ _ _ _ _ _ (λ i o m. (m.0, m.1, refl)) (λ i. wider (size_fits _ _ _) refl) (λ i z. refl);
  write_tree = keeps-hands _ (λ i. tt) _ said_in _ _ _ _ _ _ (λ i o m. (m.0, m.1.0, one_list m.1.1)) (λ i. wider (tree-fits _ _ _ _) refl) (λ i z. one_list (stored_refused _ _ _ z));
  loose_header = keeps-hands _ (λ i. tt) _ said_in _ _ _ _ _ _ (λ i o m. (m.0, m.1.0, one_list m.1.1)) (λ i. wider (header-fits _ _ _) refl) (λ i z. one_list (stored_refused _ _ _ z));
  read_commit = keeps-hands _ (λ i. tt) _ commit_in _ _ _ _ _ _ (λ i o m. (m.0, m.1.0, two-lists m.1.1.0 m.1.1.1)) (λ i. wider (commit-fits _ _ _ _) refl) (λ i z. outcome_kept _ _ _ _ _ z);
  unfold_value = keeps-hands _ (λ i. tt) _ said_in _ _ _ _ _ _ (λ i o m. (m.0, m.1.0, one_list m.1.1)) (λ i. wider (unfold_fits _ _ _) refl) (λ i z. one_list (plan_kept _ _ z));
  commit_size = keeps-hands _ (λ i. tt) _ said_in _ _ _ _ _ _ (λ i o m. (m.0, m.1, refl)) (λ i. wider (writing.size_fits _ _ _ _ _) refl) (λ i z. refl);
  write_commit = keeps-hands _ (λ i. tt) _ said_in _ _ _ _ _ _ (λ i o m. (m.0, m.1.0, one_list m.1.1)) (λ i. wider (writing.commit-fits _ _ _ _ _ _) refl)
      (λ i z. one_list (stored_refused _ _ _ z));
  id_of_hex = keeps-hands _ (λ i. tt) _ said_in _ _ _ _ _ _ (λ i o m. (m.0, m.1.0, one_list m.1.1)) (λ i. wider (id-fits _ _) refl) (λ i z. one_list (stored_refused _ _ _ z));
  hex_of_id = keeps-hands _ (λ i. tt) _ said_in _ _ _ _ _ _ (λ i o m. (m.0, m.1.0, one_list m.1.1)) (λ i. wider (hex-fits _ _) refl) (λ i z. one_list (stored_refused _ _ _ z));
  export_tree = keeps-hands _ (λ i. tt) _ said_in _ _ _ _ _ _ (λ i o m. (m.0, m.1.0, one_list m.1.1)) (λ i. wider (export_fits _ _ i.args.0.now _) refl)
      (λ i z. one_list (stored_refused _ _ _ z));
  import_tree = keeps-hands _ (λ i. tt) _ said_in _ _ _ _ _ _ (λ i o m. (m.0, m.1.0, one_list m.1.1)) (λ i. wider (import_fits _ _ i.args.0.now _) refl)
      (λ i z. one_list (stored_refused _ _ _ z));
  check_bundle = keeps-hands _ (λ i. tt) _ said_in _ _ _ _ _ _ (λ i o m. (m.0, m.1, refl)) (λ i. checked-said _) (λ i z. refl);
  bundle_object = keeps-hands _ (λ i. tt) _ said_in _ _ _ _ _ _ (λ i o m. (m.0, m.1, refl)) (λ i. object-said _ _) (λ i z. refl);
  follow_path = keeps-hands _ (λ i. tt) _ said_in _ _ _ _ _ _ (λ i o m. (m.0, both-lists m.1.0 m.1.1, refl)) (λ i. followed_said _ _ _) (λ i z. refl);
  put_in_tree = keeps-hands _ (λ i. tt) _ said_in _ _ _ _ _ _ (λ i o m. (m.0, m.1.0, one_list m.1.1)) (λ i. wider (put-fits _ _ _ _ _) refl)
      (λ i z. one_list (stored_refused _ _ _ z));
  remove_from_tree = keeps-hands _ (λ i. tt) _ said_in _ _ _ _ _ _ (λ i o m. (m.0, m.1.0, one_list m.1.1)) (λ i. wider (remove-fits _ _ _ _ _) refl)
      (λ i z. one_list (stored_refused _ _ _ z));
  mend_tree = keeps-hands _ (λ i. tt) _ said_in _ _ _ _ _ _ (λ i o m. (m.0, m.1.0, two-lists m.1.1.0 m.1.1.1)) (λ i. wider (mend_fits _ _ _ _) refl)
      (λ i z. two-lists (stored_refused _ _ _ z) (stored_refused _ _ _ z));
  compare_trees = keeps-hands _ (λ i. tt) _ said_in _ _ _ _ _ _ (λ i o m. (m.0, m.1.0, two-lists m.1.1.0 m.1.1.1)) (λ i. wider (compare_fits _ _ _ _ _) refl)
      (λ i z. two-lists (stored_refused _ _ _ z) (stored_refused _ _ _ z));
  questions =
      ((λ i. tt), answers_once _ _ (λ i o m. m)) and ((λ i. tt), answers_once _ _ (λ i o m. m)) and ((λ i. tt), answers_once _ _ (λ i o m. m)) and ((λ i. tt), answers_once _ _ (λ i o m. m)) and none;
  same_contracts = refl;
}
