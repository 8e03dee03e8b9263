-- The public calls of every layer, each by its own contract, and what the answers of those that refuse say. Assumes nothing.
use Rattle.std.specs.Prelude.{List, [], ◌∷◌, Err, Ok, Result, ℕ}
use Rattle.ground.specs.Verdict.{fine}
use Rattle.mode.specs.declared.ModeAnswer.{ModeAnswer}
use Rattle.ground.proofs as ground
use Rattle.scan.proofs as scan
use Rattle.free_of.proofs as free_of
use Rattle.output.proofs as output
use Rattle.mode_text.proofs as mode_text
use Rattle.mode_table.proofs as modes
use Rattle.mode_table.proofs.EntryKind as kinds
use Rattle.mode.proofs.EntryMode as mode
use Rattle.mode_code.proofs as mode-code
use Rattle.order.proofs as order
use Rattle.compare.proofs as compare
use Rattle.strict.proofs as strict
use Rattle.edit_turn.proofs as edit_turn
use Rattle.edit_walk.proofs as edit_walk
use Rattle.edit.proofs as edit
use Rattle.edit_remove.proofs as edit_remove
use Rattle.fate.proofs as fate
use Rattle.mend.proofs as mend
use Rattle.merge.proofs as merge
use Rattle.seeking.proofs as seeks
use Rattle.opening.proofs as opens
use Rattle.indexing.proofs as indexing
use Rattle.item.proofs as item
use Rattle.walk.proofs as walking
use Rattle.difference.proofs as difference
use Rattle.words.proofs as words
use Rattle.piece_judge.proofs as piece_judge
use Rattle.piece_marks.proofs as piece_marks
use Rattle.piece_head.proofs as piece_head
use Rattle.piece_first.proofs as piece_first
use Rattle.piece_letter.proofs as piece_letter
use Rattle.piece_close.proofs as piece_close
use Rattle.piece_place.proofs as piece_place
use Rattle.piece_seen.proofs as piece_seen
use Rattle.piece_between.proofs as piece_between
use Rattle.piece_name.proofs as piece_name
use Rattle.piece_some.proofs as piece_some
use Rattle.piece_run.proofs as piece_run
use Rattle.asking.proofs as asking
use Rattle.piece_body.proofs as piece_body
use Rattle.piece_step.proofs as piece_step
use Rattle.hex_digits.proofs as hex
use Rattle.hex_letter.proofs as hex_letter
use Rattle.id_of_hex.proofs as id_of
use Rattle.hex_of_id.proofs as hex_of
use Rattle.tree_text.proofs as tree_text
use Rattle.text_form.proofs as text_form
use Rattle.tree_export.proofs as export
use Rattle.text_record.proofs as text_record
use Rattle.text_repeats.proofs as text_repeats
use Rattle.text_pairs.proofs as text_pairs
use Rattle.text_import.proofs as text_import
use Rattle.tree_import.proofs as import
use Rattle.bundle.specs.declared.Checked.{Checked}
use Rattle.path_walk.specs.declared.Followed.{Followed}
use Rattle.keys.proofs as keys
use Rattle.sorting.proofs as sorting
use Rattle.frame.proofs as frame
use Rattle.finding.proofs as finding
use Rattle.neighbours.proofs as neighbours
use Rattle.twice.proofs as twice
use Rattle.framed.proofs as framed
use Rattle.bundle.proofs as bundle
use Rattle.path_step.proofs as path_step
use Rattle.path_walk.proofs as path_walk
use Rattle.component.proofs as component
use Rattle.path.proofs as path
use Rattle.border_bundle.specs.declared.Object.{Object}
use Rattle.border_bundle.proofs as bb
use Rattle.mend.specs.declared.Mended.{Mended}
use Rattle.call.specs.Call.{Call, call, Said, Deed}
pub use Rattle.call.specs.Deeds.{of_verdict, of_answer, of_gate, reads, stores, writes}
pub use Rattle.tree_calls.specs.Calls.{of_decoded, of_step, of_looked, cursor_step, cursor_decode, put_entry, entry_questions, rule_bounds}
pub use Rattle.tree_calls.specs.Calls.{rule_questions, place_entry, open_entry, finish_reading, read_tree, read_tree_strict, bisect_entry, bisect_any}
pub use Rattle.tree_calls.specs.Calls.{bisect_array, bisect_records, bisect_entries, lookup_start, lookup_step, lookup_answer, step_given}
pub use Rattle.tree_calls.specs.Calls.{answer_given, lookup_questions, tree_size, write_tree, loose_header, fit, fit_given, put_part, put_listing}
pub use Rattle.commit_calls.specs.Calls.{of_commit, unfold_value, put_byte, put_value, put_header, read_commit, check_commit, commit_size, write_commit}
pub use Rattle.commit_calls.specs.Calls.{commit_questions}
use Rattle.frame.specs.declared.Header.{Header}
use Rattle.ground.specs.declared.Verdict.{Verdict}

-- ---- what an answer says

-- the mode that is given stands for a count
abbrev pub of_mode : ModeAnswer → Said
of_mode a = record { verdict = a.verdict; counts = a.mode.internal ∷ [] }

-- ---- ground and the scans

abbrev pub sizes : Deed
sizes = reads (call ground.sizes.Kinds.ps ground.sizes.Kinds.r ground.sizes.Reads.Asked ground.sizes.Reads.Post) (λ i x. of_gate x)

abbrev pub bounds : Deed
bounds = reads (call ground.bounds.Kinds.ps ground.bounds.Kinds.r ground.bounds.Reads.Asked ground.bounds.Reads.Post) (λ i x. of_gate x)

abbrev pub scans : List Call
scans =
    call ground.longer.Kinds.ps ground.longer.Kinds.r ground.longer.Reads.Asked ground.longer.Reads.Post
    ∷ call ground.shorter.Kinds.ps ground.shorter.Kinds.r ground.shorter.Reads.Asked ground.shorter.Reads.Post
    ∷ call ground.byte_at.Kinds.ps ground.byte_at.Kinds.r ground.byte_at.Reads.Asked ground.byte_at.Reads.Post
    ∷ call scan.find_byte.Kinds.ps scan.find_byte.Kinds.r scan.find_byte.Reads.Asked scan.find_byte.Reads.Post
    ∷ call scan.find_nul.Kinds.ps scan.find_nul.Kinds.r scan.find_nul.Reads.Asked scan.find_nul.Reads.Post
    ∷ call scan.find_nul_or_slash.Kinds.ps scan.find_nul_or_slash.Kinds.r scan.find_nul_or_slash.Reads.Asked scan.find_nul_or_slash.Reads.Post
    ∷ call scan.count_to.Kinds.ps scan.count_to.Kinds.r scan.count_to.Reads.Asked scan.count_to.Reads.Post
    ∷ call scan.common_start.Kinds.ps scan.common_start.Kinds.r scan.common_start.Reads.Asked scan.common_start.Reads.Post
    ∷ call scan.same_bytes.Kinds.ps scan.same_bytes.Kinds.r scan.same_bytes.Reads.Asked scan.same_bytes.Reads.Post
    ∷ call scan.lacks.Kinds.ps scan.lacks.Kinds.r scan.lacks.Reads.Asked scan.lacks.Reads.Post
    ∷ call free_of.is_free.Kinds.ps free_of.is_free.Kinds.r free_of.is_free.Reads.Asked free_of.is_free.Reads.Post
    ∷ []

-- ---- output

abbrev pub put : Deed
put = stores (call output.put.Kinds.ps output.put.Kinds.r output.put.Reads.Asked output.put.Reads.Post) (λ i. i.args.0.now) (λ i o. o.last.0.now)

abbrev pub put_ended : Deed
put_ended = stores (call output.put_ended.Kinds.ps output.put_ended.Kinds.r output.put_ended.Reads.Asked output.put_ended.Reads.Post) (λ i. i.args.0.now) (λ i o. o.last.0.now)

-- ---- modes, and their codes

abbrev pub from_bytes : Deed
from_bytes = reads (call mode.from_bytes.Kinds.ps mode.from_bytes.Kinds.r mode.from_bytes.Reads.Asked mode.from_bytes.Reads.Post) (λ i x. of_mode x)

abbrev pub from_number : Deed
from_number = reads (call mode.from_u32.Kinds.ps mode.from_u32.Kinds.r mode.from_u32.Reads.Asked mode.from_u32.Reads.Post) (λ i x. of_mode x)

abbrev pub mode_questions : List Call
mode_questions =
    call mode.extract_at.Kinds.ps mode.extract_at.Kinds.r mode.extract_at.Reads.Asked mode.extract_at.Reads.Post
    ∷ call mode.as_bytes.Kinds.ps mode.as_bytes.Kinds.r mode.as_bytes.Reads.Asked mode.as_bytes.Reads.Post
    ∷ call mode.as_str.Kinds.ps mode.as_str.Kinds.r mode.as_str.Reads.Asked mode.as_str.Reads.Post
    ∷ call mode.value.Kinds.ps mode.value.Kinds.r mode.value.Reads.Asked mode.value.Reads.Post
    ∷ call mode.kind.Kinds.ps mode.kind.Kinds.r mode.kind.Reads.Asked mode.kind.Reads.Post
    ∷ call mode.is_tree.Kinds.ps mode.is_tree.Kinds.r mode.is_tree.Reads.Asked mode.is_tree.Reads.Post
    ∷ call mode.is_commit.Kinds.ps mode.is_commit.Kinds.r mode.is_commit.Reads.Asked mode.is_commit.Reads.Post
    ∷ call mode.is_link.Kinds.ps mode.is_link.Kinds.r mode.is_link.Reads.Asked mode.is_link.Reads.Post
    ∷ call mode.is_no_tree.Kinds.ps mode.is_no_tree.Kinds.r mode.is_no_tree.Reads.Asked mode.is_no_tree.Reads.Post
    ∷ call mode.is_blob.Kinds.ps mode.is_blob.Kinds.r mode.is_blob.Reads.Asked mode.is_blob.Reads.Post
    ∷ call mode.is_executable.Kinds.ps mode.is_executable.Kinds.r mode.is_executable.Reads.Asked mode.is_executable.Reads.Post
    ∷ call mode.is_blob_or_symlink.Kinds.ps mode.is_blob_or_symlink.Kinds.r mode.is_blob_or_symlink.Reads.Asked mode.is_blob_or_symlink.Reads.Post
    ∷ call mode_text.text_of.Kinds.ps mode_text.text_of.Kinds.r mode_text.text_of.Reads.Asked mode_text.text_of.Reads.Post
    ∷ call mode_text.read_at.Kinds.ps mode_text.read_at.Kinds.r mode_text.read_at.Reads.Asked mode_text.read_at.Reads.Post
    ∷ call kinds.is_executable.Kinds.ps kinds.is_executable.Kinds.r kinds.is_executable.Reads.Asked kinds.is_executable.Reads.Post
    ∷ call kinds.is_file_or_link.Kinds.ps kinds.is_file_or_link.Kinds.r kinds.is_file_or_link.Reads.Asked kinds.is_file_or_link.Reads.Post
    ∷ call modes.written_of.Kinds.ps modes.written_of.Kinds.r modes.written_of.Reads.Asked modes.written_of.Reads.Post
    ∷ call modes.written_mode.Kinds.ps modes.written_mode.Kinds.r modes.written_mode.Reads.Asked modes.written_mode.Reads.Post
    ∷ call mode-code.code_at.Kinds.ps mode-code.code_at.Kinds.r mode-code.code_at.Reads.Asked mode-code.code_at.Reads.Post
    ∷ call mode-code.quick_code.Kinds.ps mode-code.quick_code.Kinds.r mode-code.quick_code.Reads.Asked mode-code.quick_code.Reads.Post
    ∷ []

-- ---- order

abbrev pub orders : List Call
orders =
    call order.name_order.Kinds.ps order.name_order.Kinds.r order.name_order.Reads.Asked order.name_order.Reads.Post
    ∷ call compare.name_order.Kinds.ps compare.name_order.Kinds.r compare.name_order.Reads.Asked compare.name_order.Reads.Post
    ∷ call order.by_next.Kinds.ps order.by_next.Kinds.r order.by_next.Reads.Asked order.by_next.Reads.Post
    ∷ call order.by_number.Kinds.ps order.by_number.Kinds.r order.by_number.Reads.Asked order.by_number.Reads.Post
    ∷ call order.order_number.Kinds.ps order.order_number.Kinds.r order.order_number.Reads.Asked order.order_number.Reads.Post
    ∷ []

-- ---- edits

-- a count of entries is 0
abbrev pub of_counted : Result ℕ Verdict → Said
of_counted (Ok n) = record { verdict = fine; counts = n ∷ [] }
of_counted (Err v) = record { verdict = v; counts = [] }

abbrev pub count_strict : Deed
count_strict = reads (call strict.strict_count.Kinds.ps strict.strict_count.Kinds.r strict.strict_count.Reads.Asked strict.strict_count.Reads.Post) (λ i x. of_counted x)

-- what is done with one entry
abbrev pub edit_questions : List Call
edit_questions = call edit_turn.turn_at.Kinds.ps edit_turn.turn_at.Kinds.r edit_turn.turn_at.Reads.Asked edit_turn.turn_at.Reads.Post ∷ []

abbrev pub walk_tree : Deed
walk_tree =
    stores (call edit_walk.walk.Kinds.ps edit_walk.walk.Kinds.r edit_walk.walk.Reads.Asked edit_walk.walk.Reads.Post)
    (λ i. i.args.1.1.1.1.1.1.1.0.now) (λ i o. o.last.1.1.1.1.1.1.1.0.now)

abbrev pub put_in_tree : Deed
put_in_tree =
    writes (call edit.put_in_tree.Kinds.ps edit.put_in_tree.Kinds.r edit.put_in_tree.Reads.Asked edit.put_in_tree.Reads.Post) (λ i x. x)
    (λ i. i.args.1.1.1.1.1.1.0.now) (λ i o. o.last.1.1.1.1.1.1.0.now)

abbrev pub remove_from_tree : Deed
remove_from_tree =
    writes (call edit_remove.remove_from_tree.Kinds.ps edit_remove.remove_from_tree.Kinds.r edit_remove.remove_from_tree.Reads.Asked edit_remove.remove_from_tree.Reads.Post) (λ i x. x)
    (λ i. i.args.1.1.1.1.0.now) (λ i o. o.last.1.1.1.1.0.now)

-- ---- hex digits and ids

abbrev pub hex_questions : List Call
hex_questions =
    call hex.hex_digit.Kinds.ps hex.hex_digit.Kinds.r hex.hex_digit.Reads.Asked hex.hex_digit.Reads.Post
    ∷ call hex.is_hex.Kinds.ps hex.is_hex.Kinds.r hex.is_hex.Reads.Asked hex.is_hex.Reads.Post
    ∷ call hex_letter.lower.Kinds.ps hex_letter.lower.Kinds.r hex_letter.lower.Reads.Asked hex_letter.lower.Reads.Post
    ∷ call hex_letter.digit_of.Kinds.ps hex_letter.digit_of.Kinds.r hex_letter.digit_of.Reads.Asked hex_letter.digit_of.Reads.Post
    ∷ []

abbrev pub id_of_hex : Deed
id_of_hex = writes (call id_of.id_of_hex.Kinds.ps id_of.id_of_hex.Kinds.r id_of.id_of_hex.Reads.Asked id_of.id_of_hex.Reads.Post) (λ i x. x) (λ i. i.args.1.0.now) (λ i o. o.last.1.0.now)

abbrev pub hex_of_id : Deed
hex_of_id = writes (call hex_of.hex_of_id.Kinds.ps hex_of.hex_of_id.Kinds.r hex_of.hex_of_id.Reads.Asked hex_of.hex_of_id.Reads.Post) (λ i x. x) (λ i. i.args.1.0.now) (λ i o. o.last.1.0.now)

-- ---- differences

abbrev pub difference_questions : List Call
difference_questions =
    call merge.merge_step.Kinds.ps merge.merge_step.Kinds.r merge.merge_step.Reads.Asked merge.merge_step.Reads.Post
    ∷ call seeks.seek_object.Kinds.ps seeks.seek_object.Kinds.r seeks.seek_object.Reads.Asked seeks.seek_object.Reads.Post
    ∷ call opens.open_tree.Kinds.ps opens.open_tree.Kinds.r opens.open_tree.Reads.Asked opens.open_tree.Reads.Post
    ∷ call opens.open_both.Kinds.ps opens.open_both.Kinds.r opens.open_both.Reads.Asked opens.open_both.Reads.Post
    ∷ []

abbrev pub make_index : Deed
make_index =
    stores (call indexing.make_index.Kinds.ps indexing.make_index.Kinds.r indexing.make_index.Reads.Asked indexing.make_index.Reads.Post)
    (λ i. i.args.1.1.0.now) (λ i o. o.last.1.1.0.now)

abbrev pub put_item : Deed
put_item = stores (call item.put_item.Kinds.ps item.put_item.Kinds.r item.put_item.Reads.Asked item.put_item.Reads.Post) (λ i. i.args.0.now) (λ i o. o.last.0.now)

abbrev pub put_path : Deed
put_path = stores (call item.put_path.Kinds.ps item.put_path.Kinds.r item.put_path.Reads.Asked item.put_path.Reads.Post) (λ i. i.args.0.now) (λ i o. o.last.0.now)

-- these two are lent a list and bytes
abbrev pub walk_trees : Deed
walk_trees =
    record {
      call = call walking.walk_trees.Kinds.ps walking.walk_trees.Kinds.r walking.walk_trees.Reads.Asked walking.walk_trees.Reads.Post;
      before = λ i. i.args.1.1.1.1.0.now ∷ i.args.1.1.1.1.1.0.now ∷ [];
      after = λ i o. o.last.1.1.1.1.0.now ∷ o.last.1.1.1.1.1.0.now ∷ [];
      handed = λ i o. [];
      said = λ i o. of_answer o.answer;
    }

abbrev pub compare_trees : Deed
compare_trees =
    record {
      call = call difference.compare_trees.Kinds.ps difference.compare_trees.Kinds.r difference.compare_trees.Reads.Asked difference.compare_trees.Reads.Post;
      before = λ i. i.args.1.1.1.0.now ∷ i.args.1.1.1.1.0.now ∷ [];
      after = λ i o. o.last.1.1.1.0.now ∷ o.last.1.1.1.1.0.now ∷ [];
      handed = λ i o. [];
      said = λ i o. of_answer o.answer;
    }

-- ---- trees as text

abbrev pub text_questions : List Call
text_questions =
    call tree_text.front_of.Kinds.ps tree_text.front_of.Kinds.r tree_text.front_of.Reads.Asked tree_text.front_of.Reads.Post
    ∷ call text_form.name_from.Kinds.ps text_form.name_from.Kinds.r text_form.name_from.Reads.Asked text_form.name_from.Reads.Post
    ∷ call text_record.front_mode.Kinds.ps text_record.front_mode.Kinds.r text_record.front_mode.Reads.Asked text_record.front_mode.Reads.Post
    ∷ call text_record.name_end.Kinds.ps text_record.name_end.Kinds.r text_record.name_end.Reads.Asked text_record.name_end.Reads.Post
    ∷ call text_record.record_number.Kinds.ps text_record.record_number.Kinds.r text_record.record_number.Reads.Asked text_record.record_number.Reads.Post
    ∷ call text_repeats.same_record.Kinds.ps text_repeats.same_record.Kinds.r text_repeats.same_record.Reads.Asked text_repeats.same_record.Reads.Post
    ∷ call text_repeats.least_repeat.Kinds.ps text_repeats.least_repeat.Kinds.r text_repeats.least_repeat.Reads.Asked text_repeats.least_repeat.Reads.Post
    ∷ call text_repeats.repeat_verdict.Kinds.ps text_repeats.repeat_verdict.Kinds.r text_repeats.repeat_verdict.Reads.Asked text_repeats.repeat_verdict.Reads.Post
    ∷ []

abbrev pub export_tree : Deed
export_tree = writes (call export.export_tree.Kinds.ps export.export_tree.Kinds.r export.export_tree.Reads.Asked export.export_tree.Reads.Post) (λ i x. x) (λ i. i.args.1.1.1.0.now) (λ i o. o.last.1.1.1.0.now)

abbrev pub import_tree : Deed
import_tree = writes (call import.import_tree.Kinds.ps import.import_tree.Kinds.r import.import_tree.Reads.Asked import.import_tree.Reads.Post) (λ i x. x) (λ i. i.args.1.1.1.0.now) (λ i o. o.last.1.1.1.0.now)

-- it is lent bytes, and a list as its memory
abbrev pub import_lent : Deed
import_lent =
    record {
      call = call text_import.import_lent.Kinds.ps text_import.import_lent.Kinds.r text_import.import_lent.Reads.Asked text_import.import_lent.Reads.Post;
      before = λ i. i.args.1.1.1.0.now ∷ [];
      after = λ i o. o.last.1.1.1.0.now ∷ [];
      handed = λ i o. o.last.1.1.1.1.0.now;
      said = λ i o. of_answer o.answer;
    }

abbrev pub judge_list : Deed
judge_list = stores (call text_pairs.judge_list.Kinds.ps text_pairs.judge_list.Kinds.r text_pairs.judge_list.Reads.Asked text_pairs.judge_list.Reads.Post) (λ i. i.args.1.0.now) (λ i o. o.last.1.0.now)

-- ---- mending

-- the bytes written, and the entries read
abbrev pub of_mended : Mended → Said
of_mended x = record { verdict = x.verdict; counts = x.count ∷ x.entries ∷ [] }

abbrev pub mend_questions : List Call
mend_questions =
    call fate.own_text.Kinds.ps fate.own_text.Kinds.r fate.own_text.Reads.Asked fate.own_text.Reads.Post
    ∷ call fate.may_stay.Kinds.ps fate.may_stay.Kinds.r fate.may_stay.Reads.Asked fate.may_stay.Reads.Post
    ∷ call fate.fate_of.Kinds.ps fate.fate_of.Kinds.r fate.fate_of.Reads.Asked fate.fate_of.Reads.Post
    ∷ []

-- it is lent a list and an output
abbrev pub mend_tree : Deed
mend_tree =
    record {
      call = call mend.mend_tree.Kinds.ps mend.mend_tree.Kinds.r mend.mend_tree.Reads.Asked mend.mend_tree.Reads.Post;
      before = λ i. i.args.1.1.0.now ∷ i.args.1.1.1.0.now ∷ [];
      after = λ i o. o.last.1.1.0.now ∷ o.last.1.1.1.0.now ∷ [];
      handed = λ i o. [];
      said = λ i o. of_mended o.answer;
    }

-- ---- the check in pieces, besides its three calls (`Arrives`), and the words of a command line

abbrev pub piece_questions : List Call
piece_questions =
    call piece_judge.meet.Kinds.ps piece_judge.meet.Kinds.r piece_judge.meet.Reads.Asked piece_judge.meet.Reads.Post
    ∷ call piece_judge.sharing.Kinds.ps piece_judge.sharing.Kinds.r piece_judge.sharing.Reads.Asked piece_judge.sharing.Reads.Post
    ∷ call piece_judge.judge.Kinds.ps piece_judge.judge.Kinds.r piece_judge.judge.Reads.Asked piece_judge.judge.Reads.Post
    ∷ call piece_marks.fresh.Kinds.ps piece_marks.fresh.Kinds.r piece_marks.fresh.Reads.Asked piece_marks.fresh.Reads.Post
    ∷ call piece_marks.refuse.Kinds.ps piece_marks.refuse.Kinds.r piece_marks.refuse.Reads.Asked piece_marks.refuse.Reads.Post
    ∷ call piece_marks.placed_at.Kinds.ps piece_marks.placed_at.Kinds.r piece_marks.placed_at.Reads.Asked piece_marks.placed_at.Reads.Post
    ∷ call piece_marks.is_full.Kinds.ps piece_marks.is_full.Kinds.r piece_marks.is_full.Reads.Asked piece_marks.is_full.Reads.Post
    ∷ call piece_marks.over.Kinds.ps piece_marks.over.Kinds.r piece_marks.over.Reads.Asked piece_marks.over.Reads.Post
    ∷ call piece_head.head_byte.Kinds.ps piece_head.head_byte.Kinds.r piece_head.head_byte.Reads.Asked piece_head.head_byte.Reads.Post
    ∷ call piece_letter.letter.Kinds.ps piece_letter.letter.Kinds.r piece_letter.letter.Reads.Asked piece_letter.letter.Reads.Post
    ∷ call piece_close.refused.Kinds.ps piece_close.refused.Kinds.r piece_close.refused.Reads.Asked piece_close.refused.Reads.Post
    ∷ call piece_body.body_within.Kinds.ps piece_body.body_within.Kinds.r piece_body.body_within.Reads.Asked piece_body.body_within.Reads.Post
    ∷ call piece_first.first_byte.Kinds.ps piece_first.first_byte.Kinds.r piece_first.first_byte.Reads.Asked piece_first.first_byte.Reads.Post
    ∷ call piece_step.step.Kinds.ps piece_step.step.Kinds.r piece_step.step.Reads.Asked piece_step.step.Reads.Post
    ∷ call piece_seen.seen_at.Kinds.ps piece_seen.seen_at.Kinds.r piece_seen.seen_at.Reads.Asked piece_seen.seen_at.Reads.Post
    ∷ call piece_between.is_between.Kinds.ps piece_between.is_between.Kinds.r piece_between.is_between.Reads.Asked piece_between.is_between.Reads.Post
    ∷ call piece_between.ran.Kinds.ps piece_between.ran.Kinds.r piece_between.ran.Reads.Asked piece_between.ran.Reads.Post
    ∷ call piece_name.name_some.Kinds.ps piece_name.name_some.Kinds.r piece_name.name_some.Reads.Asked piece_name.name_some.Reads.Post
    ∷ call piece_some.some.Kinds.ps piece_some.some.Kinds.r piece_some.some.Reads.Asked piece_some.some.Reads.Post
    ∷ call piece_run.all_entries.Kinds.ps piece_run.all_entries.Kinds.r piece_run.all_entries.Reads.Asked piece_run.all_entries.Reads.Post
    ∷ call piece_close.close_entry.Kinds.ps piece_close.close_entry.Kinds.r piece_close.close_entry.Reads.Asked piece_close.close_entry.Reads.Post
    ∷ call piece_place.place.Kinds.ps piece_place.place.Kinds.r piece_place.place.Reads.Asked piece_place.place.Reads.Post
    ∷ []

abbrev pub word_questions : List Call
word_questions =
    call words.word_at.Kinds.ps words.word_at.Kinds.r words.word_at.Reads.Asked words.word_at.Reads.Post
    ∷ call words.is_word.Kinds.ps words.is_word.Kinds.r words.is_word.Reads.Asked words.is_word.Reads.Post
    ∷ call words.id_length.Kinds.ps words.id_length.Kinds.r words.id_length.Reads.Asked words.id_length.Reads.Post
    ∷ call words.rule_set.Kinds.ps words.rule_set.Kinds.r words.rule_set.Reads.Asked words.rule_set.Reads.Post
    ∷ call asking.ask.Kinds.ps asking.ask.Kinds.r asking.ask.Reads.Asked asking.ask.Reads.Post
    ∷ []

-- ---- bundles and paths

-- a bundle that was opened is 0
abbrev pub of_opening : Result Header Verdict → Said
of_opening (Ok k) = record { verdict = fine; counts = k.h ∷ k.rules ∷ k.count ∷ k.from ∷ [] }
of_opening (Err v) = of_verdict v

abbrev pub of_checked : Checked → Said
of_checked x = record { verdict = x.verdict; counts = x.h ∷ x.rules ∷ x.count ∷ [] }

abbrev pub of_object : Object → Said
of_object x = record { verdict = x.verdict; counts = x.kind ∷ x.start ∷ x.end ∷ [] }

-- the mode, and the id with its length
abbrev pub of_followed : Followed → Said
of_followed x = record { verdict = x.verdict; counts = x.mode ∷ x.size ∷ x.id }

abbrev pub sort_all : Deed
sort_all = stores (call sorting.sort.Kinds.ps sorting.sort.Kinds.r sorting.sort.Reads.Asked sorting.sort.Reads.Post) (λ i. i.args.1.1.1.0.now) (λ i o. o.last.1.1.1.0.now)

abbrev pub sort_front : Deed
sort_front = stores (call sorting.sort_front.Kinds.ps sorting.sort_front.Kinds.r sorting.sort_front.Reads.Asked sorting.sort_front.Reads.Post) (λ i. i.args.1.1.1.0.now) (λ i o. o.last.1.1.1.0.now)

abbrev pub open_bundle : Deed
open_bundle = reads (call bundle.open_bundle.Kinds.ps bundle.open_bundle.Kinds.r bundle.open_bundle.Reads.Asked bundle.open_bundle.Reads.Post) (λ i x. of_opening x)

abbrev pub check_bundle : Deed
check_bundle = reads (call bundle.check_bundle.Kinds.ps bundle.check_bundle.Kinds.r bundle.check_bundle.Reads.Asked bundle.check_bundle.Reads.Post) (λ i x. of_checked x)

abbrev pub object_of : Deed
object_of = reads (call bb.object_of.Kinds.ps bb.object_of.Kinds.r bb.object_of.Reads.Asked bb.object_of.Reads.Post) (λ i x. of_object x)

abbrev pub follow_path : Deed
follow_path = reads (call path.follow_path.Kinds.ps path.follow_path.Kinds.r path.follow_path.Reads.Asked path.follow_path.Reads.Post) (λ i x. of_followed x)

abbrev pub bundle_questions : List Call
bundle_questions =
    call keys.below.Kinds.ps keys.below.Kinds.r keys.below.Reads.Asked keys.below.Reads.Post
    ∷ call frame.read_header.Kinds.ps frame.read_header.Kinds.r frame.read_header.Reads.Asked frame.read_header.Reads.Post
    ∷ call frame.frame_at.Kinds.ps frame.frame_at.Kinds.r frame.frame_at.Reads.Asked frame.frame_at.Reads.Post
    ∷ call finding.find_object.Kinds.ps finding.find_object.Kinds.r finding.find_object.Reads.Asked finding.find_object.Reads.Post
    ∷ call neighbours.neighbours.Kinds.ps neighbours.neighbours.Kinds.r neighbours.neighbours.Reads.Asked neighbours.neighbours.Reads.Post
    ∷ call twice.id_twice.Kinds.ps twice.id_twice.Kinds.r twice.id_twice.Reads.Asked twice.id_twice.Reads.Post
    ∷ call framed.well_framed.Kinds.ps framed.well_framed.Kinds.r framed.well_framed.Reads.Asked framed.well_framed.Reads.Post
    ∷ call framed.ascending.Kinds.ps framed.ascending.Kinds.r framed.ascending.Reads.Asked framed.ascending.Reads.Post
    ∷ call component.is_path.Kinds.ps component.is_path.Kinds.r component.is_path.Reads.Asked component.is_path.Reads.Post
    ∷ call component.find_entry.Kinds.ps component.find_entry.Kinds.r component.find_entry.Reads.Asked component.find_entry.Reads.Post
    ∷ call path_step.step_to.Kinds.ps path_step.step_to.Kinds.r path_step.step_to.Reads.Asked path_step.step_to.Reads.Post
    ∷ call path_walk.walk_path.Kinds.ps path_walk.walk_path.Kinds.r path_walk.walk_path.Reads.Asked path_walk.walk_path.Reads.Post
    ∷ []
