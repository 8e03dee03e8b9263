-- The public calls under C names (include/sarpukten.h). Each hands its answer over in numbers that the caller lends for that alone, number, place
-- and part first, and returns the number; what else it is lent is as with the call that it stands for. Assumes nothing.
use Rattle.std.specs.Prelude.{ℕ, List, [], ◌∷◌, ◌++◌, get_or, drop}
use Rattle.ground.specs.declared.Verdict.{Verdict}
use Rattle.lookup.proofs as lookup
use Rattle.border.proofs as border
use Rattle.border_mode.proofs as bm
use Rattle.border_kind.proofs as bk
use Rattle.border_tree.proofs as bt
use Rattle.border_lookup.proofs as bl
use Rattle.border_hex.proofs as bh
use Rattle.border_text.proofs as bx
use Rattle.border_edit.proofs as be
use Rattle.border_mend.proofs as bmd
use Rattle.border_difference.proofs as bd
use Rattle.border_tree_write.proofs as btw
use Rattle.border_commit.proofs as bc
use Rattle.border_commit_write.proofs as bcw
use Rattle.border_bundle.proofs as bb
use Rattle.border_path.proofs as way
use Rattle.border_check.proofs as bcheck
use Rattle.border_pieces.proofs as bp
use Rattle.sarpukten.proofs as c
use Rattle.call.specs.Call.{Call, call, Said, Deed}
use Rattle.call.specs.Deeds.{stores, hands}

-- number, place and part come first
abbrev pub verdict_in : List ℕ → Verdict
verdict_in l = record { number = get_or l 0 0; place = get_or l 1 0; part = get_or l 2 0 }

-- what handed numbers say: after the verdict, the counts
abbrev pub said_in : List ℕ → Said
said_in l = record { verdict = verdict_in l; counts = drop 3 l }

-- of a step, whether an entry was found, and its record; where the cursor goes on is no count
abbrev pub step_in : List ℕ → Said
step_in l = record { verdict = verdict_in l; counts = get_or l 3 0 ∷ drop 5 l }

-- of a commit, both counts and the parts; the field that failed is no count
abbrev pub commit_in : List ℕ → Said
commit_in l = record { verdict = verdict_in l; counts = drop 4 l }

-- ---- an answer handed over

abbrev pub hand : Deed
hand = stores (call border.hand.Kinds.ps border.hand.Kinds.r border.hand.Reads.Asked border.hand.Reads.Post) (λ i. i.args.1.0.now) (λ i o. o.last.1.0.now)

-- ---- modes

abbrev pub mode_read : Deed
mode_read = hands (call c.sarpukten_mode_read.Kinds.ps c.sarpukten_mode_read.Kinds.r c.sarpukten_mode_read.Reads.Asked c.sarpukten_mode_read.Reads.Post) (λ i o. o.last.1.0.now) said_in (λ i. []) (λ i o. [])

abbrev pub mode_from_number : Deed
mode_from_number = hands (call c.sarpukten_mode_from_number.Kinds.ps c.sarpukten_mode_from_number.Kinds.r c.sarpukten_mode_from_number.Reads.Asked c.sarpukten_mode_from_number.Reads.Post) (λ i o. o.last.1.0.now) said_in (λ i. []) (λ i o. [])

abbrev pub mode_ask : Deed
mode_ask = stores (call c.sarpukten_mode_ask.Kinds.ps c.sarpukten_mode_ask.Kinds.r c.sarpukten_mode_ask.Reads.Asked c.sarpukten_mode_ask.Reads.Post) (λ i. i.args.1.0.now) (λ i o. o.last.1.0.now)

abbrev pub mode_word : Deed
mode_word = stores (call c.sarpukten_mode_word.Kinds.ps c.sarpukten_mode_word.Kinds.r c.sarpukten_mode_word.Reads.Asked c.sarpukten_mode_word.Reads.Post) (λ i. i.args.1.0.now) (λ i o. o.last.1.0.now)

abbrev pub mode_text : Deed
mode_text = stores (call c.sarpukten_mode_text.Kinds.ps c.sarpukten_mode_text.Kinds.r c.sarpukten_mode_text.Reads.Asked c.sarpukten_mode_text.Reads.Post) (λ i. i.args.1.0.now) (λ i o. o.last.1.0.now)

-- ---- trees

abbrev pub tree_step : Deed
tree_step = hands (call c.sarpukten_tree_step.Kinds.ps c.sarpukten_tree_step.Kinds.r c.sarpukten_tree_step.Reads.Asked c.sarpukten_tree_step.Reads.Post) (λ i o. o.last.1.1.1.0.now) step_in (λ i. []) (λ i o. [])

abbrev pub read_tree : Deed
read_tree = hands (call c.sarpukten_read_tree.Kinds.ps c.sarpukten_read_tree.Kinds.r c.sarpukten_read_tree.Reads.Asked c.sarpukten_read_tree.Reads.Post) (λ i o. o.last.1.1.1.0.now) said_in (λ i. i.args.1.1.0.now ∷ []) (λ i o. o.last.1.1.0.now ∷ [])

abbrev pub read_tree_strict : Deed
read_tree_strict = hands (call c.sarpukten_read_tree_strict.Kinds.ps c.sarpukten_read_tree_strict.Kinds.r c.sarpukten_read_tree_strict.Reads.Asked c.sarpukten_read_tree_strict.Reads.Post) (λ i o. o.last.1.1.1.1.0.now) said_in (λ i. i.args.1.1.1.0.now ∷ [])
    (λ i o. o.last.1.1.1.0.now ∷ [])

abbrev pub bisect_entry : Deed
bisect_entry = hands (call c.sarpukten_bisect_entry.Kinds.ps c.sarpukten_bisect_entry.Kinds.r c.sarpukten_bisect_entry.Reads.Asked c.sarpukten_bisect_entry.Reads.Post) (λ i o. o.last.1.1.1.1.1.0.now) said_in (λ i. []) (λ i o. [])

abbrev pub bisect_any : Deed
bisect_any = hands (call c.sarpukten_bisect_any.Kinds.ps c.sarpukten_bisect_any.Kinds.r c.sarpukten_bisect_any.Reads.Asked c.sarpukten_bisect_any.Reads.Post) (λ i o. o.last.1.1.1.1.0.now) said_in (λ i. []) (λ i o. [])

abbrev pub bisect_entries : Deed
bisect_entries =
    hands (call c.sarpukten_bisect_entries.Kinds.ps c.sarpukten_bisect_entries.Kinds.r c.sarpukten_bisect_entries.Reads.Asked c.sarpukten_bisect_entries.Reads.Post) (λ i o. o.last.1.1.1.1.1.1.0.now) said_in
    (λ i. i.args.1.1.1.1.1.0.now ∷ []) (λ i o. o.last.1.1.1.1.1.0.now ∷ [])

abbrev pub tree_size : Deed
tree_size = hands (call c.sarpukten_tree_size.Kinds.ps c.sarpukten_tree_size.Kinds.r c.sarpukten_tree_size.Reads.Asked c.sarpukten_tree_size.Reads.Post) (λ i o. o.last.1.1.1.0.now) said_in (λ i. []) (λ i o. [])

abbrev pub write_tree : Deed
write_tree = hands (call c.sarpukten_write_tree.Kinds.ps c.sarpukten_write_tree.Kinds.r c.sarpukten_write_tree.Reads.Asked c.sarpukten_write_tree.Reads.Post) (λ i o. o.last.1.1.1.1.0.now) said_in (λ i. i.args.1.1.1.0.now ∷ []) (λ i o. o.last.1.1.1.0.now ∷ [])

abbrev pub loose_header : Deed
loose_header = hands (call c.sarpukten_loose_header.Kinds.ps c.sarpukten_loose_header.Kinds.r c.sarpukten_loose_header.Reads.Asked c.sarpukten_loose_header.Reads.Post) (λ i o. o.last.1.1.1.0.now) said_in (λ i. i.args.1.1.0.now ∷ []) (λ i o. o.last.1.1.0.now ∷ [])

-- ---- commits

abbrev pub read_commit : Deed
read_commit = hands (call c.sarpukten_read_commit.Kinds.ps c.sarpukten_read_commit.Kinds.r c.sarpukten_read_commit.Reads.Asked c.sarpukten_read_commit.Reads.Post) (λ i o. o.last.1.1.1.1.0.now) commit_in (λ i. i.args.1.1.0.now ∷ i.args.1.1.1.0.now ∷ []) (λ i o. o.last.1.1.0.now ∷ o.last.1.1.1.0.now ∷ [])

abbrev pub unfold_value : Deed
unfold_value = hands (call c.sarpukten_unfold.Kinds.ps c.sarpukten_unfold.Kinds.r c.sarpukten_unfold.Reads.Asked c.sarpukten_unfold.Reads.Post) (λ i o. o.last.1.1.1.0.now) said_in (λ i. i.args.1.1.0.now ∷ []) (λ i o. o.last.1.1.0.now ∷ [])

abbrev pub commit_size : Deed
commit_size = hands (call c.sarpukten_commit_size.Kinds.ps c.sarpukten_commit_size.Kinds.r c.sarpukten_commit_size.Reads.Asked c.sarpukten_commit_size.Reads.Post) (λ i o. o.last.1.1.1.1.1.0.now) said_in (λ i. []) (λ i o. [])

abbrev pub write_commit : Deed
write_commit = hands (call c.sarpukten_write_commit.Kinds.ps c.sarpukten_write_commit.Kinds.r c.sarpukten_write_commit.Reads.Asked c.sarpukten_write_commit.Reads.Post) (λ i o. o.last.1.1.1.1.1.1.0.now) said_in (λ i. i.args.1.1.1.1.1.0.now ∷ []) (λ i o. o.last.1.1.1.1.1.0.now ∷ [])

-- ---- hex digits and ids

abbrev pub id_of_hex : Deed
id_of_hex = hands (call c.sarpukten_id_of_hex.Kinds.ps c.sarpukten_id_of_hex.Kinds.r c.sarpukten_id_of_hex.Reads.Asked c.sarpukten_id_of_hex.Reads.Post) (λ i o. o.last.1.1.0.now) said_in (λ i. i.args.1.0.now ∷ []) (λ i o. o.last.1.0.now ∷ [])

abbrev pub hex_of_id : Deed
hex_of_id = hands (call c.sarpukten_hex_of_id.Kinds.ps c.sarpukten_hex_of_id.Kinds.r c.sarpukten_hex_of_id.Reads.Asked c.sarpukten_hex_of_id.Reads.Post) (λ i o. o.last.1.1.0.now) said_in (λ i. i.args.1.0.now ∷ []) (λ i o. o.last.1.0.now ∷ [])

-- ---- trees as text

abbrev pub export_tree : Deed
export_tree = hands (call c.sarpukten_export_tree.Kinds.ps c.sarpukten_export_tree.Kinds.r c.sarpukten_export_tree.Reads.Asked c.sarpukten_export_tree.Reads.Post) (λ i o. o.last.1.1.1.1.0.now) said_in (λ i. i.args.1.1.1.0.now ∷ [])
    (λ i o. o.last.1.1.1.0.now ∷ [])

abbrev pub import_tree : Deed
import_tree = hands (call c.sarpukten_import_tree.Kinds.ps c.sarpukten_import_tree.Kinds.r c.sarpukten_import_tree.Reads.Asked c.sarpukten_import_tree.Reads.Post) (λ i o. o.last.1.1.1.1.0.now) said_in (λ i. i.args.1.1.1.0.now ∷ [])
    (λ i o. o.last.1.1.1.0.now ∷ [])

-- ---- bundles and paths

abbrev pub check_bundle : Deed
check_bundle = hands (call c.sarpukten_check_bundle.Kinds.ps c.sarpukten_check_bundle.Kinds.r c.sarpukten_check_bundle.Reads.Asked c.sarpukten_check_bundle.Reads.Post) (λ i o. o.last.1.0.now) said_in (λ i. []) (λ i o. [])

abbrev pub bundle_object : Deed
bundle_object = hands (call c.sarpukten_bundle_object.Kinds.ps c.sarpukten_bundle_object.Kinds.r c.sarpukten_bundle_object.Reads.Asked c.sarpukten_bundle_object.Reads.Post) (λ i o. o.last.1.1.0.now) said_in (λ i. []) (λ i o. [])

-- the id, lent for the answer too, follows the numbers
abbrev pub follow_path : Deed
follow_path =
    hands (call c.sarpukten_follow_path.Kinds.ps c.sarpukten_follow_path.Kinds.r c.sarpukten_follow_path.Reads.Asked c.sarpukten_follow_path.Reads.Post)
    (λ i o. o.last.1.1.1.0.now ++ o.last.1.1.1.1.0.now) said_in (λ i. []) (λ i o. [])

-- ---- differences

abbrev pub compare_trees : Deed
compare_trees =
    hands (call c.sarpukten_compare_trees.Kinds.ps c.sarpukten_compare_trees.Kinds.r c.sarpukten_compare_trees.Reads.Asked c.sarpukten_compare_trees.Reads.Post)
    (λ i o. o.last.1.1.1.1.1.0.now) said_in (λ i. i.args.1.1.1.0.now ∷ i.args.1.1.1.1.0.now ∷ [])
    (λ i o. o.last.1.1.1.0.now ∷ o.last.1.1.1.1.0.now ∷ [])

-- ---- edits

abbrev pub put_in_tree : Deed
put_in_tree =
    hands (call c.sarpukten_put_in_tree.Kinds.ps c.sarpukten_put_in_tree.Kinds.r c.sarpukten_put_in_tree.Reads.Asked c.sarpukten_put_in_tree.Reads.Post)
    (λ i o. o.last.1.1.1.1.1.1.1.0.now) said_in (λ i. i.args.1.1.1.1.1.1.0.now ∷ []) (λ i o. o.last.1.1.1.1.1.1.0.now ∷ [])

abbrev pub remove_from_tree : Deed
remove_from_tree =
    hands
    (call c.sarpukten_remove_from_tree.Kinds.ps c.sarpukten_remove_from_tree.Kinds.r c.sarpukten_remove_from_tree.Reads.Asked c.sarpukten_remove_from_tree.Reads.Post)
    (λ i o. o.last.1.1.1.1.1.0.now) said_in (λ i. i.args.1.1.1.1.0.now ∷ []) (λ i o. o.last.1.1.1.1.0.now ∷ [])

-- ---- mending

abbrev pub mend_tree : Deed
mend_tree =
    hands (call c.sarpukten_mend_tree.Kinds.ps c.sarpukten_mend_tree.Kinds.r c.sarpukten_mend_tree.Reads.Asked c.sarpukten_mend_tree.Reads.Post)
    (λ i o. o.last.1.1.1.1.0.now) said_in (λ i. i.args.1.1.0.now ∷ i.args.1.1.1.0.now ∷ [])
    (λ i o. o.last.1.1.0.now ∷ o.last.1.1.1.0.now ∷ [])

-- ---- those that only answer

abbrev pub questions : List Call
questions =
    call c.sarpukten_mode_value.Kinds.ps c.sarpukten_mode_value.Kinds.r c.sarpukten_mode_value.Reads.Asked c.sarpukten_mode_value.Reads.Post
    ∷ call c.sarpukten_mode_kind.Kinds.ps c.sarpukten_mode_kind.Kinds.r c.sarpukten_mode_kind.Reads.Asked c.sarpukten_mode_kind.Reads.Post
    ∷ call c.sarpukten_name_order.Kinds.ps c.sarpukten_name_order.Kinds.r c.sarpukten_name_order.Reads.Asked c.sarpukten_name_order.Reads.Post
    ∷ call c.sarpukten_most_comparisons.Kinds.ps c.sarpukten_most_comparisons.Kinds.r c.sarpukten_most_comparisons.Reads.Asked c.sarpukten_most_comparisons.Reads.Post
    ∷ []

-- ---- the calls under C names, and the functions behind them, in one order

abbrev pub named : List Call
named =
    call c.sarpukten_mode_read.Kinds.ps c.sarpukten_mode_read.Kinds.r c.sarpukten_mode_read.Reads.Asked c.sarpukten_mode_read.Reads.Post
    ∷ call c.sarpukten_mode_from_number.Kinds.ps c.sarpukten_mode_from_number.Kinds.r c.sarpukten_mode_from_number.Reads.Asked c.sarpukten_mode_from_number.Reads.Post
    ∷ call c.sarpukten_mode_value.Kinds.ps c.sarpukten_mode_value.Kinds.r c.sarpukten_mode_value.Reads.Asked c.sarpukten_mode_value.Reads.Post
    ∷ call c.sarpukten_mode_kind.Kinds.ps c.sarpukten_mode_kind.Kinds.r c.sarpukten_mode_kind.Reads.Asked c.sarpukten_mode_kind.Reads.Post
    ∷ call c.sarpukten_mode_ask.Kinds.ps c.sarpukten_mode_ask.Kinds.r c.sarpukten_mode_ask.Reads.Asked c.sarpukten_mode_ask.Reads.Post
    ∷ call c.sarpukten_mode_word.Kinds.ps c.sarpukten_mode_word.Kinds.r c.sarpukten_mode_word.Reads.Asked c.sarpukten_mode_word.Reads.Post
    ∷ call c.sarpukten_mode_text.Kinds.ps c.sarpukten_mode_text.Kinds.r c.sarpukten_mode_text.Reads.Asked c.sarpukten_mode_text.Reads.Post
    ∷ call c.sarpukten_name_order.Kinds.ps c.sarpukten_name_order.Kinds.r c.sarpukten_name_order.Reads.Asked c.sarpukten_name_order.Reads.Post
    ∷ call c.sarpukten_tree_step.Kinds.ps c.sarpukten_tree_step.Kinds.r c.sarpukten_tree_step.Reads.Asked c.sarpukten_tree_step.Reads.Post
    ∷ call c.sarpukten_read_tree.Kinds.ps c.sarpukten_read_tree.Kinds.r c.sarpukten_read_tree.Reads.Asked c.sarpukten_read_tree.Reads.Post
    ∷ call c.sarpukten_read_tree_strict.Kinds.ps c.sarpukten_read_tree_strict.Kinds.r c.sarpukten_read_tree_strict.Reads.Asked c.sarpukten_read_tree_strict.Reads.Post
    ∷ call c.sarpukten_bisect_entry.Kinds.ps c.sarpukten_bisect_entry.Kinds.r c.sarpukten_bisect_entry.Reads.Asked c.sarpukten_bisect_entry.Reads.Post
    ∷ call c.sarpukten_tree_size.Kinds.ps c.sarpukten_tree_size.Kinds.r c.sarpukten_tree_size.Reads.Asked c.sarpukten_tree_size.Reads.Post
    ∷ call c.sarpukten_write_tree.Kinds.ps c.sarpukten_write_tree.Kinds.r c.sarpukten_write_tree.Reads.Asked c.sarpukten_write_tree.Reads.Post
    ∷ call c.sarpukten_loose_header.Kinds.ps c.sarpukten_loose_header.Kinds.r c.sarpukten_loose_header.Reads.Asked c.sarpukten_loose_header.Reads.Post
    ∷ call c.sarpukten_read_commit.Kinds.ps c.sarpukten_read_commit.Kinds.r c.sarpukten_read_commit.Reads.Asked c.sarpukten_read_commit.Reads.Post
    ∷ call c.sarpukten_unfold.Kinds.ps c.sarpukten_unfold.Kinds.r c.sarpukten_unfold.Reads.Asked c.sarpukten_unfold.Reads.Post
    ∷ call c.sarpukten_commit_size.Kinds.ps c.sarpukten_commit_size.Kinds.r c.sarpukten_commit_size.Reads.Asked c.sarpukten_commit_size.Reads.Post
    ∷ call c.sarpukten_write_commit.Kinds.ps c.sarpukten_write_commit.Kinds.r c.sarpukten_write_commit.Reads.Asked c.sarpukten_write_commit.Reads.Post
    ∷ call c.sarpukten_most_comparisons.Kinds.ps c.sarpukten_most_comparisons.Kinds.r c.sarpukten_most_comparisons.Reads.Asked c.sarpukten_most_comparisons.Reads.Post
    ∷ call c.sarpukten_bisect_any.Kinds.ps c.sarpukten_bisect_any.Kinds.r c.sarpukten_bisect_any.Reads.Asked c.sarpukten_bisect_any.Reads.Post
    ∷ call c.sarpukten_bisect_entries.Kinds.ps c.sarpukten_bisect_entries.Kinds.r c.sarpukten_bisect_entries.Reads.Asked c.sarpukten_bisect_entries.Reads.Post
    ∷ call c.sarpukten_id_of_hex.Kinds.ps c.sarpukten_id_of_hex.Kinds.r c.sarpukten_id_of_hex.Reads.Asked c.sarpukten_id_of_hex.Reads.Post
    ∷ call c.sarpukten_hex_of_id.Kinds.ps c.sarpukten_hex_of_id.Kinds.r c.sarpukten_hex_of_id.Reads.Asked c.sarpukten_hex_of_id.Reads.Post
    ∷ call c.sarpukten_export_tree.Kinds.ps c.sarpukten_export_tree.Kinds.r c.sarpukten_export_tree.Reads.Asked c.sarpukten_export_tree.Reads.Post
    ∷ call c.sarpukten_import_tree.Kinds.ps c.sarpukten_import_tree.Kinds.r c.sarpukten_import_tree.Reads.Asked c.sarpukten_import_tree.Reads.Post
    ∷ call c.sarpukten_check_bundle.Kinds.ps c.sarpukten_check_bundle.Kinds.r c.sarpukten_check_bundle.Reads.Asked c.sarpukten_check_bundle.Reads.Post
    ∷ call c.sarpukten_bundle_object.Kinds.ps c.sarpukten_bundle_object.Kinds.r c.sarpukten_bundle_object.Reads.Asked c.sarpukten_bundle_object.Reads.Post
    ∷ call c.sarpukten_follow_path.Kinds.ps c.sarpukten_follow_path.Kinds.r c.sarpukten_follow_path.Reads.Asked c.sarpukten_follow_path.Reads.Post
    ∷ call c.sarpukten_put_in_tree.Kinds.ps c.sarpukten_put_in_tree.Kinds.r c.sarpukten_put_in_tree.Reads.Asked c.sarpukten_put_in_tree.Reads.Post
    ∷ call c.sarpukten_remove_from_tree.Kinds.ps c.sarpukten_remove_from_tree.Kinds.r c.sarpukten_remove_from_tree.Reads.Asked c.sarpukten_remove_from_tree.Reads.Post
    ∷ call c.sarpukten_mend_tree.Kinds.ps c.sarpukten_mend_tree.Kinds.r c.sarpukten_mend_tree.Reads.Asked c.sarpukten_mend_tree.Reads.Post
    ∷ call c.sarpukten_compare_trees.Kinds.ps c.sarpukten_compare_trees.Kinds.r c.sarpukten_compare_trees.Reads.Asked c.sarpukten_compare_trees.Reads.Post
    ∷ call c.sarpukten_check_start.Kinds.ps c.sarpukten_check_start.Kinds.r c.sarpukten_check_start.Reads.Asked c.sarpukten_check_start.Reads.Post
    ∷ call c.sarpukten_check_piece.Kinds.ps c.sarpukten_check_piece.Kinds.r c.sarpukten_check_piece.Reads.Asked c.sarpukten_check_piece.Reads.Post
    ∷ call c.sarpukten_check_end.Kinds.ps c.sarpukten_check_end.Kinds.r c.sarpukten_check_end.Reads.Asked c.sarpukten_check_end.Reads.Post
    ∷ []

abbrev pub behind : List Call
behind =
    call bm.mode_read.Kinds.ps bm.mode_read.Kinds.r bm.mode_read.Reads.Asked bm.mode_read.Reads.Post
    ∷ call bm.mode_from_number.Kinds.ps bm.mode_from_number.Kinds.r bm.mode_from_number.Reads.Asked bm.mode_from_number.Reads.Post
    ∷ call bm.mode_value.Kinds.ps bm.mode_value.Kinds.r bm.mode_value.Reads.Asked bm.mode_value.Reads.Post
    ∷ call bk.mode_kind.Kinds.ps bk.mode_kind.Kinds.r bk.mode_kind.Reads.Asked bk.mode_kind.Reads.Post
    ∷ call bk.mode_ask.Kinds.ps bk.mode_ask.Kinds.r bk.mode_ask.Reads.Asked bk.mode_ask.Reads.Post
    ∷ call bk.mode_word.Kinds.ps bk.mode_word.Kinds.r bk.mode_word.Reads.Asked bk.mode_word.Reads.Post
    ∷ call bk.mode_text.Kinds.ps bk.mode_text.Kinds.r bk.mode_text.Reads.Asked bk.mode_text.Reads.Post
    ∷ call bl.name_order.Kinds.ps bl.name_order.Kinds.r bl.name_order.Reads.Asked bl.name_order.Reads.Post
    ∷ call bt.tree_step.Kinds.ps bt.tree_step.Kinds.r bt.tree_step.Reads.Asked bt.tree_step.Reads.Post
    ∷ call bt.read_tree.Kinds.ps bt.read_tree.Kinds.r bt.read_tree.Reads.Asked bt.read_tree.Reads.Post
    ∷ call bt.read_tree_strict.Kinds.ps bt.read_tree_strict.Kinds.r bt.read_tree_strict.Reads.Asked bt.read_tree_strict.Reads.Post
    ∷ call bl.bisect_entry.Kinds.ps bl.bisect_entry.Kinds.r bl.bisect_entry.Reads.Asked bl.bisect_entry.Reads.Post
    ∷ call btw.tree_size.Kinds.ps btw.tree_size.Kinds.r btw.tree_size.Reads.Asked btw.tree_size.Reads.Post
    ∷ call btw.write_tree.Kinds.ps btw.write_tree.Kinds.r btw.write_tree.Reads.Asked btw.write_tree.Reads.Post
    ∷ call btw.loose_header.Kinds.ps btw.loose_header.Kinds.r btw.loose_header.Reads.Asked btw.loose_header.Reads.Post
    ∷ call bc.read_commit.Kinds.ps bc.read_commit.Kinds.r bc.read_commit.Reads.Asked bc.read_commit.Reads.Post
    ∷ call bc.unfold_value.Kinds.ps bc.unfold_value.Kinds.r bc.unfold_value.Reads.Asked bc.unfold_value.Reads.Post
    ∷ call bcw.commit_size.Kinds.ps bcw.commit_size.Kinds.r bcw.commit_size.Reads.Asked bcw.commit_size.Reads.Post
    ∷ call bcw.write_commit.Kinds.ps bcw.write_commit.Kinds.r bcw.write_commit.Reads.Asked bcw.write_commit.Reads.Post
    ∷ call lookup.most_comparisons.Kinds.ps lookup.most_comparisons.Kinds.r lookup.most_comparisons.Reads.Asked lookup.most_comparisons.Reads.Post
    ∷ call bl.bisect_any.Kinds.ps bl.bisect_any.Kinds.r bl.bisect_any.Reads.Asked bl.bisect_any.Reads.Post
    ∷ call bl.bisect_entries.Kinds.ps bl.bisect_entries.Kinds.r bl.bisect_entries.Reads.Asked bl.bisect_entries.Reads.Post
    ∷ call bh.id_of_hex.Kinds.ps bh.id_of_hex.Kinds.r bh.id_of_hex.Reads.Asked bh.id_of_hex.Reads.Post
    ∷ call bh.hex_of_id.Kinds.ps bh.hex_of_id.Kinds.r bh.hex_of_id.Reads.Asked bh.hex_of_id.Reads.Post
    ∷ call bx.export_tree.Kinds.ps bx.export_tree.Kinds.r bx.export_tree.Reads.Asked bx.export_tree.Reads.Post
    ∷ call bx.import_tree.Kinds.ps bx.import_tree.Kinds.r bx.import_tree.Reads.Asked bx.import_tree.Reads.Post
    ∷ call bb.check_bundle.Kinds.ps bb.check_bundle.Kinds.r bb.check_bundle.Reads.Asked bb.check_bundle.Reads.Post
    ∷ call bb.bundle_object.Kinds.ps bb.bundle_object.Kinds.r bb.bundle_object.Reads.Asked bb.bundle_object.Reads.Post
    ∷ call way.follow_path.Kinds.ps way.follow_path.Kinds.r way.follow_path.Reads.Asked way.follow_path.Reads.Post
    ∷ call be.put_in_tree.Kinds.ps be.put_in_tree.Kinds.r be.put_in_tree.Reads.Asked be.put_in_tree.Reads.Post
    ∷ call be.remove_from_tree.Kinds.ps be.remove_from_tree.Kinds.r be.remove_from_tree.Reads.Asked be.remove_from_tree.Reads.Post
    ∷ call bmd.mend_tree.Kinds.ps bmd.mend_tree.Kinds.r bmd.mend_tree.Reads.Asked bmd.mend_tree.Reads.Post
    ∷ call bd.compare_trees.Kinds.ps bd.compare_trees.Kinds.r bd.compare_trees.Reads.Asked bd.compare_trees.Reads.Post
    ∷ call bcheck.check_start.Kinds.ps bcheck.check_start.Kinds.r bcheck.check_start.Reads.Asked bcheck.check_start.Reads.Post
    ∷ call bp.check_piece.Kinds.ps bp.check_piece.Kinds.r bp.check_piece.Reads.Asked bp.check_piece.Reads.Post
    ∷ call bcheck.check_end.Kinds.ps bcheck.check_end.Kinds.r bcheck.check_end.Reads.Asked bcheck.check_end.Reads.Post
    ∷ []
