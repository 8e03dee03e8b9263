-- The first demand, for every public function: it takes every input, and no second answer meets its contract. Of those that refuse also: which numbers and
-- places they give (docs/FORMAT.md, "Numbers"), that every refusal but 15 counts nothing, and that a refusal leaves what was lent. `proofs/Demand1.antt`
-- proves it. Assumes nothing.
use Rattle.std.specs.Prelude.{◌≡◌, [], ◌∷◌}
use Rattle.call.specs.Call.{EachOnce, Keeps}
use Rattle.tree_calls.specs.First.{OfEntries, OfReading, OfLookup, OfWriting, OfListing}
use Rattle.commit_calls.specs.First.{OfCommits, OfCommitWriting}
use Rattle.paper.specs.Calls as a
use Rattle.paper.specs.Border as c
use Rattle.paper.specs.Pieces.{OfPieces}
use Rattle.paper.specs.Places.{Places}

-- the bounds, the scans of bytes, and the lent output
pub record OfGround : Type 3 where
  pub sizes : Keeps a.sizes (0 ∷ 2 ∷ [])
  pub bounds : Keeps a.bounds (0 ∷ 1 ∷ 2 ∷ [])
  pub scans : EachOnce a.scans
  pub put : Keeps a.put (0 ∷ [])
  pub put_ended : Keeps a.put_ended (0 ∷ [])

-- modes from a text and from a number, every question, and the codes; the order of names
pub record OfModes : Type 3 where
  pub from_bytes : Keeps a.from_bytes (0 ∷ 2 ∷ 3 ∷ [])
  pub from_number : Keeps a.from_number (0 ∷ 23 ∷ [])
  pub mode_questions : EachOnce a.mode_questions
  pub orders : EachOnce a.orders

-- a tree mended, and what is asked of each entry
pub record OfMending : Type 3 where
  pub mend_questions : EachOnce a.mend_questions
  pub mend_tree : Keeps a.mend_tree (0 ∷ 1 ∷ 2 ∷ 3 ∷ 4 ∷ 8 ∷ [])

-- two trees compared: the step of their merge, an object sought and a tree opened, an index, an item stored, the walk, and the call
pub record OfDifferences : Type 3 where
  pub difference_questions : EachOnce a.difference_questions
  pub make_index : Keeps a.make_index (0 ∷ [])
  pub put_item : Keeps a.put_item (0 ∷ [])
  pub put_path : Keeps a.put_path (0 ∷ [])
  pub walk_trees : Keeps a.walk_trees (0 ∷ 2 ∷ 3 ∷ 4 ∷ 5 ∷ 6 ∷ 7 ∷ 8 ∷ 17 ∷ 18 ∷ 27 ∷ 28 ∷ [])
  pub compare_trees : Keeps a.compare_trees (0 ∷ 2 ∷ 3 ∷ 4 ∷ 5 ∷ 6 ∷ 7 ∷ 8 ∷ 17 ∷ 18 ∷ 24 ∷ 25 ∷ 27 ∷ 28 ∷ [])

-- the leaves of the check in pieces, and the words of a command line
pub record OfLeaves : Type 3 where
  pub piece_questions : EachOnce a.piece_questions
  pub word_questions : EachOnce a.word_questions

-- the strict reader's count by itself, what is done with an entry, the walk of an edit, and the two edits
pub record OfEdits : Type 3 where
  pub edit_questions : EachOnce a.edit_questions
  pub count_strict : Keeps a.count_strict (0 ∷ 2 ∷ 3 ∷ 5 ∷ 6 ∷ 7 ∷ 17 ∷ 18 ∷ [])
  pub walk_tree : Keeps a.walk_tree (0 ∷ [])
  pub put_in_tree : Keeps a.put_in_tree (0 ∷ 1 ∷ 2 ∷ 3 ∷ 5 ∷ 6 ∷ 7 ∷ 8 ∷ 10 ∷ 17 ∷ 18 ∷ 19 ∷ [])
  pub remove_from_tree : Keeps a.remove_from_tree (0 ∷ 1 ∷ 2 ∷ 3 ∷ 5 ∷ 6 ∷ 7 ∷ 8 ∷ 15 ∷ 17 ∷ 18 ∷ 19 ∷ [])

-- hex digits, and an id from its digits and back
pub record OfHex : Type 3 where
  pub hex_questions : EachOnce a.hex_questions
  pub id_of_hex : Keeps a.id_of_hex (0 ∷ 1 ∷ 2 ∷ 8 ∷ 10 ∷ [])
  pub hex_of_id : Keeps a.hex_of_id (0 ∷ 1 ∷ 2 ∷ 8 ∷ [])

-- a strict tree as text, and from text
pub record OfText : Type 3 where
  pub text_questions : EachOnce a.text_questions
  pub export_tree : Keeps a.export_tree (0 ∷ 1 ∷ 2 ∷ 3 ∷ 5 ∷ 6 ∷ 7 ∷ 8 ∷ 17 ∷ 18 ∷ 19 ∷ [])
  pub judge_list : Keeps a.judge_list (0 ∷ [])
  pub import_lent : Keeps a.import_lent (0 ∷ 1 ∷ 2 ∷ 4 ∷ 5 ∷ 6 ∷ 7 ∷ 8 ∷ 17 ∷ 18 ∷ 20 ∷ [])
  pub import_tree : Keeps a.import_tree (0 ∷ 1 ∷ 2 ∷ 5 ∷ 6 ∷ 7 ∷ 8 ∷ 17 ∷ 18 ∷ 19 ∷ 20 ∷ [])

-- bundles and paths, with the sort and the leaves of both
pub record OfBundles : Type 3 where
  pub sort_all : Keeps a.sort_all (0 ∷ [])
  pub sort_front : Keeps a.sort_front (0 ∷ [])
  pub open_bundle : Keeps a.open_bundle (0 ∷ 2 ∷ 24 ∷ 25 ∷ [])
  pub check_bundle : Keeps a.check_bundle (0 ∷ 2 ∷ 24 ∷ 25 ∷ [])
  pub object_of : Keeps a.object_of (0 ∷ 2 ∷ 15 ∷ [])
  pub follow_path : Keeps a.follow_path (0 ∷ 2 ∷ 15 ∷ 24 ∷ 25 ∷ 26 ∷ [])
  pub bundle_questions : EachOnce a.bundle_questions

-- the calls under C names
pub record OfBorder : Type 3 where
  pub hand : Keeps c.hand (0 ∷ [])
  pub mode_read : Keeps c.mode_read (0 ∷ 2 ∷ 3 ∷ [])
  pub mode_from_number : Keeps c.mode_from_number (0 ∷ 23 ∷ [])
  pub mode_ask : Keeps c.mode_ask (0 ∷ [])
  pub mode_word : Keeps c.mode_word (0 ∷ [])
  pub mode_text : Keeps c.mode_text (0 ∷ [])
  pub tree_step : Keeps c.tree_step (0 ∷ 1 ∷ 2 ∷ 3 ∷ [])
  pub read_tree : Keeps c.read_tree (0 ∷ 1 ∷ 2 ∷ 3 ∷ 4 ∷ [])
  pub read_tree_strict : Keeps c.read_tree_strict (0 ∷ 1 ∷ 2 ∷ 3 ∷ 4 ∷ 5 ∷ 6 ∷ 7 ∷ 17 ∷ 18 ∷ 19 ∷ [])
  pub bisect_entry : Keeps c.bisect_entry (0 ∷ 1 ∷ 2 ∷ 10 ∷ 15 ∷ [])
  pub bisect_any : Keeps c.bisect_any (0 ∷ 1 ∷ 2 ∷ 10 ∷ 15 ∷ [])
  pub bisect_entries : Keeps c.bisect_entries (0 ∷ 1 ∷ 2 ∷ 4 ∷ 10 ∷ [])
  pub tree_size : Keeps c.tree_size (0 ∷ 1 ∷ 2 ∷ 10 ∷ [])
  pub write_tree : Keeps c.write_tree (0 ∷ 1 ∷ 2 ∷ 8 ∷ 9 ∷ 10 ∷ [])
  pub loose_header : Keeps c.loose_header (0 ∷ 8 ∷ 23 ∷ [])
  pub read_commit : Keeps c.read_commit (0 ∷ 1 ∷ 2 ∷ 4 ∷ 11 ∷ 12 ∷ [])
  pub unfold_value : Keeps c.unfold_value (0 ∷ 2 ∷ 8 ∷ 10 ∷ [])
  pub commit_size : Keeps c.commit_size (0 ∷ 1 ∷ 2 ∷ 10 ∷ [])
  pub write_commit : Keeps c.write_commit (0 ∷ 1 ∷ 2 ∷ 8 ∷ 10 ∷ 13 ∷ 14 ∷ [])
  pub id_of_hex : Keeps c.id_of_hex (0 ∷ 1 ∷ 2 ∷ 8 ∷ 10 ∷ [])
  pub hex_of_id : Keeps c.hex_of_id (0 ∷ 1 ∷ 2 ∷ 8 ∷ [])
  pub export_tree : Keeps c.export_tree (0 ∷ 1 ∷ 2 ∷ 3 ∷ 5 ∷ 6 ∷ 7 ∷ 8 ∷ 17 ∷ 18 ∷ 19 ∷ [])
  pub import_tree : Keeps c.import_tree (0 ∷ 1 ∷ 2 ∷ 5 ∷ 6 ∷ 7 ∷ 8 ∷ 17 ∷ 18 ∷ 19 ∷ 20 ∷ [])
  pub check_bundle : Keeps c.check_bundle (0 ∷ 2 ∷ 24 ∷ 25 ∷ [])
  pub bundle_object : Keeps c.bundle_object (0 ∷ 2 ∷ 15 ∷ [])
  pub follow_path : Keeps c.follow_path (0 ∷ 2 ∷ 15 ∷ 24 ∷ 25 ∷ 26 ∷ [])
  pub put_in_tree : Keeps c.put_in_tree (0 ∷ 1 ∷ 2 ∷ 3 ∷ 5 ∷ 6 ∷ 7 ∷ 8 ∷ 10 ∷ 17 ∷ 18 ∷ 19 ∷ [])
  pub remove_from_tree : Keeps c.remove_from_tree (0 ∷ 1 ∷ 2 ∷ 3 ∷ 5 ∷ 6 ∷ 7 ∷ 8 ∷ 15 ∷ 17 ∷ 18 ∷ 19 ∷ [])
  pub mend_tree : Keeps c.mend_tree (0 ∷ 1 ∷ 2 ∷ 3 ∷ 4 ∷ 8 ∷ [])
  pub compare_trees : Keeps c.compare_trees (0 ∷ 2 ∷ 3 ∷ 4 ∷ 5 ∷ 6 ∷ 7 ∷ 8 ∷ 17 ∷ 18 ∷ 24 ∷ 25 ∷ 27 ∷ 28 ∷ [])
  pub questions : EachOnce c.questions
  -- the functions behind them have the same contracts, so that all this holds of those too
  pub same_contracts : c.behind ≡ c.named

pub record FirstDemand : Type 3 where
  pub of_ground : OfGround
  pub of_modes : OfModes
  pub of_entries : OfEntries
  pub of_reading : OfReading
  pub of_edits : OfEdits
  pub of_mending : OfMending
  pub of_leaves : OfLeaves
  pub of_listing : OfListing
  pub of_pieces : OfPieces
  pub of_lookup : OfLookup
  pub of_writing : OfWriting
  pub of_hex : OfHex
  pub of_text : OfText
  pub of_commits : OfCommits
  pub of_commit_writing : OfCommitWriting
  pub of_bundles : OfBundles
  pub of_differences : OfDifferences
  pub of_border : OfBorder
  -- and where the places point
  pub places : Places
