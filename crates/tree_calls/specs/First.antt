-- The first demand of the calls on trees: which numbers and places they give, and that a refusal leaves what was lent (docs/FORMAT.md, "Numbers").
-- Assumes nothing.
use Rattle.std.specs.Prelude.{[], ◌∷◌}
use Rattle.call.specs.Call.{EachOnce, Keeps, HandsOn, Prints}
use Rattle.call.specs.Walked.{KeepsWalked}
use Rattle.tree_calls.specs.Calls as a

-- entries: the cursor and the records
pub record OfEntries : Type 3 where
  pub cursor_step : Keeps a.cursor_step (0 ∷ 1 ∷ 2 ∷ 3 ∷ [])
  pub cursor_decode : Keeps a.cursor_decode (0 ∷ 3 ∷ [])
  pub put_entry : Keeps a.put_entry (0 ∷ [])
  pub entry_questions : EachOnce a.entry_questions

-- the strict rules, and a whole tree, plainly and strictly
pub record OfReading : Type 3 where
  pub rule_bounds : Keeps a.rule_bounds (0 ∷ 1 ∷ 2 ∷ 19 ∷ [])
  pub rule_questions : EachOnce a.rule_questions
  pub place_entry : Keeps a.place_entry (0 ∷ [])
  pub open_entry : Keeps a.open_entry (0 ∷ [])
  pub finish_reading : Keeps a.finish_reading (0 ∷ [])
  pub read_tree : Keeps a.read_tree (0 ∷ 1 ∷ 2 ∷ 3 ∷ 4 ∷ [])
  pub read_tree_strict : Keeps a.read_tree_strict (0 ∷ 1 ∷ 2 ∷ 3 ∷ 4 ∷ 5 ∷ 6 ∷ 7 ∷ 17 ∷ 18 ∷ 19 ∷ [])

-- lookup, over flat numbers, of one sort or of any, over an array of records, and over a lent slice of them; many in one call; and its steps
pub record OfLookup : Type 3 where
  pub bisect_entry : Keeps a.bisect_entry (0 ∷ 1 ∷ 2 ∷ 10 ∷ 15 ∷ [])
  pub bisect_any : Keeps a.bisect_any (0 ∷ 1 ∷ 2 ∷ 10 ∷ 15 ∷ [])
  pub bisect_array : Keeps a.bisect_array (0 ∷ 1 ∷ 2 ∷ 10 ∷ 15 ∷ [])
  pub bisect_records : KeepsWalked a.bisect_records (0 ∷ 1 ∷ 2 ∷ 10 ∷ 15 ∷ [])
  pub bisect_entries : Keeps a.bisect_entries (0 ∷ 1 ∷ 2 ∷ 4 ∷ 10 ∷ [])
  pub lookup_start : Keeps a.lookup_start (1 ∷ 2 ∷ 15 ∷ [])
  pub lookup_step : HandsOn a.lookup_step a.step_given (0 ∷ 10 ∷ 15 ∷ [])
  pub lookup_answer : HandsOn a.lookup_answer a.answer_given []
  pub lookup_questions : EachOnce a.lookup_questions

-- a tree written, its size, and the header of a loose object
pub record OfWriting : Type 3 where
  pub tree_size : Keeps a.tree_size (0 ∷ 1 ∷ 2 ∷ 10 ∷ [])
  pub write_tree : Keeps a.write_tree (0 ∷ 1 ∷ 2 ∷ 8 ∷ 9 ∷ 10 ∷ [])
  pub loose_header : Keeps a.loose_header (0 ∷ 8 ∷ 23 ∷ [])
  pub digit_questions : EachOnce a.digit_questions
  pub fit : HandsOn a.fit a.fit_given (8 ∷ [])

-- the text of a listing
pub record OfListing : Type 3 where
  pub put_part : Keeps a.put_part (0 ∷ [])
  pub put_listing : Prints a.put_listing (0 ∷ 1 ∷ 2 ∷ 3 ∷ [])
