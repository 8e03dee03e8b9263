-- The places that come with the numbers of the calls on trees, over every run of them. `proofs/Places.antt` proves it. Assumes nothing.
use Rattle.std.specs.Prelude.{◌<◌, ◌≡◌, [], ◌∷◌, length}
use Rattle.entry.specs.Record.{many, records_of}
use Rattle.call.specs.Call.{Run}
use Rattle.call.specs.Walked.{EachOutcome}
use Rattle.call.specs.Places.{Below, Over, at_entry, at_record}
use Rattle.tree_calls.specs.Calls as a

pub record TreePlaces : Type 2 where
  -- the 3 of an entry is where the cursor stands
  pub cursor_decode : (c : Run (a.cursor_decode).call) → let v = (a.of_decoded c.came.answer).verdict in v.number ≡ 3 → v.place ≡ c.given.args.0.at
  -- a step's 3 is there too, and inside the object
  pub cursor_step : (c : Run (a.cursor_step).call) → let v = c.came.answer.verdict in
      v.number ≡ 3 → (v.place ≡ c.given.args.0.at) × (v.place < length c.given.args.1.0.now)
  -- a plain reading's 3 lies inside the object; its 4 is more records than the lent list has room for
  pub read_tree : (c : Run (a.read_tree).call) → let v = c.came.answer.verdict in
      Below at_entry (length c.given.args.0.now) v × Over (4 ∷ []) (many (length c.given.args.1.1.0.now)) v
  -- so with a strict reading, whichever rule refuses an entry
  pub read_tree_strict : (c : Run (a.read_tree_strict).call) → let v = c.came.answer.verdict in
      Below at_entry (length c.given.args.0.now) v × Over (4 ∷ []) (many (length c.given.args.1.1.1.0.now)) v
  -- a lookup's 10 is the index of a record: over flat numbers, an array, and a lent slice
  pub bisect_entry : (c : Run (a.bisect_entry).call) → Below at_record (length (records_of c.given.args.1.1.0.now)) c.came.answer.verdict
  pub bisect_array : (c : Run (a.bisect_array).call) → Below at_record c.given.args.1.1.0 c.came.answer.verdict
  pub bisect_records : EachOutcome a.bisect_records (λ κs x r. Below at_record (length x.1.1.0.now) r.verdict)
  -- so are 9 and 10 of the tree writer, and 10 of the size asked alone; its 8 is more bytes than the output has
  pub tree_size : (c : Run (a.tree_size).call) → Below at_record (length (records_of c.given.args.1.1.0.now)) c.came.answer.verdict
  pub write_tree : (c : Run (a.write_tree).call) → let v = c.came.answer.verdict in
      Below at_record (length (records_of c.given.args.1.1.0.now)) v × Over (8 ∷ []) (length c.given.args.1.1.1.0.now) v
  -- so is 8 of a loose header
  pub loose_header : (c : Run (a.loose_header).call) → Over (8 ∷ []) (length c.given.args.1.1.0.now) c.came.answer.verdict
