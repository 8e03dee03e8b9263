-- The places that come with the numbers of the calls on commits, over every run of them. `proofs/Places.antt` proves it. Assumes nothing.
use Rattle.std.specs.Prelude.{◌+◌, ◌/◌, ◌<◌, ◌≡◌, [], ◌∷◌, ◌⊎◌}
use Rattle.std.proofs.Math.ListN.{length}
use Rattle.header.specs.Record as header
use Rattle.call.specs.Call.{Run}
use Rattle.call.specs.Places.{Below, Over, at_record}
use Rattle.commit_calls.specs.Calls as a

pub record CommitPlaces : Type 0 where
  -- an unfolded value's 8 is more bytes than the output has
  pub unfold_value : (c : Run (a.unfold_value).call) → Over (8 ∷ []) (length c.given.args.1.1.0.now) c.came.answer.verdict
  -- a commit's 4 is more parents, or more headers, than the lent list has room for
  pub read_commit : (c : Run (a.read_commit).call) → let v = c.came.answer.verdict in
      v.number ≡ 4 → (length c.given.args.1.1.0.now < v.place) ⊎ (length c.given.args.1.1.1.0.now / header.width < v.place)
  -- writing a commit: 10 is the index of one of its records, the parents and the headers and five more; 8 is more bytes than the output has
  pub commit_size : (c : Run (a.commit_size).call) → let g = c.given.args in
      Below at_record (length g.1.1.1.0.now + length g.1.1.1.1.0.now / header.width + 5) c.came.answer.verdict
  pub write_commit : (c : Run (a.write_commit).call) → let g = c.given.args in let v = c.came.answer.verdict in
      Below at_record (length g.1.1.1.0.now + length g.1.1.1.1.0.now / header.width + 5) v × Over (8 ∷ []) (length g.1.1.1.1.1.0.now) v
