-- The first demand is met. Assumes nothing.
use Rattle.paper.specs.Demand1.{FirstDemand}
use Rattle.paper.proofs.Modes as modes
use Rattle.tree_calls.proofs.Entries as entries
use Rattle.tree_calls.proofs.Reading as reading
use Rattle.paper.proofs.Edits as edits
use Rattle.paper.proofs.Mending as mending
use Rattle.tree_calls.proofs.Listing as listing
use Rattle.paper.proofs.Pieces as pieces
use Rattle.tree_calls.proofs.Lookup as lookup
use Rattle.tree_calls.proofs.Writing as writing
use Rattle.paper.proofs.Hex as hex
use Rattle.paper.proofs.Text as text
use Rattle.commit_calls.proofs.Commits as commits
use Rattle.commit_calls.proofs.CommitWriting as commit-writing
use Rattle.paper.proofs.Bundles as bundles
use Rattle.paper.proofs.Differences as differences
use Rattle.paper.proofs.Border as border
use Rattle.paper.proofs.Places as places

pub first_demand : FirstDemand
first_demand = record {
  of_ground = modes.of_ground;
  of_modes = modes.of_modes;
  of_entries = entries.of_entries;
  of_reading = reading.of_reading;
  of_edits = edits.of_edits;
  of_mending = mending.of_mending;
  of_leaves = mending.of_leaves;
  of_listing = listing.of_listing;
  of_pieces = pieces.of_pieces;
  of_lookup = lookup.of_lookup;
  of_writing = writing.of_writing;
  of_hex = hex.of_hex;
  of_text = text.of_text;
  of_commits = commits.of_commits;
  of_commit_writing = commit-writing.of_commit_writing;
  of_bundles = bundles.of_bundles;
  of_differences = differences.of_differences;
  of_border = border.of_border;
  places = places.places;
}
