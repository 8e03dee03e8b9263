-- A commit that may be written: within the bounds, and each record passes (docs/FORMAT.md, "Commit writing"). Assumes nothing.
use Rattle.std.specs.Prelude.{ℕ, ◌/◌, ◌≤◌, ◌≡◌, true, List, map, ◌⊎◌, length}
use Rattle.ground.specs.Verdict.{most_bytes, most_records}
use Rattle.header.specs.Record.{width}
use Rattle.header.specs.declared.CommitParts.{CommitParts}
use Rattle.commit_check.specs.Check.{headers_of, ranged, id_fits, encoding_fits, header_fits, passing}

pub record Sound (h : ℕ) (bytes : List ℕ) (p : CommitParts) (parents headers : List ℕ) (room : ℕ) : Type 0 where
  pub id_length : (h ≡ 20) ⊎ (h ≡ 32)
  pub bytes_most : length bytes ≤ most_bytes
  pub room_most : room ≤ most_bytes
  pub parents_most : length parents ≤ most_records
  pub headers_most : length headers / width ≤ most_records
  pub tree : id_fits h bytes p.tree ≡ true
  pub parents_pass : passing (map (id_fits h bytes) parents) ≡ length parents
  pub author : ranged p.author_start p.author_end (length bytes) ≡ true
  pub committer : ranged p.committer_start p.committer_end (length bytes) ≡ true
  pub encoding : encoding_fits (length bytes) p ≡ true
  pub headers_pass : passing (map (header_fits bytes) (headers_of headers)) ≡ length headers / width
  pub message : ranged p.message_start p.message_end (length bytes) ≡ true
