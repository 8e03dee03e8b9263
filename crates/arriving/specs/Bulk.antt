-- What the private leaves of `feed` answer that take several bytes at once. Assumes nothing.
use Rattle.std.specs.Prelude.{ℕ, ◌≤◌, ◌≡◌, List, length, drop}
use Rattle.arriving.specs.Feed.{together, feed_of}
use Rattle.arriving.specs.declared.Marks.{Marks}
use Rattle.arriving.specs.declared.Taken.{Taken}

-- some bytes of a piece were taken, after which this is held and these names are open: what is to come is what is to come after them
pub record Took (held ends : List ℕ) (m : Marks) (piece : List ℕ) (i : ℕ) (after left : List ℕ) (t : Taken) : Type 0 where
  pub same : feed_of (together held ends m) (drop i piece) ≡ feed_of (together after left t.marks) (drop t.next piece)
  pub from : i ≤ t.next
  pub within : t.next ≤ length piece
