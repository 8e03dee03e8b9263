-- Laws of an id that stands twice. Assumes nothing.
use Prim.Native.Nat.{ℕ, ◌<◌, ◌≤◌}
use native.Mathlib.Omega.{arith}
use mathlib.Core.Path.{◌≡◌}
use mathlib.Core.Bool.{false}
use mathlib.Core.List.{List}
use mathlib.Core.Logic.{⊎_elim}
use lib.ListN.{length}
use borrow.Author.Tests.{le-leb, lt-leb}
use Rattle.ground.specs.Verdict.{most_bytes, most_records}
use Rattle.frame.specs.Frame.{head_of, frames_by}
use Rattle.frame.specs.declared.Header.{Header}
use Rattle.frame.proofs.Laws.{head-says}
use Rattle.twice.specs.Ids.{ids_in, repeats, repeats_by, id_twice}
use Rattle.std.specs.Prelude.{None, Some}

module _ (s : List ℕ) where
  pub twice-over : most_bytes < length s → id_twice s ≡ false
  unfolding id_twice
  twice-over p = rw (lt-leb (length s) most_bytes p)

  module _ (p : length s ≤ most_bytes) where
    pub twice-bad : head_of s ≡ None → id_twice s ≡ false
    unfolding id_twice repeats_by
    twice-bad e = rw (le-leb (length s) most_bytes p, e)

    pub twice-good : (k : Header) → head_of s ≡ Some k → id_twice s ≡ repeats (ids_in k.h s (frames_by s k))
    unfolding id_twice repeats_by
    twice-good k e = rw (le-leb (length s) most_bytes p, e)

-- an id has some bytes
pub head-some : (s : List ℕ) (k : Header) → head_of s ≡ Some k → k.h ≡ 0 → ⊥
head-some s k e z = ⊎_elim (λ (q : k.h ≡ 20). absurd (omega arith)) (λ (q : k.h ≡ 32). absurd (omega arith)) (head-says s k e).id_length

pub head_few : (s : List ℕ) (k : Header) → head_of s ≡ Some k → k.count ≤ most_records
head_few s k e = (head-says s k e).few
