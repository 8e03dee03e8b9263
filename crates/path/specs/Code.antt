-- What the private functions answer, by positions. Assumes nothing.
use Rattle.std.specs.Prelude.{List, ℕ, Err, Ok, Result}
use Rattle.path_walk.specs.Reach.{reached_by}
use Rattle.path_walk.specs.declared.Followed.{Followed}
use Rattle.path.specs.Path.{refused_with}
use Rattle.frame.specs.declared.Header.{Header}
use Rattle.ground.specs.declared.Verdict.{Verdict}

-- how a call goes on once the bundle was opened, or was not
unfoldable pub after_open : List ℕ → List ℕ → List (List ℕ) → Result Header Verdict → Followed
after_open s root cs (Err v) = refused_with v
after_open s root cs (Ok k) = reached_by k.h s root cs
