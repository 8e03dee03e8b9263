-- `mend::repeated` meets its contract. Assumes nothing.
use mathlib.Core.Path.{◌∙◌}
use Rattle.mend_kept.proofs.Bisect.{repeated-none, repeated-some}
use Rattle.mend.proofs.repeated.Goals as goal

pub search-k-requires : goal.search-k-requires
search-k-requires c = c.requires.known.up

pub returns-then-k-eq0 : goal.returns-then-k-eq0
returns-then-k-eq0 c = repeated-none _ _ _ _ _ c.requires.known c.search-k.ensures c.if-k-eq0.true

pub returns : goal.returns
returns c =
    let found = c.search-k in
    let if1 = c.if-k-eq0 in
    let same_name = c.same_name in
    same_name.ensures ∙ repeated-some _ _ _ _ _ _ c.requires.known c.requires.x_value found.ensures if1.false
