-- `indexing::make_index` meets its contract. Assumes nothing.
use mathlib.Core.Logic.{⊎_elim}
use Rattle.indexing.proofs.Laws.{made-over, made-short, made-whole}
use Rattle.indexing.proofs.make_index.Goals as goal

pub returns-then-s-gt-MOST_BYTES : goal.returns-then-s-gt-MOST_BYTES
returns-then-s-gt-MOST_BYTES c =
    let h = c.then-s-gt-MOST_BYTES.either in
    record {
      count = ⊎_elim (λ w. (made-over _ _ _ w).0) (λ w. (made-short _ _ _ w.0 w.1).0) h;
      list = ⊎_elim (λ w. (made-over _ _ _ w).1) (λ w. (made-short _ _ _ w.0 w.1).1) h;
    }

pub returns : goal.returns
returns c =
    let places = c.places-n in
    let r = made-whole _ _ _ c.if-s-gt-MOST_BYTES.false c.if-list-k.false _ _ _ places.ensures.value places.ensures.list_after c.sort_front.ensures in
    record { count = r.0; list = r.1 }
