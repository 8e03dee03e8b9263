-- The rule of a table, proved once over all of its rows: what two readings of a row say, equal over the whole table, is equal at each row.
-- Assumes nothing.
use Prim.Native.Nat.{ℕ, ◌<◌}
use mathlib.Core.Path.{◌≡◌, sym, ap, ◌∙◌}
use mathlib.Core.List.{List, map}
use lib.ListN.{length, get_or, length-map, get_or-map}
use Rattle.ground.proofs.Laws.{get_d_any}

pub rows_agree : {A B : Type 0} (rows : List A) (d : A) (f g : A → B) → map f rows ≡ map g rows → (i : ℕ) → i < length rows → f (get_or rows i d) ≡ g (get_or rows i d)
rows_agree {A} {B} rows d f g e i h =
    sym (get_or-map f rows i d) ∙ ap (λ (l : List B). get_or l i (f d)) e
    ∙ get_d_any (map g rows) i (f d) (g d) (rw (length-map rows g) h)
    ∙ get_or-map g rows i d
