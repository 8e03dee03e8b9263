-- `words::is_word` meets its contract. Assumes nothing.
use mathlib.Core.Path.{ap, ◌∙◌}
use Rattle.ground.specs.Scan.{same_bytes}
use Prim.Native.Nat.{ℕ}
use mathlib.Core.List.{List}
use Rattle.words.proofs.Laws.{runs, inside, text-is}
use Rattle.words.proofs.is_word.Goals as goal

pub slice_bounds-same_bytes-count : goal.slice_bounds-same_bytes-count
slice_bounds-same_bytes-count c =
    let args = c.args in
    runs args.s.now args.at _ c.word_at-word.ensures

pub slice_bounds-same_bytes-start : goal.slice_bounds-same_bytes-start
slice_bounds-same_bytes-start c =
    let args = c.args in
    runs args.s.now args.at _ c.word_at-word.ensures

pub slice_bounds-same_bytes-end : goal.slice_bounds-same_bytes-end
slice_bounds-same_bytes-end c =
    let args = c.args in
    inside args.s.now args.at _ c.word_at-word.ensures

pub returns : goal.returns
returns c =
    let args = c.args in
    c.same_bytes.ensures ∙ ap (λ (t : List ℕ). same_bytes t args.text.now) (text-is args.s.now args.at _ c.word_at-word.ensures)
