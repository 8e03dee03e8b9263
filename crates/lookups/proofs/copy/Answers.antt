-- `lookups::copy` meets its contract. Assumes nothing.
use Prim.Native.Nat.{ℕ, ◌≤◌, min}
use native.Mathlib.Omega.{arith}
use mathlib.Core.Path.{◌≡◌, sym, ap, ◌∙◌}
use mathlib.Core.List.{List, ◌++◌}
use lib.ListN.{length, take, drop}
use lib.Seq.{sets, length-take-le}
use Rattle.std.proofs.lemmas.List.{take_min}
use Rattle.ground.proofs.Laws.{sets_front}
use Rattle.lookups.proofs.copy.Goals as goal

put_front : (l own r : List ℕ) (count n : ℕ) → n ≡ min count (length own) → count ≤ length l → r ≡ take n own → r ++ drop n l ≡ sets l 0 (take count own)
put_front l own r count n e h p =
    let size : length (take n own) ≡ n = length-take-le n own (omega arith) in
    let same : take count own ≡ take n own = sym (ap (λ (k : ℕ). take k own) e ∙ take_min count own) in
    ap (λ (k : List ℕ). k ++ drop n l) p ∙ ap (λ (k : ℕ). take n own ++ drop k l) (sym size) ∙ sym (sets_front l (take n own) (omega (arith, size))) ∙ ap (sets l 0) (sym same)

pub returns : goal.returns
returns c =
    let args = c.args in
    put_front args.answers.now args.own.now _ args.count _ c.min-n.ensures c.requires c.copy_from_slice.ensures.after
