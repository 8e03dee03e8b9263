-- `tree_write::put_mode` meets its contract. Assumes nothing.
use Rattle.mode_text.specs.Write.{write_mode}
use Rattle.tree_write.proofs.Laws.{text-file}
use Prim.Native.Nat.{ℕ, ◌+◌, ◌-◌, ◌≤◌}
use mathlib.Core.Path.{◌≡◌, sym, ap, ◌∙◌}
use mathlib.Core.List.{List, [], ◌∷◌, ◌++◌}
use lib.ListN.{length, take, drop}
use lib.Seq.{sets, length-take-le}
use native.Mathlib.Omega.{arith}
use borrow.Rule.Slice.PartMut.{put_mid}
use Rattle.std.proofs.Common.{append_assoc}
use Rattle.std.proofs.lemmas.List.{drop-drop}
use Rattle.std.proofs.lemmas.List.Edits.{sets-eq}
use Rattle.tree_write.proofs.put_mode.Goals as goal

-- what copying into a part leaves
put_sets : (l d : List ℕ) (i k : ℕ) → k ≡ length d → i + length d ≤ length l → put_mid i k l d ≡ sets l i d
put_sets l d i k e h = rw e (sym (sets-eq d l i h ∙ append_assoc (take i l) d (drop (i + length d) l) ∙ ap (λ (r : List ℕ). take i l ++ (d ++ r)) (sym (drop-drop (length d) i l))))

pub slice_bounds-copy_from_slice-end : goal.slice_bounds-copy_from_slice-end
slice_bounds-copy_from_slice-end c = omega (arith, c.requires.1, ap (λ (l : List ℕ). length l) (text-file c.args.mode c.if-mode-eq33188.true))

pub returns-then-mode-eq33188 : goal.returns-then-mode-eq33188
returns-then-mode-eq33188 c =
    let args = c.args in
    let t = text-file args.mode c.if-mode-eq33188.true in
    let text = write_mode args.mode ++ 32 ∷ [] in
    let ended = ap (λ (l : List ℕ). l ++ 32 ∷ []) t in
    let same = c.copy_from_slice.ensures.after ∙ sym ended in
    let seven : length (write_mode args.mode ++ 32 ∷ []) ≡ 7 = ap (λ (l : List ℕ). length l) ended in
    record {
      size = sym (ap (λ (l : List ℕ). length l) t);
      small = omega arith;
      text = ap (put_mid args.at (args.at + 7 - args.at) args.out.now) same ∙ put_sets args.out.now text args.at _ (omega (arith, seven)) (omega (arith, seven, c.requires.1, ap (λ (l : List ℕ). length l) t));
    }

pub slice_bounds-put_ended-end : goal.slice_bounds-put_ended-end
slice_bounds-put_ended-end c = sym (length-take-le _ _ (omega arith))

pub returns : goal.returns
returns c =
    let args = c.args in
    let t = c.mode_text-text.ensures in
    record { size = t.0; small = t.1; text = c.put_ended.ensures ∙ ap (λ (l : List ℕ). sets args.out.now args.at (l ++ 32 ∷ [])) t.3 }
