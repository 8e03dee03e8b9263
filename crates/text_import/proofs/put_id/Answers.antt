-- `text_import::put_id` meets its contract. Assumes nothing.
use native.Mathlib.Omega.{arith}
use Prim.Native.Nat.{ℕ}
use mathlib.Core.Path.{refl, sym, ap, ◌∙◌}
use lib.ListN.{replicate}
use lib.Seq.{sets, length-take-le}
use Rattle.ground.proofs.Laws.{id-is, id_small}
use Rattle.text_import.proofs.Bytes.{id-kept}
use Rattle.text_import.proofs.put_id.Goals as goal

pub slice_bounds-id-end : goal.slice_bounds-id-end
slice_bounds-id-end c =
    let args = c.args in
    let pre = c.requires in
    let id_of_hex = c.id_of_hex in
    omega (
      arith,
      (id-kept args.digits.now args.h pre.0 pre.1 pre.2 (replicate {A = ℕ} 32 0) _ refl id_of_hex.ensures.out_after).0,
      (id_small _
          (id-is _ pre.2)).1,
    )

pub slice_bounds-put-end : goal.slice_bounds-put-end
slice_bounds-put-end c =
    let args = c.args in
    let pre = c.requires in
    let id_of_hex = c.id_of_hex in
    sym (length-take-le _ _ (omega (
      arith,
      (id-kept args.digits.now args.h pre.0 pre.1 pre.2 (replicate {A = ℕ} 32 0) _ refl
          id_of_hex.ensures.out_after).0,
      (id_small _ (id-is _ pre.2)).1,
    )))

pub returns : goal.returns
returns c =
    let args = c.args in
    let pre = c.requires in
    let id_of_hex = c.id_of_hex in
    let put = c.put in
    put.ensures ∙ ap (sets args.out.now args.at) (id-kept args.digits.now args.h pre.0 pre.1 pre.2 (replicate {A = ℕ} 32 0) _ refl
    id_of_hex.ensures.out_after).1
