-- `tree_write::write_entry` meets its contract. Assumes nothing.
use Rattle.tree_write.specs.Write.{entry_size}
use Rattle.tree_write.proofs.Laws.{entry-places, entry_end, entry-stored}
use native.Mathlib.Nat.{le-add_right, lt_of_le_of_lt}
use native.Mathlib.Omega.{arith}
use Prim.Native.Nat.{ℕ, ◌+◌}
use mathlib.Core.Path.{refl, ap}
use lib.ListN.{length}
use Rattle.entry.specs.Record.{name_of}
use Rattle.entry.proofs.Laws.{well_made}
use Rattle.tree_write.proofs.write_entry.Goals as goal

pub put_mode-n-requires : goal.put_mode-n-requires
unfolding entry_size
put_mode-n-requires c =
    (c.requires.mode_bound.0, omega (arith, c.requires.e_in_bounds))

pub overflow_add-last : goal.overflow_add-last
overflow_add-last c =
    record { fits = lt_of_le_of_lt c.requires.mode_bound.3 c.well_formed.1.1.0.0 }

pub overflow_add-name : goal.overflow_add-name
overflow_add-name c =
    let put-mode = c.put_mode-n in
    let a = c.args in
    record {
      fits = (entry-places a.h a.e a.at put-mode.result (length a.out.now)
          put-mode.ensures.size c.requires.e_in_bounds c.well_formed.0.0).0;
    }

pub overflow_add-name-2 : goal.overflow_add-name-2
overflow_add-name-2 c =
    let put-mode = c.put_mode-n in
    let a = c.args in
    record {
      fits = (entry-places a.h a.e a.at put-mode.result (length a.out.now)
          put-mode.ensures.size c.requires.e_in_bounds c.well_formed.0.0).1;
    }

pub overflow_sub-next : goal.overflow_sub-next
overflow_sub-next c = c.requires.mode_bound.1

pub overflow_add-next : goal.overflow_add-next
overflow_add-next c =
    let put-mode = c.put_mode-n in
    let a = c.args in
    record {
      fits = (entry-places a.h a.e a.at put-mode.result (length a.out.now)
          put-mode.ensures.size c.requires.e_in_bounds c.well_formed.0.0).2;
    }

pub overflow_add-next-2 : goal.overflow_add-next-2
overflow_add-next-2 c =
    let put-mode = c.put_mode-n in
    let a = c.args in
    record {
      fits = (entry-places a.h a.e a.at put-mode.result (length a.out.now)
          put-mode.ensures.size c.requires.e_in_bounds c.well_formed.0.0).3;
    }

pub slice_bounds-put_ended-count : goal.slice_bounds-put_ended-count
slice_bounds-put_ended-count c = c.requires.mode_bound.1

pub slice_bounds-put_ended-start : goal.slice_bounds-put_ended-start
slice_bounds-put_ended-start c = c.requires.mode_bound.1

pub slice_bounds-put_ended-end : goal.slice_bounds-put_ended-end
slice_bounds-put_ended-end c = c.requires.mode_bound.2

pub slice_bounds-put-count : goal.slice_bounds-put-count
slice_bounds-put-count c = le-add_right _ _

pub slice_bounds-put-start : goal.slice_bounds-put-start
slice_bounds-put-start c = le-add_right _ _

pub slice_bounds-put-end : goal.slice_bounds-put-end
slice_bounds-put-end c = c.requires.mode_bound.3

pub overflow_add-result : goal.overflow_add-result
overflow_add-result c =
    let put-mode = c.put_mode-n in
    let a = c.args in
    record {
      fits = (entry-places a.h a.e a.at put-mode.result (length a.out.now)
          put-mode.ensures.size c.requires.e_in_bounds c.well_formed.0.0).4;
    }

pub returns : goal.returns
unfolding name_of
returns c =
    let put = c.put in
    let a = c.args in
    let p = c.requires.mode_bound in
    let m = c.put_mode-n.ensures in record {
      value = entry_end a.h a.e a.at c.put_mode-n.result m.size;
      out_after = entry-stored a.h a.bytes.now a.e (well_made _ _ _ p.0 p.1 p.2 p.3 p.4) _ _ _ _ _ _ _ _ refl
          (ap (λ (n : ℕ). a.at + n + 1) m.size) refl m.text c.put_ended.ensures put.ensures;
    }
