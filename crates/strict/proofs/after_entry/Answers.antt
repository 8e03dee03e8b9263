-- `strict::after_entry` meets its contract. Assumes nothing.
use native.Mathlib.Omega.{arith}
use lib.ListN.{length}
use Rattle.entry.specs.Record.{name_of}
use Rattle.strict.proofs.Judging.{last_within, stood-first, stood-by}
use Rattle.strict.proofs.after_entry.Goals as goal

pub slice_bounds-place_entry-count : goal.slice_bounds-place_entry-count
slice_bounds-place_entry-count c =
    let last = c.in-Some in
    let args = c.args in
    omega (arith, last_within (length args.s.now) last.is c.requires.last_within)

pub slice_bounds-place_entry-start : goal.slice_bounds-place_entry-start
slice_bounds-place_entry-start c =
    let last = c.in-Some in
    let args = c.args in
    omega (arith, last_within (length args.s.now) last.is c.requires.last_within)

pub slice_bounds-place_entry-end : goal.slice_bounds-place_entry-end
slice_bounds-place_entry-end c =
    let last = c.in-Some in
    let args = c.args in
    omega (arith, last_within (length args.s.now) last.is c.requires.last_within)

pub returns-in-None : goal.returns-in-None
returns-in-None c =
    let r = (let args = c.args in
    stood-first args.s.now args.marks.now args.n args.e c.in-None.is) in
    record { placed = r.0; marks = r.1 }

pub returns-in-Some : goal.returns-in-Some
unfolding name_of
returns-in-Some c =
    let r = (let is-folder2 = c.is_folder-in-Some in
    let is-folder = c.is_folder in
    let last = c.in-Some in
    let args = c.args in
    stood-by args.s.now args.marks.now args.n args.e last.p last.is is-folder.ensures is-folder2.ensures
    (c.place_entry.ensures.placed, c.place_entry.ensures.marks)) in
    record { placed = r.0; marks = r.1 }
