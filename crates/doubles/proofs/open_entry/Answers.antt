-- `doubles::open_entry` meets its contract. Assumes nothing.
use native.Mathlib.Omega.{arith}
use mathlib.Core.Path.{sym, ◌∙◌}
use Rattle.doubles.proofs.Stacking.{open-within, opened_double, opened-fine}
use Rattle.doubles.proofs.open_entry.Goals as goal

pub is_double-requires : goal.is_double-requires
is_double-requires c =
    let args = c.args in
    let shorter = c.shorter-m in
    let Open-next = c.open_next-k in
    rw (Open-next.ensures.count, Open-next.ensures.marks) (open-within args.marks.now shorter.result args.p args.len args.was
    (omega (arith, shorter.ensures)))

pub returns-then-is_double : goal.returns-then-is_double
returns-then-is_double c =
    let r = (let args = c.args in
    let shorter = c.shorter-m in
    let Open-next = c.open_next-k in
    let is-double = c.is_double in
    let if1 = c.if-is_double in
    opened_double args.marks.now args.n args.p args.len args.was args.size args.folder shorter.result Open-next.result
    Open-next.new.marks shorter.ensures (c.open_next-k.ensures.count, c.open_next-k.ensures.marks) (sym is-double.ensures ∙ if1.true)) in
    record { placed = r.0; marks = r.1 }

pub returns : goal.returns
returns c =
    let r = (let args = c.args in
    let shorter = c.shorter-m in
    let Open-next = c.open_next-k in
    let is-double = c.is_double in
    let if1 = c.if-is_double in
    opened-fine args.marks.now args.n args.p args.len args.was args.size args.folder shorter.result Open-next.result
    Open-next.new.marks shorter.ensures (c.open_next-k.ensures.count, c.open_next-k.ensures.marks) (sym is-double.ensures ∙ if1.false)) in
    record { placed = r.0; marks = r.1 }
