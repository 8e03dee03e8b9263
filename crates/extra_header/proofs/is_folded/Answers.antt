-- `extra_header::is_folded` meets its contract. Assumes nothing.
use mathlib.Core.Path.{sym}
use Rattle.std.proofs.Common.{rules}
use Rattle.extra_header.proofs.Laws.{form_end, form-none, form-is}
use Rattle.extra_header.proofs.is_folded.Goals as goal

pub returns-then-v-n : goal.returns-then-v-n
returns-then-v-n c = sym (form_end c.args.v.now _ c.count_to-n.ensures c.if-v-n.true)

pub returns-then-rest-end : goal.returns-then-rest-end
returns-then-rest-end c =
    sym (form-is c.args.v.now _ c.count_to-n.ensures c.if-v-n.false _ c.fold_end-end.ensures c.if-rest-end.true)

pub returns-else-rest-end : goal.returns-else-rest-end
returns-else-rest-end c = rw (form-none c.args.v.now _ c.count_to-n.ensures c.if-v-n.false _ c.fold_end-end.ensures c.if-rest-end.false) (search rules)
