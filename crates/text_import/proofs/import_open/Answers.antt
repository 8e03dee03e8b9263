-- `text_import::import_open` meets its contract. Assumes nothing.
use mathlib.Core.Path.{sym}
use lib.Seq.{length-take-le}
use Rattle.text_import.specs.Import.{texts}
use Rattle.text_import.proofs.Whole.{all_read}
use Rattle.text_import.proofs.Lent.{opens_unread, opens-many, opens_front, opens-all, called_lent}
use Rattle.text_import.proofs.import_open.Goals as goal

pub returns-then-number-ne-DONE : goal.returns-then-number-ne-DONE
returns-then-number-ne-DONE c =
    let r = (let args = c.args in
    let gather = c.gather-a in
    let if1 = c.if-number-ne-DONE in
    opens_unread args.rules args.h args.text.now args.out.now args.list.now _ gather.ensures.value _ gather.ensures.list_after if1.true) in
    record { answer = r.0; out = r.1.0; list = r.1.1 }

pub returns-then-list-n : goal.returns-then-list-n
returns-then-list-n c =
    let r = (let args = c.args in
    let gather = c.gather-a in
    let if1 = c.if-number-ne-DONE in
    let if2 = c.if-list-n in
    let halt = c.halt in
    called_lent args.text.now (texts args.rules args.h args.text.now) args.out.now args.list.now halt.ensures
    (opens-many args.rules args.h args.text.now args.out.now args.list.now _ gather.ensures.value _ gather.ensures.list_after if1.false
    if2.true)) in
    record { answer = r.0; out = r.1.0; list = r.1.1 }

pub slice_bounds-finish-end-2 : goal.slice_bounds-finish-end-2
slice_bounds-finish-end-2 c = sym (length-take-le _ _ c.if-list-n.false)

pub finish-requires : goal.finish-requires
finish-requires c =
    let args = c.args in
    let pre = c.requires in
    let gather = c.gather-a in
    let if1 = c.if-number-ne-DONE in
    let if2 = c.if-list-n in record {
      text_len_bound = (pre.1, pre.0, (all_read args.rules args.h args.text.now _ gather.ensures.value if1.false).0);
      list_value = opens_front args.rules args.h
          args.text.now args.out.now args.list.now _ gather.ensures.value _ gather.ensures.list_after if1.false if2.false;
    }

pub returns : goal.returns
returns c =
    let r = (let args = c.args in
    let gather = c.gather-a in
    let if1 = c.if-number-ne-DONE in
    let if2 = c.if-list-n in
    let finish = c.finish in
    opens-all args.rules args.h args.text.now args.out.now args.list.now _ gather.ensures.value _ gather.ensures.list_after if1.false if2.false
    _ _ _ (finish.ensures.answer, finish.ensures.out) finish.ensures.list) in
    record { answer = r.0; out = r.1.0; list = r.1.1 }
