-- `text_import::finish` meets its contract. Assumes nothing.
use mathlib.Core.Path.{sym, ap, ◌∙◌}
use Rattle.ground.specs.declared.Verdict.{Verdict}
use Rattle.text_import.specs.Import.{texts}
use Rattle.text_import.proofs.Walk.{called}
use Rattle.text_import.proofs.Whole.{with_list, judged-here, with_refused, with_short, with_done}
use Rattle.text_import.proofs.finish.Goals as goal

pub returns-then-number-ne-DONE : goal.returns-then-number-ne-DONE
returns-then-number-ne-DONE c =
    let args = c.args in
    let judge_list = c.judge_list-verdict in
    let if1 = c.if-number-ne-DONE in
    let w = with_refused args.rules args.h args.text.now args.out.now c.requires.text_len_bound.0 c.requires.text_len_bound.2 _
    (judged-here args.text.now (texts args.rules args.h args.text.now) _ c.requires.list_value judge_list.ensures.verdict) if1.true in
    record { answer = w.0; out = w.1; list = judge_list.ensures.list }

pub measure-need-requires : goal.measure-need-requires
measure-need-requires c =
    let args = c.args in
    let judge_list = c.judge_list-verdict in
    let w = with_list args.rules args.h args.text.now c.requires.text_len_bound.0 _ _ c.requires.list_value judge_list.ensures.list in
    record { text_len_bound = (c.requires.text_len_bound.0, c.requires.text_len_bound.1, w.0); all_read = w.1 }

pub returns-then-out-need : goal.returns-then-out-need
returns-then-out-need c =
    let args = c.args in
    let judge_list = c.judge_list-verdict in
    let if1 = c.if-number-ne-DONE in
    let measure = c.measure-need in
    let if2 = c.if-out-need in
    let halt = c.halt in
    let w = with_list args.rules args.h args.text.now c.requires.text_len_bound.0 _ _ c.requires.list_value judge_list.ensures.list in
    let v = called halt.ensures (with_short args.rules args.h args.text.now args.out.now c.requires.text_len_bound.0 c.requires.text_len_bound.2
    (sym (ap (λ (v : Verdict). v.number) (judged-here args.text.now (texts args.rules args.h args.text.now) _ c.requires.list_value judge_list.ensures.verdict))
    ∙ if1.false) _ w.2 _ measure.ensures if2.true) in
    record { answer = v.0; out = v.1; list = judge_list.ensures.list }

pub write_all-requires : goal.write_all-requires
write_all-requires c =
    let args = c.args in
    let judge_list = c.judge_list-verdict in
    let w = with_list args.rules args.h args.text.now c.requires.text_len_bound.0 _ _ c.requires.list_value judge_list.ensures.list in
    record { text_len_bound = (c.requires.text_len_bound.0, c.requires.text_len_bound.1, w.0); all_read = w.1 }

pub returns : goal.returns
returns c =
    let args = c.args in
    let judge_list = c.judge_list-verdict in
    let if1 = c.if-number-ne-DONE in
    let measure = c.measure-need in
    let if2 = c.if-out-need in
    let write-all = c.write_all in
    let w = with_list args.rules args.h args.text.now c.requires.text_len_bound.0 _ _ c.requires.list_value judge_list.ensures.list in
    let v = with_done args.rules args.h args.text.now args.out.now c.requires.text_len_bound.0 c.requires.text_len_bound.2
    (sym (ap (λ (v : Verdict). v.number) (judged-here args.text.now (texts args.rules args.h args.text.now) _ c.requires.list_value judge_list.ensures.verdict))
    ∙ if1.false) _ w.2 _ measure.ensures if2.false _ write-all.ensures.out_after in
    record { answer = v.0; out = v.1; list = judge_list.ensures.list }
