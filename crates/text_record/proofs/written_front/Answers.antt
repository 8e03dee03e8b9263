-- `text_record::written_front` meets its contract. Assumes nothing.
use mathlib.Core.Path.{sym, ◌∙◌}
use Rattle.text_record.proofs.Laws.{written-tree, written-blob, written_exe, written_link, written-commit, written_none}
use Rattle.text_record.proofs.written_front.Goals as goal

pub returns-then-begins_with : goal.returns-then-begins_with
returns-then-begins_with c = written-tree c.args.b.now (sym c.begins_with.ensures ∙ c.if-begins_with.true)

pub returns-then-begins_with-2 : goal.returns-then-begins_with-2
returns-then-begins_with-2 c =
    let args = c.args in
    let begins-with = c.begins_with in
    let if1 = c.if-begins_with in
    let begins-with2 = c.begins_with-2 in
    let if2 = c.if-begins_with-2 in
    written-blob args.b.now (sym begins-with.ensures ∙ if1.false) (sym begins-with2.ensures ∙ if2.true)

pub returns-then-begins_with-3 : goal.returns-then-begins_with-3
returns-then-begins_with-3 c =
    let args = c.args in
    let begins-with = c.begins_with in
    let if1 = c.if-begins_with in
    let begins-with2 = c.begins_with-2 in
    let if2 = c.if-begins_with-2 in
    let begins-with3 = c.begins_with-3 in
    let if3 = c.if-begins_with-3 in
    written_exe args.b.now (sym begins-with.ensures ∙ if1.false) (sym begins-with2.ensures ∙ if2.false) (sym begins-with3.ensures ∙ if3.true)

pub returns-then-begins_with-4 : goal.returns-then-begins_with-4
returns-then-begins_with-4 c =
    let args = c.args in
    let begins-with = c.begins_with in
    let if1 = c.if-begins_with in
    let begins-with2 = c.begins_with-2 in
    let if2 = c.if-begins_with-2 in
    let begins-with3 = c.begins_with-3 in
    let if3 = c.if-begins_with-3 in
    let begins-with4 = c.begins_with-4 in
    let if4 = c.if-begins_with-4 in
    written_link args.b.now (sym begins-with.ensures ∙ if1.false) (sym begins-with2.ensures ∙ if2.false) (sym begins-with3.ensures ∙ if3.false)
    (sym begins-with4.ensures ∙ if4.true)

pub returns-then-begins_with-5 : goal.returns-then-begins_with-5
returns-then-begins_with-5 c =
    let args = c.args in
    let begins-with = c.begins_with in
    let if1 = c.if-begins_with in
    let begins-with2 = c.begins_with-2 in
    let if2 = c.if-begins_with-2 in
    let begins-with3 = c.begins_with-3 in
    let if3 = c.if-begins_with-3 in
    let begins-with4 = c.begins_with-4 in
    let if4 = c.if-begins_with-4 in
    let begins-with5 = c.begins_with-5 in
    let if5 = c.if-begins_with-5 in
    written-commit args.b.now (sym begins-with.ensures ∙ if1.false) (sym begins-with2.ensures ∙ if2.false) (sym begins-with3.ensures ∙ if3.false)
    (sym begins-with4.ensures ∙ if4.false) (sym begins-with5.ensures ∙ if5.true)

pub returns : goal.returns
returns c =
    let args = c.args in
    let begins-with = c.begins_with in
    let if1 = c.if-begins_with in
    let begins-with2 = c.begins_with-2 in
    let if2 = c.if-begins_with-2 in
    let begins-with3 = c.begins_with-3 in
    let if3 = c.if-begins_with-3 in
    let begins-with4 = c.begins_with-4 in
    let if4 = c.if-begins_with-4 in
    let begins-with5 = c.begins_with-5 in
    let if5 = c.if-begins_with-5 in
    written_none args.b.now (sym begins-with.ensures ∙ if1.false) (sym begins-with2.ensures ∙ if2.false) (sym begins-with3.ensures ∙ if3.false)
    (sym begins-with4.ensures ∙ if4.false) (sym begins-with5.ensures ∙ if5.false)
