-- `strict::read_tree_strict` meets its contract. Assumes nothing.
use mathlib.Core.Path.{sym, ◌∙◌}
use Rattle.rules.specs.Rules.{git_rules}
use Rattle.rules.proofs.Laws.{rule_bytes}
use Rattle.reading.proofs.Laws.{answer-shut, refused-both, read-both}
use Rattle.strict.specs.Strict.{strictly}
use Rattle.strict.proofs.Laws.{cut-refuses, strict-refuses, strict-plain}
use Rattle.strict.proofs.read_tree_strict.Goals as goal

pub count_strict-requires : goal.count_strict-requires
count_strict-requires c =
    let rule_bounds = c.rule_bounds in
    rule_bytes _ _ _ _ (sym rule_bounds.ensures ∙ c.in-Ok.is)

pub returns-in-Err : goal.returns-in-Err
returns-in-Err c =
    let r = (let rule_bounds = c.rule_bounds in
    let shut = sym rule_bounds.ensures ∙ c.in-Err.is in
    refused-both _ _ _ (answer-shut _ _ _ _ shut) (strict-refuses _ _ _ _ _ shut)) in
    record { answer = r.0; records = r.1 }

pub returns-in-Ok : goal.returns-in-Ok
returns-in-Ok c =
    let r = (let count_strict = c.count_strict in
    let enum_told = c.in-Ok in
    let rule_bounds = c.rule_bounds in
    let args = c.args in
    let R = git_rules args.rules in
    read-both args.h args.bytes.now args.records.now (strictly R args.h args.bytes.now) (cut-refuses R _ _) (λ n t. strict-plain R _ _ n t)
    (sym rule_bounds.ensures ∙ enum_told.is) count_strict.ensures (c.finish.ensures.answer, c.finish.ensures.records)) in
    record { answer = r.0; records = r.1 }
