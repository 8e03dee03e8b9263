-- `probe::moved` meets its contract. Assumes nothing.
use mathlib.Core.Path.{sym, ap, ◌∙◌}
use Rattle.lookup.specs.Halving.{met}
use Rattle.probe.specs.Probe.{moved_of}
use Rattle.probe.proofs.moved.Goals as goal

pub returns-in-Less : goal.returns-in-Less
returns-in-Less c =
    let args = c.args in
    c.aimed.ensures ∙ sym (ap (λ o. moved_of args.p (met o)) c.in-Less.is)

pub returns-in-Equal : goal.returns-in-Equal
returns-in-Equal c =
    let args = c.args in
    c.stopped.ensures ∙ sym (ap (λ o. moved_of args.p (met o)) c.in-Equal.is)

pub returns-in-Greater : goal.returns-in-Greater
returns-in-Greater c =
    let args = c.args in
    c.aimed-in-Greater.ensures ∙ sym (ap (λ o. moved_of args.p (met o)) c.in-Greater.is)
