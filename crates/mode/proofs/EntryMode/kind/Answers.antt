-- `mode::EntryMode::kind` meets its contract. Assumes nothing.
use mathlib.Core.Path.{sym, ◌∙◌}
use borrow.Author.Tests.{eq-eqb, ne_eqb}
use Rattle.mode.specs.Mode.{kind_of}
use Rattle.mode.proofs.Laws.{executes-told}
use Rattle.mode.proofs.EntryMode.kind.Goals as goal

pub returns-then-value-eq-EXECUTE : goal.returns-then-value-eq-EXECUTE
unfolding kind_of
returns-then-value-eq-EXECUTE c =
    rw (sym c.sort.ensures ∙ c.in-32768.is, executes-told _ _ c.value.ensures, eq-eqb _ _ c.if-value-eq-EXECUTE.true)

pub returns-in-32768 : goal.returns-in-32768
unfolding kind_of
returns-in-32768 c =
    rw (sym c.sort.ensures ∙ c.in-32768.is, executes-told _ _ c.value.ensures, ne_eqb _ _ c.if-value-eq-EXECUTE.false)

pub returns-in-40960 : goal.returns-in-40960
unfolding kind_of
returns-in-40960 c = rw (sym c.sort.ensures ∙ c.in-40960.is)

pub returns-in-16384 : goal.returns-in-16384
unfolding kind_of
returns-in-16384 c = rw (sym c.sort.ensures ∙ c.in-16384.is)

pub returns-in_default : goal.returns-in_default
unfolding kind_of
returns-in_default c = rw (← c.sort.ensures) (simp (ne_eqb _ _ c.in_default.in_default-own.rest.0.0.1, ne_eqb _ _ c.in_default.in_default-own.rest.0.1, ne_eqb _ _ c.in_default.in_default-own.rest.1))
