-- `loose_header::kind_word` meets its contract. Assumes nothing.
use Rattle.loose_header.specs.Header.{kind_word}
use Rattle.loose_header.proofs.Laws.{word_none}
use mathlib.Core.Path.{refl}
use native.Mathlib.Omega.{arith}
use Rattle.loose_header.proofs.kind_word.Goals as goal

pub returns-then-kind-eq1 : goal.returns-then-kind-eq1
unfolding kind_word
returns-then-kind-eq1 c = rw c.if-kind-eq1.true (refl, omega arith, refl, refl)

pub returns-then-kind-eq2 : goal.returns-then-kind-eq2
unfolding kind_word
returns-then-kind-eq2 c = rw c.if-kind-eq2.true (refl, omega arith, refl, refl)

pub returns-then-kind-eq3 : goal.returns-then-kind-eq3
unfolding kind_word
returns-then-kind-eq3 c = rw c.if-kind-eq3.true (refl, omega arith, refl, refl)

pub returns-then-kind-eq4 : goal.returns-then-kind-eq4
unfolding kind_word
returns-then-kind-eq4 c = rw c.if-kind-eq4.true (refl, omega arith, refl, refl)

pub returns : goal.returns
returns c =
    rw (word_none _ c.if-kind-eq1.false c.if-kind-eq2.false c.if-kind-eq3.false c.if-kind-eq4.false) (refl, omega arith, refl, refl)
