-- `unfold::put_plain` meets its contract. Assumes nothing.
use Rattle.std.proofs.Common.{◌≡◌, ◌+◌, refl, sym, ap, ◌∙◌, length, get_or, set, arith}
use Rattle.std.proofs.lemmas.List.{set_past}
use Rattle.std.proofs.lemmas.List.Edits.{sets}
use Rattle.unfold.specs.Unfold.{plain_of}
use Rattle.unfold.proofs.Laws.{plain_end, plain_skip, plain_keep, sets_keep}
use Rattle.unfold.proofs.put_plain.Goals as goal
use Rattle.unfold.proofs.put_plain.Goals.{then-not-skip, then-n-out, else-n-out, else-not-skip}

pub loop-x-init : goal.loop-x-init
unfolding plain_of
loop-x-init c = record { few = omega arith; many = omega arith; stored = refl }

pub loop-x-preserved : goal.loop-x-preserved
loop-x-preserved c =
    let l = c.loop-x in
    let i = l.invariant in
    let a = c.args in
    elim c.if-not-skip.branch [
      | then-not-skip w ↦
          let k = plain_keep a.mark l.prev a.v.now l.x-index c.loop-x-test.true (sym c.skip.ensures ∙ w.if-not-skip.true) in
          let o : w.if-n-out.out ≡ set l.out l.n (get_or a.v.now l.x-index 0) =
          elim w.if-n-out.branch [ then-n-out w' ↦ w'.out-is | else-n-out w' ↦ w'.out-is ∙ sym (set_past l.out l.n _ w'.if-n-out.false) ] in
          rw (w.n-is, w.out-is, o) (record {
            few = omega arith;
            many = omega (arith, i.many, ap length k);
            stored = i.stored ∙ sets_keep l.out l.n _ _ _ k;
          })
      | else-not-skip w ↦
          let k = plain_skip a.mark l.prev a.v.now l.x-index c.loop-x-test.true (sym c.skip.ensures ∙ w.if-not-skip.false) in
          rw (w.n-is, w.out-is) (record { few = omega arith; many = i.many ∙ ap (λ t. l.n + length t) k; stored = i.stored ∙ ap (sets l.out l.n) k })
    ]

pub returns-clause-value : goal.returns-clause-value
returns-clause-value c =
    let e = ap length (plain_end c.args.mark c.loop-x.prev c.args.v.now c.loop-x.x-index c.loop-x-test.false) in
    omega (arith, e, c.loop-x.invariant.many)

pub returns-clause-out_after : goal.returns-clause-out_after
returns-clause-out_after c =
    let a = c.args in
    sym (c.loop-x.invariant.stored ∙ ap (sets c.loop-x.out c.loop-x.n)
    (plain_end a.mark c.loop-x.prev a.v.now c.loop-x.x-index c.loop-x-test.false))
