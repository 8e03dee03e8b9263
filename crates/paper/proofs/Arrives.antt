-- The check in pieces over the contracts of its calls: by the theorems of `arriving`. Assumes nothing.
use Prim.Native.Nat.{ℕ}
use mathlib.Core.Path.{◌≡◌, refl, ap, sym, ◌∙◌}
use mathlib.Core.List.{List}
use Rattle.ground.specs.declared.Answer.{Answer}
use Rattle.arriving.specs.Feed.{together, start_of, feed_of, finish_of, end_of}
use Rattle.checking.specs.Whole.{check_of}
use Rattle.checking.specs.Claims.{in_pieces, joined, answer}
use Rattle.arriving.specs.declared.Marks.{Marks}
use Rattle.arriving.specs.declared.Check.{Check}
use Rattle.checking.proofs.Theorem.{piece_laws}
use Rattle.call.proofs.Laws.{answers_once}
use Rattle.call.specs.Call.{none, ◌and◌}
use Rattle.paper.specs.Arrives.{handed, piece, Feeds, no-piece, a_piece, Checked, Arrives}

-- calls of `feed` are the fold
fed-is : {c d : Check} {ps : List (List ℕ)} → Feeds c ps d → d ≡ in_pieces c ps
unfolding in_pieces
fed-is no-piece = refl
fed-is (a_piece {ps = ps} r e f) =
    fed-is f ∙ ap (λ (x : Check). in_pieces x ps) (r.meets ∙ ap (λ (x : Check). feed_of x (piece r)) e)

module _ (h k : ℕ) (ps : List (List ℕ)) (a : Answer) (c : Checked h k ps a) where
  begins : c.begun.came.answer ≡ start_of h k
  begins = c.begun.meets ∙ ap (λ (x : ℕ). start_of x c.begun.given.args.1.0) c.length_of_ids ∙ ap (start_of h) c.rule_set

  answered : a ≡ answer h k c.held c.ends ps
  answered =
      sym c.answer ∙ c.ended.meets ∙ ap finish_of c.from ∙ ap (λ (x : Check). finish_of x.marks) (fed-is c.fed)
      ∙ ap (λ (m : Marks). end_of (in_pieces (together c.held c.ends m) ps)) begins

  cut-any : a ≡ check_of h k (joined ps)
  cut-any = answered ∙ piece_laws.any_cut h k c.held c.ends c.rooms ps

number_of : {a b : Answer} → a ≡ b → {n : ℕ} → (a.verdict.number ≡ n → ⊥) → b.verdict.number ≡ n → ⊥
number_of e f z = f (ap (λ (a : Answer). a.verdict.number) e ∙ z)

pub arrives : Arrives
arrives =
    record {
      once =
          ((λ i. tt), answers_once _ _ (λ i o m. m)) and ((λ i. tt), answers_once _ _ (λ i o m. ap (λ (c : Check). c.marks) m)) and
          ((λ i. tt), answers_once _ _ (λ i o m. m)) and none;
      same_left = λ r q e f.
          r.meets ∙ ap (λ (c : Check). feed_of c (piece r)) e ∙ ap (feed_of (handed q)) f ∙ sym q.meets;
      any_cut = cut-any;
      same_object = λ h k ps qs a b e c d. cut-any h k ps a c ∙ ap (check_of h k) e ∙ sym (cut-any h k qs b d);
      stays = λ c d ps f n. fed-is f ∙ piece_laws.stays c ps n;
      as_strict = λ h k ps a lent c l r n f.
          let e = answered h k ps a c in
          e ∙ piece_laws.as_strict h k c.held c.ends c.rooms ps lent l r (number_of e n) f;
      sixteen = λ h k ps a c g place.
          let e = answered h k ps a c in
          let w = piece_laws.sixteen h k c.held c.ends c.rooms ps g place in
          (λ q. w.0 (sym e ∙ q), λ m. e ∙ w.1 m);
    }
