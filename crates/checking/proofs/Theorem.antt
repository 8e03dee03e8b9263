-- What is claimed of the check in pieces is proved. Assumes nothing.
use Prim.Native.Nat.{ℕ, ◌<◌}
use native.Mathlib.Omega.{arith}
use mathlib.Core.Path.{◌≡◌, refl, ap, sym, ◌∙◌}
use mathlib.Core.List.{List, [], ◌∷◌, ◌++◌}
use mathlib.Core.Logic.{◌⊎◌, inl, inr}
use lib.ListN.{length, take, drop, length-take, length-drop, take-append-drop}
use Rattle.ground.specs.Verdict.{verdict, refused, most_bytes}
use Rattle.ground.specs.declared.Answer.{Answer}
use Rattle.arriving.specs.Feed.{together, start_of, feed_of, end_of}
use Rattle.checking.specs.Whole.{check_of}
use Rattle.checking.specs.Claims.{in_pieces, joined, Rooms, answer, PieceLaws}
use Rattle.arriving.specs.declared.Check.{Check}
use Rattle.arriving.proofs.Steps.{feed-none, feed-cut, feed_stopped}
use Rattle.checking.proofs.Fed.{fed_checks}
use Rattle.checking.proofs.Strict.{check_alike}
use Rattle.checking.proofs.Sixteen.{sixteen-only, sixteen-there}
use Rattle.checking.proofs.Bound.{check_past}

pub pieces-joined : (c : Check) (ps : List (List ℕ)) → in_pieces c ps ≡ feed_of c (joined ps)
unfolding in_pieces joined
pieces-joined c [] = sym (feed-none c)
pieces-joined c (p ∷ ps) = pieces-joined (feed_of c p) ps ∙ feed-cut c p (joined ps)

pub cut-any : (h k : ℕ) (held ends : List ℕ) → Rooms held ends → (ps : List (List ℕ)) → answer h k held ends ps ≡ check_of h k (joined ps)
cut-any h k held ends w ps = ap end_of (pieces-joined (together held ends (start_of h k)) ps) ∙ fed_checks h k (joined ps) held ends w.name w.lengths

number_of : {a b : Answer} → a ≡ b → {n : ℕ} → (a.verdict.number ≡ n → ⊥) → b.verdict.number ≡ n → ⊥
number_of e f z = f (ap (λ (a : Answer). a.verdict.number) e ∙ z)

joined-first : (p : List ℕ) (ps : List (List ℕ)) → joined (p ∷ ps) ≡ p ++ joined ps
unfolding joined
joined-first p ps = refl

-- an object whose first bytes fill the bound
module _ (h k : ℕ) (s t : List ℕ) (full : length t ≡ most_bytes) where
  past : (d : List ℕ) → t ++ d ≡ s → 0 < length d → (check_of h k s ≡ refused (verdict 2 0)) ⊎ ((v : List ℕ) → check_of h k (t ++ v) ≡ check_of h k s)
  past [] e l = absurd (omega arith)
  past (x ∷ u) e l = go (check_past h k t full x u)
    where
      go : (check_of h k (t ++ (x ∷ u)) ≡ refused (verdict 2 0)) ⊎ ((v : List ℕ) → check_of h k (t ++ v) ≡ check_of h k (t ++ (x ∷ u)))
          → (check_of h k s ≡ refused (verdict 2 0)) ⊎ ((v : List ℕ) → check_of h k (t ++ v) ≡ check_of h k s)
      go (inl r) = inl (ap (check_of h k) (sym e) ∙ r)
      go (inr r) = inr (λ v. r v ∙ ap (check_of h k) e)

  pub pieces-past : (held ends : List ℕ) → Rooms held ends → (ps : List (List ℕ)) → joined ps ≡ s → (d : List ℕ) → t ++ d ≡ s → 0 < length d
      → (answer h k held ends ps ≡ refused (verdict 2 0)) ⊎ ((qs : List (List ℕ)) → answer h k held ends (t ∷ qs) ≡ answer h k held ends ps)
  pieces-past held ends w ps same d e l = go (past d e l)
    where
      is : answer h k held ends ps ≡ check_of h k s
      is = cut-any h k held ends w ps ∙ ap (check_of h k) same

      go : (check_of h k s ≡ refused (verdict 2 0)) ⊎ ((v : List ℕ) → check_of h k (t ++ v) ≡ check_of h k s)
          → (answer h k held ends ps ≡ refused (verdict 2 0)) ⊎ ((qs : List (List ℕ)) → answer h k held ends (t ∷ qs) ≡ answer h k held ends ps)
      go (inl r) = inl (is ∙ r)
      go (inr r) = inr (λ qs. cut-any h k held ends w (t ∷ qs) ∙ ap (check_of h k) (joined-first t qs) ∙ r (joined qs) ∙ sym is)

-- so many first bytes of an object that has more
first-long : (n : ℕ) (s : List ℕ) → n < length s → length (take n s) ≡ n
first-long n s l = length-take n s ∙ omega arith

rest_some : (n : ℕ) (s : List ℕ) → n < length s → 0 < length (drop n s)
rest_some n s l = omega (arith, length-drop n s)

pub piece_laws : PieceLaws
piece_laws =
    record {
      any_cut = cut-any;
      stays = λ c ps n. pieces-joined c ps ∙ feed_stopped c (joined ps) n;
      as_strict = λ h k held ends w ps lent l r n f. cut-any h k held ends w ps ∙ check_alike h k (joined ps) lent l r (number_of (cut-any h k held ends w ps) n) f;
      sixteen = λ h k held ends w ps g place. (
        λ e. sixteen-only h k (joined ps) g place (ap (λ (a : Answer). a.verdict) (sym (cut-any h k held ends w ps) ∙ e)),
        λ m. cut-any h k held ends w ps ∙ sixteen-there h k (joined ps) g place m,
      );
      past_bound = λ h k held ends w ps l.
          pieces-past h k (joined ps) (take most_bytes (joined ps)) (first-long most_bytes (joined ps) l) held ends w ps refl (drop most_bytes (joined ps))
          (take-append-drop most_bytes (joined ps)) (rest_some most_bytes (joined ps) l);
    }
