-- A commit of the grammar with its ids in lower case is written as its own bytes (`rewrites`), and so an accepted commit with its ids in
-- lower case is written as itself (`read-rewrites`). Assumes nothing.
use Prim.Native.Nat.{ℕ}
use mathlib.Core.Path.{◌≡◌, refl, ap, sym, ◌∙◌}
use mathlib.Core.Bool.{true}
use mathlib.Core.List.{List, [], ◌∷◌, map, append-nil}
use mathlib.Core.Logic.{◌⊎◌, inl, inr}
use native.Mathlib.Omega.{arith}
use borrow.Author.Tests.{eq-eqb, ne_eqb}
use Rattle.ground.specs.Scan.{free_of}
use Rattle.grammar.specs.Grammar.{Header, header_bytes, headers_bytes, commit_bytes, FoldedForm, HeaderForm, HeaderForms, CommitForm}
use Rattle.commit_grammar.proofs.Theorems.{read_is_commit}
use Rattle.commit_write.specs.Written.{lower_hex, header_written, headers_written, commit_written}
use Rattle.commit_round.specs.Round.{LowerIds}
use Rattle.commit_round.specs.Claims.{Rewrites, ReadRewrites}
use Rattle.commit_round.proofs.Folding.{fold_line}

-- a folded value is copied
pub header_copied : (x : Header) → x.mark ≡ 1 → header_written x ≡ header_bytes x
unfolding header_written
header_copied x e = rw (eq-eqb x.mark 1 e, append-nil x.value)

-- a value on one line gets its LF
pub header-ended : (x : Header) → x.mark ≡ 0 → free_of 10 x.value ≡ true → header_written x ≡ header_bytes x
unfolding header_written
header-ended x e f = let z = ne_eqb x.mark 1 (λ q. omega (arith, e)) in rw (z, fold_line x.value f)

header-same : (x : Header) → HeaderForm x → header_written x ≡ header_bytes x
header-same x f = go f.valued
  where
    go : ((x.mark ≡ 0) × (free_of 10 x.value ≡ true)) ⊎ ((x.mark ≡ 1) × FoldedForm x.value) → header_written x ≡ header_bytes x
    go (inl k) = header-ended x k.0 k.1
    go (inr k) = header_copied x k.0

headers-same : (xs : List Header) → HeaderForms xs → headers_written xs ≡ headers_bytes xs
unfolding headers_written headers_bytes
headers-same [] f = refl
headers-same (x ∷ xs) f = rw (header-same x f.0, headers-same xs f.1)

ids_same : (ds : List (List ℕ)) → LowerIds ds → map lower_hex ds ≡ ds
ids_same [] f = refl
ids_same (d ∷ ds) f = rw (f.0, ids_same ds f.1)

pub rewrites : Rewrites
unfolding commit_written commit_bytes
rewrites h c f t ps = rw (t, ids_same c.parents ps, headers-same c.headers f.headers)

pub read-rewrites : ReadRewrites
read-rewrites s h ps hs v c e t l =
    let k = read_is_commit s h ps hs v in
    let f : CommitForm h c = rw e k.1 in
    rewrites h c f t l ∙ sym (k.0 ∙ ap commit_bytes (sym e))
