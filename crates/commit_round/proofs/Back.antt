-- A commit that is written is read back (`reads_back`): the ids in lower case, a value of several lines folded, one of a single line
-- without its LF; and a folded value that comes back unfolds to the value (`fold_unfolds` of proofs/Folding.antt). Assumes nothing.
use Prim.Native.Nat.{ℕ, ◌+◌, ◌-◌, ◌≤◌}
use mathlib.Core.Path.{◌≡◌, refl, ap, sym, ◌∙◌}
use mathlib.Core.Bool.{Bool, true, false}
use mathlib.Core.List.{List, [], ◌∷◌, ◌++◌, map, append-nil}
use mathlib.Core.Logic.{◌⊎◌, inl, inr}
use native.Mathlib.Decide.{dec_lt}
use native.Mathlib.Omega.{arith}
use lib.ListN.{take, length-map}
use lib.Dec.{eqb}
use borrow.Author.Tests.{eq-eqb, ne_eqb, le-leb, lt-leb}
use Rattle.ground.specs.Basics.{pick}
use Rattle.ground.specs.Scan.{count_to, free_of}
use Rattle.hex_digits.specs.Hex.{hex_value, is_hex}
use Rattle.grammar.specs.Grammar.{
  Header,
  Encoding,
  absent,
  given,
  Commit,
  folded_lines,
  header_bytes,
  headers_bytes,
  commit_bytes,
  HexForm,
  HexForms,
  FoldedForm,
  HeaderForm,
  HeaderForms,
  FirstForm,
  CommitForm,
}
use Rattle.commit_grammar.proofs.Theorems.{commit_is_read}
use Rattle.commit_value.specs.Fold.{fold_value}
use Rattle.commit_write.specs.Written.{lower_digit, lower_hex, header_written, headers_written, commit_written}
use Rattle.commit_write.proofs.Laws.{digit_low, digit_high, digit_letter}
use Rattle.commit_round.specs.Claims.{ReadsBack, WrittenBack}
use Rattle.commit_round.specs.Round.{several_lines, header_back, commit_back, Writable, Writables, WritableCommit}
use Rattle.commit_round.proofs.Folding.{Within, fold_shape}
use Rattle.commit_round.proofs.Rewriting.{header_copied}

-- ---- digits in lower case

upper_value : (b : ℕ) → 65 ≤ b → b ≤ 70 → hex_value b ≡ b - 55
unfolding hex_value
upper_value b p q = simp (le-leb 48 b (omega arith), lt-leb b 57 (omega arith), le-leb 65 b p, le-leb b 70 q)

lower-value : (b : ℕ) → 97 ≤ b → b ≤ 102 → hex_value b ≡ b - 87
unfolding hex_value
lower-value b p q = simp (le-leb 48 b (omega arith), lt-leb b 57 (omega arith), le-leb 65 b (omega arith), lt-leb b 70 (omega arith), le-leb 97 b p, le-leb b 102 q)

-- a digit keeps its value
pub same-value : (b : ℕ) → hex_value (lower_digit b) ≡ hex_value b
same-value b =
    elim (dec_lt b 65) [
      | yes p ↦ ap hex_value (digit_low b p)
      | no p ↦ elim (dec_lt 70 b) [
        | yes q ↦ ap hex_value (digit_high b q)
        | no q ↦ ap hex_value (digit_letter b (omega arith) (omega arith)) ∙ lower-value (b + 32) (omega arith) (omega arith)
            ∙ sym (upper_value b (omega arith) (omega arith) ∙ omega arith)
      ]
    ]

hex-same : (d : List ℕ) → is_hex (lower_hex d) ≡ is_hex d
hex-same [] = refl
hex-same (b ∷ d) = rw (same-value b, hex-same d)

id_back : (h : ℕ) (d : List ℕ) → HexForm h d → HexForm h (lower_hex d)
id_back h d f = record { long = length-map d lower_digit ∙ f.long; hex = hex-same d ∙ f.hex }

ids_back : (h : ℕ) (ds : List (List ℕ)) → HexForms h ds → HexForms h (map lower_hex ds)
ids_back h [] f = tt
ids_back h (d ∷ ds) f = (id_back h d f.0, ids_back h ds f.1)

-- ---- a header

module _ (x : Header) where
  back_folded : x.mark ≡ 1 → header_back x ≡ x
  unfolding header_back
  back_folded e = rw (eq-eqb x.mark 1 e)

  module _ (e : x.mark ≡ 0) where
    unmarked : eqb x.mark 1 ≡ false
    unmarked = ne_eqb x.mark 1 (λ q. omega (arith, e))

    back_several : several_lines x.value ≡ true → header_back x ≡ record { name = x.name; value = fold_value x.value; mark = 1 }
    unfolding header_back
    back_several s = rw (unmarked, s)

    back_single : several_lines x.value ≡ false
        → header_back x ≡ record { name = x.name; value = take (count_to 10 x.value) x.value; mark = 0 }
    unfolding header_back
    back_single s = rw (unmarked, s)

  back_named : (header_back x).name ≡ x.name
  unfolding header_back
  back_named = go (eqb x.mark 1) (several_lines x.value)
    where
      go : (a b : Bool) → ◌≡◌ {A = List ℕ} (pick a x (pick b (record { name = x.name; value = fold_value x.value; mark = 1 }) (record { name = x.name; value = take (count_to 10 x.value) x.value; mark = 0 }))).name x.name
      go true b = refl
      go false true = refl
      go false false = refl

single : (v first : List ℕ) (more : List (List ℕ)) → fold_value v ≡ first ++ 10 ∷ folded_lines more → more ≡ [] → first ≡ take (count_to 10 v) v
    → fold_value v ≡ take (count_to 10 v) v ++ 10 ∷ []
unfolding folded_lines
single v first more w m f = w ∙ rw (m, f)

-- what is written of a header is the header that is read back
pub record HeaderReturns (x : Header) : Type 0 where
  pub bytes : header_written x ≡ header_bytes (header_back x)
  pub form : HeaderForm (header_back x)

plain-returns : (x : Header) → Writable x → x.mark ≡ 0 → HeaderReturns x
unfolding header_written fold_value
plain-returns x w e = go (several_lines x.value) refl (fold_shape x.value)
  where
    go : (b : Bool) → several_lines x.value ≡ b → Within 0 x.value → HeaderReturns x
    go true s k =
        let y : Header = record { name = x.name; value = fold_value x.value; mark = 1 } in
        let q : header_back x ≡ y = back_several x e s in
        let f : FoldedForm (fold_value x.value) =
        record { first = k.first; more = k.more; whole = k.whole; one_line = k.one_line; one_lines = k.one_lines; some = k.any s } in
        let form : HeaderForm y = record { some = w.named; no_space = w.no_space; no_lf = w.no_lf; valued = inr (refl, f) } in
        record {
          bytes = rw (q, unmarked x e, append-nil (fold_value x.value));
          form = rw q form;
        }
    go false s k =
        let v : List ℕ = take (count_to 10 x.value) x.value in
        let y : Header = record { name = x.name; value = v; mark = 0 } in
        let q : header_back x ≡ y = back_single x e s in
        let j = k.none s in
        let l : fold_value x.value ≡ v ++ 10 ∷ [] = single x.value k.first k.more k.whole j.0 j.1 in
        let f : free_of 10 v ≡ true = ap (free_of 10) (sym j.1) ∙ k.one_line in
        let form : HeaderForm y = record { some = w.named; no_space = w.no_space; no_lf = w.no_lf; valued = inl (refl, f) } in
        record {
          bytes = rw (q, unmarked x e, l);
          form = rw q form;
        }

folded_returns : (x : Header) → Writable x → (x.mark ≡ 1) × FoldedForm x.value → HeaderReturns x
folded_returns x w k =
    let q = back_folded x k.0 in
    let form : HeaderForm x = record { some = w.named; no_space = w.no_space; no_lf = w.no_lf; valued = inr k } in
    record { bytes = header_copied x k.0 ∙ ap header_bytes (sym q); form = rw q form }

pub header-returns : (x : Header) → Writable x → HeaderReturns x
header-returns x w = go w.valued
  where
    go : (x.mark ≡ 0) ⊎ ((x.mark ≡ 1) × FoldedForm x.value) → HeaderReturns x
    go (inl e) = plain-returns x w e
    go (inr k) = folded_returns x w k

headers-bytes : (xs : List Header) → Writables xs → headers_written xs ≡ headers_bytes (map header_back xs)
unfolding headers_written headers_bytes
headers-bytes [] w = refl
headers-bytes (x ∷ xs) w = rw ((header-returns x w.0).bytes, headers-bytes xs w.1)

headers_form : (xs : List Header) → Writables xs → HeaderForms (map header_back xs)
headers_form [] w = tt
headers_form (x ∷ xs) w = ((header-returns x w.0).form, headers_form xs w.1)

first-form : (e : Encoding) (xs : List Header) → FirstForm e xs → FirstForm e (map header_back xs)
first-form absent [] f = tt
first-form absent (x ∷ xs) f = λ q. f (sym (back_named x) ∙ q)
first-form (given v) xs f = tt

-- ---- the commit

pub written_back : WrittenBack
unfolding commit_written commit_bytes
written_back h c w = rw (headers-bytes c.headers w.headers)

back-form : (h : ℕ) (c : Commit) → WritableCommit h c → CommitForm h (commit_back c)
back-form h c w =
    record {
      tree = id_back h c.tree w.tree;
      parents = ids_back h c.parents w.parents;
      author = w.author;
      committer = w.committer;
      encoding = w.encoding;
      headers = headers_form c.headers w.headers;
      first = first-form c.encoding c.headers w.first;
    }

pub reads_back : ReadsBack
reads_back h c ps hs w id bytes np nh rp rh =
    let e = written_back h c w in
    let k = commit_is_read h (commit_back c) ps hs (back-form h c w) id (rw e at bytes) np nh
    (rw (length-map c.parents lower_hex) rp) (rw (length-map c.headers header_back) rh) in
    rw e (k.0, k.3)
