-- What reading accepts passes the checks of writing: ids, ranges, and headers with the form that their mark says.
-- Assumes nothing.
use Prim.Native.Nat.{ℕ, zero, suc, ◌+◌, ◌-◌, ◌*◌, ◌<◌, ◌≤◌}
use mathlib.Core.Path.{◌≡◌, refl, ap, sym, subst, ◌∙◌}
use mathlib.Core.Bool.{true}
use mathlib.Core.List.{List, [], ◌∷◌, map}
use mathlib.Core.Logic.{◌⊎◌, inl, inr}
use native.Mathlib.Omega.{arith}
use lib.ListN.{length, drop, length-take, length-drop}
use borrow.Author.Tests.{le-leb}
use Rattle.header.specs.Words.{author_word, committer_word, encoding_word}
use Rattle.commit_line.specs.Line.{line_at}
use Rattle.extra_header.specs.Extra.{extra_at}
use Rattle.header.specs.Record.{header_of, header_value}
use Rattle.header.specs.declared.HeaderRecord.{HeaderRecord}
use Rattle.header.specs.declared.CommitParts.{CommitParts}
use Rattle.extra_header.proofs.Laws.{ExtraParts, extra_parts, fold_within}
use Rattle.header.proofs.Laws.{WellFormed, well_made}
use Rattle.commit_line.proofs.Laws.{line-fits}
use Rattle.unfold.specs.Unfold.{has_form}
use Rattle.unfold.proofs.Laws.{form-any, form_folded}
use Rattle.commit_fields.specs.Headers.{Heads, ended, header, heads_from, heads, tally, records_of}
use Rattle.commit_fields.specs.Fields.{encoding_at, found_of, fields_of}
use Rattle.commit_fields.specs.declared.Encoding.{Encoding}
use Rattle.commit_fields.specs.declared.Found.{Found}
use Rattle.commit_fields.proofs.Laws.{actor_parts, blank_fits, encoding-none, encoding-some, fields-parts}
use Rattle.grammar.specs.Grammar.{FoldedForm, HexForm, HexForms}
use Rattle.grammar.specs.Named.{id_named}
use Rattle.commit_grammar.proofs.Headers.{header_read, from-none, from_more}
use Rattle.commit_grammar.proofs.Unfolded.{folded_exactly}
use Rattle.commit_check.proofs.Laws as check
use Rattle.commit_check.specs.Check.{ranged, id_fits, encoding_fits, header_fits, passing}
use Rattle.std.specs.Prelude.{None, Ok, Option, Some}

-- ---- ranges and ids

range_made : (from to len : ℕ) → from ≤ to → to ≤ len → ranged from to len ≡ true
unfolding ranged
range_made from to len p q = rw (le-leb from to p, le-leb to len q)

-- 2H digits that stand at a place stand inside
pub id-fits : (h : ℕ) (s : List ℕ) (at : ℕ) → 0 < h → HexForm h (id_named h s at) → id_fits h s at ≡ true
unfolding id_fits
id-fits h s at p f = rw (le-leb (at + 2 * h) (length s) (omega (arith, f.long, length-take (at + 2 * h - at) (drop at s), length-drop at s)), f.hex)

pub ids_fit : (h : ℕ) (s : List ℕ) (ps : List ℕ) → 0 < h → HexForms h (map (id_named h s) ps) → passing (map (id_fits h s) ps) ≡ length ps
ids_fit h s [] p f = refl
ids_fit h s (x ∷ ps) p f = rw (id-fits h s x p f.0) (ap suc (ids_fit h s ps p f.1))

-- ---- headers

well : (s : List ℕ) (at : ℕ) (x : HeaderRecord) (next : ℕ) → ExtraParts s at x next → WellFormed x (length s)
well s at x next k = go k.read
  where
    go : ((k.end ≤ k.lf + 1) × (x ≡ header_of at k.space (k.space + 1) k.lf 0) × (next ≡ k.lf + 1))
        ⊎ ((k.lf + 1 < k.end) × (x ≡ header_of at k.space (k.space + 1) k.end 1) × (next ≡ k.end)) → WellFormed x (length s)
    go (inl y) =
        let w : WellFormed (header_of at k.space (k.space + 1) k.lf 0) (length s) =
        record {
          name_forward = omega (arith, k.named);
          name_inside = omega (arith, k.spaced, k.ended);
          value_forward = omega (arith, k.spaced);
          value_inside = omega (arith, k.ended);
          marked = omega arith;
        } in
        rw y.1 w
    go (inr y) =
        let e = fold_within s (k.lf + 1) (omega (arith, k.ended)) in
        let w : WellFormed (header_of at k.space (k.space + 1) k.end 1) (length s) =
        record {
          name_forward = omega (arith, k.named);
          name_inside = omega (arith, k.spaced, k.ended);
          value_forward = omega (arith, k.spaced, y.0);
          value_inside = omega (arith, e.1, k.end_is);
          marked = omega arith;
        } in
        rw y.1 w

form : (s : List ℕ) (x : HeaderRecord) {A : Type 0} → ((x.mark ≡ 0) × A) ⊎ ((x.mark ≡ 1) × FoldedForm (header_value s x)) → has_form x.mark (header_value s x) ≡ true
form s x (inl k) = form-any x.mark (header_value s x) (λ z. omega (arith, k.0))
form s x (inr k) = form_folded x.mark (header_value s x) k.0 ∙ (folded_exactly (header_value s x)).1 k.1

-- a header that is read fits
header-fits : (s : List ℕ) (at : ℕ) (x : HeaderRecord) (next : ℕ) → extra_at s at ≡ Some (x, next) → header_fits s x ≡ true
unfolding header_fits
header-fits s at x next q =
    rw (well_made x (length s) (well s at x next (extra_parts s at x next q)), form s x (header_read s at x next q).form.valued)

-- all that are read fit
abbrev pub AllFit : List ℕ → Heads → Type 0
AllFit s l = passing (map (header_fits s) (records_of l)) ≡ length (records_of l)

all_none : (s : List ℕ) (at : ℕ) → AllFit s (ended at)
unfolding records_of
all_none s at = refl

all_more : (s : List ℕ) (x : HeaderRecord) (l : Heads) → header_fits s x ≡ true → AllFit s l → AllFit s (header x l)
unfolding records_of
all_more s x l f ih = rw f (ap suc ih)

pub heads-fit : (left : ℕ) (s : List ℕ) (at : ℕ) → AllFit s (heads_from left s at)
unfolding heads_from
heads-fit zero s at = all_none s at
heads-fit (suc left) s at = go (extra_at s at) refl (λ next. heads-fit left s next)
  where
    go : (x : Option (HeaderRecord × ℕ)) → extra_at s at ≡ x → ((next : ℕ) → AllFit s (heads_from left s next)) → AllFit s (heads_from (suc left) s at)
    go None q ih = subst (AllFit s) (sym (from-none left s at q)) (all_none s at)
    go (Some (x, next)) q ih = subst (AllFit s) (sym (from_more left s at x next q)) (all_more s x (heads_from left s next) (header-fits s at x next q) (ih next))

-- ---- the parts

pub record PartsFit (s : List ℕ) (p : CommitParts) : Type 0 where
  pub author : ranged p.author_start p.author_end (length s) ≡ true
  pub committer : ranged p.committer_start p.committer_end (length s) ≡ true
  pub encoding : encoding_fits (length s) p ≡ true
  pub message : ranged p.message_start p.message_end (length s) ≡ true

encoding-fits : (s : List ℕ) (at : ℕ) (p : CommitParts) → p.encoding ≡ (encoding_at s at).mark → p.encoding_start ≡ (encoding_at s at).start
    → p.encoding_end ≡ (encoding_at s at).end → encoding_fits (length s) p ≡ true
encoding-fits s at p m a e = go (line_at encoding_word s at) refl
  where
    go : (l : Option (ℕ × ℕ)) → line_at encoding_word s at ≡ l → encoding_fits (length s) p ≡ true
    go None q = check.encoding-none (length s) p (m ∙ ap (λ (x : Encoding). x.mark) (encoding-none s at q))
    go (Some (from, to)) q =
        let k = encoding-some s at from to q in
        let f = line-fits encoding_word s at from to q in
        check.encoding-one (length s) p (m ∙ ap (λ (x : Encoding). x.mark) k)
        ∙ range_made p.encoding_start p.encoding_end (length s)
        (omega (arith, a, e, ap (λ (x : Encoding). x.start) k, ap (λ (x : Encoding). x.end) k, f.0))
        (omega (arith, e, ap (λ (x : Encoding). x.end) k, f.1))

pub parts-fit : (s : List ℕ) (h : ℕ) (x : Found) → fields_of s h ≡ Ok x → PartsFit s x.parts
parts-fit s h x q =
    let k = fields-parts s h x q in
    let a = line-fits author_word s (6 + 2 * h + k.count * (8 + 2 * h)) k.a k.e (actor_parts s (6 + 2 * h + k.count * (8 + 2 * h)) author_word 2 k.a k.e k.author).0 in
    let b = line-fits committer_word s (k.e + 1) k.b k.f (actor_parts s (k.e + 1) committer_word 3 k.b k.f k.committer).0 in
    let m = blank_fits s (tally 0 (heads s (encoding_at s (k.f + 1)).next)).end k.blank in
    let y : PartsFit s (found_of s k.count k.a k.e k.b k.f (encoding_at s (k.f + 1)) (tally 0 (heads s (encoding_at s (k.f + 1)).next))).parts =
    record {
      author = range_made k.a k.e (length s) a.0 (omega (arith, a.1));
      committer = range_made k.b k.f (length s) b.0 (omega (arith, b.1));
      encoding = encoding-fits s (k.f + 1) (found_of s k.count k.a k.e k.b k.f (encoding_at s (k.f + 1)) (tally 0 (heads s (encoding_at s (k.f + 1)).next))).parts refl refl refl;
      message = range_made ((tally 0 (heads s (encoding_at s (k.f + 1)).next)).end + 1) (length s) (length s) (omega (arith, m)) (omega arith);
    } in
    rw k.found y
