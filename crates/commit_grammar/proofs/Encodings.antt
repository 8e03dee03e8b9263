-- The encoding: read, and standing; and that an absent one leaves no extra header of its name in front. Assumes nothing.
use Prim.Native.Nat.{ℕ, ◌+◌}
use mathlib.Core.Path.{◌≡◌, refl, ap, sym, ◌∙◌}
use mathlib.Core.Bool.{true}
use mathlib.Core.List.{List, [], ◌∷◌, ◌++◌, append_assoc}
use mathlib.Core.Logic.{◌⊎◌, inl, inr}
use native.Mathlib.Omega.{arith}
use lib.ListN.{length, drop}
use lib.Seq.{take-append_seam}
use lib.Dec.{eqb}
use Rattle.ground.specs.Basics.{pick, part}
use Rattle.ground.specs.Scan.{count_to, free_of}
use Rattle.ground.proofs.Laws.{count_free, is_false}
use Rattle.header.specs.Words.{encoding_word}
use Rattle.commit_line.specs.Line.{word_at, line_at}
use Rattle.commit_line.proofs.Laws.{line-no}
use Rattle.commit_fields.specs.Fields.{encoding_at}
use Rattle.commit_fields.specs.declared.Encoding as read
use Rattle.commit_fields.proofs.Laws.{encoding-none, encoding-some}
use Rattle.grammar.specs.Grammar.{Header, Encoding, absent, given, line, encoding_bytes, last_lf, header_bytes, headers_bytes, folded_lines, FoldedForm, HeaderForm, HeaderForms, EncodingForm, FirstForm}
use Rattle.commit_grammar.proofs.Pieces.{line-onto, word_read, value_read, value-stands, value-part, line_after}
use Rattle.std.specs.Prelude.{None, Option, Some}

-- the encoding that a read one names
abbrev pub encoding_named : List ℕ → read.Encoding → Encoding
encoding_named s e = pick (eqb e.mark 1) (given (part e.start e.end s)) absent

-- ---- the first line of an extra header

pub record FirstLine (x : Header) (r : List ℕ) : Type 0 where
  pub value : List ℕ
  pub rest : List ℕ
  pub one_line : free_of 10 value ≡ true
  pub bytes : header_bytes x ++ r ≡ line x.name value ++ rest

pub first_line : (x : Header) (r : List ℕ) → HeaderForm x → FirstLine x r
first_line x r f = by f.valued
  where
    onto : (v t : List ℕ) → (x.value ++ last_lf x.mark) ++ r ≡ v ++ 10 ∷ t → header_bytes x ++ r ≡ line x.name v ++ t
    onto v t e =
        append_assoc x.name (32 ∷ (x.value ++ last_lf x.mark)) r ∙ ap (λ (l : List ℕ). x.name ++ 32 ∷ l) e ∙ sym (line-onto x.name v t)

    by : ((x.mark ≡ 0) × (free_of 10 x.value ≡ true)) ⊎ ((x.mark ≡ 1) × FoldedForm x.value) → FirstLine x r
    by (inl w) =
        record { value = x.value; rest = r; one_line = w.1; bytes = onto x.value r (append_assoc x.value (last_lf x.mark) r ∙ rw w.0) }
    by (inr w) =
        let g = w.1 in
        let t = folded_lines g.more ++ r in
        record {
          value = g.first;
          rest = t;
          one_line = g.one_line;
          bytes =
              onto g.first t
              (append_assoc x.value (last_lf x.mark) r ∙ rw w.0 (ap (λ (l : List ℕ). l ++ r) g.whole ∙ append_assoc g.first
              (10 ∷ folded_lines g.more) r));
        }

-- ---- read

pub record EncodingRead (s : List ℕ) (at : ℕ) (e : read.Encoding) : Type 0 where
  pub form : EncodingForm (encoding_named s e)
  pub bytes : drop at s ≡ encoding_bytes (encoding_named s e) ++ drop e.next s
  pub first : (xs : List Header) (r : List ℕ) → HeaderForms xs → drop e.next s ≡ headers_bytes xs ++ r → FirstForm (encoding_named s e) xs

none_first : (s : List ℕ) (at : ℕ) → line_at encoding_word s at ≡ None → (xs : List Header) (r : List ℕ) → HeaderForms xs
    → drop at s ≡ headers_bytes xs ++ r → FirstForm absent xs
unfolding headers_bytes
none_first s at q [] r f e = tt
none_first s at q (x ∷ xs) r f e = λ n.
    let g = first_line x (headers_bytes xs ++ r) f.0 in
    let b : drop at s ≡ line x.name g.value ++ g.rest = e ∙ append_assoc (header_bytes x) (headers_bytes xs) r ∙ g.bytes in
    let c : drop at s ≡ line encoding_word g.value ++ g.rest = b ∙ ap (λ (w : List ℕ). line w g.value ++ g.rest) n in
    let z : ◌≡◌ {A = ℕ} 0 1 = cc (value-stands encoding_word s at g.value g.rest g.one_line c) in
    omega arith

pub encoding-read : (s : List ℕ) (at : ℕ) → EncodingRead s at (encoding_at s at)
unfolding encoding_bytes
encoding-read s at = by (line_at encoding_word s at) refl
  where
    by : (l : Option (ℕ × ℕ)) → line_at encoding_word s at ≡ l → EncodingRead s at (encoding_at s at)
    by None q = rw (encoding-none s at q) (record { form = tt; bytes = refl; first = none_first s at q })
    by (Some (a, e)) q =
        let k = value_read encoding_word s at a e q in
        rw (encoding-some s at a e q) (record { form = k.0; bytes = k.1; first = λ xs r f g. tt })

-- ---- standing

pub record EncodingStands (s : List ℕ) (e : read.Encoding) (c : Encoding) (r : List ℕ) : Type 0 where
  pub named_is : encoding_named s e ≡ c
  pub rest : drop e.next s ≡ r

-- two names that end at the same first space are one
pub same_name : (a b r t : List ℕ) → free_of 32 a ≡ true → free_of 32 b ≡ true → a ++ 32 ∷ r ≡ b ++ 32 ∷ t → a ≡ b
same_name a b r t f g e =
    let n : length a ≡ length b = sym (count_free 32 a r f) ∙ ap (count_to 32) e ∙ count_free 32 b t g in
    sym (take-append_seam a (32 ∷ r)) ∙ rw (e, n) (take-append_seam b (32 ∷ t))

no-encoding : (s : List ℕ) (at : ℕ) (xs : List Header) (m : List ℕ) → HeaderForms xs → FirstForm absent xs → drop at s ≡ headers_bytes xs ++ 10 ∷ m
    → word_at encoding_word s at ≡ true → ⊥
unfolding headers_bytes
no-encoding s at [] m f g e w =
    let z : 10 ∷ m ≡ encoding_word ++ 32 ∷ drop (at + length encoding_word + 1) s = sym e ∙ word_read encoding_word s at w in
    let y : ◌≡◌ {A = ℕ} 10 101 = cc in
    omega arith
no-encoding s at (x ∷ xs) m f g e w =
    let t = headers_bytes xs ++ 10 ∷ m in
    let a : drop at s ≡ x.name ++ 32 ∷ ((x.value ++ last_lf x.mark) ++ t) =
    e ∙ append_assoc (header_bytes x) (headers_bytes xs) (10 ∷ m) ∙ append_assoc x.name (32 ∷ (x.value ++ last_lf x.mark)) t in
    g (same_name x.name encoding_word _ _ f.0.no_space refl (sym a ∙ word_read encoding_word s at w))

pub encoding-stands : (s : List ℕ) (at : ℕ) (c : Encoding) (xs : List Header) (m : List ℕ) → EncodingForm c → HeaderForms xs → FirstForm c xs
    → drop at s ≡ encoding_bytes c ++ (headers_bytes xs ++ 10 ∷ m) → EncodingStands s (encoding_at s at) c (headers_bytes xs ++ 10 ∷ m)
unfolding encoding_bytes
encoding-stands s at absent xs m f g k e =
    let w = line-no encoding_word s at (is_false (word_at encoding_word s at) (no-encoding s at xs m g k e)) in
    rw (encoding-none s at w) (record { named_is = refl; rest = e })
encoding-stands s at (given v) xs m f g k e =
    let r = headers_bytes xs ++ 10 ∷ m in
    let w = value-stands encoding_word s at v r f e in
    rw (encoding-some s at _ _ w)
    (record { named_is = ap given (value-part s at encoding_word v r e); rest = line_after s at encoding_word v r e })
