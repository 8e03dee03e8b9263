-- The longest run of extra headers: what reading has taken, and that what has taken all is read. Assumes nothing.
use Prim.Native.Nat.{ℕ, zero, suc, ◌+◌, ◌<◌, ◌≤◌}
use mathlib.Core.Path.{◌≡◌, refl, ap, sym, subst, ◌∙◌}
use mathlib.Core.Bool.{true, false}
use mathlib.Core.List.{List, [], ◌∷◌, ◌++◌, map, append_assoc}
use mathlib.Core.Logic.{◌⊎◌, inl, inr}
use native.Mathlib.Omega.{arith}
use lib.ListN.{length, get_or, drop, get_or-eq_default}
use lib.Seq.{get_or-drop}
use Rattle.ground.specs.Basics.{part}
use Rattle.ground.specs.Scan.{place_from, free_of}
use Rattle.ground.proofs.Laws.{equal, place-from, place_end}
use Rattle.header.specs.Words.{encoding_word}
use Rattle.commit_line.specs.Line.{line_at}
use Rattle.extra_header.specs.Extra.{fold_from, fold_end, extra_at}
use Rattle.header.specs.Record.{header_of}
use Rattle.header.specs.declared.HeaderRecord.{HeaderRecord}
use Rattle.extra_header.proofs.Laws.{fold_end_here, fold_other, fold_open, fold_next, fold_within, extra_unnamed, extra_folded, extra_line, extra_parts, extra_next}
use Rattle.commit_fields.specs.Headers.{Heads, ended, header, rest_heads, tally, records_of}
use Rattle.commit_fields.specs.Fields.{encoding_at}
use Rattle.commit_fields.proofs.Laws.{heads_end, heads-more, encoding-none, encoding-some}
use Rattle.grammar.specs.Grammar.{
  Header,
  Encoding,
  absent,
  given,
  line,
  encoding_bytes,
  last_lf,
  header_bytes,
  headers_bytes,
  folded_lines,
  FoldedForm,
  HeaderForm,
  HeaderForms,
  EncodingForm,
  FirstForm,
}
use Rattle.grammar.specs.Named.{header_named}
use Rattle.commit_grammar.specs.Refused.{NoHeader, FoldsOn, Taken, EachTaken}
use Rattle.grammar.proofs.Laws.{part_length}
use Rattle.commit_grammar.proofs.Pieces.{below, piece, line-onto, after, value_read, value-stands, value-part, line_after}
use Rattle.commit_grammar.proofs.Folded.{folds_read, folds_some, folds_stand}
use Rattle.commit_grammar.proofs.Headers.{
  header_read,
  HeaderStands,
  space_at,
  lf_at,
  lf-inside,
  plain-stands,
  folded_stands,
  lines-some,
  headers-read-from,
  HeadersStand,
  stand_none,
  stand_one,
}
use Rattle.commit_grammar.proofs.Encodings.{first_line, EncodingStands, same_name}
use Rattle.std.specs.Prelude.{None, Option, Some}

-- the first byte of what follows a place
pub byte_front : (s : List ℕ) (at : ℕ) → get_or s at 0 ≡ get_or (drop at s) 0 0
byte_front s at = let z : at + 0 ≡ at = omega arith in ap (λ (k : ℕ). get_or s k 0) (sym z) ∙ sym (get_or-drop at s 0 0)

-- ---- lines that fold

past : (s : List ℕ) (at : ℕ) → length s ≤ at → get_or s at 0 ≡ 32 → ⊥
past s at h e = let z : ◌≡◌ {A = ℕ} 0 32 = sym (get_or-eq_default s 0 h) ∙ e in omega arith

-- where the lines that are passed end, none that starts with a space stands
stops : (left start : ℕ) (s : List ℕ) (at : ℕ) → length s ≤ at + left
    → (fold_from false start at (drop at s) ≡ start) ⊎ (get_or s (fold_from false start at (drop at s)) 0 ≡ 32 → ⊥)
stops zero start s at p = inr (rw (fold_end_here start s at (omega arith)) (past s at (omega arith)))
stops (suc left) start s at p = by (below at (length s)) (λ lf k. stops left start s (lf + 1) k)
  where
    Out : ℕ → Type 0
    Out i = (fold_from false start i (drop i s) ≡ start) ⊎ (get_or s (fold_from false start i (drop i s)) 0 ≡ 32 → ⊥)

    by-lf : at < length s → get_or s at 0 ≡ 32 → (lf : ℕ) → lf ≡ place_from 10 s (at + 1) → Out (lf + 1) → (lf < length s) ⊎ (length s ≤ lf) → Out at
    by-lf h x lf k ih (inl y) = rw (fold_next start s at h x lf k y) ih
    by-lf h x lf k ih (inr n) = inl (fold_open start s at h x lf k n)

    by_byte : at < length s → ((lf : ℕ) → length s ≤ lf + 1 + left → Out (lf + 1)) → (get_or s at 0 ≡ 32) ⊎ (get_or s at 0 ≡ 32 → ⊥) → Out at
    by_byte h ih (inl x) =
        by-lf h x (place_from 10 s (at + 1)) refl (ih (place_from 10 s (at + 1)) (omega (arith, place-from 10 s (at + 1))))
        (below (place_from 10 s (at + 1)) (length s))
    by_byte h ih (inr n) = inr (rw (fold_other start s at h n) n)

    by : (at < length s) ⊎ (length s ≤ at) → ((lf : ℕ) → length s ≤ lf + 1 + left → Out (lf + 1)) → Out at
    by (inl h) ih = by_byte h ih (equal (get_or s at 0) 32)
    by (inr h) ih = inr (rw (fold_end_here start s at h) (past s at h))

fold_stops : (s : List ℕ) (at : ℕ) → at < fold_end s at → get_or s (fold_end s at) 0 ≡ 32 → ⊥
unfolding fold_end
fold_stops s at p = by (stops (length s) at s at (omega arith))
  where
    by : (fold_from false at at (drop at s) ≡ at) ⊎ (get_or s (fold_from false at at (drop at s)) 0 ≡ 32 → ⊥)
        → get_or s (fold_from false at at (drop at s)) 0 ≡ 32 → ⊥
    by (inl e) = absurd (omega arith)
    by (inr n) = n

-- lines that are passed fold on
folds_there : (s : List ℕ) (at : ℕ) → at ≤ length s → at < fold_end s at → FoldsOn (drop at s)
folds_there s at q p =
    let end = fold_end s at in
    let f = folds_read s at q p in
    let i = fold_within s at q in
    record {
      more = f.more;
      rest = drop end s;
      some = folds_some (part at end s) f (omega (arith, part_length s at end (omega arith) i.1));
      one_lines = f.one_lines;
      whole = piece s at end (omega arith) ∙ ap (λ (l : List ℕ). l ++ drop end s) f.whole;
      ends = λ z. fold_stops s at p (byte_front s end ∙ z);
    }

-- lines that fold on are passed
folds_passed : (s : List ℕ) (at : ℕ) → FoldsOn (drop at s) → at < fold_end s at
unfolding fold_end
folds_passed s at f =
    let z : fold_from false at at (drop at s) ≡ at + length (folded_lines f.more)
    = ap (fold_from false at at) f.whole ∙ folds_stand at at f.more f.rest f.one_lines f.ends in
    omega (arith, z, lines-some f.more f.some)

not_passed : (s r : List ℕ) → (FoldsOn r → ⊥) → (i : ℕ) → i ≤ length s → drop i s ≡ r → fold_end s i ≤ i
not_passed s r n i q e = by (below i (fold_end s i))
  where
    by : (i < fold_end s i) ⊎ (fold_end s i ≤ i) → fold_end s i ≤ i
    by (inl p) = absurd (n (subst FoldsOn e (folds_there s i q p)))
    by (inr p) = p

-- ---- no header

no_header : (s : List ℕ) (at : ℕ) → extra_at s at ≡ None → NoHeader (drop at s)
no_header s at q x r f e =
    let g = first_line x r f in
    let n = x.name in
    let v = g.value in
    let e2 : drop at s ≡ n ++ 32 ∷ (v ++ 10 ∷ g.rest) = e ∙ g.bytes ∙ line-onto n v g.rest in
    let sa = space_at s at n v g.rest f.some f.no_space f.no_lf g.one_line e2 in
    let la = lf_at s at n v g.rest f.some f.no_space f.no_lf g.one_line e2 in
    let li = lf-inside s at n v g.rest f.some f.no_space f.no_lf g.one_line e2 in
    by (at + length n) (at + length n + 1 + length v) sa la (omega (arith, f.some)) (omega arith) li
    (below (at + length n + 1 + length v + 1) (fold_end s (at + length n + 1 + length v + 1)))
  where
    by : (space lf : ℕ) → space ≡ place_from 32 s at → lf ≡ place_from 10 s at → at < space → space < lf → lf < length s
        → (lf + 1 < fold_end s (lf + 1)) ⊎ (fold_end s (lf + 1) ≤ lf + 1) → ⊥
    by space lf a b c d i (inl p) = let z : ◌≡◌ {A = ℕ} 0 1 = cc (extra_folded s at space lf a b c d i (fold_end s (lf + 1)) refl p) in omega arith
    by space lf a b c d i (inr p) = let z : ◌≡◌ {A = ℕ} 0 1 = cc (extra_line s at space lf a b c d i (fold_end s (lf + 1)) refl p) in omega arith

none-there : (s : List ℕ) (at : ℕ) → NoHeader (drop at s) → extra_at s at ≡ None
none-there s at n = by (extra_at s at) refl
  where
    by : (x : Option (HeaderRecord × ℕ)) → extra_at s at ≡ x → x ≡ None
    by None q = refl
    by (Some (x, next)) q = let k = header_read s at x next q in absurd (n (header_named s x) (drop next s) k.form k.bytes)

-- ---- read

taken-read : (s : List ℕ) (at : ℕ) (x : HeaderRecord) (next : ℕ) → extra_at s at ≡ Some (x, next) → Taken (header_named s x) (drop next s)
taken-read s at x next q = let k = extra_parts s at x next q in by k.lf k.end k.space k.end_is k.read
  where
    by : (lf end space : ℕ) → end ≡ fold_end s (lf + 1)
        → ((end ≤ lf + 1) × (x ≡ header_of at space (space + 1) lf 0) × (next ≡ lf + 1))
        ⊎ ((lf + 1 < end) × (x ≡ header_of at space (space + 1) end 1) × (next ≡ end)) → Taken (header_named s x) (drop next s)
    by lf end space k (inl w) =
        inl (
          ap (λ (y : HeaderRecord). y.mark) w.1,
          (λ f. omega (arith, folds_passed s (lf + 1) (subst (λ (i : ℕ). FoldsOn (drop i s)) w.2 f), k, w.0)),
        )
    by lf end space k (inr w) =
        let p : lf + 1 < fold_end s (lf + 1) = omega (arith, k, w.0) in
        inr (
          ap (λ (y : HeaderRecord). y.mark) w.1,
          (λ z. fold_stops s (lf + 1) p (ap (λ (i : ℕ). get_or s i 0) (sym (w.2 ∙ k)) ∙ byte_front s next ∙ z)),
        )

pub record Ends (s : List ℕ) (l : Heads) : Type 0 where
  pub taken : EachTaken (map (header_named s) (records_of l)) (drop (tally 0 l).end s)
  pub longest : NoHeader (drop (tally 0 l).end s)

tally-any : (m n : ℕ) (l : Heads) → (tally m l).end ≡ (tally n l).end
unfolding tally
tally-any m n (ended at) = refl
tally-any m n (header x l) = tally-any (m + 1) (n + 1) l

ends-none : (s : List ℕ) (at : ℕ) (l : Heads) → l ≡ ended at → extra_at s at ≡ None → Ends s l
unfolding tally records_of
ends-none s at l q e = rw q (record { taken = tt; longest = no_header s at e })

ends-one : (s : List ℕ) (x : HeaderRecord) (l m : Heads) → l ≡ header x m
    → Taken (header_named s x) (headers_bytes (map (header_named s) (records_of m)) ++ drop (tally 0 m).end s) → Ends s m → Ends s l
unfolding tally records_of
ends-one s x l m q t g =
    let z : (tally 0 m).end ≡ (tally (0 + 1) m).end = tally-any 0 (0 + 1) m in
    let u : EachTaken (header_named s x ∷ map (header_named s) (records_of m)) (drop (tally 0 m).end s) = (t, g.taken) in
    rw q
    (record {
      taken = subst (λ (i : ℕ). EachTaken (header_named s x ∷ map (header_named s) (records_of m)) (drop i s)) z u;
      longest = subst (λ (i : ℕ). NoHeader (drop i s)) z g.longest;
    })

past-none : (s : List ℕ) (at : ℕ) → length s ≤ at → extra_at s at ≡ None
past-none s at h = extra_unnamed s at at (place_from 10 s at) (sym (place_end 32 s at h)) refl (omega arith)

ends-from : (left : ℕ) (s : List ℕ) (at n : ℕ) → length s ≤ at + left → n ≤ at → Ends s (rest_heads s at n)
ends-from zero s at n p q = ends-none s at _ (heads_end s at n (past-none s at (omega arith))) (past-none s at (omega arith))
ends-from (suc left) s at n p q = by (extra_at s at) refl (λ next k. ends-from left s next (n + 1) (omega arith) (omega arith))
  where
    by : (x : Option (HeaderRecord × ℕ)) → extra_at s at ≡ x → ((next : ℕ) → at < next → Ends s (rest_heads s next (n + 1))) → Ends s (rest_heads s at n)
    by None e ih = ends-none s at _ (heads_end s at n e) e
    by (Some (x, next)) e ih =
        let k = extra_next s at e in
        let b = headers-read-from left s next (n + 1) (omega (arith, k)) (omega (arith, k)) in
        ends-one s x _ _ (heads-more s at n (omega (arith, k)) e) (subst (Taken (header_named s x)) b.bytes (taken-read s at x next e)) (ih next k.0)

-- the headers that are read have taken all, and no other follows
pub ends_read : (s : List ℕ) (at : ℕ) → Ends s (rest_heads s at 0)
ends_read s at = ends-from (length s) s at 0 (omega arith) (omega arith)

-- ---- standing

header-taken : (s : List ℕ) (at : ℕ) (x : Header) (r : List ℕ) → HeaderForm x → Taken x r → drop at s ≡ header_bytes x ++ r → HeaderStands s at x
header-taken s at x r f t e = by f.valued t
  where
    by : ((x.mark ≡ 0) × (free_of 10 x.value ≡ true)) ⊎ ((x.mark ≡ 1) × FoldedForm x.value) → Taken x r → HeaderStands s at x
    by (inl w) (inl u) = plain-stands s at x r f w.0 w.1 (not_passed s r u.1) e
    by (inl w) (inr u) = absurd (omega (arith, w.0, u.0))
    by (inr w) (inl u) = absurd (omega (arith, w.0, u.0))
    by (inr w) (inr u) = folded_stands s at x r f w.0 w.1 u.1 e

-- headers that have taken all, up to bytes that are none, are read as themselves
pub headers-taken : (xs : List Header) (s : List ℕ) (at n : ℕ) (r : List ℕ) → HeaderForms xs → EachTaken xs r → NoHeader r
    → drop at s ≡ headers_bytes xs ++ r → n ≤ at → HeadersStand s at (rest_heads s at n) xs
unfolding headers_bytes
headers-taken [] s at n r f t l e q = stand_none s at _ (heads_end s at n (none-there s at (subst NoHeader (sym e) l)))
headers-taken (x ∷ xs) s at n r f t l e q =
    let b = headers_bytes xs ++ r in
    let w : drop at s ≡ header_bytes x ++ b = e ∙ append_assoc (header_bytes x) (headers_bytes xs) r in
    let g = header-taken s at x b f.0 t.0 w in
    let k = extra_next s at g.read in
    stand_one s at x xs _ _ g (heads-more s at n (omega (arith, k)) g.read)
    (headers-taken xs s g.next (n + 1) r f.1 t.1 l (ap (λ (i : ℕ). drop i s) g.next-is ∙ after s at (header_bytes x) b w) (omega (arith, k)))

-- without an encoding none is read
no-encoding : (xs : List Header) (v r t : List ℕ) → free_of 10 v ≡ true → HeaderForms xs → FirstForm absent xs → NoHeader r
    → headers_bytes xs ++ r ≡ line encoding_word v ++ t → ⊥
unfolding headers_bytes
no-encoding [] v r t o f g l e =
    l (record { name = encoding_word; value = v; mark = 0 }) t
    (record { some = omega arith; no_space = refl; no_lf = refl; valued = inl (refl, o) }) e
no-encoding (x ∷ xs) v r t o f g l e =
    let b = headers_bytes xs ++ r in
    let a : (header_bytes x ++ headers_bytes xs) ++ r ≡ x.name ++ 32 ∷ ((x.value ++ last_lf x.mark) ++ b) =
    append_assoc (header_bytes x) (headers_bytes xs) r ∙ append_assoc x.name (32 ∷ (x.value ++ last_lf x.mark)) b in
    g (same_name x.name encoding_word _ _ f.0.no_space refl (sym a ∙ e ∙ line-onto encoding_word v t))

pub encoding-taken : (s : List ℕ) (at : ℕ) (c : Encoding) (xs : List Header) (r : List ℕ) → EncodingForm c → HeaderForms xs → FirstForm c xs → NoHeader r
    → drop at s ≡ encoding_bytes c ++ (headers_bytes xs ++ r) → EncodingStands s (encoding_at s at) c (headers_bytes xs ++ r)
unfolding encoding_bytes
encoding-taken s at absent xs r f g k l e = by (line_at encoding_word s at) refl
  where
    by : (m : Option (ℕ × ℕ)) → line_at encoding_word s at ≡ m → EncodingStands s (encoding_at s at) absent (headers_bytes xs ++ r)
    by None q = rw (encoding-none s at q) (record { named_is = refl; rest = e })
    by (Some (a, b)) q = let w = value_read encoding_word s at a b q in absurd (no-encoding xs (part a b s) r (drop (b + 1) s) w.0 g k l (sym e ∙ w.1))
encoding-taken s at (given v) xs r f g k l e =
    let b = headers_bytes xs ++ r in
    let w = value-stands encoding_word s at v b f e in
    rw (encoding-some s at _ _ w) (record { named_is = ap given (value-part s at encoding_word v b e); rest = line_after s at encoding_word v b e })
