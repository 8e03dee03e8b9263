-- Extra headers: one that is read has the form and its bytes, one of the form is read as itself, and so for all of them. Assumes nothing.
use Prim.Native.Nat.{ℕ, zero, suc, ◌+◌, ◌<◌, ◌≤◌}
use mathlib.Core.Path.{◌≡◌, refl, ap, sym, ◌∙◌}
use mathlib.Core.Bool.{true, false, not}
use mathlib.Core.List.{List, [], ◌∷◌, ◌++◌, map, append_assoc}
use mathlib.Core.Logic.{◌⊎◌, inl, inr}
use native.Mathlib.Omega.{arith}
use lib.ListN.{length, get_or, drop, length-append}
use lib.Dec.{eqb}
use borrow.Author.Tests.{eqb-false, not-true}
use Rattle.ground.specs.Basics.{part}
use Rattle.ground.specs.Scan.{place_from, free_of}
use Rattle.ground.proofs.Laws.{and_left, place_end, place_here}
use Rattle.actor.proofs.Form.{free_both}
use Rattle.extra_header.specs.Extra.{fold_from, fold_end, extra_at}
use Rattle.header.specs.Record.{header_of}
use Rattle.header.specs.declared.HeaderRecord.{HeaderRecord}
use Rattle.extra_header.proofs.Laws.{fold_within, extra_unnamed, extra_bare, extra_folded, extra_line, extra_parts, extra_next}
use Rattle.commit_fields.specs.Headers.{Heads, ended, header, heads_from, rest_heads, tally, records_of}
use Rattle.commit_fields.proofs.Laws.{heads_end, heads-more}
use Rattle.grammar.specs.Grammar.{Header, last_lf, header_bytes, headers_bytes, folded_lines, FoldedForm, HeaderForm, HeaderForms}
use Rattle.grammar.specs.Named.{header_named}
use Rattle.grammar.proofs.Laws.{part_length}
use Rattle.commit_grammar.proofs.Pieces.{below, piece, cut, cut-part, after, part-is, byte-is, byte_inside, byte-after, free_left, free_right, free_part, place_is, place_after}
use Rattle.commit_grammar.proofs.Folded.{Folds, folds_read, folds_some, folds_stand}
use Rattle.std.specs.Prelude.{None, Option, Some}

-- ---- one header, read

-- a header's bytes and what follows them
header-onto : (x : Header) (r : List ℕ) → header_bytes x ++ r ≡ x.name ++ 32 ∷ (x.value ++ (last_lf x.mark ++ r))
header-onto x r =
    append_assoc x.name (32 ∷ (x.value ++ last_lf x.mark)) r
    ∙ ap (λ (l : List ℕ). x.name ++ 32 ∷ l) (append_assoc x.value (last_lf x.mark) r)

pub record HeaderRead (s : List ℕ) (at : ℕ) (x : Header) (next : ℕ) : Type 0 where
  pub form : HeaderForm x
  pub bytes : drop at s ≡ header_bytes x ++ drop next s

module _ (s : List ℕ) (at : ℕ) where
  header-read-by : (space lf end : ℕ) → space ≡ place_from 32 s at → lf ≡ place_from 10 s at → end ≡ fold_end s (lf + 1) → at < space → space < lf → lf < length s
      → (x : HeaderRecord) (next : ℕ)
      → ((end ≤ lf + 1) × (x ≡ header_of at space (space + 1) lf 0) × (next ≡ lf + 1))
      ⊎ ((lf + 1 < end) × (x ≡ header_of at space (space + 1) end 1) × (next ≡ end))
      → HeaderRead s at (header_named s x) next
  header-read-by space lf end i j k p q r x next read = by read
    where
      -- the name, and the first line's value
      spaced : get_or s space 0 ≡ 32
      spaced = place_is 32 s at space i (omega arith)

      ended : get_or s lf 0 ≡ 10
      ended = place_is 10 s at lf j r

      line : part at lf s ≡ part at space s ++ 32 ∷ part (space + 1) lf s
      line = rw spaced at (cut-part s at space lf (omega arith) q (omega arith))

      one_line : free_of 10 (part at space s ++ 32 ∷ part (space + 1) lf s) ≡ true
      one_line = rw line at (free_part 10 s at lf j)

      value_line : free_of 10 (part (space + 1) lf s) ≡ true
      value_line = free_right 10 (32 ∷ []) (part (space + 1) lf s) (free_right 10 (part at space s) (32 ∷ part (space + 1) lf s) one_line)

      some : 0 < length (part at space s)
      some = omega (arith, part_length s at space (omega arith) (omega arith))

      name : drop at s ≡ part at space s ++ 32 ∷ drop (space + 1) s
      name = rw spaced at (cut s at space (omega arith) (omega arith))

      by : ((end ≤ lf + 1) × (x ≡ header_of at space (space + 1) lf 0) × (next ≡ lf + 1))
          ⊎ ((lf + 1 < end) × (x ≡ header_of at space (space + 1) end 1) × (next ≡ end))
          → HeaderRead s at (header_named s x) next
      by (inl w) =
          let h = header_named s (header_of at space (space + 1) lf 0) in
          rw (w.1, w.2)
          (record {
            form =
                record {
                  some = some;
                  no_space = free_part 32 s at space i;
                  no_lf = free_left 10 (part at space s) (32 ∷ part (space + 1) lf s) one_line;
                  valued = inl (refl, value_line);
                };
            bytes =
                name
                ∙ ap (λ (l : List ℕ). part at space s ++ 32 ∷ l) (rw ended at (cut s (space + 1) lf (omega arith) r))
                ∙ sym (header-onto h (drop (lf + 1) s));
          })
      by (inr w) =
          let h = header_named s (header_of at space (space + 1) end 1) in
          let e : lf + 1 < fold_end s (lf + 1) = omega (arith, k, w.0) in
          let i2 = fold_within s (lf + 1) (omega arith) in
          let f : Folds (part (lf + 1) end s) = rw k (folds_read s (lf + 1) (omega arith) e) in
          let v : part (space + 1) end s ≡ part (space + 1) lf s ++ 10 ∷ part (lf + 1) end s =
          rw ended at (cut-part s (space + 1) lf end (omega arith) (omega (arith, w.0)) (omega (arith, i2, k))) in
          rw (w.1, w.2)
          (record {
            form =
                record {
                  some = some;
                  no_space = free_part 32 s at space i;
                  no_lf = free_left 10 (part at space s) (32 ∷ part (space + 1) lf s) one_line;
                  valued =
                      inr (
                        refl,
                        record {
                          first = part (space + 1) lf s;
                          more = f.more;
                          whole = v ∙ ap (λ (l : List ℕ). part (space + 1) lf s ++ 10 ∷ l) f.whole;
                          one_line = value_line;
                          one_lines = f.one_lines;
                          some = folds_some (part (lf + 1) end s) f (omega (arith, part_length s (lf + 1) end (omega (arith, w.0)) (omega (arith, i2, k))));
                        },
                      );
                };
            bytes =
                name
                ∙ ap (λ (l : List ℕ). part at space s ++ 32 ∷ l) (piece s (space + 1) end (omega (arith, w.0)))
                ∙ sym (header-onto h (drop end s));
          })

  -- what is read has the form, and stands there with its bytes
  pub header_read : (x : HeaderRecord) (next : ℕ) → extra_at s at ≡ Some (x, next) → HeaderRead s at (header_named s x) next
  header_read x next e =
      let k = extra_parts s at x next e in
      header-read-by k.space k.lf k.end k.space_is k.lf_is k.end_is k.named k.spaced k.ended x next k.read

-- ---- one header, standing

-- what follows does not start with a space
pub record HeaderStands (s : List ℕ) (at : ℕ) (x : Header) : Type 0 where
  pub found : HeaderRecord
  pub next : ℕ
  pub read : extra_at s at ≡ Some (found, next)
  pub next-is : next ≡ at + length (header_bytes x)
  pub named_is : header_named s found ≡ x

module _ (s : List ℕ) (at : ℕ) (n v r : List ℕ) (some : 0 < length n) (no_space : free_of 32 n ≡ true) (no_lf : free_of 10 n ≡ true) where
  -- a name, a space, a value on one line and LF: where its bytes stand
  module _ (f : free_of 10 v ≡ true) (e : drop at s ≡ n ++ 32 ∷ (v ++ 10 ∷ r)) where
    pub space_at : at + length n ≡ place_from 32 s at
    space_at = place_after 32 s at n (v ++ 10 ∷ r) e no_space

    value-at : drop (at + length n + 1) s ≡ v ++ 10 ∷ r
    value-at = byte-after s (at + length n) 32 (v ++ 10 ∷ r) (after s at n (32 ∷ (v ++ 10 ∷ r)) e)

    pub lf_at : at + length n + 1 + length v ≡ place_from 10 s at
    lf_at =
        let a : drop at s ≡ (n ++ 32 ∷ v) ++ 10 ∷ r = e ∙ sym (append_assoc n (32 ∷ v) (10 ∷ r)) in
        let z : at + length n + 1 + length v ≡ at + length (n ++ 32 ∷ v) = omega (arith, length-append n (32 ∷ v)) in
        z ∙ place_after 10 s at (n ++ 32 ∷ v) r a (free_both 10 n (32 ∷ v) no_lf f)

    lf-after : drop (at + length n + 1 + length v) s ≡ 10 ∷ r
    lf-after = after s (at + length n + 1) v (10 ∷ r) value-at

    pub rest-after : drop (at + length n + 1 + length v + 1) s ≡ r
    rest-after = byte-after s (at + length n + 1 + length v) 10 r lf-after

    pub lf-inside : at + length n + 1 + length v < length s
    lf-inside = byte_inside s (at + length n + 1 + length v) 10 r lf-after

same-header : (x : Header) (a b : List ℕ) (m : ℕ) → a ≡ x.name → b ≡ x.value → m ≡ x.mark → record { name = a; value = b; mark = m } ≡ x
same-header x a b m p q r = rw (p, q, r)

-- a header on one line
pub plain-stands : (s : List ℕ) (at : ℕ) (x : Header) (r : List ℕ) → HeaderForm x → x.mark ≡ 0 → free_of 10 x.value ≡ true
    → ((i : ℕ) → i ≤ length s → drop i s ≡ r → fold_end s i ≤ i) → drop at s ≡ header_bytes x ++ r → HeaderStands s at x
plain-stands s at x r f m g k e =
    let n = x.name in
    let v = x.value in
    let e2 : drop at s ≡ n ++ 32 ∷ (v ++ 10 ∷ r) = e ∙ header-onto x r ∙ rw m in
    let space = at + length n in
    let lf = space + 1 + length v in
    let sa = space_at s at n v r f.some f.no_space f.no_lf g e2 in
    let la = lf_at s at n v r f.some f.no_space f.no_lf g e2 in
    let va = value-at s at n v r f.some f.no_space f.no_lf g e2 in
    let ra = rest-after s at n v r f.some f.no_space f.no_lf g e2 in
    let li = lf-inside s at n v r f.some f.no_space f.no_lf g e2 in
    record {
      found = header_of at space (space + 1) lf 0;
      next = lf + 1;
      read = extra_line s at space lf sa la (omega (arith, f.some)) (omega arith) li (fold_end s (lf + 1)) refl (k (lf + 1) (omega (arith, li)) ra);
      next-is =
          omega (arith, length-append n (32 ∷ (v ++ last_lf x.mark)), length-append v (last_lf x.mark), one m);
      named_is = same-header x (part at space s) (part (space + 1) lf s) 0 (part-is s at n (32 ∷ (v ++ 10 ∷ r)) e2) (part-is s (space + 1) v (10 ∷ r) va)
          (sym m);
    }
  where
    one : x.mark ≡ 0 → length (last_lf x.mark) ≡ 1
    one m = rw m

-- lines are bytes
pub lines-some : (ls : List (List ℕ)) → 0 < length ls → 0 < length (folded_lines ls)
unfolding folded_lines
lines-some [] p = p
lines-some (l ∷ ls) p = omega arith

-- a folded header
pub folded_stands : (s : List ℕ) (at : ℕ) (x : Header) (r : List ℕ) → HeaderForm x → x.mark ≡ 1 → FoldedForm x.value → (get_or r 0 0 ≡ 32 → ⊥)
    → drop at s ≡ header_bytes x ++ r → HeaderStands s at x
unfolding fold_end
folded_stands s at x r f m g k e =
    let n = x.name in
    let v = g.first in
    let ls = folded_lines g.more in
    let e1 : drop at s ≡ n ++ 32 ∷ (x.value ++ r) = e ∙ header-onto x r ∙ rw m in
    let w : x.value ++ r ≡ v ++ 10 ∷ (ls ++ r) = ap (λ (l : List ℕ). l ++ r) g.whole ∙ append_assoc v (10 ∷ ls) r in
    let e2 : drop at s ≡ n ++ 32 ∷ (v ++ 10 ∷ (ls ++ r)) = e1 ∙ ap (λ (l : List ℕ). n ++ 32 ∷ l) w in
    let space = at + length n in
    let lf = space + 1 + length v in
    let sa = space_at s at n v (ls ++ r) f.some f.no_space f.no_lf g.one_line e2 in
    let la = lf_at s at n v (ls ++ r) f.some f.no_space f.no_lf g.one_line e2 in
    let va : drop (space + 1) s ≡ x.value ++ r = value-at s at n v (ls ++ r) f.some f.no_space f.no_lf g.one_line e2 ∙ sym w in
    let ra = rest-after s at n v (ls ++ r) f.some f.no_space f.no_lf g.one_line e2 in
    let li = lf-inside s at n v (ls ++ r) f.some f.no_space f.no_lf g.one_line e2 in
    let end : fold_end s (lf + 1) ≡ lf + 1 + length ls = ap (fold_from false (lf + 1) (lf + 1)) ra ∙ folds_stand (lf + 1) (lf + 1) g.more r g.one_lines k in
    let long : length x.value ≡ length v + suc (length ls) = ap length g.whole ∙ length-append v (10 ∷ ls) in
    let to : lf + 1 + length ls ≡ space + 1 + length x.value = omega (arith, long) in
    record {
      found = header_of at space (space + 1) (lf + 1 + length ls) 1;
      next = lf + 1 + length ls;
      read =
          extra_folded s at space lf sa la (omega (arith, f.some)) (omega arith) li (lf + 1 + length ls) (sym end)
          (omega (arith, lines-some g.more g.some));
      next-is =
          omega
          (arith, length-append n (32 ∷ (x.value ++ last_lf x.mark)), length-append x.value (last_lf x.mark), none m, long);
      named_is =
          same-header x (part at space s) (part (space + 1) (lf + 1 + length ls) s) 1 (part-is s at n (32 ∷ (v ++ 10 ∷ (ls ++ r))) e2)
          (ap (λ (i : ℕ). part (space + 1) i s) to ∙ part-is s (space + 1) x.value r va) (sym m);
    }
  where
    none : x.mark ≡ 1 → length (last_lf x.mark) ≡ 0
    none m = rw m

-- bytes that do not start with a space fold nothing
unfolded : (s r : List ℕ) → (get_or r 0 0 ≡ 32 → ⊥) → (i : ℕ) → i ≤ length s → drop i s ≡ r → fold_end s i ≤ i
unfolding fold_end folded_lines
unfolded s r k i q e = let z : fold_from false i i (drop i s) ≡ i + 0 = ap (fold_from false i i) e ∙ folds_stand i i [] r tt k in omega (arith, z)

-- a header of the form is read as itself, where what follows does not start with a space
pub header-stands : (s : List ℕ) (at : ℕ) (x : Header) (r : List ℕ) → HeaderForm x →
    (get_or r 0 0 ≡ 32 → ⊥) → drop at s ≡ header_bytes x ++ r → HeaderStands s at x
header-stands s at x r f k e = by f.valued
  where
    by : ((x.mark ≡ 0) × (free_of 10 x.value ≡ true)) ⊎ ((x.mark ≡ 1) × FoldedForm x.value) → HeaderStands s at x
    by (inl w) = plain-stands s at x r f w.0 w.1 (unfolded s r k) e
    by (inr w) = folded_stands s at x r f w.0 w.1 k e

-- ---- all headers, read

-- one step of the headers: none, or one and those behind it
pub from-none : (left : ℕ) (s : List ℕ) (at : ℕ) → extra_at s at ≡ None → heads_from (suc left) s at ≡ ended at
unfolding heads_from
from-none left s at e = rw (e, heads_from)

pub from_more : (left : ℕ) (s : List ℕ) (at : ℕ) (x : HeaderRecord) (next : ℕ) → extra_at s at ≡ Some (x, next)
    → heads_from (suc left) s at ≡ header x (heads_from left s next)
unfolding heads_from
from_more left s at x next e = rw (e, heads_from)

pub record HeadersRead (s : List ℕ) (at : ℕ) (l : Heads) : Type 0 where
  pub forms : HeaderForms (map (header_named s) (records_of l))
  pub bytes : drop at s ≡ headers_bytes (map (header_named s) (records_of l)) ++ drop (tally 0 l).end s

tally_end_any : (m n : ℕ) (l : Heads) → (tally m l).end ≡ (tally n l).end
unfolding tally
tally_end_any m n (ended at) = refl
tally_end_any m n (header x l) = tally_end_any (m + 1) (n + 1) l

headers-none : (s : List ℕ) (at : ℕ) (l : Heads) → l ≡ ended at → HeadersRead s at l
unfolding headers_bytes tally records_of
headers-none s at l q = rw q (record { forms = tt; bytes = refl })

headers-one : (s : List ℕ) (at : ℕ) (x : HeaderRecord) (next : ℕ) (l m : Heads) → l ≡ header x m → HeaderRead s at (header_named s x) next
    → HeadersRead s next m → HeadersRead s at l
unfolding headers_bytes tally records_of
headers-one s at x next l m q f g =
    rw q
    (record {
      forms = (f.form, g.forms);
      bytes =
          f.bytes
          ∙ ap (λ (t : List ℕ). header_bytes (header_named s x) ++ t)
          (g.bytes ∙ ap (λ (i : ℕ). headers_bytes (map (header_named s) (records_of m)) ++ drop i s) (tally_end_any 0 (0 + 1) m))
          ∙ sym (append_assoc (header_bytes (header_named s x)) (headers_bytes (map (header_named s) (records_of m))) (drop (tally (0 + 1) m).end s));
    })

past-none : (s : List ℕ) (at : ℕ) → length s ≤ at → extra_at s at ≡ None
past-none s at h = extra_unnamed s at at (place_from 10 s at) (sym (place_end 32 s at h)) refl (omega arith)

pub headers-read-from : (left : ℕ) (s : List ℕ) (at n : ℕ) → length s ≤ at + left → n ≤ at → HeadersRead s at (rest_heads s at n)
headers-read-from zero s at n p q = headers-none s at _ (heads_end s at n (past-none s at (omega arith)))
headers-read-from (suc left) s at n p q = by (extra_at s at) refl (λ next k. headers-read-from left s next (n + 1) (omega arith) (omega arith))
  where
    by : (x : Option (HeaderRecord × ℕ)) → extra_at s at ≡ x → ((next : ℕ) → at < next → HeadersRead s next (rest_heads s next (n + 1))) → HeadersRead s at (rest_heads s at n)
    by None e ih = headers-none s at _ (heads_end s at n e)
    by (Some (x, next)) e ih =
        let k = extra_next s at e in
        headers-one s at x next _ _ (heads-more s at n (omega (arith, k)) e) (header_read s at x next e) (ih next k.0)

-- the headers that are read have the form, and stand there with their bytes
pub headers-read : (s : List ℕ) (at : ℕ) → HeadersRead s at (rest_heads s at 0)
headers-read s at = headers-read-from (length s) s at 0 (omega arith) (omega arith)

-- ---- all headers, standing

-- a header's first byte, and the blank line's, is no space
starts_off : (n r : List ℕ) → 0 < length n → free_of 32 n ≡ true → get_or (n ++ r) 0 0 ≡ 32 → ⊥
starts_off [] r p f e = omega arith
starts_off (b ∷ n) r p f e = eqb-false b 32 (not-true (eqb b 32) (and_left (not (eqb b 32)) (free_of 32 n) f)) e

pub no-space-first : (xs : List Header) (m : List ℕ) → HeaderForms xs → get_or (headers_bytes xs ++ 10 ∷ m) 0 0 ≡ 32 → ⊥
unfolding headers_bytes
no-space-first [] m f e = omega arith
no-space-first (x ∷ xs) m f e =
    let t = headers_bytes xs ++ 10 ∷ m in
    let w : (header_bytes x ++ headers_bytes xs) ++ 10 ∷ m ≡ x.name ++ 32 ∷ (x.value ++ (last_lf x.mark ++ t)) =
    append_assoc (header_bytes x) (headers_bytes xs) (10 ∷ m) ∙ header-onto x t in
    starts_off x.name _ f.0.some f.0.no_space (rw w at e)

pub record HeadersStand (s : List ℕ) (at : ℕ) (l : Heads) (xs : List Header) : Type 0 where
  pub named_are : map (header_named s) (records_of l) ≡ xs
  pub end_is : (tally 0 l).end ≡ at + length (headers_bytes xs)

blank_none : (s : List ℕ) (at : ℕ) (m : List ℕ) → drop at s ≡ 10 ∷ m → extra_at s at ≡ None
blank_none s at m e = by (below at (place_from 32 s at))
  where
    lf : at ≡ place_from 10 s at
    lf = sym (place_here 10 s at (byte_inside s at 10 m e) (byte-is s at 10 m e))

    by : (at < place_from 32 s at) ⊎ (place_from 32 s at ≤ at) → extra_at s at ≡ None
    by (inl a) = extra_bare s at (place_from 32 s at) at refl lf a (omega arith)
    by (inr b) = extra_unnamed s at (place_from 32 s at) at refl lf b

pub stand_none : (s : List ℕ) (at : ℕ) (l : Heads) → l ≡ ended at → HeadersStand s at l []
unfolding headers_bytes tally records_of
stand_none s at l q = rw q (record { named_are = refl; end_is = omega arith })

pub stand_one : (s : List ℕ) (at : ℕ) (x : Header) (xs : List Header) (l m : Heads) (f : HeaderStands s at x) → l ≡ header f.found m
    → HeadersStand s f.next m xs → HeadersStand s at l (x ∷ xs)
unfolding headers_bytes tally records_of
stand_one s at x xs l m f q g =
    rw q
    (record {
      named_are = rw (f.named_is, g.named_are);
      end_is = omega (arith, tally_end_any (0 + 1) 0 m, g.end_is, f.next-is, length-append (header_bytes x) (headers_bytes xs));
    })

pub headers_stand : (xs : List Header) (s : List ℕ) (at n : ℕ) (m : List ℕ) → HeaderForms xs → drop at s ≡ headers_bytes xs ++ 10 ∷ m → n ≤ at
    → HeadersStand s at (rest_heads s at n) xs
unfolding headers_bytes
headers_stand [] s at n m f e q = stand_none s at _ (heads_end s at n (blank_none s at m e))
headers_stand (x ∷ xs) s at n m f e q =
    let t = headers_bytes xs ++ 10 ∷ m in
    let w : drop at s ≡ header_bytes x ++ t = e ∙ append_assoc (header_bytes x) (headers_bytes xs) (10 ∷ m) in
    let g = header-stands s at x t f.0 (no-space-first xs m f.1) w in
    let k = extra_next s at g.read in
    stand_one s at x xs _ _ g (heads-more s at n (omega (arith, k)) g.read)
    (headers_stand xs s g.next (n + 1) m f.1 (ap (λ (i : ℕ). drop i s) g.next-is ∙ after s at (header_bytes x) t w) (omega (arith, k)))
