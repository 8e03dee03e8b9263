-- Parents: those that are counted have their lines, and lines of parents are counted. Assumes nothing.
use Prim.Native.Nat.{ℕ, zero, suc, ◌+◌, ◌-◌, ◌*◌, ◌≤◌}
use mathlib.Core.Path.{◌≡◌, refl, ap, sym, ◌∙◌}
use mathlib.Core.Bool.{Bool, true, false}
use mathlib.Core.List.{List, [], ◌∷◌, ◌++◌, map, append_assoc}
use native.Mathlib.Nat.{suc-mul, zero-mul}
use native.Mathlib.Omega.{arith}
use lib.ListN.{length, drop}
use Rattle.ground.specs.Basics.{pick}
use Rattle.header.specs.Words.{parent_word}
use Rattle.commit_fields.specs.Parents.{parent_at, parents_from, rest_parents, parent_count, parent_starts}
use Rattle.commit_fields.proofs.Laws.{parent_fits, parents_end, parents-more}
use Rattle.grammar.specs.Grammar.{line, parents_bytes, HexForm, HexForms}
use Rattle.grammar.specs.Named.{id_named}
use Rattle.grammar.proofs.Laws.{line-length}
use Rattle.commit_grammar.proofs.Pieces.{after, value-part, id-read, id-stands}

-- ---- read

pub record ParentsRead (h : ℕ) (s : List ℕ) (at n : ℕ) : Type 0 where
  pub forms : HexForms h (map (id_named h s) (parent_starts n h at))
  pub bytes : drop at s ≡ parents_bytes (map (id_named h s) (parent_starts n h at)) ++ drop (at + n * (8 + 2 * h)) s

none_read : (h : ℕ) (s : List ℕ) (at : ℕ) → ParentsRead h s at 0
unfolding parent_starts parents_bytes
none_read h s at =
    let z : at + 0 * (8 + 2 * h) ≡ at = rw (zero-mul (8 + 2 * h)) (omega arith) in
    record { forms = tt; bytes = rw z }

one-read : (h : ℕ) (s : List ℕ) (at n : ℕ) → parent_at h s at ≡ true → ParentsRead h s (at + (8 + 2 * h)) n → ParentsRead h s at (suc n)
unfolding parent_at parent_starts parents_bytes
one-read h s at n e f =
    let d = id_named h s (at + 7) in
    let w = 8 + 2 * h in
    let ds = map (id_named h s) (parent_starts n h (at + w)) in
    let x : at + 6 + 1 ≡ at + 7 = omega arith in
    let y : at + 7 + 2 * h + 1 ≡ at + w = omega arith in
    let z : at + w + n * w ≡ at + suc n * w = rw (suc-mul n w) (omega arith) in
    let k = id-read parent_word h s at e in
    let form : HexForm h d = rw x at k.0 in
    let bytes : drop at s ≡ line parent_word d ++ drop (at + w) s = rw (x, y) at k.1 in
    record {
      forms = (form, f.forms);
      bytes =
          bytes
          ∙ ap (λ (l : List ℕ). line parent_word d ++ l) (f.bytes ∙ ap (λ (i : ℕ). parents_bytes ds ++ drop i s) z)
          ∙ sym (append_assoc (line parent_word d) (parents_bytes ds) (drop (at + suc n * w) s));
    }

read-from : (left h : ℕ) (s : List ℕ) (at : ℕ) → ParentsRead h s at (parents_from left h s at)
unfolding parents_from
read-from zero h s at = none_read h s at
read-from (suc left) h s at = by (parent_at h s at) refl (read-from left h s (at + (8 + 2 * h)))
  where
    by : (t : Bool) → parent_at h s at ≡ t → ParentsRead h s (at + (8 + 2 * h)) (parents_from left h s (at + (8 + 2 * h)))
        → ParentsRead h s at (pick t (suc (parents_from left h s (at + (8 + 2 * h)))) 0)
    by true e f = one-read h s at (parents_from left h s (at + (8 + 2 * h))) e f
    by false e f = none_read h s at

-- the parents that are counted have the form, and stand there with their lines
pub parents-read : (h : ℕ) (s : List ℕ) (at : ℕ) → ParentsRead h s at (parent_count h s at)
unfolding rest_parents
parents-read h s at = read-from (length s - 0) h s at

-- ---- standing

stands : (h : ℕ) (s : List ℕ) (at : ℕ) (d t : List ℕ) → HexForm h d → drop at s ≡ line parent_word d ++ t → parent_at h s at ≡ true
unfolding parent_at
stands h s at d t f e = id-stands parent_word h s at d t f e

pub record ParentsStand (h : ℕ) (s : List ℕ) (at n : ℕ) (ds : List (List ℕ)) (r : List ℕ) : Type 0 where
  pub counted : rest_parents h s at n ≡ length ds
  pub named_are : map (id_named h s) (parent_starts (length ds) h at) ≡ ds
  pub rest : drop (at + length ds * (8 + 2 * h)) s ≡ r

-- lines of parents, up to bytes that are no such line, are counted and named
pub parents_stand : (ds : List (List ℕ)) (h : ℕ) (s : List ℕ) (at n : ℕ) (r : List ℕ) → HexForms h ds → drop at s ≡ parents_bytes ds ++ r
    → ((p : ℕ) → drop p s ≡ r → parent_at h s p ≡ false) → n ≤ at → ParentsStand h s at n ds r
unfolding parents_bytes parent_starts
parents_stand [] h s at n r f e ends q =
    let z : at + 0 * (8 + 2 * h) ≡ at = rw (zero-mul (8 + 2 * h)) (omega arith) in
    record { counted = parents_end h s at n (ends at e); named_are = refl; rest = rw z e }
parents_stand (d ∷ ds) h s at n r f e ends q =
    let w = 8 + 2 * h in
    let t = parents_bytes ds ++ r in
    let e2 : drop at s ≡ line parent_word d ++ t = e ∙ append_assoc (line parent_word d) (parents_bytes ds) r in
    let p : parent_at h s at ≡ true = stands h s at d t f.0 e2 in
    let k = parent_fits h s at p in
    let long : at + length (line parent_word d) ≡ at + w = omega (arith, line-length parent_word d, f.0.long) in
    let next : drop (at + w) s ≡ t = rw long at (after s at (line parent_word d) t e2) in
    let g = parents_stand ds h s (at + w) (n + 1) r f.1 next ends (omega arith) in
    let x : at + 6 + 1 ≡ at + 7 = omega arith in
    let y : at + 7 + length d ≡ at + 7 + 2 * h = omega (arith, f.0.long) in
    let id : id_named h s (at + 7) ≡ d = rw (x, y) at (value-part s at parent_word d t e2) in
    let z : at + w + length ds * w ≡ at + suc (length ds) * w = rw (suc-mul (length ds) w) (omega arith) in
    record {
      counted = parents-more h s at n (omega arith) p ∙ ap suc g.counted;
      named_are = rw (id, g.named_are);
      rest = rw z at g.rest;
    }
