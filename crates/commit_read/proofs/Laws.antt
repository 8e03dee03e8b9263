-- Laws of the lent lists and of the answer, one for each way through a definition. Assumes nothing.
use Prim.Native.Nat.{ℕ, zero, suc, ◌+◌, ◌-◌, ◌*◌, ◌/◌, ◌≤◌}
use mathlib.Core.Path.{◌≡◌, refl, ap, sym, ◌∙◌}
use mathlib.Core.List.{List, ◌++◌}
use native.Mathlib.Nat.{suc-mul}
use native.Mathlib.Numerals.{add-one}
use native.Mathlib.Omega.{arith}
use lib.ListN.{length, drop, set}
use lib.Seq.{sets, sets-eq, length-sets}
use Rattle.header.specs.Record.{width, flat, put_header}
use Rattle.header.specs.declared.HeaderRecord.{HeaderRecord}
use Rattle.header.proofs.Laws.{put_is}
use Rattle.commit_fields.specs.Parents.{parent_starts}
use Rattle.commit_fields.specs.Headers.{Heads, ended, header, heads, tally, records_of, flats}
use Rattle.commit_read.specs.Read.{refused_read, done_read, answer_in, parents_in, headers_in}
use Rattle.commit_fields.specs.declared.Refusal.{Refusal}
use Rattle.commit_fields.specs.declared.Found.{Found}
use Rattle.commit_read.specs.Stored.{stored, heads_stored}
use Rattle.commit_fields.proofs.Laws.{starts_length, tally-count, flats-length}
use Rattle.std.specs.Prelude.{Err, Ok, Result}

-- ---- the parents, stored

pub stored-none : (h : ℕ) (l : List ℕ) (i at n : ℕ) → n ≡ 0 → stored h l i at n ≡ l
unfolding stored
stored-none h l i at n e = rw e

pub stored_more : (h : ℕ) (l : List ℕ) (i at n : ℕ) → (n ≡ 0 → ⊥) → stored h l i at n ≡ stored h (set l i (at + 7)) (i + 1) (at + (8 + 2 * h)) (n - 1)
unfolding stored
stored_more h l i at zero e = absurd (e refl)
stored_more h l i at (suc n) e = let z : n ≡ suc n - 1 = omega arith in ap (stored h (set l i (at + 7)) (i + 1) (at + (8 + 2 * h))) z

-- one step of n less
pub one_less : (at n w : ℕ) → (n ≡ 0 → ⊥) → at + n * w ≡ at + w + (n - 1) * w
one_less at zero w e = absurd (e refl)
one_less at (suc n) w e = let z : suc n - 1 ≡ n = omega arith in rw (z, suc-mul n w) (omega arith)

-- storing them one by one stores the list of their starts
pub stored_all : (h : ℕ) (l : List ℕ) (at n : ℕ) → n ≤ length l → stored h l 0 at n ≡ parent_starts n h at ++ drop n l
unfolding stored parent_starts
stored_all h l at n k =
    let z : 0 + length (parent_starts n h at) ≡ n = omega (arith, starts_length n h at) in
    as_sets l 0 at n ∙ sets-eq (parent_starts n h at) l 0 (omega arith) ∙ ap (λ (j : ℕ). parent_starts n h at ++ drop j l) z
  where
    as_sets : (l : List ℕ) (i at n : ℕ) → stored h l i at n ≡ sets l i (parent_starts n h at)
    as_sets l i at zero = refl
    as_sets l i at (suc n) = as_sets (set l i (at + 7)) (i + 1) (at + (8 + 2 * h)) n ∙ rw (add-one i)

-- ---- the extra headers, stored

pub written-end : (rec : List ℕ) (n : ℕ) {at : ℕ} (l : Heads) → l ≡ ended at → heads_stored rec n l ≡ rec
unfolding heads_stored
written-end rec n l q = rw q

pub written-more : (rec new : List ℕ) (n : ℕ) {x : HeaderRecord} (l m : Heads) → l ≡ header x m → new ≡ put_header rec n x
    → heads_stored rec n l ≡ heads_stored new (n + 1) m
unfolding heads_stored
written-more rec new n l m q p = rw (q, p)

-- where there is room, storing the records one by one stores their flat numbers
written-sets : (rec : List ℕ) (n : ℕ) (l : Heads) → n + length (records_of l) ≤ length rec / width → heads_stored rec n l ≡ sets rec (n * width) (flats (records_of l))
unfolding heads_stored records_of flats
written-sets rec n (ended at) k = refl
written-sets rec n (header x l) k =
    let e : put_header rec n x ≡ sets rec (n * width) (flat x) = put_is rec n x (omega arith) in
    let m : length (put_header rec n x) ≡ length rec = ap length e ∙ length-sets rec (n * width) (flat x) in
    let z : (n + 1) * width ≡ suc (suc (suc (suc (suc (n * width))))) = omega arith in
    written-sets (put_header rec n x) (n + 1) l (rw m (omega arith)) ∙ rw (e, z)

pub written_all : (rec : List ℕ) (l : Heads) (n : ℕ) → n ≡ length (records_of l) → n ≤ length rec / width
    → heads_stored rec 0 l ≡ flats (records_of l) ++ drop (n * width) rec
written_all rec l n q k =
    let z : 0 + length (flats (records_of l)) ≡ n * width = omega (arith, flats-length (records_of l)) in
    written-sets rec 0 l (omega arith) ∙ sets-eq (flats (records_of l)) rec 0 (omega arith) ∙ ap (λ (j : ℕ). flats (records_of l) ++ drop j rec) z

-- ---- the three that the call promises

module _ (o : Result Found Refusal) where
  pub answer_fails : (r : Refusal) → o ≡ Err r → answer_in o ≡ refused_read r
  unfolding answer_in
  answer_fails r q = rw q

  pub answer-whole : (f : Found) → o ≡ Ok f → answer_in o ≡ done_read f
  unfolding answer_in
  answer-whole f q = rw q

  pub parents-kept : (h : ℕ) (l : List ℕ) (r : Refusal) → o ≡ Err r → parents_in h l o ≡ l
  unfolding parents_in
  parents-kept h l r q = rw q

  pub headers-kept : (s l : List ℕ) (r : Refusal) → o ≡ Err r → headers_in s l o ≡ l
  unfolding headers_in
  headers-kept s l r q = rw q

  pub parents-done : (h : ℕ) (l : List ℕ) (f : Found) → o ≡ Ok f → f.parents ≤ length l → parents_in h l o ≡ stored h l 0 (6 + 2 * h) f.parents
  unfolding parents_in
  parents-done h l f q k = rw q (sym (stored_all h l (6 + 2 * h) f.parents k))

  pub headers-done : (s l : List ℕ) (f : Found) → o ≡ Ok f → f.headers ≡ (tally 0 (heads s f.first)).count → f.headers ≤ length l / width
      → headers_in s l o ≡ heads_stored l 0 (heads s f.first)
  unfolding headers_in
  headers-done s l f q e k = rw q (sym (written_all l (heads s f.first) f.headers (omega (arith, e, tally-count 0 (heads s f.first))) k))
