-- The commit that was read, handed over for writing: the parts of the answer and the fronts of the lent lists name it (`fronts_name`),
-- so that an accepted commit with its ids in lower case is written as itself (`read_written`). Assumes nothing.
use Prim.Native.Nat.{ℕ, zero, suc, ◌+◌, ◌*◌, ◌/◌, ◌≤◌}
use mathlib.Core.Path.{◌≡◌, refl, ap, sym, ◌∙◌}
use mathlib.Core.List.{List}
use native.Mathlib.Omega.{arith}
use lib.ListN.{length, take, drop, length-append}
use lib.Seq.{get_or-take, length-take-le}
use Rattle.ground.specs.Verdict.{fine}
use Rattle.header.specs.Record.{width, header_at}
use Rattle.header.proofs.Laws.{header_is}
use Rattle.header.specs.declared.HeaderRecord.{HeaderRecord}
use Rattle.commit_fields.specs.Headers.{heads, records_of, flats}
use Rattle.commit_read.specs.Read.{commit_outcome, commit_answer, commit_parents, commit_headers, answer_in, headers_in}
use Rattle.commit_fields.proofs.Laws.{outcome_fits, tally-count, flats-length}
use Rattle.grammar.specs.Named.{commit_of, records_from}
use Rattle.commit_grammar.specs.Named.{named}
use Rattle.commit_grammar.proofs.Refusals.{BadOutcome, outcome_bad}
use Rattle.commit_check.specs.Check.{headers_of}
use Rattle.commit_write.specs.Written.{lower_hex}
use Rattle.commit_write.specs.Write.{commit_named, parts_written}
use Rattle.commit_round.specs.Round.{LowerIds}
use Rattle.commit_round.specs.Claims.{parents_front, headers_front}
use Rattle.commit_round.proofs.Rewriting.{read-rewrites}
use Rattle.commit_fields.specs.declared.Found.{Found}
use Rattle.commit_fields.specs.declared.Refusal.{Refusal}
use Rattle.std.specs.Prelude.{Err, Ok, Result}

-- ---- the front of a list of records

front_record : (l : List ℕ) (n i : ℕ) → i * width + width ≤ n → n ≤ length l → header_at (take n l) i ≡ header_at l i
front_record l n i p q =
    let m = length-take-le n l q in
    header_is (take n l) i (omega (arith, m))
    ∙ rw (
      get_or-take n l (i * width) 0 (omega arith),
      get_or-take n l (i * width + 1) 0 (omega arith),
      get_or-take n l (i * width + 2) 0 (omega arith),
      get_or-take n l (i * width + 3) 0 (omega arith),
      get_or-take n l (i * width + 4) 0 (omega arith),
    ) (sym (header_is l i (omega arith)))

front_from : (l : List ℕ) (n i k : ℕ) → (i + k) * width ≤ n → n ≤ length l → records_from i k (take n l) ≡ records_from i k l
unfolding records_from
front_from l n i zero p q = refl
front_from l n i (suc k) p q = rw (front_record l n i (omega arith) q, front_from l n (i + 1) k (omega arith) q)

pub front_records : (l : List ℕ) (k : ℕ) → k * width ≤ length l → headers_of (take (k * width) l) ≡ records_from 0 k l
front_records l k p =
    let z : length (take (k * width) l) / width ≡ k = rw (length-take-le (k * width) l p) (omega arith) in
    rw z (front_from l (k * width) 0 k (omega arith) p)

-- ---- what was read

-- the records that were stored are there
pub headers-there : (s : List ℕ) (h : ℕ) (ps hs : List ℕ) → (commit_answer s h ps hs).verdict ≡ fine
    → (commit_answer s h ps hs).headers * width ≤ length (commit_headers s h ps hs)
unfolding answer_in headers_in
headers-there s h ps hs v = by (commit_outcome s h ps hs) refl (outcome_bad s h (length ps) (length hs / width)) v
  where
    by : (o : Result Found Refusal) → commit_outcome s h ps hs ≡ o → BadOutcome o → (answer_in o).verdict ≡ fine → (answer_in o).headers * width ≤ length (headers_in s hs o)
    by (Err r) q b v = absurd (b v)
    by (Ok x) q b v =
        let f = outcome_fits s h (length ps) (length hs / width) x q in
        let l = records_of (heads s x.first) in
        let n : x.headers ≡ length l = f.headers_are ∙ tally-count 0 (heads s x.first) ∙ omega arith in
        omega (arith, n, flats-length l, length-append (flats l) (drop (x.headers * width) hs))

module _ (s : List ℕ) (h : ℕ) (ps hs : List ℕ) (v : (commit_answer s h ps hs).verdict ≡ fine) where
  pub fronts_name : commit_named h s (commit_answer s h ps hs).parts (parents_front s h ps hs) (headers_front s h ps hs)
      ≡ named h s (commit_answer s h ps hs) (commit_parents s h ps hs) (commit_headers s h ps hs)
  fronts_name =
      ap (λ (xs : List HeaderRecord). commit_of h s (commit_answer s h ps hs).parts (parents_front s h ps hs) xs)
      (front_records (commit_headers s h ps hs) (commit_answer s h ps hs).headers (headers-there s h ps hs v))

  -- an accepted commit with its ids in lower case is written as itself
  pub read_written : lower_hex (commit_named h s (commit_answer s h ps hs).parts (parents_front s h ps hs) (headers_front s h ps hs)).tree ≡ (commit_named h s (commit_answer s h ps hs).parts (parents_front s h ps hs) (headers_front s h ps hs)).tree
      → LowerIds (commit_named h s (commit_answer s h ps hs).parts (parents_front s h ps hs) (headers_front s h ps hs)).parents
      → parts_written h s (commit_answer s h ps hs).parts (parents_front s h ps hs) (headers_front s h ps hs) ≡ s
  read_written t l = read-rewrites s h ps hs v (commit_named h s (commit_answer s h ps hs).parts (parents_front s h ps hs) (headers_front s h ps hs)) fronts_name t l
