-- Reading a commit, and the grammar: what is accepted is a commit and its bytes, and every commit is accepted as itself. Assumes nothing.
use Prim.Native.Nat.{ℕ, ◌+◌, ◌*◌, ◌/◌, max}
use mathlib.Core.Path.{◌≡◌, refl, ap, sym, ◌∙◌}
use mathlib.Core.List.{List, [], ◌∷◌, ◌++◌, append_assoc}
use native.Mathlib.Omega.{arith}
use lib.ListN.{length, take, drop, length-append, length-map}
use lib.Seq.{take_at, get_or-append-add}
use Rattle.ground.specs.Verdict.{fine}
use Rattle.ground.proofs.Laws.{gate_fine}
use Rattle.header.specs.Record.{width, flat, header_at}
use Rattle.header.specs.declared.HeaderRecord.{HeaderRecord}
use Rattle.header.proofs.Laws.{header_is}
use Rattle.commit_fields.specs.Parents.{parent_starts}
use Rattle.commit_fields.specs.Headers.{heads, records_of, flats}
use Rattle.commit_read.specs.Read.{commit_outcome, commit_answer, commit_parents, commit_headers, answer_in, parents_in, headers_in}
use Rattle.commit_fields.specs.declared.Found.{Found}
use Rattle.commit_fields.proofs.Laws.{starts_length, outcome_inverse, outcome_whole, outcome_fits, tally-count}
use Rattle.grammar.specs.Grammar.{Commit, commit_bytes, CommitForm}
use Rattle.grammar.specs.Named.{header_named, records_from}
use Rattle.commit_grammar.specs.Named.{named}
use Rattle.commit_grammar.specs.Claims.{ReadIsCommit, CommitIsRead}
use Rattle.commit_grammar.proofs.Fields.{found_commit, found-is-commit, commit-is-found}
use Rattle.commit_grammar.proofs.Refusals.{BadOutcome, outcome_bad}
use Rattle.commit_fields.specs.declared.Refusal.{Refusal}
use Rattle.std.specs.Prelude.{Err, Ok, Result}

-- ---- the lent lists name what was found

record-at : (pre : List ℕ) (i : ℕ) → length pre ≡ i * width → (x : HeaderRecord) (rest : List ℕ) → header_at (pre ++ (flat x ++ rest)) i ≡ x
record-at pre i q x rest =
    let l = flat x ++ rest in
    let n = length-append pre l in
    let z : i * width ≡ length pre + 0 = omega (arith, q) in
    let z1 : i * width + 1 ≡ length pre + 1 = omega (arith, q) in
    let z2 : i * width + 2 ≡ length pre + 2 = omega (arith, q) in
    let z3 : i * width + 3 ≡ length pre + 3 = omega (arith, q) in
    let z4 : i * width + 4 ≡ length pre + 4 = omega (arith, q) in
    header_is (pre ++ l) i (omega (arith, n, q))
    ∙ rw (
      z1,
      z2,
      z3,
      z4,
      z,
      get_or-append-add pre l 1 0,
      get_or-append-add pre l 2 0,
      get_or-append-add pre l 3 0,
      get_or-append-add pre l 4 0,
      get_or-append-add pre l 0 0,
    )

pub records_back : (pre : List ℕ) (i : ℕ) → length pre ≡ i * width → (l : List HeaderRecord) (rest : List ℕ) → records_from i (length l)
    (pre ++ (flats l ++ rest)) ≡ l
unfolding records_from flats
records_back pre i q [] rest = refl
records_back pre i q (x ∷ l) rest =
    let a : (flat x ++ flats l) ++ rest ≡ flat x ++ (flats l ++ rest) = append_assoc (flat x) (flats l) rest in
    let b : pre ++ (flat x ++ (flats l ++ rest)) ≡ (pre ++ flat x) ++ (flats l ++ rest) = sym (append_assoc pre (flat x) (flats l ++ rest)) in
    let m : length (pre ++ flat x) ≡ (i + 1) * width = omega (arith, length-append pre (flat x), q) in
    rw (a, record-at pre i q x (flats l ++ rest)) (ap (λ (t : List HeaderRecord). x ∷ t)
    (ap (records_from (i + 1) (length l)) b ∙ records_back (pre ++ flat x) (i + 1) m l rest))

-- what the answer and the lent lists name is what was found
named-found : (s : List ℕ) (h : ℕ) (ps hs : List ℕ) (o : Result Found Refusal) (x : Found) → o ≡ Ok x → x.headers ≡ length (records_of (heads s x.first))
    → named h s (answer_in o) (parents_in h ps o) (headers_in s hs o) ≡ found_commit h s x
unfolding answer_in parents_in headers_in
named-found s h ps hs o x q n =
    let starts : take x.parents (parent_starts x.parents h (6 + 2 * h) ++ drop x.parents ps) ≡ parent_starts x.parents h (6 + 2 * h) =
    take_at (parent_starts x.parents h (6 + 2 * h)) (drop x.parents ps) x.parents (starts_length x.parents h (6 + 2 * h)) in
    let rest = drop (x.headers * width) hs in
    let l = records_of (heads s x.first) in
    let records : records_from 0 x.headers (flats l ++ rest) ≡ l = ap (λ (k : ℕ). records_from 0 k (flats l ++ rest)) n ∙ records_back [] 0 refl l rest in
    rw (q, starts, records)

-- ---- the theorems

pub read_is_commit : ReadIsCommit
unfolding answer_in
read_is_commit s h ps hs v = by (commit_outcome s h ps hs) refl (outcome_bad s h (length ps) (length hs / width)) v
  where
    by : (o : Result Found Refusal) → commit_outcome s h ps hs ≡ o → BadOutcome o → (answer_in o).verdict ≡ fine
        → (s ≡ commit_bytes (named h s (commit_answer s h ps hs) (commit_parents s h ps hs) (commit_headers s h ps hs)))
        × CommitForm h (named h s (commit_answer s h ps hs) (commit_parents s h ps hs) (commit_headers s h ps hs))
    by (Err r) q b v = absurd (b v)
    by (Ok x) q b v =
        let f = outcome_fits s h (length ps) (length hs / width) x q in
        let n : x.headers ≡ length (records_of (heads s x.first)) = f.headers_are ∙ tally-count 0 (heads s x.first) ∙ omega arith in
        rw (named-found s h ps hs (commit_outcome s h ps hs) x q n) (found-is-commit s h x (outcome_inverse s h (length ps) (length hs / width) x q).1)

pub commit_is_read : CommitIsRead
unfolding answer_in
commit_is_read h c ps hs k id bytes np nh rp rh =
    let s = commit_bytes c in
    let nr = length hs / width in
    let f = commit-is-found h s c k refl in
    let x = f.found in
    let hc : x.headers ≡ length c.headers =
    f.headers_are ∙ sym (length-map (records_of (heads s x.first)) (header_named s)) ∙ ap (λ (d : Commit). length d.headers) f.named_is in
    let g = gate_fine h (length s) (max (length ps) nr) id bytes (omega arith) in
    let q : commit_outcome s h ps hs ≡ Ok x = outcome_whole s h (length ps) nr g x f.read (omega (arith, f.parents_are)) (omega (arith, hc)) in
    (rw q, rw q f.parents_are, rw q hc, named-found s h ps hs (commit_outcome s h ps hs) x q f.headers_are ∙ f.named_is)
