-- The places of the calls on commits are where they are said to be: by every way through the definitions. Assumes nothing.
use Prim.Native.Nat.{ℕ, ◌+◌, ◌/◌, ◌<◌}
use native.Mathlib.Omega.{arith}
use mathlib.Core.Path.{◌≡◌, sym, subst}
use mathlib.Core.List.{List}
use mathlib.Core.Logic.{◌⊎◌}
use lib.ListN.{length, length-append, length-map}
use Rattle.ground.specs.declared.Answer.{Answer}
use Rattle.header.specs.Record as header
use Rattle.header.specs.declared.HeaderRecord.{HeaderRecord}
use Rattle.header.specs.declared.CommitParts.{CommitParts}
use Rattle.unfold.specs.Unfold.{answer_of, unfold_answer}
use Rattle.commit_read.specs.Read.{answer_in, commit_answer}
use Rattle.commit_read.specs.declared.CommitRead.{CommitRead}
use Rattle.commit_check.specs.Check.{headers_of, tests}
use Rattle.commit_check.proofs.Laws.{records-length}
use Rattle.commit_write.specs.Write as writing
use Rattle.commit_calls.proofs.Commits.{each_plan, each_outcome}
use Rattle.commit_calls.proofs.CommitWriting as written
use Rattle.call.proofs.Laws.{never, Indexed, Short, Wrote}
use Rattle.commit_calls.specs.Places.{CommitPlaces}

unfold_place : (s : List ℕ) (x : HeaderRecord) (out : List ℕ) (y : Answer) → y ≡ unfold_answer s x out → Short (length out) y
unfolding answer_of
unfold_place s x out y q = subst (Short (length out)) (sym q) (each_plan (λ p. Short (length out) (answer_of p)) (λ v. never) never never s x (length out)
    (λ n l e. l))

-- more parents, or more headers, than there is room for
abbrev Many : ℕ → ℕ → CommitRead → Type 0
Many parents headers x = x.verdict.number ≡ 4 → (parents < x.verdict.place) ⊎ (headers < x.verdict.place)

commit-place : (s : List ℕ) (h : ℕ) (ps hs : List ℕ) (x : CommitRead) → x ≡ commit_answer s h ps hs → Many (length ps) (length hs / header.width) x
unfolding answer_in
commit-place s h ps hs x q =
    subst (Many (length ps) (length hs / header.width)) (sym q)
    (each_outcome (λ o. Many (length ps) (length hs / header.width) (answer_in o)) (λ f z. absurd (omega arith)) (λ z. absurd (omega arith)) (λ z. absurd
    (omega arith))
    (λ at k z. absurd (omega arith)) (λ at z. absurd (omega arith)) s h (length ps) (length hs / header.width) (λ n l z. l))

-- a commit's records: tree, parents, author, committer, encoding, headers, message
many-tests : (h : ℕ) (bytes : List ℕ) (p : CommitParts) (parents headers : List ℕ)
    → length (tests h bytes p parents (headers_of headers)) ≡ length parents + length headers / header.width + 5
many-tests h bytes p parents headers = simp (length-append, length-map, records-length) (omega arith)

module _ (h : ℕ) (bytes : List ℕ) (p : CommitParts) (parents headers : List ℕ) where
  abbrev most : ℕ
  most = length parents + length headers / header.width + 5

  below : (i : ℕ) → i < length (tests h bytes p parents (headers_of headers)) → i < most
  below i l = omega (arith, many-tests h bytes p parents headers)

  commit-size-place : (x : Answer) → x ≡ writing.commit_size h bytes p parents headers → Indexed most x
  commit-size-place x q = subst (Indexed most) (sym q) (written.each-measured (Indexed most) (λ n. never) never never h bytes p parents headers
      (λ i l e. below i l) 0)

  commit-write-place : (room : ℕ) (x : Answer) → x ≡ writing.commit_answer h bytes p parents headers room → Wrote most room x
  commit-write-place room x q =
      subst (Wrote most room) (sym q)
      (written.each-written (Wrote most room) (λ n. (never, never)) (never, never) (never, never) h bytes p parents headers (λ i l. ((λ e. below i l), never))
      (never, never) (never, never) room (λ n l. (never, (λ e. l))))

pub commit-places : CommitPlaces
commit-places = record {
  unfold_value = λ c. unfold_place _ _ c.given.args.1.1.0.now _ c.meets.0;
  read_commit = λ c. commit-place _ _ c.given.args.1.1.0.now c.given.args.1.1.1.0.now _ c.meets.0;
  commit_size = λ c. commit-size-place _ _ _ _ _ _ c.meets;
  write_commit = λ c. commit-write-place _ _ _ _ _ _ _ c.meets.0;
}
