-- The first demand of unfolding and of reading commits. Assumes nothing.
use Prim.Native.Nat.{ℕ, ◌+◌, ◌<◌}
use mathlib.Core.Path.{◌≡◌, refl, ap}
use mathlib.Core.Bool.{◌&&◌}
use mathlib.Core.List.{List, [], ◌∷◌}
use mathlib.Core.Logic.{◌⊎◌, inl, inr}
use lib.Dec.{eqb}
use lib.ListN.{length, get_or}
use Rattle.ground.specs.Basics.{part}
use Rattle.ground.specs.Verdict.{verdict}
use Rattle.actor.specs.Actor.{is_actor}
use Rattle.header.specs.Words.{tree_word, author_word, committer_word}
use Rattle.commit_line.specs.Line.{id_at, line_at}
use Rattle.header.specs.Record.{well_formed, header_value}
use Rattle.header.specs.declared.HeaderRecord.{HeaderRecord}
use Rattle.unfold.specs.Unfold.{Plan, stores, refuses, has_form, plain_of, room_plan, value_plan, gate_plan, unfold_plan, answer_of, after_of}
use Rattle.commit_fields.specs.Headers.{heads, tally}
use Rattle.commit_fields.specs.Fields.{refusal, actor_of, actor_at, encoding_at, found_of, blank_of, ending_of, with_committer, with_author, people_of, fields_of}
use Rattle.commit_fields.specs.Outcome.{room_of, gated_by, outcome_of}
use Rattle.commit_read.specs.Read.{answer_in, parents_in, headers_in}
use Rattle.commit_fields.specs.declared.Found.{Found}
use Rattle.commit_fields.specs.declared.Encoding.{Encoding}
use Rattle.commit_fields.specs.declared.HeaderCount.{HeaderCount}
use Rattle.call.specs.Call.{none, ◌and◌, Refusal, Fits}
use Rattle.call.specs.Deeds.{of_answer}
use Rattle.commit_calls.specs.Calls.{of_commit}
use Rattle.commit_calls.specs.First.{OfCommits}
use Rattle.call.proofs.Laws.{answers_once, Of, done, zero, wider, two-lists, keeps, keeps-writes, keeps-stores, each-pick, each_within, each-size, each_gate}
use Rattle.std.specs.Prelude.{Err, None, Ok, Option, Result, Some}
use Rattle.commit_fields.specs.declared.Refusal as commit

-- every way to unfold: a value, 2, 10, 8
pub each_plan : (Q : Plan → Type 0) → ((v : List ℕ) → Q (stores v)) → Q (refuses (verdict 2 0)) → Q (refuses (verdict 10 0))
    → (s : List ℕ) (x : HeaderRecord) (room : ℕ) → ((n : ℕ) → room < n → Q (refuses (verdict 8 n))) → Q (unfold_plan s x room)
unfolding unfold_plan gate_plan value_plan room_plan
each_plan Q value two ten s x room eight =
    each-size (λ g. Q (gate_plan g (value_plan s x room)))
    (each-pick Q (well_formed x (length s) && has_form x.mark (header_value s x)) (room_plan v room) (refuses (verdict 10 0))
    (each_within Q (length v) room (stores v) (refuses (verdict 8 (length v))) (λ p. value v) (eight (length v)))
    ten)
    two _ 0
  where
    v : List ℕ
    v = plain_of x.mark (header_value s x)

pub plan_kept : (out : List ℕ) (p : Plan) → Refusal (answer_of p).verdict → after_of out p ≡ out
unfolding answer_of after_of
plan_kept out (stores v) z = absurd (z refl)
plan_kept out (refuses v) z = refl

-- every way to read an author's or committer's line: its value, 11, 12
each_person : (Q : Result (ℕ × ℕ) commit.Refusal → Type 0) → ((a e : ℕ) → Q (Ok (a, e))) → (s : List ℕ) (at : ℕ) (word : List ℕ) (field : ℕ)
    → Q (Err (refusal 11 at field)) → Q (Err (refusal 12 at 0)) → Q (actor_at s at word field)
unfolding actor_at actor_of
each_person Q value s at word field eleven twelve = go (line_at word s at)
  where
    go : (l : Option (ℕ × ℕ)) → Q (actor_of s at field l)
    go None = eleven
    go (Some (a, e)) = each-pick Q (is_actor (part a e s)) (Ok (a, e)) (Err (refusal 12 at 0)) (value a e) twelve

-- every way to read a commit: its parts, 1, 2, 11, 12, 4
module _ (Q : Result Found commit.Refusal → Type 0) (whole : (f : Found) → Q (Ok f)) (eleven : (at field : ℕ) → Q (Err (refusal 11 at field)))
    (twelve : (at : ℕ) → Q (Err (refusal 12 at 0))) (s : List ℕ) (h : ℕ) where
  each-people : (n at : ℕ) → Q (people_of s n at)
  unfolding people_of with_author with_committer ending_of blank_of
  each-people n at =
      each_person (λ x. Q (with_author s n x))
      (λ a e. each_person (λ x. Q (with_committer s n a e x)) (λ b f. blank a e b f (encoding_at s (f + 1)) (tally 0 (heads s (encoding_at s (f + 1)).next))) s (e + 1) committer_word 3 (eleven _ _) (twelve _))
      s at author_word 2 (eleven _ _) (twelve _)
    where
      blank : (a e b f : ℕ) (enc : Encoding) (k : HeaderCount) → Q (blank_of s n a e b f enc k)
      blank a e b f enc k = each-pick Q (eqb (get_or s k.end 0) 10) (Ok (found_of s n a e b f enc k)) (Err (refusal 11 k.end 4)) (whole _) (eleven _ _)

  each-fields : Q (fields_of s h)
  unfolding fields_of
  each-fields = each-pick Q (id_at tree_word h s 0) _ (Err (refusal 11 0 1)) (each-people _ _) (eleven 0 1)

pub each_outcome : (Q : Result Found commit.Refusal → Type 0) → ((f : Found) → Q (Ok f)) → Q (Err (refusal 1 0 0)) → Q (Err (refusal 2 0 0))
    → ((at field : ℕ) → Q (Err (refusal 11 at field))) → ((at : ℕ) → Q (Err (refusal 12 at 0)))
    → (s : List ℕ) (h np nh : ℕ) → ((n : ℕ) → (np < n) ⊎ (nh < n) → Q (Err (refusal 4 n 0))) → Q (outcome_of s h np nh)
unfolding outcome_of gated_by room_of
each_outcome Q whole one two eleven twelve s h np nh four =
    each_gate (λ g. Q (gated_by g (room_of np nh (fields_of s h)))) (each-fields (λ o. Q (room_of np nh o)) room eleven twelve s h) one two h _ _
  where
    room : (f : Found) → Q (room_of np nh (Ok f))
    room f =
        each_within Q f.parents np _ (Err (refusal 4 f.parents 0))
        (λ p. each_within Q f.headers nh (Ok f) (Err (refusal 4 f.headers 0)) (λ q. whole f) (λ l. four f.headers (inr l))) (λ l. four f.parents (inl l))

pub outcome_kept : (s : List ℕ) (h : ℕ) (ps hs : List ℕ) (o : Result Found commit.Refusal) → Refusal (answer_in o).verdict → parents_in h ps o ∷ headers_in s hs o ∷ [] ≡ ps ∷ hs ∷ []
unfolding answer_in parents_in headers_in
outcome_kept s h ps hs (Ok f) z = absurd (z refl)
outcome_kept s h ps hs (Err r) z = refl

pub unfold_fits : (s : List ℕ) (x : HeaderRecord) (room : ℕ) → Fits (0 ∷ 2 ∷ 8 ∷ 10 ∷ []) (of_answer (answer_of (unfold_plan s x room)))
unfolding answer_of
unfold_fits s x room = each_plan (Of _ (λ p. of_answer (answer_of p))) (λ v. done refl refl) (zero refl refl) (zero refl refl) s x room (λ n l. zero refl refl)

pub commit-fits : (s : List ℕ) (h np nh : ℕ) → Fits (0 ∷ 1 ∷ 2 ∷ 4 ∷ 11 ∷ 12 ∷ []) (of_commit (answer_in (outcome_of s h np nh)))
unfolding answer_in
commit-fits s h np nh =
    each_outcome (Of _ (λ o. of_commit (answer_in o))) (λ f. done refl refl) (zero refl refl) (zero refl refl) (λ at k. zero refl refl) (λ at. zero refl refl)
    s h np nh (λ n l. zero refl refl)

pub of_commits : OfCommits
of_commits = record {
  unfold_value = keeps-writes _ (λ i. tt) _ _ _ _ _ _ (λ i o m. m) (λ i. wider (unfold_fits _ _ _) refl) (λ i z. plan_kept _ _ z);
  read_commit = keeps _ _ (λ i. tt) (record {
    answers = λ i. _;
    hands = λ i. [];
    leaves = λ i. _;
    says = λ i. _;
    told = λ i o m. (m.0, refl, two-lists m.1.0 m.1.1, ap of_commit m.0);
  }) (λ i. wider (commit-fits _ _ _ _) refl) (λ i z. outcome_kept _ _ _ _ _ z);
  put_header = keeps-stores _ (λ i. tt) _ _ _ _ (λ i o m. (refl, m));
  put_byte = keeps-stores _ (λ i. tt) _ _ _ _ (λ i o m. (refl, m));
  put_value = keeps-stores _ (λ i. tt) _ _ _ _ (λ i o m. m);
  commit_questions =
      ((λ i. tt), answers_once _ _ (λ i o m. m)) and ((λ i. tt), answers_once _ _ (λ i o m. m)) and ((λ i. tt), answers_once _ _ (λ i o m. m)) and ((λ i. tt), answers_once _ _ (λ i o m. m)) and
      ((λ i. tt), answers_once _ _ (λ i o m. m)) and ((λ i. tt), answers_once _ _ (λ i o m. m)) and ((λ i. tt), answers_once _ _ (λ i o m. m)) and
      ((λ i. tt), answers_once _ _ (λ i o m. m)) and ((λ i. tt), answers_once _ _ (λ i o m. m)) and none;
}
