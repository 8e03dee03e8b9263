-- No refusal has the verdict "done". Assumes nothing.
use Prim.Native.Nat.{ℕ, suc, ◌+◌, ◌*◌, max}
use mathlib.Core.Path.{◌≡◌, ap}
use mathlib.Core.Bool.{Bool, true, false, ◌&&◌}
use mathlib.Core.List.{List}
use native.Mathlib.Omega.{arith}
use lib.ListN.{length, get_or}
use lib.Dec.{eqb, leb}
use Rattle.ground.specs.Basics.{pick, part}
use Rattle.ground.specs.Verdict.{verdict, fine, id_length, size_gate, gate_of, most_bytes, most_records}
use Rattle.ground.specs.declared.Verdict.{Verdict}
use Rattle.actor.specs.Actor.{is_actor}
use Rattle.header.specs.Words.{tree_word, author_word, committer_word}
use Rattle.commit_line.specs.Line.{id_at, line_at}
use Rattle.commit_fields.specs.Parents.{parent_count}
use Rattle.commit_fields.specs.Headers.{heads, tally}
use Rattle.commit_fields.specs.Fields.{refusal, actor_of, actor_at, encoding_at, found_of, blank_of, ending_of, with_committer, with_author, people_of, fields_of}
use Rattle.commit_fields.specs.Outcome.{room_of, gated_by, outcome_of}
use Rattle.commit_fields.specs.declared.Encoding.{Encoding}
use Rattle.commit_fields.specs.declared.HeaderCount.{HeaderCount}
use Rattle.commit_fields.specs.declared.Found.{Found}
use Rattle.commit_fields.specs.declared.Refusal.{Refusal}
use Rattle.std.specs.Prelude.{Err, None, Ok, Option, Result, Some, ⊤}

-- a verdict other than "done"
abbrev pub Bad : Verdict → Type 0
Bad v = v ≡ fine → ⊥

-- any of the table's numbers but 0
number-bad : (n p : ℕ) → Bad (verdict (suc n) p)
number-bad n p e = omega (arith, ap (λ (v : Verdict). v.number) e)

abbrev BadGate : Result ⊤ Verdict → Type 0
BadGate (Ok tt) = Unit {0}
BadGate (Err v) = Bad v

abbrev BadPerson : Result (ℕ × ℕ) Refusal → Type 0
BadPerson (Ok (a, e)) = Unit {0}
BadPerson (Err r) = Bad r.verdict

abbrev pub BadOutcome : Result Found Refusal → Type 0
BadOutcome (Ok f) = Unit {0}
BadOutcome (Err r) = Bad r.verdict

gate_bad : (h bytes records : ℕ) → BadGate (gate_of h bytes records)
unfolding gate_of size_gate
gate_bad h bytes records = by (id_length h) (leb bytes most_bytes) (leb records most_records)
  where
    by : (a b c : Bool) → BadGate (pick a (pick (b && c) (Ok tt) (Err (verdict 2 0))) (Err (verdict 1 0)))
    by true true true = tt
    by true true false = number-bad 1 0
    by true false c = number-bad 1 0
    by false b c = number-bad 0 0

person_bad : (s : List ℕ) (at : ℕ) (w : List ℕ) (field : ℕ) → BadPerson (actor_at s at w field)
unfolding actor_at actor_of
person_bad s at w field = by (line_at w s at)
  where
    by : (l : Option (ℕ × ℕ)) → BadPerson (actor_of s at field l)
    by None = number-bad 10 at
    by (Some (a, e)) = go (is_actor (part a e s))
      where
        go : (b : Bool) → BadPerson (pick b (Ok (a, e)) (Err (refusal 12 at 0)))
        go true = tt
        go false = number-bad 11 at

ending-bad : (s : List ℕ) (n a e b f : ℕ) → BadOutcome (ending_of s n a e b f)
unfolding ending_of blank_of
ending-bad s n a e b f = by (encoding_at s (f + 1)) (tally 0 (heads s (encoding_at s (f + 1)).next))
  where
    by : (enc : Encoding) (k : HeaderCount) → BadOutcome (blank_of s n a e b f enc k)
    by enc k = go (eqb (get_or s k.end 0) 10)
      where
        go : (t : Bool) → BadOutcome (pick t (Ok (found_of s n a e b f enc k)) (Err (refusal 11 k.end 4)))
        go true = tt
        go false = number-bad 10 k.end

fields-bad : (s : List ℕ) (h : ℕ) → BadOutcome (fields_of s h)
unfolding fields_of people_of with_author with_committer
fields-bad s h = by-tree (id_at tree_word h s 0)
  where
    by-committer : (n a e : ℕ) (p : Result (ℕ × ℕ) Refusal) → BadPerson p → BadOutcome (with_committer s n a e p)
    by-committer n a e (Err r) b = b
    by-committer n a e (Ok (c, f)) b = ending-bad s n a e c f

    by-author : (n : ℕ) (p : Result (ℕ × ℕ) Refusal) → BadPerson p → BadOutcome (with_author s n p)
    by-author n (Err r) b = b
    by-author n (Ok (a, e)) b = by-committer n a e (actor_at s (e + 1) committer_word 3) (person_bad s (e + 1) committer_word 3)

    by-tree : (t : Bool)
        → BadOutcome (pick t (people_of s (parent_count h s (6 + 2 * h)) (6 + 2 * h + parent_count h s (6 + 2 * h) * (8 + 2 * h))) (Err (refusal 11 0 1)))
    by-tree true =
        let p = 6 + 2 * h + parent_count h s (6 + 2 * h) * (8 + 2 * h) in
        by-author (parent_count h s (6 + 2 * h)) (actor_at s p author_word 2) (person_bad s p author_word 2)
    by-tree false = number-bad 10 0

-- a refused reading is not "done"
pub outcome_bad : (s : List ℕ) (h np nh : ℕ) → BadOutcome (outcome_of s h np nh)
unfolding outcome_of gated_by room_of
outcome_bad s h np nh = by (gate_of h (length s) (max np nh)) (gate_bad h (length s) (max np nh)) (fields_of s h) (fields-bad s h)
  where
    by : (g : Result ⊤ Verdict) → BadGate g → (o : Result Found Refusal) → BadOutcome o → BadOutcome (gated_by g (room_of np nh o))
    by (Err v) b o c = b
    by (Ok tt) b (Err r) c = c
    by (Ok tt) b (Ok f) c = go (leb f.parents np) (leb f.headers nh)
      where
        go : (i j : Bool) → BadOutcome (pick i (pick j (Ok f) (Err (refusal 4 f.headers 0))) (Err (refusal 4 f.parents 0)))
        go true true = tt
        go true false = number-bad 3 f.headers
        go false j = number-bad 3 f.parents
