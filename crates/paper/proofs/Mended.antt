-- Mending keeps its promises, whatever outcomes the contract of the call allows: from the theorems of `mending`. Assumes nothing.
use Prim.Native.Nat.{ℕ, ◌≤◌, max}
use native.Mathlib.Omega.{arith}
use mathlib.Core.Path.{◌≡◌, refl, ap, sym, subst, ◌∙◌}
use mathlib.Core.Bool.{Bool, true, false, false≢true}
use mathlib.Core.List.{List, [], ◌∷◌}
use mathlib.Core.Logic.{inr}
use borrow.Author.Tests.{leb-false}
use lib.Dec.{leb}
use lib.ListN.{length, take, drop}
use lib.Seq.{take-append_seam}
use Rattle.ground.specs.Basics.{pick}
use Rattle.ground.specs.Verdict.{verdict, fine, most_records, stored}
use Rattle.ground.specs.declared.Verdict.{Verdict}
use Rattle.ground.proofs.Laws.{stored-done, gate_open}
use Rattle.entry.specs.Record.{many}
use Rattle.entry.specs.Entry.{Entry}
use Rattle.rules.specs.Rules.{git_rules}
use Rattle.reading.specs.Listing.{listing, tally}
use Rattle.reading.proofs.Laws.{answer-done, tally_stops}
use Rattle.strict.specs.Strict.{strictly}
use Rattle.strict.proofs.Laws.{cut-refuses}
use Rattle.one_listing.specs.Demand.{Accepts}
use Rattle.mend.specs.Mend.{fates_of, mended, not_mended, in_room, counted_answer, answer_by, mend_answer}
use Rattle.mend.specs.declared.Mended.{Mended}
use Rattle.mending.specs.Mending.{Done, AllKept}
use Rattle.mending.proofs.Theorem.{mending}
use Rattle.demands.specs.Demand3 as strict
use Rattle.call.specs.Places.{Below, Over, at_entry}
use Rattle.paper.specs.Mended.{Mend, object, id_length, entries, IsDone, list, new, new_listing, Reads, Mends}
use Rattle.call.proofs.Laws.{each_gate}
use Rattle.tree_calls.proofs.Placed.{placed_stops, plain-placed}
use Rattle.demands.proofs.Demand3.{third_demand}
use Rattle.std.specs.Prelude.{Err, Ok, Result, ⊤}

-- what was stored, taken back
pub taken : (v : Verdict) (l lent after : List ℕ) (n : ℕ) → v.number ≡ 0 → n ≡ length l → after ≡ stored v l lent → take n after ≡ l
taken v l lent after n z e q =
    ap (take n) q ∙ ap (λ (k : ℕ). take k (stored v l lent)) e ∙ ap (take (length l)) (stored-done v l lent z) ∙ take-append_seam l (drop (length l) lent)

-- the new object and the list go by the object and the length of ids
same-mended : {h k : ℕ} {s t : List ℕ} → h ≡ k → s ≡ t → mended h s ≡ mended k t
same-mended p q = cc

-- so does what the strict reader accepts
pub same_accepts : (k l h i : ℕ) (s t lent : List ℕ) (es : List Entry) → k ≡ l → h ≡ i → s ≡ t → Accepts (git_rules k) h s lent es → Accepts (git_rules l) i t lent es
same_accepts k l h i s t lent es p q r a =
    subst (λ (x : List ℕ). Accepts (git_rules l) i x lent es) r
    (subst (λ (x : ℕ). Accepts (git_rules l) x s lent es) q (subst (λ (x : ℕ). Accepts (git_rules x) h s lent es) p a))

module _ (c : Mend) (z : IsDone c) where
  abbrev h : ℕ
  h = id_length c

  abbrev s : List ℕ
  s = object c

  abbrev fates : ℕ
  fates = length c.given.args.1.1.0.now

  abbrev room : ℕ
  room = length c.given.args.1.1.1.0.now

  done : Done h s fates room
  done = sym (ap (λ (a : Mended). a.verdict.number) c.meets.0) ∙ z

  numbers : c.came.answer.entries ≡ length (fates_of h s)
  numbers = let n = mending.named h s fates room done in ap (λ (a : Mended). a.entries) c.meets.0 ∙ n.0 ∙ sym n.1

  count : c.came.answer.count ≡ length (mended h s)
  count = ap (λ (a : Mended). a.count) c.meets.0 ∙ (mending.shorter h s fates room done).0

  list-is : list c ≡ fates_of h s
  list-is = taken _ (fates_of h s) _ _ c.came.answer.entries done numbers c.meets.1.0

  new_is : new c ≡ mended h s
  new_is = taken _ (mended h s) _ _ c.came.answer.count done count c.meets.1.1

  each_once : (list c ≡ fates_of h s) × (length (list c) ≡ length (entries c))
  each_once = (list-is, ap (λ (l : List ℕ). length l) list-is ∙ (mending.named h s fates room done).1)

  never_longer : (length (new c) ≡ c.came.answer.count) × (length (new c) ≤ length s)
  never_longer = (
    ap (λ (l : List ℕ). length l) new_is ∙ sym count,
    subst (λ (l : List ℕ). length l ≤ length s) (sym new_is) (mending.shorter h s fates room done).1,
  )

  accepts : (d : strict.Strict) → Reads d c (new c) → length (entries c) ≤ many (length (strict.lent d)) → many (length (strict.lent d)) ≤ most_records
      → strict.OneSet (strict.rule_set d) × Accepts (git_rules (strict.rule_set d)) (strict.id_length d) (strict.object d) (strict.lent d) (new_listing c)
  accepts d r room_enough few =
      let a = mending.accepted h s fates room (strict.lent d) done room_enough few in (
        inr r.rules,
        same_accepts 2 (strict.rule_set d) h (strict.id_length d) (mended h s) (strict.object d) (strict.lent d) (new_listing c) (sym r.rules)
            (sym r.same_id) (sym (r.same_object ∙ new_is)) a,
      )

  unchanged-by : (lent : List ℕ) (es : List Entry) → Accepts (git_rules 2) h s lent es → (new c ≡ s) × AllKept (list c)
  unchanged-by lent es a =
      let n = many (length lent) in
      let d = answer-done (strictly (git_rules 2) h s) h (length s) n n (length es) (cut-refuses (git_rules 2) h s) a.answer in
      let g = gate_open h (length s) n d.0 in
      let u = mending.unchanged h s lent es g.2 a in
      (new_is ∙ u.0, subst AllKept (sym list-is) u.1)

unchanged : (c : Mend) → IsDone c → (d : strict.Strict) → Reads d c (object c) → d.came.answer.verdict.number ≡ 0 → (new c ≡ object c) × AllKept (list c)
unchanged c z d r y =
    let l = third_demand.some_listing d y in
    let a = ((third_demand.the_call d l.0).0 l.1).1 in
    unchanged-by c z (strict.lent d) l.0
    (same_accepts (strict.rule_set d) 2 (strict.id_length d) (id_length c) (strict.object d) (object c) (strict.lent d) l.0 r.rules r.same_id
    r.same_object a)

twice_is_once : (c d : Mend) → IsDone c → IsDone d → object d ≡ new c → id_length d ≡ id_length c → (new d ≡ new c) × AllKept (list d)
twice_is_once c d z y e i =
    let t = mending.twice (id_length c) (object c) _ _ (done c z) in
    let o = e ∙ new_is c z in (
      new_is d y ∙ same-mended i o ∙ t.0 ∙ sym (new_is c z),
      subst AllKept (sym (list-is d y ∙ same_fates i o)) t.1,
    )
  where
    same_fates : {h k : ℕ} {s t : List ℕ} → h ≡ k → s ≡ t → fates_of h s ≡ fates_of k t
    same_fates p q = cc

-- ---- where a refusal points

abbrev Points : ℕ → ℕ → ℕ → Mended → Type 0
Points bytes list room a = Below at_entry bytes a.verdict × Over (4 ∷ []) list a.verdict × Over (8 ∷ []) room a.verdict

never : {A : Type 0} → false ≡ true → A
never e = absurd (false≢true e)

module _ (h : ℕ) (s : List ℕ) (list room : ℕ) where
  counted-points : (c : Result ℕ Verdict) → tally 0 (listing h s) ≡ c → Points (length s) list room (counted_answer h s list room c)
  unfolding counted_answer in_room
  counted-points (Ok n) q = go (leb n list) refl (leb (length (mended h s)) room) refl
    where
      go : (a : Bool) → leb n list ≡ a → (b : Bool) → leb (length (mended h s)) room ≡ b
          → Points (length s) list room (pick a (pick b (record { verdict = fine; count = length (mended h s); entries = n })
          (not_mended (verdict 8 (length (mended h s))))) (not_mended (verdict 4 n)))
      go true p true r = (never, never, never)
      go true p false r = (never, never, λ e. leb-false (length (mended h s)) room r)
      go false p b r = (never, (λ e. leb-false n list p), never)
  counted-points (Err v) q =
      tally_stops (λ w. Points (length s) list room (not_mended w)) 0 (listing h s) v
      (placed_stops (λ w. Points (length s) list room (not_mended w)) (length s) (listing h s)
      (plain-placed (λ w. Points (length s) list room (not_mended w)) (length s) (never, never, never) (λ at k l p. ((λ e. l), never, never))
      h most_records 0 s (omega arith))) q

  mend_points : Points (length s) list room (mend_answer h s list room)
  unfolding mend_answer answer_by
  mend_points =
      each_gate (λ (g : Result ⊤ Verdict). Points (length s) list room (answer_by g (counted_answer h s list room (tally 0 (listing h s)))))
      (counted-points (tally 0 (listing h s)) refl) (never, never, never) (never, never, never) h (max (length s) room) list

points : (c : Mend) → Points (length (object c)) (length c.given.args.1.1.0.now) (length c.given.args.1.1.1.0.now) c.came.answer
points c =
    subst (Points (length (object c)) (length c.given.args.1.1.0.now) (length c.given.args.1.1.1.0.now)) (sym c.meets.0)
    (mend_points (id_length c) (object c) (length c.given.args.1.1.0.now) (length c.given.args.1.1.1.0.now))

pub mends : Mends
mends = record {
  each_once = each_once;
  never_longer = never_longer;
  accepted = λ c z d r room few. (third_demand.the_call d (new_listing c)).1 (accepts c z d r room few);
  names_and_ids = λ c e m. mending.names_and_ids (id_length c) (object c) e m;
  unchanged = unchanged;
  twice_is_once = twice_is_once;
  points = points;
}
