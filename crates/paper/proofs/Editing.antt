-- Edits in turn answer as the table does, whatever outcomes the contracts of the two calls allow: from the theorems of `editing`. Assumes nothing.
use Prim.Native.Nat.{ℕ}
use mathlib.Core.Path.{◌≡◌, refl, ap, sym, subst, ◌∙◌}
use mathlib.Core.Bool.{Bool, true, false}
use mathlib.Core.List.{List, [], ◌∷◌}
use borrow.Author.Tests.{eqb-true, eq-eqb}
use lib.ListN.{length, take}
use Rattle.ground.specs.Basics.{pick}
use Rattle.ground.specs.declared.Answer.{Answer}
use Rattle.edit.specs.Table.{remove_from, none, Table}
use Rattle.editing.specs.Demand.{Written, removes, name_of, table_changed, number_of, given}
use Rattle.editing.proofs.Writing.{one_writing, from_accepted, accepted_again, missing}
use Rattle.editing.proofs.Turns.{done-written, same_put, there_and_back}
use Rattle.call.specs.Call.{Run}
use Rattle.paper.specs.Calls.{put_in_tree, remove_from_tree}
use Rattle.paper.specs.Editing.{Edit, put, remove, object, id_length, rule_set, new_of, Follows, change, answer, output, is_done, left, table_left}
use Rattle.paper.specs.Editing.{InTurn, last_left, last_table, Edits}

-- the output that it is lent, as it was
abbrev lent : Edit → List ℕ
lent (put c) = c.given.args.1.1.1.1.1.1.0.now
lent (remove c) = c.given.args.1.1.1.1.0.now

-- what it gives is what the contract says
number_is : (e : Edit) → (answer e).verdict.number ≡ number_of (rule_set e) (id_length e) (object e) (change e) (length (lent e))
number_is (put c) = ap (λ (a : Answer). a.verdict.number) c.meets.0
number_is (remove c) = ap (λ (a : Answer). a.verdict.number) c.meets.0

given_is : (e : Edit) → take (answer e).count (output e) ≡ given (rule_set e) (id_length e) (object e) (change e) (lent e)
given_is (put c) = both (λ (a : Answer). a.count) c.meets.0 c.meets.1
  where
    both : {a b : Answer} {l m : List ℕ} (f : Answer → ℕ) → a ≡ b → l ≡ m → take (f a) l ≡ take (f b) m
    both f p q = cc
given_is (remove c) = both (λ (a : Answer). a.count) c.meets.0 c.meets.1
  where
    both : {a b : Answer} {l m : List ℕ} (f : Answer → ℕ) → a ≡ b → l ≡ m → take (f a) l ≡ take (f b) m
    both f p q = cc

abbrev Done : (e : Edit) (t : Table) → Written (rule_set e) (id_length e) t (object e) → List ℕ → Type 0
Done e t w s = (v : Written (rule_set e) (id_length e) (table_changed (change e) t) s) × (remove_from (name_of (change e)) v.listing ≡ remove_from (name_of (change e)) w.listing)

gives : (e : Edit) (t : Table) (w : Written (rule_set e) (id_length e) t (object e)) → (answer e).verdict.number ≡ 0 → Done e t w (take (answer e).count (output e))
gives e t w z = subst (Done e t w) (sym (given_is e)) (done-written (rule_set e) (id_length e) t (object e) (change e) (lent e) w (sym (number_is e) ∙ z))

step : (e : Edit) (t : Table) → Written (rule_set e) (id_length e) t (object e) → Written (rule_set e) (id_length e) (table_left e t) (left e)
step e t w = go (is_done e) refl
  where
    go : (v : Bool) → is_done e ≡ v → Written (rule_set e) (id_length e) (pick v (table_changed (change e) t) t) (pick v (take (answer e).count (output e)) (object e))
    go true q = (gives e t w (eqb-true (answer e).verdict.number 0 q)).0
    go false q = w

turns : (k h : ℕ) (t : Table) (s : List ℕ) (es : List Edit) → Written k h t s → InTurn k h s es → Written k h (last_table t es) (last_left s es)
unfolding InTurn last_left last_table
turns k h t s [] w i = w
turns k h t s (e ∷ es) w i = turns k h (table_left e t) (left e) es (back (step e t (forth w))) i.3
  where
    forth : Written k h t s → Written (rule_set e) (id_length e) t (object e)
    forth w =
        subst (λ (x : ℕ). Written x (id_length e) t (object e)) (sym i.2)
        (subst (λ (x : ℕ). Written k x t (object e)) (sym i.1) (subst (λ (x : List ℕ). Written k h t x) (sym i.0) w))

    back : Written (rule_set e) (id_length e) (table_left e t) (left e) → Written k h (table_left e t) (left e)
    back v = subst (λ (x : ℕ). Written x h (table_left e t) (left e)) i.2 (subst (λ (x : ℕ). Written (rule_set e) x (table_left e t) (left e)) i.1 v)

done-left : (e : Edit) (t : Table) (w : Written (rule_set e) (id_length e) t (object e)) → (answer e).verdict.number ≡ 0 → Done e t w (left e)
done-left e t w z =
    subst (Done e t w) (sym (ap (λ (b : Bool). pick b (take (answer e).count (output e)) (object e)) (eq-eqb (answer e).verdict.number 0 z))) (gives e t w z)

-- ---- edits that give the object back

left-done : (e : Edit) → (answer e).verdict.number ≡ 0 → left e ≡ given (rule_set e) (id_length e) (object e) (change e) (lent e)
left-done e z = ap (λ (b : Bool). pick b (take (answer e).count (output e)) (object e)) (eq-eqb (answer e).verdict.number 0 z) ∙ given_is e

same-given : {k l h i : ℕ} {s u n m : List ℕ} (out : List ℕ) → k ≡ l → h ≡ i → s ≡ u → n ≡ m → given k h s (removes n) out ≡ given l i u (removes m) out
same-given out a b c d = cc

same_number : {k l h i : ℕ} {s u n m : List ℕ} (room : ℕ) → k ≡ l → h ≡ i → s ≡ u → n ≡ m → number_of k h s (removes n) room ≡ number_of l i u (removes m) room
same_number room a b c d = cc

back : (c : Run put_in_tree.call) (d : Run remove_from_tree.call) (t : Table) → Written (rule_set (put c)) (id_length (put c)) t (object (put c))
    → t (new_of c).name ≡ none → Follows c d → c.came.answer.verdict.number ≡ 0 → d.came.answer.verdict.number ≡ 0 → left (remove d) ≡ object (put c)
back c d t w e f z y =
    let o = f.same_object ∙ left-done (put c) z in
    left-done (remove d) y ∙ same-given (lent (remove d)) f.same_rules f.same_id o f.same_name
    ∙ there_and_back (rule_set (put c)) (id_length (put c)) t (object (put c)) (new_of c) (lent (put c)) (lent (remove d)) w e (sym (number_is (put c)) ∙ z)
    (sym (same_number (length (lent (remove d))) f.same_rules f.same_id o f.same_name) ∙ sym (number_is (remove d)) ∙ y)

pub edits : Edits
edits = record {
  one_writing = one_writing;
  from_accepted = from_accepted;
  accepted_again = accepted_again;
  in_turn = turns;
  carried_over = done-left;
  missing = λ c t w a b.
      let m = missing (rule_set (remove c)) (id_length (remove c)) t (object (remove c)) c.given.args.1.1.1.0.now (length c.given.args.1.1.1.1.0.now) w a b in
      ((λ e. m.0 (sym c.meets.0 ∙ e)), (λ n. c.meets.0 ∙ m.1 n));
  same_put = λ c t w e z.
      left-done (put c) z ∙ same_put (rule_set (put c)) (id_length (put c)) t (object (put c)) (new_of c) (lent (put c)) w e (sym (number_is (put c)) ∙ z);
  there_and_back = back;
}
