-- The check in pieces under the first demand, by what each of its steps keeps; and over a lent state, by what that stands for. Assumes nothing.
use Prim.Native.Nat.{ℕ, zero, suc, ◌-◌}
use mathlib.Core.Path.{◌≡◌, refl, ap, sym, subst, ◌∙◌}
use mathlib.Core.Bool.{Bool, true, false}
use mathlib.Core.List.{List, [], ◌∷◌, ◌++◌}
use lib.ListN.{length, get_or, take, drop}
use lib.Dec.{eqb}
use borrow.Author.Tests.{ne_eqb}
use Rattle.ground.specs.Basics.{pick}
use Rattle.ground.specs.Scan.{count_to}
use Rattle.ground.specs.Verdict.{refused, is_part, id_length, size_gate, is_set}
use Rattle.ground.specs.declared.Verdict.{Verdict}
use Rattle.ground.specs.declared.Answer.{Answer}
use Rattle.mode.specs.Read.{read_mode}
use Rattle.entry.specs.Decode.{short_part}
use Rattle.rules.specs.Gate.{rule_gate}
use Rattle.arriving.specs.Feed.{together, fresh, gate_verdict, head_part, end_in, start_of, feed_of, finish_of, end_of}
use Rattle.checking.specs.Whole.{check_of}
use Rattle.checking.specs.Claims.{in_pieces, joined}
use Rattle.arriving.specs.declared.Phase.{Phase}
use Rattle.arriving.specs.declared.Phase.TheVariants.{Head, Name, Id}
use Rattle.arriving.specs.declared.Marks.{Marks}
use Rattle.arriving.specs.declared.Check.{Check}
use Rattle.arriving.proofs.Steps.{feed_stopped}
use Rattle.checking.proofs.Theorem.{piece_laws}
use Rattle.border.specs.Border.{answer_numbers}
use Rattle.piece_state.specs.State.{marks_numbers, marks_said}
use Rattle.piece_state.proofs.Each.{Settles, two, three, five, six, seven, sixteen, seventeen, eighteen, each_fed}
use Rattle.border_check.specs.End.{end_said}
use Rattle.border_pieces.specs.Border.{state_of, fed_of, fed_numbers}
use Rattle.border_pieces.proofs.Flat.{begun-is, fed-is}
use Rattle.call.specs.Call.{Input, TakesAll, Run, Said, Deed, Refusal, Fits, ◌and◌, none}
use Rattle.call.specs.Deeds.{of_answer}
use Rattle.paper.specs.Border.{said_in}
use Rattle.paper.specs.Arrives.{feed_call}
use Rattle.paper.specs.Pieces.{GoesOn, piece_c, end_c, of_marks, marks_in, OfPieces}
use Rattle.paper.specs.Pieces.{Lent, lent_to, lent_from, piece_of, Lends, no-piece, a_piece, CheckedC, Lending}
use Rattle.call.proofs.Laws.{answers_once, same, two-lists, done, added, Tells, keeps-reads, keeps-hands, each-pick, keeps-stores}
use Rattle.call.proofs.Laws as laws
use Rattle.paper.proofs.Bundles.{both-lists}
use Rattle.mode.specs.declared.EntryMode.{EntryMode}
use Rattle.std.specs.Prelude.{None, Option, Result, Some, ⊤}

-- from what a contract makes of the arguments to the demand of a call that goes on with a state
goes_on : (d : Deed) (state : Input d.call → Said) (numbers : List ℕ) → TakesAll d.call → (t : Tells d)
    → ((i : Input d.call) (had : List ℕ) → Fits had (state i) → Fits (numbers ++ had) (t.says i))
    → ((i : Input d.call) → Refusal (state i).verdict → ((t.says i).verdict ≡ (state i).verdict) × (t.leaves i ≡ d.before i)) → GoesOn d state numbers
goes_on d state numbers takes t fits stays = record {
  takes = takes;
  once = λ i o p m n. let a = t.told i o m in let b = t.told i p n in (same a.0 b.0, same a.1 b.1, same a.2 b.2);
  fits = λ i o m had g. subst (Fits (numbers ++ had)) (sym (t.told i o m).3) (fits i had g);
  stays = λ i o m z. let a = t.told i o m in (ap (λ (s : Said). s.verdict) a.3 ∙ (stays i z).0, a.2 ∙ (stays i z).1);
}

-- ---- the numbers

start_fits : (h k : ℕ) → Fits (0 ∷ 1 ∷ 19 ∷ []) (of_marks (start_of h k))
unfolding start_of rule_gate size_gate
start_fits h k =
    each-pick Q (id_length h) _ _ (each-pick Q (is_set k) _ _ (done refl refl) (laws.zero refl refl)) (laws.zero refl refl)
  where
    Q : Result ⊤ Verdict → Type 0
    Q g = Fits (0 ∷ 1 ∷ 19 ∷ []) (of_marks (fresh h k (gate_verdict g)))

abbrev settled : List ℕ
settled = 2 ∷ 3 ∷ 5 ∷ 6 ∷ 7 ∷ 16 ∷ 17 ∷ 18 ∷ []

settles_fits : (had : List ℕ) (v : Verdict) → Settles v → Fits (settled ++ had) (record { verdict = v; counts = [] })
settles_fits had v two = laws.zero refl refl
settles_fits had v (three at) = laws.zero refl refl
settles_fits had v (five at) = laws.zero refl refl
settles_fits had v (six at) = laws.zero refl refl
settles_fits had v (seven at) = laws.zero refl refl
settles_fits had v (sixteen at) = laws.zero refl refl
settles_fits had v (seventeen at) = laws.zero refl refl
settles_fits had v (eighteen at) = laws.zero refl refl

fed-fits : (c : Check) (s had : List ℕ) → Fits had (of_marks c.marks) → Fits (settled ++ had) (of_marks (feed_of c s).marks)
fed-fits c s had g =
    each_fed (λ (m : Marks). Fits (settled ++ had) (of_marks m)) (λ m v w f. settles_fits had v w) (λ m at head p f. f) (λ m l n f. f) c s (added settled g)

part-is : (b : List ℕ) (r : Option (EntryMode × ℕ)) → is_part (head_part b r) ≡ true
unfolding short_part
part-is b (Some (m, n)) = each-pick (λ (k : ℕ). is_part k ≡ true) (eqb (length (drop n b) - count_to 0 (drop n b)) 0) 2 3 refl refl
part-is b None = refl

end_fits : (m : Marks) (had : List ℕ) → Fits had (of_marks m) → Fits ((0 ∷ 3 ∷ []) ++ had) (of_answer (finish_of m))
unfolding finish_of
end_fits m had g = go (eqb m.verdict.number 0)
  where
    Q : Answer → Type 0
    Q a = Fits ((0 ∷ 3 ∷ []) ++ had) (of_answer a)

    ends : (p : Phase) → Q (end_in m p)
    ends (Head zero) = done refl refl
    ends (Head (suc k)) = laws.zero refl (part-is (take (suc k) m.head) (read_mode (take (suc k) m.head)))
    ends (Name l) = laws.zero refl refl
    ends (Id l left) = laws.zero refl refl

    go : (b : Bool) → Q (pick b (end_in m m.phase) (refused m.verdict))
    go true = ends m.phase
    go false = record { known = (added (0 ∷ 3 ∷ []) g).known; empty = λ z y. refl }

-- a refusal that is settled is the answer
end_refused : (m : Marks) → Refusal m.verdict → finish_of m ≡ refused m.verdict
unfolding finish_of
end_refused m z = ap (λ (b : Bool). pick b (end_in m m.phase) (refused m.verdict)) (ne_eqb m.verdict.number 0 z)

-- ---- a state that is lent

-- the numbers with a piece more
numbers_fit : (held ends marks first piece had : List ℕ) → Fits had (marks_in marks) → Fits (settled ++ had) (marks_in (fed_numbers held ends marks first piece))
numbers_fit held ends marks first piece had g =
    each-pick (λ (l : List ℕ). Fits (settled ++ had) (marks_in l)) (eqb (get_or marks 0 0) 0) _ _
    (fed-fits (state_of held ends marks first) piece had g) (added settled g)

numbers_stay : (held ends marks first piece : List ℕ) → (get_or marks 0 0 ≡ 0 → ⊥) → fed_numbers held ends marks first piece ≡ marks
numbers_stay held ends marks first piece z =
    ap (λ (b : Bool). pick b (marks_numbers (fed_of held ends marks first piece).marks) marks) (ne_eqb (get_or marks 0 0) 0 z)

-- four lists, each the same as another
four-lists : {a b c d e f g h : List ℕ} → a ≡ e → b ≡ f → c ≡ g → d ≡ h → a ∷ b ∷ c ∷ d ∷ [] ≡ e ∷ f ∷ g ∷ h ∷ []
four-lists p q r s = cc

pub of_pieces : OfPieces
of_pieces = record {
  start = keeps-reads _ (λ i. tt) _ _ _ (λ i o m. m) (λ i. start_fits _ _);
  feed = goes_on _ _ _ (λ i. tt) (record {
    answers = λ i. (fed i).marks;
    hands = λ i. [];
    leaves = λ i. (fed i).held ∷ (fed i).ends ∷ [];
    says = λ i. of_marks (fed i).marks;
    told = λ i o m. (
      ap (λ (c : Check). c.marks) m,
      refl,
      two-lists (ap (λ (c : Check). c.held) m) (ap (λ (c : Check). c.ends) m),
      ap (λ (c : Check). of_marks c.marks) m,
    );
  }) (λ i had g. fed-fits (handed_to i) (piece_to i) had g) (λ i z.
      let e = feed_stopped (handed_to i) (piece_to i) z in
      (ap (λ (c : Check). c.marks.verdict) e, two-lists (ap (λ (c : Check). c.held) e) (ap (λ (c : Check). c.ends) e)));
  finish = goes_on _ _ _ (λ i. tt) (record {
    answers = λ i. finish_of i.args.0;
    hands = λ i. [];
    leaves = λ i. [];
    says = λ i. of_answer (finish_of i.args.0);
    told = λ i o m. (m, refl, refl, ap of_answer m);
  }) (λ i had g. end_fits i.args.0 had g) (λ i z. (ap (λ (a : Answer). a.verdict) (end_refused i.args.0 z), refl));
  said_marks = ((λ i. tt), answers_once _ _ (λ i o m. m)) and none;
  store_marks = keeps-stores _ (λ i. tt) _ _ _ _ (λ i o m. (refl, m));
  check_start = keeps-hands _ (λ i. tt) _ marks_in _ _ _ _ _ _ (λ i o m. (m.0, both-lists m.1.0 m.1.1, refl)) (λ i. start_fits _ _) (λ i z. refl);
  check_piece = goes_on _ _ _ (λ i. tt) (record {
    answers = λ i. (fed_c i).marks.verdict.number;
    hands = λ i. [];
    leaves = λ i. (fed_c i).held ∷ (fed_c i).ends ∷ numbers_c i ∷ (fed_c i).marks.head ∷ [];
    says = λ i. marks_in (numbers_c i);
    told = λ i o m. (m.0, refl, four-lists m.1.0 m.1.1.0 m.1.1.1.0 m.1.1.1.1, ap marks_in m.1.1.1.0);
  }) (λ i had g.
      let a = i.args in
      numbers_fit a.0.now a.1.0.now a.1.1.0.now a.1.1.1.0.now a.1.1.1.1.0.now had g) (λ i z.
      let a = i.args in
      let e = feed_stopped (state_of a.0.now a.1.0.now a.1.1.0.now a.1.1.1.0.now) a.1.1.1.1.0.now z in
      let n = numbers_stay a.0.now a.1.0.now a.1.1.0.now a.1.1.1.0.now a.1.1.1.1.0.now z in (
        ap (λ (l : List ℕ). (marks_in l).verdict) n,
        four-lists (ap (λ (c : Check). c.held) e) (ap (λ (c : Check). c.ends) e) n (ap (λ (c : Check). c.marks.head) e),
      ));
  check_end = goes_on _ _ _ (λ i. tt) (record {
    answers = λ i. (end_c-answer i).verdict.number;
    hands = λ i. answer_numbers (end_c-answer i);
    leaves = λ i. [];
    says = λ i. of_answer (end_c-answer i);
    told = λ i o m. (m.0, m.1, refl, ap said_in m.1);
  }) (λ i had g. end_fits (marks_said i.args.0.now i.args.1.0.now) had g)
      (λ i z. (ap (λ (a : Answer). a.verdict) (end_refused (marks_said i.args.0.now i.args.1.0.now) z), refl));
}
  where
    handed_to : Input feed_call → Check
    handed_to i = together i.args.0.now i.args.1.0.now i.args.1.1.0

    piece_to : Input feed_call → List ℕ
    piece_to i = i.args.1.1.1.0.now

    fed : Input feed_call → Check
    fed i = feed_of (handed_to i) (piece_to i)

    fed_c : Input piece_c → Check
    fed_c i = let a = i.args in fed_of a.0.now a.1.0.now a.1.1.0.now a.1.1.1.0.now a.1.1.1.1.0.now

    numbers_c : Input piece_c → List ℕ
    numbers_c i = let a = i.args in fed_numbers a.0.now a.1.0.now a.1.1.0.now a.1.1.1.0.now a.1.1.1.1.0.now

    end_c-answer : Input end_c → Answer
    end_c-answer i = end_said i.args.0.now i.args.1.0.now

-- ---- from a start to an end

abbrev stands : Lent → Check
stands s = state_of s.held s.ends s.marks s.first

abbrev lent : List ℕ → List ℕ → List ℕ → List ℕ → Lent
lent held ends marks first = record { held = held; ends = ends; marks = marks; first = first }

-- what a call leaves
left_is : (r : Run piece_c)
    → let s = lent_to r in
    let d = feed_of (stands s) (piece_of r) in
    lent_from r ≡ lent d.held d.ends (fed_numbers s.held s.ends s.marks s.first (piece_of r)) d.marks.head
left_is r = go r.meets.1.0 r.meets.1.1.0 r.meets.1.1.1.0 r.meets.1.1.1.1
  where
    go : {a b c d e f g h : List ℕ} → a ≡ e → b ≡ f → c ≡ g → d ≡ h → lent a b c d ≡ lent e f g h
    go p q r s = cc

stands-fed : (r : Run piece_c) → stands (lent_from r) ≡ feed_of (stands (lent_to r)) (piece_of r)
stands-fed r = let s = lent_to r in ap stands (left_is r) ∙ fed-is s.held s.ends s.marks s.first (piece_of r)

lends_is : {s t : Lent} {ps : List (List ℕ)} → Lends s ps t → stands t ≡ in_pieces (stands s) ps
unfolding in_pieces
lends_is no-piece = refl
lends_is (a_piece {ps = ps} r e f) =
    lends_is f ∙ ap (λ (x : Check). in_pieces x ps) (stands-fed r ∙ ap (λ (x : Lent). feed_of (stands x) (piece_of r)) e)

lends_stay : {s t : Lent} {ps : List (List ℕ)} → Lends s ps t → (get_or s.marks 0 0 ≡ 0 → ⊥) → t ≡ s
lends_stay no-piece z = refl
lends_stay {s} (a_piece r e f) z = lends_stay f (λ q. z (sym (ap (λ (x : Lent). get_or x.marks 0 0) one) ∙ q)) ∙ one
  where
    was : get_or (lent_to r).marks 0 0 ≡ 0 → ⊥
    was q = z (sym (ap (λ (x : Lent). get_or x.marks 0 0) e) ∙ q)

    one : lent_from r ≡ s
    one =
        let x = lent_to r in
        let y = feed_of (stands x) (piece_of r) in
        let d = feed_stopped (stands x) (piece_of r) was in
        left_is r ∙ ap (λ (n : List ℕ). lent y.held y.ends n y.marks.head) (numbers_stay x.held x.ends x.marks x.first (piece_of r) was)
        ∙ ap (λ (c : Check). lent c.held c.ends x.marks c.marks.head) d ∙ e

module _ (h k : ℕ) (ps : List (List ℕ)) (numbers : List ℕ) (c : CheckedC h k ps numbers) where
  start_is : start_of c.begun.given.args.0 c.begun.given.args.1.0 ≡ start_of h k
  start_is = ap (λ (x : ℕ). start_of x c.begun.given.args.1.0) c.length_of_ids ∙ ap (start_of h) c.rule_set

  stands-begun : stands (lent c.held c.ends c.begun.came.last.1.1.0.now c.begun.came.last.1.1.1.0.now)
      ≡ together c.held c.ends (start_of h k)
  stands-begun =
      ap (λ (l : List ℕ). state_of c.held c.ends l c.begun.came.last.1.1.1.0.now) (c.begun.meets.1.0 ∙ ap marks_numbers start_is)
      ∙ ap (λ (l : List ℕ). state_of c.held c.ends (marks_numbers (start_of h k)) l) (c.begun.meets.1.1 ∙ ap (λ (m : Marks). m.head) start_is)
      ∙ begun-is h k c.held c.ends c.small

  ended_is : numbers ≡ answer_numbers (check_of h k (joined ps))
  ended_is =
      sym c.answer ∙ c.ended.meets.1
      ∙ ap (λ (l : List ℕ). answer_numbers (end_said l c.ended.given.args.1.0.now)) c.from_marks
      ∙ ap (λ (l : List ℕ). answer_numbers (end_said c.after.marks l)) c.from_first
      ∙ ap (λ (x : Check). answer_numbers (end_of x)) (lends_is c.fed ∙ ap (λ (x : Check). in_pieces x ps) stands-begun)
      ∙ ap answer_numbers (piece_laws.any_cut h k c.held c.ends c.rooms ps)

pub lending : Lending
lending = record { any_cut = ended_is; stays = λ s t ps f z. lends_stay f z }
