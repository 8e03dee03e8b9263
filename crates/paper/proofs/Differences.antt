-- The first demand of a comparison of two trees, and of what it stands on: every way that its walk ends. Assumes nothing.
use Prim.Native.Nat.{ℕ, max}
use mathlib.Core.Path.{◌≡◌, refl, ap, ◌∙◌}
use mathlib.Core.List.{List, [], ◌∷◌}
use lib.Dec.{eqb, leb}
use lib.ListN.{length}
use Rattle.ground.specs.Basics.{part}
use Rattle.ground.specs.Verdict.{verdict, counted, refused, stored, most_bytes}
use Rattle.ground.specs.declared.Verdict.{Verdict}
use Rattle.ground.specs.declared.Answer.{Answer}
use Rattle.ground.proofs.Laws.{stored_refused}
use Rattle.frame.specs.declared.Header.{Header}
use Rattle.strict.specs.Strict.{strict_count}
use Rattle.seeking.specs.Index.{seek_in}
use Rattle.opening.specs.Opening.{open_by, open_placed, open_counted}
use Rattle.item.specs.Items.{Stored, missing, object, read_strictly, tree_of, folder_of}
use Rattle.walk.specs.Walk.{Out}
use Rattle.walk.specs.Lent.{paths_of, fitted}
use Rattle.walk.specs.Code.{folder_at, folders_in, walk_in}
use Rattle.difference.specs.Whole.{store_of, folders_of, differences, roots_of, walked, gated, found, answer}
use Rattle.call.specs.Call.{Fits, none, ◌and◌}
use Rattle.call.specs.Deeds.{of_answer}
use Rattle.paper.specs.Demand1.{OfDifferences}
use Rattle.call.proofs.Laws.{answers_once, two-lists, done, zero, wider, keeps, keeps-stores, each-pick, each-size}
use Rattle.paper.proofs.Edits.{each-tally}
use Rattle.paper.proofs.Walking.{Opens, walk_ends}
use Rattle.paper.proofs.Bundles.{each_opening}
use Rattle.frame.specs.declared.Frame.{Frame}
use Rattle.merge.specs.declared.Rest.{Rest}
use Rattle.std.specs.Prelude.{None, Option, Result, Some, ⊤}

-- ---- every answer

abbrev numbers : List ℕ
numbers = 0 ∷ 2 ∷ 3 ∷ 4 ∷ 5 ∷ 6 ∷ 7 ∷ 8 ∷ 17 ∷ 18 ∷ 24 ∷ 25 ∷ 27 ∷ 28 ∷ []

abbrev Fine : Verdict → Type 0
Fine v = Fits numbers (of_answer (refused v))

folder-fits : (k h : ℕ) (store : List ℕ → Stored) (id : List ℕ) → Opens Fine (folder_of k h store id)
unfolding folder_of tree_of read_strictly strict_count
folder-fits k h store [] = tt
folder-fits k h store (x ∷ id) = kinds (store (x ∷ id))
  where
    kinds : (o : Stored) → Opens Fine (tree_of k h o)
    kinds missing = zero refl refl
    kinds (object kind start s) =
        each-pick (Opens Fine) (eqb kind 2) _ _
        (each-pick (λ c. Opens Fine (read_strictly k h start s c)) (leb (length s) most_bytes) _ _
        (each-tally Fine (zero refl refl) (λ at p q. zero refl q) (λ at. zero refl refl) (λ at. zero refl refl) (λ at. zero refl refl) (λ at. zero refl refl) (λ at. zero refl refl) k h s
        (λ c. Opens Fine (read_strictly k h start s c)) (λ n. tt) (λ v p. p)) (zero refl refl)) (zero refl refl)

found-fits : (s left right : List ℕ) (bytes room : ℕ) → Fine (found s left right bytes room).verdict
unfolding found gated roots_of walked differences
found-fits s left right bytes room =
    each-size (λ (g : Result ⊤ Verdict). Fine (gated s left right g).verdict)
    (each-pick (λ (o : Result Header Verdict). Fine (walked s left right o).verdict) (eqb (length left) (length right)) _ _
    (each_opening (λ (o : Result Header Verdict). Fine (walked s left right o).verdict)
    (λ k. walk_ends Fine (done refl refl) (zero refl refl) (zero refl refl) (folders_of k s) (folder-fits k.rules k.h (store_of s)) 33 [] left right 0)
    (zero refl refl) (zero refl refl) (zero refl refl) s (length left)) (zero refl refl)) (zero refl refl)
    (max (max (length s) bytes) (max (length left) (length right))) room

fitted-fits : (numbers : List ℕ) → ((n : ℕ) → Fits numbers (of_answer (counted n))) → ((n : ℕ) → Fits numbers (of_answer (refused (verdict 4 n))))
    → ((n : ℕ) → Fits numbers (of_answer (refused (verdict 8 n)))) → (room bytes : ℕ) (o : Out) → Fits numbers (of_answer (refused o.verdict)) → Fits numbers (of_answer (fitted room bytes o))
unfolding fitted
fitted-fits numbers all few short room bytes o f =
    each-pick (λ (a : Answer). Fits numbers (of_answer a)) (eqb o.verdict.number 0) _ _
    (each-pick (λ (a : Answer). Fits numbers (of_answer a)) (leb (length o.items) room) _ _
    (each-pick (λ (a : Answer). Fits numbers (of_answer a)) (leb (length (paths_of o.items)) bytes) _ _ (all _) (short _)) (few _))
    f

pub compare_fits : (s left right : List ℕ) (bytes room : ℕ) → Fits numbers (of_answer (answer s left right bytes room))
unfolding answer
compare_fits s left right bytes room =
    fitted-fits numbers (λ n. done refl refl) (λ n. zero refl refl) (λ n. zero refl refl) room bytes (found s left right bytes room) (found-fits s left right bytes room)

-- ---- the walk alone, with any header and any index

abbrev walk_numbers : List ℕ
walk_numbers = 0 ∷ 2 ∷ 3 ∷ 4 ∷ 5 ∷ 6 ∷ 7 ∷ 8 ∷ 17 ∷ 18 ∷ 27 ∷ 28 ∷ []

abbrev Walked : Verdict → Type 0
Walked v = Fits walk_numbers (of_answer (refused v))

opened-fits : (k : Header) (s index id : List ℕ) → Opens Walked (folders_in k s index id)
unfolding folder_at open_by open_placed open_counted strict_count
opened-fits k s index id = each-pick (λ (o : Result Rest Verdict). Opens Walked (folder_at k.h s o)) (eqb (length id) 0) _ _ tt (placed (seek_in k.h s index id))
  where
    placed : (p : Option Frame) → Opens Walked (folder_at k.h s (open_placed k s p))
    placed None = zero refl refl
    placed (Some f) =
        each-pick (λ (o : Result Rest Verdict). Opens Walked (folder_at k.h s o)) (eqb f.kind 2) _ _
        (each-pick (λ (c : Result ℕ Verdict). Opens Walked (folder_at k.h s (open_counted f.start f.end c))) (leb (length (part f.start f.end s)) most_bytes) _ _
        (each-tally Walked (zero refl refl) (λ at p q. zero refl q) (λ at. zero refl refl) (λ at. zero refl refl) (λ at. zero refl refl) (λ at. zero refl refl) (λ at. zero refl refl) k.rules k.h (part f.start f.end s)
        (λ (c : Result ℕ Verdict). Opens Walked (folder_at k.h s (open_counted f.start f.end c))) (λ n. tt) (λ v p. p)) (zero refl refl)) (zero refl refl)

walk_fits : (k : Header) (s index left right : List ℕ) (bytes room : ℕ) → Fits walk_numbers (of_answer (fitted room bytes (walk_in k s index left right)))
unfolding walk_in
walk_fits k s index left right bytes room =
    fitted-fits walk_numbers (λ n. done refl refl) (λ n. zero refl refl) (λ n. zero refl refl) room bytes (walk_in k s index left right)
    (each-pick (λ (o : Out). Walked o.verdict) (leb (length s) most_bytes) _ _
    (walk_ends Walked (done refl refl) (zero refl refl) (zero refl refl) (folders_in k s index) (opened-fits k s index) 33 [] left right 0) (zero refl refl))

-- what was stored by one answer was stored by an equal one
stored-by : (a b : Answer) (l lent r : List ℕ) → a ≡ b → r ≡ stored a.verdict l lent → r ≡ stored b.verdict l lent
stored-by a b l lent r e q = q ∙ ap (λ (x : Answer). stored x.verdict l lent) e

pub of_differences : OfDifferences
of_differences = record {
  difference_questions = ((λ i. tt), answers_once _ _ (λ i o m. m)) and ((λ i. tt), answers_once _ _ (λ i o m. m)) and ((λ i. tt), answers_once _ _ (λ i o m. m)) and ((λ i. tt), answers_once _ _ (λ i o m. m)) and none;
  make_index = keeps-stores _ (λ i. tt) _ _ _ _ (λ i o m. m);
  put_item = keeps-stores _ (λ i. tt) _ _ _ _ (λ i o m. (refl, m));
  put_path = keeps-stores _ (λ i. tt) _ _ _ _ (λ i o m. (refl, m));
  walk_trees = keeps _ _ (λ i. tt) (record {
    answers = λ i. _;
    hands = λ i. [];
    leaves = λ i. _;
    says = λ i. _;
    told = λ i o m. (m.0, refl, two-lists (stored-by _ _ _ _ _ m.0 m.1.0) (stored-by _ _ _ _ _ m.0 m.1.1), ap of_answer m.0);
  }) (λ i. wider (walk_fits _ _ _ _ _ _ _) refl) (λ i z. two-lists (stored_refused _ _ _ z) (stored_refused _ _ _ z));
  compare_trees = keeps _ _ (λ i. tt) (record {
    answers = λ i. _;
    hands = λ i. [];
    leaves = λ i. _;
    says = λ i. _;
    told = λ i o m. (m.0, refl, two-lists m.1.0 m.1.1, ap of_answer m.0);
  }) (λ i. wider (compare_fits _ _ _ _ _) refl) (λ i z. two-lists (stored_refused _ _ _ z) (stored_refused _ _ _ z));
}
