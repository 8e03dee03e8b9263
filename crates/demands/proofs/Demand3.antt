-- The third demand is met: by the theorems of `one_listing` and `tree_round`, with soundness in plain words. Assumes nothing.
use Prim.Native.Nat.{ℕ, ◌*◌, ◌≤◌}
use native.Mathlib.Omega.{arith}
use mathlib.Core.Path.{◌≡◌, refl, sym, ap, ◌∙◌}
use mathlib.Core.Bool.{Bool, true}
use mathlib.Core.List.{List, ◌++◌}
use contract.Monad.{fact_mono}
use lib.ListN.{length, take, drop}
use Rattle.ground.specs.Scan.{free_of}
use Rattle.ground.specs.Verdict.{verdict, fine, counted, most_bytes, stored}
use Rattle.ground.specs.declared.Verdict.{Verdict}
use Rattle.ground.specs.declared.Answer.{Answer}
use Rattle.ground.proofs.Laws.{stored-done}
use Rattle.entry.specs.Record.{width, records_of}
use Rattle.entry.specs.Entry.{Entry}
use Rattle.entry.specs.declared.EntryRecord.{EntryRecord}
use Rattle.reading.specs.Listing.{listing}
use Rattle.rules.specs.Rules.{git_rules}
use Rattle.reading.specs.Whole.{read_answer, read_records}
use Rattle.strict.specs.Strict.{strict_answer}
use Rattle.strict.proofs.Laws.{strict-answers, strict-stores, strict-set}
use Rattle.one_listing.specs.Demand.{Accepts}
use Rattle.one_listing.proofs.Theorem.{some_listing}
use Rattle.one_listing.proofs.Present.{plainly, git_one-listing, git_short-room, git_one-object}
use Rattle.lookup.specs.Halving.{found, absent}
use Rattle.lookup.specs.Lookup.{lookup_in}
use Rattle.lookup.specs.declared.Looked.{Looked}
use Rattle.tree_write.specs.Write.{written, tree_answer}
use Rattle.tree_round.specs.Demand.{returned}
use Rattle.tree_round.proofs.Present.{git_finds, git_misses, git_plain_too, git_rewrites}
use Rattle.demands.specs.Demand3.{OneSet, named, Strict, object, id_length, rule_set, lent, filled, Returns, Handed, Seekable, Answers, ThirdDemand}
use Rattle.tree_calls.proofs.Reading.{strict-counts}
use Rattle.demands.proofs.Sentences.{lookup_sentences}

-- ---- answers of a lookup

found-made : (x : Looked) (n : ℕ) → x.verdict ≡ fine → x.index ≡ n → x ≡ found n x.compared
found-made x n v i = ap (λ (w : Verdict). made w x.index) v ∙ ap (made fine) i
  where
    made : Verdict → ℕ → Looked
    made w n = record { verdict = w; index = n; compared = x.compared }

absent-made : (x : Looked) → x.verdict ≡ verdict 15 0 → x.index ≡ 0 → x ≡ absent x.compared
absent-made x v i = ap (λ (w : Verdict). made w x.index) v ∙ ap (made (verdict 15 0)) i
  where
    made : Verdict → ℕ → Looked
    made w n = record { verdict = w; index = n; compared = x.compared }

-- what is found among the records of an accepted object
answers : (k h : ℕ) (s lent : List ℕ) (es : List Entry) → Accepts (git_rules k) h s lent es → (name : List ℕ) → length name ≤ most_bytes → free_of 47 name ≡ true
    → (folder : Bool) (x : Looked) → x ≡ lookup_in h s (records_of (returned (git_rules k) h s lent (length es))) name folder → Answers es name folder x
answers k h s lent es a name short free folder x e =
    let there = git_finds k h s lent es a name short free folder in
    let gone = git_misses k h s lent es a name short free folder in
    let none = lookup_sentences.no_index h s (records_of (returned (git_rules k) h s lent (length es))) name folder in
    record {
      there = λ n. (
        (λ (v, i). (there n).0 (x.compared, sym e ∙ found-made x n v i)),
        (λ t. let w = (there n).1 t in (ap (λ (y : Looked). y.verdict) (e ∙ w.1), ap (λ (y : Looked). y.index) (e ∙ w.1))),
      );
      gone = (
        (λ v. gone.0 (x.compared, sym e ∙ absent-made x v (ap (λ (y : Looked). y.index) e ∙ none (never v)))),
        (λ f. let w = gone.1 f in ap (λ (y : Looked). y.verdict) (e ∙ w.1)),
      );
    }
  where
    never : x.verdict ≡ verdict 15 0 → (lookup_in h s (records_of (returned (git_rules k) h s lent (length es))) name folder).verdict.number ≡ 0 → ⊥
    never v z = let w : ◌≡◌ {A = ℕ} 15 0 = sym (ap (λ (y : Verdict). y.number) v) ∙ ap (λ (y : Looked). y.verdict.number) e ∙ z in omega arith

-- the writer goes by the records that the numbers say
same-tree : (h : ℕ) (bytes records others : List ℕ) (room : ℕ) → records_of records ≡ records_of others
    → tree_answer h bytes records room ≡ tree_answer h bytes others room
unfolding tree_answer
same-tree h bytes records others room e = rw e

-- ---- what the strict reader returned

module _ (c : Strict) where
  abbrev k : ℕ
  k = rule_set c

  abbrev h : ℕ
  h = id_length c

  abbrev s : List ℕ
  s = object c

  abbrev list : List ℕ
  list = lent c

  accepts_returned : (es : List Entry) → OneSet k → Accepts (git_rules k) h s list es → Returns c es
  accepts_returned es set a = record {
    answer = c.meets.0 ∙ strict-answers k h s list set ∙ a.answer;
    listed = ap (named h s (length es)) (c.meets.1 ∙ strict-stores k h s list set) ∙ a.listed;
  }

  returned_accepts : (es : List Entry) → Returns c es → OneSet k × Accepts (git_rules k) h s list es
  returned_accepts es r =
      let set = strict-set k h s list (length es) (sym c.meets.0 ∙ r.answer) in (
        set,
        record {
          answer = sym (strict-answers k h s list set) ∙ sym c.meets.0 ∙ r.answer;
          listed = ap (named h s (length es)) (sym (strict-stores k h s list set) ∙ sym c.meets.1) ∙ r.listed;
        },
      )

  done-returns : c.came.answer.verdict.number ≡ 0 → (es : List Entry) × Returns c es × OneSet k
  done-returns z =
      let n : ℕ = (strict_answer k h s list).count in
      let e : strict_answer k h s list ≡ counted n = strict-counts k h s list (sym (ap (λ (a : Answer). a.verdict.number) c.meets.0) ∙ z) in
      let set = strict-set k h s list n e in
      let l = some_listing (git_rules k) h s list n (sym (strict-answers k h s list set) ∙ e) in
      (l.0, accepts_returned l.0 set l.1, set)

  module _ (es : List Entry) (r : Returns c es) where
    abbrev set : OneSet k
    set = (returned_accepts es r).0

    abbrev a : Accepts (git_rules k) h s list es
    a = (returned_accepts es r).1

    back : records_of (take (length es * width) (filled c)) ≡ records_of (returned (git_rules k) h s list (length es))
    back = ap (λ (l : List ℕ). records_of (take (length es * width) l)) (c.meets.1 ∙ strict-stores k h s list set)

    looks-up : (bytes : List ℕ) (id : ℕ) (records : List EntryRecord) (name : List ℕ) (folder : Bool) (x : Looked) → x ≡ lookup_in id bytes records name folder
        → Handed c es bytes id records → Seekable name → Answers es name folder x
    looks-up bytes id records name folder x e w n =
        answers k h s list es a name n.short n.slashless folder x (e ∙ rw (w.same_object, w.same_id, w.same_records, back))

    writes-back : (bytes : List ℕ) (id : ℕ) (records out : List ℕ) (x : Answer) (after : List ℕ) → x ≡ tree_answer id bytes records (length out)
        → after ≡ stored (tree_answer id bytes records (length out)).verdict (written id bytes (records_of records)) out
        → Handed c es bytes id (records_of records) → length s ≤ length out → length out ≤ most_bytes
        → (x ≡ counted (length s)) × (after ≡ s ++ drop (length s) out)
    writes-back bytes id records out x after e f w fits small =
        let t = git_rewrites k h s list es (length out) a fits small in
        let same = w.same_records ∙ back in
        let z : tree_answer id bytes records (length out) ≡ counted (length s)
        = rw (w.same_object, w.same_id) (same-tree h s records (returned (git_rules k) h s list (length es)) (length out) same ∙ t.0) in
        let b : written id bytes (records_of records) ≡ s = rw (w.same_object, w.same_id, same) t.1 in (
          e ∙ z,
          f ∙ ap (λ (y : Answer). stored y.verdict (written id bytes (records_of records)) out) z
              ∙ ap (λ (l : List ℕ). stored fine l out) b ∙ stored-done fine s out refl,
        )

    reads-plainly : (bytes : List ℕ) (id : ℕ) (room : List ℕ) (x : Answer) (after : List ℕ) → x ≡ read_answer id bytes (listing id bytes) room
        → after ≡ read_records id bytes (listing id bytes) room → bytes ≡ s → id ≡ h → room ≡ list → (x ≡ c.came.answer) × (after ≡ filled c)
    reads-plainly bytes id room x after e f p q l =
        let t = git_plain_too k h s list es a in
        (e ∙ rw (p, q, l) t.0 ∙ sym r.answer, f ∙ rw (p, q, l) t.1 ∙ sym (c.meets.1 ∙ strict-stores k h s list set))

pub third_demand : ThirdDemand
third_demand = record {
  the_call = λ c es. (returned_accepts c es, λ (set, a). accepts_returned c es set a);
  some_listing = done-returns;
  one_listing = λ k h s lent es w.
      let t = git_one-listing k h s lent es w.id w.bytes w.records in
      let p = plainly k h es in (
        (λ a. let r = t.0 a in (p.1 r.0, r.1, r.2)),
        (λ (sound, room, bytes). t.1 (p.0 sound, room, bytes)),
      );
  short_room = λ k h s lent es w sound bytes less few.
      strict-answers k h s lent w.rules ∙ git_short-room k h s lent es w.id w.bytes less few ((plainly k h es).0 sound) bytes;
  one_object = git_one-object;
  finds = git_finds;
  misses = git_misses;
  the_lookup = λ c es r. record {
    flat = λ d. looks-up c es r _ _ _ _ _ d.came.answer d.meets;
    structs = λ M 𝓤 𝓛 mem run κs a g x w. fact_mono 𝓤 _ _ (looks-up c es r _ _ _ _ _ x);
  };
  the_writer = λ c es r d. writes-back c es r _ _ _ _ d.came.answer _ d.meets.0 d.meets.1;
  the_plain_reader = λ c es r d. reads-plainly c es r _ _ _ d.came.answer _ d.meets.0 d.meets.1;
}
