-- Two rewritings settle an object, whatever outcomes the contracts of `read_tree` and `write_tree` allow: from the theorems of `rewriting`.
-- Assumes nothing.
use Prim.Native.Nat.{ℕ, ◌*◌, ◌≤◌}
use mathlib.Core.Path.{◌≡◌, refl, ap, sym, subst, ◌∙◌}
use mathlib.Core.List.{List}
use lib.ListN.{length, take}
use Rattle.ground.specs.Verdict.{counted, stored, most_bytes, most_records}
use Rattle.entry.specs.Record.{width, records_of}
use Rattle.reading.specs.Listing.{listing, records_in}
use Rattle.reading.specs.Whole.{read_answer, read_records}
use Rattle.tree_write.specs.Write.{written, tree_answer}
use Rattle.tree_round.specs.Demand.{SomeModes}
use Rattle.rewriting.specs.Demand.{rewrite, times, Given, NoneBetween, TextsAsWritten}
use Rattle.rewriting.proofs.Read.{returned-is, passes}
use Rattle.rewriting.proofs.Settle.{accepted_again, second_lasts}
use Rattle.rewriting.proofs.Once.{first_lasts}
use Rattle.rewriting.proofs.Own.{own_rewrite}
use Rattle.rewriting.proofs.Passed.{passed_size, passed_small, passed_bytes, with-room}
use Rattle.paper.specs.Rewriting.{PlainReading, object, id_bytes, record_room, numbers, Accepted, TreeWriting, HandedOn}
use Rattle.paper.specs.Rewriting.{Rewriting, before, records, after, Nth, first, then, SettlesInTwo}

-- what is made of equals is equal
two : {A : Type 0} (f : ℕ → List ℕ → A) {h i : ℕ} {s t : List ℕ} → h ≡ i → s ≡ t → f h s ≡ f i t
two f a b = cc

three : {A : Type 0} (f : ℕ → List ℕ → List ℕ → A) {h i : ℕ} {s t l m : List ℕ} → h ≡ i → s ≡ t → l ≡ m → f h s l ≡ f i t m
three f a b c = cc

-- ---- a reading that accepts, and a writing of what it returned

module _ (r : PlainReading) (n : ℕ) (a : Accepted r n) where
  abbrev lent : List ℕ
  lent = r.given.args.1.1.0.now

  reads : read_answer (id_bytes r) (object r) (listing (id_bytes r) (object r)) lent ≡ counted n
  reads = sym r.meets.0 ∙ a

  abbrev flat : List ℕ
  flat = take (n * width) (read_records (id_bytes r) (object r) (listing (id_bytes r) (object r)) lent)

  numbers_are : numbers r n ≡ flat
  numbers_are = ap (take (n * width)) r.meets.1

  records_are : records_of (numbers r n) ≡ records_in (listing (id_bytes r) (object r))
  records_are = ap records_of numbers_are ∙ returned-is (id_bytes r) (object r) lent n reads

  module _ (w : TreeWriting) (on : HandedOn r n w) where
    abbrev out : List ℕ
    out = w.given.args.1.1.1.0.now

    answers : w.came.answer ≡ tree_answer (id_bytes r) (object r) flat (length out)
    answers = w.meets.0 ∙ three (λ h s l. tree_answer h s l (length out)) on.id on.bytes (on.records ∙ numbers_are)

    leaves : w.came.last.1.1.1.0.now
        ≡ stored (tree_answer (id_bytes r) (object r) flat (length out)).verdict (written (id_bytes r) (object r) (records_of flat)) out
    leaves =
        w.meets.1
        ∙ three (λ h s l. stored (tree_answer h s l (length out)).verdict (written h s (records_of l)) out) on.id on.bytes (on.records ∙ numbers_are)

-- ---- a rewriting

module _ (p : Rewriting) where
  abbrev h : ℕ
  h = id_bytes p.reading

  abbrev list : List ℕ
  list = lent p.reading p.entries p.accepted

  abbrev room : List ℕ
  room = out p.reading p.entries p.accepted p.writing p.handed

  was_read : read_answer h (before p) (listing h (before p)) list ≡ counted p.entries
  was_read = reads p.reading p.entries p.accepted

  was-written : tree_answer h (before p) (flat p.reading p.entries p.accepted) (length room) ≡ counted p.size
  was-written = sym (answers p.reading p.entries p.accepted p.writing p.handed) ∙ p.done

  size_is : p.size ≡ length (rewrite h (before p))
  size_is = passed_size h (before p) list p.entries was_read room p.size was-written

  small : length (rewrite h (before p)) ≤ most_bytes
  small = passed_small h (before p) list p.entries was_read room p.size was-written

  after_is : after p ≡ rewrite h (before p)
  after_is =
      ap (take p.size) (leaves p.reading p.entries p.accepted p.writing p.handed)
      ∙ passed_bytes h (before p) list p.entries was_read room p.size was-written

  are : records p ≡ records_in (listing h (before p))
  are = records_are p.reading p.entries p.accepted

  given : SomeModes (records p) → Given h (before p) list p.entries
  given m = record { answer = was_read; modes = subst SomeModes are m }

-- the k-th one gives the object rewritten k times
nth-is : (p q : Rewriting) (k : ℕ) → Nth p k q → (after q ≡ times (h p) k (before p)) × (id_bytes q.reading ≡ id_bytes p.reading)
unfolding times
nth-is p t n first = (after_is p, refl)
nth-is p t n (then {k} {q} c x) =
    let i = nth-is p q k c in
    (after_is t ∙ two rewrite (x.id ∙ i.1) (x.object ∙ i.0), x.id ∙ i.1)

-- ---- the claims

again : (p q : Rewriting) (k : ℕ) → SomeModes (records p) → Nth p k q → (r : PlainReading) → object r ≡ after q → id_bytes r ≡ id_bytes p.reading
    → p.entries ≤ record_room r → record_room r ≤ most_records → Accepted r p.entries × SomeModes (records_of (numbers r p.entries))
again p q k m c r same id fits few =
    let n : ℕ = p.entries in
    let t : List ℕ = times (h p) k (before p) in
    let other : List ℕ = r.given.args.1.1.0.now in
    let g : Given (h p) t other n = with-room (h p) t (list p) n (accepted_again (h p) (before p) (list p) n (given p m) (small p) k) other fits few in
    let is : object r ≡ t = same ∙ (nth-is p q k c).0 in
    let a : Accepted r n = r.meets.0 ∙ two (λ h s. read_answer h s (listing h s) other) id is ∙ g.answer in
    let l : records_in (listing (id_bytes r) (object r)) ≡ records_in (listing (h p) t) = two (λ h s. records_in (listing h s)) id is in
    (a, subst SomeModes (sym (records_are r n a ∙ l)) g.modes)

pub settles_in_two : SettlesInTwo
settles_in_two = record {
  is_rewrite = λ p. (after_is p, ap length (after_is p) ∙ sym (size_is p));
  is_written = λ r n a w on small fits.
      answers r n a w on ∙ (passes (id_bytes r) (object r) (lent r n a) n (length (out r n a w on)) (reads r n a) fits small).0;
  accepted_again = again;
  second_lasts = λ p q r k m two le c.
      (nth-is p r k c).0 ∙ second_lasts (h p) (before p) (list p) p.entries (given p m) k le ∙ sym (nth-is p q 2 two).0;
  first_lasts = λ p q m two.
      let f = first_lasts (h p) (before p) (list p) p.entries (given p m) in
      let a = (nth-is p p 1 first).0 in
      let b = (nth-is p q 2 two).0 in (
        (λ e. subst NoneBetween (sym (are p)) (f.0 (sym a ∙ e ∙ b))),
        (λ n. a ∙ f.1 (subst NoneBetween (are p) n) ∙ sym b),
      );
  own_rewrite = λ p m.
      let f = own_rewrite (h p) (before p) (list p) p.entries (given p m) in
      let a = (nth-is p p 1 first).0 in (
        (λ e. subst (TextsAsWritten (before p)) (sym (are p)) (f.0 (e ∙ a))),
        (λ t. f.1 (subst (TextsAsWritten (before p)) (are p) t) ∙ sym a),
      );
}
