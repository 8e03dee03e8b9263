-- The answers of the edits, way by way as the code has them. Assumes nothing.
use Prim.Native.Nat.{ℕ, suc, ◌≤◌, ◌<◌, max}
use mathlib.Core.Bool.{Bool, true, false, false≢true}
use mathlib.Core.Path.{◌≡◌, refl, ap, sym, ◌∙◌}
use mathlib.Core.List.{List, [], ◌∷◌}
use native.Mathlib.Omega.{arith}
use borrow.Author.Tests.{eq-eqb, ne_eqb, le-leb, lt-leb}
use lib.ListN.{length}
use lib.Seq.{sets}
use Rattle.ground.specs.Basics.{pick}
use Rattle.ground.specs.Scan.{same_bytes}
use Rattle.ground.specs.Verdict.{verdict, counted, refused, stored, most_bytes, most_records}
use Rattle.ground.specs.declared.Verdict.{Verdict}
use Rattle.ground.specs.declared.Answer.{Answer}
use Rattle.ground.proofs.Laws.{is_false, gate_open, id_small}
use Rattle.output.specs.Output.{fitted}
use Rattle.output.proofs.Laws.{fitted_short, fitted-fine, refused-both, done-both, gated-shut, gated_open}
use Rattle.entry.specs.Entry.{Entry, as_written}
use Rattle.rules.specs.Rules.{git_rules, stands_before}
use Rattle.rules.specs.Gate.{rule_gate}
use Rattle.rules.proofs.Laws.{rule_known, rule_open}
use Rattle.reading.specs.Listing.{tally}
use Rattle.reading.proofs.Laws.{tally_stops, Refusal}
use Rattle.strict.specs.Strict.{strictly, strict_count}
use Rattle.strict.proofs.Laws.{cut-refuses, count-within}
use Rattle.edit.specs.Table.{remove_from, insert, put_in, held, is_held, table_of}
use Rattle.edit.specs.Edit.{entries_in, new_no, size_of, putting, removing, on_counted, put_answer, remove_answer}
use Rattle.std.specs.Prelude.{Err, Ok, Result}

pub insert-length : (new : Entry) (es : List Entry) → length (insert new es) ≡ suc (length es)
unfolding insert
insert-length new [] = refl
insert-length new (e ∷ es) = go (insert-length new es) (stands_before e new)
  where
    go : length (insert new es) ≡ suc (length es) → (v : Bool) → length (pick v (e ∷ insert new es) (new ∷ e ∷ es)) ≡ suc (suc (length es))
    go ih true = ap suc ih
    go ih false = refl

abbrev pub Both : Answer → Answer → List ℕ → List ℕ → List ℕ → Type 0
Both r a l out after = (r ≡ a) × (after ≡ stored r.verdict l out)

both : (r a : Answer) (l out after : List ℕ) → (r ≡ a) × (after ≡ stored a.verdict l out) → Both r a l out after
both r a l out after p = (p.0, p.1 ∙ ap (λ (x : Answer). stored x.verdict l out) (sym p.0))

-- the same of an answer that has another name
pub named : {r q : Answer} (a : Answer) (l out after : List ℕ) → r ≡ q → Both q a l out after → Both r a l out after
named a l out after e p = (e ∙ p.0, p.1 ∙ ap (λ (x : Answer). stored x.verdict l out) (sym e))

-- ---- putting

module _ (number n : ℕ) (new : Entry) (es : List Entry) (l out : List ℕ) (q : number ≡ n) where
  pub put_refused : (number ≡ 0 → ⊥) → Both (refused (verdict number 0)) (putting (length out) n new es) l out out
  unfolding putting
  put_refused z = both _ _ l out out (refused-both (refused (verdict number 0)) l out (rw (← q, ne_eqb _ _ z) refl) z)

  module _ (z : number ≡ 0) where
    size_is : putting (length out) n new es ≡ fitted (length out) (size_of (put_in new es))
    unfolding putting
    size_is = rw (← q, eq-eqb _ _ z) refl

    module _ (kept : ℕ) (k : kept ≡ length (remove_from new.name es)) where
      put-length : length (put_in new es) ≡ suc kept
      unfolding put_in
      put-length = insert-length new (remove_from new.name es) ∙ ap suc (sym k)

      many : most_records ≤ kept → fitted (length out) (size_of (put_in new es)) ≡ refused (verdict 2 0)
      unfolding size_of fitted
      many g = rw (lt-leb (length (put_in new es)) most_records (omega (arith, put-length))) refl

      pub put-many : most_records ≤ kept → Both (refused (verdict 2 0)) (putting (length out) n new es) l out out
      put-many g = both _ _ l out out (refused-both (refused (verdict 2 0)) l out (size_is ∙ many g) (λ e. omega arith))

      module _ (g : kept < most_records) (used : ℕ) (u : used ≡ length (as_written (put_in new es))) where
        sized : size_of (put_in new es) ≡ counted used
        unfolding size_of
        sized = rw (le-leb (length (put_in new es)) most_records (omega (arith, put-length)), u) refl

        pub put-short : length out < used → Both (refused (verdict 8 used)) (putting (length out) n new es) l out out
        put-short p =
            both _ _ l out out (refused-both (refused (verdict 8 used)) l out (size_is ∙ ap (fitted (length out)) sized ∙ fitted_short (length out) (counted used) refl p) (λ e. omega arith))

        pub put-done : used ≤ length out → (after : List ℕ) → after ≡ sets out 0 (as_written (put_in new es)) → Both (counted used) (putting (length out) n new es) (as_written (put_in new es)) out after
        put-done p after a =
            both _ _ (as_written (put_in new es)) out after
            (done-both (counted used) (as_written (put_in new es)) out after (size_is ∙ ap (fitted (length out)) sized ∙ fitted-fine (length out) (counted used) refl p) refl a (omega (arith, u)))

-- ---- removing

-- what a listing loses: nothing exactly where its table has nothing under the name
pub removed_le : (name : List ℕ) (es : List Entry) → length (remove_from name es) ≤ length es
unfolding remove_from
removed_le name [] = omega arith
removed_le name (e ∷ es) = go (removed_le name es) (same_bytes e.name name)
  where
    go : length (remove_from name es) ≤ length es → (v : Bool) → length (pick v (remove_from name es) (e ∷ remove_from name es)) ≤ suc (length es)
    go ih true = omega arith
    go ih false = omega arith

held_less : (name : List ℕ) (es : List Entry) → is_held (table_of es name) ≡ true → length (remove_from name es) < length es
unfolding remove_from table_of is_held
held_less name [] e = absurd (false≢true e)
held_less name (d ∷ es) e = go (held_less name es) (same_bytes d.name name) e
  where
    go : (is_held (table_of es name) ≡ true → length (remove_from name es) < length es) → (v : Bool)
        → is_held (pick v (held d.mode d.id) (table_of es name)) ≡ true → length (pick v (remove_from name es) (d ∷ remove_from name es)) < suc (length es)
    go ih true e = omega (arith, removed_le name es)
    go ih false e = omega (arith, ih e)

none_all : (name : List ℕ) (es : List Entry) → is_held (table_of es name) ≡ false → length (remove_from name es) ≡ length es
unfolding remove_from table_of is_held
none_all name [] e = refl
none_all name (d ∷ es) e = go (none_all name es) (same_bytes d.name name) e
  where
    go : (is_held (table_of es name) ≡ false → length (remove_from name es) ≡ length es) → (v : Bool)
        → is_held (pick v (held d.mode d.id) (table_of es name)) ≡ false → length (pick v (remove_from name es) (d ∷ remove_from name es)) ≡ suc (length es)
    go ih true e = absurd (false≢true (sym e))
    go ih false e = ap suc (ih e)

module _ (name : List ℕ) (es : List Entry) (l out : List ℕ) (kept n : ℕ) (k : kept ≡ length (remove_from name es)) (c : length es ≡ n) where
  gone : kept ≡ n → is_held (table_of es name) ≡ false
  gone z = is_false (is_held (table_of es name)) (λ e. omega (arith, held_less name es e, k, c, z))

  there : (kept ≡ n → ⊥) → is_held (table_of es name) ≡ true
  there z = go (is_held (table_of es name)) refl
    where
      go : (v : Bool) → is_held (table_of es name) ≡ v → v ≡ true
      go true e = refl
      go false e = absurd (z (k ∙ none_all name es e ∙ c))

  pub remove-missing : kept ≡ n → Both (refused (verdict 15 0)) (removing (length out) name es) l out out
  unfolding removing
  remove-missing z =
      both _ _ l out out (refused-both (refused (verdict 15 0)) l out (rw (gone z)) (λ e. omega arith))

  module _ (z : kept ≡ n → ⊥) (used : ℕ) (u : used ≡ length (as_written (remove_from name es))) where
    removed : removing (length out) name es ≡ fitted (length out) (counted used)
    unfolding removing
    removed = rw (there z, u)

    pub remove-short : length out < used → Both (refused (verdict 8 used)) (removing (length out) name es) l out out
    remove-short p = both _ _ l out out (refused-both (refused (verdict 8 used)) l out (removed ∙ fitted_short (length out) (counted used) refl p) (λ e. omega arith))

    pub remove-done : used ≤ length out → (after : List ℕ) → after ≡ sets out 0 (as_written (remove_from name es))
        → Both (counted used) (removing (length out) name es) (as_written (remove_from name es)) out after
    remove-done p after a =
        both _ _ (as_written (remove_from name es)) out after
        (done-both (counted used) (as_written (remove_from name es)) out after (removed ∙ fitted-fine (length out) (counted used) refl p) refl a (omega (arith, u)))

-- ---- behind the gate

pub stopped_refuses : (k h : ℕ) (s : List ℕ) (v : Verdict) → tally 0 (strictly (git_rules k) h s) ≡ Err v → v.number ≡ 0 → ⊥
stopped_refuses k h s v t = tally_stops Refusal 0 (strictly (git_rules k) h s) v (cut-refuses (git_rules k) h s) t

-- an open gate: 6 < h, and the longest buffer is within the bound
pub open_big : (k h m : ℕ) → rule_gate k h m 0 ≡ Ok tt → (6 < h) × (m ≤ most_bytes)
open_big k h m g =
    let o = gate_open h m 0 (sym (rule_known k h m 0 (rule_open k h m 0 g)) ∙ g) in
    (omega (arith, (id_small h o.0).0), o.1)

-- the count within the bound
pub counted_is : (k h : ℕ) (s : List ℕ) {c : Result ℕ Verdict} → length s ≤ most_bytes → c ≡ strict_count k h s → tally 0 (strictly (git_rules k) h s) ≡ c
counted_is k h s l e = sym (e ∙ count-within k h s l)

-- the longest of the buffers
pub most-put : (a b c d : ℕ) {i j m : ℕ} → m ≡ max i j → i ≡ max a b → j ≡ max c d → m ≡ max (max a b) (max c d)
most-put a b c d e f g = cc

pub most-remove : (a b c : ℕ) {j m : ℕ} → m ≡ max a j → j ≡ max b c → m ≡ max a (max b c)
most-remove a b c e f = cc

pub finish : {a b : Answer} (r : Answer) (l out after : List ℕ) → a ≡ b → r ≡ b → after ≡ stored r.verdict l out → (r ≡ a) × (after ≡ stored a.verdict l out)
finish r l out after p q z = (q ∙ sym p, z ∙ ap (λ (x : Answer). stored x.verdict l out) (q ∙ sym p))

module _ (k h : ℕ) (s : List ℕ) (new : Entry) (room m : ℕ) (e : m ≡ max (max (length s) (length new.name)) (max (length new.id) room)) where
  pub put-shut : (v : Verdict) → rule_gate k h m 0 ≡ Err v → put_answer k h s new room ≡ refused v
  unfolding put_answer
  put-shut v g = rw (← e) (gated-shut _ v _ g)

  module _ (g : rule_gate k h m 0 ≡ Ok tt) where
    pub put-bounds : (6 < h) × (length s ≤ most_bytes) × (length new.name ≤ most_bytes) × (length new.id ≤ most_bytes)
    put-bounds =
        let o = open_big k h m g in
        (o.0, omega (arith, o.1, e), omega (arith, o.1, e), omega (arith, o.1, e))

    pub put_stopped : (v : Verdict) → tally 0 (strictly (git_rules k) h s) ≡ Err v → put_answer k h s new room ≡ refused v
    unfolding put_answer on_counted
    put_stopped v t = rw (← e) (gated_open _ _ g ∙ rw t)

    pub put_total : (n : ℕ) → tally 0 (strictly (git_rules k) h s) ≡ Ok n
        → put_answer k h s new room ≡ putting room (new_no (git_rules k) h new) new (entries_in h s)
    unfolding put_answer on_counted
    put_total n t = rw (← e) (gated_open _ _ g ∙ rw t)

module _ (k h : ℕ) (s name : List ℕ) (room m : ℕ) (e : m ≡ max (length s) (max (length name) room)) where
  pub remove-shut : (v : Verdict) → rule_gate k h m 0 ≡ Err v → remove_answer k h s name room ≡ refused v
  unfolding remove_answer
  remove-shut v g = rw (← e) (gated-shut _ v _ g)

  module _ (g : rule_gate k h m 0 ≡ Ok tt) where
    pub remove-bounds : (6 < h) × (length s ≤ most_bytes) × (length name ≤ most_bytes)
    remove-bounds =
        let o = open_big k h m g in
        (o.0, omega (arith, o.1, e), omega (arith, o.1, e))

    pub remove_stopped : (v : Verdict) → tally 0 (strictly (git_rules k) h s) ≡ Err v → remove_answer k h s name room ≡ refused v
    unfolding remove_answer on_counted
    remove_stopped v t = rw (← e) (gated_open _ _ g ∙ rw t)

    pub remove_total : (n : ℕ) → tally 0 (strictly (git_rules k) h s) ≡ Ok n → remove_answer k h s name room ≡ removing room name (entries_in h s)
    unfolding remove_answer on_counted
    remove_total n t = rw (← e) (gated_open _ _ g ∙ rw t)
