-- A search that is stepped is the halving: what holds of it before each step, whatever form the records have. Assumes nothing.
use mathlib.Core.Path.{◌≡◌, refl, sym, ap, subst, ◌∙◌}
use mathlib.Core.Bool.{Bool, true, false, false≢true}
use mathlib.Core.List.{List}
use Prim.Native.Nat.{ℕ, ◌+◌, ◌-◌, ◌≤◌, ◌<◌, max}
use native.Mathlib.Omega.{arith}
use lib.ListN.{length}
use lib.Dec.{ltb}
use borrow.Author.Tests.{lt-ltb, le-ltb, ltb-true, ltb-false}
use Rattle.ground.specs.Basics.{pick}
use Rattle.ground.specs.Verdict.{verdict, fine, gate_of, most_records}
use Rattle.ground.specs.declared.Verdict.{Verdict}
use Rattle.ground.proofs.Laws.{gate_open}
use Rattle.order.specs.Order.{name_order}
use Rattle.entry.specs.declared.EntryRecord.{EntryRecord}
use Rattle.entry.specs.Record.{well_formed, name_of, folder_of}
use Rattle.lookup.specs.declared.Looked.{Looked}
use Rattle.probe.specs.declared.Query.{Query}
use Rattle.probe.specs.declared.Probe.{Probe}
use Rattle.lookup.specs.Halving.{Met, bad, met, absent, mid, turn, search_from}
use Rattle.lookup.specs.Lookup.{compare_entry, nth, compare_at, lookup_in}
use Rattle.probe.specs.Probe.{aimed_of, stopped_of, start_of, moved_of, ready, probe_step, answer_of}
use Rattle.lookup.proofs.Laws.{mid-low, mid-high, search-end, search_more, met-bad, met-good, lookup-shut, lookup_open}
use Rattle.std.specs.Prelude.{Err, Ok, Result, ⊤}
use Rattle.std.specs.declared.cmp.Ordering.{Ordering}
use Rattle.std.specs.declared.cmp.Ordering.TheVariants.{Equal, Greater, Less}

-- ---- the steps, by what they meet

module _ (object name n : ℕ) (q : Query) (bytes : ℕ) (longer : bytes ≡ max object name) where
  pub start_open : gate_of q.h bytes n ≡ Ok tt → start_of object name n q ≡ aimed_of 0 n 0
  unfolding start_of
  start_open e = rw (sym longer, e)

  pub start-shut : (v : Verdict) → gate_of q.h bytes n ≡ Err v → start_of object name n q ≡ stopped_of v 0 0
  unfolding start_of
  start-shut v e = rw (sym longer, e)

module _ (object name : List ℕ) (q : Query) (p : Probe) (e : EntryRecord) where
  -- nothing is left to compare, or the count is full
  pub step_past : p.high ≤ p.at → probe_step object name q p e ≡ p
  unfolding probe_step ready
  step_past h = simp (le-ltb p.at p.high h)

  pub step_full : p.at < p.high → most_records ≤ p.looked.compared → probe_step object name q p e ≡ p
  unfolding probe_step ready
  step_full h f = simp (lt-ltb p.at p.high h, le-ltb p.looked.compared most_records f)

  pub step-met : p.at < p.high → p.looked.compared < most_records → probe_step object name q p e ≡ moved_of p (compare_entry q.h object name q.folder e)
  unfolding probe_step ready
  step-met h f = simp (lt-ltb p.at p.high h, lt-ltb p.looked.compared most_records f)

  module _ (h : p.at < p.high) (few : p.looked.compared < most_records) where
    pub step-bad : well_formed q.h (length object) e ≡ false → probe_step object name q p e ≡ stopped_of (verdict 10 p.at) 0 0
    step-bad w = step-met h few ∙ ap (moved_of p) (met-bad q.h object name q.folder e w)

    -- by what the leaves answer that compare the record
    pub step-told : well_formed q.h (length object) e ≡ true → {sort : Bool} {r : Ordering} → sort ≡ folder_of e
        → r ≡ name_order (name_of object e) sort name q.folder → probe_step object name q p e ≡ moved_of p (met r)
    step-told w f k =
        step-met h few
        ∙ ap (moved_of p) (met-good q.h object name q.folder e w ∙ ap met (ap (λ (x : Bool). name_order (name_of object e) x name q.folder) (sym f) ∙ sym k))

-- ---- the invariant

-- what the search at p comes to, where f says how records compare
abbrev end_of : (ℕ → Met) → Probe → Looked
end_of f p = pick p.on (search_from f p.low p.high p.looked.compared) p.looked

-- a search that goes on among n records
pub record Live (n : ℕ) (p : Probe) : Type 0 where
  pub left : p.low < p.high
  pub middle : p.at ≡ mid p.low p.high
  pub within : p.high ≤ n
  pub room : p.looked.compared + (p.high - p.low) ≤ most_records

-- the search at p stands for f among n records and comes to r
pub record Sure (f : ℕ → Met) (n : ℕ) (r : Looked) (p : Probe) : Type 0 where
  pub live : p.on ≡ true → Live n p
  pub same : r ≡ end_of f p

sure_aimed : (f : ℕ → Met) (n low high c : ℕ) → high ≤ n → c + (high - low) ≤ most_records → Sure f n (search_from f low high c) (aimed_of low high c)
unfolding aimed_of
sure_aimed f n low high c w r = record {
  live = λ on. record { left = ltb-true low high on; middle = refl; within = w; room = r };
  same = go (ltb low high) refl;
}
  where
    go : (t : Bool) → ltb low high ≡ t → search_from f low high c ≡ pick t (search_from f low high c) (absent c)
    go true e = refl
    go false e = search-end f low high c (ltb-false low high e)

sure_stopped : (f : ℕ → Met) (n : ℕ) (v : Verdict) (i c : ℕ) → Sure f n (record { verdict = v; index = i; compared = c }) (stopped_of v i c)
unfolding stopped_of
sure_stopped f n v i c = record { live = λ on. absurd (false≢true on); same = refl }

-- a search that comes to r comes to whatever r is
sure_of : (f : ℕ → Met) (n : ℕ) (r r' : Looked) (p : Probe) → r ≡ r' → Sure f n r' p → Sure f n r p
sure_of f n r r' p e s = record { live = s.live; same = e ∙ s.same }

module _ (f : ℕ → Met) (n : ℕ) (p : Probe) (l : Live n p) where
  abbrev c : ℕ
  c = p.looked.compared

  abbrev inside : p.at < p.high
  inside = omega (arith, l.middle, mid-high l.left)

  abbrev behind : p.low ≤ p.at
  behind = omega (arith, l.middle, mid-low l.left)

  -- one turn of the halving is one move of the search
  sure_moved : (o : Met) → Sure f n (turn o (search_from f) p.low p.high p.at c) (moved_of p o)
  sure_moved bad = sure_stopped f n (verdict 10 p.at) 0 0
  sure_moved (met Less) = sure_aimed f n (p.at + 1) p.high (c + 1) l.within (omega (arith, l.room, inside, behind))
  sure_moved (met Equal) = sure_stopped f n fine p.at (c + 1)
  sure_moved (met Greater) = sure_aimed f n p.low p.at (c + 1) (omega (arith, l.within, inside)) (omega (arith, l.room, inside, behind))

  -- the records to choose from are fewer
  moved_less : (o : Met) → (moved_of p o).high - (moved_of p o).low < p.high - p.low
  unfolding aimed_of stopped_of
  moved_less bad = omega (arith, l.left)
  moved_less (met Less) = omega (arith, inside, behind)
  moved_less (met Equal) = omega (arith, l.left)
  moved_less (met Greater) = omega (arith, inside, behind)

  -- what is left of the halving begins at the record to compare
  sure_turn : (r : Looked) → p.on ≡ true → r ≡ end_of f p → r ≡ turn (f p.at) (search_from f) p.low p.high p.at c
  sure_turn r on e =
      e ∙ ap (λ (t : Bool). pick t (search_from f p.low p.high c) p.looked) on
      ∙ search_more f p.low p.high c l.left
      ∙ ap (λ (m : ℕ). turn (f m) (search_from f) p.low p.high m c) (sym l.middle)

-- ---- for a loop over records of any form

-- the search at p is a lookup in these records
abbrev pub Going : List ℕ → List ℕ → Query → List EntryRecord → Probe → Type 0
Going object name q records p =
    Sure (compare_at q.h object records name q.folder) (length records) (lookup_in q.h object records name q.folder) p

module _ (object name : List ℕ) (q : Query) (records : List EntryRecord) where
  abbrev how : ℕ → Met
  how = compare_at q.h object records name q.folder

  abbrev answers : Looked
  answers = lookup_in q.h object records name q.folder

  abbrev gate : Result ⊤ Verdict
  gate = gate_of q.h (max (length object) (length name)) (length records)

  begins : (g : Result ⊤ Verdict) → gate ≡ g → Going object name q records (start_of (length object) (length name) (length records) q)
  begins (Ok tt) e =
      rw (start_open (length object) (length name) (length records) q _ refl e)
      (sure_of how (length records) answers _ _ (lookup_open q.h object records name q.folder e)
      (sure_aimed how (length records) 0 (length records) 0 (omega arith) (omega (arith, gate_open q.h _ (length records) e))))
  begins (Err v) e =
      rw (start-shut (length object) (length name) (length records) q _ refl v e)
      (sure_of how (length records) answers _ _ (lookup-shut q.h object records name q.folder v e) (sure_stopped how (length records) v 0 0))

  pub going_start : (n : ℕ) → n ≡ length records → (p : Probe) → p ≡ start_of (length object) (length name) n q → Going object name q records p
  going_start n en p ep =
      subst (Going object name q records)
      (sym (ep ∙ ap (λ (m : ℕ). start_of (length object) (length name) m q) en))
      (begins gate refl)

  module _ (p : Probe) (on : p.on ≡ true) (g : Going object name q records p) where
    -- the record to compare is there
    pub going-inside : p.at < length records
    going-inside = let l = g.live on in omega (arith, l.middle, mid-high l.left, l.within)

    -- it is compared
    going-met : (e : EntryRecord) → probe_step object name q p e ≡ moved_of p (compare_entry q.h object name q.folder e)
    going-met e = let l = g.live on in step-met object name q p e (omega (arith, l.middle, mid-high l.left)) (omega (arith, l.left, l.room))

    -- a step keeps on the way
    pub going_on : (e : EntryRecord) → e ≡ nth records p.at → (p' : Probe) → p' ≡ probe_step object name q p e → Going object name q records p'
    going_on e ee p' ep =
        subst (Going object name q records)
        (sym (ep ∙ going-met e ∙ ap (λ (x : EntryRecord). moved_of p (compare_entry q.h object name q.folder x)) ee))
        (sure_of how (length records) answers _ _ (sure_turn how (length records) p (g.live on) answers on g.same)
        (sure_moved how (length records) p (g.live on) (how p.at)))

    -- and there are fewer records to choose from
    pub going_less : (e : EntryRecord) (p' : Probe) → p' ≡ probe_step object name q p e → p'.high - p'.low < p.high - p.low
    going_less e p' ep =
        subst (λ (x : Probe). x.high - x.low < p.high - p.low) (sym (ep ∙ going-met e))
        (moved_less how (length records) p (g.live on) (compare_entry q.h object name q.folder e))

  -- a search that has ended has the answer
  pub going-ends : (p : Probe) → p.on ≡ false → Going object name q records p → answer_of p ≡ answers
  unfolding answer_of
  going-ends p off g = sym (g.same ∙ ap (λ (t : Bool). pick t (search_from how p.low p.high p.looked.compared) p.looked) off)
