-- Laws of a listing that rules cut: what it stops with, what keeps them to its end, and what reading it answers. Assumes nothing.
use Prim.Native.Nat.{ℕ, ◌+◌, ◌≤◌, ◌<◌}
use native.Mathlib.Omega.{arith}
use mathlib.Core.Path.{◌≡◌, refl, ap}
use mathlib.Core.Bool.{Bool, true, false}
use mathlib.Core.List.{List, [], ◌∷◌}
use mathlib.Core.Logic.{◌⊎◌}
use lib.Dec.{eqb}
use lib.ListN.{length}
use borrow.Author.Tests.{eq-eqb, ne_eqb, eqb-false, le-leb, lt-leb}
use Rattle.ground.specs.Basics.{pick}
use Rattle.ground.specs.Verdict.{verdict, counted, stored, most_bytes}
use Rattle.ground.specs.declared.Verdict.{Verdict}
use Rattle.ground.specs.declared.Answer.{Answer}
use Rattle.entry.specs.Record.{many}
use Rattle.entry.specs.Entry.{Entry, entry_of}
use Rattle.entry.specs.declared.EntryRecord.{EntryRecord}
use Rattle.rules.specs.Rules.{Rules, judge, git_rules}
use Rattle.rules.specs.Gate.{rule_gate}
use Rattle.rules.proofs.Laws.{rule_known, rule_shut, rule_open}
use Rattle.reading.specs.Listing.{Listing, done, stop, entry, listing, records_in, flats, tally}
use Rattle.reading.specs.Whole.{answer_of, read_answer, read_records}
use Rattle.reading.proofs.Laws.{Stops, Refusal, plain-refuses}
use Rattle.strict.specs.Strict.{text_of, cut, strictly, strict_count, strict_answer, strict_records}
use Rattle.std.specs.Prelude.{Err, Ok, Result, ⊤}

-- ---- what it stops with

-- a listing cut by rules stops so too, or with what they say at an entry's first byte
pub cut_stops : (P : Verdict → Type 0) (R : Rules)
    → ((before : List Entry) (text : List ℕ) (e : Entry) (at : ℕ) → (judge R before text e ≡ 0 → ⊥) → P (verdict (judge R before text e) at))
    → (h : ℕ) (s : List ℕ) (before : List Entry) (l : Listing) → Stops P l → Stops P (cut R h s before l)
unfolding cut
cut_stops P R said h s before done p = tt
cut_stops P R said h s before (stop v) p = p
cut_stops P R said h s before (entry at e l) p = go (cut_stops P R said h s (entry_of h s e ∷ before) l p) (eqb no 0) refl
  where
    no : ℕ
    no = judge R before (text_of s at e) (entry_of h s e)

    go : Stops P (cut R h s (entry_of h s e ∷ before) l) → (v : Bool) → eqb no 0 ≡ v
        → Stops P (pick v (entry at e (cut R h s (entry_of h s e ∷ before) l)) (stop (verdict no at)))
    go ih true q = ih
    go ih false q = said before (text_of s at e) (entry_of h s e) at (eqb-false no 0 q)

pub cut-refuses : (R : Rules) (h : ℕ) (s : List ℕ) → Stops Refusal (strictly R h s)
cut-refuses R h s = cut_stops Refusal R (λ before text e at z. z) h s [] (listing h s) (plain-refuses h s)

pub strict-refuses : (k h bytes records : ℕ) (v : Verdict) → rule_gate k h bytes records ≡ Err v → Refusal v
strict-refuses = rule_shut Refusal (λ e. omega arith) (λ e. omega arith) (λ e. omega arith)

-- ---- what rules cut

module _ (R : Rules) (h : ℕ) (s : List ℕ) (before : List Entry) (at : ℕ) (e : EntryRecord) (l : Listing) where
  abbrev pub said : ℕ
  said = judge R before (text_of s at e) (entry_of h s e)

  pub cut-bad : (said ≡ 0 → ⊥) → cut R h s before (entry at e l) ≡ stop (verdict said at)
  unfolding cut
  cut-bad j = simp (ne_eqb said 0 j)

  pub cut-fine : said ≡ 0 → cut R h s before (entry at e l) ≡ entry at e (cut R h s (entry_of h s e ∷ before) l)
  unfolding cut
  cut-fine j = simp (eq-eqb said 0 j)

-- whatever keeps the rules to its end is the plain listing: the strict reader accepts nothing that the plain one does not, and gives the same records
pub cut-plain : (R : Rules) (h : ℕ) (s : List ℕ) (before : List Entry) (m n : ℕ) (l : Listing) → tally m (cut R h s before l) ≡ Ok n → cut R h s before l ≡ l
unfolding cut tally
cut-plain R h s before m n done t = refl
cut-plain R h s before m n (stop v) t = refl
cut-plain R h s before m n (entry at e l) t = go (cut-plain R h s (entry_of h s e ∷ before) (m + 1) n l) (eqb (said R h s before at e l) 0) t
  where
    go : (tally (m + 1) (cut R h s (entry_of h s e ∷ before) l) ≡ Ok n → cut R h s (entry_of h s e ∷ before) l ≡ l) → (v : Bool)
        → tally m (pick v (entry at e (cut R h s (entry_of h s e ∷ before) l)) (stop (verdict (said R h s before at e l) at))) ≡ Ok n
        → pick v (entry at e (cut R h s (entry_of h s e ∷ before) l)) (stop (verdict (said R h s before at e l) at)) ≡ entry at e l
    go ih true t = ap (entry at e) (ih t)
    go ih false t = let y : ◌≡◌ {A = ℕ} 0 1 = cc in absurd (omega arith)

-- the same of a whole object
pub strict-plain : (R : Rules) (h : ℕ) (s : List ℕ) (n : ℕ) → tally 0 (strictly R h s) ≡ Ok n → strictly R h s ≡ listing h s
strict-plain R h s n t = cut-plain R h s [] 0 n (listing h s) t

-- ---- the answer

-- by one of the two rule sets the answer and the records are those of the listing that its rules cut
module _ (k h : ℕ) (s lent : List ℕ) where
  pub strict-answers : (k ≡ 1) ⊎ (k ≡ 2) → strict_answer k h s lent ≡ read_answer h s (strictly (git_rules k) h s) lent
  strict-answers i = ap (λ (g : Result ⊤ Verdict). answer_of g (strictly (git_rules k) h s) (many (length lent))) (rule_known k h (length s) (many (length lent)) i)

  pub strict-stores : (k ≡ 1) ⊎ (k ≡ 2) → strict_records k h s lent ≡ read_records h s (strictly (git_rules k) h s) lent
  strict-stores i = ap (λ (a : Answer). stored a.verdict (flats (records_in (strictly (git_rules k) h s))) lent) (strict-answers i)

  -- and nothing is counted by another
  pub strict-set : (n : ℕ) → strict_answer k h s lent ≡ counted n → (k ≡ 1) ⊎ (k ≡ 2)
  unfolding answer_of
  strict-set n e = go (rule_gate k h (length s) (many (length lent))) refl e
    where
      go : (g : Result ⊤ Verdict) → rule_gate k h (length s) (many (length lent)) ≡ g
          → answer_of g (strictly (git_rules k) h s) (many (length lent)) ≡ counted n → (k ≡ 1) ⊎ (k ≡ 2)
      go (Ok tt) q e = rule_open k h (length s) (many (length lent)) q
      go (Err v) q e = absurd (strict-refuses k h (length s) (many (length lent)) v q (ap (λ (a : Answer). a.verdict.number) e))

-- ---- the count by itself

module _ (k h : ℕ) (s : List ℕ) where
  pub count-over : most_bytes < length s → strict_count k h s ≡ Err (verdict 2 0)
  unfolding strict_count
  count-over p = rw (lt-leb (length s) most_bytes p)

  pub count-within : length s ≤ most_bytes → strict_count k h s ≡ tally 0 (strictly (git_rules k) h s)
  unfolding strict_count
  count-within p = rw (le-leb (length s) most_bytes p)
