-- Laws of `specs/Many.antt`: the sought names one by one, one answer, the two passes, the whole. Assumes nothing.
use Prim.Native.Nat.{ℕ, zero, suc, ◌+◌, ◌*◌, ◌<◌, ◌≤◌, min, max}
use native.Mathlib.Omega.{arith}
use native.Mathlib.Nat.{add-zero}
use native.Mathlib.Numerals.{add-one}
use native.Mathlib.Decide.{dec_lt}
use mathlib.Core.Path.{◌≡◌, refl, ap, sym, subst, ◌∙◌}
use mathlib.Core.Bool.{Bool, true, false, ◌&&◌}
use mathlib.Core.List.{List, [], ◌∷◌, ◌++◌, append-nil}
use mathlib.Core.Logic.{◌⊎◌, inl, inr, ⊎_elim}
use lib.Dec.{eqb, leb}
use lib.ListN.{length, get_or, take, drop, set, drop_of_length-le, take-append-drop, length-take}
use lib.Seq.{sets, drop-cons, drop-nil, take_at, take_all, get_or-take, length-sets, length-take-le}
use borrow.Author.Tests.{eq-eqb, ne_eqb, leb-true, le-leb, lt-leb}
use Rattle.ground.specs.Basics.{pick}
use Rattle.ground.specs.Verdict.{verdict, fine, counted, refused, gate_of, stored}
use Rattle.ground.specs.declared.Verdict.{Verdict}
use Rattle.ground.specs.declared.Answer.{Answer}
use Rattle.ground.proofs.Laws.{gate_shut, sets_append, sets_front, stored-done, stored_refused}
use Rattle.output.proofs.Laws.{sets-none, sets-past, gated-shut, gated_open}
use Rattle.entry.specs.Record.{records_of}
use Rattle.entry.specs.Record as entries
use Rattle.entry.proofs.Laws.{records-many}
use Rattle.lookup.specs.Halving.{declined}
use Rattle.lookup.specs.declared.Looked.{Looked}
use Rattle.lookups.specs.Many.{width, many, no_sought, sought_of, well_sought, single, one_answer, first_bad, kept, all_kept, unless_bad, and_room, first_gate, many_answer}
use Rattle.lookups.specs.declared.Sought.{Sought}
use Rattle.std.specs.Prelude.{Err, Ok, Result, ⊤}

-- ---- the sought names in flat numbers

pub sought-many : (l : List ℕ) → length (sought_of l) ≡ many (length l)
unfolding sought_of
sought-many [] = omega arith
sought-many (s ∷ []) = omega arith
sought-many (s ∷ e ∷ []) = omega arith
sought-many (s ∷ e ∷ m ∷ rest) = omega (arith, sought-many rest)

-- name i is the three numbers from 3 i on
pub sought-at : (l : List ℕ) (i : ℕ) → i < many (length l)
    → get_or (sought_of l) i no_sought ≡ record { start = get_or l (i * width) 0; end = get_or l (i * width + 1) 0; mark = get_or l (i * width + 2) 0 }
unfolding sought_of
sought-at [] i p = absurd (omega arith)
sought-at (s ∷ []) i p = absurd (omega arith)
sought-at (s ∷ e ∷ []) i p = absurd (omega arith)
sought-at (s ∷ e ∷ m ∷ rest) zero p = refl
sought-at (s ∷ e ∷ m ∷ rest) (suc i) p =
    let z : suc i * width ≡ suc (suc (suc (i * width))) = omega arith in
    let z1 : suc i * width + 1 ≡ suc (suc (suc (i * width + 1))) = omega arith in
    let z2 : suc i * width + 2 ≡ suc (suc (suc (i * width + 2))) = omega arith in
    rw (z1, z2, z) (sought-at rest i (omega arith))

module _ (sought : List ℕ) (i : ℕ) where
  pub rest_more : i < many (length sought) → drop i (sought_of sought) ≡ get_or (sought_of sought) i no_sought ∷ drop (i + 1) (sought_of sought)
  rest_more p = rw (add-one i) (drop-cons (sought_of sought) i no_sought (rw (sought-many sought) p))

  pub rest_end : many (length sought) ≤ i → drop i (sought_of sought) ≡ []
  rest_end p = drop_of_length-le (sought_of sought) {i = i} (rw (sought-many sought) p)

-- ---- one answer

module _ (h : ℕ) (object records names : List ℕ) (q : Sought) where
  pub one-bad : well_sought (length names) q ≡ false → one_answer h object records names q ≡ declined (verdict 10 0)
  unfolding one_answer
  one-bad e = rw e

  -- what the single call gives
  pub one_single : well_sought (length names) q ≡ true → one_answer h object records names q ≡ single h object records names q
  unfolding one_answer
  one_single e = rw e

module _ (len : ℕ) (q : Sought) where
  pub well_backward : q.end < q.start → well_sought len q ≡ false
  unfolding well_sought
  well_backward p = rw (lt-leb q.start q.end p)

  pub well_outside : q.start ≤ q.end → len < q.end → well_sought len q ≡ false
  unfolding well_sought
  well_outside p o = rw (le-leb q.start q.end p, lt-leb q.end len o)

  pub well_marked : q.start ≤ q.end → q.end ≤ len → well_sought len q ≡ leb q.mark 1
  unfolding well_sought
  well_marked p o = rw (le-leb q.start q.end p, le-leb q.end len o)

  -- a name that is well formed lies inside
  pub well_inside : well_sought len q ≡ true → (q.start ≤ q.end) × (q.end ≤ len)
  unfolding well_sought
  well_inside = go (leb q.start q.end) refl (leb q.end len) refl
    where
      go : (t : Bool) → leb q.start q.end ≡ t → (u : Bool) → leb q.end len ≡ u → (t && (u && leb q.mark 1)) ≡ true
          → (q.start ≤ q.end) × (q.end ≤ len)
      go true e true f w = (leb-true _ _ e, leb-true _ _ f)
      go true e false f w = let z : ◌≡◌ {A = ℕ} 0 1 = cc in absurd (omega arith)
      go false e u f w = let z : ◌≡◌ {A = ℕ} 0 1 = cc in absurd (omega arith)

-- ---- the two passes, from an index on

module _ (f : Sought → Looked) (sought : List ℕ) (i : ℕ) where
  pub bad_end : many (length sought) ≤ i → first_bad f i (drop i (sought_of sought)) ≡ fine
  unfolding first_bad
  bad_end p = rw (rest_end sought i p)

  pub kept-end : (out : List ℕ) → many (length sought) ≤ i → sets out (i * width) (all_kept f (drop i (sought_of sought))) ≡ out
  unfolding all_kept
  kept-end out p = rw (rest_end sought i p)

  module _ (p : i < many (length sought)) (q : Sought) (e : q ≡ get_or (sought_of sought) i no_sought) where
    rest-is : drop i (sought_of sought) ≡ q ∷ drop (i + 1) (sought_of sought)
    rest-is = rest_more sought i p ∙ ap (λ (x : Sought). x ∷ drop (i + 1) (sought_of sought)) (sym e)

    pub bad-here : (a : Looked) → a ≡ f q → a.verdict.number ≡ 10 → first_bad f i (drop i (sought_of sought)) ≡ verdict 10 i
    unfolding first_bad
    bad-here a w t = rw rest-is (simp (eq-eqb (f q).verdict.number 10 (sym (ap (λ (x : Looked). x.verdict.number) w) ∙ t)))

    pub bad-next : (a : Looked) → a ≡ f q → (a.verdict.number ≡ 10 → ⊥) → first_bad f i (drop i (sought_of sought)) ≡ first_bad f (i + 1) (drop (i + 1) (sought_of sought))
    unfolding first_bad
    bad-next a w t = rw rest-is (simp (ne_eqb (f q).verdict.number 10 (λ z. t (ap (λ (x : Looked). x.verdict.number) w ∙ z))))

    pub kept_next : (a : Looked) → a ≡ f q → (out after : List ℕ) → after ≡ sets out (i * width) (kept a)
        → sets out (i * width) (all_kept f (drop i (sought_of sought))) ≡ sets after ((i + 1) * width) (all_kept f (drop (i + 1) (sought_of sought)))
    unfolding all_kept
    kept_next a w out after s =
        let z : (i + 1) * width ≡ i * width + 3 = omega arith in
        rw (rest-is, z, s, w) (sets_append out (i * width) (kept (f q)) (all_kept f (drop (i + 1) (sought_of sought))))

-- names further on meet no 10 where none does
pub bad-later : (f : Sought → Looked) (i k : ℕ) (qs : List Sought) → (first_bad f i qs).number ≡ 0 → (first_bad f (i + k) (drop k qs)).number ≡ 0
unfolding first_bad
bad-later f i zero qs z = rw (add-zero i) z
bad-later f i (suc k) [] z = refl
bad-later f i (suc k) (q ∷ qs) z = go (bad-later f (i + 1) k qs) (eqb (f q).verdict.number 10) z
  where
    go : ((first_bad f (i + 1) qs).number ≡ 0 → (first_bad f (i + 1 + k) (drop k qs)).number ≡ 0) → (v : Bool)
        → (pick v (verdict 10 i) (first_bad f (i + 1) qs)).number ≡ 0 → (first_bad f (i + suc k) (drop k qs)).number ≡ 0
    go ih true z = absurd (omega arith)
    go ih false z = let e : i + 1 + k ≡ i + suc k = omega arith in subst (λ (j : ℕ). (first_bad f j (drop k qs)).number ≡ 0) e (ih z)

-- ---- storing

-- three stores are one run
pub kept-stored : (out : List ℕ) (i : ℕ) (a : Looked) → set (set (set out (i * width) a.verdict.number) (i * width + 1) a.index) (i * width + 2) a.compared ≡ sets out (i * width) (kept a)
kept-stored out i a =
    let y : i * width + 1 ≡ suc (i * width) = omega arith in
    let z : i * width + 2 ≡ suc (suc (i * width)) = omega arith in
    rw (y, z)

pub kept-length : (f : Sought → Looked) (qs : List Sought) → length (all_kept f qs) ≡ length qs * width
unfolding all_kept
kept-length f [] = omega arith
kept-length f (q ∷ qs) = omega (arith, kept-length f qs)

kept-drop : (f : Sought → Looked) (k : ℕ) (qs : List Sought) → drop (k * width) (all_kept f qs) ≡ all_kept f (drop k qs)
unfolding all_kept
kept-drop f zero qs = refl
kept-drop f (suc k) [] = drop-nil (suc k * width)
kept-drop f (suc k) (q ∷ qs) = let z : suc k * width ≡ suc (suc (suc (k * width))) = omega arith in rw z (kept-drop f k qs)

-- an answer for which there is no room is not stored
pub kept-past : (out : List ℕ) (i : ℕ) (a : Looked) → (i * width < length out → i * width + width ≤ length out) → many (length out) ≤ i
    → sets out (i * width) (kept a) ≡ out
kept-past out i a w p = elim (dec_lt (i * width) (length out)) [
  | yes l ↦ absurd (omega (arith, w l))
  | no l ↦ sets-past out (i * width) (kept a) (omega arith)
]

-- from one number of a copy to the next
pub copy_more : (l own : List ℕ) (count i : ℕ) → i < count → i < length own
    → sets l i (drop i (take count own)) ≡ sets (set l i (get_or own i 0)) (i + 1) (drop (i + 1) (take count own))
copy_more l own count i p q =
    let part : List ℕ = take count own in
    let in-part : i < length part = simp length-take (omega arith) in
    rw (add-one i, drop-cons part i 0 in-part, get_or-take count own i 0 p)

-- nothing is left of it
pub copy_end : (l own : List ℕ) (count i : ℕ) → min count (length own) ≤ i → sets l i (drop i (take count own)) ≡ l
copy_end l own count i p = sets-none l (take count own) i i (simp length-take p)

-- numbers stored in a list that is too short for them fill it
sets_full : (l p : List ℕ) → length l ≤ length p → sets l 0 p ≡ take (length l) p
sets_full l p h =
    let n : ℕ = length l in
    let first : List ℕ = take n p in
    let k : length first ≡ n = length-take-le n p h in
    ap (sets l 0) (sym (take-append-drop n p))
    ∙ sets_append l 0 first (drop n p)
    ∙ sets-past (sets l 0 first) (0 + length first) (drop n p) (omega (arith, length-sets l 0 first))
    ∙ sets_front l first (omega arith)
    ∙ ap (λ (r : List ℕ). first ++ r) (drop_of_length-le l {i = length first} (omega arith))
    ∙ append-nil first

-- where all answers were kept in the call's own list
kept-few : (own out all : List ℕ) (n : ℕ) → length all ≡ n → n ≤ length own → (mid after : List ℕ) → mid ≡ sets own 0 all → after ≡ sets out 0 (take n mid)
    → after ≡ sets out 0 all
kept-few own out all n l fits mid after m s =
    s ∙ ap (λ (r : List ℕ). sets out 0 (take n r)) (m ∙ sets_front own all (omega arith)) ∙ ap (sets out 0) (take_at all (drop (length all) own) n l)

-- where only the first were kept there, and the others are stored behind them
kept-rest : (f : Sought → Looked) (qs : List Sought) (own out : List ℕ) (k : ℕ) → length own ≡ k * width → k ≤ length qs → (mid after : List ℕ)
    → mid ≡ sets own 0 (all_kept f qs) → after ≡ sets (sets out 0 (take (length qs * width) mid)) (k * width) (all_kept f (drop k qs)) → after ≡ sets out 0 (all_kept f qs)
kept-rest f qs own out k l fits mid after m s =
    let all : List ℕ = all_kept f qs in
    let z : length own ≤ length all = omega (arith, kept-length f qs) in
    let first : mid ≡ take (k * width) all = m ∙ sets_full own all z ∙ ap (λ (j : ℕ). take j all) l in
    let short : length mid ≤ length qs * width = omega (arith, ap length m, length-sets own 0 all) in
    let size : k * width ≡ 0 + length (take (k * width) all) = omega (arith, length-take-le (k * width) all (omega arith)) in
    s ∙ ap (λ (r : List ℕ). sets (sets out 0 r) (k * width) (all_kept f (drop k qs))) (take_all (length qs * width) mid short ∙ first)
    ∙ ap (sets (sets out 0 (take (k * width) all)) (k * width)) (sym (kept-drop f k qs))
    ∙ ap (λ (j : ℕ). sets (sets out 0 (take (k * width) all)) j (drop (k * width) all)) size
    ∙ sym (sets_append out 0 (take (k * width) all) (drop (k * width) all))
    ∙ ap (sets out 0) (take-append-drop (k * width) all)

-- every answer, from the call's own list of k answers and behind them
kept-all : (f : Sought → Looked) (qs : List Sought) (own out : List ℕ) (k : ℕ) → length own ≡ k * width → (mid after : List ℕ)
    → mid ≡ sets own 0 (all_kept f qs) → after ≡ sets (sets out 0 (take (length qs * width) mid)) (k * width) (all_kept f (drop k qs)) → after ≡ sets out 0 (all_kept f qs)
unfolding all_kept
kept-all f qs own out k l mid after m s = elim (dec_lt k (length qs)) [
  | yes p ↦ kept-rest f qs own out k l (omega arith) mid after m s
  | no p ↦
      let none : drop k qs ≡ [] = drop_of_length-le qs {i = k} (omega arith) in
      kept-few own out (all_kept f qs) (length qs * width) (kept-length f qs) (omega arith) mid after m
      (s ∙ ap (λ (r : List Sought). sets (sets out 0 (take (length qs * width) mid)) (k * width) (all_kept f r)) none)
]

-- the two passes: the first kept what fits in its own list, the second stores the others
pub both-passes : (f : Sought → Looked) (sought own out mid between after : List ℕ) (k numbers : ℕ) (v w : Verdict)
    → length own ≡ k * width → numbers ≡ many (length sought) * width → numbers ≤ length out → v.number ≡ 0
    → v ≡ first_bad f 0 (sought_of sought) → (v.number ≡ 0 → mid ≡ sets own 0 (all_kept f (sought_of sought))) → between ≡ sets out 0 (take numbers mid)
    → w ≡ first_bad f k (drop k (sought_of sought)) → (w.number ≡ 0 → after ≡ sets between (k * width) (all_kept f (drop k (sought_of sought))))
    → after ≡ stored v (all_kept f (sought_of sought)) out
both-passes f sought own out mid between after k numbers v w l n room z e m b d s =
    let qs : List Sought = sought_of sought in
    let count : numbers ≡ length qs * width = omega (arith, sought-many sought) in
    let start : 0 + k ≡ k = omega arith in
    let later : w.number ≡ 0 =
    ap (λ (x : Verdict). x.number) (d ∙ ap (λ (j : ℕ). first_bad f j (drop k qs)) (sym start)) ∙ bad-later f 0 k qs (sym (ap (λ (x : Verdict). x.number) e) ∙ z) in
    kept-all f qs own out k l mid after (m z)
    (s later ∙ ap (λ (r : List ℕ). sets r (k * width) (all_kept f (drop k qs))) (b ∙ ap (λ (j : ℕ). sets out 0 (take j mid)) count))
    ∙ sets_front out (all_kept f qs) (omega (arith, kept-length f qs))
    ∙ sym (stored-done v (all_kept f qs) out z)

-- ---- the whole

module _ (h bytes records n room inner most : ℕ) (a : inner ≡ max n room) (b : most ≡ max records inner) where
  most-is : max records (max n room) ≡ most
  most-is = ap (max records) (sym a) ∙ sym b

  pub first-shut : (v : Verdict) → gate_of h bytes most ≡ Err v → first_gate h bytes records n room ≡ Err v
  unfolding first_gate
  first-shut v g = rw (most-is, g)

  module _ (g : gate_of h bytes most ≡ Ok tt) where
    pub first_short : room < n → first_gate h bytes records n room ≡ Err (verdict 4 n)
    unfolding first_gate
    first_short p = rw (most-is, g) (simp (lt-leb n room p))

    pub first_open : n ≤ room → first_gate h bytes records n room ≡ Ok tt
    unfolding first_gate
    first_open p = rw (most-is, g) (simp (le-leb n room p))

-- a call that may begin has room
pub first-room : (h bytes records n room : ℕ) → first_gate h bytes records n room ≡ Ok tt → (gate_of h bytes (max records (max n room)) ≡ Ok tt) × (n ≤ room)
unfolding first_gate
first-room h bytes records n room e = go (gate_of h bytes (max records (max n room))) refl e
  where
    last : (v : Bool) → leb n room ≡ v → pick {A = Result ⊤ Verdict} v (Ok tt) (Err (verdict 4 n)) ≡ Ok tt → n ≤ room
    last true q e = leb-true n room q
    last false q e = let z : ◌≡◌ {A = ℕ} 0 1 = cc in absurd (omega arith)

    go : (g : Result ⊤ Verdict) → gate_of h bytes (max records (max n room)) ≡ g → and_room n room g ≡ Ok tt → (gate_of h bytes (max records (max n room)) ≡ Ok tt) × (n ≤ room)
    go (Ok tt) q e = (q, last (leb n room) refl e)
    go (Err v) q e = let z : ◌≡◌ {A = ℕ} 0 1 = cc in absurd (omega arith)

-- a call that may not is refused 1, 2 or 4
pub first-refuses : (h bytes records n room : ℕ) (v : Verdict) → first_gate h bytes records n room ≡ Err v
    → (v.number ≡ 1) ⊎ ((v.number ≡ 2) ⊎ (v.number ≡ 4))
unfolding first_gate
first-refuses h bytes records n room v e = go (gate_of h bytes (max records (max n room))) refl e
  where
    number : {w : Verdict} → ◌≡◌ {A = Result ⊤ Verdict} (Err w) (Err v) → w.number ≡ v.number
    number {w} q = let e : w ≡ v = cc in ap (λ (x : Verdict). x.number) e

    last : (t : Bool) → pick {A = Result ⊤ Verdict} t (Ok tt) (Err (verdict 4 n)) ≡ Err v → (v.number ≡ 1) ⊎ ((v.number ≡ 2) ⊎ (v.number ≡ 4))
    last true q = let z : ◌≡◌ {A = ℕ} 0 1 = cc in absurd (omega arith)
    last false q = inr (inr (sym (number q)))

    go : (g : Result ⊤ Verdict) → gate_of h bytes (max records (max n room)) ≡ g → and_room n room g ≡ Err v → (v.number ≡ 1) ⊎ ((v.number ≡ 2) ⊎ (v.number ≡ 4))
    go (Ok tt) q e = last (leb n room) e
    go (Err w) q e =
        let s : w.number ≡ v.number = number e in
        ⊎_elim (λ k. inl (sym s ∙ ap (λ (x : Verdict). x.number) k)) (λ k. inr (inl (sym s ∙ ap (λ (x : Verdict). x.number) k))) (gate_shut _ _ _ w q)

pub first-number : (h bytes records n room : ℕ) (v : Verdict) → first_gate h bytes records n room ≡ Err v → v.number ≡ 0 → ⊥
first-number h bytes records n room v e z =
    ⊎_elim (λ q. omega arith) (λ r. ⊎_elim (λ q. omega arith) (λ q. omega arith) r) (first-refuses h bytes records n room v e)

pub passed_done : (v : Verdict) (n : ℕ) → v.number ≡ 0 → unless_bad v n ≡ counted n
passed_done v n z = simp (eq-eqb v.number 0 z)

pub passed_bad : (v : Verdict) (n : ℕ) → (v.number ≡ 0 → ⊥) → unless_bad v n ≡ refused v
passed_bad v n z = simp (ne_eqb v.number 0 z)

-- the verdict on the names as an answer, and the list after it
pub ran_bad : (v w : Verdict) (n : ℕ) (l out : List ℕ) → v ≡ w → (v.number ≡ 0 → ⊥) → (refused v ≡ unless_bad w n) × (out ≡ stored v l out)
ran_bad v w n l out e z = (sym (passed_bad v n z) ∙ ap (λ (x : Verdict). unless_bad x n) e, sym (stored_refused _ _ _ z))

pub ran_done : (v w : Verdict) (n : ℕ) (l out after : List ℕ) → v ≡ w → v.number ≡ 0 → after ≡ stored v l out
    → (counted n ≡ unless_bad w n) × (after ≡ stored fine l out)
unfolding stored
ran_done v w n l out after e z s = (sym (passed_done v n z) ∙ ap (λ (x : Verdict). unless_bad x n) e, s ∙ rw (eq-eqb _ _ z))

module _ (h : ℕ) (object records names sought : List ℕ) (numbers bytes count : ℕ) (b : bytes ≡ max (length object) (length names))
    (c : count ≡ entries.many (length records)) where
  gate_is : first_gate h (max (length object) (length names)) (length (records_of records)) (many (length sought)) (many numbers)
      ≡ first_gate h bytes count (many (length sought)) (many numbers)
  gate_is = rw (sym b, records-many records, sym c)

  pub many-shut : (v : Verdict) → first_gate h bytes count (many (length sought)) (many numbers) ≡ Err v → many_answer h object records names sought numbers ≡ refused v
  unfolding many_answer
  many-shut v g = gated-shut _ v _ (gate_is ∙ g)

  many_open : first_gate h bytes count (many (length sought)) (many numbers) ≡ Ok tt
      → many_answer h object records names sought numbers ≡ unless_bad (first_bad (one_answer h object records names) 0 (sought_of sought)) (many (length sought))
  unfolding many_answer
  many_open g = gated_open _ _ (gate_is ∙ g)

  -- the call's answer and the list after it, from the verdict on the names
  pub many_ran : first_gate h bytes count (many (length sought)) (many numbers) ≡ Ok tt → (r : Answer)
      → r ≡ unless_bad (first_bad (one_answer h object records names) 0 (sought_of sought)) (many (length sought)) → (l out after : List ℕ) → after ≡ stored r.verdict l out
      → (r ≡ many_answer h object records names sought numbers) × (after ≡ stored (many_answer h object records names sought numbers).verdict l out)
  many_ran g r p l out after s =
      let same : r ≡ many_answer h object records names sought numbers = p ∙ sym (many_open g) in
      (same, s ∙ ap (λ (x : Answer). stored x.verdict l out) same)
