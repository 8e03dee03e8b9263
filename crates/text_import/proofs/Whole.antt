-- The whole of an import: what the sorts say together, and the answer. Assumes nothing.
use Prim.Native.Nat.{ℕ, suc, ◌/◌, ◌<◌, ◌≤◌, max}
use native.Mathlib.Omega.{arith}
use mathlib.Core.Path.{◌≡◌, refl, ap, sym, ◌∙◌}
use mathlib.Core.Logic.{inr, ⊎_elim}
use mathlib.Core.Bool.{Bool, true, false, ◌&&◌}
use mathlib.Core.List.Memᴰ
use mathlib.Core.List.{List, [], ◌∷◌, ◌++◌, map, Memᴰ}
use lib.Dec.{ltb}
use lib.ListN.{length, drop}
use lib.Seq.{sets}
use borrow.Author.Tests.{eq-eqb, ne_eqb, ltb-true, ltb-false}
use Rattle.ground.specs.Basics.{pick}
use Rattle.ground.specs.Verdict.{verdict, fine, counted, refused, most_bytes, most_records, id_length, stored}
use Rattle.ground.specs.declared.Verdict.{Verdict}
use Rattle.ground.specs.declared.Answer.{Answer}
use Rattle.ground.proofs.Laws.{equal, gate_open, id-made}
use Rattle.output.specs.Output.{fitted}
use Rattle.output.proofs.Laws.{fitted-bad, fitted_short, fitted-fine, refused-both, done-both, gated-shut, gated_open}
use Rattle.mode.specs.Mode.{is_tree}
use Rattle.order.specs.Order.{is_below, name_order}
use Rattle.entry.specs.Entry.{Entry, as_written}
use Rattle.rules.specs.Rules.{stands_before}
use Rattle.rules.specs.Gate.{rule_gate}
use Rattle.rules.proofs.Laws.{rule_known, rule_open}
use Rattle.keys.specs.Key.{slash, key_at, below_by, decide}
use Rattle.keys.proofs.Keys.{key_names, key_strict}
use Rattle.sorting.specs.Sort.{sort_by}
use Rattle.sorting.proofs.Sorted.{sort-length, sort-ascends}
use Rattle.sorting.proofs.Repeats.{sorted-mem, mem-sorted}
use Rattle.mend.proofs.Sorts.{sort-map, sort-same}
use Rattle.text_record.specs.Record.{name_in, text_number, entry_in}
use Rattle.text_repeats.specs.Least.{same_record, least_next, told}
use Rattle.text_repeats.proofs.Least.{Least, least_sorted}
use Rattle.text_pairs.specs.Pairs.{least_pair, judged_by}
use Rattle.text_import.specs.Import.{Texts, done, stop, one, texts, entries_in, ending, compare_same, name_same, repeated, or_then, import_verdict, imported, counted_of, import_answer, is_same}
use Rattle.text_import.specs.Code.{elements_in, places_in, gathered, in_order, AllRead, all_bytes}
use Rattle.text_import.proofs.Walk.{read-few}
use Rattle.text_import.proofs.Places.{mem-map, map-mem, good-texts, place-good, el, elements_are, entries_are, element_range, element_half, elements-once, name-plain, key-there}
use Rattle.text_import.proofs.Repeats.{S, same_key, key-same, name_agrees, order_agrees, first, low, small}
use Rattle.text_import.proofs.Pairs.{is-pair}
use Rattle.std.specs.Prelude.{Err, Ok}
use Rattle.std.specs.declared.cmp.Ordering.{Ordering}
use Rattle.std.specs.declared.cmp.Ordering.TheVariants.{Equal, Greater, Less}

pub elements-many : (t : Texts) → length (elements_in t) ≡ length (entries_in t)
unfolding elements_in entries_in
elements-many done = refl
elements-many (stop v) = refl
elements-many (one at e l) = ap suc (elements-many l)

same-order : (d e : Entry) → name_order d.name (is_tree d.mode) e.name (is_tree e.mode) ≡ Equal → compare_same d e ≡ true
unfolding compare_same
same-order d e p = ap is_same p

module _ (k h : ℕ) (s : List ℕ) (short : length s ≤ most_bytes) where
  good : (p : ℕ) → Memᴰ p (places_in (texts k h s)) → text_number k h (drop p s) ≡ 0
  good p m = (place-good k h s 0 (texts k h s) (good-texts k h s) p m).1

  elements : elements_in (texts k h s) ≡ map (el k h s true) (places_in (texts k h s))
  elements = elements_are k h s 0 (texts k h s) (good-texts k h s)

  -- the least element that repeats a name and a sort, and the least pair
  abbrev least : ℕ
  least = least_next (same_record s) (in_order s (texts k h s)) 4294967296

  abbrev pair : ℕ
  pair = least_pair (below_by (key_at s 9 0)) (same_record s) (in_order s (texts k h s)) (in_order s (texts k h s)) 4294967296

  is_least : Least (same_record s) (map (el k h s true) (places_in (texts k h s))) (least_next (same_record s) (in_order s (texts k h s)) 4294967296)
  is_least =
      rw elements
      (least_sorted (key_at s 9 0) (same_record s) (map (el k h s true) (places_in (texts k h s))) (elements-once k h s true 0 (texts k h s) (good-texts k h s))
      (λ x y a b e. same_key s x y e)
      (λ x y a b e.
      let p = map-mem (el k h s true) x (places_in (texts k h s)) a in
      let q = map-mem (el k h s true) y (places_in (texts k h s)) b in
      rw (p.2, q.2) (key-same k h s true true p.0 q.0 (good p.0 p.1) (good q.0 q.1) (sym (ap (key_at s 9 0) p.2) ∙ e ∙ ap (key_at s 9 0) q.2))))

  says : (folders : Bool) (r : ℕ) → Least (same_record s) (map (el k h s folders) (places_in (texts k h s))) r → (same : Entry → Entry → Bool)
      → ((p q : ℕ) → text_number k h (drop p s) ≡ 0 → text_number k h (drop q s) ≡ 0 → same (entry_in k h (drop p s)) (entry_in k h (drop q s)) ≡ S k h s folders p q)
      → (n : ℕ) → repeated n same [] (texts k h s) ≡ pick (ltb r 4294967296) (verdict n (r / 2)) fine
  says folders r L same agrees n =
      first k h s short folders same agrees n (places_in (texts k h s)) good r L [] 0 (texts k h s) (good-texts k h s)
      (λ p m. absurd (Memᴰ.not-nil m)) (λ p m. inr m) (λ p m. m) (λ p q a b. absurd (Memᴰ.not-nil b))

  module _ (z : 4294967296 ≤ least) where
    never : (p q : ℕ) → Memᴰ p (places_in (texts k h s)) → Memᴰ q (places_in (texts k h s)) → p < q → S k h s true p q ≡ true → ⊥
    never p q a b l e =
        let c = low k h s short true compare_same (order_agrees k h s) 7 (places_in (texts k h s)) good least is_least p q a b l e in
        let d = small k h s short true compare_same (order_agrees k h s) 7 (places_in (texts k h s)) good least is_least q b in
        omega (arith, c, d, z)

    pairs : Least (same_record s) (map (el k h s false) (places_in (texts k h s))) pair
    pairs =
        is-pair k h s (places_in (texts k h s)) good never (in_order s (texts k h s)) (sort-ascends (below_by (key_at s 9 0)) (key_strict (key_at s 9 0)) (elements_in (texts k h s)))
        (λ p m. sorted-mem (key_at s 9 0) (elements_in (texts k h s)) (el k h s true p) (rw elements (mem-map (el k h s true) p (places_in (texts k h s)) m)))
        (λ x m. map-mem (el k h s true) x (places_in (texts k h s)) (rw elements at (mem-sorted (key_at s 9 0) (elements_in (texts k h s)) x m)))

  -- what the sort says is the verdict after all records
  pub judged-is : (ending (texts k h s)).number ≡ 0 → judged_by s (in_order s (texts k h s)) ≡ import_verdict (texts k h s)
  unfolding judged_by told import_verdict
  judged-is e =
      sym (ap (λ (b : Bool). pick b (or_then (repeated 7 compare_same [] (texts k h s)) (repeated 17 name_same [] (texts k h s))) (ending (texts k h s))) (eq-eqb (ending (texts k h s)).number 0 e)
      ∙ ap (λ (v : Verdict). or_then v (repeated 17 name_same [] (texts k h s))) (says true least is_least compare_same (order_agrees k h s) 7)
      ∙ go (ltb least 4294967296) refl)
    where
      go : (a : Bool) → ltb least 4294967296 ≡ a → or_then (pick a (verdict 7 (least / 2)) fine) (repeated 17 name_same [] (texts k h s))
          ≡ pick a (verdict 7 (least / 2)) (pick (ltb pair 4294967296) (verdict 17 (pair / 2)) fine)
      go true q = refl
      go false q = says false pair (pairs (ltb-false least 4294967296 q)) name_same (name_agrees k h s) 17

  -- ---- done: the elements in order are the entries in order

  none-twice : (judged_by s (in_order s (texts k h s))).number ≡ 0 → 4294967296 ≤ least
  unfolding judged_by told
  none-twice = go (ltb least 4294967296) refl
    where
      go : (a : Bool) → ltb least 4294967296 ≡ a
          → (pick a (verdict 7 (least / 2)) (pick (ltb pair 4294967296) (verdict 17 (pair / 2)) fine)).number ≡ 0 → 4294967296 ≤ least
      go true p e = absurd (omega arith)
      go false p e = ltb-false least 4294967296 p

  module _ (z : (judged_by s (in_order s (texts k h s))).number ≡ 0) where
    agree : (p q : ℕ) → Memᴰ p (places_in (texts k h s)) → Memᴰ q (places_in (texts k h s))
        → below_by (key_at s 9 0) (el k h s true p) (el k h s true q) ≡ stands_before (entry_in k h (drop p s)) (entry_in k h (drop q s))
    unfolding below_by stands_before entry_in
    agree p q a b =
        ap (λ (o : Ordering). decide o (ltb (el k h s true p) (el k h s true q)))
        (ap (λ (l : List ℕ). name_order l false (key_at s 9 0 (el k h s true q)) false) (key-there k h s p (good p a) true)
        ∙ ap (λ (l : List ℕ). name_order (name_in h (drop p s) ++ slash (true && is_tree (entry_in k h (drop p s)).mode)) false l false) (key-there k h s q (good q b) true)
        ∙ key_names (name_in h (drop p s)) (is_tree (entry_in k h (drop p s)).mode) (name_in h (drop q s)) (is_tree (entry_in k h (drop q s)).mode) (name-plain k h s p (good p a)) (name-plain k h s q (good q b)))
        ∙ go (name_order (name_in h (drop p s)) (is_tree (entry_in k h (drop p s)).mode) (name_in h (drop q s)) (is_tree (entry_in k h (drop q s)).mode)) refl
        (ltb (el k h s true p) (el k h s true q)) refl
      where
        go : (o : Ordering) → name_order (name_in h (drop p s)) (is_tree (entry_in k h (drop p s)).mode) (name_in h (drop q s)) (is_tree (entry_in k h (drop q s)).mode) ≡ o
            → (t : Bool) → ltb (el k h s true p) (el k h s true q) ≡ t → decide o t ≡ is_below o
        go Less e t f = refl
        go Greater e t f = refl
        go Equal e false f = refl
        go Equal e true f =
            let l = ltb-true (el k h s true p) (el k h s true q) f in
            absurd (⊎_elim (λ y. omega (arith, l, ap (el k h s true) y))
            (λ (y : p ≡ q → ⊥).
            never (none-twice z) p q a b
            (omega (arith, l, (element_range k h s true p (entry_in k h (drop p s)).mode).0, (element_range k h s true q (entry_in k h (drop q s)).mode).1))
            (sym (order_agrees k h s p q (good p a) (good q b)) ∙ same-order (entry_in k h (drop p s)) (entry_in k h (drop q s)) e)) (equal p q))

    -- ---- written

    written : (l : List ℕ) → all_bytes k h s (map (el k h s true) l) ≡ as_written (map (λ (p : ℕ). entry_in k h (drop p s)) l)
    unfolding all_bytes as_written
    written [] = refl
    written (p ∷ l) = rw (element_half k h s true p (entry_in k h (drop p s)).mode, written l) refl

    pub imported-is : all_bytes k h s (in_order s (texts k h s)) ≡ imported (texts k h s)
    unfolding imported
    imported-is =
        let A : List ℕ = places_in (texts k h s) in
        let R : ℕ → ℕ → Bool = λ (p q : ℕ). below_by (key_at s 9 0) (el k h s true p) (el k h s true q) in
        let T : ℕ → ℕ → Bool = λ (p q : ℕ). stands_before (entry_in k h (drop p s)) (entry_in k h (drop q s)) in
        ap (λ (l : List ℕ). all_bytes k h s (sort_by (below_by (key_at s 9 0)) l)) elements
        ∙ ap (all_bytes k h s) (sym (sort-map (el k h s true) (below_by (key_at s 9 0)) (places_in (texts k h s)))) ∙ written (sort_by R (places_in (texts k h s)))
        ∙ ap (λ (l : List ℕ). as_written (map (λ (p : ℕ). entry_in k h (drop p s)) l)) (sort-same R T (places_in (texts k h s)) agree)
        ∙ ap as_written (sort-map (λ (p : ℕ). entry_in k h (drop p s)) stands_before (places_in (texts k h s)))
        ∙ ap (λ (l : List Entry). as_written (sort_by stands_before l)) (sym (entries_are k h s 0 (texts k h s) (good-texts k h s)))

  -- each element in order stands for a record that can be read
  pub order_read : AllRead k h s (in_order s (texts k h s))
  order_read =
      of (in_order s (texts k h s)) (λ x m.
      let w = map-mem (el k h s true) x (places_in (texts k h s)) (rw elements at (mem-sorted (key_at s 9 0) (elements_in (texts k h s)) x m)) in
      ap (λ (i : ℕ). text_number k h (drop (i / 2) s)) w.2 ∙ ap (λ (i : ℕ). text_number k h (drop i s)) (element_half k h s true w.0 (entry_in k h (drop w.0 s)).mode) ∙ good w.0 w.1)
    where
      of : (l : List ℕ) → ((x : ℕ) → Memᴰ x l → text_number k h (drop (x / 2) s) ≡ 0) → AllRead k h s l
      of [] f = tt
      of (x ∷ l) f = (f x (Memᴰ.head refl), of l (λ y m. f y (Memᴰ.tail m)))

  pub order_length : length (in_order s (texts k h s)) ≡ length (entries_in (texts k h s))
  order_length = sort-length (below_by (key_at s 9 0)) (elements_in (texts k h s)) ∙ elements-many (texts k h s)

-- what writing the sorted elements needs
pub with_list : (k h : ℕ) (s : List ℕ) → length s ≤ most_bytes → (l m : List ℕ) → l ≡ elements_in (texts k h s) → m ≡ sort_by (below_by (key_at s 9 0)) l
    → (length m ≤ most_records) × AllRead k h s m × (m ≡ in_order s (texts k h s))
with_list k h s short l m e i =
    let z : m ≡ in_order s (texts k h s) = i ∙ ap (sort_by (below_by (key_at s 9 0))) e in
    (omega (arith, ap length z, order_length k h s short, read-few k h most_records 0 s), rw z (order_read k h s short), z)

-- the verdict by them
pub judged-here : (s : List ℕ) (t : Texts) (l : List ℕ) → l ≡ elements_in t → {v : Verdict} → v ≡ judged_by s (sort_by (below_by (key_at s 9 0)) l) → v ≡ judged_by s (in_order s t)
judged-here s t l e p = p ∙ ap (λ (l : List ℕ). judged_by s (sort_by (below_by (key_at s 9 0)) l)) e

-- ---- the answer

module _ (t : Texts) where
  pub counted-bad : ((import_verdict t).number ≡ 0 → ⊥) → counted_of t ≡ refused (import_verdict t)
  unfolding counted_of
  counted-bad e = ap (λ (b : Bool). pick b (counted (length (imported t))) (refused (import_verdict t))) (ne_eqb (import_verdict t).number 0 e)

  pub counted-fine : (import_verdict t).number ≡ 0 → counted_of t ≡ counted (length (imported t))
  unfolding counted_of
  counted-fine e = ap (λ (b : Bool). pick b (counted (length (imported t))) (refused (import_verdict t))) (eq-eqb (import_verdict t).number 0 e)

  pub ending-bad : ((ending t).number ≡ 0 → ⊥) → import_verdict t ≡ ending t
  unfolding import_verdict
  ending-bad e =
      ap (λ (b : Bool). pick b (or_then (repeated 7 compare_same [] t) (repeated 17 name_same [] t)) (ending t)) (ne_eqb (ending t).number 0 e)

-- both promises of an import
abbrev pub Both : ℕ → ℕ → List ℕ → List ℕ → Answer → List ℕ → Type 0
Both k h s out r after =
    (r ≡ fitted (length out) (counted_of (texts k h s))) × (after ≡ stored (fitted (length out) (counted_of (texts k h s))).verdict (imported (texts k h s)) out)

module _ (k h : ℕ) (s out : List ℕ) (short : length s ≤ most_bytes) (e : (ending (texts k h s)).number ≡ 0) where
  pub with_refused : (v : Verdict) → v ≡ judged_by s (in_order s (texts k h s)) → (v.number ≡ 0 → ⊥) → Both k h s out (refused v) out
  with_refused v p n =
      let z : v ≡ import_verdict (texts k h s) = p ∙ judged-is k h s short e in
      let c : counted_of (texts k h s) ≡ refused v = counted-bad (texts k h s) (λ y. n (ap (λ (w : Verdict). w.number) z ∙ y)) ∙ ap refused (sym z) in
      refused-both (refused v) (imported (texts k h s)) out (ap (fitted (length out)) c ∙ fitted-bad (length out) (refused v) n) n

  module _ (z : (judged_by s (in_order s (texts k h s))).number ≡ 0) (l : List ℕ) (i : l ≡ in_order s (texts k h s)) (need : ℕ) (m : need ≡ length (all_bytes k h s l)) where
    bytes : all_bytes k h s l ≡ imported (texts k h s)
    bytes = ap (all_bytes k h s) i ∙ imported-is k h s short z

    measured : need ≡ length (imported (texts k h s))
    measured = m ∙ ap length bytes

    counts : counted_of (texts k h s) ≡ counted need
    counts = counted-fine (texts k h s) (sym (ap (λ (v : Verdict). v.number) (judged-is k h s short e)) ∙ z) ∙ ap counted (sym measured)

    pub with_short : length out < need → Both k h s out (refused (verdict 8 need)) out
    with_short p =
        refused-both (refused (verdict 8 need)) (imported (texts k h s)) out
        (ap (fitted (length out)) counts ∙ fitted_short (length out) (counted need) refl p) (λ y. omega arith)

    pub with_done : need ≤ length out → (after : List ℕ) → after ≡ sets out 0 (all_bytes k h s l) → Both k h s out (counted need) after
    with_done p after a =
        done-both (counted need) (imported (texts k h s)) out after (ap (fitted (length out)) counts ∙ fitted-fine (length out) (counted need) refl p) refl
        (a ∙ ap (sets out 0) bytes) (omega (arith, measured))

-- a text that cannot be read to its end
pub unread : (k h : ℕ) (s out : List ℕ) (a : Answer) → a ≡ gathered (texts k h s) → (a.verdict.number ≡ 0 → ⊥) → Both k h s out (refused a.verdict) out
unfolding gathered
unread k h s out a q n =
    let v : a.verdict ≡ ending (texts k h s) = ap (λ (x : Answer). x.verdict) q in
    let i = ending-bad (texts k h s) (λ z. n (ap (λ (x : Verdict). x.number) v ∙ z)) in
    let c : counted_of (texts k h s) ≡ refused a.verdict =
    counted-bad (texts k h s) (λ z. n (ap (λ (x : Verdict). x.number) (v ∙ sym i) ∙ z)) ∙ ap refused (i ∙ sym v) in
    refused-both (refused a.verdict) (imported (texts k h s)) out (ap (fitted (length out)) c ∙ fitted-bad (length out) (refused a.verdict) n) n

-- one that can
pub all_read : (k h : ℕ) (s : List ℕ) (a : Answer) → a ≡ gathered (texts k h s) → a.verdict.number ≡ 0
    → ((ending (texts k h s)).number ≡ 0) × (length (entries_in (texts k h s)) ≡ a.count)
unfolding gathered
all_read k h s a q z = (sym (ap (λ (x : Answer). x.verdict.number) q) ∙ z, sym (ap (λ (x : Answer). x.count) q))

module _ (k h : ℕ) (s : List ℕ) (room m : ℕ) (e : m ≡ max (length s) room) where
  pub import_shut : (v : Verdict) → rule_gate k h m 0 ≡ Err v → import_answer k h s room ≡ refused v
  unfolding import_answer
  import_shut v g = gated-shut _ v _ (ap (λ (x : ℕ). rule_gate k h x 0) (sym e) ∙ g)

  module _ (g : rule_gate k h m 0 ≡ Ok tt) where
    pub import-open : import_answer k h s room ≡ fitted room (counted_of (texts k h s))
    unfolding import_answer
    import-open = gated_open _ _ (ap (λ (x : ℕ). rule_gate k h x 0) (sym e) ∙ g)

    -- what a gate that is open says
    pub import_began : (id_length h ≡ true) × (length s ≤ most_bytes)
    import_began =
        let o = gate_open h m 0 (sym (rule_known k h m 0 (rule_open k h m 0 g)) ∙ g) in
        (id-made h o.0, omega (arith, o.1, e))

-- the same promises by the whole answer
pub both-whole : (k h : ℕ) (s out : List ℕ) (r : Answer) (after : List ℕ) → import_answer k h s (length out) ≡ fitted (length out) (counted_of (texts k h s))
    → Both k h s out r after → (r ≡ import_answer k h s (length out)) × (after ≡ stored (import_answer k h s (length out)).verdict (imported (texts k h s)) out)
both-whole k h s out r after e b = (b.0 ∙ sym e, b.1 ∙ ap (λ (a : Answer). stored a.verdict (imported (texts k h s)) out) (sym e))
