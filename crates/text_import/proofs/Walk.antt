-- Laws of the walk over a text's records that gathers their elements. Assumes nothing.
use Prim.Native.Nat.{ℕ, zero, suc, ◌+◌, ◌-◌, ◌*◌, ◌<◌, ◌≤◌}
use native.Mathlib.Omega.{arith}
use native.Mathlib.Numerals.{add-one}
use native.Mathlib.Nat.{add-zero}
use mathlib.Core.Path.{◌≡◌, refl, ap, sym, ◌∙◌}
use mathlib.Core.Bool.{Bool, true, false}
use mathlib.Core.List.{List, [], ◌∷◌}
use lib.Dec.{eqb}
use lib.ListN.{length, drop, take, set, length-set, length-drop, drop_of_length-le}
use lib.Seq.{sets, drop-drop}
use borrow.Author.Tests.{eq-eqb, ne_eqb}
use Rattle.ground.specs.Basics.{pick}
use Rattle.ground.specs.Verdict.{verdict, fine, most_records}
use Rattle.ground.specs.declared.Verdict.{Verdict}
use Rattle.ground.specs.declared.Answer.{Answer}
use Rattle.ground.proofs.Laws.{part-from}
use Rattle.mode.specs.Mode.{is_tree}
use Rattle.rules.specs.Rules.{modes_of}
use Rattle.text_record.specs.Record.{front_mode, name_end, text_number, entry_in, size_in}
use Rattle.text_record.proofs.Shape.{Shape, shape}
use Rattle.text_import.specs.Import.{Texts, done, stop, one, read_from, texts, entries_in, ending}
use Rattle.text_import.specs.Code.{element_of, elements_in, gathered}

-- ---- reading from a place on

module _ (k h : ℕ) where
  read_some : (left at : ℕ) (b : List ℕ) → 0 < length b
      → read_from k h (suc left) at b
      ≡ pick (eqb (text_number k h b) 0) (one at (entry_in k h b) (read_from k h left (at + size_in h b) (drop (size_in h b) b)))
      (stop (verdict (text_number k h b) at))
  unfolding read_from
  read_some left at [] p = absurd (omega arith)
  read_some left at (x ∷ xs) p = refl

  read_none : (left at : ℕ) → read_from k h left at [] ≡ done
  unfolding read_from
  read_none zero at = refl
  read_none (suc left) at = refl

  read-full : (at : ℕ) (b : List ℕ) → 0 < length b → read_from k h 0 at b ≡ stop (verdict 2 0)
  unfolding read_from
  read-full at [] p = absurd (omega arith)
  read-full at (x ∷ xs) p = refl

  module _ (s : List ℕ) (at n : ℕ) where
    -- what is read from a place on, after n records
    abbrev pub rest : Texts
    rest = read_from k h (most_records - n) at (drop at s)

    some : at < length s → 0 < length (drop at s)
    some p = omega (arith, length-drop at s)

    pub rest_end : length s ≤ at → read_from k h (most_records - n) at (drop at s) ≡ done
    rest_end p = ap (read_from k h (most_records - n) at) (drop_of_length-le s {i = at} p) ∙ read_none (most_records - n) at

    pub rest_full : at < length s → most_records ≤ n → read_from k h (most_records - n) at (drop at s) ≡ stop (verdict 2 0)
    rest_full p q =
        let z : most_records - n ≡ 0 = omega arith in
        ap (λ (i : ℕ). read_from k h i at (drop at s)) z ∙ read-full at (drop at s) (some p)

    module _ (p : at < length s) (q : n < most_records) where
      less : most_records - n ≡ suc (most_records - (n + 1))
      less = omega arith

      pub rest-bad : (text_number k h (drop at s) ≡ 0 → ⊥)
          → read_from k h (most_records - n) at (drop at s) ≡ stop (verdict (text_number k h (drop at s)) at)
      rest-bad e =
          ap (λ (i : ℕ). read_from k h i at (drop at s)) less ∙ read_some (most_records - (n + 1)) at (drop at s) (some p)
          ∙ ap (λ (t : Bool). pick t (one at (entry_in k h (drop at s)) (read_from k h (most_records - (n + 1)) (at + size_in h (drop at s)) (drop (size_in h (drop at s)) (drop at s))))
          (stop (verdict (text_number k h (drop at s)) at))) (ne_eqb (text_number k h (drop at s)) 0 e)

      pub rest-one : text_number k h (drop at s) ≡ 0 → (next : ℕ) → next ≡ at + size_in h (drop at s)
          → read_from k h (most_records - n) at (drop at s) ≡ one at (entry_in k h (drop at s)) (read_from k h (most_records - (n + 1)) next (drop next s))
      rest-one e next f =
          ap (λ (i : ℕ). read_from k h i at (drop at s)) less ∙ read_some (most_records - (n + 1)) at (drop at s) (some p)
          ∙ ap (λ (t : Bool). pick t (one at (entry_in k h (drop at s)) (read_from k h (most_records - (n + 1)) (at + size_in h (drop at s)) (drop (size_in h (drop at s)) (drop at s))))
          (stop (verdict (text_number k h (drop at s)) at))) (eq-eqb (text_number k h (drop at s)) 0 e)
          ∙ ap (λ (l : List ℕ). one at (entry_in k h (drop at s)) (read_from k h (most_records - (n + 1)) (at + size_in h (drop at s)) l)) (drop-drop (size_in h (drop at s)) at s)
          ∙ ap (λ (i : ℕ). one at (entry_in k h (drop at s)) (read_from k h (most_records - (n + 1)) i (drop i s))) (sym f)

-- no more records are read than may come
pub read-few : (k h left at : ℕ) (b : List ℕ) → length (entries_in (read_from k h left at b)) ≤ left
unfolding read_from entries_in
read-few k h zero at [] = omega arith
read-few k h zero at (x ∷ xs) = omega arith
read-few k h (suc left) at [] = omega arith
read-few k h (suc left) at (x ∷ xs) =
    go (eqb (text_number k h (x ∷ xs)) 0) (read-few k h left (at + size_in h (x ∷ xs)) (drop (size_in h (x ∷ xs)) (x ∷ xs)))
  where
    go : (u : Bool) → length (entries_in (read_from k h left (at + size_in h (x ∷ xs)) (drop (size_in h (x ∷ xs)) (x ∷ xs)))) ≤ left
        → length (entries_in (pick u (one at (entry_in k h (x ∷ xs)) (read_from k h left (at + size_in h (x ∷ xs)) (drop (size_in h (x ∷ xs)) (x ∷ xs))))
        (stop (verdict (text_number k h (x ∷ xs)) at)))) ≤ suc left
    go true p = omega arith
    go false p = omega arith

-- ---- the element of a record

module _ (at m : ℕ) where
  pub element_file : {v : Bool} → v ≡ is_tree m → v ≡ false → at * 2 ≡ element_of true at m
  unfolding element_of
  element_file p q = sym (rw (sym p ∙ q) (add-zero (at * 2)))

  pub element_folder : {v : Bool} → v ≡ is_tree m → v ≡ true → at * 2 + 1 ≡ element_of true at m
  unfolding element_of
  element_folder p q = rw (sym p ∙ q) refl

-- ---- gathering

pub record Gathering (k h : ℕ) (s list₀ list : List ℕ) (at n : ℕ) : Type 0 where
  pub same : sets list₀ 0 (elements_in (texts k h s)) ≡ sets list n (elements_in (read_from k h (most_records - n) at (drop at s)))
  pub many : length (entries_in (texts k h s)) ≡ n + length (entries_in (read_from k h (most_records - n) at (drop at s)))
  pub last : ending (texts k h s) ≡ ending (read_from k h (most_records - n) at (drop at s))
  pub few : n ≤ most_records
  pub size : length list ≡ length list₀

pub gathering_start : (k h : ℕ) (s list : List ℕ) → Gathering k h s list list 0 0
gathering_start k h s list = record { same = refl; many = omega arith; last = refl; few = omega arith; size = refl }

module _ (k h : ℕ) (s list₀ list : List ℕ) (at n : ℕ) (g : Gathering k h s list₀ list at n) where
  over : (v : Verdict) → ending (read_from k h (most_records - n) at (drop at s)) ≡ v → entries_in (read_from k h (most_records - n) at (drop at s)) ≡ []
      → elements_in (read_from k h (most_records - n) at (drop at s)) ≡ []
      → (◌≡◌ {A = Answer} (record { verdict = v; count = n }) (gathered (texts k h s))) × (list ≡ sets list₀ 0 (elements_in (texts k h s)))
  unfolding gathered
  over v e f d =
      let z : n ≡ length (entries_in (texts k h s)) = omega (arith, g.many, ap length f) in
      (rw (sym (g.last ∙ e), z) refl, sym (g.same ∙ ap (sets list n) d))

  pub gathering_end : length s ≤ at
      → (◌≡◌ {A = Answer} (record { verdict = fine; count = n }) (gathered (texts k h s))) × (list ≡ sets list₀ 0 (elements_in (texts k h s)))
  unfolding ending entries_in elements_in
  gathering_end p =
      let r = rest_end k h s at n p in
      over fine (ap ending r) (ap entries_in r) (ap elements_in r)

  pub gathering_full : at < length s → most_records ≤ n
      → (◌≡◌ {A = Answer} (record { verdict = verdict 2 0; count = n }) (gathered (texts k h s))) × (list ≡ sets list₀ 0 (elements_in (texts k h s)))
  unfolding ending entries_in elements_in
  gathering_full p q =
      let r = rest_full k h s at n p q in
      over (verdict 2 0) (ap ending r) (ap entries_in r) (ap elements_in r)

  module _ (p : at < length s) (q : n < most_records) {number : ℕ} (e : number ≡ text_number k h (take (length s - at) (drop at s))) where
    here : number ≡ text_number k h (drop at s)
    here = e ∙ ap (text_number k h) (part-from s at)

    pub gathering_bad : (number ≡ 0 → ⊥)
        → (◌≡◌ {A = Answer} (record { verdict = verdict number at; count = n }) (gathered (texts k h s))) × (list ≡ sets list₀ 0 (elements_in (texts k h s)))
    unfolding ending entries_in elements_in
    gathering_bad f =
        let r = rest-bad k h s at n p q (λ z. f (here ∙ z)) in
        let w = over (verdict (text_number k h (drop at s)) at) (ap ending r) (ap entries_in r) (ap elements_in r) in
        (ap (λ (i : ℕ). record { verdict = verdict i at; count = n }) here ∙ w.0, w.1)

    module _ (f : number ≡ 0) {end : ℕ} (d : end ≡ name_end h (take (length s - at) (drop at s))) where
      end_here : end ≡ name_end h (drop at s)
      end_here = d ∙ ap (name_end h) (part-from s at)

      read : Shape k h (drop at s)
      read = shape k h (drop at s) (sym here ∙ f)

      -- the next place is inside
      pub gathering_inside : at + (end + 1) ≤ length s
      gathering_inside = omega (arith, end_here, read.ends, length-drop at s)

      pub gathering_turn : {x : ℕ} → x ≡ element_of true at (front_mode (modes_of k) (take (length s - at) (drop at s))) → (after : List ℕ) → after ≡ set list n x
          → Gathering k h s list₀ after (at + (end + 1)) (n + 1)
      unfolding ending entries_in elements_in entry_in size_in
      gathering_turn {x} c after a =
          let r = rest-one k h s at n p q (sym here ∙ f) (at + (end + 1)) (ap (λ (i : ℕ). at + (i + 1)) end_here) in
          let y : x ≡ element_of true at (front_mode (modes_of k) (drop at s)) = c ∙ ap (λ (l : List ℕ). element_of true at (front_mode (modes_of k) l)) (part-from s at) in
          record {
            same =
                g.same ∙ ap (λ (t : Texts). sets list n (elements_in t)) r
                ∙ ap (λ (i : ℕ). sets (set list n i) (suc n) (elements_in (read_from k h (most_records - (n + 1)) (at + (end + 1)) (drop (at + (end + 1)) s)))) (sym y)
                ∙ ap (λ (l : List ℕ). sets l (suc n) (elements_in (read_from k h (most_records - (n + 1)) (at + (end + 1)) (drop (at + (end + 1)) s)))) (sym a)
                ∙ ap (λ (i : ℕ). sets after i (elements_in (read_from k h (most_records - (n + 1)) (at + (end + 1)) (drop (at + (end + 1)) s)))) (sym (add-one n));
            many = omega (arith, g.many, ap (λ (t : Texts). length (entries_in t)) r);
            last = g.last ∙ ap ending r;
            few = omega arith;
            size = ap length a ∙ length-set list n x ∙ g.size;
          }

-- the same of an answer that has another name
pub called : {r q a : Answer} {P : Type 0} → r ≡ q → (q ≡ a) × P → (r ≡ a) × P
called e p = (e ∙ p.0, p.1)
