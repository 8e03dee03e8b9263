-- The places of a text's records: each can be read there, they ascend, and their elements' keys are the names. Assumes nothing.
use Prim.Native.Nat.{ℕ, zero, suc, ◌+◌, ◌*◌, ◌/◌, ◌%◌, ◌<◌, ◌≤◌}
use native.Mathlib.Omega.{arith}
use mathlib.Core.Path.{◌≡◌, refl, ap, sym, ◌∙◌}
use mathlib.Core.Logic.{⊎_elim}
use mathlib.Core.Bool.{Bool, true, false, ◌&&◌}
use mathlib.Core.List.Memᴰ
use mathlib.Core.List.{List, [], ◌∷◌, ◌++◌, map, Memᴰ}
use lib.Dec.{eqb}
use lib.ListN.{length, take, drop, length-drop}
use lib.Seq.{drop-drop, take-append_seam}
use borrow.Author.Tests.{eq-eqb, ne_eqb, eqb-true}
use Rattle.ground.specs.Basics.{pick}
use Rattle.ground.specs.Scan.{free_of, count_to}
use Rattle.ground.specs.Verdict.{verdict, most_records}
use Rattle.ground.proofs.Laws.{count_free}
use Rattle.mode.specs.Mode.{is_tree}
use Rattle.entry.specs.Entry.{Entry}
use Rattle.rules.specs.Rules.{bare_number}
use Rattle.rules.proofs.Laws.{number-slash}
use Rattle.keys.specs.Key.{past_mark, cut_to, name_at, folder, slash, key_at}
use Rattle.sorting.proofs.Repeats.{Once}
use Rattle.text_form.specs.Form.{front_len}
use Rattle.text_record.specs.Record.{name_in, name_end, text_number, entry_in, size_in}
use Rattle.text_record.proofs.Shape.{shape, before_free}
use Rattle.text_import.specs.Import.{Texts, done, stop, one, read_from, texts, entries_in}
use Rattle.text_import.specs.Code.{element_of, elements_in, places_in}

-- ---- members of a mapped list

pub mem-map : {A B : Type 0} (f : A → B) (x : A) (l : List A) → Memᴰ x l → Memᴰ (f x) (map f l)
mem-map f x [] m = absurd (Memᴰ.not-nil m)
mem-map f x (y ∷ l) m = ⊎_elim (λ e. Memᴰ.head (ap f e)) (λ k. Memᴰ.tail (mem-map f x l k)) (Memᴰ.cases_cons m)

pub map-mem : {A B : Type 0} (f : A → B) (y : B) (l : List A) → Memᴰ y (map f l) → (x : A) × Memᴰ x l × (y ≡ f x)
map-mem f y [] m = absurd (Memᴰ.not-nil m)
map-mem f y (x ∷ l) m =
    ⊎_elim (λ e. (x, Memᴰ.head refl, e)) (λ k. let w = map-mem f y l k in (w.0, Memᴰ.tail w.1, w.2)) (Memᴰ.cases_cons m)

-- ---- what was read

-- a name behind a mark, up to NUL
past_pre : (x : ℕ) (pre r : List ℕ) → drop (suc (length pre)) (pre ++ x ∷ r) ≡ r
past_pre x [] r = refl
past_pre x (y ∷ pre) r = past_pre x pre r

past : (x : ℕ) (pre name r : List ℕ) → free_of x pre ≡ true → free_of 0 name ≡ true
    → take (count_to 0 (drop (suc (count_to x (pre ++ x ∷ (name ++ 0 ∷ r)))) (pre ++ x ∷ (name ++ 0 ∷ r)))) (drop (suc (count_to x (pre ++ x ∷ (name ++ 0 ∷ r)))) (pre ++ x ∷ (name ++ 0 ∷ r))) ≡ name
past x pre name r p q =
    let z : drop (suc (count_to x (pre ++ x ∷ (name ++ 0 ∷ r)))) (pre ++ x ∷ (name ++ 0 ∷ r)) ≡ name ++ 0 ∷ r =
    ap (λ (i : ℕ). drop (suc i) (pre ++ x ∷ (name ++ 0 ∷ r))) (count_free x pre (name ++ 0 ∷ r) p) ∙ past_pre x pre (name ++ 0 ∷ r) in
    ap (λ (l : List ℕ). take (count_to 0 l) l) z ∙ ap (λ (i : ℕ). take i (name ++ 0 ∷ r)) (count_free 0 name r q) ∙ take-append_seam name (0 ∷ r)

odd : (b : Bool) {x : ℕ} → x ≡ pick b 1 0 → eqb x 1 ≡ b
odd true e = eq-eqb _ 1 e
odd false {x} e = ne_eqb x 1 (λ z. omega (arith, e, z))

-- a name that is permitted has no slash
bare_free : (n : List ℕ) → bare_number n ≡ 0 → free_of 47 n ≡ true
bare_free n e = go (free_of 47 n) refl
  where
    go : (b : Bool) → free_of 47 n ≡ b → free_of 47 n ≡ true
    go true q = q
    go false q = absurd (omega (arith, e, number-slash n q))

module _ (k h : ℕ) (s : List ℕ) where
  size-some : (at : ℕ) (b : List ℕ) → at + 1 ≤ at + size_in h b
  unfolding size_in
  size-some at b = omega arith

  -- each record can be read where it stands, none before lo, and the places ascend
  abbrev pub Good : ℕ → Texts → Type 0
  Good lo done = Unit {0}
  Good lo (stop v) = Unit {0}
  Good lo (one at e l) = (lo ≤ at) × (e ≡ entry_in k h (drop at s)) × (text_number k h (drop at s) ≡ 0) × Good (at + 1) l

  good_less : (lo hi : ℕ) (t : Texts) → lo ≤ hi → Good hi t → Good lo t
  good_less lo hi done p g = tt
  good_less lo hi (stop v) p g = tt
  good_less lo hi (one at e l) p g = (omega (arith, g.0), g.1, g.2, g.3)

  good-from : (left at : ℕ) (b : List ℕ) → b ≡ drop at s → Good at (read_from k h left at b)
  unfolding read_from
  good-from zero at [] p = tt
  good-from zero at (x ∷ xs) p = tt
  good-from (suc left) at [] p = tt
  good-from (suc left) at (x ∷ xs) p =
      go (eqb (text_number k h (x ∷ xs)) 0) refl (good-from left (at + size_in h (x ∷ xs)) (drop (size_in h (x ∷ xs)) (x ∷ xs)))
    where
      go : (u : Bool) → eqb (text_number k h (x ∷ xs)) 0 ≡ u
          → (drop (size_in h (x ∷ xs)) (x ∷ xs) ≡ drop (at + size_in h (x ∷ xs)) s
          → Good (at + size_in h (x ∷ xs)) (read_from k h left (at + size_in h (x ∷ xs)) (drop (size_in h (x ∷ xs)) (x ∷ xs))))
          → Good at (pick u (one at (entry_in k h (x ∷ xs)) (read_from k h left (at + size_in h (x ∷ xs)) (drop (size_in h (x ∷ xs)) (x ∷ xs))))
          (stop (verdict (text_number k h (x ∷ xs)) at)))
      go true q ih = (
        omega arith,
        ap (entry_in k h) p,
        ap (text_number k h) (sym p) ∙ eqb-true (text_number k h (x ∷ xs)) 0 q,
        good_less (at + 1) (at + size_in h (x ∷ xs)) (read_from k h left (at + size_in h (x ∷ xs)) (drop (size_in h (x ∷ xs)) (x ∷ xs))) (size-some at (x ∷ xs)) (ih (ap (drop (size_in h (x ∷ xs))) p ∙ drop-drop (size_in h (x ∷ xs)) at s)),
      )
      go false q ih = tt

  pub good-texts : Good 0 (texts k h s)
  good-texts = good-from most_records 0 s refl

  -- ---- places

  pub place-good : (lo : ℕ) (t : Texts) → Good lo t → (p : ℕ) → Memᴰ p (places_in t) → (lo ≤ p) × (text_number k h (drop p s) ≡ 0)
  unfolding places_in
  place-good lo done g p m = absurd (Memᴰ.not-nil m)
  place-good lo (stop v) g p m = absurd (Memᴰ.not-nil m)
  place-good lo (one at e l) g p m =
      ⊎_elim (λ z. (omega (arith, z, g.0), ap (λ (i : ℕ). text_number k h (drop i s)) z ∙ g.2))
      (λ n. let w = place-good (at + 1) l g.3 p n in (omega (arith, w.0, g.0), w.1)) (Memᴰ.cases_cons m)

  pub place_inside : (p : ℕ) → text_number k h (drop p s) ≡ 0 → p < length s
  place_inside p e = let w = shape k h (drop p s) e in omega (arith, w.ends, length-drop p s)

  abbrev pub el : Bool → ℕ → ℕ
  el folders p = element_of folders p (entry_in k h (drop p s)).mode

  pub elements_are : (lo : ℕ) (t : Texts) → Good lo t → elements_in t ≡ map (el true) (places_in t)
  unfolding elements_in places_in
  elements_are lo done g = refl
  elements_are lo (stop v) g = refl
  elements_are lo (one at e l) g =
      ap (λ (d : Entry). element_of true at d.mode ∷ elements_in l) g.1
      ∙ ap (λ (r : List ℕ). el true at ∷ r) (elements_are (at + 1) l g.3)

  pub entries_are : (lo : ℕ) (t : Texts) → Good lo t → entries_in t ≡ map (λ (p : ℕ). entry_in k h (drop p s)) (places_in t)
  unfolding entries_in places_in
  entries_are lo done g = refl
  entries_are lo (stop v) g = refl
  entries_are lo (one at e l) g =
      ap (λ (d : Entry). d ∷ entries_in l) g.1 ∙ ap (λ (r : List Entry). entry_in k h (drop at s) ∷ r) (entries_are (at + 1) l g.3)

  -- ---- elements

  pub element_range : (folders : Bool) (p m : ℕ) → (p * 2 ≤ element_of folders p m) × (element_of folders p m ≤ p * 2 + 1)
  unfolding element_of
  element_range folders p m = go (folders && is_tree m)
    where
      go : (b : Bool) → (p * 2 ≤ p * 2 + pick b 1 0) × (p * 2 + pick b 1 0 ≤ p * 2 + 1)
      go true = (omega arith, omega arith)
      go false = (omega arith, omega arith)

  pub element_half : (folders : Bool) (p m : ℕ) → element_of folders p m / 2 ≡ p
  element_half folders p m = let w = element_range folders p m in omega (arith, w.0, w.1)

  pub element_odd : (folders : Bool) (p m : ℕ) → element_of folders p m % 2 ≡ pick (folders && is_tree m) 1 0
  unfolding element_of
  element_odd folders p m = go (folders && is_tree m)
    where
      go : (b : Bool) → (p * 2 + pick b 1 0) % 2 ≡ pick b 1 0
      go true = omega arith
      go false = omega arith

  pub elements-once : (folders : Bool) (lo : ℕ) (t : Texts) → Good lo t → Once (map (el folders) (places_in t))
  unfolding places_in Once
  elements-once folders lo done g = tt
  elements-once folders lo (stop v) g = tt
  elements-once folders lo (one at e l) g = (
    (λ m.
        let w = map-mem (el folders) (el folders at) (places_in l) m in
        let d = place-good (at + 1) l g.3 w.0 w.1 in
        let a = element_range folders at (entry_in k h (drop at s)).mode in
        let b = element_range folders w.0 (entry_in k h (drop w.0 s)).mode in
        omega (arith, a.1, b.0, d.0, w.2)),
    elements-once folders (at + 1) l g.3,
  )

  -- ---- names

  module _ (p : ℕ) (e : text_number k h (drop p s) ≡ 0) where
    abbrev pub name_of : List ℕ
    name_of = name_in h (drop p s)

    module _ (x : ℕ) (z : x / 2 ≡ p) where
      pub name-there : name_at s 9 0 x ≡ name_in h (drop p s)
      unfolding name_at past_mark cut_to
      name-there =
          let w = shape k h (drop p s) e in
          let pre : List ℕ = take (front_len (drop p s) + 2 * h) (drop p s) in
          let rest : List ℕ = name_in h (drop p s) ++ 0 ∷ drop (name_end h (drop p s) + 1) (drop p s) in
          let d : drop (x / 2) s ≡ take (front_len (drop p s) + 2 * h) (drop p s) ++ 9 ∷ (name_in h (drop p s) ++ 0 ∷ drop (name_end h (drop p s) + 1) (drop p s)) =
          ap (λ (i : ℕ). drop i s) z ∙ w.laid in
          ap (λ (l : List ℕ). take (count_to 0 (drop (suc (count_to 9 l)) l)) (drop (suc (count_to 9 l)) l)) d
          ∙ past 9 (take (front_len (drop p s) + 2 * h) (drop p s)) (name_in h (drop p s)) (drop (name_end h (drop p s) + 1) (drop p s)) (before_free h (drop p s) w.front) w.free

    pub name-plain : free_of 47 (name_in h (drop p s)) ≡ true
    name-plain = bare_free (name_in h (drop p s)) (shape k h (drop p s) e).name

    pub key-there : (folders : Bool) → key_at s 9 0 (el folders p) ≡ name_in h (drop p s) ++ slash (folders && is_tree (entry_in k h (drop p s)).mode)
    unfolding key_at
    key-there folders =
        ap (λ (l : List ℕ). l ++ slash (folder (el folders p))) (name-there (el folders p) (element_half folders p (entry_in k h (drop p s)).mode))
        ∙ ap (λ (b : Bool). name_in h (drop p s) ++ slash b) (odd (folders && is_tree (entry_in k h (drop p s)).mode) (element_odd folders p (entry_in k h (drop p s)).mode))
