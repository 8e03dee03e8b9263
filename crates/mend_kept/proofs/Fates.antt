-- What the walks store is what the definitions say: fates by the names kept before, and the elements of the entries that are kept. Assumes nothing.
use Prim.Native.Nat.{ℕ, zero, suc, ◌+◌, ◌*◌, ◌/◌, ◌≤◌}
use native.Mathlib.Omega.{arith}
use mathlib.Core.Path.{◌≡◌, refl, ap, sym, ◌∙◌}
use mathlib.Core.Logic.{⊎_elim}
use mathlib.Core.Bool.{Bool, true, false, not, ◌&&◌, ◌||◌}
use mathlib.Core.List.Memᴰ
use mathlib.Core.List.{List, [], ◌∷◌, ◌++◌, map, append-nil, Memᴰ}
use lib.Dec.{eqb, ltb}
use lib.ListN.{get_or, drop}
use lib.Seq.{drop-drop, get_or-drop}
use borrow.Author.Tests.{lt-ltb, le-ltb}
use Rattle.ground.specs.Basics.{pick}
use Rattle.ground.specs.Scan.{same_bytes}
use Rattle.ground.specs.Verdict.{most_records}
use Rattle.ground.proofs.Laws.{same_true}
use Rattle.entry.specs.Record.{name_of}
use Rattle.entry.specs.Decode.{decode}
use Rattle.entry.specs.declared.EntryRecord.{EntryRecord}
use Rattle.entry.specs.declared.Cursor.{Cursor}
use Rattle.entry.proofs.Laws.{decode-inside}
use Rattle.rules.specs.Rules.{name_number, bare_number}
use Rattle.rules.proofs.Laws.{number_free}
use Rattle.reading.specs.Listing.{listing, records_in}
use Rattle.reading.proofs.Laws.{rest_at, none_full, none_left}
use Rattle.strict.specs.Strict.{text_of}
use Rattle.strict.proofs.Strictly.{decoded_free}
use Rattle.keys.specs.Key.{key_at, below_by}
use Rattle.keys.proofs.Keys.{key_strict}
use Rattle.sorting.specs.Sort.{sort_by, Perm, none, more, flip, then}
use Rattle.sorting.proofs.Sorted.{sort_perm, sort-ascends}
use Rattle.sorting.proofs.Repeats.{perm_mem, place-mem}
use Rattle.fate.specs.Fate.{stays_mode, own_text, fate_of}
use Rattle.mend_kept.specs.Kept.{among, fate_in, is_kept, names_after, fates_from, kept_from, fates_of}
use Rattle.mend_kept.specs.Code.{chosen, element_of, elements, Known, earlier, code_fate, code_fates}
use Rattle.mend_kept.proofs.Walk.{here-whole, decoded_place, element_key, element_whole}
use Rattle.ground.specs.declared.Verdict.{Verdict}
use Rattle.std.specs.Prelude.{Err, Ok, Result}

-- ---- the records of an object, read one after the other

abbrev pub Reads : ℕ → List ℕ → ℕ → List EntryRecord → Type 0
Reads h s at [] = Unit {0}
Reads h s at (e ∷ es) = (next : Cursor) × (decode h at (drop at s) ≡ Ok (e, next)) × Reads h s next.at es

pub reads-rest : (h : ℕ) (s : List ℕ) (left at n : ℕ) → left + n ≡ most_records → Reads h s at (records_in (rest_at h s at n))
reads-rest h s zero at n q = let z = none_full h s at n (omega arith) in rw z tt
reads-rest h s (suc left) at n q = go (λ a p. reads-rest h s left a (n + 1) p) (decode h at (drop at s)) refl
  where
    go : ((a : ℕ) → left + (n + 1) ≡ most_records → Reads h s a (records_in (rest_at h s a (n + 1)))) → (d : Result (EntryRecord × Cursor) Verdict) → decode h at (drop at s) ≡ d
        → Reads h s at (records_in (rest_at h s at n))
    go ih (Ok (e, next)) d = let z = here-whole h s at n (omega arith) e next d in rw z (next, d, ih next.at (omega arith))
    go ih (Err v) d = let z = none_left h s at n (omega arith) d in rw z tt

pub reads_all : (h : ℕ) (s : List ℕ) → Reads h s 0 (records_in (listing h s))
reads_all h s = reads-rest h s most_records 0 0 (omega arith)

-- each of a list
abbrev pub All : {A : Type 0} → (A → Type 0) → List A → Type 0
All P [] = Unit {0}
All P (x ∷ xs) = P x × All P xs

pub all_mem : {A : Type 0} (P : A → Type 0) (l : List A) (x : A) → All P l → Memᴰ x l → P x
all_mem P [] x a m = absurd (Memᴰ.not-nil m)
all_mem P (y ∷ l) x a m = ⊎_elim (λ e. rw e a.0) (λ k. all_mem P l x a.1 k) (Memᴰ.cases_cons m)

-- ---- the elements of the entries that may stay

-- an element whose key is the name of the entry at its place
abbrev pub Good : ℕ → List ℕ → ℕ → Type 0
Good h s y = (e : EntryRecord) × (next : Cursor) × (decode h (y / 2) (drop (y / 2) s) ≡ Ok (e, next)) × (key_at s 32 0 y ≡ name_of s e)

module _ (h : ℕ) (s : List ℕ) (long : 20 ≤ h) where
  pub plain_key : (at : ℕ) (e : EntryRecord) (next : Cursor) → decode h at (drop at s) ≡ Ok (e, next) → key_at s 32 0 (element_of false e) ≡ name_of s e
  plain_key at e next d = element_key h s at e next d long false ∙ append-nil (name_of s e)

  plain-place : (at : ℕ) (e : EntryRecord) (next : Cursor) → decode h at (drop at s) ≡ Ok (e, next) → element_of false e ≡ at * 2
  unfolding element_of
  plain-place at e next d = omega (arith, (decode-inside h s at e next d).5)

  elements-good : (fates : List ℕ) (n at : ℕ) (es : List EntryRecord) → Reads h s at es → All (Good h s) (elements false s fates n es)
  unfolding elements
  elements-good fates n at [] r = tt
  elements-good fates n at (e ∷ es) r = go (chosen false s fates n e) (elements-good fates (n + 1) r.0.at es r.2)
    where
      go : (b : Bool) → All (Good h s) (elements false s fates (n + 1) es)
          → All (Good h s) (pick b (element_of false e ∷ elements false s fates (n + 1) es) (elements false s fates (n + 1) es))
      go true ih = ((e, r.0, element_whole h s at e r.0 r.1 long false, plain_key at e r.0 r.1), ih)
      go false ih = ih

  pub sorted-known : (fates : List ℕ)
      → Known h s (sort_by (below_by (key_at s 32 0)) (elements false s fates 0 (records_in (listing h s))))
  sorted-known fates =
      let l = elements false s fates 0 (records_in (listing h s)) in
      record {
        up = sort-ascends (below_by (key_at s 32 0)) (key_strict (key_at s 32 0)) (elements false s fates 0 (records_in (listing h s)));
        whole = λ j p. all_mem (Good h s) (elements false s fates 0 (records_in (listing h s))) _ (elements-good fates 0 0 (records_in (listing h s)) (reads_all h s))
            (perm_mem (sort_perm (below_by (key_at s 32 0)) (elements false s fates 0 (records_in (listing h s)))) (place-mem 0 _ j p));
      }

-- ---- a smaller element of the same key does not hang on the order

or_swap : (a b c : Bool) → (a || (b || c)) ≡ (b || (a || c))
or_swap true true c = refl
or_swap true false c = refl
or_swap false b c = refl

earlier_perm : (key : ℕ → List ℕ) (x : ℕ) {l m : List ℕ} → Perm l m → earlier key l x ≡ earlier key m x
unfolding earlier
earlier_perm key x none = refl
earlier_perm key x (more {x = y} p) = ap (λ (b : Bool). (same_bytes (key y) (key x) && ltb y x) || b) (earlier_perm key x p)
earlier_perm key x (flip {x = y} {y = z} {xs = l}) = or_swap (same_bytes (key y) (key x) && ltb y x) (same_bytes (key z) (key x) && ltb z x) (earlier key l x)
earlier_perm key x (then p q) = earlier_perm key x p ∙ earlier_perm key x q

-- each is at least
abbrev From : ℕ → List ℕ → Type 0
From a [] = Unit {0}
From a (x ∷ xs) = (a ≤ x) × From a xs

from_more : (a b : ℕ) (l : List ℕ) → a ≤ b → From b l → From a l
from_more a b [] p f = tt
from_more a b (x ∷ l) p f = (omega (arith, f.0), from_more a b l p f.1)

earlier-over : (key : ℕ → List ℕ) (x : ℕ) (l : List ℕ) → From x l → earlier key l x ≡ false
unfolding earlier
earlier-over key x [] f = refl
earlier-over key x (y ∷ l) f = go (same_bytes (key y) (key x)) (le-ltb y x f.0) (earlier-over key x l f.1)
  where
    go : (b : Bool) → ltb y x ≡ false → earlier key l x ≡ false → ((b && ltb y x) || earlier key l x) ≡ false
    go true p q = rw (p, q) refl
    go false p q = q

-- ---- what is done to each

pub keeps : (number mode : ℕ) (before : Bool) (text : List ℕ) → is_kept (fate_of number mode before text) ≡ ((eqb number 0 && stays_mode mode) && not before)
unfolding fate_of
keeps number mode before text = go (eqb number 0) (stays_mode mode) before (same_bytes text (own_text mode))
  where
    go : (a b c d : Bool) → ltb (pick a (pick b (pick c 4 (pick d 0 1)) 3) 2) 2 ≡ ((a && b) && not c)
    go false b c d = refl
    go true false c d = refl
    go true true true d = refl
    go true true false true = refl
    go true true false false = refl

module _ (h : ℕ) (s : List ℕ) (long : 20 ≤ h) (fates list : List ℕ) where
  abbrev key : ℕ → List ℕ
  key = key_at s 32 0

  elements-from : (n at : ℕ) (es : List EntryRecord) → Reads h s at es → From (at * 2) (elements false s fates n es)
  unfolding elements
  elements-from n at [] r = tt
  elements-from n at (e ∷ es) r = go (chosen false s fates n e)
      (from_more (at * 2) (r.0.at * 2) (elements false s fates (n + 1) es) (omega (arith, decoded_place h s at e r.0 r.1)) (elements-from (n + 1) r.0.at es r.2))
    where
      go : (b : Bool) → From (at * 2) (elements false s fates (n + 1) es)
          → From (at * 2) (pick b (element_of false e ∷ elements false s fates (n + 1) es) (elements false s fates (n + 1) es))
      go true f = (omega (arith, plain-place h s long at e r.0 r.1), f)
      go false f = f

  -- the list has those kept before and those to come
  abbrev Split : ℕ → List (List ℕ) → List ℕ → Type 0
  Split at names rest = (x : ℕ) → at * 2 ≤ x → earlier (key_at s 32 0) list x ≡ (among names (key_at s 32 0 x) || earlier (key_at s 32 0) rest x)

  module _ (n at : ℕ) (e : EntryRecord) (es : List EntryRecord) (r : Reads h s at (e ∷ es)) (names : List (List ℕ))
      (sp : Split at names (elements false s fates n (e ∷ es))) where
    abbrev next : Cursor
    next = r.0

    number : bare_number (name_of s e) ≡ name_number (name_of s e)
    number = number_free (name_of s e) (decoded_free h s at e r.0 r.1)

    or-none : (a : Bool) → (a || false) ≡ a
    or-none true = refl
    or-none false = refl

    before : earlier (key_at s 32 0) list (element_of false e) ≡ among names (name_of s e)
    before =
        let p = plain-place h s long at e r.0 r.1 in
        let k = plain_key h s long at e r.0 r.1 in
        let f : From (element_of false e) (elements false s fates n (e ∷ es)) = rw p (elements-from n at (e ∷ es) r) in
        sp (element_of false e) (omega arith) ∙ rw (k, earlier-over (key_at s 32 0) (element_of false e) (elements false s fates n (e ∷ es)) f) (or-none (among names (name_of s e)))

    pub fate_same : code_fate s list e ≡ fate_in s names e
    unfolding code_fate fate_in
    fate_same = rw (before, number) refl

    kept-is : is_kept (fate_in s names e) ≡ (chosen false s fates n e && not (among names (name_of s e)))
    unfolding fate_in chosen
    kept-is = rw number (keeps (name_number (name_of s e)) e.mode (among names (name_of s e)) (text_of s e.text_start e))

    mix : (a b c : Bool) → (a || ((b && true) || c)) ≡ ((b || a) || c)
    mix true true c = refl
    mix true false c = refl
    mix false true c = refl
    mix false false c = refl

    pub split-next : Split r.0.at (names_after s names e) (elements false s fates (n + 1) es)
    unfolding names_after elements earlier among
    split-next x p = rw kept-is (go (chosen false s fates n e) (among names (name_of s e)) refl (sp x (omega (arith, decoded_place h s at e r.0 r.1))))
      where
        k : key_at s 32 0 (element_of false e) ≡ name_of s e
        k = plain_key h s long at e r.0 r.1

        less : ltb (element_of false e) x ≡ true
        less = lt-ltb (element_of false e) x (omega (arith, plain-place h s long at e r.0 r.1, decoded_place h s at e r.0 r.1))

        rest : List ℕ
        rest = elements false s fates (n + 1) es

        same : (b : Bool) → same_bytes (name_of s e) (key_at s 32 0 x) ≡ b → among names (name_of s e) ≡ true
            → (among names (key_at s 32 0 x) || ((b && true) || earlier (key_at s 32 0) (elements false s fates (n + 1) es) x))
            ≡ (among names (key_at s 32 0 x) || earlier (key_at s 32 0) (elements false s fates (n + 1) es) x)
        same true q a = rw (← same_true (name_of s e) (key_at s 32 0 x) q, a) refl
        same false q a = refl

        go : (c a : Bool) → among names (name_of s e) ≡ a
            → earlier (key_at s 32 0) list x
            ≡ (among names (key_at s 32 0 x) || earlier (key_at s 32 0) (pick c (element_of false e ∷ elements false s fates (n + 1) es) (elements false s fates (n + 1) es)) x)
            → earlier (key_at s 32 0) list x
            ≡ (among (pick (c && not a) (name_of s e ∷ names) names) (key_at s 32 0 x) || earlier (key_at s 32 0) (elements false s fates (n + 1) es) x)
        go false a q z = z
        go true true q z = z ∙ rw (k, less) (same (same_bytes (name_of s e) (key_at s 32 0 x)) refl q)
        go true false q z = z ∙ rw (k, less) (mix (among names (key_at s 32 0 x)) (same_bytes (name_of s e) (key_at s 32 0 x)) (earlier (key_at s 32 0) (elements false s fates (n + 1) es) x))

  fates_same : (n at : ℕ) (es : List EntryRecord) (names : List (List ℕ)) → Reads h s at es → Split at names (elements false s fates n es)
      → code_fates s list es ≡ fates_from s names es
  unfolding code_fates fates_from
  fates_same n at [] names r sp = refl
  fates_same n at (e ∷ es) names r sp =
      rw (fate_same n at e es r names sp, fates_same (n + 1) r.0.at es (names_after s names e) r.2 (split-next n at e es r names sp)) refl

  -- what the walk stores is what is done to each entry
  pub fates_are : list ≡ sort_by (below_by (key_at s 32 0)) (elements false s fates 0 (records_in (listing h s)))
      → code_fates s list (records_in (listing h s)) ≡ fates_of h s
  unfolding among
  fates_are q =
      fates_same 0 0 (records_in (listing h s)) [] (reads_all h s)
      (λ x p. ap (λ (l : List ℕ). earlier (key_at s 32 0) l x) q ∙ earlier_perm (key_at s 32 0) x (sort_perm (below_by (key_at s 32 0)) (elements false s fates 0 (records_in (listing h s)))))

-- ---- the elements of those that are kept

pub kept-elements : (s fates rest : List ℕ) (n : ℕ) (es : List EntryRecord) (names : List (List ℕ)) → drop n fates ≡ fates_from s names es ++ rest
    → elements true s fates n es ≡ map (element_of true) (kept_from s names es)
unfolding elements fates_from kept_from chosen
kept-elements s fates rest n [] names q = refl
kept-elements s fates rest n (e ∷ es) names q =
    let z : n ≡ n + 0 = omega arith in
    let f : get_or fates n 2 ≡ fate_in s names e = ap (λ (k : ℕ). get_or fates k 2) z ∙ sym (get_or-drop n fates 0 2) ∙ ap (λ (l : List ℕ). get_or l 0 2) q in
    let m : drop (n + 1) fates ≡ fates_from s (names_after s names e) es ++ rest = sym (drop-drop 1 n fates) ∙ ap (drop 1) q in
    rw (f, kept-elements s fates rest (n + 1) es (names_after s names e) m) (go (is_kept (fate_in s names e)))
  where
    go : (b : Bool) → pick b (element_of true e ∷ map (element_of true) (kept_from s (names_after s names e) es)) (map (element_of true) (kept_from s (names_after s names e) es))
        ≡ map (element_of true) (pick b (e ∷ kept_from s (names_after s names e) es) (kept_from s (names_after s names e) es))
    go true = refl
    go false = refl
