-- The kept entries in Git's order: the elements sorted are the entries sorted, and their bytes are the new object. Assumes nothing.
use Prim.Native.Nat.{ℕ, ◌+◌, ◌-◌, ◌≤◌}
use native.Mathlib.Omega.{arith}
use mathlib.Core.Path.{◌≡◌, refl, ap, sym, ◌∙◌}
use mathlib.Core.Logic.{⊎_elim}
use mathlib.Core.Bool.{Bool, true, false, false≢true, not, ◌&&◌, ◌||◌}
use mathlib.Core.List.Memᴰ
use mathlib.Core.List.{List, [], ◌∷◌, ◌++◌, map, Memᴰ}
use lib.Dec.{eqb, ltb}
use lib.ListN.{length, get_or, drop, length-append}
use borrow.Author.Tests.{le-ltb, eqb-true}
use Rattle.ground.specs.Basics.{pick}
use Rattle.ground.specs.Scan.{same_bytes, free_of}
use Rattle.ground.proofs.Laws.{and_left, and_right, same_refl}
use Rattle.mode.specs.Mode.{value_of, sort_of, executes, kind_of, is_tree}
use Rattle.mode.specs.Table.{rows, row_at, written_of}
use Rattle.mode_table.specs.declared.EntryKind.TheVariants.{Tree, Blob, BlobExecutable, Link, Commit}
use Rattle.order.specs.Order.{is_below, name_order}
use Rattle.order.proofs.Laws.{order_same}
use Rattle.entry.specs.Record.{name_of, folder_of}
use Rattle.entry.specs.Entry.{Entry, entry_bytes, as_written}
use Rattle.entry.specs.Decode.{decode}
use Rattle.entry.specs.declared.EntryRecord.{EntryRecord}
use Rattle.entry.specs.declared.Cursor.{Cursor}
use Rattle.entry.proofs.Laws.{decode-inside}
use Rattle.rules.specs.Rules.{name_number, stands_before, permitted, is_dot_git, or_else}
use Rattle.rules.proofs.Laws.{permitted-parts}
use Rattle.reading.specs.Listing.{listing, records_in}
use Rattle.strict.specs.Strict.{text_of}
use Rattle.keys.specs.Key.{key_at, below_by, decide, slash}
use Rattle.keys.proofs.Keys.{key_names}
use Rattle.sorting.specs.Sort.{insert_by, sort_by, Perm, none, more, flip, then}
use Rattle.sorting.proofs.Sorted.{sort_perm}
use Rattle.sorting.proofs.Repeats.{perm_mem}
use Rattle.fate.specs.Fate.{stays_mode, own_mode, own_text}
use Rattle.mend_kept.specs.Kept.{among, fate_in, is_kept, names_after, fates_from, kept_from, kept_of, mended_entry, mended}
use Rattle.mend_kept.specs.Code.{element_of, kept_size, code_size, code_fate, code_fates, kept_bytes, bytes_at, all_bytes}
use Rattle.mend_kept.proofs.Walk.{element_key, element_whole}
use Rattle.mend_kept.proofs.Bytes.{kept-bytes, bytes-size}
use Rattle.mend_kept.proofs.Fates.{Reads, reads_all, All, all_mem, keeps}
use Rattle.std.specs.Prelude.{Ok}
use Rattle.std.specs.declared.cmp.Ordering.{Ordering}
use Rattle.std.specs.declared.cmp.Ordering.TheVariants.{Equal, Greater, Less}

-- ---- sorting by what elements stand for

module _ {A B : Type 0} (f : A → B) (below : B → B → Bool) where
  insert-map : (x : A) (l : List A) → map f (insert_by (λ (a b : A). below (f a) (f b)) x l) ≡ insert_by below (f x) (map f l)
  unfolding insert_by
  insert-map x [] = refl
  insert-map x (y ∷ ys) = go (below (f y) (f x)) (insert-map x ys)
    where
      go : (t : Bool) → map f (insert_by (λ (a b : A). below (f a) (f b)) x ys) ≡ insert_by below (f x) (map f ys)
          → map f (pick t (y ∷ insert_by (λ (a b : A). below (f a) (f b)) x ys) (x ∷ y ∷ ys)) ≡ pick t (f y ∷ insert_by below (f x) (map f ys)) (f x ∷ f y ∷ map f ys)
      go true ih = ap (λ (l : List B). f y ∷ l) ih
      go false ih = refl

  pub sort-map : (l : List A) → map f (sort_by (λ (a b : A). below (f a) (f b)) l) ≡ sort_by below (map f l)
  unfolding sort_by
  sort-map [] = refl
  sort-map (x ∷ xs) = insert-map x (sort_by (λ (a b : A). below (f a) (f b)) xs) ∙ ap (insert_by below (f x)) (sort-map xs)

module _ {A : Type 0} (R S : A → A → Bool) where
  insert-same : (x : A) (l : List A) → ((y : A) → Memᴰ y l → R y x ≡ S y x) → insert_by R x l ≡ insert_by S x l
  unfolding insert_by
  insert-same x [] e = refl
  insert-same x (y ∷ ys) e = rw (e y (Memᴰ.head refl), insert-same x ys (λ z m. e z (Memᴰ.tail m))) refl

  -- tests that agree on a list sort it alike
  pub sort-same : (l : List A) → ((x y : A) → Memᴰ x l → Memᴰ y l → R x y ≡ S x y) → sort_by R l ≡ sort_by S l
  unfolding sort_by
  sort-same [] e = refl
  sort-same (x ∷ xs) e =
      ap (insert_by R x) (sort-same xs (λ a b p q. e a b (Memᴰ.tail p) (Memᴰ.tail q)))
      ∙ insert-same x (sort_by S xs) (λ y m. e y x (Memᴰ.tail (perm_mem (sort_perm S xs) m)) (Memᴰ.head refl))

pub all_map : {A : Type 0} (P Q : A → Type 0) → ((x : A) → P x → Q x) → (l : List A) → All P l → All Q l
all_map P Q f [] a = tt
all_map P Q f (x ∷ l) a = (f x a.0, all_map P Q f l a.1)

pub all-of : {A : Type 0} (P : A → Type 0) (l : List A) → ((x : A) → Memᴰ x l → P x) → All P l
all-of P [] f = tt
all-of P (x ∷ l) f = (f x (Memᴰ.head refl), all-of P l (λ y m. f y (Memᴰ.tail m)))

-- ---- the entries that are kept

-- an entry that was read, with a name that is permitted and a mode that stays
abbrev pub Kept : ℕ → List ℕ → EntryRecord → Type 0
Kept h s e = (next : Cursor) × (decode h e.text_start (drop e.text_start s) ≡ Ok (e, next)) × (name_number (name_of s e) ≡ 0) × (stays_mode e.mode ≡ true)

module _ (s : List ℕ) (names : List (List ℕ)) (e : EntryRecord) (k : is_kept (fate_in s names e) ≡ true) where
  three : ((eqb (name_number (name_of s e)) 0 && stays_mode e.mode) && not (among names (name_of s e))) ≡ true
  unfolding fate_in
  three = sym (keeps (name_number (name_of s e)) e.mode (among names (name_of s e)) (text_of s e.text_start e)) ∙ k

  pub kept-name : name_number (name_of s e) ≡ 0
  kept-name = eqb-true _ _ (and_left (eqb (name_number (name_of s e)) 0) _ (and_left (eqb (name_number (name_of s e)) 0 && stays_mode e.mode) _ three))

  pub kept-mode : stays_mode e.mode ≡ true
  kept-mode = and_right (eqb (name_number (name_of s e)) 0) _ (and_left (eqb (name_number (name_of s e)) 0 && stays_mode e.mode) _ three)

  kept_new : among names (name_of s e) ≡ false
  kept_new = go (among names (name_of s e)) (and_right (eqb (name_number (name_of s e)) 0 && stays_mode e.mode) _ three)
    where
      go : (b : Bool) → not b ≡ true → b ≡ false
      go true p = absurd (false≢true p)
      go false p = refl

module _ (h : ℕ) (s : List ℕ) where
  pub kept-all : (at : ℕ) (es : List EntryRecord) (names : List (List ℕ)) → Reads h s at es → All (Kept h s) (kept_from s names es)
  unfolding kept_from
  kept-all at [] names r = tt
  kept-all at (e ∷ es) names r = go (is_kept (fate_in s names e)) refl (kept-all r.0.at es (names_after s names e) r.2)
    where
      go : (b : Bool) → is_kept (fate_in s names e) ≡ b → All (Kept h s) (kept_from s (names_after s names e) es)
          → All (Kept h s) (pick b (e ∷ kept_from s (names_after s names e) es) (kept_from s (names_after s names e) es))
      go true k ih =
          let z : e.text_start ≡ at = (decode-inside h s at e r.0 r.1).5 in
          ((r.0, ap (λ (k : ℕ). decode h k (drop k s)) z ∙ r.1, kept-name s names e k, kept-mode s names e k), ih)
      go false k ih = ih

among_less : (m : List ℕ) (ms : List (List ℕ)) (n : List ℕ) → among (m ∷ ms) n ≡ false → (same_bytes m n ≡ false) × (among ms n ≡ false)
unfolding among
among_less m ms n = go (same_bytes m n)
  where
    go : (b : Bool) → (b || among ms n) ≡ false → (b ≡ false) × (among ms n ≡ false)
    go true p = absurd (false≢true (sym p))
    go false p = (refl, p)

-- no two names are the same
abbrev pub Distinct : List ℕ → List EntryRecord → Type 0
Distinct s [] = Unit {0}
Distinct s (x ∷ xs) = All (λ (y : EntryRecord). same_bytes (name_of s x) (name_of s y) ≡ false) xs × Distinct s xs

module _ (s : List ℕ) where
  kept_fresh : (es : List EntryRecord) (names : List (List ℕ)) → All (λ (e : EntryRecord). among names (name_of s e) ≡ false) (kept_from s names es)
  unfolding kept_from names_after
  kept_fresh [] names = tt
  kept_fresh (e ∷ es) names = go (is_kept (fate_in s names e)) refl (kept_fresh es)
    where
      go : (b : Bool) → is_kept (fate_in s names e) ≡ b → ((ns : List (List ℕ)) → All (λ (d : EntryRecord). among ns (name_of s d) ≡ false) (kept_from s ns es))
          → All (λ (d : EntryRecord). among names (name_of s d) ≡ false) (pick b (e ∷ kept_from s (pick b (name_of s e ∷ names) names) es) (kept_from s (pick b (name_of s e ∷ names) names) es))
      go true k ih = (
        kept_new s names e k,
        all_map (λ (d : EntryRecord). among (name_of s e ∷ names) (name_of s d) ≡ false) (λ (d : EntryRecord). among names (name_of s d) ≡ false)
            (λ d p. (among_less (name_of s e) names (name_of s d) p).1) (kept_from s (name_of s e ∷ names) es) (ih (name_of s e ∷ names)),
      )
      go false k ih = ih names

  pub kept_distinct : (es : List EntryRecord) (names : List (List ℕ)) → Distinct s (kept_from s names es)
  unfolding kept_from names_after
  kept_distinct [] names = tt
  kept_distinct (e ∷ es) names = go (is_kept (fate_in s names e)) (kept_distinct es)
    where
      go : (b : Bool) → ((ns : List (List ℕ)) → Distinct s (kept_from s ns es))
          → Distinct s (pick b (e ∷ kept_from s (pick b (name_of s e ∷ names) names) es) (kept_from s (pick b (name_of s e ∷ names) names) es))
      go true ih = (
        all_map (λ (d : EntryRecord). among (name_of s e ∷ names) (name_of s d) ≡ false) (λ (d : EntryRecord). same_bytes (name_of s e) (name_of s d) ≡ false)
            (λ d p. (among_less (name_of s e) names (name_of s d) p).0) (kept_from s (name_of s e ∷ names) es) (kept_fresh es (name_of s e ∷ names)),
        ih (name_of s e ∷ names),
      )
      go false ih = ih names

  pub one_name : (l : List EntryRecord) (a b : EntryRecord) → Distinct s l → Memᴰ a l → Memᴰ b l → name_of s a ≡ name_of s b → a ≡ b
  one_name [] a b d p q e = absurd (Memᴰ.not-nil p)
  one_name (x ∷ l) a b d p q e =
      ⊎_elim
      (λ u. ⊎_elim (λ v. u ∙ sym v) (λ m. absurd (clash b u m (sym e))) (Memᴰ.cases_cons q))
      (λ m. ⊎_elim (λ v. absurd (clash a v m e)) (λ k. one_name l a b d.1 m k e) (Memᴰ.cases_cons q))
      (Memᴰ.cases_cons p)
    where
      clash : (c : EntryRecord) {y : EntryRecord} → y ≡ x → Memᴰ c l → name_of s c ≡ name_of s y → ⊥
      clash c {y} u m f =
          let z = all_mem (λ (d : EntryRecord). same_bytes (name_of s x) (name_of s d) ≡ false) l c d.0 m in
          false≢true (sym z ∙ rw (f, u) (same_refl (name_of s x)))

-- ---- a kind's own mode is a tree's where the mode is

own-kind : (a b c x : Bool) → (a ≡ true → c ≡ false) → (b ≡ true → c ≡ false)
    → is_tree (written_of (pick a (pick x BlobExecutable Blob) (pick b Link (pick c Tree Commit)))).mode ≡ c
unfolding written_of row_at rows is_tree sort_of value_of
own-kind true b c true p q = sym (p refl)
own-kind true b c false p q = sym (p refl)
own-kind false true c x p q = sym (q refl)
own-kind false false true x p q = refl
own-kind false false false x p q = refl

no_tree : (m k : ℕ) → sort_of m ≡ k → eqb k 0o40000 ≡ false → is_tree m ≡ false
unfolding is_tree
no_tree m k p q = ap (λ (i : ℕ). eqb i 0o40000) p ∙ q

pub own-tree : (m : ℕ) → is_tree (own_mode m) ≡ is_tree m
unfolding own_mode kind_of is_tree
own-tree m =
    own-kind (eqb (sort_of m) 0o100000) (eqb (sort_of m) 0o120000) (is_tree m) (executes m) (λ p. no_tree m 0o100000 (eqb-true (sort_of m) 0o100000 p) refl)
    (λ p. no_tree m 0o120000 (eqb-true (sort_of m) 0o120000 p) refl)

pub name_free : (n : List ℕ) → name_number n ≡ 0 → (free_of 0 n ≡ true) × (free_of 47 n ≡ true) × (permitted n ≡ true) × (is_dot_git n ≡ false)
unfolding name_number
name_free n = go (permitted n) refl (is_dot_git n) refl
  where
    go : (b : Bool) → permitted n ≡ b → (c : Bool) → is_dot_git n ≡ c → or_else (pick b 0 6) (pick c 18 0) ≡ 0
        → (free_of 0 n ≡ true) × (free_of 47 n ≡ true) × (permitted n ≡ true) × (is_dot_git n ≡ false)
    go true p true q z = absurd (omega arith)
    go true p false q z = let w = permitted-parts n p in (w.1, w.2, p, q)
    go false p c q z = absurd (omega arith)

-- ---- in Git's order

module _ (h : ℕ) (s : List ℕ) (long : 20 ≤ h) where
  pub below-stands : (l : List EntryRecord) → All (Kept h s) l → Distinct s l → (a b : EntryRecord) → Memᴰ a l → Memᴰ b l
      → below_by (key_at s 32 0) (element_of true a) (element_of true b) ≡ stands_before (mended_entry h s a) (mended_entry h s b)
  unfolding below_by stands_before mended_entry folder_of
  below-stands l k d a b p q =
      let u = all_mem (Kept h s) l a k p in
      let v = all_mem (Kept h s) l b k q in
      let ka : key_at s 32 0 (element_of true a) ≡ name_of s a ++ slash (is_tree a.mode) = element_key h s a.text_start a u.0 u.1 long true in
      let kb : key_at s 32 0 (element_of true b) ≡ name_of s b ++ slash (is_tree b.mode) = element_key h s b.text_start b v.0 v.1 long true in
      let fa = (name_free (name_of s a) u.2).1 in
      let fb = (name_free (name_of s b) v.2).1 in
      rw (ka, kb, key_names (name_of s a) (is_tree a.mode) (name_of s b) (is_tree b.mode) fa fb, own-tree a.mode, own-tree b.mode)
      (go (name_order (name_of s a) (is_tree a.mode) (name_of s b) (is_tree b.mode)) refl fa fb)
    where
      go : (o : Ordering) → name_order (name_of s a) (is_tree a.mode) (name_of s b) (is_tree b.mode) ≡ o → free_of 47 (name_of s a) ≡ true
          → free_of 47 (name_of s b) ≡ true → decide o (ltb (element_of true a) (element_of true b)) ≡ is_below o
      go Less e fa fb = refl
      go Equal e fa fb =
          let w = order_same (name_of s a) (is_tree a.mode) (name_of s b) (is_tree b.mode) fa fb e in
          let z : a ≡ b = one_name s l a b d p q w.0 in
          rw z (le-ltb (element_of true b) (element_of true b) (omega arith))
      go Greater e fa fb = refl

  all-written : (l : List EntryRecord) → All (Kept h s) l → all_bytes h s (map (element_of true) l) ≡ as_written (map (mended_entry h s) l)
  unfolding all_bytes as_written
  all-written [] k = refl
  all-written (e ∷ l) k =
      let w = element_whole h s e.text_start e k.0.0 k.0.1 long true in
      let z : bytes_at h s (element_of true e) ≡ entry_bytes (mended_entry h s e) =
      ap (kept_bytes s) (w ∙ sym k.0.1) ∙ kept-bytes h s e.text_start e k.0.0 k.0.1 in
      rw (z, all-written l k.1) refl

  abbrev kept : List EntryRecord
  kept = kept_from s [] (records_in (listing h s))

  pub kept_are : All (Kept h s) (kept_from s [] (records_in (listing h s)))
  kept_are = kept-all h s 0 (records_in (listing h s)) [] (reads_all h s)

  -- the elements of the kept entries, sorted, give the new object
  pub mended-is : all_bytes h s (sort_by (below_by (key_at s 32 0)) (map (element_of true) (kept_of h s))) ≡ mended h s
  unfolding mended
  mended-is =
      let R : EntryRecord → EntryRecord → Bool = λ (a b : EntryRecord). below_by (key_at s 32 0) (element_of true a) (element_of true b) in
      let S : EntryRecord → EntryRecord → Bool = λ (a b : EntryRecord). stands_before (mended_entry h s a) (mended_entry h s b) in
      let k = kept_are in
      let m : All (Kept h s) (sort_by R (kept_of h s)) =
      all-of (Kept h s) (sort_by R (kept_of h s)) (λ x p. all_mem (Kept h s) (kept_of h s) x k (perm_mem (sort_perm R (kept_of h s)) p)) in
      ap (all_bytes h s) (sym (sort-map (element_of true) (below_by (key_at s 32 0)) (kept_of h s)))
      ∙ all-written (sort_by R (kept_of h s)) m
      ∙ ap (λ (l : List EntryRecord). as_written (map (mended_entry h s) l))
      (sort-same R S (kept_of h s) (λ a b p q. below-stands (kept_of h s) k (kept_distinct s (records_in (listing h s)) []) a b p q))
      ∙ ap as_written (sort-map (mended_entry h s) stands_before (kept_of h s))

-- ---- its size

written_perm : {l m : List Entry} → Perm l m → length (as_written l) ≡ length (as_written m)
unfolding as_written
written_perm none = refl
written_perm (more {x} {xs} {ys} p) = omega (arith, length-append (entry_bytes x) (as_written xs), length-append (entry_bytes x) (as_written ys), written_perm p)
written_perm (flip {x} {y} {xs}) =
    omega (
      arith,
      length-append (entry_bytes x) (entry_bytes y ++ as_written xs),
      length-append (entry_bytes y) (as_written xs),
      length-append (entry_bytes y) (entry_bytes x ++ as_written xs),
      length-append (entry_bytes x) (as_written xs),
    )
written_perm (then p q) = written_perm p ∙ written_perm q

pub mended-length : (h : ℕ) (s : List ℕ) → length (mended h s) ≡ length (as_written (map (mended_entry h s) (kept_of h s)))
unfolding mended
mended-length h s = written_perm (sort_perm stands_before (map (mended_entry h s) (kept_of h s)))

-- the size of those kept, where each fate is known
abbrev Sized : ℕ → List ℕ → List ℕ → List (List ℕ) → List EntryRecord → Type 0
Sized h s list names [] = Unit {0}
Sized h s list names (e ∷ es) = (code_fate s list e ≡ fate_in s names e) × Sized h s list (names_after s names e) es

pub size-kept : (h : ℕ) (s list : List ℕ) (at : ℕ) (es : List EntryRecord) (names : List (List ℕ)) → Reads h s at es → Sized h s list names es
    → code_size h s list es ≡ length (as_written (map (mended_entry h s) (kept_from s names es)))
unfolding code_size kept_from kept_size as_written
size-kept h s list at [] names r z = refl
size-kept h s list at (e ∷ es) names r z =
    rw z.0 (go (is_kept (fate_in s names e)) (size-kept h s list r.0.at es (names_after s names e) r.2 z.1))
  where
    go : (b : Bool) → code_size h s list es ≡ length (as_written (map (mended_entry h s) (kept_from s (names_after s names e) es)))
        → pick b (length (own_text e.mode) + 1 + (e.id_start + h - e.name_start)) 0 + code_size h s list es
        ≡ length (as_written (map (mended_entry h s) (pick b (e ∷ kept_from s (names_after s names e) es) (kept_from s (names_after s names e) es))))
    go true ih =
        omega (
          arith,
          ih,
          bytes-size h s at e r.0 r.1,
          length-append (entry_bytes (mended_entry h s e)) (as_written (map (mended_entry h s) (kept_from s (names_after s names e) es))),
        )
    go false ih = omega (arith, ih)

pub sized_of : (h : ℕ) (s list : List ℕ) (names : List (List ℕ)) (es : List EntryRecord) → code_fates s list es ≡ fates_from s names es → Sized h s list names es
unfolding code_fates fates_from
sized_of h s list names [] q = tt
sized_of h s list names (e ∷ es) q =
    (ap (λ (l : List ℕ). get_or l 0 0) q, sized_of h s list (names_after s names e) es (ap (drop 1) q))
