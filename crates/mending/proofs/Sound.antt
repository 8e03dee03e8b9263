-- The entries of the new object are sound under rule set 2. Assumes nothing.
use Prim.Native.Nat.{ℕ, ◌≤◌}
use native.Mathlib.Omega.{arith}
use mathlib.Core.Path.{◌≡◌, refl, ap, sym, ◌∙◌}
use mathlib.Core.Logic.{inl, inr, ⊎_elim}
use mathlib.Core.Bool.{Bool, true, false, false≢true, not}
use mathlib.Core.List.Memᴰ
use mathlib.Core.List.{List, [], ◌∷◌, map, Memᴰ}
use lib.ListN.{drop, length-drop}
use lib.Seq.{length-take-le}
use Rattle.ground.specs.Basics.{ascii}
use Rattle.ground.specs.Scan.{same_bytes}
use Rattle.ground.proofs.Laws.{same_refl}
use Rattle.mode.specs.Mode.{kind_of, is_tree}
use Rattle.mode.specs.Table.{rows, row_at, written_of}
use Rattle.mode_table.specs.declared.EntryKind.{EntryKind}
use Rattle.mode_table.specs.declared.EntryKind.TheVariants.{Tree, Blob, BlobExecutable, Link, Commit}
use Rattle.order.specs.Order.{is_below, name_order, opposite}
use Rattle.order.proofs.Laws.{order_same, order_flip}
use Rattle.entry.specs.Record.{name_of, id_of}
use Rattle.entry.specs.Entry.{Entry}
use Rattle.entry.specs.declared.EntryRecord.{EntryRecord}
use Rattle.entry.proofs.Laws.{decode-inside}
use Rattle.rules.specs.Rules.{stands_before, is_dot_git}
use Rattle.rules.proofs.Laws.{permitted-parts}
use Rattle.reading.specs.Listing.{listing, records_in}
use Rattle.one_listing.specs.Sound.{Five, SoundEntry, Before, Ascending, EachSound, SoundListing}
use Rattle.one_listing.specs.Sound as sound
use Rattle.keys.specs.Key.{key_at, below_by}
use Rattle.keys.proofs.Keys.{key_strict}
use Rattle.sorting.specs.Sort.{sort_by, Ascends}
use Rattle.sorting.proofs.Sorted.{sort_perm, sort-ascends, perm_sym}
use Rattle.sorting.proofs.Repeats.{perm_mem, Once, perm_once}
use Rattle.fate.specs.Fate.{own_mode}
use Rattle.mend.specs.Mend.{kept_of, mended_entry}
use Rattle.mend_kept.specs.Code.{element_of}
use Rattle.mend_kept.proofs.Fates.{All, all_mem}
use Rattle.mend_kept.proofs.Sorts.{sort-map, sort-same, all-of, Kept, kept_are, Distinct, kept_distinct, one_name, name_free, below-stands}
use Rattle.mending.specs.Mending.{mended_listing}
use Rattle.std.specs.declared.cmp.Ordering.{Ordering}
use Rattle.std.specs.declared.cmp.Ordering.TheVariants.{Equal, Greater, Less}

-- ---- one entry

own_five : (k : EntryKind) → Five (written_of k).mode
unfolding written_of row_at rows
own_five Tree = inl refl
own_five Blob = inr (inl refl)
own_five BlobExecutable = inr (inr (inl refl))
own_five Link = inr (inr (inr (inl refl)))
own_five Commit = inr (inr (inr (inr refl)))

differs : (n t : List ℕ) → not (same_bytes n t) ≡ true → n ≡ t → ⊥
differs n t p e = let z : not (same_bytes n t) ≡ false = rw (e, same_refl t) refl in false≢true (sym z ∙ p)

kept-sound : (h : ℕ) (s : List ℕ) (e : EntryRecord) → Kept h s e → SoundEntry 2 h (mended_entry h s e)
unfolding mended_entry own_mode is_dot_git id_of
kept-sound h s e k =
    let f = name_free (name_of s e) k.2 in
    let p = permitted-parts (name_of s e) f.2 in
    let i = decode-inside h s e.text_start e k.0 k.1 in
    record {
      mode = inl (own_five (kind_of e.mode));
      some = differs (name_of s e) [] p.0;
      nulless = f.0;
      slashless = f.1;
      no_dot = differs (name_of s e) (ascii ".") p.3;
      no_dots = differs (name_of s e) (ascii "..") p.4;
      no_git = λ z. false≢true (sym f.3 ∙ rw z (same_refl (ascii ".git")));
      sized = length-take-le h (drop e.id_start s) (omega (arith, length-drop e.id_start s));
    }

each : (h : ℕ) (s : List ℕ) (l : List EntryRecord) → All (Kept h s) l → EachSound 2 h (map (mended_entry h s) l)
each h s [] a = tt
each h s (e ∷ l) a = (kept-sound h s e a.0, each h s l a.1)

-- ---- their order and their names

pub mem-map : {A B : Type 0} (f : A → B) (b : B) (l : List A) → Memᴰ b (map f l) → (a : A) × Memᴰ a l × (b ≡ f a)
mem-map f b [] m = absurd (Memᴰ.not-nil m)
mem-map f b (x ∷ l) m =
    ⊎_elim (λ e. (x, Memᴰ.head refl, e)) (λ k. let w = mem-map f b l k in (w.0, Memᴰ.tail w.1, w.2)) (Memᴰ.cases_cons m)

distinct_once : (s : List ℕ) (l : List EntryRecord) → Distinct s l → Once l
unfolding Once
distinct_once s [] d = tt
distinct_once s (x ∷ l) d =
    ((λ m. false≢true (sym (all_mem (λ (y : EntryRecord). same_bytes (name_of s x) (name_of s y) ≡ false) l x d.0 m) ∙ same_refl (name_of s x))), distinct_once s l d.1)

module _ (h : ℕ) (s : List ℕ) (long : 20 ≤ h) (ks : List EntryRecord) (k : All (Kept h s) ks) (d : Distinct s ks) where
  apart : (l : List EntryRecord) → ((x : EntryRecord) → Memᴰ x l → Memᴰ x ks) → Once l → sound.Distinct (map (mended_entry h s) l)
  unfolding Once mended_entry
  apart [] sub o = tt
  apart (x ∷ l) sub o = (
    (λ b m e. let w = mem-map (mended_entry h s) b l m in
        let n : name_of s x ≡ name_of s w.0 = e ∙ ap (λ (y : Entry). y.name) w.2 in
        let z : x ≡ w.0 = one_name s ks x w.0 d (sub x (Memᴰ.head refl)) (sub w.0 (Memᴰ.tail w.1)) n in
        o.0 (rw z w.1)),
    apart l (λ y m. sub y (Memᴰ.tail m)) o.1,
  )

  before : (a b : EntryRecord) → Memᴰ a ks → Memᴰ b ks → (a ≡ b → ⊥) → below_by (key_at s 32 0) (element_of true b) (element_of true a) ≡ false
      → Before (mended_entry h s a) (mended_entry h s b)
  unfolding mended_entry stands_before
  before a b p q n u = go (name_order (name_of s a) (is_tree (own_mode a.mode)) (name_of s b) (is_tree (own_mode b.mode))) refl
    where
      go : (o : Ordering) → name_order (name_of s a) (is_tree (own_mode a.mode)) (name_of s b) (is_tree (own_mode b.mode)) ≡ o → o ≡ Less
      go Less e = refl
      go Equal e =
          let ka = all_mem (Kept h s) ks a k p in
          let kb = all_mem (Kept h s) ks b k q in
          let w = order_same (name_of s a) (is_tree (own_mode a.mode)) (name_of s b) (is_tree (own_mode b.mode)) (name_free (name_of s a) ka.2).1 (name_free (name_of s b) kb.2).1 e in
          absurd (n (one_name s ks a b d p q w.0))
      go Greater e =
          let f : name_order (name_of s b) (is_tree (own_mode b.mode)) (name_of s a) (is_tree (own_mode a.mode)) ≡ Less =
          order_flip (name_of s a) (is_tree (own_mode a.mode)) (name_of s b) (is_tree (own_mode b.mode)) ∙ ap opposite e in
          absurd (false≢true (sym u ∙ below-stands h s long ks k d b a q p ∙ ap is_below f))

  ascending : (l : List EntryRecord) → ((x : EntryRecord) → Memᴰ x l → Memᴰ x ks) → Once l
      → Ascends (below_by (key_at s 32 0)) (map (element_of true) l) → Ascending (map (mended_entry h s) l)
  unfolding Once Ascends
  ascending [] sub o a = tt
  ascending (x ∷ []) sub o a = tt
  ascending (x ∷ y ∷ l) sub o a = (
    before x y (sub x (Memᴰ.head refl)) (sub y (Memᴰ.tail (Memᴰ.head refl))) (λ e. o.0 (Memᴰ.head e)) a.0,
    ascending (y ∷ l) (λ z m. sub z (Memᴰ.tail m)) o.1 a.1,
  )

-- ---- the listing

pub listing-sound : (h : ℕ) (s : List ℕ) → 20 ≤ h → SoundListing 2 h (mended_listing h s)
unfolding mended_listing
listing-sound h s long =
    let R : EntryRecord → EntryRecord → Bool = λ (a b : EntryRecord). below_by (key_at s 32 0) (element_of true a) (element_of true b) in
    let S : EntryRecord → EntryRecord → Bool = λ (a b : EntryRecord). stands_before (mended_entry h s a) (mended_entry h s b) in
    let k = kept_are h s long in
    let d = kept_distinct s (records_in (listing h s)) [] in
    let same : sort_by R (kept_of h s) ≡ sort_by S (kept_of h s) = sort-same R S (kept_of h s) (λ a b p q. below-stands h s long (kept_of h s) k d a b p q) in
    let sub : (x : EntryRecord) → Memᴰ x (sort_by S (kept_of h s)) → Memᴰ x (kept_of h s) = λ x m. perm_mem (sort_perm S (kept_of h s)) m in
    let once : Once (sort_by S (kept_of h s)) = perm_once (perm_sym (sort_perm S (kept_of h s))) (distinct_once s (kept_of h s) d) in
    let up : Ascends (below_by (key_at s 32 0)) (map (element_of true) (sort_by S (kept_of h s))) =
    rw (← same, sort-map (element_of true) (below_by (key_at s 32 0)) (kept_of h s)) (sort-ascends (below_by (key_at s 32 0)) (key_strict (key_at s 32 0)) (map (element_of true) (kept_of h s))) in
    let whole : All (Kept h s) (sort_by S (kept_of h s)) = all_sub (sort_by S (kept_of h s)) sub k in
    rw (← sort-map (mended_entry h s) stands_before (kept_of h s)) (
      each h s (sort_by S (kept_of h s)) whole,
      ascending h s long (kept_of h s) k d (sort_by S (kept_of h s)) sub once up,
      apart h s long (kept_of h s) k d (sort_by S (kept_of h s)) sub once,
    )
  where
    all_sub : (l : List EntryRecord) → ((x : EntryRecord) → Memᴰ x l → Memᴰ x (kept_of h s)) → All (Kept h s) (kept_of h s) → All (Kept h s) l
    all_sub l sub k = all-of (Kept h s) l (λ x m. all_mem (Kept h s) (kept_of h s) x k (sub x m))
