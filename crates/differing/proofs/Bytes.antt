-- Two roots without a difference have equal bytes, and the other way round. Assumes nothing.
use Prim.Native.Nat.{ℕ, ◌+◌, ◌<◌}
use mathlib.Core.Bool.{Bool, true, false}
use mathlib.Core.Path.{◌≡◌, refl, ap, sym, ◌∙◌}
use mathlib.Core.List.{List, [], ◌∷◌, map}
use native.Mathlib.Omega.{arith}
use lib.Dec.{eqb, leb}
use lib.ListN.{length}
use Rattle.ground.specs.Basics.{pick}
use Rattle.ground.specs.Verdict.{verdict, most_bytes, most_records}
use Rattle.entry.specs.Entry as entries
use Rattle.entry.specs.Entry.{Entry, entries_of, as_written}
use Rattle.entry.specs.declared.EntryRecord.{EntryRecord}
use Rattle.reading.specs.Listing.{Listing, done, stop, entry, listing, records_in, tally}
use Rattle.rules.specs.Rules.{Rules, git_rules, judge}
use Rattle.strict.specs.Strict.{strictly, strict_count, cut, text_of}
use Rattle.one_listing.proofs.Cutting.{uncut_sound}
use Rattle.one_listing.proofs.Present.{git_ok}
use Rattle.item.specs.Items.{Named, named_of, Stored, object, holds, read_strictly, tree_of, folder_of, entry_of}
use Rattle.differing.specs.Differing.{StoreSameBytes}
use Rattle.differing.proofs.Stores.{store-empty}
use Rattle.std.specs.Prelude.{Err, Ok}

-- where nothing is refused, strict reading has the records of plain reading
uncut_records : (R : Rules) (h : ℕ) (s : List ℕ) (before : List Entry) (l : Listing) (m n : ℕ) → tally m (cut R h s before l) ≡ Ok n
    → records_in (cut R h s before l) ≡ records_in l
unfolding cut tally records_in
uncut_records R h s before done m n t = refl
uncut_records R h s before (stop v) m n t = refl
uncut_records R h s before (entry at e l) m n t =
    go (λ z. uncut_records R h s (entries.entry_of h s e ∷ before) l (m + 1) n z) (eqb (judge R before (text_of s at e) (entries.entry_of h s e)) 0) t
  where
    go : (tally (m + 1) (cut R h s (entries.entry_of h s e ∷ before) l) ≡ Ok n → records_in (cut R h s (entries.entry_of h s e ∷ before) l) ≡ records_in l)
        → (v : Bool)
        → tally m (pick v (entry at e (cut R h s (entries.entry_of h s e ∷ before) l)) (stop (verdict (judge R before (text_of s at e) (entries.entry_of h s e)) at)))
        ≡ Ok n
        → records_in (pick v (entry at e (cut R h s (entries.entry_of h s e ∷ before) l)) (stop (verdict (judge R before (text_of s at e) (entries.entry_of h s e)) at)))
        ≡ e ∷ records_in l
    go ih true t = ap (λ (rs : List EntryRecord). e ∷ rs) (ih t)
    go ih false t = let z : ◌≡◌ {A = ℕ} 0 1 = cc in absurd (omega arith)

counted_total : (k h : ℕ) (s : List ℕ) (n : ℕ) → strict_count k h s ≡ Ok n → tally 0 (strictly (git_rules k) h s) ≡ Ok n
unfolding strict_count
counted_total k h s n = go (leb (length s) most_bytes)
  where
    go : (v : Bool) → pick v (tally 0 (strictly (git_rules k) h s)) (Err (verdict 2 0)) ≡ Ok n → tally 0 (strictly (git_rules k) h s) ≡ Ok n
    go true t = t
    go false t = let z : ◌≡◌ {A = ℕ} 0 1 = cc in absurd (omega arith)

named : ℕ → ℕ → ℕ → List ℕ → List Named
named k h p s = map (named_of h p s) (records_in (strictly (git_rules k) h s))

named-entries : (h p : ℕ) (s : List ℕ) (rs : List EntryRecord) → map entry_of (map (named_of h p s) rs) ≡ entries_of h s rs
unfolding named_of entries.entry_of
named-entries h p s [] = refl
named-entries h p s (e ∷ rs) = ap (λ (es : List Entry). entries.entry_of h s e ∷ es) (named-entries h p s rs)

root : (k h : ℕ) (store : List ℕ → Stored) (x : ℕ) (a : List ℕ) (p n : ℕ) (s : List ℕ) → store (x ∷ a) ≡ object 2 p s → strict_count k h s ≡ Ok n
    → folder_of k h store (x ∷ a) ≡ holds (named k h p s)
unfolding folder_of tree_of read_strictly named
root k h store x a p n s e c = rw (e, c)

-- an object that strict reading takes is its entries as written
written : (k h : ℕ) (s : List ℕ) (p n : ℕ) → 6 < h → strict_count k h s ≡ Ok n → s ≡ as_written (map entry_of (named k h p s))
unfolding named
written k h s p n o c =
    let t = counted_total k h s n c in
    let u = uncut_sound (git_rules k) (git_ok k) h s o most_records 0 0 n [] s refl t in
    u.1 ∙ ap (λ (rs : List EntryRecord). as_written (entries_of h s rs)) (sym (uncut_records (git_rules k) h s [] (listing h s) 0 n t))
    ∙ ap as_written (sym (named-entries h p s (records_in (strictly (git_rules k) h s))))

pub store-same-bytes : StoreSameBytes
unfolding named
store-same-bytes k h store d x y a b p q n m s t o e c f g w =
    let z = store-empty k h store d (x ∷ a) (y ∷ b) (named k h p s) (named k h q t) (root k h store x a p n s e c) (root k h store y b q m t f g) w in (
      λ i. written k h s p n o c ∙ ap as_written (z.0 i) ∙ sym (written k h t q m o g),
      λ j. z.1 (named-entries h p s (records_in (strictly (git_rules k) h s))
          ∙ ap (λ (l : List ℕ). entries_of h l (records_in (strictly (git_rules k) h l))) j
          ∙ sym (named-entries h q t (records_in (strictly (git_rules k) h t)))),
    )
