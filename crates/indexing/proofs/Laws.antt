-- The index as it is made. Assumes nothing.
use Prim.Native.Nat.{ℕ, zero, suc, ◌≤◌, ◌<◌}
use mathlib.Core.Bool.{Bool, true, false}
use mathlib.Core.Path.{◌≡◌, ap, sym, ◌∙◌}
use mathlib.Core.List.{List, [], ◌++◌}
use native.Mathlib.Omega.{arith}
use borrow.Author.Tests.{le-leb, lt-leb}
use lib.Dec.{eqb}
use lib.ListN.{length, take, drop, length-append}
use lib.Seq.{sets, take_at, drop_at}
use Rattle.ground.specs.Basics.{pick}
use Rattle.ground.specs.Verdict.{most_bytes}
use Rattle.ground.proofs.Laws.{sets_front}
use Rattle.frame.specs.Frame.{frame_at, done, fault, onward, frames, frames_by}
use Rattle.frame.specs.declared.Header.{Header}
use Rattle.keys.specs.Key.{key_at, below_by}
use Rattle.sorting.specs.Sort.{sort_by}
use Rattle.sorting.proofs.Sorted.{sort-length}
use Rattle.indexing.specs.Indexing.{elements_in, index_of}
use Rattle.frame.specs.declared.Frame.{Frame}
use Rattle.std.specs.Prelude.{None, Option, Some}

elements-few : (h : ℕ) (s : List ℕ) (n at : ℕ) → length (elements_in (frames h s n at)) ≤ n
unfolding frames onward elements_in
elements-few h s zero at = go (eqb at (length s))
  where
    go : (b : Bool) → length (elements_in (pick b done fault)) ≤ 0
    go true = omega arith
    go false = omega arith
elements-few h s (suc n) at = go (λ (b : ℕ). elements-few h s n b) (frame_at h at (drop at s))
  where
    go : ((b : ℕ) → length (elements_in (frames h s n b)) ≤ n) → (r : Option Frame) → length (elements_in (onward (frames h s n) r)) ≤ suc n
    go ih (Some f) = let i = ih f.end in omega arith
    go ih None = omega arith

-- what is said of a list and its length, once the index is made
abbrev pub Made : List ℕ → Header → List ℕ → ℕ → List ℕ → Type 0
Made s k list n after = (n ≡ length (index_of s k (length list))) × (after ≡ index_of s k (length list) ++ drop (length (index_of s k (length list))) list)

over-is : (s : List ℕ) (k : Header) (room : ℕ) → most_bytes < length s → index_of s k room ≡ []
unfolding index_of
over-is s k room p = rw (lt-leb _ _ p)

short-is : (s : List ℕ) (k : Header) (room : ℕ) → length s ≤ most_bytes → room < k.count → index_of s k room ≡ []
unfolding index_of
short-is s k room p q = rw (le-leb _ _ p, lt-leb _ _ q)

pub whole_is : (s : List ℕ) (k : Header) (room : ℕ) → length s ≤ most_bytes → k.count ≤ room → index_of s k room ≡ sort_by (below_by (key_at s 0 k.h)) (elements_in (frames_by s k))
unfolding index_of
whole_is s k room p q = rw (le-leb _ _ p, le-leb _ _ q)

module _ (s : List ℕ) (k : Header) (list : List ℕ) where
  none_made : index_of s k (length list) ≡ [] → Made s k list 0 list
  none_made e = (ap length (sym e), ap (λ (l : List ℕ). l ++ drop (length l) list) (sym e))

  pub made-over : most_bytes < length s → Made s k list 0 list
  made-over p = none_made (over-is s k (length list) p)

  module _ (p : length s ≤ most_bytes) where
    pub made-short : length list < k.count → Made s k list 0 list
    made-short q = none_made (short-is s k (length list) p q)

    pub made-whole : k.count ≤ length list → (stored sorted : List ℕ) (n : ℕ) → n ≡ length (elements_in (frames_by s k)) → stored ≡ sets list 0 (elements_in (frames_by s k))
        → sorted ≡ sort_by (below_by (key_at s 0 k.h)) (take n stored) ++ drop n stored → Made s k list n sorted
    made-whole q stored sorted n en es eo =
        let l : List ℕ = elements_in (frames_by s k) in
        let b = below_by (key_at s 0 k.h) in
        let fits : length l ≤ length list = omega (arith, elements-few k.h s k.count k.from) in
        let f : stored ≡ l ++ drop (length l) list = es ∙ sets_front list l fits in
        let a : take n stored ≡ l = ap (take n) f ∙ take_at l (drop (length l) list) n (sym en) in
        let d : drop n stored ≡ drop (length l) list = ap (drop n) f ∙ drop_at l (drop (length l) list) n (sym en) in
        let i : index_of s k (length list) ≡ sort_by b l = whole_is s k (length list) p q in
        let m : length (index_of s k (length list)) ≡ length l = ap length i ∙ sort-length b l in (
          en ∙ sym m,
          eo ∙ ap (λ (x : List ℕ). sort_by b x ++ drop n stored) a ∙ ap (λ (x : List ℕ). sort_by b l ++ x) d
              ∙ ap (λ (x : List ℕ). x ++ drop (length l) list) (sym i) ∙ ap (λ (j : ℕ). index_of s k (length list) ++ drop j list) (sym m),
        )

-- it stands at the front of the list
pub front-is : (s : List ℕ) (k : Header) (list after : List ℕ) (n : ℕ) → Made s k list n after → take n after ≡ index_of s k (length list)
front-is s k list after n m =
    let i : List ℕ = index_of s k (length list) in
    ap (take n) m.1 ∙ take_at i (drop (length i) list) n (sym m.0)

pub front_fits : (s : List ℕ) (k : Header) (list after : List ℕ) (n : ℕ) → Made s k list n after → n ≤ length after
front_fits s k list after n m =
    let i : List ℕ = index_of s k (length list) in
    omega (arith, m.0, ap length m.1, length-append i (drop (length i) list))
