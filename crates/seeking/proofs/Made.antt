-- The index that is made of a bundle is an index: each of its elements names an object. Assumes nothing.
use Prim.Native.Nat.{ℕ}
use mathlib.Core.Bool.{Bool, true, false}
use mathlib.Core.Path.{sym, subst}
use mathlib.Core.List.Memᴰ
use mathlib.Core.List.{List, [], Memᴰ}
use lib.Dec.{leb}
use lib.ListN.{length, get_or, take}
use Rattle.ground.specs.Basics.{pick}
use Rattle.ground.specs.Verdict.{most_bytes}
use Rattle.frame.specs.Frame.{frames_by}
use Rattle.frame.specs.declared.Header.{Header}
use Rattle.keys.specs.Key.{key_at, below_by}
use Rattle.sorting.specs.Sort.{sort_by}
use Rattle.sorting.proofs.Sorted.{sort_perm}
use Rattle.sorting.proofs.Repeats.{perm_mem, place-mem}
use Rattle.indexing.specs.Indexing.{elements_in, index_of}
use Rattle.indexing.proofs.Laws.{Made, front-is}
use Rattle.seeking.specs.Index.{IsIndex}

module _ (s : List ℕ) (k : Header) (e : IsIndex s k []) (room : ℕ) where
  member : (x : ℕ) → Memᴰ x (index_of s k room) → Memᴰ x (elements_in (frames_by s k))
  unfolding index_of
  member x = go (leb (length s) most_bytes) (leb k.count room)
    where
      go : (t u : Bool) → Memᴰ x (pick t (pick u (sort_by (below_by (key_at s 0 k.h)) (elements_in (frames_by s k))) []) []) → Memᴰ x (elements_in (frames_by s k))
      go true true m = perm_mem (sort_perm (below_by (key_at s 0 k.h)) (elements_in (frames_by s k))) m
      go true false m = absurd (Memᴰ.not-nil m)
      go false u m = absurd (Memᴰ.not-nil m)

  is-index : IsIndex s k (index_of s k room)
  is-index = record { head = e.head; once = e.once; places = λ i l. member (get_or (index_of s k room) i 0) (place-mem 0 (index_of s k room) i l) }

-- what is made of it stands at the front of a list
pub front-index : (s : List ℕ) (k : Header) (list after : List ℕ) (n : ℕ) → IsIndex s k [] → Made s k list n after → IsIndex s k (take n after)
front-index s k list after n e m = subst (λ (l : List ℕ). IsIndex s k l) (sym (front-is s k list after n m)) (is-index s k e (length list))
