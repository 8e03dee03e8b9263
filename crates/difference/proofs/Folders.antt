-- The folders that the walk opens with an index of the bundle are the bundle's. Assumes nothing.
use Prim.Native.Nat.{ℕ, ◌≤◌}
use mathlib.Core.Bool.{Bool, true, false}
use mathlib.Core.Path.{◌≡◌, refl, ap, ◌∙◌, fun_ext}
use mathlib.Core.List.{List, [], ◌∷◌}
use borrow.Author.Tests.{le-leb}
use lib.Dec.{eqb, eqb-suc-zero}
use lib.ListN.{length}
use Rattle.ground.specs.Basics.{pick, part}
use Rattle.ground.specs.Verdict.{verdict, most_bytes}
use Rattle.frame.specs.Place.{place_of}
use Rattle.frame.specs.declared.Header.{Header}
use Rattle.strict.specs.Strict.{strict_count}
use Rattle.seeking.specs.Index.{IsIndex}
use Rattle.opening.specs.Opening.{open_counted, open_placed, open_by, open_at}
use Rattle.opening.proofs.Laws.{strict-exact, open_indexed}
use Rattle.item.specs.Items.{Folder, shut, read_strictly, tree_of, folder_of}
use Rattle.walk.specs.Walk.{levels, compare_folders}
use Rattle.walk.specs.Code.{entries_from, folder_at, walk_in}
use Rattle.walk.proofs.Steps.{plain-zero}
use Rattle.difference.specs.Whole.{stored_at, store_of, folders_of, differences}
use Rattle.frame.specs.declared.Frame.{Frame}
use Rattle.ground.specs.declared.Verdict.{Verdict}
use Rattle.std.specs.Prelude.{Err, None, Ok, Option, Result, Some}

module _ (k : Header) (s : List ℕ) where
  counted_is : (start end : ℕ) (c : Result ℕ Verdict) → strict_count k.rules k.h (part start end s) ≡ c
      → folder_at k.h s (open_counted start end c) ≡ read_strictly k.rules k.h start (part start end s) c
  unfolding read_strictly folder_at open_counted entries_from
  counted_is start end (Err v) t = refl
  counted_is start end (Ok n) t = rw (strict-exact k.rules k.h (part start end s) n t)

  placed-is : (p : Option Frame) → folder_at k.h s (open_placed k s p) ≡ tree_of k.rules k.h (stored_at s p)
  unfolding stored_at tree_of open_placed folder_at
  placed-is None = refl
  placed-is (Some f) = kinds (eqb f.kind 2)
    where
      kinds : (t : Bool)
          → folder_at k.h s (pick t (open_counted f.start f.end (strict_count k.rules k.h (part f.start f.end s))) (Err (verdict 28 0)))
          ≡ pick t (read_strictly k.rules k.h f.start (part f.start f.end s) (strict_count k.rules k.h (part f.start f.end s))) (shut (verdict 28 0))
      kinds true = counted_is f.start f.end (strict_count k.rules k.h (part f.start f.end s)) refl
      kinds false = refl

  opens : (id : List ℕ) → folder_at k.h s (open_at k s id) ≡ folders_of k s id
  unfolding folder_of store_of open_by folder_at entries_from
  opens [] = rw (plain-zero k.h 0 (part 0 0 s))
  opens (x ∷ id) = rw eqb-suc-zero (placed-is (place_of s (x ∷ id)))

-- so the walk with such an index says how the roots differ
pub walk_is : (k : Header) (s index left right : List ℕ) → IsIndex s k index → length s ≤ most_bytes → walk_in k s index left right ≡ differences k s left right
unfolding walk_in differences
walk_is k s index left right x h =
    rw (le-leb (length s) most_bytes h)
    (ap (λ (f : List ℕ → Folder). compare_folders f levels [] left right 0) (fun_ext (λ (id : List ℕ). ap (folder_at k.h s) (open_indexed k s id index x) ∙ opens k s id)))
