-- Two folders of the definitions are the trees that the code opens. Assumes nothing.
use Prim.Native.Nat.{ℕ, zero, suc, ◌-◌}
use mathlib.Core.Path.{◌≡◌, refl, ap, sym, ◌∙◌}
use mathlib.Core.List.{List}
use native.Mathlib.Numerals.{sub-one}
use lib.Dec.{eqb-suc-zero}
use Rattle.ground.specs.declared.Verdict.{Verdict}
use Rattle.frame.specs.declared.Header.{Header}
use Rattle.merge.specs.declared.Rest.{Rest}
use Rattle.opening.specs.Opening.{open_in, pair_of, open_both}
use Rattle.item.specs.Items.{Named}
use Rattle.walk.specs.Walk.{Out, refused_by, compare_entries, opened, compare_folders}
use Rattle.walk.specs.Code.{entries_from, folder_at, folders_in}
use Rattle.std.specs.Prelude.{Err, Ok, Result}

-- the entries of two trees that were opened are gone on with
unfoldable pub on_pair : ℕ → List ℕ → Result (Rest × Rest) Verdict → (List Named → List Named → Out) → Out
on_pair h s (Err v) go = refused_by v
on_pair h s (Ok (l, r)) go = go (entries_from h s l) (entries_from h s r)

on_both : (h : ℕ) (s : List ℕ) (go : List Named → List Named → Out) (x y : Result Rest Verdict)
    → opened (folder_at h s x) (λ ls. opened (folder_at h s y) (λ rs. go ls rs)) ≡ on_pair h s (pair_of x y) go
unfolding opened folder_at on_pair pair_of
on_both h s go (Err v) y = refl
on_both h s go (Ok l) (Err w) = refl
on_both h s go (Ok l) (Ok r) = refl

module _ (d : ℕ) (hd : Header) (s prefix a b : List ℕ) (n : ℕ) (index : List ℕ) (t : Result (Rest × Rest) Verdict) (e : t ≡ open_both hd s a b d index) where
  trees : compare_folders (folders_in hd s index) d prefix a b n ≡ on_pair hd.h s t (λ ls rs. compare_entries (compare_folders (folders_in hd s index) (d - 1)) prefix ls n rs)
  unfolding compare_folders on_pair open_both
  trees = go d ∙ ap (λ (p : Result (Rest × Rest) Verdict). on_pair hd.h s p (λ ls rs. compare_entries (compare_folders (folders_in hd s index) (d - 1)) prefix ls n rs)) (sym e)
    where
      go : (d : ℕ) → compare_folders (folders_in hd s index) d prefix a b n
          ≡ on_pair hd.h s (open_both hd s a b d index) (λ ls rs. compare_entries (compare_folders (folders_in hd s index) (d - 1)) prefix ls n rs)
      go zero = refl
      go (suc d) =
          simp (sub-one, eqb-suc-zero)
          (on_both hd.h s (λ ls rs. compare_entries (compare_folders (folders_in hd s index) d) prefix ls n rs) (open_in hd s a index) (open_in hd s b index))

  pub trees-closed : (v : Verdict) → t ≡ Err v → compare_folders (folders_in hd s index) d prefix a b n ≡ refused_by v
  unfolding on_pair
  trees-closed v k = trees ∙ rw k

  pub trees-both : (l r : Rest) → t ≡ Ok (l, r)
      → compare_folders (folders_in hd s index) d prefix a b n ≡ compare_entries (compare_folders (folders_in hd s index) (d - 1)) prefix (entries_from hd.h s l) n (entries_from hd.h s r)
  unfolding on_pair
  trees-both l r k = trees ∙ rw k
