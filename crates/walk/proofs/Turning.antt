-- The loop over two folders' entries turn by turn, and two folders by their ids. Assumes nothing.
use Prim.Native.Nat.{ℕ, zero, suc, ◌+◌, ◌-◌, ◌*◌, ◌≤◌, ◌<◌}
use mathlib.Core.Bool.{true, false}
use mathlib.Core.Path.{◌≡◌, refl, ap, ◌∙◌}
use mathlib.Core.List.{List}
use native.Mathlib.Omega.{arith}
use lib.ListN.{length, replicate, length-replicate}
use Rattle.ground.specs.Verdict.{verdict, fine}
use Rattle.ground.specs.declared.Verdict.{Verdict}
use Rattle.item.specs.Items.{join}
use Rattle.walk.specs.Walk.{Out, put, Lower, compare_entries, compare_folders}
use Rattle.frame.specs.declared.Header.{Header}
use Rattle.merge.specs.Merge.{Within, step_at, id_in, SideWithin, ChangeWithin}
use Rattle.merge.proofs.Laws.{same_leads, differs_leads}
use Rattle.opening.specs.Opening.{open_both}
use Rattle.walk.specs.Code.{entries_from, folders_in, name_of_change, item_of, inside, join_length, Held, Did, Small, Added, Short}
use Rattle.merge.specs.declared.Rest.{Rest}
use Rattle.merge.specs.declared.Change.{Change}
use Rattle.merge.specs.declared.Step.{Step}
use Rattle.merge.specs.declared.Step.TheVariants as step
use Rattle.walk.specs.declared.Mark.{Mark}
use Rattle.walk.proofs.Openings.{trees-closed, trees-both}
use Rattle.walk.proofs.Doing.{did_none, did_is, arm_done, arm_same, arm_full, arm_used, arm_stop, arm_on}
use Rattle.std.specs.Prelude.{Err, Ok, Result}

-- ---- what falls. Shut, so that omega meets no large number

unfoldable pub level : ℕ → ℕ → ℕ
level d k = d * 73786976294838206464 + k

pub entry-falls : (d k t : ℕ) → level d (k + 2) ≡ t → level d 1 < t
unfolding level
entry-falls d k t e = omega arith

pub inside-falls : (d t : ℕ) → level d 1 ≡ t → level d 0 < t
unfolding level
inside-falls d t e = omega arith

pub opened-falls : (d t j k : ℕ) → level d 0 ≡ t → (d ≡ 0 → ⊥) → j ≤ 1048576 → k ≤ 1048576 → level (d - 1) (j + k + 2) < t
unfolding level
opened-falls d t j k e h a b = omega arith

-- ---- what stays small

joined_le : (pl name j : ℕ) → j ≡ join_length pl name → j ≤ pl + 1 + name
unfolding join_length
joined_le zero name j e = omega arith
joined_le (suc pl) name j e = omega arith

module _ (m : Mark) (pl name j : ℕ) (s : Small m) (p : pl ≤ 135291469824) (n : name ≤ 1073741824) (e : j ≡ join_length pl name) (k : m.count < 1048576) where
  pub add-fits : m.used + j < 18446744073709551616
  add-fits = omega (arith, joined_le pl name j e, s.0, s.1)

  pub added : Added m pl (record { verdict = fine; count = m.count + 1; used = m.used + j })
  added =
      let a : j ≤ pl + 1 + name = joined_le pl name j e in
      ((omega arith, omega (arith, a, s.0, s.1)), omega arith, omega arith)

pub short-path : (pl depth : ℕ) → Short pl (depth + 1) → pl ≤ 135291469824
short-path pl depth h = omega arith

pub child_short : (m p : Mark) (pl depth : ℕ) → Added m pl p → Short pl (depth + 1) → Short (p.used - m.used) depth
child_short m p pl depth a h = omega (arith, a.1, a.2)

pub left-side : (len : ℕ) (c : Change) → ChangeWithin len c → SideWithin len c.left
left-side len c f = f.2

pub right_side : (len : ℕ) (c : Change) → ChangeWithin len c → SideWithin len c.right
right_side len c f = f.3

-- a walk never takes back
pub grows : (m : Mark) (pl ps : ℕ) (items paths : List ℕ) (o : List ℕ → Out) (w : Mark) (items' paths' : List ℕ)
    → ((prefix : List ℕ) → length prefix ≡ pl → Did m (Held prefix ps paths) items paths (o prefix) w items' paths') → m.used ≤ w.used
grows m pl ps items paths o w items' paths' d = omega (arith, ap (λ (v : Mark). v.used) (d (replicate pl 0) (length-replicate pl 0)).0)

-- ---- the loop: what is done from here on is done from the start

pub record Going (below : Lower) (h : ℕ) (s : List ℕ) (ps pl : ℕ) (l₀ r₀ : Rest) (m₀ : Mark) (items₀ paths₀ : List ℕ) (l r : Rest) (m : Mark) (items paths : List ℕ) : Type 0 where
  pub left_in : Within s l
  pub right_in : Within s r
  pub small : Small m
  pub onward : m₀.used ≤ m.used
  pub items_kept : length items ≡ length items₀
  pub paths_kept : length paths ≡ length paths₀
  pub whole : (prefix : List ℕ) → length prefix ≡ pl → (w : Mark) (items₂ paths₂ : List ℕ)
      → Did m (Held prefix ps paths) items paths (compare_entries below prefix (entries_from h s l) m.count (entries_from h s r)) w items₂ paths₂
      → Did m₀ (Held prefix ps paths₀) items₀ paths₀ (compare_entries below prefix (entries_from h s l₀) m₀.count (entries_from h s r₀)) w items₂ paths₂

pub going_start : (below : Lower) (h : ℕ) (s : List ℕ) (ps pl : ℕ) (l r : Rest) (m : Mark) (items paths : List ℕ) → Within s l → Within s r → Small m
    → Going below h s ps pl l r m items paths l r m items paths
going_start below h s ps pl l r m items paths wl wr sm =
    record { left_in = wl; right_in = wr; small = sm; onward = omega arith; items_kept = refl; paths_kept = refl; whole = λ prefix e w items₂ paths₂ d. d }

module _ {below : Lower} {h : ℕ} {s : List ℕ} {ps pl : ℕ} {l₀ r₀ : Rest} {m₀ : Mark} {items₀ paths₀ : List ℕ} {l r : Rest} {m : Mark} {items paths : List ℕ}
    (g : Going below h s ps pl l₀ r₀ m₀ items₀ paths₀ l r m items paths) (t : Step) (e : t ≡ step_at h s l r) where
  pub going_done : t ≡ step.Done → (prefix : List ℕ) → length prefix ≡ pl
      → Did m₀ (Held prefix ps paths₀) items₀ paths₀ (compare_entries below prefix (entries_from h s l₀) m₀.count (entries_from h s r₀)) (record { verdict = fine; count = m.count; used = m.used }) items paths
  going_done k prefix q = g.whole prefix q _ items paths (arm_done below h s l r g.left_in g.right_in m ps items paths prefix t e k)

  pub going-same : (l' r' : Rest) → t ≡ step.Same l' r' → Going below h s ps pl l₀ r₀ m₀ items₀ paths₀ l' r' m items paths
  going-same l' r' k =
      let f = same_leads h s l r g.left_in g.right_in t e l' r' k in
      record {
        left_in = f.0;
        right_in = f.1;
        small = g.small;
        onward = g.onward;
        items_kept = g.items_kept;
        paths_kept = g.paths_kept;
        whole = λ prefix q v items₂ paths₂ d. g.whole prefix q v items₂ paths₂
            (did_is m _ items paths _ _ v items₂ paths₂ (arm_same below h s l r g.left_in g.right_in m ps items paths prefix t e l' r' k) d);
      }

  module _ (c : Change) (l' r' : Rest) (k : t ≡ step.Differs c l' r') (far : ps + pl ≤ m₀.used) (p : Mark) (items₁ paths₁ : List ℕ)
      (dp : (prefix : List ℕ) → length prefix ≡ pl → Did m (Held prefix ps paths) items paths (put m.count (item_of s prefix c)) p items₁ paths₁) where
    near : (prefix : List ℕ) → length prefix ≡ pl → ps + length prefix ≤ m.used
    near prefix q = omega (arith, g.onward)

    pub going_full : (p.verdict.number ≡ 0 → ⊥) → (prefix : List ℕ) → length prefix ≡ pl
        → Did m₀ (Held prefix ps paths₀) items₀ paths₀ (compare_entries below prefix (entries_from h s l₀) m₀.count (entries_from h s r₀)) p items₁ paths₁
    going_full z prefix q =
        g.whole prefix q p items₁ paths₁ (arm_full below h s l r g.left_in g.right_in m ps items paths prefix t e c l' r' k (near prefix q) p items₁ paths₁ (dp prefix q) z)

    module _ (z : p.verdict.number ≡ 0) (a : Added m pl p) (ki : length items₁ ≡ length items) (kp : length paths₁ ≡ length paths) where
      module _ (q : Mark) (items₂ paths₂ : List ℕ)
          (dq : (prefix : List ℕ) → length prefix ≡ p.used - m.used → Did p (Held prefix m.used paths₁) items₁ paths₁ (inside below prefix s c p.count) q items₂ paths₂) where
        inner : (prefix : List ℕ) → length prefix ≡ pl
            → Did p (Held (join prefix (name_of_change s c)) m.used paths₁) items₁ paths₁ (inside below (join prefix (name_of_change s c)) s c p.count) q items₂ paths₂
        inner prefix u =
            dq (join prefix (name_of_change s c))
            (omega (arith, arm_used below h s l r g.left_in g.right_in m ps items paths prefix t e c l' r' k (near prefix u) p items₁ paths₁ (dp prefix u) z))

        pub going-stop : (q.verdict.number ≡ 0 → ⊥) → (prefix : List ℕ) → length prefix ≡ pl
            → Did m₀ (Held prefix ps paths₀) items₀ paths₀ (compare_entries below prefix (entries_from h s l₀) m₀.count (entries_from h s r₀)) q items₂ paths₂
        going-stop v prefix u =
            g.whole prefix u q items₂ paths₂
            (arm_stop below h s l r g.left_in g.right_in m ps items paths prefix t e c l' r' k (near prefix u) p items₁ paths₁ (dp prefix u) z q items₂ paths₂ (inner prefix u) v)

        pub going_on : q.verdict.number ≡ 0 → Small q → length items₂ ≡ length items₁ → length paths₂ ≡ length paths₁
            → Going below h s ps pl l₀ r₀ m₀ items₀ paths₀ l' r' q items₂ paths₂
        going_on v sm ki₂ kp₂ =
            let f = differs_leads h s l r g.left_in g.right_in t e c l' r' k in
            let up : p.used ≤ q.used = grows p (p.used - m.used) m.used items₁ paths₁ (λ prefix. inside below prefix s c p.count) q items₂ paths₂ dq in
            record {
              left_in = f.1.0;
              right_in = f.1.1;
              small = sm;
              onward = omega (arith, a.1, g.onward);
              items_kept = ki₂ ∙ ki ∙ g.items_kept;
              paths_kept = kp₂ ∙ kp ∙ g.paths_kept;
              whole = λ prefix u x items₃ paths₃ d. g.whole prefix u x items₃ paths₃
                  (arm_on below h s l r g.left_in g.right_in m ps items paths prefix t e c l' r' k (near prefix u) p items₁ paths₁ (dp prefix u) z q items₂ paths₂ (inner prefix u) v x items₃ paths₃ d);
            }

-- ---- what is inside a change

module _ (below : Lower) (prefix s : List ℕ) (c : Change) (m : Mark) (C : Type 0) (items paths : List ℕ) where
  pub inside_deep : c.deep ≡ true → (w : Mark) (items' paths' : List ℕ) → Did m C items paths (below prefix (id_in s c.left) (id_in s c.right) m.count) w items' paths'
      → Did m C items paths (inside below prefix s c m.count) w items' paths'
  inside_deep y w items' paths' d = rw y d

  pub inside-flat : c.deep ≡ false → Did m C items paths (inside below prefix s c m.count) (record { verdict = fine; count = m.count; used = m.used }) items paths
  inside-flat y = rw y (did_none m C items paths fine)

-- ---- two folders

module _ (d : ℕ) (hd : Header) (s a b index : List ℕ) (t : Result (Rest × Rest) Verdict) (e : t ≡ open_both hd s a b d index) (m : Mark) (C : Type 0) (items paths prefix : List ℕ) where
  pub tree-closed : (v : Verdict) → t ≡ Err v
      → Did m C items paths (compare_folders (folders_in hd s index) d prefix a b m.count) (record { verdict = v; count = m.count; used = m.used }) items paths
  tree-closed v k = did_is m C items paths _ _ _ items paths (trees-closed d hd s prefix a b m.count index t e v k) (did_none m C items paths v)

  pub tree-both : (l r : Rest) → t ≡ Ok (l, r) → (w : Mark) (items' paths' : List ℕ)
      → Did m C items paths (compare_entries (compare_folders (folders_in hd s index) (d - 1)) prefix (entries_from hd.h s l) m.count (entries_from hd.h s r)) w items' paths'
      → Did m C items paths (compare_folders (folders_in hd s index) d prefix a b m.count) w items' paths'
  tree-both l r k w items' paths' g = did_is m C items paths _ _ w items' paths' (trees-both d hd s prefix a b m.count index t e l r k) g

pub short-next : (pl depth : ℕ) → (depth ≡ 0 → ⊥) → Short pl depth → Short pl (depth - 1 + 1)
short-next pl depth e h =
    let f : depth - 1 + 1 ≡ depth = omega arith in
    rw f h
