-- A part of the walk out of smaller ones, and what it stores. Assumes nothing.
use Prim.Native.Nat.{ℕ, zero, suc, ◌+◌, ◌-◌, ◌*◌, ◌≤◌, ◌<◌}
use mathlib.Core.Path.{◌≡◌, refl, ap, sym, subst, ◌∙◌}
use mathlib.Core.List.{List, [], ◌∷◌, ◌++◌, append_assoc, append-nil}
use native.Mathlib.Omega.{arith}
use native.Mathlib.Nat.{add-zero, add_assoc}
use lib.ListN.{length, take, drop, set, length-append, length-drop}
use lib.Seq.{sets, sets-eq, length-sets, length-take-le, take-set-le, take_at, drop_at}
use Rattle.ground.specs.Verdict.{verdict, fine}
use Rattle.ground.specs.declared.Verdict.{Verdict}
use Rattle.item.specs.Items.{Item, join}
use Rattle.walk.specs.Walk.{Out, refused_by, put, and_then, Lower, change, compare_entries}
use Rattle.walk.specs.Lent.{paths_of, numbers_of}
use Rattle.merge.specs.Merge.{Within, step_at}
use Rattle.walk.specs.Code.{entries_from, name_of_change, item_of, inside, join_length, Held, Did}
use Rattle.merge.specs.declared.Rest.{Rest}
use Rattle.merge.specs.declared.Change.{Change}
use Rattle.merge.specs.declared.Step.{Step}
use Rattle.merge.specs.declared.Step.TheVariants as step
use Rattle.walk.specs.declared.Mark.{Mark}
use Rattle.item.proofs.Laws.{sets_append}
use Rattle.walk.proofs.Walks.{then_is, then-stop, put_is, put_full, put-done}
use Rattle.walk.proofs.Steps.{after, steps_are}

-- ---- what stands before a store, and what was stored

seg_set : (l : List ℕ) (ps pl i a : ℕ) → ps + pl ≤ i → take pl (drop ps (set l i a)) ≡ take pl (drop ps l)
seg_set l zero pl i a h = take-set-le pl l i a (omega arith)
seg_set [] (suc ps) pl zero a h = refl
seg_set [] (suc ps) pl (suc i) a h = refl
seg_set (x ∷ xs) (suc ps) pl zero a h = absurd (omega arith)
seg_set (x ∷ xs) (suc ps) pl (suc i) a h = seg_set xs ps pl i a (omega arith)

pub seg_sets : (l : List ℕ) (ps pl i : ℕ) (vs : List ℕ) → ps + pl ≤ i → take pl (drop ps (sets l i vs)) ≡ take pl (drop ps l)
seg_sets l ps pl i [] h = refl
seg_sets l ps pl i (v ∷ vs) h = seg_sets (set l i v) ps pl (suc i) vs (omega arith) ∙ seg_set l ps pl i v h

pub seg_stored : (l : List ℕ) (m : ℕ) (vs : List ℕ) → m + length vs ≤ length l → take (length vs) (drop m (sets l m vs)) ≡ vs
seg_stored l m vs h =
    let a : m ≤ length l = omega arith in
    rw (sets-eq vs l m h, append_assoc, drop_at (take m l) (vs ++ drop (m + length vs) l) m (length-take-le m l a)) (take_at vs (drop (m + length vs) l) (length vs) refl)

-- ---- a path

join-length : (prefix name : List ℕ) → length (join prefix name) ≡ join_length (length prefix) (length name)
unfolding join join_length
join-length [] name = refl
join-length (p ∷ ps) name = simp length-append (omega arith)

pub joined-none : (pl name : ℕ) → pl ≡ 0 → name ≡ join_length pl name
unfolding join_length
joined-none pl name e = rw e

pub joined-some : (pl name : ℕ) → (pl ≡ 0 → ⊥) → pl + 1 + name ≡ join_length pl name
unfolding join_length
joined-some zero name e = absurd (e refl)
joined-some (suc pl) name e = refl

-- ---- paths and numbers of two lists

paths_append : (xs ys : List Item) → paths_of (xs ++ ys) ≡ paths_of xs ++ paths_of ys
unfolding paths_of
paths_append [] ys = refl
paths_append (x ∷ xs) ys = rw (paths_append xs ys) (sym (append_assoc x.path (paths_of xs) (paths_of ys)))

numbers_append : (m : ℕ) (xs ys : List Item) → numbers_of m (xs ++ ys) ≡ numbers_of m xs ++ numbers_of (m + length (paths_of xs)) ys
unfolding numbers_of paths_of
numbers_append m [] ys = rw add-zero
numbers_append m (x ∷ xs) ys = rw (numbers_append (m + length x.path) xs ys, length-append, add_assoc)

pub numbers-length : (m : ℕ) (xs : List Item) → length (numbers_of m xs) ≡ 6 * length xs
unfolding numbers_of
numbers-length m [] = omega arith
numbers-length m (x ∷ xs) = omega (arith, numbers-length (m + length x.path) xs)

-- ---- parts

pub did_none : (m : Mark) (C : Type 0) (items paths : List ℕ) (v : Verdict) → Did m C items paths (refused_by v) (record { verdict = v; count = m.count; used = m.used }) items paths
unfolding paths_of numbers_of
did_none m C items paths v = (rw (add-zero, add-zero), λ r. refl, λ h r. refl)

pub did_is : (m : Mark) (C : Type 0) (items paths : List ℕ) (o o' : Out) (w : Mark) (items' paths' : List ℕ) → o ≡ o' → Did m C items paths o' w items' paths' → Did m C items paths o w items' paths'
did_is m C items paths o o' w items' paths' e d = rw e d

module _ (m : Mark) (C : Type 0) (items paths : List ℕ) (o : Out) (w : Mark) (items₁ paths₁ : List ℕ) (go : ℕ → Out) (d : Did m C items paths o w items₁ paths₁) where
  no-is : w.verdict.number ≡ o.verdict.number
  no-is = ap (λ (v : Mark). v.verdict.number) d.0

  pub did_stop : (w.verdict.number ≡ 0 → ⊥) → Did m C items paths (and_then m.count o go) w items₁ paths₁
  did_stop z = rw (then-stop m.count o go (λ e. z (no-is ∙ e))) d

  together : (G : Out) (C₁ : Type 0) → (C → m.used + length (paths_of o.items) ≤ length paths → paths₁ ≡ sets paths m.used (paths_of o.items) → C₁)
      → (w' : Mark) (items₂ paths₂ : List ℕ)
      → Did (record { verdict = o.verdict; count = m.count + length o.items; used = m.used + length (paths_of o.items) }) C₁ items₁ paths₁ G w' items₂ paths₂
      → Did m C items paths (record { items = o.items ++ G.items; verdict = G.verdict }) w' items₂ paths₂
  together G C₁ imp w' items₂ paths₂ g = (
    g.0 ∙ rw (length-append o.items G.items, paths_append o.items G.items, length-append (paths_of o.items) (paths_of G.items), add_assoc, add_assoc),
    λ r.
        let r' : 6 * (m.count + (length o.items + length G.items)) ≤ length items = rw (length-append o.items G.items) at r in
        let ra : 6 * (m.count + length o.items) ≤ length items = omega arith in
        let e₁ : items₁ ≡ sets items (6 * m.count) (numbers_of m.used o.items) = d.1 ra in
        let rb : 6 * (m.count + length o.items + length G.items) ≤ length items₁ = rw (e₁, length-sets) (omega arith) in
        g.1 rb ∙ rw (e₁, numbers_append m.used o.items G.items, six m.count (length o.items), ← numbers-length m.used o.items) (sets_append items (6 * m.count) (numbers_of m.used o.items) _),
    λ h r.
        let r' : m.used + length (paths_of o.items) + length (paths_of G.items) ≤ length paths = omega (arith, simp (paths_append, length-append) at r) in
        let ra : m.used + length (paths_of o.items) ≤ length paths = omega arith in
        let e₁ : paths₁ ≡ sets paths m.used (paths_of o.items) = d.2 h ra in
        let rb : m.used + length (paths_of o.items) + length (paths_of G.items) ≤ length paths₁ = rw (e₁, length-sets) r' in
        g.2 (imp h ra e₁) rb ∙ rw (e₁, paths_append o.items G.items) (sets_append paths m.used (paths_of o.items) (paths_of G.items)),
  )
    where
      six : (a b : ℕ) → 6 * (a + b) ≡ 6 * a + 6 * b
      six a b = omega arith

  pub did_then : w.verdict.number ≡ 0 → (C₁ : Type 0) → (C → m.used + length (paths_of o.items) ≤ length paths → paths₁ ≡ sets paths m.used (paths_of o.items) → C₁)
      → (w' : Mark) (items₂ paths₂ : List ℕ) → Did w C₁ items₁ paths₁ (go w.count) w' items₂ paths₂
      → Did m C items paths (and_then m.count o go) w' items₂ paths₂
  did_then z C₁ imp w' items₂ paths₂ g =
      let ec : w.count ≡ m.count + length o.items = ap (λ (v : Mark). v.count) d.0 in
      let g' : Did (record { verdict = o.verdict; count = m.count + length o.items; used = m.used + length (paths_of o.items) }) C₁ items₁ paths₁ (go w.count) w' items₂ paths₂
      = subst (λ (v : Mark). Did v C₁ items₁ paths₁ (go w.count) w' items₂ paths₂) d.0 g in
      let g'' : Did (record { verdict = o.verdict; count = m.count + length o.items; used = m.used + length (paths_of o.items) }) C₁ items₁ paths₁ (go (m.count + length o.items)) w' items₂ paths₂
      = subst (λ (k : ℕ). Did (record { verdict = o.verdict; count = m.count + length o.items; used = m.used + length (paths_of o.items) }) C₁ items₁ paths₁ (go k) w' items₂ paths₂) ec g' in
      rw (then_is m.count o go (sym no-is ∙ z)) (together (go (m.count + length o.items)) C₁ imp w' items₂ paths₂ g'')

-- ---- an item

module _ (m : Mark) (C : Type 0) (items paths : List ℕ) (x : Item) where
  pub did_full : 1048576 ≤ m.count → Did m C items paths (put m.count x) (record { verdict = verdict 2 0; count = m.count; used = m.used }) items paths
  did_full h = rw (put_full m.count x h) (did_none m C items paths (verdict 2 0))

  pub did_put : m.count < 1048576 → (j : ℕ) → j ≡ length x.path → (items' paths' : List ℕ)
      → (6 * (m.count + 1) ≤ length items → items' ≡ sets items (6 * m.count) (m.used ∷ (m.used + j) ∷ x.left.mode ∷ x.right.mode ∷ x.left.place ∷ x.right.place ∷ []))
      → (C → m.used + length x.path ≤ length paths → paths' ≡ sets paths m.used x.path)
      → Did m C items paths (put m.count x) (record { verdict = fine; count = m.count + 1; used = m.used + j }) items' paths'
  unfolding paths_of numbers_of
  did_put h j e items' paths' a b = rw (put_is m.count x h, append-nil, ← e) (refl, a, λ c r. b c (rw (← e) r))

pub path-length : (s prefix : List ℕ) (c : Change) (pl j : ℕ) → length prefix ≡ pl → c.name_start ≤ c.name_end → c.name_end ≤ length s
    → j ≡ join_length pl (c.name_end - c.name_start) → j ≡ length (item_of s prefix c).path
path-length s prefix c pl j e g h f =
    let name-end = c.name_end in
    let name-start = c.name_start in
    let k : length (name_of_change s c) ≡ name-end - name-start = length-take-le (name-end - name-start) (drop name-start s)
    (omega (arith, length-drop name-start s)) in
    f ∙ sym (join-length prefix (name_of_change s c) ∙ rw (e, k))

-- ---- the entries, arm by arm, as the code has them

module _ (below : Lower) (h : ℕ) (s : List ℕ) (l r : Rest) (wl : Within s l) (wr : Within s r) (m : Mark) (ps : ℕ) (items paths prefix : List ℕ) (t : Step) (e : t ≡ step_at h s l r) where
  abbrev W : Out
  W = compare_entries below prefix (entries_from h s l) m.count (entries_from h s r)

  follows : W ≡ after below prefix h s m.count t
  follows = steps_are below prefix h s m.count l r wl wr ∙ ap (after below prefix h s m.count) (sym e)

  pub arm_done : t ≡ step.Done → Did m (Held prefix ps paths) items paths W (record { verdict = fine; count = m.count; used = m.used }) items paths
  unfolding after
  arm_done k = rw (follows ∙ ap (after below prefix h s m.count) k) (did_none m _ items paths fine)

  pub arm_same : (l' r' : Rest) → t ≡ step.Same l' r' → W ≡ compare_entries below prefix (entries_from h s l') m.count (entries_from h s r')
  unfolding after
  arm_same l' r' k = follows ∙ ap (after below prefix h s m.count) k

  module _ (c : Change) (l' r' : Rest) (k : t ≡ step.Differs c l' r') (far : ps + length prefix ≤ m.used) (p : Mark) (items₁ paths₁ : List ℕ)
      (dp : Did m (Held prefix ps paths) items paths (put m.count (item_of s prefix c)) p items₁ paths₁) where
    abbrev Then : ℕ → Out
    Then n = compare_entries below prefix (entries_from h s l') n (entries_from h s r')

    abbrev Inner : ℕ → Out
    Inner n = inside below (join prefix (name_of_change s c)) s c n

    lists : W ≡ and_then m.count (put m.count (item_of s prefix c)) (λ n. and_then n (Inner n) Then)
    unfolding after change
    lists = follows ∙ ap (after below prefix h s m.count) k

    pub arm_full : (p.verdict.number ≡ 0 → ⊥) → Did m (Held prefix ps paths) items paths W p items₁ paths₁
    arm_full z = rw lists (did_stop m _ items paths _ p items₁ paths₁ _ dp z)

    module _ (z : p.verdict.number ≡ 0) where
      one : (put m.count (item_of s prefix c)).items ≡ item_of s prefix c ∷ []
      one = ap (λ (o : Out). o.items) (put-done m.count (item_of s prefix c) (sym (ap (λ (v : Mark). v.verdict.number) dp.0) ∙ z))

      bytes : paths_of (put m.count (item_of s prefix c)).items ≡ join prefix (name_of_change s c)
      unfolding paths_of
      bytes = rw (one, append-nil)

      pub arm_used : p.used ≡ m.used + length (join prefix (name_of_change s c))
      arm_used = ap (λ (v : Mark). v.used) dp.0 ∙ rw bytes

      keeps : Held prefix ps paths → m.used + length (paths_of (put m.count (item_of s prefix c)).items) ≤ length paths
          → paths₁ ≡ sets paths m.used (paths_of (put m.count (item_of s prefix c)).items)
          → Held prefix ps paths₁ × Held (join prefix (name_of_change s c)) m.used paths₁
      keeps q r e =
          let r' : m.used + length (join prefix (name_of_change s c)) ≤ length paths = rw bytes at r in
          let e' : paths₁ ≡ sets paths m.used (join prefix (name_of_change s c)) = rw bytes at e in (
            ap (λ (x : List ℕ). take (length prefix) (drop ps x)) e ∙ seg_sets paths ps (length prefix) m.used (paths_of (put m.count (item_of s prefix c)).items) far ∙ q,
            ap (λ (x : List ℕ). take (length (join prefix (name_of_change s c))) (drop m.used x)) e' ∙ seg_stored paths m.used (join prefix (name_of_change s c)) r',
          )

      module _ (q : Mark) (items₂ paths₂ : List ℕ) (dq : Did p (Held (join prefix (name_of_change s c)) m.used paths₁) items₁ paths₁ (Inner p.count) q items₂ paths₂) where
        pub arm_stop : (q.verdict.number ≡ 0 → ⊥) → Did m (Held prefix ps paths) items paths W q items₂ paths₂
        arm_stop v =
            rw lists
            (did_then m _ items paths _ p items₁ paths₁ _ dp z (Held (join prefix (name_of_change s c)) m.used paths₁) (λ q r e. (keeps q r e).1) q items₂ paths₂
            (did_stop p _ items₁ paths₁ _ q items₂ paths₂ Then dq v))

        pub arm_on : q.verdict.number ≡ 0 → (w : Mark) (items₃ paths₃ : List ℕ) → Did q (Held prefix ps paths₂) items₂ paths₂ (Then q.count) w items₃ paths₃
            → Did m (Held prefix ps paths) items paths W w items₃ paths₃
        arm_on v w items₃ paths₃ g =
            let C₁ : Type 0 = Held prefix ps paths₁ × Held (join prefix (name_of_change s c)) m.used paths₁ in
            let far₁ : ps + length prefix ≤ p.used = omega (arith, arm_used) in
            rw lists
            (did_then m _ items paths _ p items₁ paths₁ _ dp z C₁ keeps w items₃ paths₃
            (did_then p C₁ items₁ paths₁ _ q items₂ paths₂ Then (dq.0, dq.1, λ a b. dq.2 a.1 b) v (Held prefix ps paths₂)
            (λ a b d. ap (λ (x : List ℕ). take (length prefix) (drop ps x)) d ∙ seg_sets paths₁ ps (length prefix) p.used (paths_of (Inner p.count).items) far₁ ∙ a.0)
            w items₃ paths₃ g))
