-- Isolation: what a path gives hangs on nothing but the objects that it meets. Assumes nothing.
use Prim.Native.Nat.{ℕ, ◌≤◌, max}
use native.Mathlib.Omega.{arith}
use mathlib.Core.Path.{◌≡◌, refl, ap, sym, ◌∙◌}
use mathlib.Core.Bool.{Bool, true, false, false≢true, ◌||◌, ◌&&◌}
use mathlib.Core.List.Memᴰ
use mathlib.Core.List.{List, [], ◌∷◌, Memᴰ}
use mathlib.Core.Logic.{◌⊎◌, inl, inr, ⊎_elim}
use lib.Dec.{eqb, leb}
use lib.ListN.{length, take, drop, length-drop}
use lib.Seq.{length-take-le}
use borrow.Author.Tests.{leb-true, le-leb}
use Rattle.ground.specs.Basics.{pick}
use Rattle.ground.specs.Scan.{same_bytes}
use Rattle.ground.specs.Verdict.{verdict, most_bytes, most_records, size_gate}
use Rattle.ground.proofs.Laws.{same_refl, same_true, is_false, same_test}
use Rattle.ground.specs.declared.Verdict.{Verdict}
use Rattle.entry.specs.Record.{id_of}
use Rattle.reading.specs.Listing.{plain}
use Rattle.twice.specs.Ids.{among, repeats}
use Rattle.bundle.specs.Bundle.{Object, Bundle, good, bundle_of, ids_of, Sought, present, absent, object_with}
use Rattle.component.specs.Component.{components, is_path}
use Rattle.component.specs.Named.{Found, there, nowhere, entries_read, first_named, first_in}
use Rattle.component.proofs.Laws.{seen, first-named, first-within}
use Rattle.path.specs.Path.{in_object, step_to, onto, walk_along, refused_with, answered, follow_along, follow_in, follow_from, follow}
use Rattle.path_walk.specs.declared.Followed.{Followed}
use Rattle.isolation.proofs.Checked.{checked}
use Rattle.isolation.specs.Isolation.{Meets, first, later, Lacks, Holds, Agree, neither, both, Called, Isolation}
use Rattle.entry.specs.declared.EntryRecord.{EntryRecord}
use Rattle.std.specs.Prelude.{Err, None, Ok, Option, Result, Some, ⊤}

-- ---- an object and the id that it is sought by

same-other : (x y : List ℕ) → (x ≡ y → ⊥) → same_bytes x y ≡ false
same-other x y n = is_false (same_bytes x y) (λ e. n (same_true x y e))

lacks-absent : (os : List Object) (id : List ℕ) → Lacks os id → object_with id os ≡ absent
unfolding object_with
lacks-absent [] id l = refl
lacks-absent (o ∷ os) id l =
    rw (same-other o.id id (l o (Memᴰ.head refl))) (lacks-absent os id (λ p m. l p (Memᴰ.tail m)))

-- an object's id is among the ids
member-among : (os : List Object) (o : Object) → Memᴰ o os → among o.id (ids_of os) ≡ true
unfolding among
member-among [] o m = absurd (Memᴰ.not-nil m)
member-among (p ∷ os) o m = go (Memᴰ.cases_cons m) (member-among os o)
  where
    or_right : (a b : Bool) → b ≡ true → (a || b) ≡ true
    or_right true b e = refl
    or_right false b e = e

    go : (o ≡ p) ⊎ Memᴰ o os → (Memᴰ o os → among o.id (ids_of os) ≡ true) → (same_bytes p.id o.id || among o.id (ids_of os)) ≡ true
    go (inl e) ih = rw (e, same_refl p.id)
    go (inr k) ih = or_right (same_bytes p.id o.id) _ (ih k)

-- where no id stands twice, an object that is there is the one found
holds-present : (os : List Object) (o : Object) → repeats (ids_of os) ≡ false → Memᴰ o os → object_with o.id os ≡ present o
unfolding object_with repeats
holds-present [] o r m = absurd (Memᴰ.not-nil m)
holds-present (p ∷ os) o r m = go (Memᴰ.cases_cons m) (among p.id (ids_of os)) refl r (holds-present os o)
  where
    other : among p.id (ids_of os) ≡ false → Memᴰ o os → p.id ≡ o.id → ⊥
    other a k e = false≢true (sym a ∙ rw e (member-among os o k))

    go : (o ≡ p) ⊎ Memᴰ o os → (v : Bool) → among p.id (ids_of os) ≡ v → (v || repeats (ids_of os)) ≡ false
        → (repeats (ids_of os) ≡ false → Memᴰ o os → object_with o.id os ≡ present o)
        → pick (same_bytes p.id o.id) (present p) (object_with o.id os) ≡ present o
    go (inl e) v a r ih = rw (e, same_refl p.id)
    go (inr k) true a r ih = absurd (false≢true (sym r))
    go (inr k) false a r ih = rw (same-other p.id o.id (other a k)) (ih r k)

-- two bundles that agree on an id find the same by it
agree_same : (ps qs : List Object) (id : List ℕ) → repeats (ids_of ps) ≡ false → repeats (ids_of qs) ≡ false → Agree ps qs id → object_with id ps ≡ object_with id qs
agree_same ps qs id ra rb (neither a b) = lacks-absent ps id a ∙ sym (lacks-absent qs id b)
agree_same ps qs id ra rb (both kind bytes a b) =
    let o : Object = record { id = id; kind = kind; bytes = bytes } in
    holds-present ps o ra a ∙ sym (holds-present qs o rb b)

-- ---- the walk

-- what a path gives hangs on the objects of the ids that it meets
walk_same : (h : ℕ) (ps qs : List Object) (id : List ℕ) (cs : List (List ℕ)) → ((x : List ℕ) → Meets h ps id cs x → object_with x ps ≡ object_with x qs)
    → walk_along h ps id cs ≡ walk_along h qs id cs
unfolding walk_along step_to onto
walk_same h ps qs id [] f = refl
walk_same h ps qs id (c ∷ []) f = ap (in_object h c) (f id first)
walk_same h ps qs id (c ∷ d ∷ ds) f =
    ap (λ (r : Found). onto r (λ next. walk_along h ps next (d ∷ ds))) (ap (in_object h c) (f id first))
    ∙ go (in_object h c (object_with id qs)) (ap (in_object h c) (f id first)) (λ next g. walk_same h ps qs next (d ∷ ds) g)
  where
    go : (r : Found) → step_to h ps id c ≡ r
        → ((next : List ℕ) → ((x : List ℕ) → Meets h ps next (d ∷ ds) x → object_with x ps ≡ object_with x qs) → walk_along h ps next (d ∷ ds) ≡ walk_along h qs next (d ∷ ds))
        → onto r (λ next. walk_along h ps next (d ∷ ds)) ≡ onto r (λ next. walk_along h qs next (d ∷ ds))
    go nowhere e ih = refl
    go (there mode next) e ih = ih next (λ x m. f x (later e m))

-- ---- the answer

-- two buffers within the bound pass the same gate
gate_same : (a b r p : ℕ) → a ≤ most_bytes → b ≤ most_bytes → size_gate (max (max a r) p) 0 ≡ size_gate (max (max b r) p) 0
unfolding size_gate
gate_same a b r p x y =
    let z : leb (max (max a r) p) most_bytes ≡ leb (max (max b r) p) most_bytes =
    same_test (leb (max (max a r) p) most_bytes) (leb (max (max b r) p) most_bytes)
    (λ e. let q = leb-true (max (max a r) p) most_bytes e in le-leb (max (max b r) p) most_bytes (omega arith))
    (λ e. let q = leb-true (max (max b r) p) most_bytes e in le-leb (max (max a r) p) most_bytes (omega arith)) in
    rw z

module _ (s t root path : List ℕ) (h : ℕ) (ps qs : List Object)
    (ws : bundle_of s ≡ good h ps) (wt : bundle_of t ≡ good h qs)
    (rs : repeats (ids_of ps) ≡ false) (rt : repeats (ids_of qs) ≡ false)
    (walks : walk_along h ps root (components path) ≡ walk_along h qs root (components path)) where
  same_in : follow_in (good h ps) root (components path) ≡ follow_in (good h qs) root (components path)
  unfolding follow_in follow_along
  same_in = rw (rs, rt, walks)

  same_from : (g : Result ⊤ Verdict) → follow_from s root path g ≡ follow_from t root path g
  unfolding follow_from
  same_from (Err v) = refl
  same_from (Ok tt) =
      ap (λ (b : Bundle). follow_in b root (components path)) ws ∙ same_in ∙ sym (ap (λ (b : Bundle). follow_in b root (components path)) wt)

-- ---- the theorem

-- Two bundles of one H and within the bound, both well framed and without a repeated id, in which every id met on the path is either absent from both
-- or has the same kind and bytes in both, give that path from one root id the same answer, refusals included. The id that the path ends at is not met.
isolation : (s t root path : List ℕ) (h : ℕ) (ps qs : List Object)
    → length s ≤ most_bytes → length t ≤ most_bytes
    → bundle_of s ≡ good h ps → bundle_of t ≡ good h qs
    → repeats (ids_of ps) ≡ false → repeats (ids_of qs) ≡ false
    → ((id : List ℕ) → Meets h ps root (components path) id → Agree ps qs id)
    → follow s root path ≡ follow t root path
isolation s t root path h ps qs ls lt ws wt rs rt agree =
    let walks : walk_along h ps root (components path) ≡ walk_along h qs root (components path) =
    walk_same h ps qs root (components path) (λ x m. agree_same ps qs x rs rt (agree x m)) in
    ap (follow_from s root path) (gate_same (length s) (length t) (length root) (length path) ls lt)
    ∙ same_from s t root path h ps qs ws wt rs rt walks (size_gate (max (max (length t) (length root)) (length path)) 0)

-- ---- the answer is no position

with_present : (os : List Object) (id : List ℕ) (o : Object) → object_with id os ≡ present o → Memᴰ o os × (o.id ≡ id)
unfolding object_with
with_present [] id o e = let z : ◌≡◌ {A = ℕ} 0 1 = cc in absurd (omega arith)
with_present (p ∷ os) id o e = go (same_bytes p.id id) refl e (with_present os id o)
  where
    go : (v : Bool) → same_bytes p.id id ≡ v → pick v (present p) (object_with id os) ≡ present o → (object_with id os ≡ present o → Memᴰ o os × (o.id ≡ id))
        → Memᴰ o (p ∷ os) × (o.id ≡ id)
    go true q e ih = let r : p ≡ o = cc in (Memᴰ.head (sym r), rw r at (same_true p.id id q))
    go false q e ih = let w = ih e in (Memᴰ.tail w.0, w.1)

with_absent : (os : List Object) (id : List ℕ) → object_with id os ≡ absent → Lacks os id
unfolding object_with
with_absent [] id e o m q = Memᴰ.not-nil m
with_absent (p ∷ os) id e o m q = go (same_bytes p.id id) refl e (with_absent os id)
  where
    go : (v : Bool) → same_bytes p.id id ≡ v → pick v (present p) (object_with id os) ≡ absent → (object_with id os ≡ absent → Lacks os id) → ⊥
    go true y e ih = let z : ◌≡◌ {A = ℕ} 0 1 = cc in omega arith
    go false y e ih =
        ⊎_elim (λ (r : o ≡ p). false≢true (sym y ∙ rw (← r, q) (same_refl id))) (λ k. ih e o k q) (Memᴰ.cases_cons m)

-- Two bundles of the same objects, in whatever order and wherever they stand, give every path the same answer: no answer is a position.
moved : (s t root path : List ℕ) (h : ℕ) (ps qs : List Object)
    → length s ≤ most_bytes → length t ≤ most_bytes
    → bundle_of s ≡ good h ps → bundle_of t ≡ good h qs
    → repeats (ids_of ps) ≡ false → repeats (ids_of qs) ≡ false
    → ((o : Object) → Memᴰ o ps → Memᴰ o qs) → ((o : Object) → Memᴰ o qs → Memᴰ o ps)
    → follow s root path ≡ follow t root path
moved s t root path h ps qs ls lt ws wt rs rt f g = isolation s t root path h ps qs ls lt ws wt rs rt (λ id m. agree id (object_with id ps) refl)
  where
    agree : (id : List ℕ) (r : Sought) → object_with id ps ≡ r → Agree ps qs id
    agree id (present o) e =
        let w = with_present ps id o e in
        let e0 : Holds ps o.id o.kind o.bytes = w.0 in
        let e1 : Holds qs o.id o.kind o.bytes = f o w.0 in
        both o.kind o.bytes (rw w.1 at e0) (rw w.1 at e1)
    agree id absent e = let l = with_absent ps id e in neither l (λ o m q. l o (g o m) q)

-- ---- the answer's id has H bytes

-- it has h bytes
seen_size : (h : ℕ) (b name : List ℕ) (r : Option EntryRecord) → r ≡ first_in b name (plain h (length b) 0 b) → (m : ℕ) (i : List ℕ) → seen h b r ≡ there m i → length i ≡ h
unfolding seen id_of
seen_size h b name (Some e) q m i w =
    let j : take h (drop e.id_start b) ≡ i = cc in
    let l = first-within h b name (length b) 0 e (sym q) in
    sym (ap length j) ∙ length-take-le h (drop e.id_start b) (omega (arith, length-drop e.id_start b))
seen_size h b name None q m i w = let z : ◌≡◌ {A = ℕ} 0 1 = cc in absurd (omega arith)

named-size : (h : ℕ) (b name : List ℕ) (m : ℕ) (i : List ℕ) → first_named name (entries_read h b) ≡ there m i → length i ≡ h
unfolding entries_read
named-size h b name m i e = seen_size h b name (first_in b name (plain h (length b) 0 b)) refl m i (first-named h b name (plain h (length b) 0 b) ∙ e)

step-size : (h : ℕ) (os : List Object) (id name : List ℕ) (m : ℕ) (i : List ℕ) → step_to h os id name ≡ there m i → length i ≡ h
unfolding step_to in_object
step-size h os id name m i e = go (object_with id os) e
  where
    tree : (o : Object) (v : Bool) → pick v (first_named name (entries_read h o.bytes)) nowhere ≡ there m i → length i ≡ h
    tree o true e = named-size h o.bytes name m i e
    tree o false e = let z : ◌≡◌ {A = ℕ} 0 1 = cc in absurd (omega arith)

    go : (r : Sought) → in_object h name r ≡ there m i → length i ≡ h
    go (present o) e = tree o (eqb o.kind 2) e
    go absent e = let z : ◌≡◌ {A = ℕ} 0 1 = cc in absurd (omega arith)

walk_size : (h : ℕ) (os : List Object) (id : List ℕ) (cs : List (List ℕ)) (m : ℕ) (i : List ℕ) → walk_along h os id cs ≡ there m i → length i ≡ h
unfolding walk_along onto
walk_size h os id [] m i e = let z : ◌≡◌ {A = ℕ} 0 1 = cc in absurd (omega arith)
walk_size h os id (c ∷ []) m i e = step-size h os id c m i e
walk_size h os id (c ∷ d ∷ ds) m i e = go (step_to h os id c) e (λ next. walk_size h os next (d ∷ ds) m i)
  where
    go : (r : Found) → onto r (λ next. walk_along h os next (d ∷ ds)) ≡ there m i → ((next : List ℕ) → walk_along h os next (d ∷ ds) ≡ there m i → length i ≡ h) → length i ≡ h
    go nowhere e ih = let z : ◌≡◌ {A = ℕ} 0 1 = cc in absurd (omega arith)
    go (there mode next) e ih = ih next e

answered-size : (h : ℕ) (f : Found) → ((m : ℕ) (i : List ℕ) → f ≡ there m i → length i ≡ h) → (answered f).verdict.number ≡ 0 → (answered f).size ≡ h
unfolding answered
answered-size h (there m i) k e = k m i refl
answered-size h nowhere k e = absurd (omega arith)

in_size : (h : ℕ) (os : List Object) (root : List ℕ) (cs : List (List ℕ)) → (follow_in (good h os) root cs).verdict.number ≡ 0 → (follow_in (good h os) root cs).size ≡ h
unfolding follow_in follow_along
in_size h os root cs e = go (eqb (length root) h) (repeats (ids_of os)) (is_path cs) e
  where
    go : (a b c : Bool)
        → (pick a (pick b (refused_with (verdict 25 0)) (pick c (answered (walk_along h os root cs)) (refused_with (verdict 26 0)))) (refused_with (verdict 24 0))).verdict.number ≡ 0
        → (pick a (pick b (refused_with (verdict 25 0)) (pick c (answered (walk_along h os root cs)) (refused_with (verdict 26 0)))) (refused_with (verdict 24 0))).size ≡ h
    go true true c e = absurd (omega arith)
    go true false true e = answered-size h (walk_along h os root cs) (λ m i. walk_size h os root cs m i) e
    go true false false e = absurd (omega arith)
    go false b c e = absurd (omega arith)

from-size : (s root path : List ℕ) (h : ℕ) (os : List Object) → bundle_of s ≡ good h os → (g : Result ⊤ Verdict) → ((v : Verdict) → g ≡ Err v → v.number ≡ 0 → ⊥)
    → (follow_from s root path g).verdict.number ≡ 0 → (follow_from s root path g).size ≡ h
unfolding follow_from
from-size s root path h os w (Err v) n e = absurd (n v refl e)
from-size s root path h os w (Ok tt) n e =
    let f : follow_in (bundle_of s) root (components path) ≡ follow_in (good h os) root (components path) = ap (λ (b : Bundle). follow_in b root (components path)) w in
    ap (λ (r : Followed). r.size) f ∙ in_size h os root (components path) (rw f at e)

gate_number : (n r : ℕ) (v : Verdict) → size_gate n r ≡ Err v → v.number ≡ 0 → ⊥
unfolding size_gate
gate_number n r v e z = go (leb n most_bytes && leb r most_records) e
  where
    go : (b : Bool) → pick {A = Result ⊤ Verdict} b (Ok tt) (Err (verdict 2 0)) ≡ Err v → ⊥
    go true e = let y : ◌≡◌ {A = ℕ} 0 1 = cc in omega arith
    go false e = let y : verdict 2 0 ≡ v = cc in let x : 2 ≡ v.number = ap (λ (u : Verdict). u.number) y in omega arith

-- An answer that is done has an id of the bundle's H bytes.
answer-size : (s root path : List ℕ) (h : ℕ) (os : List Object) → bundle_of s ≡ good h os → (follow s root path).verdict.number ≡ 0 → (follow s root path).size ≡ h
answer-size s root path h os w e = from-size s root path h os w (size_gate (max (max (length s) (length root)) (length path)) 0) (λ v. gate_number _ _ v) e

-- ---- the same of the call

-- the contract says the whole answer
called_is : (s root path : List ℕ) (r : Followed) → Called s root path r → r ≡ follow s root path
called_is s root path r c = rw (← c.first, ← c.second, ← c.third) c.kept

pub theorem : Isolation
theorem =
    record {
      checked = checked;
      isolated = λ s t root path h ps qs r q u v agree c d.
          called_is s root path r c
          ∙ isolation s t root path h ps qs u.within v.within u.framed v.framed u.apart v.apart agree
          ∙ sym (called_is t root path q d);
      no_position = λ s t root path h ps qs r q u v both c d.
          called_is s root path r c
          ∙ moved s t root path h ps qs u.within v.within u.framed v.framed u.apart v.apart (λ o. (both o).0) (λ o. (both o).1)
          ∙ sym (called_is t root path q d);
      whole_id = λ s root path h os r w c e.
          let z = called_is s root path r c in
          ap (λ (x : Followed). x.size) z ∙ answer-size s root path h os w (sym (ap (λ (x : Followed). x.verdict.number) z) ∙ e);
    }
