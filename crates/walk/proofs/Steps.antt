-- What the walk says of two rests is what it says of the step from them. Assumes nothing.
use Prim.Native.Nat.{ℕ, zero, suc, ◌+◌, ◌-◌, ◌≤◌, ◌<◌}
use mathlib.Core.Bool.{Bool, true, false, ◌&&◌, not}
use mathlib.Core.Path.{◌≡◌, refl, ◌∙◌}
use mathlib.Core.List.{List, [], ◌∷◌, map}
use native.Mathlib.Omega.{arith}
use native.Mathlib.Numerals.{sub-one}
use lib.Dec.{eqb, eqb-suc-zero}
use lib.ListN.{length, take, drop, length-drop}
use lib.Seq.{take-take, drop-drop}
use borrow.Author.Tests.{le-leb}
use Rattle.ground.specs.Basics.{pick, part}
use Rattle.ground.specs.Scan.{same_bytes}
use Rattle.ground.specs.declared.Verdict.{Verdict}
use Rattle.mode.specs.Mode.{is_tree}
use Rattle.order.specs.Order.{name_order}
use Rattle.entry.specs.Record.{folder_of, name_of, id_of}
use Rattle.entry.specs.Decode.{decode}
use Rattle.entry.specs.declared.EntryRecord.{EntryRecord}
use Rattle.entry.specs.declared.Cursor.{Cursor}
use Rattle.entry.proofs.Laws.{decode-inside}
use Rattle.reading.specs.Listing.{follow, plain, records_in}
use Rattle.reading.proofs.Laws.{plain-some}
use Rattle.merge.specs.Merge.{by_order, Within, moved, ahead_of, ahead_at, side_of, name_in, id_in, change_of, both_of, merge_step, step_at}
use Rattle.merge.specs.declared.Rest.{Rest}
use Rattle.merge.specs.declared.Step.{Step}
use Rattle.merge.specs.declared.Step.TheVariants as step
use Rattle.merge.proofs.Laws.{part_length}
use Rattle.item.specs.Items.{Named, named_of}
use Rattle.walk.specs.Walk.{Out, nothing, Lower, change, both, rights, against, compare_entries}
use Rattle.walk.specs.Code.{entries_from, side_in, name_of_change}
use Rattle.std.specs.Prelude.{Err, None, Ok, Option, Result, Some}
use Rattle.std.specs.declared.cmp.Ordering.{Ordering}
use Rattle.std.specs.declared.cmp.Ordering.TheVariants.{Equal, Greater, Less}

-- ---- parts of parts

seg_take : (i j n : ℕ) (l : List ℕ) → i + j ≤ n → take j (drop i (take n l)) ≡ take j (drop i l)
seg_take zero j n l h = take-take j n l (omega arith)
seg_take (suc i) j zero l h = absurd (omega arith)
seg_take (suc i) j (suc n) [] h = refl
seg_take (suc i) j (suc n) (x ∷ l) h = seg_take i j n l (omega arith)

part-part : (a b c d : ℕ) (s : List ℕ) → a ≤ b → c + b ≤ d → part a b (part c d s) ≡ part (c + a) (c + b) s
part-part a b c d s g h =
    let e : c + b - (c + a) ≡ b - a = omega arith in
    seg_take a (b - a) (d - c) (drop c s) (omega arith) ∙ rw (drop-drop a c s, e)

id_part : (i h c d : ℕ) (s : List ℕ) → c + (i + h) ≤ d → take h (drop i (part c d s)) ≡ part (c + i) (c + i + h) s
id_part i h c d s g =
    let e : c + i + h - (c + i) ≡ h = omega arith in
    seg_take i h (d - c) (drop c s) (omega arith) ∙ rw (drop-drop i c s, e)

-- ---- what is left of an object

pub plain-zero : (h at : ℕ) (b : List ℕ) → records_in (plain h 0 at b) ≡ []
unfolding plain records_in
plain-zero h at [] = refl
plain-zero h at (x ∷ xs) = refl

plain-broken : (h k at : ℕ) (b : List ℕ) (v : Verdict) → decode h at b ≡ Err v → records_in (plain h (suc k) at b) ≡ []
unfolding plain records_in follow
plain-broken h k at [] v e = refl
plain-broken h k at (x ∷ xs) v e = rw e

plain-whole : (h k at : ℕ) (b : List ℕ) (e : EntryRecord) (next : Cursor) → 0 < length b → decode h at b ≡ Ok (e, next)
    → records_in (plain h (suc k) at b) ≡ e ∷ records_in (plain h k next.at (drop (next.at - at) b))
unfolding records_in follow
plain-whole h k at b e next g d = rw (plain-some h k at b g, d)

abbrev pub named_at : ℕ → List ℕ → EntryRecord → Named
named_at h s e = record { name = name_in s e; side = record { mode = e.mode; id = id_in s (side_of h e); place = e.id_start } }

unfoldable pub from_ahead : ℕ → List ℕ → Option (EntryRecord × Rest) → List Named
from_ahead h s None = []
from_ahead h s (Some (e, next)) = named_at h s e ∷ entries_from h s next

named_is : (h : ℕ) (s : List ℕ) (start end : ℕ) (e : EntryRecord) → e.name_start ≤ e.name_end → start + e.name_end ≤ end → start + (e.id_start + h) ≤ end
    → named_of h start (part start end s) e ≡ named_at h s (moved start e)
unfolding named_of name_of id_of
named_is h s start end e g l i = rw (part-part e.name_start e.name_end start end s g l, id_part e.id_start h start end s i)

module _ (h : ℕ) (s : List ℕ) (start end at k : ℕ) (g : start ≤ end) (l : end ≤ length s) where
  from_decoded : (d : Result (EntryRecord × Cursor) Verdict) → decode h at (drop at (part start end s)) ≡ d
      → map (named_of h start (part start end s)) (records_in (plain h (suc k) at (drop at (part start end s)))) ≡ from_ahead h s (ahead_of (record { start = start; end = end; at = at; left = suc k }) d)
  unfolding from_ahead ahead_of entries_from
  from_decoded (Err v) e = rw (plain-broken h k at (drop at (part start end s)) v e)
  from_decoded (Ok (e, next)) q =
      let f = decode-inside h (part start end s) at e next q in
      let len : length (part start end s) ≡ end - start = part_length start end s g l in
      let some : 0 < length (drop at (part start end s)) = omega (arith, length-drop at (part start end s), f.0, f.1, f.2, f.3, f.4) in
      let same : at + (next.at - at) ≡ next.at = omega (arith, f.0, f.1, f.2, f.3, f.4) in
      let named : named_of h start (part start end s) e ≡ named_at h s (moved start e) = named_is h s start end e f.1 (omega (arith, f.2, f.3, f.4)) (omega (arith, f.2, f.3, f.4)) in
      rw (plain-whole h k at (drop at (part start end s)) e next some q, drop-drop (next.at - at) at (part start end s), same, sub-one, named)

entries_go : (h : ℕ) (s : List ℕ) (start end at left : ℕ) → start ≤ end → end ≤ length s
    → entries_from h s (record { start = start; end = end; at = at; left = left }) ≡ from_ahead h s (ahead_at h s (record { start = start; end = end; at = at; left = left }))
unfolding entries_from ahead_at from_ahead
entries_go h s start end at zero g l = rw (plain-zero h at (drop at (part start end s)))
entries_go h s start end at (suc k) g l = rw (eqb-suc-zero, le-leb _ _ g, le-leb _ _ l) (from_decoded h s start end at k g l (decode h at (drop at (part start end s))) refl)

pub entries-is : (h : ℕ) (s : List ℕ) (c : Rest) → Within s c → entries_from h s c ≡ from_ahead h s (ahead_at h s c)
entries-is h s c w = entries_go h s c.start c.end c.at c.left w.0 w.1

-- ---- a step

-- what follows a step
unfoldable pub after : Lower → List ℕ → ℕ → List ℕ → ℕ → Step → Out
after below prefix h s n step.Done = nothing
after below prefix h s n (step.Same l r) = compare_entries below prefix (entries_from h s l) n (entries_from h s r)
after below prefix h s n (step.Differs c l r) =
    let deep = c.deep in
    let left = c.left in
    let right = c.right in
    change below prefix n (name_of_change s c) deep (side_in s left) (side_in s right) (λ k. compare_entries below prefix (entries_from h s l) k (entries_from h s r))

order-out : (f : Step → Out) (o : Ordering) (A B C : Out) (x y z : Step) → A ≡ f x → B ≡ f y → C ≡ f z → by_order o A B C ≡ f (by_order o x y z)
order-out f Less A B C x y z p q r = p
order-out f Equal A B C x y z p q r = q
order-out f Greater A B C x y z p q r = r

module _ (below : Lower) (prefix : List ℕ) (h : ℕ) (s : List ℕ) (n : ℕ) where
  both_is : (a b : EntryRecord) (l r : Rest)
      → both below prefix n (named_at h s a) (named_at h s b) (λ m. compare_entries below prefix (entries_from h s l) m (entries_from h s r)) ≡ after below prefix h s n (both_of h s a b l r)
  unfolding both both_of after folder_of
  both_is a b l r = cases (same_bytes (id_in s (side_of h a)) (id_in s (side_of h b))) (eqb a.mode b.mode)
    where
      go : ℕ → Out
      go m = compare_entries below prefix (entries_from h s l) m (entries_from h s r)

      cases : (t u : Bool)
          → pick (u && t) (go n) (change below prefix n (name_in s a) (is_tree a.mode && not t) (side_in s (side_of h a)) (side_in s (side_of h b)) go)
          ≡ after below prefix h s n (pick t (pick u (step.Same l r) (step.Differs (change_of a (side_of h a) (side_of h b) false) l r)) (step.Differs (change_of a (side_of h a) (side_of h b) (is_tree a.mode)) l r))
      cases true true = refl
      cases true false = flat (is_tree a.mode)
        where
          flat : (v : Bool) → change below prefix n (name_in s a) (v && false) (side_in s (side_of h a)) (side_in s (side_of h b)) go ≡ change below prefix n (name_in s a) false (side_in s (side_of h a)) (side_in s (side_of h b)) go
          flat true = refl
          flat false = refl
      cases false true = deep (is_tree a.mode)
        where
          deep : (v : Bool) → change below prefix n (name_in s a) (v && true) (side_in s (side_of h a)) (side_in s (side_of h b)) go ≡ change below prefix n (name_in s a) v (side_in s (side_of h a)) (side_in s (side_of h b)) go
          deep true = refl
          deep false = refl
      cases false false = deep (is_tree a.mode)
        where
          deep : (v : Bool) → change below prefix n (name_in s a) (v && true) (side_in s (side_of h a)) (side_in s (side_of h b)) go ≡ change below prefix n (name_in s a) v (side_in s (side_of h a)) (side_in s (side_of h b)) go
          deep true = refl
          deep false = refl

  module _ (l r : Rest) where
    steps : (x y : Option (EntryRecord × Rest)) → entries_from h s l ≡ from_ahead h s x → entries_from h s r ≡ from_ahead h s y
        → compare_entries below prefix (entries_from h s l) n (entries_from h s r) ≡ after below prefix h s n (merge_step h s l r x y)
    unfolding from_ahead after merge_step compare_entries rights against folder_of
    steps None None el er = rw (el, er)
    steps None (Some (b, next)) el er = rw (er, el)
    steps (Some (a, next)) None el er = rw (el, er)
    steps (Some (a, nextl)) (Some (b, nextr)) el er =
        rw (el, er)
        (order-out (after below prefix h s n) (name_order (name_in s a) (is_tree a.mode) (name_in s b) (is_tree b.mode)) _ _ _ _ _ _
        (rw er) (both_is a b nextl nextr) (rw el))

    pub steps_are : Within s l → Within s r → compare_entries below prefix (entries_from h s l) n (entries_from h s r) ≡ after below prefix h s n (step_at h s l r)
    unfolding step_at
    steps_are wl wr = steps (ahead_at h s l) (ahead_at h s r) (entries-is h s l wl) (entries-is h s r wr)
