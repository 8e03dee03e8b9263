-- Laws of a bundle's framing, and of where an object stands. Assumes nothing.
use Prim.Native.Nat.{ℕ, zero, suc, ◌+◌, ◌-◌, ◌*◌, ◌<◌, ◌≤◌}
use native.Mathlib.Omega.{arith}
use native.Mathlib.Numerals.{add-one}
use mathlib.Core.Path.{◌≡◌, refl, ap, sym, ◌∙◌}
use mathlib.Core.Bool.{Bool, true, false, ◌&&◌}
use mathlib.Core.List.{List, [], ◌∷◌}
use mathlib.Core.Logic.{◌⊎◌}
use lib.Dec.{eqb, leb}
use lib.ListN.{length, get_or, take, drop, length-drop}
use lib.Seq.{drop-cons, drop-drop, get_or-drop, take-add}
use borrow.Author.Tests.{ne_eqb, le-leb, lt-leb, leb-true}
use Rattle.ground.specs.Basics.{pick, ascii}
use Rattle.ground.specs.Scan.{same_bytes}
use Rattle.ground.specs.Verdict.{id_length, most_records, is_set}
use Rattle.ground.proofs.Laws.{and_left, and_right, id-is, id-made}
use Rattle.frame.specs.Frame.{little, fields_at, by_rules, by_version, head_of, size_of, is_frame, frame_of, frame_at, Frames, done, fault, frame, onward, frames, frames_by, whole}
use Rattle.frame.specs.Place.{id_in, first_of, place_by, place_of}
use Rattle.frame.specs.declared.Header.{Header}
use Rattle.frame.specs.declared.Frame.{Frame}
use Rattle.std.specs.Prelude.{None, Option, Some}

-- ---- numbers, the lowest byte first

module _ (s : List ℕ) (i : ℕ) where
  two_bytes : i + 2 ≤ length s → take 2 (drop i s) ≡ get_or s i 0 ∷ get_or s (i + 1) 0 ∷ []
  two_bytes p =
      let p0 : i < length s = omega arith in
      let p1 : suc i < length s = omega arith in
      rw (add-one, drop-cons s i 0 p0, drop-cons s (suc i) 0 p1)

  pub little-two : i + 2 ≤ length s → (a b : ℕ) → a ≡ get_or s i 0 → b ≡ get_or s (i + 1) 0 → a + b * 256 ≡ little (take 2 (drop i s))
  little-two p a b x y = rw (two_bytes p, ← x, ← y) (omega arith)

pub little-four : (s : List ℕ) (i : ℕ) → i + 4 ≤ length s → (low high : ℕ) → low ≡ little (take 2 (drop i s)) → high ≡ little (take 2 (drop (i + 2) s))
    → low + high * 65536 ≡ little (take 4 (drop i s))
little-four s i p low high x y =
    let q : i + 2 ≤ length s = omega arith in
    let r : i + 2 + 2 ≤ length s = omega arith in
    rw (x, y, take-add 2 2 (drop i s), drop-drop 2 i s, two_bytes s i q, two_bytes s (i + 2) r) (omega arith)

-- ---- the header

module _ (rules at : ℕ) (s : List ℕ) where
  pub fields-short : length s < at + 5 → fields_at rules at s ≡ None
  unfolding fields_at
  fields-short p = simp (lt-leb (at + 5) (length s) p)

  module _ (p : at + 5 ≤ length s) (h count : ℕ) (x : h ≡ get_or s at 0) (y : count ≡ little (take 4 (drop (at + 1) s))) where
    many-only : (b : Bool) → (b && false) ≡ false
    many-only true = refl
    many-only false = refl

    pub fields-many : most_records < count → fields_at rules at s ≡ None
    unfolding fields_at
    fields-many q = simp (le-leb (at + 5) (length s) p, ← x, ← y, lt-leb count most_records q, many-only (id_length h))

    pub fields-id : id_length h ≡ false → fields_at rules at s ≡ None
    unfolding fields_at
    fields-id a = simp (le-leb (at + 5) (length s) p, ← x, a)

    pub fields-good : (h ≡ 20) ⊎ (h ≡ 32) → count ≤ most_records → fields_at rules at s ≡ Some (record { h = h; rules = rules; count = count; from = at + 5 })
    unfolding fields_at
    fields-good a q = simp (le-leb (at + 5) (length s) p, ← x, ← y, le-leb count most_records q, id-made h a)

module _ (s : List ℕ) where
  pub head-mark : same_bytes (take 3 s) (ascii "GOB") ≡ false → head_of s ≡ None
  unfolding head_of
  head-mark g = rw g

  module _ (g : same_bytes (take 3 s) (ascii "GOB") ≡ true) (v : ℕ) (w : v ≡ little (take 2 (drop 3 s))) where
    pub head-one : v ≡ 1 → head_of s ≡ fields_at 2 5 s
    unfolding head_of by_version
    head-one e = rw (g, ← w, e)

    pub head_other : (v ≡ 1 → ⊥) → (v ≡ 2 → ⊥) → head_of s ≡ None
    unfolding head_of by_version
    head_other a b = rw (g, ← w, ne_eqb v 1 a, ne_eqb v 2 b)

    pub head-two : v ≡ 2 → head_of s ≡ by_rules (little (take 2 (drop 5 s))) s
    unfolding head_of by_version
    head-two e = rw (g, ← w, e)

  pub rules-short : length s < 12 → by_rules (little (take 2 (drop 5 s))) s ≡ None
  unfolding by_rules
  rules-short p = go (is_set (little (take 2 (drop 5 s))))
    where
      go : (b : Bool) → pick b (fields_at (little (take 2 (drop 5 s))) 7 s) None ≡ None
      go true = fields-short (little (take 2 (drop 5 s))) 7 s (omega arith)
      go false = refl

  module _ (r : ℕ) (q : r ≡ little (take 2 (drop 5 s))) where
    pub rules-first : r ≡ 1 → by_rules (little (take 2 (drop 5 s))) s ≡ fields_at 1 7 s
    unfolding by_rules is_set
    rules-first t = rw (← q, t)

    pub rules-second : r ≡ 2 → by_rules (little (take 2 (drop 5 s))) s ≡ fields_at 2 7 s
    unfolding by_rules is_set
    rules-second t = rw (← q, t)

    pub rules_other : (r ≡ 1 → ⊥) → (r ≡ 2 → ⊥) → by_rules (little (take 2 (drop 5 s))) s ≡ None
    unfolding by_rules is_set
    rules_other a b = rw (← q, ne_eqb r 1 a, ne_eqb r 2 b)

-- every way to read a header ends in its fields, at 5 or at 7
each-head : (s : List ℕ) (Q : Option Header → Type 0) → Q None → Q (fields_at 2 5 s) → ((r : ℕ) → is_set r ≡ true → Q (fields_at r 7 s)) → Q (head_of s)
unfolding head_of by_version by_rules
each-head s Q bad one two = go (same_bytes (take 3 s) (ascii "GOB")) (eqb (little (take 2 (drop 3 s))) 1) (eqb (little (take 2 (drop 3 s))) 2) (is_set (little (take 2 (drop 5 s)))) refl
  where
    go : (a b c d : Bool) → is_set (little (take 2 (drop 5 s))) ≡ d
        → Q (pick a (pick b (fields_at 2 5 s) (pick c (pick d (fields_at (little (take 2 (drop 5 s))) 7 s) None) None)) None)
    go true true c d p = one
    go true false true true p = two (little (take 2 (drop 5 s))) p
    go true false true false p = bad
    go true false false d p = bad
    go false b c d p = bad

pub head-short : (s : List ℕ) → length s < 10 → head_of s ≡ None
head-short s p =
    each-head s (λ (d : Option Header). d ≡ None) refl (fields-short 2 5 s (omega arith)) (λ r t. fields-short r 7 s (omega arith))

-- what a header that was read says
pub record HeadSays (s : List ℕ) (k : Header) : Type 0 where
  pub id_length : (k.h ≡ 20) ⊎ (k.h ≡ 32)
  pub few : k.count ≤ most_records
  pub set : is_set k.rules ≡ true

fields_say : (rules at : ℕ) (s : List ℕ) (k : Header) → is_set rules ≡ true → fields_at rules at s ≡ Some k → HeadSays s k
unfolding fields_at
fields_say rules at s k t e = go (leb (at + 5) (length s) && (id_length (get_or s at 0) && leb (little (take 4 (drop (at + 1) s))) most_records)) refl e
  where
    go : (v : Bool) → (leb (at + 5) (length s) && (id_length (get_or s at 0) && leb (little (take 4 (drop (at + 1) s))) most_records)) ≡ v
        → pick v (Some (record { h = get_or s at 0; rules = rules; count = little (take 4 (drop (at + 1) s)); from = at + 5 })) None ≡ Some k → HeadSays s k
    go true p e =
        let r : ◌≡◌ {A = Header} (record { h = get_or s at 0; rules = rules; count = little (take 4 (drop (at + 1) s)); from = at + 5 }) k = cc in
        let a = and_right (leb (at + 5) (length s)) _ p in
        let i = and_left (id_length (get_or s at 0)) (leb (little (take 4 (drop (at + 1) s))) most_records) a in
        let f = leb-true (little (take 4 (drop (at + 1) s))) most_records (and_right (id_length (get_or s at 0)) _ a) in
        let c : little (take 4 (drop (at + 1) s)) ≡ k.count = ap (λ (x : Header). x.count) r in
        record {
          id_length = id-is k.h (rw (ap (λ (x : Header). x.h) r) at i);
          few = omega arith;
          set = rw (ap (λ (x : Header). x.rules) r) at t;
        }
    go false p e = let z : ◌≡◌ {A = ℕ} 0 1 = cc in absurd (omega arith)

set-two : is_set 2 ≡ true
unfolding is_set
set-two = refl

pub head-says : (s : List ℕ) (k : Header) → head_of s ≡ Some k → HeadSays s k
head-says s k =
    each-head s (λ (d : Option Header). d ≡ Some k → HeadSays s k) (λ e. none e) (λ e. fields_say 2 5 s k (set-two) e) (λ r t e. fields_say r 7 s k t e)
  where
    none : None ≡ Some k → HeadSays s k
    none e = let z : ◌≡◌ {A = ℕ} 0 1 = cc in absurd (omega arith)

-- ---- one object

module _ (s : List ℕ) (h at : ℕ) where
  pub frame-short : length s < at + h + 5 → frame_at h at (drop at s) ≡ None
  unfolding frame_at is_frame
  frame-short p = simp (lt-leb (h + 5) (length (drop at s)) (omega (arith, length-drop at s)))

  module _ (p : at + h + 5 ≤ length s) (kind : ℕ) (e : kind ≡ get_or s (at + h) 0) where
    long : leb (h + 5) (length (drop at s)) ≡ true
    long = le-leb (h + 5) (length (drop at s)) (omega (arith, length-drop at s))

    kind-is : get_or (drop at s) h 0 ≡ kind
    kind-is = get_or-drop at s h 0 ∙ sym e

    pub frame-low : kind < 1 → frame_at h at (drop at s) ≡ None
    unfolding frame_at is_frame
    frame-low q = simp (long, kind-is, lt-leb 1 kind q)

    module _ (low : 1 ≤ kind) where
      pub frame-high : 4 < kind → frame_at h at (drop at s) ≡ None
      unfolding frame_at is_frame
      frame-high q = simp (long, kind-is, le-leb 1 kind low, lt-leb kind 4 q)

      module _ (high : kind ≤ 4) (size : ℕ) (z : size ≡ little (take 4 (drop (at + h + 1) s))) where
        size_is : size_of h (drop at s) ≡ size
        size_is =
            let k : at + (h + 1) ≡ at + h + 1 = omega arith in
            ap (λ (l : List ℕ). little (take 4 l)) (drop-drop (h + 1) at s ∙ ap (λ (j : ℕ). drop j s) k) ∙ sym z

        pub frame-long : length s < at + h + 5 + size → frame_at h at (drop at s) ≡ None
        unfolding frame_at is_frame
        frame-long q = simp (long, kind-is, le-leb 1 kind low, le-leb kind 4 high, lt-leb (h + 5 + size_of h (drop at s)) (length (drop at s)) (omega (arith, length-drop at s, size_is)))

        pub frame-whole : at + h + 5 + size ≤ length s → frame_at h at (drop at s) ≡ Some (record { kind = kind; id = at; start = at + h + 5; end = at + h + 5 + size })
        unfolding frame_at is_frame
        frame-whole q =
            let y : at + (h + 5 + size_of h (drop at s)) ≡ at + h + 5 + size = omega (arith, size_is) in
            let x : at + (h + 5) ≡ at + h + 5 = omega arith in
            let t : is_frame h (drop at s) ≡ true = simp (long, kind-is, le-leb 1 kind low, le-leb kind 4 high, le-leb (h + 5 + size_of h (drop at s)) (length (drop at s)) (omega (arith, length-drop at s, size_is))) in
            simp t (rw (y, x, kind-is))

-- what an object that stands at a place says of the bundle
pub record Inside (h at : ℕ) (s : List ℕ) (f : Frame) : Type 0 where
  pub first : f.id ≡ at
  pub begins : f.start ≡ at + (h + 5)
  pub forward : f.start ≤ f.end
  pub ends : f.end ≤ length s

pub frame-inside : (h at : ℕ) (s : List ℕ) (f : Frame) → frame_at h at (drop at s) ≡ Some f → Inside h at s f
unfolding frame_at is_frame
frame-inside h at s f e = go (is_frame h (drop at s)) refl e
  where
    go : (v : Bool) → is_frame h (drop at s) ≡ v → pick v (Some (frame_of h at (drop at s))) None ≡ Some f → Inside h at s f
    go true p e =
        let r : frame_of h at (drop at s) ≡ f = cc in
        let a = and_right (leb (h + 5) (length (drop at s))) _ p in
        let b = and_right (leb 1 (get_or (drop at s) h 0)) _ a in
        let c = leb-true (h + 5 + size_of h (drop at s)) (length (drop at s)) (and_right (leb (get_or (drop at s) h 0) 4) _ b) in
        let l = length-drop at s in
        let i : f.id ≡ at = sym (ap (λ (x : Frame). x.id) r) in
        let st : f.start ≡ at + (h + 5) = sym (ap (λ (x : Frame). x.start) r) in
        let en : f.end ≡ at + (h + 5 + size_of h (drop at s)) = sym (ap (λ (x : Frame). x.end) r) in
        record { first = i; begins = st; forward = omega arith; ends = omega arith }
    go false p e = let z : ◌≡◌ {A = ℕ} 0 1 = cc in absurd (omega arith)

-- ---- objects in turn

module _ (h : ℕ) (s : List ℕ) (left at : ℕ) where
  pub frames-end : left ≤ 0 → frames h s left at ≡ pick (eqb at (length s)) done fault
  unfolding frames
  frames-end p = let z : left ≡ 0 = omega arith in rw z

  module _ (p : 0 < left) where
    frames-some : frames h s left at ≡ onward (frames h s (left - 1)) (frame_at h at (drop at s))
    unfolding frames
    frames-some = let z : left ≡ suc (left - 1) = omega arith in ap (λ (n : ℕ). frames h s n at) z

    pub frames-broken : frame_at h at (drop at s) ≡ None → frames h s left at ≡ fault
    unfolding onward
    frames-broken e = frames-some ∙ rw e

    pub frames-whole : {f : Frame} → frame_at h at (drop at s) ≡ Some f → frames h s left at ≡ frame f (frames h s (left - 1) f.end)
    unfolding onward
    frames-whole e = frames-some ∙ rw e

-- the same of those that are left of so many, where i of them are passed
pub frames_turn : (h : ℕ) (s : List ℕ) (count i at : ℕ) → i < count → {f : Frame} → frame_at h at (drop at s) ≡ Some f
    → frames h s (count - i) at ≡ frame f (frames h s (count - (i + 1)) f.end)
frames_turn h s count i at p {f} e =
    let z : count - i - 1 ≡ count - (i + 1) = omega arith in
    frames-whole h s (count - i) at (omega arith) e ∙ ap (λ (k : ℕ). frame f (frames h s k f.end)) z

pub whole_end : (b : Bool) → whole (pick b done fault) ≡ b
unfolding whole
whole_end true = refl
whole_end false = refl

-- ---- ids

-- the bytes from an id's first to past its last are the id
pub id_part : (h : ℕ) (s : List ℕ) (f : Frame) → take (f.id + h - f.id) (drop f.id s) ≡ id_in h s f
unfolding id_in
id_part h s f = let z : f.id + h - f.id ≡ h = omega arith in ap (λ (n : ℕ). take n (drop f.id s)) z

module _ (h : ℕ) (s id : List ℕ) (l : Frames) where
  pub first-end : (b : Bool) → l ≡ pick b done fault → first_of h s id l ≡ None
  unfolding first_of
  first-end true e = rw e
  first-end false e = rw e

  pub first-fault : l ≡ fault → first_of h s id l ≡ None
  unfolding first_of
  first-fault e = rw e

  module _ (f : Frame) (m : Frames) (e : l ≡ frame f m) where
    pub first-here : same_bytes (take (f.id + h - f.id) (drop f.id s)) id ≡ true → first_of h s id l ≡ Some f
    unfolding first_of
    first-here t = let u : same_bytes (id_in h s f) id ≡ true = rw (id_part h s f) at t in rw e (rw u)

    pub first_on : same_bytes (take (f.id + h - f.id) (drop f.id s)) id ≡ false → first_of h s id l ≡ first_of h s id m
    unfolding first_of
    first_on t = let u : same_bytes (id_in h s f) id ≡ false = rw (id_part h s f) at t in rw e (rw u)

-- ---- where an object stands

pub place-good : (s id : List ℕ) (d : Option Header) (k : Header) → d ≡ Some k → place_by s id d ≡ first_of k.h s id (frames_by s k)
unfolding place_by
place-good s id d k e = rw e

pub place-bad : (s id : List ℕ) (d : Option Header) → d ≡ None → place_by s id d ≡ None
unfolding place_by
place-bad s id d e = rw e

-- an object that was found lies inside the bundle
pub first-inside : (h : ℕ) (s id : List ℕ) (n at : ℕ) (f : Frame) → first_of h s id (frames h s n at) ≡ Some f → (f.start ≤ f.end) × (f.end ≤ length s)
unfolding first_of frames onward
first-inside h s id zero at f e = go (eqb at (length s)) e
  where
    go : (v : Bool) → first_of h s id (pick v done fault) ≡ Some f → (f.start ≤ f.end) × (f.end ≤ length s)
    go true e = let z : ◌≡◌ {A = ℕ} 0 1 = cc in absurd (omega arith)
    go false e = let z : ◌≡◌ {A = ℕ} 0 1 = cc in absurd (omega arith)
first-inside h s id (suc n) at f e = go (λ (b : ℕ) q. first-inside h s id n b f q) (frame_at h at (drop at s)) refl e
  where
    here : (g : Frame) → frame_at h at (drop at s) ≡ Some g → (first_of h s id (frames h s n g.end) ≡ Some f → (f.start ≤ f.end) × (f.end ≤ length s))
        → (v : Bool) → pick v (Some g) (first_of h s id (frames h s n g.end)) ≡ Some f → (f.start ≤ f.end) × (f.end ≤ length s)
    here g p ih true e =
        let i = frame-inside h at s g p in
        let r : g ≡ f = cc in
        let w : (g.start ≤ g.end) × (g.end ≤ length s) = (i.forward, i.ends) in
        rw r at w
    here g p ih false e = ih e

    go : ((b : ℕ) → first_of h s id (frames h s n b) ≡ Some f → (f.start ≤ f.end) × (f.end ≤ length s)) → (r : Option Frame) → frame_at h at (drop at s) ≡ r
        → first_of h s id (onward (frames h s n) r) ≡ Some f → (f.start ≤ f.end) × (f.end ≤ length s)
    go ih (Some g) p e = here g p (ih g.end) (same_bytes (id_in h s g) id) e
    go ih None p e = let z : ◌≡◌ {A = ℕ} 0 1 = cc in absurd (omega arith)

pub place_inside : (s id : List ℕ) (f : Frame) → place_of s id ≡ Some f → (f.start ≤ f.end) × (f.end ≤ length s)
unfolding place_by
place_inside s id f e = placed (head_of s) e
  where
    placed : (d : Option Header) → place_by s id d ≡ Some f → (f.start ≤ f.end) × (f.end ≤ length s)
    placed (Some k) q = first-inside k.h s id k.count k.from f q
    placed None q = let z : ◌≡◌ {A = ℕ} 0 1 = cc in absurd (omega arith)
