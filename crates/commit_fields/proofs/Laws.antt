-- Laws of the fields of a commit and of the outcome, one for each way through a definition. Assumes nothing.
use Prim.Native.Nat.{ℕ, zero, suc, ◌+◌, ◌-◌, ◌*◌, ◌<◌, ◌≤◌, max}
use mathlib.Core.Bool.{Bool, true, false}
use mathlib.Core.Path.{◌≡◌, refl, ap, sym, ◌∙◌}
use mathlib.Core.List.{List, [], ◌∷◌}
use mathlib.Core.Logic.{◌⊎◌, inl, inr}
use native.Mathlib.Nat.{suc-mul, zero-mul, lt_of_not-le}
use native.Mathlib.Omega.{arith}
use lib.ListN.{length, get_or, get_or-eq_default}
use lib.Dec.{leb}
use borrow.Author.Tests.{eq-eqb, ne_eqb, le-leb, lt-leb, leb-true, leb-false}
use Rattle.ground.specs.Basics.{pick, part}
use Rattle.ground.specs.Verdict.{gate_of}
use Rattle.ground.proofs.Laws.{equal, gate_open, id_small}
use Rattle.ground.specs.declared.Verdict.{Verdict}
use Rattle.actor.specs.Actor.{is_actor}
use Rattle.header.specs.Words.{tree_word, parent_word, author_word, committer_word, encoding_word}
use Rattle.commit_line.specs.Line.{id_at, line_at}
use Rattle.extra_header.specs.Extra.{extra_at}
use Rattle.header.specs.Record.{width}
use Rattle.header.specs.declared.HeaderRecord.{HeaderRecord}
use Rattle.commit_line.proofs.Laws.{id-line-fits, line-fits}
use Rattle.commit_fields.specs.Parents.{parent_at, parents_from, rest_parents, parent_count, parent_starts}
use Rattle.commit_fields.specs.Headers.{Heads, ended, header, heads_from, rest_heads, heads, tally, records_of, flats}
use Rattle.commit_fields.specs.Fields.{refusal, actor_of, actor_at, encoding_of, encoding_at, found_of, blank_of, ending_of, with_committer, with_author, people_of, fields_of}
use Rattle.commit_fields.specs.Outcome.{room_of, gated_by, outcome_of}
use Rattle.commit_fields.specs.declared.Refusal.{Refusal}
use Rattle.commit_fields.specs.declared.Encoding.{Encoding}
use Rattle.commit_fields.specs.declared.HeaderCount.{HeaderCount}
use Rattle.commit_fields.specs.declared.Found.{Found}
use Rattle.std.specs.Prelude.{Err, None, Ok, Option, Result, Some, ⊤}
use Rattle.ground.proofs.Pairs.{ok_parts}

-- ---- the parents

parents-none : (left h : ℕ) (s : List ℕ) (at : ℕ) → parent_at h s at ≡ false → parents_from left h s at ≡ 0
unfolding parents_from
parents-none zero h s at e = refl
parents-none (suc left) h s at e = simp e

module _ (h : ℕ) (s : List ℕ) (at : ℕ) where
  pub parent_fits : parent_at h s at ≡ true → at + (8 + 2 * h) ≤ length s
  unfolding parent_at
  parent_fits e = omega (arith, id-line-fits parent_word h s at e)

  module _ (n : ℕ) where
    pub parents_end : parent_at h s at ≡ false → rest_parents h s at n ≡ 0
    unfolding rest_parents
    parents_end e = parents-none (length s - n) h s at e

    pub parents-more : n < length s → parent_at h s at ≡ true → rest_parents h s at n ≡ suc (rest_parents h s (at + (8 + 2 * h)) (n + 1))
    unfolding rest_parents parents_from
    parents-more p e =
        let z : length s - n ≡ suc (length s - (n + 1)) = omega arith in
        rw z (simp e)

-- the parents that are counted stand within the bytes
pub parents-fit : (h : ℕ) (s : List ℕ) (at : ℕ) → at ≤ length s → at + parent_count h s at * (8 + 2 * h) ≤ length s
unfolding rest_parents parents_from
parents-fit h s at k = from (length s - 0) at k
  where
    from : (left at : ℕ) → at ≤ length s → at + parents_from left h s at * (8 + 2 * h) ≤ length s
    from zero at k = rw (zero-mul (8 + 2 * h)) (omega arith)
    from (suc left) at k = go (parent_at h s at) refl (from left (at + (8 + 2 * h)))
      where
        go : (t : Bool) → parent_at h s at ≡ t → (at + (8 + 2 * h) ≤ length s → at + (8 + 2 * h) + parents_from left h s (at + (8 + 2 * h)) *
            (8 + 2 * h) ≤ length s)
            → at + pick t (suc (parents_from left h s (at + (8 + 2 * h)))) 0 * (8 + 2 * h) ≤ length s
        go true q ih = rw (suc-mul (parents_from left h s (at + (8 + 2 * h))) (8 + 2 * h)) (omega (arith, ih (parent_fits h s at q)))
        go false q ih = rw (zero-mul (8 + 2 * h)) (omega arith)

pub starts_length : (n h at : ℕ) → length (parent_starts n h at) ≡ n
unfolding parent_starts
starts_length zero h at = refl
starts_length (suc n) h at = ap suc (starts_length n h (at + (8 + 2 * h)))

-- ---- the extra headers

heads-none : (left : ℕ) (s : List ℕ) (at : ℕ) → extra_at s at ≡ None → heads_from left s at ≡ ended at
unfolding heads_from
heads-none zero s at e = refl
heads-none (suc left) s at e = rw (e, heads_from)

module _ (s : List ℕ) (at n : ℕ) where
  pub heads_end : extra_at s at ≡ None → rest_heads s at n ≡ ended at
  unfolding rest_heads
  heads_end e = heads-none (length s - n) s at e

  pub heads-more : n < length s → {x : HeaderRecord} {next : ℕ} → extra_at s at ≡ Some (x, next) → rest_heads s at n ≡ header x (rest_heads s next (n + 1))
  unfolding rest_heads heads_from
  heads-more p e =
      let z : length s - n ≡ suc (length s - (n + 1)) = omega arith in
      rw (z, e, heads_from)

pub tally_end : (n : ℕ) {at : ℕ} (l : Heads) → l ≡ ended at → tally n l ≡ record { count = n; end = at }
unfolding tally
tally_end n l q = rw q

pub tally-more : (n : ℕ) {x : HeaderRecord} (l m : Heads) → l ≡ header x m → tally n l ≡ tally (n + 1) m
unfolding tally
tally-more n l m q = rw q

-- the count is how many records there are
pub tally-count : (n : ℕ) (l : Heads) → (tally n l).count ≡ n + length (records_of l)
unfolding tally records_of
tally-count n (ended at) = omega arith
tally-count n (header x l) = omega (arith, tally-count (n + 1) l)

pub flats-length : (l : List HeaderRecord) → length (flats l) ≡ length l * width
unfolding flats
flats-length [] = refl
flats-length (x ∷ l) = omega (arith, flats-length l)

-- ---- author, committer, encoding

module _ (s : List ℕ) (at : ℕ) (w : List ℕ) (field : ℕ) where
  pub actor_missing : line_at w s at ≡ None → actor_at s at w field ≡ Err (refusal 11 at field)
  unfolding actor_at actor_of
  actor_missing e = rw e

  module _ (from to : ℕ) (q : line_at w s at ≡ Some (from, to)) where
    pub actor_bad : is_actor (part from to s) ≡ false → actor_at s at w field ≡ Err (refusal 12 at 0)
    unfolding actor_at actor_of
    actor_bad b = rw (q, b)

    pub actor_good : is_actor (part from to s) ≡ true → actor_at s at w field ≡ Ok (from, to)
    unfolding actor_at actor_of
    actor_good b = rw (q, b)

  -- a value that is read stands in its line and has the actor form
  pub actor_parts : (a e : ℕ) → actor_at s at w field ≡ Ok (a, e) → (line_at w s at ≡ Some (a, e)) × (is_actor (part a e s) ≡ true)
  actor_parts a e q = by (line_at w s at) refl
    where
      by : (l : Option (ℕ × ℕ)) → line_at w s at ≡ l → (line_at w s at ≡ Some (a, e)) × (is_actor (part a e s) ≡ true)
      by None r = let z : ◌≡◌ {A = ℕ} 0 1 = cc (actor_missing r) in absurd (omega arith)
      by (Some (from, to)) r = go (is_actor (part from to s)) refl
        where
          go : (b : Bool) → is_actor (part from to s) ≡ b → (line_at w s at ≡ Some (a, e)) × (is_actor (part a e s) ≡ true)
          go false b = let z : ◌≡◌ {A = ℕ} 0 1 = cc (actor_bad from to r b) in absurd (omega arith)
          go true b =
              let k = actor_good from to r b in
              let w = ok_parts (sym k ∙ q) in
              let x = w.0 in
              let y = w.1 in
              (rw (← x, ← y) r, rw (← x, ← y) b)

  pub actor_fits : (a e : ℕ) → actor_at s at w field ≡ Ok (a, e) → e < length s
  actor_fits a e q = (line-fits w s at a e (actor_parts a e q).0).1

module _ (s : List ℕ) (at : ℕ) where
  pub encoding-none : line_at encoding_word s at ≡ None → encoding_at s at ≡ record { mark = 0; start = 0; end = 0; next = at }
  unfolding encoding_at encoding_of
  encoding-none e = rw e

  pub encoding-some : (from to : ℕ) → line_at encoding_word s at ≡ Some (from, to) → encoding_at s at ≡ record { mark = 1; start = from; end = to; next = to + 1 }
  unfolding encoding_at encoding_of
  encoding-some from to e = rw e

-- ---- the fields

module _ (s : List ℕ) (n a e b f : ℕ) (enc : Encoding) (k : HeaderCount) (p : enc ≡ encoding_at s (f + 1)) (q : k ≡ tally 0 (heads s enc.next)) where
  pub ending-no : (get_or s k.end 0 ≡ 10 → ⊥) → ending_of s n a e b f ≡ Err (refusal 11 k.end 4)
  unfolding ending_of blank_of
  ending-no g = rw (← p, ← q) (simp (ne_eqb (get_or s k.end 0) 10 g))

  pub ending-is : get_or s k.end 0 ≡ 10 → ending_of s n a e b f ≡ Ok (found_of s n a e b f enc k)
  unfolding ending_of blank_of
  ending-is g = rw (← p, ← q) (simp (eq-eqb (get_or s k.end 0) 10 g))

pub blank_fits : (s : List ℕ) (k : ℕ) → get_or s k 0 ≡ 10 → k < length s
blank_fits s k g = lt_of_not-le (λ h. let z : ◌≡◌ {A = ℕ} 0 10 = sym (get_or-eq_default s 0 h) ∙ g in omega arith)

module _ (s : List ℕ) (n p : ℕ) where
  pub people-author : (r : Refusal) → actor_at s p author_word 2 ≡ Err r → people_of s n p ≡ Err r
  unfolding people_of with_author
  people-author r q = rw q

  module _ (a e : ℕ) (q : actor_at s p author_word 2 ≡ Ok (a, e)) where
    pub people-committer : (r : Refusal) → actor_at s (e + 1) committer_word 3 ≡ Err r → people_of s n p ≡ Err r
    unfolding people_of with_author with_committer
    people-committer r w = rw (q, w)

    pub people-both : (b f : ℕ) → actor_at s (e + 1) committer_word 3 ≡ Ok (b, f) → people_of s n p ≡ ending_of s n a e b f
    unfolding people_of with_author with_committer
    people-both b f w = rw (q, w)

module _ (s : List ℕ) (h : ℕ) where
  pub fields-no : id_at tree_word h s 0 ≡ false → fields_of s h ≡ Err (refusal 11 0 1)
  unfolding fields_of
  fields-no q = simp q

  pub fields-are : id_at tree_word h s 0 ≡ true → (n : ℕ) → n ≡ parent_count h s (6 + 2 * h) → fields_of s h ≡ people_of s n (6 + 2 * h + n * (8 + 2 * h))
  unfolding fields_of
  fields-are q n e = rw (← e) (simp q)

  pub tree-fits : id_at tree_word h s 0 ≡ true → 6 + 2 * h ≤ length s
  tree-fits q = omega (arith, id-line-fits tree_word h s 0 q)

-- what a whole commit is made of: each field was there in turn
pub record Parts (s : List ℕ) (h : ℕ) (x : Found) : Type 0 where
  pub count : ℕ
  pub a : ℕ
  pub e : ℕ
  pub b : ℕ
  pub f : ℕ
  pub tree : id_at tree_word h s 0 ≡ true
  pub counted : count ≡ parent_count h s (6 + 2 * h)
  pub author : actor_at s (6 + 2 * h + count * (8 + 2 * h)) author_word 2 ≡ Ok (a, e)
  pub committer : actor_at s (e + 1) committer_word 3 ≡ Ok (b, f)
  pub blank : get_or s (tally 0 (heads s (encoding_at s (f + 1)).next)).end 0 ≡ 10
  pub found : x ≡ found_of s count a e b f (encoding_at s (f + 1)) (tally 0 (heads s (encoding_at s (f + 1)).next))

pub fields-parts : (s : List ℕ) (h : ℕ) (x : Found) → fields_of s h ≡ Ok x → Parts s h x
fields-parts s h x q = by-tree (id_at tree_word h s 0) refl
  where
    never : (r : Refusal) → fields_of s h ≡ Err r → Parts s h x
    never r w = let z : ◌≡◌ {A = ℕ} 0 1 = cc in absurd (omega arith)

    by_blank : (n a e b f : ℕ) → id_at tree_word h s 0 ≡ true → n ≡ parent_count h s (6 + 2 * h)
        → actor_at s (6 + 2 * h + n * (8 + 2 * h)) author_word 2 ≡ Ok (a, e) → actor_at s (e + 1) committer_word 3 ≡ Ok (b, f)
        → (enc : Encoding) (k : HeaderCount) → enc ≡ encoding_at s (f + 1) → k ≡ tally 0 (heads s enc.next) → fields_of s h ≡ ending_of s n a e b f
        → (get_or s k.end 0 ≡ 10) ⊎ (get_or s k.end 0 ≡ 10 → ⊥) → Parts s h x
    by_blank n a e b f t c u v enc k i j w (inr g) = never _ (w ∙ ending-no s n a e b f enc k i j g)
    by_blank n a e b f t c u v enc k i j w (inl g) =
        let d : Ok x ≡ Ok (found_of s n a e b f enc k) = sym q ∙ w ∙ ending-is s n a e b f enc k i j g in
        let y : x ≡ found_of s n a e b f enc k = cc in
        record {
          count = n;
          a = a;
          e = e;
          b = b;
          f = f;
          tree = t;
          counted = c;
          author = u;
          committer = v;
          blank = rw (j, i) at g;
          found = rw (j, i) at y;
        }

    by-committer : (n a e : ℕ) → id_at tree_word h s 0 ≡ true → n ≡ parent_count h s (6 + 2 * h)
        → actor_at s (6 + 2 * h + n * (8 + 2 * h)) author_word 2 ≡ Ok (a, e) → (p : Result (ℕ × ℕ) Refusal) → actor_at s (e + 1) committer_word 3 ≡ p → Parts s h x
    by-committer n a e t c u (Err r) v = never r (fields-are s h t n c ∙ people-committer s n (6 + 2 * h + n * (8 + 2 * h)) a e u r v)
    by-committer n a e t c u (Ok (b, f)) v =
        by_blank n a e b f t c u v (encoding_at s (f + 1)) (tally 0 (heads s (encoding_at s (f + 1)).next)) refl refl
        (fields-are s h t n c ∙ people-both s n (6 + 2 * h + n * (8 + 2 * h)) a e u b f v)
        (equal (get_or s (tally 0 (heads s (encoding_at s (f + 1)).next)).end 0) 10)

    by-author : (n : ℕ) → id_at tree_word h s 0 ≡ true → n ≡ parent_count h s (6 + 2 * h) → (p : Result (ℕ × ℕ) Refusal)
        → actor_at s (6 + 2 * h + n * (8 + 2 * h)) author_word 2 ≡ p → Parts s h x
    by-author n t c (Err r) u = never r (fields-are s h t n c ∙ people-author s n (6 + 2 * h + n * (8 + 2 * h)) r u)
    by-author n t c (Ok (a, e)) u = by-committer n a e t c u (actor_at s (e + 1) committer_word 3) refl

    by-tree : (t : Bool) → id_at tree_word h s 0 ≡ t → Parts s h x
    by-tree false t = never _ (fields-no s h t)
    by-tree true t =
        by-author (parent_count h s (6 + 2 * h)) t refl
        (actor_at s (6 + 2 * h + parent_count h s (6 + 2 * h) * (8 + 2 * h)) author_word 2) refl

-- ---- the outcome

module _ (s : List ℕ) (h np nh : ℕ) where
  pub outcome_shut : (v : Verdict) → gate_of h (length s) (max np nh) ≡ Err v → outcome_of s h np nh ≡ Err (record { verdict = v; field = 0 })
  unfolding outcome_of gated_by
  outcome_shut v g = rw g

  module _ (g : gate_of h (length s) (max np nh) ≡ Ok tt) where
    outcome_open : outcome_of s h np nh ≡ room_of np nh (fields_of s h)
    unfolding outcome_of gated_by
    outcome_open = rw g

    pub outcome_field : (r : Refusal) → fields_of s h ≡ Err r → outcome_of s h np nh ≡ Err r
    unfolding room_of
    outcome_field r m = outcome_open ∙ rw m

    module _ (f : Found) (m : fields_of s h ≡ Ok f) where
      pub outcome_parents : np < f.parents → outcome_of s h np nh ≡ Err (refusal 4 f.parents 0)
      unfolding room_of
      outcome_parents k = outcome_open ∙ rw m (simp (lt-leb f.parents np k))

      pub outcome_headers : f.parents ≤ np → nh < f.headers → outcome_of s h np nh ≡ Err (refusal 4 f.headers 0)
      unfolding room_of
      outcome_headers j k = outcome_open ∙ rw m (simp (le-leb f.parents np j, lt-leb f.headers nh k))

      pub outcome_whole : f.parents ≤ np → f.headers ≤ nh → outcome_of s h np nh ≡ Ok f
      unfolding room_of
      outcome_whole j k = outcome_open ∙ rw m (simp (le-leb f.parents np j, le-leb f.headers nh k))

-- a whole outcome: the gate is open, the fields are whole, and there is room
pub outcome_inverse : (s : List ℕ) (h np nh : ℕ) (x : Found) → outcome_of s h np nh ≡ Ok x
    → (gate_of h (length s) (max np nh) ≡ Ok tt) × (fields_of s h ≡ Ok x) × (x.parents ≤ np) × (x.headers ≤ nh)
outcome_inverse s h np nh x q = by-gate (gate_of h (length s) (max np nh)) refl
  where
    by-gate : (g : Result ⊤ Verdict) → gate_of h (length s) (max np nh) ≡ g
        → (gate_of h (length s) (max np nh) ≡ Ok tt) × (fields_of s h ≡ Ok x) × (x.parents ≤ np) × (x.headers ≤ nh)
    by-gate (Err v) g = let z : ◌≡◌ {A = ℕ} 0 1 = cc (outcome_shut s h np nh v g) in absurd (omega arith)
    by-gate (Ok tt) g = by-fields (fields_of s h) refl
      where
        by-fields : (o : Result Found Refusal) → fields_of s h ≡ o
            → (gate_of h (length s) (max np nh) ≡ Ok tt) × (fields_of s h ≡ Ok x) × (x.parents ≤ np) × (x.headers ≤ nh)
        by-fields (Err r) m = let z : ◌≡◌ {A = ℕ} 0 1 = cc (outcome_field s h np nh g r m) in absurd (omega arith)
        by-fields (Ok f) m = go (leb f.parents np) refl (leb f.headers nh) refl
          where
            go : (a : Bool) → leb f.parents np ≡ a → (b : Bool) → leb f.headers nh ≡ b
                → (gate_of h (length s) (max np nh) ≡ Ok tt) × (fields_of s h ≡ Ok x) × (x.parents ≤ np) × (x.headers ≤ nh)
            go false a b c = let z : ◌≡◌ {A = ℕ} 0 1 = cc (outcome_parents s h np nh g f m (leb-false f.parents np a)) in absurd (omega arith)
            go true a false c =
                let z : ◌≡◌ {A = ℕ} 0 1 = cc (outcome_headers s h np nh g f m (leb-true f.parents np a) (leb-false f.headers nh c)) in absurd
                (omega arith)
            go true a true c =
                let j = leb-true f.parents np a in
                let k = leb-true f.headers nh c in
                let w = outcome_whole s h np nh g f m j k in
                let y : f ≡ x = cc in
                (g, rw y at m, rw y at j, rw y at k)

-- ---- what a whole outcome says of the lent lists and of the bytes

pub record Fits (s : List ℕ) (h np nh : ℕ) (x : Found) : Type 0 where
  pub small : h ≤ 32
  pub first_line : 6 + 2 * h ≤ length s
  pub parents_room : x.parents ≤ np
  pub headers_room : x.headers ≤ nh
  pub parents_inside : 6 + 2 * h + x.parents * (8 + 2 * h) ≤ length s
  pub headers_are : x.headers ≡ (tally 0 (heads s x.first)).count

pub outcome_fits : (s : List ℕ) (h np nh : ℕ) (x : Found) → outcome_of s h np nh ≡ Ok x → Fits s h np nh x
outcome_fits s h np nh x q =
    let o = outcome_inverse s h np nh x q in
    let k = fields-parts s h x o.1 in
    let line = tree-fits s h k.tree in
    let n : x.parents ≡ parent_count h s (6 + 2 * h) = ap (λ (r : Found). r.parents) k.found ∙ k.counted in
    record {
      small = (id_small h (gate_open h (length s) (max np nh) o.0).0).1;
      first_line = line;
      parents_room = o.2;
      headers_room = o.3;
      parents_inside = rw n (parents-fit h s (6 + 2 * h) line);
      headers_are = rw k.found;
    }
