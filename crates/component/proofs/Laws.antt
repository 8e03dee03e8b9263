-- Laws of a path's components, and of an entry's name in a tree. Assumes nothing.
use Prim.Native.Nat.{ℕ, zero, suc, ◌+◌, ◌-◌, ◌<◌, ◌≤◌}
use native.Mathlib.Omega.{arith}
use native.Mathlib.Numerals.{add-one}
use mathlib.Core.Path.{◌≡◌, refl, ap, sym, ◌∙◌}
use mathlib.Core.Bool.{Bool, true, false, ◌&&◌}
use mathlib.Core.List.{List, [], ◌∷◌}
use lib.Dec.{eqb, leb}
use lib.ListN.{length, take, drop, length-drop, drop_of_length-le}
use lib.Seq.{drop-drop, length-take-le}
use borrow.Author.Tests.{le-leb, lt-leb, leb-true, leb-false}
use Rattle.ground.specs.Basics.{pick}
use Rattle.ground.specs.Scan.{count_to, place_from, same_bytes}
use Rattle.ground.specs.declared.Verdict.{Verdict}
use Rattle.ground.proofs.Laws.{count-le}
use Rattle.entry.specs.Record.{name_of, id_of}
use Rattle.entry.specs.Entry.{entry_of, entries_of}
use Rattle.entry.specs.Decode.{decode}
use Rattle.entry.specs.declared.EntryRecord.{EntryRecord}
use Rattle.entry.specs.declared.Cursor.{Cursor}
use Rattle.entry.proofs.Laws.{decode-inside}
use Rattle.reading.specs.Listing.{Listing, done, stop, entry, plain, records_in}
use Rattle.reading.specs.Listing as reading
use Rattle.reading.proofs.Laws.{plain-none, plain-some}
use Rattle.component.specs.Component.{on_head, pieces, filled, most_components, is_path}
use Rattle.component.specs.Named.{Found, there, nowhere, entries_read, first_named, first_in}
use Rattle.std.specs.Prelude.{Err, None, Ok, Option, Result, Some}

-- ---- components

-- bytes with no slash are one piece
pub pieces-last : (p : List ℕ) → length p ≤ count_to 47 p → pieces p ≡ p ∷ []
unfolding pieces on_head
pieces-last [] h = refl
pieces-last (x ∷ xs) h = go (eqb x 47) (pieces-last xs) h
  where
    go : (t : Bool) → (length xs ≤ count_to 47 xs → pieces xs ≡ xs ∷ []) → suc (length xs) ≤ pick t 0 (suc (count_to 47 xs)) → pick t ([] ∷ pieces xs) (on_head x (pieces xs)) ≡ (x ∷ xs) ∷ []
    go true ih h = absurd (omega arith)
    go false ih h = rw (ih (omega arith))

-- else the first piece ends at the first slash, and the others are those of what follows
pub pieces_more : (p : List ℕ) → count_to 47 p < length p → pieces p ≡ take (count_to 47 p) p ∷ pieces (drop (count_to 47 p + 1) p)
unfolding pieces on_head
pieces_more [] h = absurd (omega arith)
pieces_more (x ∷ xs) h = go (eqb x 47) (pieces_more xs) h
  where
    go : (t : Bool) → (count_to 47 xs < length xs → pieces xs ≡ take (count_to 47 xs) xs ∷ pieces (drop (count_to 47 xs + 1) xs)) → pick t 0 (suc (count_to 47 xs)) < suc (length xs)
        → pick t ([] ∷ pieces xs) (on_head x (pieces xs)) ≡ take (pick t 0 (suc (count_to 47 xs))) (x ∷ xs) ∷ pieces (drop (pick t 0 (suc (count_to 47 xs)) + 1) (x ∷ xs))
    go true ih h = refl
    go false ih h = rw (ih (omega arith)) (simp add-one)

pub pieces-some : (p : List ℕ) → 0 < length (pieces p)
unfolding pieces on_head
pieces-some [] = omega arith
pieces-some (x ∷ xs) = go (eqb x 47) (pieces xs)
  where
    go : (t : Bool) (cs : List (List ℕ)) → 0 < length (pick t ([] ∷ cs) (on_head x cs))
    go true cs = omega arith
    go false [] = omega arith
    go false (c ∷ cs) = omega arith

-- the rest of a path's components, n having been passed
unfoldable pub rest_good : ℕ → List (List ℕ) → Bool
rest_good n cs = filled cs && leb (n + length cs) most_components

pub good_all : (cs : List (List ℕ)) → is_path cs ≡ rest_good 0 cs
unfolding is_path rest_good
good_all cs = let z : length cs ≡ 0 + length cs = omega arith in ap (λ (n : ℕ). filled cs && leb n most_components) z

and-false : (b : Bool) → (b && false) ≡ false
and-false true = refl
and-false false = refl

empty-first : (n : ℕ) (p : List ℕ) → count_to 47 p ≡ 0 → rest_good n (pieces p) ≡ false
unfolding rest_good filled pieces
empty-first n [] q = refl
empty-first n (x ∷ xs) q = rw (pieces_more (x ∷ xs) (omega arith), q)

-- the components from a place on, where the next slash or the end stands at `to`
module _ (path : List ℕ) (at n to : ℕ) (inside : at ≤ length path) (e : to ≡ place_from 47 path at) where
  rest : List ℕ
  rest = drop at path

  size : length (drop at path) ≡ length path - at
  size = length-drop at path

  many : to ≡ at + count_to 47 (drop at path)
  unfolding place_from
  many = e

  pub to_within : (at ≤ to) × (to ≤ length path)
  to_within = let a = many in let b = count-le 47 (drop at path) in let c = size in (omega arith, omega arith)

  pub good_full : most_components ≤ n → rest_good n (pieces (drop at path)) ≡ false
  unfolding rest_good
  good_full f = rw (lt-leb (n + length (pieces (drop at path))) most_components (omega (arith, pieces-some (drop at path)))) (and-false (filled (pieces (drop at path))))

  pub good-empty : to ≡ at → rest_good n (pieces (drop at path)) ≡ false
  good-empty z = empty-first n (drop at path) (omega (arith, many))

  module _ (f : n < most_components) (some : to ≡ at → ⊥) where
    pub good-last : to ≡ length path → rest_good n (pieces (drop at path)) ≡ true
    unfolding rest_good filled
    good-last z =
        let a = many in let c = size in
        let one : leb 1 (length (drop at path)) ≡ true = le-leb 1 (length (drop at path)) (omega arith) in
        let fits : leb (n + 1) most_components ≡ true = le-leb (n + 1) most_components (omega arith) in
        rw (pieces-last (drop at path) (omega arith)) (rw (one, fits))

    pub good_more : (to ≡ length path → ⊥) → rest_good n (pieces (drop at path)) ≡ rest_good (n + 1) (pieces (drop (to + 1) path))
    unfolding rest_good filled
    good_more z =
        let a = many in let b = count-le 47 (drop at path) in let c = size in
        let m : ℕ = count_to 47 (drop at path) in
        let d : drop (m + 1) (drop at path) ≡ drop (to + 1) path =
        drop-drop (m + 1) at path ∙ ap (λ (j : ℕ). drop j path) (let y : at + (m + 1) ≡ to + 1 = omega arith in y) in
        let l : length (take m (drop at path)) ≡ m = length-take-le m (drop at path) b in
        let one : leb 1 (length (take m (drop at path))) ≡ true = le-leb 1 (length (take m (drop at path))) (omega arith) in
        let k : n + suc (length (pieces (drop (to + 1) path))) ≡ n + 1 + length (pieces (drop (to + 1) path)) = omega arith in
        rw (pieces_more (drop at path) (omega arith), d) (rw (one, k))

-- ---- the first entry of a name

module _ (h : ℕ) (b name : List ℕ) (k at : ℕ) where
  pub named_end : length b ≤ at → first_in b name (plain h k at (drop at b)) ≡ None
  unfolding first_in
  named_end p = rw (drop_of_length-le b {i = at} p) (ap (first_in b name) (plain-none h k at))

  module _ (p : at < length b) (q : 0 < k) where
    plain-next : plain h k at (drop at b) ≡ reading.follow (plain h (k - 1)) at (drop at b) (decode h at (drop at b))
    plain-next =
        let z : k ≡ suc (k - 1) = omega arith in
        ap (λ (j : ℕ). plain h j at (drop at b)) z ∙ plain-some h (k - 1) at (drop at b) (omega (arith, length-drop at b))

    pub named-broken : {v : Verdict} → decode h at (drop at b) ≡ Err v → first_in b name (plain h k at (drop at b)) ≡ None
    unfolding first_in reading.follow
    named-broken d = ap (first_in b name) plain-next ∙ rw d

    module _ (e : EntryRecord) (next : Cursor) (d : decode h at (drop at b) ≡ Ok (e, next)) where
      plain_entry : plain h k at (drop at b) ≡ entry at e (plain h (k - 1) next.at (drop next.at b))
      unfolding reading.follow
      plain_entry =
          let i = decode-inside h b at e next d in
          let z : at + (next.at - at) ≡ next.at = omega arith in
          let w : drop (next.at - at) (drop at b) ≡ drop next.at b = drop-drop (next.at - at) at b ∙ ap (λ (j : ℕ). drop j b) z in
          plain-next ∙ rw (d, w)

      pub named_here : same_bytes (take (e.name_end - e.name_start) (drop e.name_start b)) name ≡ true → first_in b name (plain h k at (drop at b)) ≡ Some e
      unfolding first_in name_of
      named_here t = ap (first_in b name) plain_entry ∙ rw t

      pub named_on : same_bytes (take (e.name_end - e.name_start) (drop e.name_start b)) name ≡ false
          → first_in b name (plain h k at (drop at b)) ≡ first_in b name (plain h (k - 1) next.at (drop next.at b))
      unfolding first_in name_of
      named_on t = ap (first_in b name) plain_entry ∙ rw t

-- a record that was found, as an entry
unfoldable pub seen : ℕ → List ℕ → Option EntryRecord → Found
seen h b (Some e) = there e.mode (id_of h b e)
seen h b None = nowhere

pub first-named : (h : ℕ) (b name : List ℕ) (l : Listing) → seen h b (first_in b name l) ≡ first_named name (entries_of h b (records_in l))
unfolding seen first_in first_named records_in entry_of
first-named h b name done = refl
first-named h b name (stop v) = refl
first-named h b name (entry at e l) = go (first-named h b name l) (same_bytes (name_of b e) name)
  where
    go : seen h b (first_in b name l) ≡ first_named name (entries_of h b (records_in l)) → (v : Bool)
        → seen h b (pick v (Some e) (first_in b name l)) ≡ pick v (there e.mode (id_of h b e)) (first_named name (entries_of h b (records_in l)))
    go ih true = refl
    go ih false = ih

no_fuel : (h : ℕ) (b name : List ℕ) (at : ℕ) (r : List ℕ) → first_in b name (plain h 0 at r) ≡ None
unfolding first_in plain
no_fuel h b name at [] = refl
no_fuel h b name at (x ∷ xs) = refl

-- its id lies inside the tree
pub first-within : (h : ℕ) (b name : List ℕ) (k at : ℕ) (e : EntryRecord) → first_in b name (plain h k at (drop at b)) ≡ Some e → e.id_start + h ≤ length b
first-within h b name zero at e q = let z : ◌≡◌ {A = ℕ} 0 1 = cc (no_fuel h b name at (drop at b)) in absurd (omega arith)
first-within h b name (suc k) at e q = split (λ (j : ℕ) p. first-within h b name k j e p) (leb (length b) at) refl
  where
    none : Some e ≡ None → ⊥
    none z = let y : ◌≡◌ {A = ℕ} 0 1 = cc in omega arith

    found : ((j : ℕ) → first_in b name (plain h k j (drop j b)) ≡ Some e → e.id_start + h ≤ length b)
        → (g : EntryRecord) (next : Cursor) → at < length b → decode h at (drop at b) ≡ Ok (g, next) → (v : Bool)
        → same_bytes (take (g.name_end - g.name_start) (drop g.name_start b)) name ≡ v → e.id_start + h ≤ length b
    found ih g next p d true t =
        let r = sym q ∙ named_here h b name (suc k) at p (omega arith) g next d t in
        let s : e ≡ g = cc in
        let i = decode-inside h b at g next d in
        let w : g.id_start + h ≤ length b = omega arith in
        rw s w
    found ih g next p d false t =
        let z : suc k - 1 ≡ k = omega arith in
        ih next.at (rw z at (sym (named_on h b name (suc k) at p (omega arith) g next d t) ∙ q))

    go : ((j : ℕ) → first_in b name (plain h k j (drop j b)) ≡ Some e → e.id_start + h ≤ length b)
        → at < length b → (r : Result (EntryRecord × Cursor) Verdict) → decode h at (drop at b) ≡ r → e.id_start + h ≤ length b
    go ih p (Ok (g, next)) d = found ih g next p d (same_bytes (take (g.name_end - g.name_start) (drop g.name_start b)) name) refl
    go ih p (Err v) d = absurd (none (sym q ∙ named-broken h b name (suc k) at p (omega arith) d))

    split : ((j : ℕ) → first_in b name (plain h k j (drop j b)) ≡ Some e → e.id_start + h ≤ length b) → (v : Bool) → leb (length b) at ≡ v → e.id_start + h ≤ length b
    split ih true t = absurd (none (sym q ∙ named_end h b name (suc k) at (leb-true _ _ t)))
    split ih false t = go ih (leb-false _ _ t) (decode h at (drop at b)) refl

-- it has h bytes
seen_size : (h : ℕ) (b name : List ℕ) (r : Option EntryRecord) → r ≡ first_in b name (plain h (length b) 0 b) → (m : ℕ) (i : List ℕ) → seen h b r ≡ there m i → length i ≡ h
unfolding seen id_of
seen_size h b name (Some e) q m i w =
    let j : take h (drop e.id_start b) ≡ i = cc in
    let l = first-within h b name (length b) 0 e (sym q) in
    sym (ap length j) ∙ length-take-le h (drop e.id_start b) (omega (arith, length-drop e.id_start b))
seen_size h b name None q m i w = let z : ◌≡◌ {A = ℕ} 0 1 = cc in absurd (omega arith)

pub named-size : (h : ℕ) (b name : List ℕ) (m : ℕ) (i : List ℕ) → first_named name (entries_read h b) ≡ there m i → length i ≡ h
unfolding entries_read
named-size h b name m i e = seen_size h b name (first_in b name (plain h (length b) 0 b)) refl m i (first-named h b name (plain h (length b) 0 b) ∙ e)
