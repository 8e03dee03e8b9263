-- A name of any sort: in an accepted object it has at most one entry, and the lookup finds exactly that one. Assumes nothing.
use Prim.Native.Nat.{ℕ, zero, suc, ◌+◌, ◌≤◌, ◌<◌}
use native.Mathlib.Omega.{arith}
use native.Mathlib.Nat.{not-suc-le-zero, le_of_suc-le-suc}
use mathlib.Core.Path.{◌≡◌, refl, sym, ap, subst, ◌∙◌}
use mathlib.Core.Bool.{Bool, true, false}
use mathlib.Core.List.{List, [], ◌∷◌, Memᴰ}
use mathlib.Core.Logic.{◌⊎◌, inl, inr, ⊎_elim}
use lib.ListN.{length, get_or}
use Rattle.ground.specs.Scan.{free_of}
use Rattle.ground.specs.Verdict.{most_bytes}
use Rattle.mode.specs.Mode.{is_tree}
use Rattle.entry.specs.Record.{records_of}
use Rattle.entry.specs.Entry.{Entry}
use Rattle.entry.specs.declared.EntryRecord.{EntryRecord}
use Rattle.reading.specs.Listing.{listing, records_in}
use Rattle.rules.specs.Rules.{git_rules}
use Rattle.one_listing.specs.Sound.{Distinct}
use Rattle.one_listing.specs.Demand.{Accepts}
use Rattle.one_listing.proofs.Theorem.{accepts_sound}
use Rattle.one_listing.proofs.Present.{git_ok, plainly}
use Rattle.lookup.specs.Halving.{found, absent}
use Rattle.lookup.specs.Lookup.{lookup_in, any_in}
use Rattle.lookup.specs.declared.Looked.{Looked}
use Rattle.lookup.proofs.Laws.{any-first, any-second}
use Rattle.lookup.proofs.Theorems.{lookup-answers, any-count}
use Rattle.tree_round.specs.Demand.{returned, empty_entry, Holds}
use Rattle.tree_round.specs.Any.{Bears, OnlyOne, FindsAny, MissesAny, FewAny}
use Rattle.tree_round.proofs.Returned.{returned-is, accepted-sorted}
use Rattle.tree_round.proofs.Finding.{allowed, finds, misses}

-- ---- at most one

member : (es : List Entry) (i : ℕ) → i < length es → Memᴰ (get_or es i empty_entry) es
member [] i l = absurd (not-suc-le-zero l)
member (e ∷ es) zero l = Memᴰ.head refl
member (e ∷ es) (suc i) l = Memᴰ.tail (member es i (le_of_suc-le-suc l))

one_at : (es : List Entry) → Distinct es → (name : List ℕ) (i j : ℕ) → Bears es name i → Bears es name j → i ≡ j
one_at [] d name i j a b = absurd (not-suc-le-zero a.inside)
one_at (e ∷ es) d name zero zero a b = refl
one_at (e ∷ es) d name zero (suc j) a b = absurd (d.0 (get_or es j empty_entry) (member es j (le_of_suc-le-suc b.inside)) (a.named ∙ sym b.named))
one_at (e ∷ es) d name (suc i) zero a b = absurd (d.0 (get_or es i empty_entry) (member es i (le_of_suc-le-suc a.inside)) (b.named ∙ sym a.named))
one_at (e ∷ es) d name (suc i) (suc j) a b =
    ap suc
    (one_at es d.1 name i j
    (record { inside = le_of_suc-le-suc a.inside; named = a.named })
    (record { inside = le_of_suc-le-suc b.inside; named = b.named }))

pub only_one : OnlyOne
only_one k h s lent es a = one_at es ((plainly k h es).1 (accepts_sound (git_rules k) (git_ok k) h s lent es a).0).2

-- ---- what it answers

-- the two lookups: found as anything else than a folder, found as a folder alone, or not there
record Answers (h : ℕ) (s : List ℕ) (rs : List EntryRecord) (name : List ℕ) (folder : Bool) (i : ℕ) : Type 0 where
  once : (c : ℕ) × (lookup_in h s rs name folder ≡ found i c)
  whole : (c : ℕ) × (any_in h s rs name ≡ found i c)

record Neither (h : ℕ) (s : List ℕ) (rs : List EntryRecord) (name : List ℕ) : Type 0 where
  file : (c : ℕ) × (lookup_in h s rs name false ≡ absent c)
  tree : (c : ℕ) × (lookup_in h s rs name true ≡ absent c)
  whole : (c : ℕ) × (any_in h s rs name ≡ absent c)

module _ (h : ℕ) (s : List ℕ) (rs : List EntryRecord) (name : List ℕ) where
  as_file : (i c : ℕ) → lookup_in h s rs name false ≡ found i c → Answers h s rs name false i
  as_file i c e = record { once = (c, e); whole = (c, any-first h s rs name (sym e) (λ z. omega arith)) }

  as_tree : (i b c : ℕ) → lookup_in h s rs name false ≡ absent b → lookup_in h s rs name true ≡ found i c → Answers h s rs name true i
  as_tree i b c d e = record { once = (c, e); whole = (b + c, any-second h s rs name (sym d) refl (sym e) (λ z. omega arith)) }

  as_none : (b c : ℕ) → lookup_in h s rs name false ≡ absent b → lookup_in h s rs name true ≡ absent c → Neither h s rs name
  as_none b c d e = record { file = (b, d); tree = (c, e); whole = (b + c, any-second h s rs name (sym d) refl (sym e) (λ z. omega arith)) }

  -- an answer is one of these
  found_here : (i j b c : ℕ) → any_in h s rs name ≡ found i b → any_in h s rs name ≡ found j c → i ≡ j
  found_here i j b c d e = ap (λ (r : Looked). r.index) (sym d ∙ e)

  never_both : (i b c : ℕ) → any_in h s rs name ≡ found i b → any_in h s rs name ≡ absent c → ⊥
  never_both i b c d e = omega (arith, ap (λ (r : Looked). r.verdict.number) (sym d ∙ e))

module _ (k h : ℕ) (s lent : List ℕ) (es : List Entry) (a : Accepts (git_rules k) h s lent es) (name : List ℕ) (short : length name ≤ most_bytes)
    (free : free_of 47 name ≡ true) where
  abbrev rs : List EntryRecord
  rs = records_of (returned (git_rules k) h s lent (length es))

  either : (folder : Bool) → ((i : ℕ) × (c : ℕ) × (lookup_in h s rs name folder ≡ found i c)) ⊎ ((c : ℕ) × (lookup_in h s rs name folder ≡ absent c))
  either folder =
      rw (returned-is (git_rules k) h s lent es a)
      (lookup-answers h s (records_in (listing h s)) (accepted-sorted (git_rules k) (git_ok k) h s lent es a) name folder (allowed (git_rules k) (git_ok k) h s lent es a name short free folder))

  answered : ((i : ℕ) × (folder : Bool) × Answers h s rs name folder i) ⊎ Neither h s rs name
  answered =
      ⊎_elim
      (λ w. inl (w.0, false, as_file h s rs name w.0 w.1 w.2))
      (λ w. ⊎_elim
      (λ v. inl (v.0, true, as_tree h s rs name v.0 w.0 v.1 w.1 v.2))
      (λ v. inr (as_none h s rs name w.0 v.0 w.1 v.1))
      (either true))
      (either false)

  -- an entry of that name has a sort
  held : (i : ℕ) → Bears es name i → Holds es name (is_tree (get_or es i empty_entry).mode) i
  held i b = record { inside = b.inside; named = b.named; sort = refl }

  bears : (i : ℕ) (folder : Bool) → Holds es name folder i → Bears es name i
  bears i folder t = record { inside = t.inside; named = t.named }

  answer_bears : (i : ℕ) (folder : Bool) → Answers h s rs name folder i → Bears es name i
  answer_bears i folder r = bears i folder ((finds (git_rules k) (git_ok k) h s lent es a name short free folder i).0 r.once)

  none_bears : Neither h s rs name → (i : ℕ) → Bears es name i → ⊥
  none_bears n i b = go (is_tree (get_or es i empty_entry).mode) (held i b)
    where
      go : (folder : Bool) → Holds es name folder i → ⊥
      go false t = (misses (git_rules k) (git_ok k) h s lent es a name short free false).0 n.file i t
      go true t = (misses (git_rules k) (git_ok k) h s lent es a name short free true).0 n.tree i t

pub finds-any : FindsAny
finds-any k h s lent es a name short free i = (
  (λ w. ⊎_elim
      (λ r.
      let e = found_here h s (rs k h s lent es a name short free) name r.0 i r.2.whole.0 w.0 r.2.whole.1 w.1 in
      subst (Bears es name) e (answer_bears k h s lent es a name short free r.0 r.1 r.2))
      (λ n. absurd (never_both h s (rs k h s lent es a name short free) name i w.0 n.whole.0 w.1 n.whole.1))
      (answered k h s lent es a name short free)),
  (λ b. ⊎_elim
      (λ r.
      let e = only_one k h s lent es a name r.0 i (answer_bears k h s lent es a name short free r.0 r.1 r.2) b in
      (r.2.whole.0, r.2.whole.1 ∙ ap (λ (j : ℕ). found j r.2.whole.0) e))
      (λ n. absurd (none_bears k h s lent es a name short free n i b))
      (answered k h s lent es a name short free)),
)

pub misses-any : MissesAny
misses-any k h s lent es a name short free = (
  (λ w. ⊎_elim
      (λ r. absurd (never_both h s (rs k h s lent es a name short free) name r.0 r.2.whole.0 w.0 r.2.whole.1 w.1))
      (λ n i b. none_bears k h s lent es a name short free n i b)
      (answered k h s lent es a name short free)),
  (λ none. ⊎_elim
      (λ r. absurd (none r.0 (answer_bears k h s lent es a name short free r.0 r.1 r.2)))
      (λ n. n.whole)
      (answered k h s lent es a name short free)),
)

pub few-any : FewAny
few-any = any-count
