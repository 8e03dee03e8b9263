-- Laws of extra headers and folded values, one for each way through a definition. Assumes nothing.
use Prim.Native.Nat.{ℕ, suc, ◌+◌, ◌<◌, ◌≤◌}
use mathlib.Core.Path.{◌≡◌, refl, sym, ◌∙◌}
use mathlib.Core.Bool.{Bool, true, false}
use mathlib.Core.List.{List, [], ◌∷◌}
use mathlib.Core.Logic.{◌⊎◌, inl, inr}
use native.Mathlib.Nat.{not-suc-le-zero}
use native.Mathlib.Numerals.{add-one}
use native.Mathlib.Omega.{arith}
use lib.ListN.{length, get_or, drop, drop_of_length-le, length-drop}
use lib.Seq.{drop-cons, drop-drop}
use lib.Dec.{eqb, ltb}
use borrow.Author.Tests.{eq-eqb, ne_eqb, lt-ltb, le-ltb, ltb-true, ltb-false}
use Rattle.ground.specs.Basics.{pick}
use Rattle.ground.specs.Scan.{count_to, place_from}
use Rattle.extra_header.specs.Extra.{fold_from, fold_end, folded_or, extra_at, folded_form}
use Rattle.header.specs.Record.{header_of}
use Rattle.header.specs.declared.HeaderRecord.{HeaderRecord}
use Rattle.std.specs.Prelude.{None, Some}
use Rattle.ground.proofs.Pairs.{some_parts}

-- ---- lines that start with a space

-- inside a line: it ends, or it does not
line-ends_at : (start at : ℕ) (t : List ℕ) → count_to 10 t < length t → fold_from true start at t ≡ fold_from false start (at + count_to 10 t + 1)
    (drop (count_to 10 t + 1) t)
unfolding fold_from
line-ends_at start at [] h = absurd (not-suc-le-zero h)
line-ends_at start at (b ∷ bs) h = rw (add-one (pick (eqb b 10) 0 (suc (count_to 10 bs)))) (go (eqb b 10) h (line-ends_at start (at + 1) bs))
  where
    go : (t : Bool) → pick t 0 (suc (count_to 10 bs)) < suc (length bs)
        → (count_to 10 bs < length bs → fold_from true start (at + 1) bs ≡ fold_from false start (at + 1 + count_to 10 bs + 1) (drop (count_to 10 bs + 1) bs))
        → pick t (fold_from false start (at + 1) bs) (fold_from true start (at + 1) bs)
        ≡ fold_from false start (at + pick t 0 (suc (count_to 10 bs)) + 1) (drop (pick t 0 (suc (count_to 10 bs))) bs)
    go true h ih = let z : at + 1 ≡ at + 0 + 1 = omega arith in rw z
    go false h ih =
        let z : at + 1 + count_to 10 bs + 1 ≡ at + suc (count_to 10 bs) + 1 = omega arith in
        ih (omega arith) ∙ rw (z, add-one (count_to 10 bs))

line-runs-out : (start at : ℕ) (t : List ℕ) → length t ≤ count_to 10 t → fold_from true start at t ≡ start
unfolding fold_from
line-runs-out start at [] h = refl
line-runs-out start at (b ∷ bs) h = go (eqb b 10) h (line-runs-out start (at + 1) bs)
  where
    go : (t : Bool) → suc (length bs) ≤ pick t 0 (suc (count_to 10 bs)) → (length bs ≤ count_to 10 bs → fold_from true start (at + 1) bs ≡ start)
        → pick t (fold_from false start (at + 1) bs) (fold_from true start (at + 1) bs) ≡ start
    go true h ih = absurd (not-suc-le-zero h)
    go false h ih = ih (omega arith)

-- at a place: the end, a line that starts otherwise, one that starts with a space and ends or does not
module _ (start : ℕ) (s : List ℕ) (at : ℕ) where
  pub fold_end_here : length s ≤ at → fold_from false start at (drop at s) ≡ at
  unfolding fold_from
  fold_end_here h = rw (drop_of_length-le s {i = at} h)

  module _ (h : at < length s) where
    pub fold_other : (get_or s at 0 ≡ 32 → ⊥) → fold_from false start at (drop at s) ≡ at
    unfolding fold_from
    fold_other e = rw (drop-cons s at 0 h) (simp (ne_eqb (get_or s at 0) 32 e))

    fold-into : get_or s at 0 ≡ 32 → fold_from false start at (drop at s) ≡ fold_from true start (at + 1) (drop (at + 1) s)
    unfolding fold_from
    fold-into e = rw (add-one at, drop-cons s at 0 h) (simp (eq-eqb (get_or s at 0) 32 e) (rw add-one))

    module _ (e : get_or s at 0 ≡ 32) (lf : ℕ) (q : lf ≡ place_from 10 s (at + 1)) where
      pub fold_open : length s ≤ lf → fold_from false start at (drop at s) ≡ start
      unfolding place_from
      fold_open k = fold-into e ∙ line-runs-out start (at + 1) (drop (at + 1) s) (omega (arith, q, length-drop (at + 1) s))

      pub fold_next : lf < length s → fold_from false start at (drop at s) ≡ fold_from false start (lf + 1) (drop (lf + 1) s)
      unfolding place_from
      fold_next k =
          let z : at + 1 + (count_to 10 (drop (at + 1) s) + 1) ≡ lf + 1 = omega (arith, q) in
          let y : at + 1 + count_to 10 (drop (at + 1) s) + 1 ≡ lf + 1 = omega (arith, q) in
          let w = line-ends_at start (at + 1) (drop (at + 1) s) (omega (arith, q, length-drop (at + 1) s)) in
          fold-into e ∙ (rw (drop-drop, z, y) at w)

-- the lines end at or after their start, within the bytes
fold_range : (b : Bool) (start at : ℕ) (t : List ℕ) → start ≤ at → (start ≤ fold_from b start at t) × (fold_from b start at t ≤ at + length t)
unfolding fold_from
fold_range false start at [] k = (k, omega arith)
fold_range true start at [] k = (omega arith, omega arith)
fold_range false start at (b ∷ bs) k = go (eqb b 32) (fold_from true start (at + 1) bs) (fold_range true start (at + 1) bs (omega arith))
  where
    go : (t : Bool) (on : ℕ) → (start ≤ on) × (on ≤ at + 1 + length bs) → (start ≤ pick t on at) × (pick t on at ≤ at + suc (length bs))
    go true on ih = (ih.0, omega (arith, ih.1))
    go false on ih = (k, omega arith)
fold_range true start at (b ∷ bs) k =
    go (eqb b 10) (fold_from false start (at + 1) bs) (fold_from true start (at + 1) bs)
    (fold_range false start (at + 1) bs (omega arith)) (fold_range true start (at + 1) bs (omega arith))
  where
    go : (t : Bool) (over on : ℕ) → (start ≤ over) × (over ≤ at + 1 + length bs) → (start ≤ on) × (on ≤ at + 1 + length bs)
        → (start ≤ pick t over on) × (pick t over on ≤ at + suc (length bs))
    go true over on o ih = (o.0, omega (arith, o.1))
    go false over on o ih = (ih.0, omega (arith, ih.1))

pub fold_within : (s : List ℕ) (start : ℕ) → start ≤ length s → (start ≤ fold_end s start) × (fold_end s start ≤ length s)
unfolding fold_end
fold_within s start h = let k = fold_range false start start (drop start s) (omega arith) in (k.0, omega (arith, k.1, length-drop start s))

-- ---- an extra header: no name, no space before LF, no LF, folded, one line

module _ (s : List ℕ) (at space lf : ℕ) (p : space ≡ place_from 32 s at) (q : lf ≡ place_from 10 s at) where
  pub extra_unnamed : space ≤ at → extra_at s at ≡ None
  unfolding extra_at
  extra_unnamed e = rw (← p, ← q) (simp (le-ltb at space e))

  module _ (a : at < space) where
    pub extra_bare : lf ≤ space → extra_at s at ≡ None
    unfolding extra_at
    extra_bare e = rw (← p, ← q) (simp (lt-ltb at space a, le-ltb space lf e))

    module _ (b : space < lf) where
      pub extra_open : length s ≤ lf → extra_at s at ≡ None
      unfolding extra_at
      extra_open e = rw (← p, ← q) (simp (lt-ltb at space a, lt-ltb space lf b, le-ltb lf (length s) e))

      module _ (c : lf < length s) (end : ℕ) (r : end ≡ fold_end s (lf + 1)) where
        extra_is : extra_at s at ≡ folded_or at space lf end
        unfolding extra_at
        extra_is = rw (← p, ← q, ← r) (simp (lt-ltb at space a, lt-ltb space lf b, lt-ltb lf (length s) c))

        pub extra_folded : lf + 1 < end → extra_at s at ≡ Some (header_of at space (space + 1) end 1, end)
        unfolding folded_or
        extra_folded e = extra_is ∙ simp (lt-ltb (lf + 1) end e)

        pub extra_line : end ≤ lf + 1 → extra_at s at ≡ Some (header_of at space (space + 1) lf 0, lf + 1)
        unfolding folded_or
        extra_line e = extra_is ∙ simp (le-ltb (lf + 1) end e)

-- a blank line is none, wherever a space stands
pub extra_blank : (s : List ℕ) (at lf : ℕ) → lf ≡ place_from 10 s at → lf ≤ at → extra_at s at ≡ None
extra_blank s at lf q h = by (place_from 32 s at) refl
  where
    by : (space : ℕ) → space ≡ place_from 32 s at → extra_at s at ≡ None
    by space p = go (ltb at space) refl
      where
        go : (t : Bool) → ltb at space ≡ t → extra_at s at ≡ None
        go false e = extra_unnamed s at space lf p q (ltb-false at space e)
        go true e = extra_bare s at space lf p q (ltb-true at space e) (omega (arith, ltb-true at space e))

-- what a header that is there says of the bytes: where its name and its first line end, and whether lines fold it
pub record ExtraParts (s : List ℕ) (at : ℕ) (x : HeaderRecord) (next : ℕ) : Type 0 where
  pub space : ℕ
  pub lf : ℕ
  pub end : ℕ
  pub space_is : space ≡ place_from 32 s at
  pub lf_is : lf ≡ place_from 10 s at
  pub end_is : end ≡ fold_end s (lf + 1)
  pub named : at < space
  pub spaced : space < lf
  pub ended : lf < length s
  pub read : ((end ≤ lf + 1) × (x ≡ header_of at space (space + 1) lf 0) × (next ≡ lf + 1))
      ⊎ ((lf + 1 < end) × (x ≡ header_of at space (space + 1) end 1) × (next ≡ end))

pub extra_parts : (s : List ℕ) (at : ℕ) (x : HeaderRecord) (next : ℕ) → extra_at s at ≡ Some (x, next) → ExtraParts s at x next
extra_parts s at x next e =
    by (place_from 32 s at) (place_from 10 s at) (fold_end s (place_from 10 s at + 1)) refl refl refl
  where
    never : extra_at s at ≡ None → ExtraParts s at x next
    never n = let z : ◌≡◌ {A = ℕ} 0 1 = cc in absurd (omega arith)

    by : (space lf end : ℕ) → space ≡ place_from 32 s at → lf ≡ place_from 10 s at → end ≡ fold_end s (lf + 1) → ExtraParts s at x next
    by space lf end i j k = go (ltb at space) refl (ltb space lf) refl (ltb lf (length s)) refl (ltb (lf + 1) end) refl
      where
        go : (a : Bool) → ltb at space ≡ a → (b : Bool) → ltb space lf ≡ b → (c : Bool) → ltb lf (length s) ≡ c → (d : Bool) → ltb (lf + 1) end ≡ d
            → ExtraParts s at x next
        go false p b q c r d t = never (extra_unnamed s at space lf i j (ltb-false at space p))
        go true p false q c r d t = never (extra_bare s at space lf i j (ltb-true at space p) (ltb-false space lf q))
        go true p true q false r d t = never (extra_open s at space lf i j (ltb-true at space p) (ltb-true space lf q) (ltb-false lf (length s) r))
        go true p true q true r false t =
            let a = ltb-true at space p in
            let b = ltb-true space lf q in
            let c = ltb-true lf (length s) r in
            let n = ltb-false (lf + 1) end t in
            let w = extra_line s at space lf i j a b c end k n in
            let parts = some_parts (sym e ∙ w) in
            let y = parts.0 in
            let z = parts.1 in
            record { space = space; lf = lf; end = end; space_is = i; lf_is = j; end_is = k; named = a; spaced = b; ended = c; read = inl (n, y, z) }
        go true p true q true r true t =
            let a = ltb-true at space p in
            let b = ltb-true space lf q in
            let c = ltb-true lf (length s) r in
            let n = ltb-true (lf + 1) end t in
            let w = extra_folded s at space lf i j a b c end k n in
            let parts = some_parts (sym e ∙ w) in
            let y = parts.0 in
            let z = parts.1 in
            record { space = space; lf = lf; end = end; space_is = i; lf_is = j; end_is = k; named = a; spaced = b; ended = c; read = inr (n, y, z) }

-- the next header starts further on, within the bytes
pub extra_next : (s : List ℕ) (at : ℕ) {x : HeaderRecord} {next : ℕ} → extra_at s at ≡ Some (x, next) → (at < next) × (next ≤ length s)
extra_next s at {x} {next} e = by (extra_parts s at x next e)
  where
    by : ExtraParts s at x next → (at < next) × (next ≤ length s)
    by k = go k.read
      where
        go : ((k.end ≤ k.lf + 1) × (x ≡ header_of at k.space (k.space + 1) k.lf 0) × (next ≡ k.lf + 1))
            ⊎ ((k.lf + 1 < k.end) × (x ≡ header_of at k.space (k.space + 1) k.end 1) × (next ≡ k.end))
            → (at < next) × (next ≤ length s)
        go (inl y) = (omega (arith, k.named, k.spaced, y.2), omega (arith, k.ended, y.2))
        go (inr y) = (omega (arith, k.named, k.spaced, y.0, y.2), omega (arith, fold_within s (k.lf + 1) (omega (arith, k.ended)), k.end_is, y.2))

-- ---- a folded value

module _ (v : List ℕ) (n : ℕ) (q : n ≡ count_to 10 v) where
  pub form_end : length v ≤ n → folded_form v ≡ false
  unfolding folded_form
  form_end h = rw (← q) (simp (le-ltb n (length v) h))

  module _ (h : n < length v) (end : ℕ) (r : end ≡ fold_end v (n + 1)) where
    pub form-none : end ≤ n + 1 → folded_form v ≡ false
    unfolding folded_form
    form-none e = rw (← q, ← r) (simp (lt-ltb n (length v) h, le-ltb (n + 1) end e))

    pub form-is : n + 1 < end → folded_form v ≡ eqb end (length v)
    unfolding folded_form
    form-is e = rw (← q, ← r) (simp (lt-ltb n (length v) h, lt-ltb (n + 1) end e))
