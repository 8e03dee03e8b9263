-- The ways through `seen_at`, and what is so of an entry that is seen. Assumes nothing.
use Prim.Native.Nat.{ℕ, ◌+◌, ◌-◌, ◌/◌, ◌%◌, ◌≤◌, ◌<◌}
use native.Mathlib.Omega.{arith}
use mathlib.Core.Path.{◌≡◌, refl, ap, sym, ◌∙◌}
use mathlib.Core.Bool.{Bool, true, false}
use mathlib.Core.List.{List}
use lib.Dec.{eqb, ltb, leb}
use lib.ListN.{length}
use borrow.Author.Tests.{eq-eqb, ne_eqb, eqb-true, eqb-false, lt-ltb, le-ltb, ltb-true, ltb-false, le-leb, lt-leb, leb-true, leb-false}
use Rattle.ground.specs.Basics.{pick, part}
use Rattle.ground.specs.Scan.{place_from}
use Rattle.mode.specs.Mode.{is_tree}
use Rattle.mode_code.specs.Code.{code_at, quick_at}
use Rattle.mode_code.proofs.Laws.{quick_is-code, code_inside}
use Rattle.rules.specs.Rules.{bare_number}
use Rattle.arriving.specs.Feed.{most_held}
use Rattle.piece_seen.specs.Whole.{seen_to, seen_by, seen_at}
use Rattle.piece_seen.specs.declared.Seen.{Seen}
use Rattle.std.specs.Prelude.{Option, None, Some}

module _ (s : List ℕ) (i h code : ℕ) (q : code ≡ quick_at s i) where
  pub no_code : code ≡ 0 → None ≡ seen_at s i h
  unfolding seen_at
  no_code z = rw (eq-eqb (quick_at s i) 0 (sym q ∙ z))

  module _ (n : code ≡ 0 → ⊥) where
    code_is : code_at s i ≡ code
    code_is = quick_is-code s i (λ z. n (q ∙ z)) ∙ sym q

    pub code_fits : (1 ≤ code % 16) × (i + code % 16 ≤ length s) × (code / 16 < 65536) × (code < 1048576)
    code_fits = rw code_is at (code_inside s i (λ z. n (sym code_is ∙ z)))

    by_code : seen_at s i h ≡ seen_by s i h code
    unfolding seen_at
    by_code = ap (λ (v : Bool). pick v None (seen_by s i h (quick_at s i))) (ne_eqb (quick_at s i) 0 (λ z. n (q ∙ z))) ∙ ap (seen_by s i h) (sym q)

    module _ (end : ℕ) (e : end ≡ place_from 0 s (i + code % 16)) where
      by_end : seen_at s i h ≡ seen_to s h (i + code % 16) (code / 16) end
      by_end = by_code ∙ ap (seen_to s h (i + code % 16) (code / 16)) (sym e)

      pub no-id : length s - end ≤ h → None ≡ seen_at s i h
      no-id w = sym (by_end ∙ rw (le-leb (length s - end) h w))

      module _ (w : h < length s - end) where
        pub too_long : most_held < end - (i + code % 16) → None ≡ seen_at s i h
        too_long l = sym (by_end ∙ rw (lt-leb (length s - end) h w, lt-ltb most_held (end - (i + code % 16)) l))

        module _ (l : end - (i + code % 16) ≤ most_held) (number : ℕ) (u : number ≡ bare_number (part (i + code % 16) end s)) where
          pub ill_named : (number ≡ 0 → ⊥) → None ≡ seen_at s i h
          ill_named z =
              sym (by_end ∙ rw (lt-leb (length s - end) h w, le-ltb most_held (end - (i + code % 16)) l, ← u, ne_eqb number 0 z))

          pub well_named : number ≡ 0 → (folder : Bool) → folder ≡ is_tree (code / 16)
              → Some (record { start = i + code % 16; end = end; folder = folder }) ≡ seen_at s i h
          well_named z folder f =
              sym (by_end ∙ rw (lt-leb (length s - end) h w, le-ltb most_held (end - (i + code % 16)) l, ← u, eq-eqb number 0 z, f))

-- an entry that is seen: its mode is one of the five, its name ends at a NUL and can be held, its id is there, and nothing is said of its name
pub record Lies (s : List ℕ) (i h : ℕ) (e : Seen) : Type 0 where
  pub code : quick_at s i ≡ 0 → ⊥
  pub starts : e.start ≡ i + quick_at s i % 16
  pub sort : e.folder ≡ is_tree (quick_at s i / 16)
  pub ends : e.end ≡ place_from 0 s e.start
  pub whole : h < length s - e.end
  pub small : e.end - e.start ≤ most_held
  pub named : bare_number (part e.start e.end s) ≡ 0

pub lies : (s : List ℕ) (i h : ℕ) (e : Seen) → Some e ≡ seen_at s i h → Lies s i h e
lies s i h e q = first (eqb code· 0) refl
  where
    code· : ℕ
    code· = quick_at s i

    start· : ℕ
    start· = i + quick_at s i % 16

    end· : ℕ
    end· = place_from 0 s (i + quick_at s i % 16)

    none : None ≡ seen_at s i h → ⊥
    none z = let y : ◌≡◌ {A = Option Seen} None (Some e) = z ∙ sym q in absurd (cc)

    fourth : (code· ≡ 0 → ⊥) → h < length s - end· → end· - start· ≤ most_held → (v : Bool) → eqb (bare_number (part start· end· s)) 0 ≡ v → Lies s i h e
    fourth c w l true z =
        let named = eqb-true (bare_number (part start· end· s)) 0 z in
        let y : ◌≡◌ {A = Option Seen} (Some e) (Some (record { start = start·; end = end·; folder = is_tree (code· / 16) }))
        = q ∙ sym (well_named s i h code· refl c end· refl w l _ refl named (is_tree (code· / 16)) refl) in
        let x : e ≡ record { start = start·; end = end·; folder = is_tree (code· / 16) } = cc in
        rw x
        (record { code = c; starts = refl; sort = refl; ends = refl; whole = w; small = l; named = named })
    fourth c w l false z = absurd (none (ill_named s i h code· refl c end· refl w l _ refl (eqb-false _ 0 z)))

    third : (code· ≡ 0 → ⊥) → h < length s - end· → (v : Bool) → ltb most_held (end· - start·) ≡ v → Lies s i h e
    third c w true z = absurd (none (too_long s i h code· refl c end· refl w (ltb-true most_held (end· - start·) z)))
    third c w false z = fourth c w (ltb-false most_held (end· - start·) z) (eqb (bare_number (part start· end· s)) 0) refl

    second : (code· ≡ 0 → ⊥) → (v : Bool) → leb (length s - end·) h ≡ v → Lies s i h e
    second c true z = absurd (none (no-id s i h code· refl c end· refl (leb-true (length s - end·) h z)))
    second c false z = third c (leb-false (length s - end·) h z) (ltb most_held (end· - start·)) refl

    first : (v : Bool) → eqb code· 0 ≡ v → Lies s i h e
    first true z = absurd (none (no_code s i h code· refl (eqb-true code· 0 z)))
    first false z = second (eqb-false code· 0 z) (leb (length s - end·) h) refl

-- it lies inside
pub lies_within : (s : List ℕ) (i h : ℕ) (e : Seen) → Lies s i h e → (e.start ≤ e.end) × (e.end ≤ length s) × (e.end + 1 + h ≤ length s)
unfolding place_from
lies_within s i h e o = (omega (arith, o.ends), omega (arith, o.whole), omega (arith, o.whole))
