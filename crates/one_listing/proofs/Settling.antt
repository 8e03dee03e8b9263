-- A sound listing is settled by its set of entries, since the order is strict. Assumes nothing.
use Prim.Native.Nat.{ℕ}
use mathlib.Core.Path.{◌≡◌, refl, sym, subst, ◌∙◌}
use mathlib.Core.List.Memᴰ
use mathlib.Core.List.{List, [], ◌∷◌, Memᴰ}
use mathlib.Core.Logic.{◌⊎◌, inl, inr}
use Rattle.mode.specs.Mode.{is_tree}
use Rattle.order.proofs.Laws.{order_trans, order_irreflexive}
use Rattle.entry.specs.Entry.{Entry}
use Rattle.rules.specs.Rules.{Rules}
use Rattle.one_listing.specs.Sound.{Sound, Before}
use Rattle.one_listing.specs.Lawful.{RulesOk}

before_trans : (a b c : Entry) → Before a b → Before b c → Before a c
before_trans a b c = order_trans a.name (is_tree a.mode) b.name (is_tree b.mode) c.name (is_tree c.mode)

before_never : (a : Entry) → Before a a → ⊥
before_never a = order_irreflexive a.name (is_tree a.mode)

module _ (R : Rules) (ok : RulesOk R) (h : ℕ) where
  -- every entry of a listing stands after the one before it
  pub after_all : (es : List Entry) (p : Entry) (ps : List Entry) → Sound R h (p ∷ ps) es → (x : Entry) → Memᴰ x es → Before p x
  after_all [] p ps s x m = absurd (Memᴰ.not-nil m)
  after_all (e ∷ es) p ps s x m = go (after_all es e (p ∷ ps) s.1 x) (Memᴰ.cases_cons m)
    where
      pe : Before p e
      pe = ok.after p ps e s.0.placed

      go : (Memᴰ x es → Before e x) → (x ≡ e) ⊎ Memᴰ x es → Before p x
      go ih (inl q) = subst (λ (y : Entry). Before p y) (sym q) pe
      go ih (inr i) = before_trans p e x pe (ih i)

  -- the first entries agree: each is in the other listing, and neither can stand after the other
  heads : (a b : Entry) (u v before early : List Entry) → Sound R h before (a ∷ u) → Sound R h early (b ∷ v)
      → (a ≡ b) ⊎ Memᴰ a v → (b ≡ a) ⊎ Memᴰ b u → a ≡ b
  heads a b u v before early s t (inl p) q = p
  heads a b u v before early s t (inr m) (inl q) = sym q
  heads a b u v before early s t (inr m) (inr n) = absurd (before_never a (before_trans a b a (after_all u a before s.1 b n) (after_all v b early t.1 a m)))

  -- an entry of the rest is in the other rest
  rests : (a b : Entry) (u v before : List Entry) → Sound R h before (a ∷ u) → a ≡ b
      → ((x : Entry) → Memᴰ x (a ∷ u) → Memᴰ x (b ∷ v)) → (x : Entry) → Memᴰ x u → Memᴰ x v
  rests a b u v before s e f x m = go (Memᴰ.cases_cons (f x (Memᴰ.tail m)))
    where
      go : (x ≡ b) ⊎ Memᴰ x v → Memᴰ x v
      go (inl q) = absurd (before_never a (subst (λ (y : Entry). Before a y) (q ∙ sym e) (after_all u a before s.1 x m)))
      go (inr i) = i

  pub set_settles : (es fs before early : List Entry) → Sound R h before es → Sound R h early fs
      → ((x : Entry) → Memᴰ x es → Memᴰ x fs) → ((x : Entry) → Memᴰ x fs → Memᴰ x es) → es ≡ fs
  set_settles [] [] before early s t f g = refl
  set_settles [] (b ∷ v) before early s t f g = absurd (Memᴰ.not-nil (g b (Memᴰ.head refl)))
  set_settles (a ∷ u) [] before early s t f g = absurd (Memᴰ.not-nil (f a (Memᴰ.head refl)))
  set_settles (a ∷ u) (b ∷ v) before early s t f g =
      let e : a ≡ b = heads a b u v before early s t (Memᴰ.cases_cons (f a (Memᴰ.head refl))) (Memᴰ.cases_cons (g b (Memᴰ.head refl))) in
      let r : u ≡ v = set_settles u v (a ∷ before) (b ∷ early) s.1 t.1 (rests a b u v before s e f) (rests b a v u early t (sym e) g) in
      cc
