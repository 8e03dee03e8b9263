-- Sound listings, for any rules, and in plain words for those of a rule set. Assumes nothing.
use Rattle.std.specs.Prelude.{ℕ, ◌≡◌, Bool, true, false, ◌||◌, ◌⊎◌, eqb, length}
use mathlib.Core.List.{List, [], ◌∷◌, map, Memᴰ}
use Rattle.ground.specs.Basics.{ascii}
use Rattle.ground.specs.Scan.{free_of}
use Rattle.mode.specs.Mode.{is_tree}
use Rattle.mode_table.specs.declared.Written.{Written}
use Rattle.order.specs.Order.{name_order}
use Rattle.entry.specs.Entry.{Entry}
use Rattle.rules.specs.Rules.{Rules, lower}
use Rattle.std.specs.declared.cmp.Ordering.TheVariants.{Less}

-- a mode of one of the rows
unfoldable pub is_mode : List Written → ℕ → Bool
is_mode [] m = false
is_mode (r ∷ rs) m = eqb r.mode m || is_mode rs m

-- an entry that rules permit after the ones before it, the nearest first, with an id of h bytes
pub record Permitted (R : Rules) (h : ℕ) (before : List Entry) (e : Entry) : Type 0 where
  pub known : is_mode R.modes e.mode ≡ true
  pub named : R.name_no e.name ≡ 0
  pub placed : R.after_no before e ≡ 0
  pub sized : length e.id ≡ h

-- a listing that rules permit, after the entries before it
abbrev pub Sound : Rules → ℕ → List Entry → List Entry → Type 0
Sound R h before [] = Unit {0}
Sound R h before (e ∷ es) = Permitted R h before e × Sound R h (e ∷ before) es

-- ---- in plain words

-- Git's five modes
abbrev pub Five : ℕ → Type 0
Five m = (m ≡ 0o40000) ⊎ ((m ≡ 0o100644) ⊎ ((m ≡ 0o100755) ⊎ ((m ≡ 0o120000) ⊎ (m ≡ 0o160000))))

-- by rule set k: one of the five modes, and by set 1 also that of early Git's group-writable files; a name that is not empty, has no NUL and no slash, and is
-- none of `.`, `..` and, in letters of either case, `.git`; an id of h bytes
pub record SoundEntry (k h : ℕ) (e : Entry) : Type 0 where
  pub mode : Five e.mode ⊎ ((k ≡ 1) × (e.mode ≡ 0o100664))
  pub some : e.name ≡ [] → ⊥
  pub nulless : free_of 0 e.name ≡ true
  pub slashless : free_of 47 e.name ≡ true
  pub no_dot : e.name ≡ ascii "." → ⊥
  pub no_dots : e.name ≡ ascii ".." → ⊥
  pub no_git : map lower e.name ≡ ascii ".git" → ⊥
  pub sized : length e.id ≡ h

-- one entry stands strictly before another in Git's order
abbrev pub Before : Entry → Entry → Type 0
Before a b = name_order a.name (is_tree a.mode) b.name (is_tree b.mode) ≡ Less

-- each entry stands strictly after the one before
abbrev pub Ascending : List Entry → Type 0
Ascending [] = Unit {0}
Ascending (a ∷ []) = Unit {0}
Ascending (a ∷ b ∷ es) = Before a b × Ascending (b ∷ es)

-- each entry is sound
abbrev pub EachSound : ℕ → ℕ → List Entry → Type 0
EachSound k h [] = Unit {0}
EachSound k h (e ∷ es) = SoundEntry k h e × EachSound k h es

-- no two entries, adjacent or far apart, have one name
abbrev pub Distinct : List Entry → Type 0
Distinct [] = Unit {0}
Distinct (a ∷ es) = ((b : Entry) → Memᴰ b es → a.name ≡ b.name → ⊥) × Distinct es

-- a sound listing by rule set k
abbrev pub SoundListing : ℕ → ℕ → List Entry → Type 0
SoundListing k h es = EachSound k h es × Ascending es × Distinct es
