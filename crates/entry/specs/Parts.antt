-- Which part of an entry cannot be read, in plain words (docs/FORMAT.md, "Entries"). `proofs/Parts.antt` proves it. Assumes nothing.
use Rattle.std.specs.Prelude.{ℕ, ◌≤◌, ◌<◌, ◌≡◌, Bool, true, ◌&&◌, List, [], ◌∷◌, ◌++◌, ◌⊎◌, ◌↔◌, length, drop, Err, None, Some}
use Rattle.ground.specs.Scan.{free_of}
use Rattle.ground.specs.Verdict.{broken}
use Rattle.ground.specs.declared.Verdict.{Verdict}
use Rattle.mode.specs.Read.{read_mode}
use Rattle.mode_text.specs.Read.{is_octal}
use Rattle.mode.specs.declared.EntryMode.{EntryMode}
use Rattle.entry.specs.Decode.{broken_at, decode, step_of}
use Rattle.entry.specs.declared.Cursor.{Cursor}

-- a mode can be read at the front of the bytes b, and c is what follows its text
pub record ModeThen (b c : List ℕ) : Type 0 where
  pub mode : EntryMode
  pub size : ℕ
  pub reads : read_mode b ≡ Some (mode, size)
  pub past : c ≡ drop size b

-- a mode can be read, and no NUL follows it
pub record NoNul (b : List ℕ) : Type 0 where
  pub rest : List ℕ
  pub ahead : ModeThen b rest
  pub nulless : free_of 0 rest ≡ true

-- a mode can be read, a NUL follows it, and past the first one fewer than h bytes are left
pub record CutId (h : ℕ) (b : List ℕ) : Type 0 where
  pub name : List ℕ
  pub left : List ℕ
  pub ahead : ModeThen b (name ++ 0 ∷ left)
  pub nulless : free_of 0 name ≡ true
  pub short : length left < h

-- each byte is an octal digit
abbrev pub all_octal : List ℕ → Bool
all_octal [] = true
all_octal (b ∷ bs) = is_octal b && all_octal bs

-- one of the three parts
abbrev pub OnePart : ℕ → Type 0
OnePart k = (k ≡ 1) ⊎ ((k ≡ 2) ⊎ (k ≡ 3))

pub record PartLaws : Type 0 where
  -- an entry that cannot be read is refused 3 at its first byte, with one of the three parts
  pub one_part : (h at : ℕ) (b : List ℕ) (v : Verdict) → decode h at b ≡ Err v → (k : ℕ) × (v ≡ broken at k) × OnePart k
  -- a step has one of the three parts exactly with number 3
  pub only_three : (h : ℕ) (s : List ℕ) (c : Cursor) → OnePart (step_of h s c).verdict.part ↔ ((step_of h s c).verdict.number ≡ 3)
  -- part 1 exactly where no mode can be read
  pub mode_part : (h at : ℕ) (b : List ℕ) → (decode h at b ≡ broken_at at 1) ↔ (read_mode b ≡ None)
  -- part 2 exactly where one can, and no NUL follows it
  pub nul_part : (h at : ℕ) (b : List ℕ) → (decode h at b ≡ broken_at at 2) ↔ NoNul b
  -- part 3 exactly where both are there, and fewer than h bytes are left
  pub id_part : (h at : ℕ) (b : List ℕ) → (decode h at b ≡ broken_at at 3) ↔ CutId h b
  -- one to seven octal digits and nothing else are part 2: their mode reads
  pub digits_alone : (h at : ℕ) (b : List ℕ) → 0 < length b → length b ≤ 7 → all_octal b ≡ true → decode h at b ≡ broken_at at 2
