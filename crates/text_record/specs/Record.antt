-- One record of text at the front of some bytes: the entry that it says, or the number that refuses it (docs/FORMAT.md, "Text"). Assumes nothing.
use Rattle.std.specs.Prelude.{ℕ, ◌+◌, ◌-◌, ◌*◌, Bool, ◌&&◌, List, [], ◌∷◌, eqb, ltb, length, get_or, take, drop}
use Rattle.ground.specs.Basics.{pick, part}
use Rattle.ground.specs.Scan.{count_to}
use Rattle.mode_table.specs.declared.Written.{Written}
use Rattle.entry.specs.Entry.{Entry}
use Rattle.rules.specs.Rules.{is_text, modes_of, bare_number}
use Rattle.id_of_hex.specs.Id.{bytes_of}
use Rattle.tree_text.specs.Text.{front_text}
use Rattle.text_form.specs.Form.{begins, name_from}

-- the mode of the first row with whose digits and word the bytes begin; 0 where there is none
unfoldable pub front_mode : List Written → List ℕ → ℕ
front_mode [] b = 0
front_mode (r ∷ rs) b = pick (begins (front_text r.mode) b) r.mode (front_mode rs b)

-- six octal digits as a tree's mode text: without a first `0`
unfoldable pub pared : List ℕ → List ℕ
pared t = pick (eqb (get_or t 0 0) 48) (drop 1 t) t

-- the name is all behind the tab, up to the NUL
unfoldable pub name_end : ℕ → List ℕ → ℕ
name_end h b = name_from h b + count_to 0 (drop (name_from h b) b)

unfoldable pub name_in : ℕ → List ℕ → List ℕ
name_in h b = part (name_from h b) (name_end h b) b

-- the id that the 2h digits before the tab say
unfoldable pub id_in : ℕ → List ℕ → List ℕ
id_in h b = bytes_of (part (name_from h b - 1 - 2 * h) (name_from h b - 1) b)

-- a record stands at the front: what is before its name has the form, and a NUL ends it
unfoldable pub formed : ℕ → List ℕ → Bool
formed h b = ltb 0 (name_from h b) && ltb (name_end h b) (length b)

-- what is said of digits, word and name: 5 for a mode that rule set k does not have; 20 for a word that disagrees with the mode; 6 or 18 for the name
unfoldable pub said_number : ℕ → List ℕ → List ℕ → ℕ
said_number k b name = pick (is_text (modes_of k) (pared (take 6 b))) (pick (eqb (front_mode (modes_of k) b) 0) 20 (bare_number name)) 5

-- 20 where no record stands there; else what is said of it, and 0 where that is nothing
unfoldable pub text_number : ℕ → ℕ → List ℕ → ℕ
text_number k h b = pick (formed h b) (said_number k b (name_in h b)) 20

-- the entry that it says, and how many bytes it has
unfoldable pub entry_in : ℕ → ℕ → List ℕ → Entry
entry_in k h b = record { mode = front_mode (modes_of k) b; name = name_in h b; id = id_in h b }

unfoldable pub size_in : ℕ → List ℕ → ℕ
size_in h b = name_end h b + 1
