-- The laws of what an edit does with an entry, one for each way. Assumes nothing.
use Prim.Native.Nat.{ℕ, ◌≤◌}
use mathlib.Core.Bool.{Bool, true, false}
use mathlib.Core.Path.{◌≡◌, refl, ap, sym, ◌∙◌}
use mathlib.Core.List.{List}
use native.Mathlib.Omega.{arith}
use lib.ListN.{length, drop}
use Rattle.ground.specs.Basics.{part}
use Rattle.ground.specs.Scan.{same_bytes}
use Rattle.ground.specs.declared.Verdict.{Verdict}
use Rattle.order.specs.Order.{name_order}
use Rattle.entry.specs.Record.{name_of, folder_of}
use Rattle.entry.specs.Decode.{decode}
use Rattle.entry.specs.declared.EntryRecord.{EntryRecord}
use Rattle.entry.specs.declared.Cursor.{Cursor}
use Rattle.entry.proofs.Laws.{decode-inside}
use Rattle.edit_turn.specs.Turns.{fate_of, turned, turn_of, turn_at}
use Rattle.edit_turn.specs.declared.Fate.{Fate}
use Rattle.edit_turn.specs.declared.Fate.TheVariants.{Out, Over, Behind}
use Rattle.std.specs.Prelude.{Err, None, Ok, Option, Result, Some}
use Rattle.std.specs.declared.cmp.Ordering.{Ordering}
use Rattle.std.specs.declared.cmp.Ordering.TheVariants.{Equal, Greater, Less}

-- ---- what is done with an entry

module _ (own : List ℕ) (folder : Bool) (name : List ℕ) (tree placed : Bool) where
  pub fate_out : same_bytes own name ≡ true → Out ≡ fate_of own folder name tree placed
  unfolding fate_of
  fate_out z = sym (rw z)

  module _ (z : same_bytes own name ≡ false) where
    pub fate_placed : placed ≡ true → Over ≡ fate_of own folder name tree placed
    unfolding fate_of
    fate_placed p = sym (rw (z, p))

    module _ (p : placed ≡ false) (o : Ordering) (w : o ≡ name_order own folder name tree) where
      pub fate_below : o ≡ Less → Over ≡ fate_of own folder name tree placed
      unfolding fate_of
      fate_below k = sym (rw (z, p, ← w, k))

      pub fate_same : o ≡ Equal → Behind ≡ fate_of own folder name tree placed
      unfolding fate_of
      fate_same k = sym (rw (z, p, ← w, k))

      pub fate_above : o ≡ Greater → Behind ≡ fate_of own folder name tree placed
      unfolding fate_of
      fate_above k = sym (rw (z, p, ← w, k))

-- ---- what the turn answered

module _ (h : ℕ) (s : List ℕ) (at : ℕ) (name : List ℕ) (tree placed : Bool) (d : Result (EntryRecord × Cursor) Verdict) (q : d ≡ decode h at (drop at s)) where
  turn_is : turn_of s name tree placed d ≡ turn_at h s at name tree placed
  unfolding turn_at
  turn_is = rw (← q)

  pub turn-broken : (v : Verdict) → d ≡ Err v → None ≡ turn_at h s at name tree placed
  unfolding turn_of
  turn-broken v t = ap (turn_of s name tree placed) (sym t) ∙ turn_is

  module _ (e : EntryRecord) (next : Cursor) (t : d ≡ Ok (e, next)) where
    -- the name lies inside the object, and so does the place past the entry
    pub turn_inside : (e.name_start ≤ e.name_end) × (e.name_end ≤ length s) × (at ≤ next.at) × (next.at ≤ length s)
    turn_inside =
        let f = decode-inside h s at e next (sym q ∙ t) in
        (f.1, omega (arith, f.2, f.3, f.4), omega (arith, f.0, f.1, f.2, f.3), f.4)

    module _ (folder : Bool) (i : folder ≡ folder_of e) (f : Fate) (w : f ≡ fate_of (part e.name_start e.name_end s) folder name tree placed) where
      turned-is : turned next.at f ≡ turn_at h s at name tree placed
      unfolding turn_of name_of
      turned-is =
          ap (turned next.at) (w ∙ ap (λ (b : Bool). fate_of (part e.name_start e.name_end s) b name tree placed) i)
          ∙ ap (turn_of s name tree placed) (sym t) ∙ turn_is

      pub turn-out : f ≡ Out → Some (Out, next.at) ≡ turn_at h s at name tree placed
      turn-out z = ap (turned next.at) (sym z) ∙ turned-is

      pub turn-over : f ≡ Over → Some (Over, next.at) ≡ turn_at h s at name tree placed
      turn-over z = ap (turned next.at) (sym z) ∙ turned-is

      pub turn-behind : f ≡ Behind → Some (Behind, next.at) ≡ turn_at h s at name tree placed
      turn-behind z = ap (turned next.at) (sym z) ∙ turned-is

-- ---- where it leads

-- a turn leads on inside the object
abbrev pub Leads : ℕ → ℕ → Option (Fate × ℕ) → Type 0
Leads len at None = Unit {0}
Leads len at (Some (Out, next)) = (at ≤ next) × (next ≤ len)
Leads len at (Some (Over, next)) = (at ≤ next) × (next ≤ len)
Leads len at (Some (Behind, next)) = (at ≤ next) × (next ≤ len)

turned_leads : (len at next : ℕ) (f : Fate) → at ≤ next → next ≤ len → Leads len at (turned next f)
turned_leads len at next Out p q = (p, q)
turned_leads len at next Over p q = (p, q)
turned_leads len at next Behind p q = (p, q)

pub turn_leads : (h : ℕ) (s : List ℕ) (at : ℕ) (name : List ℕ) (tree placed : Bool) → Leads (length s) at (turn_at h s at name tree placed)
unfolding turn_at turn_of
turn_leads h s at name tree placed = go (decode h at (drop at s)) refl
  where
    go : (d : Result (EntryRecord × Cursor) Verdict) → decode h at (drop at s) ≡ d → Leads (length s) at (turn_of s name tree placed d)
    go (Err v) q = tt
    go (Ok (e, next)) q =
        let f = decode-inside h s at e next q in
        turned_leads (length s) at next.at (fate_of (name_of s e) (folder_of e) name tree placed) (omega (arith, f.0, f.1, f.2, f.3)) f.4
