-- Where a listing stops: its entries begin inside the object, and what refuses one points at its first byte. Assumes nothing.
use Prim.Native.Nat.{ℕ, zero, suc, ◌+◌, ◌-◌, ◌≤◌, ◌<◌}
use native.Mathlib.Omega.{arith}
use mathlib.Core.Path.{◌≡◌, refl}
use mathlib.Core.Bool.{Bool, true, false}
use mathlib.Core.List.{List, [], ◌∷◌}
use lib.Dec.{eqb}
use lib.ListN.{length, drop, length-drop}
use borrow.Author.Tests.{eqb-false}
use Rattle.ground.specs.Basics.{pick}
use Rattle.ground.specs.Verdict.{verdict, broken, is_part}
use Rattle.ground.specs.declared.Verdict.{Verdict}
use Rattle.entry.specs.Entry.{Entry, entry_of}
use Rattle.entry.specs.Decode.{decode}
use Rattle.entry.proofs.Laws.{decode-parts, decode_three}
use Rattle.reading.specs.Listing.{Listing, done, stop, entry, follow, plain}
use Rattle.rules.specs.Rules.{Rules, judge}
use Rattle.strict.specs.Strict.{text_of, cut}
use Rattle.reading.proofs.Laws.{Stops}
use Rattle.entry.specs.declared.Cursor.{Cursor}
use Rattle.entry.specs.declared.EntryRecord.{EntryRecord}
use Rattle.std.specs.Prelude.{Err, Ok, Result}

-- each entry begins inside so many bytes, and what the listing stops with has the property P
abbrev pub Placed : (Verdict → Type 0) → ℕ → Listing → Type 0
Placed P n done = Unit {0}
Placed P n (stop v) = P v
Placed P n (entry at e l) = (at < n) × Placed P n l

pub placed_stops : (P : Verdict → Type 0) (n : ℕ) (l : Listing) → Placed P n l → Stops P l
placed_stops P n done p = tt
placed_stops P n (stop v) p = p
placed_stops P n (entry at e l) p = placed_stops P n l p.1

-- a plain listing of bytes that end at a place stops with 2, or with 3 before that place
pub plain-placed : (P : Verdict → Type 0) (n : ℕ) → P (verdict 2 0) → ((at k : ℕ) → at < n → is_part k ≡ true → P (broken at k)) → (h left at : ℕ) (b : List ℕ)
    → at + length b ≤ n → Placed P n (plain h left at b)
unfolding plain follow
plain-placed P n two three h zero at [] l = tt
plain-placed P n two three h zero at (x ∷ xs) l = two
plain-placed P n two three h (suc left) at [] l = tt
plain-placed P n two three h (suc left) at (x ∷ xs) l = go (plain-placed P n two three h left) (x ∷ xs) l (omega arith) (decode h at (x ∷ xs)) refl
  where
    go : ((i : ℕ) (b : List ℕ) → i + length b ≤ n → Placed P n (plain h left i b)) → (b : List ℕ) → at + length b ≤ n → at < n → (d : Result (EntryRecord × Cursor) Verdict)
        → decode h at b ≡ d
        → Placed P n (follow (plain h left) at b d)
    go ih b l m (Ok (e, next)) q =
        let p = decode-parts h at b e next q in
        (m, ih next.at (drop (next.at - at) b) (omega (arith, p.past, p.inside, length-drop p.size b, length-drop (next.at - at) b)))
    go ih b l m (Err v) q = let w = decode_three h at b v q in rw w.1 (three at w.0 m w.2)

-- a listing cut by rules stops so too, or with what they say where an entry begins
pub cut-placed : (P : Verdict → Type 0) (n : ℕ) (R : Rules)
    → ((before : List Entry) (text : List ℕ) (e : Entry) (at : ℕ) → at < n → (judge R before text e ≡ 0 → ⊥) → P (verdict (judge R before text e) at))
    → (h : ℕ) (s : List ℕ) (before : List Entry) (l : Listing) → Placed P n l → Stops P (cut R h s before l)
unfolding cut
cut-placed P n R said h s before done p = tt
cut-placed P n R said h s before (stop v) p = p
cut-placed P n R said h s before (entry at e l) p = go (cut-placed P n R said h s (entry_of h s e ∷ before) l p.1) (eqb no 0) refl
  where
    no : ℕ
    no = judge R before (text_of s at e) (entry_of h s e)

    go : Stops P (cut R h s (entry_of h s e ∷ before) l) → (v : Bool) → eqb no 0 ≡ v
        → Stops P (pick v (entry at e (cut R h s (entry_of h s e ∷ before) l)) (stop (verdict no at)))
    go ih true q = ih
    go ih false q = said before (text_of s at e) (entry_of h s e) at p.0 (eqb-false no 0 q)
