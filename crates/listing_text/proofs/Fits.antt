-- How long a text can be: `text-fits`. Assumes nothing.
use Prim.Native.Nat.{ℕ, zero, suc, ◌+◌, ◌-◌, ◌*◌, ◌≤◌}
use native.Mathlib.Omega.{arith}
use mathlib.Core.Path.{◌≡◌, refl, ap}
use mathlib.Core.Bool.{Bool, true, false}
use mathlib.Core.List.{List, [], ◌∷◌}
use lib.Dec.{leb}
use lib.ListN.{length, drop, length-append, length-take, length-drop}
use borrow.Author.Tests.{leb-true}
use Rattle.ground.specs.Basics.{pick}
use Rattle.ground.specs.Scan.{count_to}
use Rattle.ground.specs.Verdict.{verdict, id_length}
use Rattle.ground.proofs.Laws.{id-is, id_small}
use Rattle.ground.specs.declared.Verdict.{Verdict}
use Rattle.mode.proofs.Laws.{read_next}
use Rattle.entry.specs.Record.{name_of, id_of}
use Rattle.entry.specs.Decode.{decode}
use Rattle.entry.specs.declared.EntryRecord.{EntryRecord}
use Rattle.entry.proofs.Laws.{decode-parts}
use Rattle.reading.specs.Listing.{follow, plain, listing, records_in, tally}
use Rattle.loose_header.proofs.Digits.{decimal-most}
use Rattle.hex_of_id.proofs.Laws.{hex-length}
use Rattle.listing_text.specs.Text.{line, lines, head, refusal, longest, told_of, text_of, text}
use Rattle.listing_text.proofs.Laws.{mode-most, id-le}
use Rattle.entry.specs.declared.Cursor.{Cursor}
use Rattle.std.specs.Prelude.{Err, Ok, Result}

name-long : (s : List ℕ) (e : EntryRecord) → length (name_of s e) ≤ e.name_end - e.name_start
unfolding name_of
name-long s e = simp (length-take, length-drop) (omega arith)

line-long : (h : ℕ) (s : List ℕ) (e : EntryRecord) → length (line h s e) ≤ 16 + h * 2 + (e.name_end - e.name_start)
unfolding line
line-long h s e = simp length-append (omega (arith, mode-most e.mode, hex-length (id_of h s e), id-le h s e, name-long s e))

-- an entry's line is at most three times as long as the entry
lines_long : (h : ℕ) → 20 ≤ h → (s : List ℕ) (left at : ℕ) (b : List ℕ) (k n : ℕ) → tally k (plain h left at b) ≡ Ok n
    → length (lines h s (records_in (plain h left at b))) ≤ 3 * length b
unfolding plain follow tally records_in lines
lines_long h w s zero at [] k n t = omega arith
lines_long h w s zero at (x ∷ xs) k n t = let z : ◌≡◌ {A = ℕ} 0 1 = cc in absurd (omega arith)
lines_long h w s (suc left) at [] k n t = omega arith
lines_long h w s (suc left) at (x ∷ xs) k n t = go (lines_long h w s left) (decode h at (x ∷ xs)) refl t
  where
    go : ((i : ℕ) (b : List ℕ) (j m : ℕ) → tally j (plain h left i b) ≡ Ok m → length (lines h s (records_in (plain h left i b))) ≤ 3 * length b)
        → (d : Result (EntryRecord × Cursor) Verdict) → decode h at (x ∷ xs) ≡ d → tally k (follow (plain h left) at (x ∷ xs) d) ≡ Ok n
        → length (lines h s (records_in (follow (plain h left) at (x ∷ xs) d))) ≤ 3 * length (x ∷ xs)
    go ih (Ok (e, next)) q t =
        let p = decode-parts h at (x ∷ xs) e next q in
        let r = read_next (x ∷ xs) e.mode p.size p.reads in
        let from : e.name_start ≡ at + p.size = ap (λ (y : EntryRecord). y.name_start) p.laid in
        let to : e.name_end ≡ at + p.size + count_to 0 (drop p.size (x ∷ xs)) = ap (λ (y : EntryRecord). y.name_end) p.laid in
        let rest : List ℕ = drop (next.at - at) (x ∷ xs) in
        let y = ih next.at rest (k + 1) n t in
        let l = length-append (line h s e) (lines h s (records_in (plain h left next.at rest))) in
        omega (arith, r, y, w, l, from, to, line-long h s e, p.past, p.inside, length-drop p.size (x ∷ xs), length-drop (next.at - at) (x ∷ xs))
    go ih (Err v) q t = let z : ◌≡◌ {A = ℕ} 0 1 = cc in absurd (omega arith)

refusal-long : (v : Verdict) → length (refusal v) ≤ 64
unfolding refusal
refusal-long v = simp length-append (omega (arith, decimal-most v.number, decimal-most v.place))

head-long : (n : ℕ) → length (head n) ≤ 64
unfolding head
head-long n = simp length-append (omega (arith, decimal-most n))

-- no text is longer than three times the longest object and a line: so none is cut in an output of 196,672 bytes
pub text-fits : (h : ℕ) (s : List ℕ) → length (text h s) ≤ 3 * longest + 64
unfolding text text_of told_of
text-fits h s = any (id_length h) refl
  where
    told : 20 ≤ h → length s ≤ longest → (k : Result ℕ Verdict) → tally 0 (listing h s) ≡ k
        → length (told_of h s (records_in (listing h s)) k) ≤ 3 * longest + 64
    told w p (Ok n) t =
        let y = lines_long h w s _ 0 s 0 n t in
        let l = length-append (head n) (lines h s (records_in (listing h s))) in
        omega (arith, y, l, head-long n)
    told w p (Err v) t = omega (arith, refusal-long v)

    go : 20 ≤ h → (b : Bool) → leb (length s) longest ≡ b
        → length (pick b (told_of h s (records_in (listing h s)) (tally 0 (listing h s))) (refusal (verdict 2 0))) ≤ 3 * longest + 64
    go w true e = told w (leb-true _ _ e) (tally 0 (listing h s)) refl
    go w false e = omega (arith, refusal-long (verdict 2 0))

    any : (b : Bool) → id_length h ≡ b → length (pick b (text_of h s) (refusal (verdict 1 0))) ≤ 3 * longest + 64
    any true e = go (id_small h (id-is h e)).0 (leb (length s) longest) refl
    any false e = omega (arith, refusal-long (verdict 1 0))
