-- What a step finds is an entry as Git lays it out. Assumes nothing.
use Prim.Native.Nat.{ℕ, zero, suc, ◌+◌, ◌-◌, ◌<◌}
use native.Mathlib.Decide.{dec_lt}
use native.Mathlib.Omega.{arith}
use mathlib.Core.Path.{◌≡◌, refl, sym, ap, subst, ◌∙◌}
use mathlib.Core.Bool.{true, false, false≢true}
use mathlib.Core.List.{List, [], ◌∷◌, ◌++◌}
use lib.ListN.{length, get_or, take, drop, length-drop}
use Rattle.ground.specs.Verdict.{gate_of}
use Rattle.ground.proofs.Laws.{free-count, gate_open, id_small}
use Rattle.mode.specs.Read.{text_len}
use Rattle.mode.proofs.Laws.{read-parts, rest_more}
use Rattle.mode_round.proofs.Space.{mode-space}
use Rattle.entry.specs.Record.{name_of, id_of}
use Rattle.entry.specs.Decode.{decode, step_of}
use Rattle.entry.specs.declared.EntryRecord.{EntryRecord}
use Rattle.entry.specs.declared.Cursor.{Cursor}
use Rattle.entry.specs.declared.Step.{Step}
use Rattle.entry.proofs.Laws.{decode-parts, step-shut, step_end, step-whole, step-broken}
use Rattle.one_listing.proofs.Cutting.{name-is, id-sized, laid_out, rest-there}
use Rattle.demands.specs.Demand2.{text_in, EntryForm}
use Rattle.demands.proofs.Octal.{by_places}
use Rattle.ground.specs.declared.Verdict.{Verdict}
use Rattle.std.specs.Prelude.{Err, Ok, Result, ⊤}

-- bytes up to a space, and the space
space-ends : (b : List ℕ) (k : ℕ) → k < length b → get_or b k 0 ≡ 32 → take (k + 1) b ≡ take k b ++ 32 ∷ []
space-ends [] k l e = absurd (omega arith)
space-ends (x ∷ xs) zero l e = ap (λ (y : ℕ). y ∷ []) e
space-ends (x ∷ xs) (suc k) l e =
    let z : suc k + 1 ≡ suc (k + 1) = omega arith in
    ap (λ (n : ℕ). take n (x ∷ xs)) z ∙ ap (λ (r : List ℕ). x ∷ r) (space-ends xs k (omega arith) e)

entry-form : (h : ℕ) (s : List ℕ) (at : ℕ) (e : EntryRecord) (next : Cursor) → 6 < h → decode h at (drop at s) ≡ Ok (e, next) → EntryForm h s at next.at e
entry-form h s at e next o d =
    let b : List ℕ = drop at s in
    let P = decode-parts h at b e next d in
    let big : 7 < length b = omega (arith, length-drop P.size b, P.inside) in
    let q = read-parts b e.mode P.size P.reads in
    let n : P.size ≡ text_len b + 1 = q.rest ∙ rest_more (text_len b) (length b) (omega (arith, q.few)) in
    let w = mode-space b e.mode P.size P.reads big in
    let z : P.size - 1 ≡ text_len b = omega arith in
    let k : get_or b (text_len b) 0 ≡ 32 = ap (λ (i : ℕ). get_or b i 0) (sym z) ∙ w.2 in
    let t : take P.size b ≡ text_in b ++ 32 ∷ [] = ap (λ (i : ℕ). take i b) n ∙ space-ends b (text_len b) (omega (arith, q.few)) k in
    let m = by_places b e.mode P.size P.reads in
    record {
      text = text_in b;
      laid = laid_out h s at b refl e next P (text_in b) t
          ∙ ap (λ (r : List ℕ). text_in b ++ 32 ∷ (name_of s e ++ 0 ∷ (id_of h s e ++ r))) (sym (rest-there h s at b refl e next P));
      digits = m.0;
      few = m.1;
      mode = m.2;
      nulless = rw (name-is h s at b refl e next P) (free-count 0 (drop P.size b));
      sized = id-sized h s at b refl e next P;
    }

pub found_is_entry : (h : ℕ) (s : List ℕ) (c : Cursor) → (step_of h s c).found ≡ true → EntryForm h s c.at (step_of h s c).next.at (step_of h s c).entry
found_is_entry h s c f = start (gate_of h (length s) 0) refl
  where
    Form : Step → Type 0
    Form x = EntryForm h s c.at x.next.at x.entry

    none : {A : Type 0} (x : Step) → step_of h s c ≡ x → x.found ≡ false → A
    none x w e = absurd (false≢true (sym e ∙ sym (ap (λ (y : Step). y.found) w) ∙ f))

    inside : gate_of h (length s) 0 ≡ Ok tt → c.at < length s → (d : Result (EntryRecord × Cursor) Verdict) → decode h c.at (drop c.at s) ≡ d → Form (step_of h s c)
    inside g l (Ok (e, next)) d =
        subst Form (sym (step-whole h s c e next g l d))
        (entry-form h s c.at e next (omega (arith, id_small h (gate_open h (length s) 0 g).0)) d)
    inside g l (Err v) d = none _ (step-broken h s c v g l d) refl

    start : (g : Result ⊤ Verdict) → gate_of h (length s) 0 ≡ g → Form (step_of h s c)
    start (Err v) g = none _ (step-shut h s c v g) refl
    start (Ok tt) g = elim (dec_lt c.at (length s)) [
      | yes l ↦ inside g l (decode h c.at (drop c.at s)) refl
      | no l ↦ none _ (step_end h s c g (omega arith)) refl
    ]
