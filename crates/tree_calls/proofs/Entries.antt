-- The first demand of entries. Assumes nothing.
use Prim.Native.Nat.{ℕ, ◌<◌}
use mathlib.Core.Path.{◌≡◌, refl}
use mathlib.Core.Bool.{true}
use mathlib.Core.List.{List, [], ◌∷◌}
use lib.ListN.{length, drop}
use Rattle.ground.specs.Verdict.{verdict, fine, broken, is_part}
use Rattle.entry.specs.Decode.{decode, no_entry, step_over, step_from, step_of}
use Rattle.entry.specs.declared.EntryRecord.{EntryRecord}
use Rattle.entry.specs.declared.Cursor.{Cursor}
use Rattle.entry.specs.declared.Step.{Step}
use Rattle.entry.proofs.Laws.{decode_three}
use Rattle.call.specs.Call.{none, ◌and◌, Fits}
use Rattle.tree_calls.specs.Calls.{of_step, of_decoded}
use Rattle.tree_calls.specs.First.{OfEntries}
use Rattle.call.proofs.Laws.{answers_once, Of, done, zero, wider, keeps-reads, keeps-stores, each_within, each_gate}
use Rattle.ground.specs.declared.Verdict.{Verdict}
use Rattle.std.specs.Prelude.{Err, Ok, Result}

-- every way to decode: an entry, or 3 at its first byte with one of the three parts
pub each_decoded : (Q : Result (EntryRecord × Cursor) Verdict → Type 0) → ((e : EntryRecord) (next : Cursor) → Q (Ok (e, next))) → (h at : ℕ) (b : List ℕ)
    → ((k : ℕ) → is_part k ≡ true → Q (Err (broken at k))) → Q (decode h at b)
each_decoded Q whole h at b three = go (decode h at b) refl
  where
    go : (d : Result (EntryRecord × Cursor) Verdict) → decode h at b ≡ d → Q d
    go (Ok (e, next)) q = whole e next
    go (Err v) q = let w = decode_three h at b v q in rw w.1 (three w.0 w.2)

-- every way to step: 1 or 2 with the cursor as given, nothing at the end, 3 inside the object with the cursor at the end, an entry
pub each_step : (Q : Step → Type 0) (h : ℕ) (s : List ℕ) (c : Cursor) → Q (no_entry (verdict 1 0) c) → Q (no_entry (verdict 2 0) c) → Q (no_entry fine c)
    → ((k : ℕ) → c.at < length s → is_part k ≡ true → Q (no_entry (broken c.at k) (record { at = length s })))
    → ((e : EntryRecord) (next : Cursor) → Q (record { verdict = fine; found = true; entry = e; next = next })) → Q (step_of h s c)
unfolding step_of step_from step_over
each_step Q h s c one two end three whole =
    each_gate (λ g. Q (step_from h s c g))
    (each_within Q (length s) c.at (no_entry fine c) (step_over (length s) (decode h c.at (drop c.at s))) (λ p. end)
    (λ l. each_decoded (λ d. Q (step_over (length s) d)) whole h c.at (drop c.at s) (λ k. three k l)))
    one two h (length s) 0

pub step_fits : (h : ℕ) (s : List ℕ) (c : Cursor) → Fits (0 ∷ 1 ∷ 2 ∷ 3 ∷ []) (of_step (step_of h s c))
step_fits h s c = each_step (Of _ of_step) h s c (zero refl refl) (zero refl refl) (done refl refl) (λ k l p. zero refl p) (λ e next. done refl refl)

pub of_entries : OfEntries
of_entries = record {
  cursor_step = keeps-reads _ (λ i. tt) _ _ _ (λ i o m. m) (λ i. wider (step_fits _ _ _) refl);
  cursor_decode = keeps-reads _ (λ i. tt) _ _ _ (λ i o m. m) (λ i. each_decoded (Of _ of_decoded) (λ e next. done refl refl) _ _ _ (λ k p. zero refl p));
  put_entry = keeps-stores _ (λ i. tt) _ _ _ _ (λ i o m. (refl, m));
  entry_questions = ((λ i. tt), answers_once _ _ (λ i o m. m)) and ((λ i. tt), answers_once _ _ (λ i o m. m)) and ((λ i. tt), answers_once _ _ (λ i o m. m)) and none;
}
