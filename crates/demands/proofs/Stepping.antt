-- Stepping a cursor from 0 meets what the plain reader reads. Assumes nothing.
use Prim.Native.Nat.{ℕ, zero, suc, ◌+◌, ◌-◌, ◌<◌}
use native.Mathlib.Omega.{arith}
use mathlib.Core.Path.{◌≡◌, refl, sym, ap, subst, ◌∙◌}
use mathlib.Core.Bool.{Bool, true, false, false≢true}
use mathlib.Core.List.{List, [], ◌∷◌}
use mathlib.Core.Logic.{◌⊎◌, ⊎_elim}
use lib.Dec.{leb}
use lib.ListN.{length, take, drop, length-drop}
use lib.Seq.{drop-drop}
use Rattle.ground.specs.Basics.{pick}
use Rattle.ground.specs.Verdict.{verdict, fine, counted, refused, gate_of, stored, most_records}
use Rattle.ground.specs.declared.Verdict.{Verdict}
use Rattle.ground.specs.declared.Answer.{Answer}
use Rattle.ground.proofs.Laws.{gate_fine, gate_open, gate_shut}
use Rattle.entry.specs.Record.{many, records_of}
use Rattle.entry.specs.Decode.{decode, step_of}
use Rattle.entry.specs.declared.EntryRecord.{EntryRecord}
use Rattle.entry.specs.declared.Cursor.{Cursor}
use Rattle.entry.specs.declared.Step.{Step}
use Rattle.entry.proofs.Laws.{decode-inside, step_end, step-whole, step-broken}
use Rattle.reading.specs.Listing.{Listing, done, stop, entry, follow, plain, listing, records_in, flats, tally}
use Rattle.reading.specs.Whole.{in_room, answer_of, read_answer, read_records}
use Rattle.reading.proofs.Laws.{Refusal, tally-length, tally_stops, plain-refuses}
use Rattle.one_listing.proofs.Theorem.{stored-records}
use Rattle.demands.specs.Demand2.{Steps, ReadOut}
use Rattle.std.specs.Prelude.{Err, Ok, Result, ⊤}

-- what a listing ends with
abbrev end_of : Listing → Verdict
end_of done = fine
end_of (stop v) = v
end_of (entry at e l) = end_of l

tally-done : (n : ℕ) (l : Listing) (m : ℕ) → tally n l ≡ Ok m → end_of l ≡ fine
unfolding tally
tally-done n done m t = refl
tally-done n (stop v) m t = let z : ◌≡◌ {A = ℕ} 0 1 = cc in absurd (omega arith)
tally-done n (entry at e l) m t = tally-done (n + 1) l m t

tally_stopped : (n : ℕ) (l : Listing) (v : Verdict) → tally n l ≡ Err v → end_of l ≡ v
unfolding tally
tally_stopped n done v t = let z : ◌≡◌ {A = ℕ} 0 1 = cc in absurd (omega arith)
tally_stopped n (stop w) v t = cc
tally_stopped n (entry at e l) v t = tally_stopped (n + 1) l v t

-- ---- the steps

module _ (h : ℕ) (s : List ℕ) (g : gate_of h (length s) 0 ≡ Ok tt) where
  abbrev from : ℕ → Cursor
  from at = record { at = at }

  nothing_left : (at : ℕ) → drop at s ≡ [] → Steps h s (from at) [] fine
  nothing_left at q =
      let w = step_end h s (from at) g (omega (arith, length-drop at s, ap length q)) in
      (ap (λ (x : Step). x.found) w, ap (λ (x : Step). x.verdict) w)

  plain-steps : (left at : ℕ) (b : List ℕ) → drop at s ≡ b → ((end_of (plain h left at b)).number ≡ 2 → ⊥)
      → Steps h s (from at) (records_in (plain h left at b)) (end_of (plain h left at b))
  unfolding plain follow records_in
  plain-steps zero at [] q f = nothing_left at q
  plain-steps zero at (x ∷ xs) q f = absurd (f refl)
  plain-steps (suc left) at [] q f = nothing_left at q
  plain-steps (suc left) at (x ∷ xs) q f = go (plain-steps left) (x ∷ xs) q (omega (arith, length-drop at s, ap length q)) (decode h at (x ∷ xs)) refl f
    where
      go : ((i : ℕ) (c : List ℕ) → drop i s ≡ c → ((end_of (plain h left i c)).number ≡ 2 → ⊥)
          → Steps h s (from i) (records_in (plain h left i c)) (end_of (plain h left i c)))
          → (b : List ℕ) → drop at s ≡ b → at < length s → (d : Result (EntryRecord × Cursor) Verdict) → decode h at b ≡ d → ((end_of (follow (plain h left) at b d)).number ≡ 2 → ⊥)
          → Steps h s (from at) (records_in (follow (plain h left) at b d)) (end_of (follow (plain h left) at b d))
      go ih b q l (Ok (e, next)) d f =
          let k : decode h at (drop at s) ≡ Ok (e, next) = ap (decode h at) q ∙ d in
          let w = step-whole h s (from at) e next g l k in
          let i = decode-inside h s at e next k in
          let z : at + (next.at - at) ≡ next.at = omega arith in
          let r : drop next.at s ≡ drop (next.at - at) b
          = sym (ap (drop (next.at - at)) (sym q) ∙ drop-drop (next.at - at) at s ∙ ap (λ (x : ℕ). drop x s) z) in
          let m = plain h left next.at (drop (next.at - at) b) in (
            ap (λ (x : Step). x.found) w,
            ap (λ (x : Step). x.entry) w,
            subst (λ (c : Cursor). Steps h s c (records_in m) (end_of m)) (sym (ap (λ (x : Step). x.next) w)) (ih next.at (drop (next.at - at) b) r f),
          )
      go ih b q l (Err v) d f =
          let w = step-broken h s (from at) v g l (ap (decode h at) q ∙ d) in
          (ap (λ (x : Step). x.found) w, ap (λ (x : Step). x.verdict) w)

-- stepping meets one thing
steps-once : (h : ℕ) (s : List ℕ) (c : Cursor) (es fs : List EntryRecord) (v w : Verdict) → Steps h s c es v → Steps h s c fs w → (es ≡ fs) × (v ≡ w)
steps-once h s c [] [] v w p q = (refl, sym p.1 ∙ q.1)
steps-once h s c [] (f ∷ fs) v w p q = absurd (false≢true (sym p.0 ∙ q.0))
steps-once h s c (e ∷ es) [] v w p q = absurd (false≢true (sym q.0 ∙ p.0))
steps-once h s c (e ∷ es) (f ∷ fs) v w p q =
    let r = steps-once h s (step_of h s c).next es fs v w p.2 q.2 in
    let a : e ≡ f = sym p.1 ∙ q.1 in
    let b : es ≡ fs = r.0 in
    (cc, r.1)

-- ---- a reading that came out

module _ (h : ℕ) (s lent : List ℕ) where
  abbrev l : Listing
  l = listing h s

  abbrev room : ℕ
  room = many (length lent)

  abbrev Out : Answer → Type 0
  Out a = (gate_of h (length s) 0 ≡ Ok tt) × (end_of l ≡ a.verdict) × (a.verdict.number ≡ 0 → take a.count (records_of (stored a.verdict (flats
      (records_in l)) lent)) ≡ records_in l)

  came-out : ReadOut h s lent → Out (read_answer h s l lent)
  unfolding answer_of
  came-out = start (gate_of h (length s) room) refl
    where
      Num : Answer → Type 0
      Num a = (a.verdict.number ≡ 0) ⊎ (a.verdict.number ≡ 3)

      last : gate_of h (length s) 0 ≡ Ok tt → (n : ℕ) → tally 0 l ≡ Ok n → (v : Bool) → Num (pick v (counted n) (refused (verdict 4 n)))
          → Out (pick v (counted n) (refused (verdict 4 n)))
      last g n t true r =
          let z : 0 + length (records_in l) ≡ length (records_in l) = omega arith in
          (g, tally-done 0 l n t, (λ e. stored-records l fine lent n refl (tally-length 0 l n t ∙ z)))
      last g n t false r = absurd (⊎_elim (λ e. omega arith) (λ e. omega arith) r)

      go : gate_of h (length s) 0 ≡ Ok tt → (k : Result ℕ Verdict) → tally 0 l ≡ k → Num (in_room room k) → Out (in_room room k)
      go g (Ok n) t r = last g n t (leb n room) r
      go g (Err v) t r = (g, tally_stopped 0 l v t, (λ z. absurd (tally_stops Refusal 0 l v (plain-refuses h s) t z)))

      start : (g : Result ⊤ Verdict) → gate_of h (length s) room ≡ g → Num (answer_of g l room) → Out (answer_of g l room)
      start (Ok tt) q r =
          let o = gate_open h (length s) room q in
          go (gate_fine h (length s) 0 o.0 o.1 (omega arith)) (tally 0 l) refl r
      start (Err v) q r = absurd (⊎_elim (λ e. never 1 e (omega arith) (omega arith) r) (λ e. never 2 e (omega arith) (omega arith) r) (gate_shut h
          (length s) room v q))
        where
          never : (k : ℕ) → v ≡ verdict k 0 → 0 < k → k < 3 → (v.number ≡ 0) ⊎ (v.number ≡ 3) → ⊥
          never k e l m r =
              let n : v.number ≡ k = ap (λ (x : Verdict). x.number) e in
              ⊎_elim (λ z. omega arith) (λ z. omega arith) r

  all_steps : ReadOut h s lent → Steps h s (record { at = 0 }) (records_in l) (end_of l)
  all_steps r = plain-steps h s (came-out r).0 most_records 0 s refl (λ z. two (ap (λ (x : Verdict). x.number) (sym (came-out r).1) ∙ z))
    where
      two : (read_answer h s l lent).verdict.number ≡ 2 → ⊥
      two z = ⊎_elim (λ e. omega arith) (λ e. omega arith) r

  pub stepping_ends : ReadOut h s lent → (es : List EntryRecord) × Steps h s (record { at = 0 }) es (read_answer h s l lent).verdict
  stepping_ends r = (records_in l, subst (Steps h s (record { at = 0 }) (records_in l)) (came-out r).1 (all_steps r))

  pub steps_are_reading : ReadOut h s lent → (es : List EntryRecord) (v : Verdict) → Steps h s (record { at = 0 }) es v
      → (v ≡ (read_answer h s l lent).verdict) × (v.number ≡ 0 → take (read_answer h s l lent).count (records_of (read_records h s l lent)) ≡ es)
  steps_are_reading r es v p =
      let o = came-out r in
      let c = steps-once h s (record { at = 0 }) es (records_in l) v (end_of l) p (all_steps r) in
      let e : v ≡ (read_answer h s l lent).verdict = c.1 ∙ o.1 in
      (e, (λ z. o.2 (sym (ap (λ (x : Verdict). x.number) e) ∙ z) ∙ sym c.0))
