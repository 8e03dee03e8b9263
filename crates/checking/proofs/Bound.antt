-- Past the bound: 2, or what the bytes up to it have settled. Assumes nothing.
use Prim.Native.Nat.{ℕ, zero, suc, ◌+◌, ◌-◌}
use native.Mathlib.Omega.{arith}
use mathlib.Core.Path.{◌≡◌, refl, ap, sym, ◌∙◌}
use mathlib.Core.Bool.{Bool, true, false}
use mathlib.Core.List.{List, [], ◌∷◌, ◌++◌}
use mathlib.Core.Logic.{◌⊎◌, inl, inr, ⊎_elim}
use lib.Dec.{eqb, ltb, leb}
use lib.ListN.{length, take, drop, length-append}
use lib.Seq.{take-append_seam}
use borrow.Author.Tests.{lt-ltb, le-ltb}
use Rattle.ground.specs.Basics.{pick}
use Rattle.ground.specs.Scan.{count_to}
use Rattle.ground.specs.Verdict.{verdict, refused, most_bytes, most_records}
use Rattle.ground.specs.declared.Answer.{Answer}
use Rattle.mode.specs.Read.{read_mode}
use Rattle.entry.specs.Entry.{Entry, entry_of}
use Rattle.entry.specs.Decode.{record_at, short_part}
use Rattle.entry.specs.declared.EntryRecord.{EntryRecord}
use Rattle.entry.specs.declared.Cursor.{Cursor}
use Rattle.rules.specs.Rules.{Rules, judge, git_rules}
use Rattle.rules.specs.Gate.{rule_gate}
use Rattle.reading.specs.Listing.{stop, entry, follow, tally}
use Rattle.strict.specs.Strict.{text_of, cut}
use Rattle.arriving.specs.Feed.{most_held}
use Rattle.checking.specs.Whole.{short_at, held_name, held_mode, arriving, told, check_in, or_shut, check_of}
use Rattle.ground.specs.declared.Verdict.{Verdict}
use Rattle.mode.specs.declared.EntryMode.{EntryMode}
use Rattle.std.specs.Prelude.{Err, None, Ok, Option, Result, Some, ⊤}

module _ (R : Rules) (h : ℕ) (s : List ℕ) where
  -- what is counted where more follows or not
  abbrev count· : Bool → ℕ → List Entry → ℕ → ℕ → List ℕ → Result ℕ Verdict
  count· more n seen left at b = tally n (cut R h s seen (arriving more h left at b))

  abbrev Settled : ℕ → Type 0
  Settled left = (n : ℕ) (seen : List Entry) (at : ℕ) (b : List ℕ)
      → (count· true n seen left at b ≡ Err (verdict 2 0)) ⊎ (count· true n seen left at b ≡ count· false n seen left at b)

  settled-none : Settled 0
  unfolding arriving tally cut
  settled-none n seen at [] = inl refl
  settled-none n seen at (x ∷ xs) = inl refl

  settled-more : (left : ℕ) → Settled left → Settled (suc left)
  unfolding arriving follow tally cut held_mode held_name
  settled-more left again n seen at [] = inl refl
  settled-more left again n seen at (x ∷ xs) = by_mode (read_mode (x ∷ xs))
    where
      by-rules : (e : EntryRecord) (next : Cursor) (v : Bool)
          → (tally n (pick v (entry at e (cut R h s (entry_of h s e ∷ seen) (arriving true h left next.at (drop (next.at - at) (x ∷ xs))))) (stop (verdict (judge R seen (text_of s at e) (entry_of h s e)) at)))
          ≡ Err (verdict 2 0))
          ⊎ (tally n (pick v (entry at e (cut R h s (entry_of h s e ∷ seen) (arriving true h left next.at (drop (next.at - at) (x ∷ xs))))) (stop (verdict (judge R seen (text_of s at e) (entry_of h s e)) at)))
          ≡ tally n (pick v (entry at e (cut R h s (entry_of h s e ∷ seen) (arriving false h left next.at (drop (next.at - at) (x ∷ xs))))) (stop (verdict (judge R seen (text_of s at e) (entry_of h s e)) at))))
      by-rules e next true = again (n + 1) (entry_of h s e ∷ seen) next.at (drop (next.at - at) (x ∷ xs))
      by-rules e next false = inr refl

      by_tests : (u v : Bool) (e : EntryRecord) (next : Cursor) (part : ℕ)
          → (tally n (cut R h s seen (follow (arriving true h left) at (x ∷ xs) (pick u (Err (verdict 16 at)) (pick v (Ok (e, next)) (Err (short_at true at part)))))) ≡ Err (verdict 2 0))
          ⊎ (tally n (cut R h s seen (follow (arriving true h left) at (x ∷ xs) (pick u (Err (verdict 16 at)) (pick v (Ok (e, next)) (Err (short_at true at part))))))
          ≡ tally n (cut R h s seen (follow (arriving false h left) at (x ∷ xs) (pick u (Err (verdict 16 at)) (pick v (Ok (e, next)) (Err (short_at false at part)))))))
      by_tests true v e next part = inr refl
      by_tests false true e next part = by-rules e next (eqb (judge R seen (text_of s at e) (entry_of h s e)) 0)
      by_tests false false e next part = inl refl

      by_mode : (r : Option (EntryMode × ℕ))
          → (tally n (cut R h s seen (follow (arriving true h left) at (x ∷ xs) (held_mode true h at (x ∷ xs) r))) ≡ Err (verdict 2 0))
          ⊎ (tally n (cut R h s seen (follow (arriving true h left) at (x ∷ xs) (held_mode true h at (x ∷ xs) r)))
          ≡ tally n (cut R h s seen (follow (arriving false h left) at (x ∷ xs) (held_mode false h at (x ∷ xs) r))))
      by_mode None = inr refl
      by_mode (Some (m, k)) =
          let c : List ℕ = drop k (x ∷ xs) in
          by_tests (ltb most_held (count_to 0 c)) (leb (count_to 0 c + 1 + h) (length c)) (record_at at m.internal k (count_to 0 c))
          (record { at = at + k + (count_to 0 c + 1 + h) }) (short_part (length c - count_to 0 c))

  settled : (left : ℕ) → Settled left
  settled zero = settled-none
  settled (suc left) = settled-more left (settled left)

-- some bytes that fill the bound, with others behind them
module _ (h k : ℕ) (t : List ℕ) (full : length t ≡ most_bytes) where
  abbrev up_to : Bool → Answer
  up_to more = or_shut (rule_gate k h 0 0) (check_in (git_rules k) more h t)

  followed : (u : List ℕ) → take most_bytes (t ++ u) ≡ t
  followed u = ap (λ (i : ℕ). take i (t ++ u)) (sym full) ∙ take-append_seam t u

  check_none : check_of h k (t ++ []) ≡ up_to false
  unfolding check_of
  check_none =
      ap (λ (b : List ℕ). or_shut (rule_gate k h 0 0) (check_in (git_rules k) (ltb most_bytes (length (t ++ []))) h b)) (followed [])
      ∙ ap (λ (v : Bool). up_to v) (le-ltb most_bytes (length (t ++ [])) (omega (arith, length-append t [])))

  check_some : (x : ℕ) (u : List ℕ) → check_of h k (t ++ (x ∷ u)) ≡ up_to true
  unfolding check_of
  check_some x u =
      ap (λ (b : List ℕ). or_shut (rule_gate k h 0 0) (check_in (git_rules k) (ltb most_bytes (length (t ++ (x ∷ u)))) h b)) (followed (x ∷ u))
      ∙ ap (λ (v : Bool). up_to v) (lt-ltb most_bytes (length (t ++ (x ∷ u))) (omega (arith, length-append t (x ∷ u))))

  pub check_past : (x : ℕ) (u : List ℕ) → (check_of h k (t ++ (x ∷ u)) ≡ refused (verdict 2 0)) ⊎ ((v : List ℕ) → check_of h k (t ++ v) ≡ check_of h k (t ++ (x ∷ u)))
  check_past x u =
      ⊎_elim (λ e. inl (check_some x u ∙ e)) (λ e. inr (λ v. all e v ∙ sym (check_some x u))) (by-gate (rule_gate k h 0 0))
    where
      by-gate : (g : Result ⊤ Verdict)
          → (or_shut g (check_in (git_rules k) true h t) ≡ refused (verdict 2 0)) ⊎ (or_shut g (check_in (git_rules k) true h t) ≡ or_shut g (check_in (git_rules k) false h t))
      by-gate (Err v) = inr refl
      by-gate (Ok tt) = ⊎_elim (λ e. inl (ap told e)) (λ e. inr (ap told e)) (settled (git_rules k) h t most_records 0 [] 0 t)

      all : up_to true ≡ up_to false → (v : List ℕ) → check_of h k (t ++ v) ≡ up_to true
      all e [] = check_none ∙ sym e
      all e (y ∷ v) = check_some y v
