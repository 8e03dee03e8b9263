-- What is said of the whole object is what the strict reader answers, where 16 is not met. Assumes nothing.
use Prim.Native.Nat.{ℕ, zero, suc, ◌+◌, ◌-◌, ◌≤◌}
use mathlib.Core.Path.{◌≡◌, refl, ap, sym, ◌∙◌}
use mathlib.Core.Bool.{Bool, true, false}
use mathlib.Core.List.{List, [], ◌∷◌}
use lib.Dec.{eqb, ltb, leb}
use lib.ListN.{length, take, drop}
use lib.Seq.{take_all}
use borrow.Author.Tests.{le-ltb, le-leb}
use Rattle.ground.specs.Basics.{pick}
use Rattle.ground.specs.Scan.{count_to}
use Rattle.ground.specs.Verdict.{verdict, counted, refused, most_bytes, most_records, size_gate}
use Rattle.ground.specs.declared.Answer.{Answer}
use Rattle.mode.specs.Read.{read_mode}
use Rattle.entry.specs.Record.{many}
use Rattle.entry.specs.Entry.{Entry, entry_of}
use Rattle.entry.specs.Decode.{decode, decode_mode, decode_name}
use Rattle.entry.specs.declared.EntryRecord.{EntryRecord}
use Rattle.entry.specs.declared.Cursor.{Cursor}
use Rattle.reading.specs.Listing.{stop, entry, follow, plain, tally}
use Rattle.rules.specs.Rules.{Rules, judge, git_rules}
use Rattle.rules.specs.Gate.{rule_gate}
use Rattle.strict.specs.Strict.{text_of, cut, strictly, strict_answer}
use Rattle.reading.specs.Whole.{in_room, answer_of}
use Rattle.arriving.specs.Feed.{most_held}
use Rattle.checking.specs.Whole.{held_name, held_mode, arriving, told, check_in, or_shut, check_of}
use Rattle.ground.specs.declared.Verdict.{Verdict}
use Rattle.mode.specs.declared.EntryMode.{EntryMode}
use Rattle.std.specs.Prelude.{Err, None, Ok, Option, Result, Some, ⊤}

abbrev number_of : Result ℕ Verdict → ℕ
number_of k = (told k).verdict.number

-- ---- one entry: the two readings differ only where a name is too long

same-decode : (h at : ℕ) (b : List ℕ) → (held_mode false h at b (read_mode b) ≡ Err (verdict 16 at) → ⊥) → held_mode false h at b (read_mode b) ≡ decode h at b
unfolding decode decode_mode decode_name held_mode held_name
same-decode h at b n = go (read_mode b) n
  where
    last : (m k : ℕ) (c : List ℕ) (v : Bool) → (pick v (Err (verdict 16 at)) (decode_name h at m k c) ≡ Err (verdict 16 at) → ⊥) → pick v (Err (verdict 16 at)) (decode_name h at m k c) ≡ decode_name h at m k c
    last m k c true n = absurd (n refl)
    last m k c false n = refl

    go : (r : Option (EntryMode × ℕ)) → (held_mode false h at b r ≡ Err (verdict 16 at) → ⊥) → held_mode false h at b r ≡ decode_mode h at b r
    go None n = refl
    go (Some (m, k)) n = last m.internal k (drop k b) (ltb most_held (count_to 0 (drop k b))) n

-- ---- entry after entry

module _ (R : Rules) (h : ℕ) (s : List ℕ) where
  abbrev held· : ℕ → List Entry → ℕ → ℕ → List ℕ → Result ℕ Verdict
  held· n seen left at b = tally n (cut R h s seen (arriving false h left at b))

  abbrev plain· : ℕ → List Entry → ℕ → ℕ → List ℕ → Result ℕ Verdict
  plain· n seen left at b = tally n (cut R h s seen (plain h left at b))

  abbrev Alike : ℕ → Type 0
  Alike left = (n : ℕ) (seen : List Entry) (at : ℕ) (b : List ℕ) → (number_of (held· n seen left at b) ≡ 16 → ⊥) → held· n seen left at b ≡ plain· n seen left at b

  alike_none : Alike 0
  unfolding arriving plain
  alike_none n seen at [] f = refl
  alike_none n seen at (x ∷ xs) f = refl

  alike_more : (left : ℕ) → Alike left → Alike (suc left)
  unfolding arriving plain follow tally cut
  alike_more left again n seen at [] f = refl
  alike_more left again n seen at (x ∷ xs) f = go (held_mode false h at (x ∷ xs) (read_mode (x ∷ xs))) refl f
    where
      sixteen : (d : Result (EntryRecord × Cursor) Verdict) → d ≡ Err (verdict 16 at) → number_of (tally n (cut R h s seen (follow (arriving false h left) at (x ∷ xs) d))) ≡ 16
      sixteen d e = rw e

      judged : (e : EntryRecord) (next : Cursor) (v : Bool)
          → (number_of (tally n (pick v (entry at e (cut R h s (entry_of h s e ∷ seen) (arriving false h left next.at (drop (next.at - at) (x ∷ xs))))) (stop (verdict (judge R seen (text_of s at e) (entry_of h s e)) at)))) ≡ 16 → ⊥)
          → tally n (pick v (entry at e (cut R h s (entry_of h s e ∷ seen) (arriving false h left next.at (drop (next.at - at) (x ∷ xs))))) (stop (verdict (judge R seen (text_of s at e) (entry_of h s e)) at)))
          ≡ tally n (pick v (entry at e (cut R h s (entry_of h s e ∷ seen) (plain h left next.at (drop (next.at - at) (x ∷ xs))))) (stop (verdict (judge R seen (text_of s at e) (entry_of h s e)) at)))
      judged e next true f = again (n + 1) (entry_of h s e ∷ seen) next.at (drop (next.at - at) (x ∷ xs)) f
      judged e next false f = refl

      on : (d : Result (EntryRecord × Cursor) Verdict) → (number_of (tally n (cut R h s seen (follow (arriving false h left) at (x ∷ xs) d))) ≡ 16 → ⊥)
          → tally n (cut R h s seen (follow (arriving false h left) at (x ∷ xs) d)) ≡ tally n (cut R h s seen (follow (plain h left) at (x ∷ xs) d))
      on (Ok (e, next)) f = judged e next (eqb (judge R seen (text_of s at e) (entry_of h s e)) 0) f
      on (Err v) f = refl

      go : (d : Result (EntryRecord × Cursor) Verdict) → held_mode false h at (x ∷ xs) (read_mode (x ∷ xs)) ≡ d → (number_of (tally n (cut R h s seen (follow (arriving false h left) at (x ∷ xs) d))) ≡ 16 → ⊥)
          → tally n (cut R h s seen (follow (arriving false h left) at (x ∷ xs) d)) ≡ tally n (cut R h s seen (follow (plain h left) at (x ∷ xs) (decode h at (x ∷ xs))))
      go d q f = on d f ∙ ap (λ (y : Result (EntryRecord × Cursor) Verdict). tally n (cut R h s seen (follow (plain h left) at (x ∷ xs) y))) (sym q ∙ same-decode h at (x ∷ xs) (λ z. f (sixteen d (sym q ∙ z))))

  alike : (left : ℕ) → Alike left
  alike zero = alike_none
  alike (suc left) = alike_more left (alike left)

-- ---- the answers

-- with room enough, the strict reader tells what it counted
in-room : (room : ℕ) (k : Result ℕ Verdict) → ((in_room room k).verdict.number ≡ 4 → ⊥) → told k ≡ in_room room k
in-room room (Err v) f = refl
in-room room (Ok n) f = go (leb n room) f
  where
    go : (v : Bool) → ((pick v (counted n) (refused (verdict 4 n))).verdict.number ≡ 4 → ⊥) → counted n ≡ pick v (counted n) (refused (verdict 4 n))
    go true f = refl
    go false f = absurd (f refl)

-- within the bounds the gate is the one at the start
gate_same : (h k bytes records : ℕ) → bytes ≤ most_bytes → records ≤ most_records → rule_gate k h bytes records ≡ rule_gate k h 0 0
unfolding rule_gate size_gate
gate_same h k bytes records l r = rw (le-leb bytes most_bytes l, le-leb records most_records r)

pub check_alike : (h k : ℕ) (s lent : List ℕ) → length s ≤ most_bytes → many (length lent) ≤ most_records → ((check_of h k s).verdict.number ≡ 16 → ⊥)
    → ((strict_answer k h s lent).verdict.number ≡ 4 → ⊥) → check_of h k s ≡ strict_answer k h s lent
unfolding check_of answer_of
check_alike h k s lent l r n f =
    go (rule_gate k h 0 0) n (λ z. f (ap (λ (a : Answer). a.verdict.number) same ∙ z)) ∙ sym same
  where
    room : ℕ
    room = many (length lent)

    same : strict_answer k h s lent ≡ answer_of (rule_gate k h 0 0) (strictly (git_rules k) h s) room
    same = ap (λ (g : Result ⊤ Verdict). answer_of g (strictly (git_rules k) h s) room) (gate_same h k (length s) room l r)

    within : check_in (git_rules k) (ltb most_bytes (length s)) h (take most_bytes s) ≡ check_in (git_rules k) false h s
    within = ap (λ (v : Bool). check_in (git_rules k) v h (take most_bytes s)) (le-ltb most_bytes (length s) l) ∙ ap (check_in (git_rules k) false h) (take_all most_bytes s l)

    go : (g : Result ⊤ Verdict) → ((or_shut g (check_in (git_rules k) (ltb most_bytes (length s)) h (take most_bytes s))).verdict.number ≡ 16 → ⊥)
        → ((answer_of g (strictly (git_rules k) h s) room).verdict.number ≡ 4 → ⊥)
        → or_shut g (check_in (git_rules k) (ltb most_bytes (length s)) h (take most_bytes s)) ≡ answer_of g (strictly (git_rules k) h s) room
    go (Err v) n f = refl
    go (Ok tt) n f =
        let a = alike (git_rules k) h s most_records 0 [] 0 s (λ z. n (ap (λ (x : Answer). x.verdict.number) within ∙ z)) in
        within ∙ ap told a ∙ in-room room (tally 0 (strictly (git_rules k) h s)) f
