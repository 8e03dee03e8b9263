-- One rewriting by the two answers and what they leave in the buffers; and room of another size. Assumes nothing.
use Prim.Native.Nat.{ℕ, ◌*◌, ◌≤◌}
use native.Mathlib.Omega.{arith}
use mathlib.Core.Path.{◌≡◌, ap, sym, ◌∙◌}
use mathlib.Core.List.{List}
use lib.ListN.{length, take, drop}
use lib.Seq.{take_at}
use Rattle.ground.specs.Verdict.{counted, stored, most_bytes, most_records}
use Rattle.ground.specs.declared.Answer.{Answer}
use Rattle.ground.proofs.Laws.{gate_open, gate_fine, stored-done}
use Rattle.entry.specs.Record.{width, many, records_of}
use Rattle.reading.specs.Listing.{listing}
use Rattle.reading.specs.Whole.{read_answer, read_records}
use Rattle.reading.proofs.Laws.{answer-counted, room-fine}
use Rattle.tree_write.specs.Write.{written, tree_answer}
use Rattle.tree_write.proofs.Done.{began, done-length, done-fits}
use Rattle.rewriting.specs.Demand.{rewrite, Given}
use Rattle.rewriting.proofs.Read.{accepted, bounds, returned-is}

module _ (h : ℕ) (s lent : List ℕ) (n : ℕ) (a : read_answer h s (listing h s) lent ≡ counted n) (out : List ℕ) (m : ℕ) where
  abbrev records : List ℕ
  records = take (n * width) (read_records h s (listing h s) lent)

  module _ (w : tree_answer h s records (length out) ≡ counted m) where
    done : (tree_answer h s records (length out)).verdict.number ≡ 0
    done = ap (λ (x : Answer). x.verdict.number) w

    -- what is written is the rewritten object
    is : written h s (records_of records) ≡ rewrite h s
    unfolding rewrite
    is = ap (written h s) (returned-is h s lent n a)

    pub passed_size : m ≡ length (rewrite h s)
    passed_size = ap (λ (x : Answer). x.count) (sym w) ∙ done-length h s records (length out) done ∙ ap length is

    -- its room was within the bound
    pub passed_small : length (rewrite h s) ≤ most_bytes
    passed_small =
        let o = gate_open h _ _ (began h s records (length out) done) in
        omega (arith, ap length is, done-fits h s records (length out) done, o.1)

    pub passed_bytes : take m (stored (tree_answer h s records (length out)).verdict (written h s (records_of records)) out) ≡ rewrite h s
    passed_bytes =
        let l : List ℕ = written h s (records_of records) in
        ap (take m) (stored-done _ l out done) ∙ take_at l (drop (length l) out) m (omega (arith, passed_size, ap length is)) ∙ is

-- what is accepted is accepted with any list that has room for it
pub with-room : (h : ℕ) (s lent : List ℕ) (n : ℕ) → Given h s lent n → (other : List ℕ) → n ≤ many (length other) → many (length other) ≤ most_records
    → Given h s other n
with-room h s lent n g other fits few =
    let b = bounds h s lent n g.answer in
    record {
      answer = answer-counted (listing h s) _ (many (length other)) (gate_fine h (length s) (many (length other)) b.0 b.1 few)
          (accepted h s lent n g.answer).1
          ∙ room-fine (many (length other)) n fits;
      modes = g.modes;
    }
