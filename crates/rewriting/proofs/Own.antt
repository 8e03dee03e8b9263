-- An object equals its first rewrite exactly when each mode text is the one written for its mode. Assumes nothing.
use Prim.Native.Nat.{ℕ, zero, suc, ◌+◌, ◌-◌, ◌<◌}
use native.Mathlib.Omega.{arith}
use mathlib.Core.Path.{◌≡◌, refl, ap, sym, ◌∙◌}
use mathlib.Core.List.{List, [], ◌∷◌, ◌++◌, append_assoc}
use lib.ListN.{length, take, drop, length-append, length-drop, take-append-drop}
use lib.Seq.{append_snoc, drop-cons, take_at, drop_at, length-take-le}
use Rattle.ground.specs.Scan.{count_to}
use Rattle.ground.specs.Verdict.{most_records}
use Rattle.ground.proofs.Laws.{id_small}
use Rattle.mode.specs.Read.{read_mode}
use Rattle.mode_text.specs.Write.{write_mode, again}
use Rattle.mode_round.proofs.Again.{written_reads}
use Rattle.mode_round.proofs.Space.{read_count, read_small, mode-space}
use Rattle.entry.specs.Record.{name_of, id_of}
use Rattle.entry.specs.Entry.{entry_bytes, as_written, entry_of, entries_of}
use Rattle.entry.specs.Decode.{decode}
use Rattle.entry.specs.declared.EntryRecord.{EntryRecord}
use Rattle.entry.specs.declared.Cursor.{Cursor}
use Rattle.entry.proofs.Laws.{Parts, decode-parts}
use Rattle.reading.specs.Listing.{follow, plain, records_in, tally}
use Rattle.one_listing.proofs.Cutting.{name-is, id-sized, bytes-are, rest-there}
use Rattle.tree_round.specs.Demand.{SomeModes}
use Rattle.rewriting.specs.Demand.{text_in, TextsAsWritten, OwnRewrite}
use Rattle.rewriting.proofs.Read.{accepted, bounds}
use Rattle.rewriting.proofs.Settle.{first}
use Rattle.ground.specs.declared.Verdict.{Verdict}
use Rattle.std.specs.Prelude.{Err, Ok, Result, Some}

-- ---- a mode text and its space

module _ (b : List ℕ) (m n : ℕ) (e : read_mode b ≡ Some (record { internal = m }, n)) (p : 7 < length b) where
  with_space : take n b ≡ take (n - 1) b ++ 32 ∷ []
  with_space =
      let s = mode-space b m n e p in
      let w : List ℕ = take (n - 1) b in
      let y : n ≡ suc (n - 1) = omega (arith, s.0) in
      let k : length w ≡ n - 1 = length-take-le (n - 1) b (omega (arith, s.1)) in
      let d : drop (n - 1) b ≡ 32 ∷ drop n b
      = drop-cons b (n - 1) 0 (omega (arith, s.0, s.1)) ∙ ap (λ (x : ℕ). x ∷ drop (suc (n - 1)) b) s.2 ∙ ap (λ (x : ℕ). 32 ∷ drop x b) (sym y) in
      let c : b ≡ (w ++ 32 ∷ []) ++ drop n b = sym (take-append-drop (n - 1) b) ∙ ap (λ (l : List ℕ). w ++ l) d ∙ sym (append_snoc w 32 (drop n b)) in
      ap (take n) c ∙ take_at (w ++ 32 ∷ []) (drop n b) n (simp length-append (omega (arith, s.0, k)))

  -- a text that was read, and a written text, in front of the same bytes
  same_text : (y : List ℕ) → (m ≡ 0 → ⊥) → write_mode m ++ 32 ∷ y ≡ b → n ≡ length (write_mode m) + 1
  same_text y z q =
      let w : read_mode (write_mode m ++ 32 ∷ y) ≡ Some (record { internal = again m }, length (write_mode m) + 1) = written_reads m y z (read_small b m n e) in
      let c : n ≡ count_to 32 b + 1 = read_count b m n e p in
      let d : length (write_mode m) + 1 ≡ count_to 32 (write_mode m ++ 32 ∷ y) + 1
      = read_count (write_mode m ++ 32 ∷ y) (again m) (length (write_mode m) + 1) w (rw q p) in
      c ∙ ap (λ (l : List ℕ). count_to 32 l + 1) (sym q) ∙ sym d

-- ---- one entry

module _ (h : ℕ) (s : List ℕ) (o : 6 < h) (at : ℕ) (b : List ℕ) (q : drop at s ≡ b) (e : EntryRecord) (next : Cursor) (P : Parts h at b e next) where
  big : 7 < length b
  big = omega (arith, length-drop P.size b, P.inside)

  -- the record says where the mode text starts
  text-is : text_in s e ≡ take (P.size - 1) b
  unfolding text_in
  text-is =
      let a : e.text_start ≡ at = ap (λ (x : EntryRecord). x.text_start) P.laid in
      let z : e.name_start - 1 - at ≡ P.size - 1 = omega (arith, ap (λ (x : EntryRecord). x.name_start) P.laid) in
      rw (a, z, q)

  as-text : text_in s e ≡ write_mode e.mode → b ≡ entry_bytes (entry_of h s e) ++ drop (next.at - at) b
  as-text w =
      bytes-are h s at b q e next P
      (with_space b e.mode P.size P.reads big ∙ ap (λ (l : List ℕ). l ++ 32 ∷ []) (sym text-is ∙ w))

  module _ (z : e.mode ≡ 0 → ⊥) (rest : List ℕ) (g : entry_bytes (entry_of h s e) ++ rest ≡ b) where
    abbrev behind : List ℕ
    behind = name_of s e ++ 0 ∷ id_of h s e

    parted : write_mode e.mode ++ 32 ∷ (behind ++ rest) ≡ b
    unfolding entry_bytes entry_of
    parted = sym (append_assoc (write_mode e.mode) (32 ∷ behind) rest) ∙ g

    long : P.size ≡ length (write_mode e.mode) + 1
    long = same_text b e.mode P.size P.reads big (behind ++ rest) z parted

    only-text : text_in s e ≡ write_mode e.mode
    only-text =
        text-is ∙ ap (take (P.size - 1)) (sym parted)
        ∙ take_at (write_mode e.mode) (32 ∷ (behind ++ rest)) (P.size - 1) (omega (arith, long))

    sized : length (entry_bytes (entry_of h s e)) ≡ next.at - at
    unfolding entry_bytes entry_of
    sized =
        let c : List ℕ = drop P.size b in
        let n : length (name_of s e) ≡ count_to 0 c = ap length (name-is h s at b q e next P) ∙ length-take-le (count_to 0 c) c (omega (arith, P.inside)) in
        simp length-append (omega (arith, long, n, id-sized h s at b q e next P, P.past))

    only-rest : rest ≡ drop (next.at - at) b
    only-rest = sym (drop_at (entry_bytes (entry_of h s e)) rest (next.at - at) sized) ∙ ap (drop (next.at - at)) g

-- ---- all of them

module _ (h : ℕ) (s : List ℕ) (o : 6 < h) where
  texts-same : (k at m n : ℕ) (b : List ℕ) → drop at s ≡ b → tally m (plain h k at b) ≡ Ok n → TextsAsWritten s (records_in (plain h k at b))
      → b ≡ as_written (entries_of h s (records_in (plain h k at b)))
  unfolding plain follow tally records_in as_written
  texts-same zero at m n [] q t w = refl
  texts-same zero at m n (x ∷ xs) q t w = let z : ◌≡◌ {A = ℕ} 0 1 = cc in absurd (omega arith)
  texts-same (suc k) at m n [] q t w = refl
  texts-same (suc k) at m n (x ∷ xs) q t w = go (λ i c. texts-same k i (m + 1) n c) (x ∷ xs) q (decode h at (x ∷ xs)) refl t w
    where
      go : ((i : ℕ) (c : List ℕ) → drop i s ≡ c → tally (m + 1) (plain h k i c) ≡ Ok n → TextsAsWritten s (records_in (plain h k i c))
          → c ≡ as_written (entries_of h s (records_in (plain h k i c))))
          → (b : List ℕ) → drop at s ≡ b → (d : Result (EntryRecord × Cursor) Verdict) → decode h at b ≡ d → tally m (follow (plain h k) at b d) ≡ Ok n
          → TextsAsWritten s (records_in (follow (plain h k) at b d))
          → b ≡ as_written (entries_of h s (records_in (follow (plain h k) at b d)))
      go ih b q (Ok (e, next)) d t w =
          let P = decode-parts h at b e next d in
          as-text h s o at b q e next P w.0
          ∙ ap (λ (r : List ℕ). entry_bytes (entry_of h s e) ++ r) (ih next.at (drop (next.at - at) b) (rest-there h s at b q e next P) t w.1)
      go ih b q (Err v) d t w = let z : ◌≡◌ {A = ℕ} 0 1 = cc in absurd (omega arith)

  same-texts : (k at : ℕ) (b : List ℕ) → drop at s ≡ b → SomeModes (records_in (plain h k at b)) → as_written (entries_of h s (records_in (plain h k at b))) ≡ b
      → TextsAsWritten s (records_in (plain h k at b))
  unfolding plain follow records_in as_written
  same-texts zero at [] q m g = tt
  same-texts zero at (x ∷ xs) q m g = tt
  same-texts (suc k) at [] q m g = tt
  same-texts (suc k) at (x ∷ xs) q m g = go (same-texts k) (x ∷ xs) q (decode h at (x ∷ xs)) refl m g
    where
      go : ((i : ℕ) (c : List ℕ) → drop i s ≡ c → SomeModes (records_in (plain h k i c))
          → as_written (entries_of h s (records_in (plain h k i c))) ≡ c → TextsAsWritten s (records_in (plain h k i c)))
          → (b : List ℕ) → drop at s ≡ b → (d : Result (EntryRecord × Cursor) Verdict) → decode h at b ≡ d → SomeModes (records_in (follow (plain h k) at b d))
          → as_written (entries_of h s (records_in (follow (plain h k) at b d))) ≡ b → TextsAsWritten s (records_in (follow (plain h k) at b d))
      go ih b q (Ok (e, next)) d m g =
          let P = decode-parts h at b e next d in
          let r : List ℕ = as_written (entries_of h s (records_in (plain h k next.at (drop (next.at - at) b)))) in (
            only-text h s o at b q e next P m.0 r g,
            ih next.at (drop (next.at - at) b) (rest-there h s at b q e next P) m.1 (only-rest h s o at b q e next P m.0 r g),
          )
      go ih b q (Err v) d m g = tt

pub own_rewrite : OwnRewrite
own_rewrite h s lent n g =
    let o : 6 < h = omega (arith, id_small h (bounds h s lent n g.answer).0) in (
      (λ e. same-texts h s o most_records 0 s refl g.modes (sym (first h s lent n g) ∙ sym e)),
      (λ w. texts-same h s o most_records 0 0 n s refl (accepted h s lent n g.answer).1 w ∙ sym (first h s lent n g)),
    )
