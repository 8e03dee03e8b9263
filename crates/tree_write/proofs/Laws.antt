-- Laws of `specs/Write.antt`: one record, the records from an index on, the whole. Assumes nothing.
use native.Mathlib.Nat.{add-zero}
use native.Mathlib.Numerals.{add-one}
use native.Mathlib.Omega.{arith}
use Prim.Native.Nat.{ℕ, ◌+◌, ◌-◌, ◌*◌, ◌/◌, ◌%◌, ◌≤◌, ◌<◌, max}
use mathlib.Core.Path.{◌≡◌, refl, ap, sym, subst, ◌∙◌}
use mathlib.Core.Bool.{Bool, true, false, ◌&&◌, not}
use mathlib.Core.List.{List, [], ◌∷◌, ◌++◌}
use mathlib.Core.Logic.{⊎_elim}
use lib.Dec.{eqb}
use lib.ListN.{length, get_or, take, drop, length-append, length-take, length-drop, drop_of_length-le}
use lib.Seq.{sets, drop-cons, append_snoc}
use borrow.Author.Tests.{eq-eqb, ne_eqb, eqb-true, eqb-false}
use Rattle.ground.specs.Basics.{pick, ascii}
use Rattle.ground.specs.Scan.{count_to, free_of}
use Rattle.ground.specs.Verdict.{verdict, counted, refused, gate_of, most_bytes, most_records}
use Rattle.ground.proofs.Laws.{is_false, equal, id_small, gate_open, sets_append, free_whole, whole_free}
use Rattle.ground.specs.declared.Verdict.{Verdict}
use Rattle.ground.specs.declared.Answer.{Answer}
use Rattle.output.specs.Output.{fitted}
use Rattle.output.proofs.Laws.{fitted-done, gated-shut, gated_open}
use Rattle.mode_text.specs.Write.{six_digits, trimmed, write_mode}
use Rattle.mode_text.proofs.Laws.{mode_le}
use Rattle.entry.specs.Record.{many, no_record, records_of, well_formed, name_of, id_of}
use Rattle.entry.specs.Entry.{entry_bytes, as_written, entry_of}
use Rattle.entry.proofs.Laws.{records-many, well_parts}
use Rattle.entry.specs.declared.EntryRecord.{EntryRecord}
use Rattle.tree_write.specs.Write.{written, entry_size, refusal, judged, measured, tree_size, tree_answer}
use Rattle.std.specs.Prelude.{Err, Ok}

-- ---- the lent records, one by one

module _ (records : List ℕ) (i : ℕ) where
  pub rest_more : i < many (length records) → drop i (records_of records) ≡ get_or (records_of records) i no_record ∷ drop (i + 1) (records_of records)
  rest_more p = rw (add-one i) (drop-cons (records_of records) i no_record (rw (records-many records) p))

  pub rest_end : many (length records) ≤ i → drop i (records_of records) ≡ []
  rest_end p = drop_of_length-le (records_of records) {i = i} (rw (records-many records) p)

-- ---- one entry

module _ (h : ℕ) (bytes : List ℕ) (e : EntryRecord) (w : well_formed h (length bytes) e ≡ true) where
  pub name-length : length (name_of bytes e) ≡ e.name_end - e.name_start
  unfolding name_of
  name-length = simp (length-take, length-drop) (omega (arith, well_parts h (length bytes) e w))

  pub id_length : length (id_of h bytes e) ≡ h
  unfolding id_of
  id_length = simp (length-take, length-drop) (omega (arith, well_parts h (length bytes) e w))

  pub entry_length : length (entry_bytes (entry_of h bytes e)) ≡ entry_size h e
  unfolding entry_bytes entry_of entry_size
  entry_length = simp length-append (omega (arith, name-length, id_length))

  -- all that measuring it asks
  pub sized : length bytes ≤ most_bytes → h ≤ 32 → (e.mode ≤ 65535) × (e.name_start ≤ e.name_end) × (e.name_end ≤ most_bytes) × (h ≤ 32)
  sized p q = let f = well_parts h (length bytes) e w in (f.0, f.1, omega (arith, f.2), q)

  -- six letters, a space, the longest name, a NUL and 32 bytes at most: so no sum of sizes leaves 64 bits
  pub size-le : length bytes ≤ most_bytes → h ≤ 32 → entry_size h e ≤ 1073741864
  unfolding entry_size
  size-le p q = omega (arith, well_parts h (length bytes) e w, mode_le e.mode)

-- sizes are summed in 64 bits
module _ (i sum size : ℕ) (p : sum ≤ i * 1073741864) (q : size ≤ 1073741864) where
  pub sum_fits : (n : ℕ) → i < n → n ≤ most_records → sum + size < 18446744073709551616
  sum_fits n l g = omega arith

  pub sum_next : sum + size ≤ (i + 1) * 1073741864
  sum_next = omega arith

-- ---- what refuses a record

-- how long a mode's text is, by the tests of its number and of its two highest digits
text-size : (m : ℕ) (p q r : Bool) → eqb m 0 ≡ p → eqb (get_or (six_digits m) 1 0) 52 ≡ q → eqb (get_or (six_digits m) 0 0) 48 ≡ r
    → length (write_mode m) ≡ pick p 1 (pick q (pick r 5 6) 6)
unfolding write_mode trimmed
text-size m p q r a b c = rw (a, b, c) (go p q r)
  where
    go : (p q r : Bool) → length (pick p (48 ∷ []) (pick q (pick r (drop 1 (six_digits m)) (48 ∷ drop 1 (six_digits m))) (six_digits m)))
        ≡ pick p 1 (pick q (pick r 5 6) 6)
    go true q r = refl
    go false true true = refl
    go false true false = refl
    go false false r = refl

-- the text of a plain file's mode
pub text-file : (m : ℕ) → m ≡ 0o100644 → write_mode m ≡ ascii "100644"
unfolding write_mode trimmed
text-file m e = rw e refl

pub text-one : (m : ℕ) → m ≡ 0 → length (write_mode m) ≡ 1
text-one m e = text-size m true _ _ (eq-eqb m 0 e) refl refl

pub text_five : (m : ℕ) → m / 4096 ≡ 4 → length (write_mode m) ≡ 5
text_five m e = text-size m false true true (ne_eqb m 0 (λ z. omega arith)) (eq-eqb (48 + m / 4096 % 8) 52 (omega arith)) (eq-eqb (48 + m / 32768 % 8) 48 (omega arith))

pub text_six : (m : ℕ) → m ≤ 65535 → (m ≡ 0 → ⊥) → (m / 4096 ≡ 4 → ⊥) → length (write_mode m) ≡ 6
text_six m l z n =
    ⊎_elim
    (λ (q : m / 4096 % 8 ≡ 4). text-size m false true false (ne_eqb m 0 z) (eq-eqb (48 + m / 4096 % 8) 52 (omega arith)) (ne_eqb (48 + m / 32768 % 8) 48 (λ w. n (omega arith))))
    (λ (q : m / 4096 % 8 ≡ 4 → ⊥). text-size m false false _ (ne_eqb m 0 z) (ne_eqb (48 + m / 4096 % 8) 52 (λ w. q (omega arith))) refl)
    (equal (m / 4096 % 8) 4)

module _ (h : ℕ) (bytes : List ℕ) (e : EntryRecord) where
  pub refusal-bad : (writing : Bool) → well_formed h (length bytes) e ≡ false → refusal writing h bytes e ≡ 10
  unfolding refusal
  refusal-bad writing w = rw w

  pub refusal_well : (writing : Bool) → refusal writing h bytes e ≡ 0 → well_formed h (length bytes) e ≡ true
  unfolding refusal
  refusal_well writing = go (well_formed h (length bytes) e) (writing && not (free_of 0 (name_of bytes e)))
    where
      go : (v n : Bool) → ◌≡◌ {A = ℕ} (pick v (pick n 9 0) 10) 0 → v ≡ true
      go true n z = refl
      go false n z = absurd (omega arith)

  module _ (w : well_formed h (length bytes) e ≡ true) where
    pub refusal-size : refusal false h bytes e ≡ 0
    unfolding refusal
    refusal-size = rw w

    pub refusal_free : free_of 0 (name_of bytes e) ≡ true → refusal true h bytes e ≡ 0
    unfolding refusal
    refusal_free f = rw (w, f)

    pub refusal_nul : free_of 0 (name_of bytes e) ≡ false → refusal true h bytes e ≡ 9
    unfolding refusal
    refusal_nul f = rw (w, f)

    -- by the count of bytes before the first NUL
    pub no_nul : count_to 0 (name_of bytes e) ≡ e.name_end - e.name_start → refusal true h bytes e ≡ 0
    no_nul q = refusal_free (free_whole 0 (name_of bytes e) (q ∙ sym (name-length h bytes e w)))

    pub nul_inside : (count_to 0 (name_of bytes e) ≡ e.name_end - e.name_start → ⊥) → refusal true h bytes e ≡ 9
    nul_inside q = refusal_nul (is_false _ (λ f. q (whole_free 0 (name_of bytes e) f ∙ name-length h bytes e w)))

  -- a name that may be written has no NUL
  pub free-name : refusal true h bytes e ≡ 0 → free_of 0 (name_of bytes e) ≡ true
  unfolding refusal
  free-name = go (well_formed h (length bytes) e) (free_of 0 (name_of bytes e))
    where
      go : (v f : Bool) → ◌≡◌ {A = ℕ} (pick v (pick (not f) 9 0) 10) 0 → f ≡ true
      go true true z = refl
      go true false z = absurd (omega arith)
      go false f z = absurd (omega arith)

-- ---- the records from an index on

module _ (writing : Bool) (h : ℕ) (bytes : List ℕ) (i : ℕ) (e : EntryRecord) (es : List EntryRecord) where
  pub judged-stop : (refusal writing h bytes e ≡ 0 → ⊥) → judged writing h bytes i (e ∷ es) ≡ verdict (refusal writing h bytes e) i
  unfolding judged
  judged-stop n = simp (ne_eqb (refusal writing h bytes e) 0 n)

  pub judged-more : refusal writing h bytes e ≡ 0 → judged writing h bytes i (e ∷ es) ≡ judged writing h bytes (i + 1) es
  unfolding judged
  judged-more n = simp (eq-eqb (refusal writing h bytes e) 0 n)

  pub judged-passes : (judged writing h bytes i (e ∷ es)).number ≡ 0 → refusal writing h bytes e ≡ 0
  judged-passes z = go (eqb (refusal writing h bytes e) 0) refl
    where
      go : (v : Bool) → eqb (refusal writing h bytes e) 0 ≡ v → refusal writing h bytes e ≡ 0
      go true q = eqb-true _ 0 q
      go false q = sym (ap (λ (x : Verdict). x.number) (judged-stop (eqb-false _ 0 q))) ∙ z

-- records that may be written may be measured
judged-size : (h : ℕ) (bytes : List ℕ) (i : ℕ) (es : List EntryRecord) → (judged true h bytes i es).number ≡ 0 → judged false h bytes i es ≡ judged true h bytes i es
unfolding judged
judged-size h bytes i [] z = refl
judged-size h bytes i (e ∷ es) z =
    let p : refusal true h bytes e ≡ 0 = judged-passes true h bytes i e es z in
    let m = judged-more true h bytes i e es p in
    judged-more false h bytes i e es (refusal-size h bytes e (refusal_well h bytes e true p))
    ∙ judged-size h bytes (i + 1) es (sym (ap (λ (x : Verdict). x.number) m) ∙ z)
    ∙ sym m

module _ (writing : Bool) (h : ℕ) (bytes : List ℕ) (i sum : ℕ) where
  pub measured-none : measured writing h bytes i sum [] ≡ counted sum
  unfolding measured judged as_written
  measured-none = ap counted (add-zero sum)

  module _ (e : EntryRecord) (es : List EntryRecord) where
    pub measured-stop : (refusal writing h bytes e ≡ 0 → ⊥) → measured writing h bytes i sum (e ∷ es) ≡ refused (verdict (refusal writing h bytes e) i)
    unfolding measured
    measured-stop n = rw (judged-stop writing h bytes i e es n) (simp (ne_eqb (refusal writing h bytes e) 0 n))

    pub measured-more : refusal writing h bytes e ≡ 0 → measured writing h bytes i sum (e ∷ es) ≡ measured writing h bytes (i + 1) (sum + entry_size h e) es
    unfolding measured as_written
    measured-more n =
        let l : sum + length (entry_bytes (entry_of h bytes e) ++ written h bytes es) ≡ sum + entry_size h e + length (written h bytes es) =
        simp length-append (omega (arith, entry_length h bytes e (refusal_well h bytes e writing n))) in
        rw (judged-more writing h bytes i e es n, l)

  module _ (es : List EntryRecord) where
    pub measured-fine : (judged writing h bytes i es).number ≡ 0 → measured writing h bytes i sum es ≡ counted (sum + length (written h bytes es))
    unfolding measured
    measured-fine z = simp (eq-eqb (judged writing h bytes i es).number 0 z)

    -- where no record is refused, it is the length of what is written
    pub measured-done : (measured writing h bytes i sum es).verdict.number ≡ 0
        → ((judged writing h bytes i es).number ≡ 0) × (measured writing h bytes i sum es ≡ counted (sum + length (written h bytes es)))
    unfolding measured
    measured-done = go (judged writing h bytes i es) (eqb (judged writing h bytes i es).number 0) refl
      where
        go : (j : Verdict) (v : Bool) → eqb j.number 0 ≡ v → (pick v (counted (sum + length (written h bytes es))) (refused j)).verdict.number ≡ 0
            → (j.number ≡ 0) × (pick v (counted (sum + length (written h bytes es))) (refused j) ≡ counted (sum + length (written h bytes es)))
        go j true q z = (eqb-true j.number 0 q, refl)
        go j false q z = absurd (eqb-false j.number 0 q z)

    pub measured-length : (measured writing h bytes i sum es).verdict.number ≡ 0 → (measured writing h bytes i sum es).count ≡ sum + length (written h bytes es)
    measured-length z = ap (λ (x : Answer). x.count) (measured-done z).1

-- the size asked alone is the same where the records may be written
pub measured-size : (h : ℕ) (bytes : List ℕ) (i sum : ℕ) (es : List EntryRecord) → (measured true h bytes i sum es).verdict.number ≡ 0
    → measured false h bytes i sum es ≡ measured true h bytes i sum es
unfolding measured
measured-size h bytes i sum es z = rw (judged-size h bytes i es (measured-done true h bytes i sum es z).0)

-- ---- one record of the lent list, as a loop over it has it

module _ (h : ℕ) (bytes records : List ℕ) (i sum : ℕ) where
  pub measured_end : (writing : Bool) → many (length records) ≤ i → measured writing h bytes i sum (drop i (records_of records)) ≡ counted sum
  measured_end writing p = rw (rest_end records i p) (measured-none writing h bytes i sum)

  module _ (e : EntryRecord) (p : i < many (length records)) (q : e ≡ get_or (records_of records) i no_record) where
    rest-is : drop i (records_of records) ≡ e ∷ drop (i + 1) (records_of records)
    rest-is = rw q (rest_more records i p)

    pub measured-bad : (writing : Bool) → (refusal writing h bytes e ≡ 0 → ⊥) → measured writing h bytes i sum (drop i (records_of records)) ≡ refused (verdict (refusal writing h bytes e) i)
    measured-bad writing n = rw rest-is (measured-stop writing h bytes i sum e (drop (i + 1) (records_of records)) n)

    pub measured-next : (writing : Bool) → refusal writing h bytes e ≡ 0
        → measured writing h bytes i sum (drop i (records_of records)) ≡ measured writing h bytes (i + 1) (sum + entry_size h e) (drop (i + 1) (records_of records))
    measured-next writing n = rw rest-is (measured-more writing h bytes i sum e (drop (i + 1) (records_of records)) n)

    -- a record of those that passed: it is well formed, it ends within the measure, and the rest measures the same
    pub step : (a : Answer) → a ≡ measured true h bytes i sum (drop i (records_of records)) → a.verdict.number ≡ 0
        → (well_formed h (length bytes) e ≡ true) × (sum + entry_size h e ≤ a.count)
        × (a ≡ measured true h bytes (i + 1) (sum + entry_size h e) (drop (i + 1) (records_of records)))
    step a m z =
        let rest : List EntryRecord = drop (i + 1) (records_of records) in
        let j = (measured-done true h bytes i sum (e ∷ rest) (rw rest-is at (sym (ap (λ (x : Answer). x.verdict.number) m) ∙ z))).0 in
        let n : refusal true h bytes e ≡ 0 = judged-passes true h bytes i e rest j in
        let k : a ≡ measured true h bytes (i + 1) (sum + entry_size h e) rest = m ∙ measured-next true n in (
          refusal_well h bytes e true n,
          omega (arith, ap (λ (x : Answer). x.count) k, measured-length true h bytes (i + 1) (sum + entry_size h e) rest (sym (ap (λ (x : Answer). x.verdict.number) k) ∙ z)),
          k,
        )

    pub written_next : (out : List ℕ) → well_formed h (length bytes) e ≡ true
        → sets out sum (written h bytes (drop i (records_of records)))
        ≡ sets (sets out sum (entry_bytes (entry_of h bytes e))) (sum + entry_size h e) (written h bytes (drop (i + 1) (records_of records)))
    unfolding as_written
    written_next out w =
        rw rest-is
        (sets_append out sum (entry_bytes (entry_of h bytes e)) (written h bytes (drop (i + 1) (records_of records)))
        ∙ rw (entry_length h bytes e w))

  pub written-end : (out : List ℕ) → many (length records) ≤ i → sets out sum (written h bytes (drop i (records_of records))) ≡ out
  unfolding as_written
  written-end out p = rw (rest_end records i p)

-- the places of an entry that has room are numbers, and it ends at its size
module _ (h : ℕ) (e : EntryRecord) (at n : ℕ) where
  pub entry-places : (room : ℕ) → n ≡ length (write_mode e.mode) → at + entry_size h e ≤ room → room < 18446744073709551616
      → (at + n < 18446744073709551616) × (at + n + 1 < 18446744073709551616) × (at + n + 1 + (e.name_end - e.name_start) < 18446744073709551616)
      × (at + n + 1 + (e.name_end - e.name_start) + 1 < 18446744073709551616)
      × (at + n + 1 + (e.name_end - e.name_start) + 1 + h < 18446744073709551616)
  unfolding entry_size
  entry-places room q g b = (omega arith, omega arith, omega arith, omega arith, omega arith)

  pub entry_end : n ≡ length (write_mode e.mode) → at + n + 1 + (e.name_end - e.name_start) + 1 + h ≡ at + entry_size h e
  unfolding entry_size
  entry_end q = omega arith

-- an entry is written in three pieces: mode text and space, name and NUL, id
module _ (h : ℕ) (bytes : List ℕ) (e : EntryRecord) (w : well_formed h (length bytes) e ≡ true) where
  pub entry-stored : (out first second after text : List ℕ) (at name id : ℕ) → text ≡ write_mode e.mode
      → name ≡ at + length (write_mode e.mode) + 1 → id ≡ name + (e.name_end - e.name_start) + 1
      → first ≡ sets out at (text ++ 32 ∷ []) → second ≡ sets first name (name_of bytes e ++ 0 ∷ [])
      → after ≡ sets second id (take (e.id_start + h - e.id_start) (drop e.id_start bytes))
      → after ≡ sets out at (entry_bytes (entry_of h bytes e))
  unfolding entry_bytes entry_of id_of
  entry-stored out first second after text at name id t p q x y z =
      let m : List ℕ = write_mode e.mode in
      let n : List ℕ = name_of bytes e in
      let d : List ℕ = take h (drop e.id_start bytes) in
      let k : e.id_start + h - e.id_start ≡ h = omega arith in
      let a : at + length (m ++ 32 ∷ []) ≡ name = simp length-append (omega arith) in
      let b : name + length (n ++ 0 ∷ []) ≡ id = simp length-append (omega (arith, name-length h bytes e w)) in
      z ∙ rw (k, y, x, t)
      (sym
      (rw (← append_snoc m 32 (n ++ 0 ∷ d), ← append_snoc n 0 d)
      (sets_append out at (m ++ 32 ∷ []) ((n ++ 0 ∷ []) ++ d)
      ∙ rw a (sets_append (sets out at (m ++ 32 ∷ [])) name (n ++ 0 ∷ []) d ∙ rw b))))

-- ---- the whole, behind its gate

module _ (h : ℕ) (bytes records : List ℕ) where
  pub size-shut : (v : Verdict) → gate_of h (length bytes) (many (length records)) ≡ Err v → tree_size h bytes records ≡ refused v
  unfolding tree_size
  size-shut v g = rw (records-many records) (gated-shut _ v _ g)

  pub size_open : gate_of h (length bytes) (many (length records)) ≡ Ok tt → tree_size h bytes records ≡ measured false h bytes 0 0 (records_of records)
  unfolding tree_size
  size_open g = rw (records-many records) (gated_open _ _ g)

  -- all that measuring asks
  pub within : (longest : ℕ) → length bytes ≤ longest → gate_of h longest (many (length records)) ≡ Ok tt
      → (h ≤ 32) × (length bytes ≤ most_bytes) × (length (records_of records) ≤ most_records)
  within longest p g =
      let o = gate_open h longest (many (length records)) g in
      ((id_small h o.0).1, omega (arith, o.1), rw (records-many records) o.2)

  module _ (room longest : ℕ) (e : longest ≡ max (length bytes) room) where
    pub answer-shut : (v : Verdict) → gate_of h longest (many (length records)) ≡ Err v → tree_answer h bytes records room ≡ refused v
    unfolding tree_answer
    answer-shut v g = rw (← e, records-many records) (gated-shut _ v _ g)

    pub answer_open : gate_of h longest (many (length records)) ≡ Ok tt → tree_answer h bytes records room ≡ fitted room (measured true h bytes 0 0 (records_of records))
    unfolding tree_answer
    answer_open g = rw (← e, records-many records) (gated_open _ _ g)

    -- what was measured and has room is the answer
    pub answer-fits : (m a : Answer) → m ≡ measured true h bytes 0 0 (records_of records) → a ≡ fitted room m → gate_of h longest (many (length records)) ≡ Ok tt
        → tree_answer h bytes records room ≡ a
    answer-fits m a p q g = answer_open g ∙ sym (q ∙ ap (fitted room) p)

  module _ (m : Answer) (p : m ≡ measured true h bytes 0 0 (records_of records)) where
    -- all that filling asks
    pub fills : (room : ℕ) (a : Answer) → a ≡ fitted room m → a.verdict.number ≡ 0
        → ((measured true h bytes 0 0 (records_of records)).verdict.number ≡ 0) × ((measured true h bytes 0 0 (records_of records)).count ≤ room)
    fills room a q z =
        let d = fitted-done room m (sym (ap (λ (x : Answer). x.verdict.number) q) ∙ z) in
        (sym (ap (λ (x : Answer). x.verdict.number) p) ∙ d.0, subst (λ (x : Answer). x.count ≤ room) p d.1)

    pub count-is : m.verdict.number ≡ 0 → m.count ≡ length (written h bytes (records_of records))
    count-is z =
        ap (λ (x : Answer). x.count) p
        ∙ measured-length true h bytes 0 0 (records_of records) (sym (ap (λ (x : Answer). x.verdict.number) p) ∙ z)
        ∙ omega arith
