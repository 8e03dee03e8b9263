-- The places of the calls on trees are where they are said to be: by every way through the definitions. Assumes nothing.
use Prim.Native.Nat.{ℕ, ◌<◌}
use native.Mathlib.Omega.{arith}
use mathlib.Core.Path.{◌≡◌, refl, sym, subst}
use mathlib.Core.Bool.{Bool}
use mathlib.Core.List.{List, [], ◌∷◌}
use contract.Monad.{fact_mono}
use lib.ListN.{length, take, length-take}
use Rattle.ground.specs.declared.Answer.{Answer}
use Rattle.entry.specs.Record.{many, records_of}
use Rattle.entry.specs.Decode.{decode, step_of}
use Rattle.entry.specs.declared.EntryRecord.{EntryRecord}
use Rattle.entry.specs.declared.Cursor.{Cursor}
use Rattle.entry.specs.declared.Step.{Step}
use Rattle.reading.specs.Listing.{listing}
use Rattle.reading.specs.Whole.{read_answer}
use Rattle.strict.specs.Strict.{strict_answer}
use Rattle.lookup.specs.Lookup.{lookup_in}
use Rattle.lookup.specs.declared.Looked.{Looked}
use Rattle.tree_write.specs.Write.{tree_size, tree_answer}
use Rattle.loose_header.specs.Header.{header_answer}
use Rattle.tree_calls.specs.Calls.{of_decoded}
use Rattle.call.specs.Places.{Below, Over, at_entry, at_record}
use Rattle.tree_calls.proofs.Entries.{each_decoded, each_step}
use Rattle.tree_calls.proofs.Reading.{each-plain, each-strict}
use Rattle.tree_calls.proofs.Lookup.{each-looked}
use Rattle.tree_calls.proofs.Writing.{each-size-asked, each-written, each-header}
use Rattle.call.proofs.Laws.{never, Indexed, Short, Wrote}
use Rattle.tree_calls.specs.Places.{TreePlaces}
use Rattle.ground.specs.declared.Verdict.{Verdict}
use Rattle.std.specs.Prelude.{Result}

decode-place : (h at : ℕ) (b : List ℕ) (x : Result (EntryRecord × Cursor) Verdict) → x ≡ decode h at b → (of_decoded x).verdict.number ≡ 3 → (of_decoded x).verdict.place ≡ at
decode-place h at b x q =
    subst (λ (y : Result (EntryRecord × Cursor) Verdict). (of_decoded y).verdict.number ≡ 3 → (of_decoded y).verdict.place ≡ at) (sym q)
    (each_decoded (λ y. (of_decoded y).verdict.number ≡ 3 → (of_decoded y).verdict.place ≡ at) (λ e next z. absurd (omega arith)) h at b (λ k p z. refl))

step-place : (h : ℕ) (s : List ℕ) (c : Cursor) (x : Step) → x ≡ step_of h s c → x.verdict.number ≡ 3
    → (x.verdict.place ≡ c.at) × (x.verdict.place < length s)
step-place h s c x q =
    rw q (each_step (λ y. y.verdict.number ≡ 3 → (y.verdict.place ≡ c.at) × (y.verdict.place < length s)) h s c (λ z. absurd (omega arith))
    (λ z. absurd (omega arith))
    (λ z. absurd (omega arith)) (λ k l p z. (refl, l)) (λ e next z. absurd (omega arith)))

-- inside the object, and more records than there is room for
abbrev Read : List ℕ → List ℕ → Answer → Type 0
Read s lent x = Below at_entry (length s) x.verdict × Over (4 ∷ []) (many (length lent)) x.verdict

plain-place : (h : ℕ) (s lent : List ℕ) (x : Answer) → x ≡ read_answer h s (listing h s) lent → Read s lent x
plain-place h s lent x q =
    subst (Read s lent) (sym q)
    (each-plain (Read s lent) h s lent (λ n. (never, never)) (never, never) (never, never) (λ at k l p. ((λ e. l), never)) (λ n l. (never, (λ e. l))))

strict_place : (k h : ℕ) (s lent : List ℕ) (x : Answer) → x ≡ strict_answer k h s lent → Read s lent x
strict_place k h s lent x q =
    subst (Read s lent) (sym q)
    (each-strict (Read s lent) h s lent (λ n. (never, never)) (never, never) (never, never) (λ at k l p. ((λ e. l), never)) (λ n l. (never, (λ e. l)))
    (λ at l. ((λ e. l), never)) (λ at l. ((λ e. l), never)) (λ at l. ((λ e. l), never)) (λ at l. ((λ e. l), never)) (λ at l. ((λ e. l), never))
    (never, never) k)

-- a record
abbrev Met : ℕ → Looked → Type 0
Met most x = Below at_record most x.verdict

looked-place : (h : ℕ) (object : List ℕ) (records : List EntryRecord) (name : List ℕ) (folder : Bool) (x : Looked)
    → x ≡ lookup_in h object records name folder → Met (length records) x
looked-place h object records name folder x q =
    subst (Met (length records)) (sym q) (each-looked (Met (length records)) (λ i c. never) (λ c. never) never never h object records name folder (λ i l e. l))

array-place : (h : ℕ) (object : List ℕ) (n : ℕ) (records : List EntryRecord) (name : List ℕ) (folder : Bool) (x : Looked)
    → x ≡ lookup_in h object (take n records) name folder → Met n x
array-place h object n records name folder x q e = omega (arith, looked-place h object (take n records) name folder x q e, length-take n records)

size-place : (h : ℕ) (bytes records : List ℕ) (x : Answer) → x ≡ tree_size h bytes records → Indexed (length (records_of records)) x
size-place h bytes records x q =
    subst (Indexed (length (records_of records))) (sym q) (each-size-asked (Indexed (length (records_of records))) (λ n. never) never never h bytes records
    (λ i l e. l))

tree-place : (h : ℕ) (bytes records : List ℕ) (room : ℕ) (x : Answer) → x ≡ tree_answer h bytes records room → Wrote (length (records_of records)) room x
tree-place h bytes records room x q =
    subst (Wrote (length (records_of records)) room) (sym q)
    (each-written (Wrote (length (records_of records)) room) (λ n. (never, never)) (never, never) (never, never) h bytes records
    (λ i l. ((λ e. l), never)) (λ i l. ((λ e. l), never)) room (λ n l. (never, (λ e. l))))

header-place : (kind size room : ℕ) (x : Answer) → x ≡ header_answer kind size room → Short room x
header-place kind size room x q = subst (Short room) (sym q) (each-header (Short room) (λ n. never) never kind size room (λ n l e. l))

pub tree_places : TreePlaces
tree_places = record {
  cursor_decode = λ c. decode-place _ _ _ _ c.meets;
  cursor_step = λ c. step-place _ _ _ _ c.meets;
  read_tree = λ c. plain-place _ c.given.args.0.now c.given.args.1.1.0.now _ c.meets.0;
  read_tree_strict = λ c. strict_place _ _ c.given.args.0.now c.given.args.1.1.1.0.now _ c.meets.0;
  bisect_entry = λ c. looked-place _ _ _ _ _ _ c.meets;
  bisect_array = λ c. array-place _ _ _ _ _ _ _ c.meets;
  bisect_records = λ M 𝓤 𝓛 mem run κs a g x w. fact_mono 𝓤 _ _ (looked-place _ _ _ _ _ x);
  tree_size = λ c. size-place _ _ _ _ c.meets;
  write_tree = λ c. tree-place _ _ _ _ _ c.meets.0;
  loose_header = λ c. header-place _ _ _ _ c.meets.0;
}
