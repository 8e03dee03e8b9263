-- What the two lookups of this crate answer, beside the lookup over flat numbers. The definition is the same, `lookup_in`, so `lookup-finds`,
-- `lookup-misses`, `lookup-count` and `lookup-slash` of crate lookup hold of them as they stand: at the records that are lent, and at the first
-- `count` records of the array. Assumes nothing.
use mathlib.Core.Path.{◌≡◌, refl, sym, ap, ◌∙◌}
use mathlib.Core.Bool.{Bool}
use mathlib.Core.List.{List}
use Prim.Native.Nat.{ℕ}
use lib.ListN.{take}
use seplogic.Ra.Ura.{Ura}
use base.Logic.{SProp}
use prog.Memory.{Memory}
use prog.Routine.{Routine}
use types.Logic.{Logic}
use contract.Lifetimes.{Lfts}
use contract.Monad.{Fun, fact}
use denote.Ref.{Bor}
use denote.Triple.Clauses.{AtExit}
use borrow.Fn.Kinds.{ended_of}
use Rattle.entry.specs.declared.EntryRecord.{EntryRecord}
use Rattle.entry.specs.Record.{records_of}
use Rattle.lookup.specs.declared.Looked.{Looked}
use Rattle.lookup.specs.Lookup.{lookup_in}
use Rattle.lookup.proofs.bisect_entry.Kinds as flat-kinds
use Rattle.lookup.proofs.bisect_entry.Reads as flat-reads
use Rattle.record_slice.proofs.bisect_array.Kinds as array-kinds
use Rattle.record_slice.proofs.bisect_array.Reads as array-reads
use Rattle.record_slice.specs.contracts.bisect_records as records-fn

module _ (object : Bor (List ℕ)) (h : ℕ) (name : Bor (List ℕ)) (folder : Bool) where
  -- ---- the contract of `bisect_records`, as the logic has it

  -- what it says of the answer r
  abbrev pub Said : Bor (List EntryRecord) → Looked → Type 0
  Said records r = r ≡ lookup_in h object.now records.now name.now folder

  -- this is its whole `ensures`
  pub records-said : (records : Bor (List EntryRecord)) {M : Type 1} {𝓤 : Ura M} (𝓛 : Logic 𝓤) (mem : Memory → SProp 𝓤)
      (run : Routine → Fun 𝓤) (κs : Lfts 3) (r : Looked) (w : AtExit records-fn.ended κs)
      → (records-fn.clauses 𝓛 mem run κs (object, (h, (records, (name, (folder, tt)))))).ensures tt r w ≡ fact 𝓤 (Said records r)
  records-said records 𝓛 mem run κs r w = refl

  -- so no second answer fits
  pub records-once : (records : Bor (List EntryRecord)) (x y : Looked) → Said records x → Said records y → x ≡ y
  records-once records x y p q = p ∙ sym q

  -- ---- the lookups agree

  module _ (flat : Bor (List ℕ)) (κs : Lfts 3) (x y : Looked) (w : AtExit (ended_of 3 flat-kinds.ps flat-kinds.r) κs)
      (p : flat-reads.Post κs (object, (h, (flat, (name, (folder, tt))))) x w) where
    -- the lookup over flat numbers and the one over a slice of structs give the same answer where the numbers are those records
    pub records_as_flat : (records : Bor (List EntryRecord)) → records_of flat.now ≡ records.now → Said records y → x ≡ y
    records_as_flat records e q = p ∙ ap (λ (rs : List EntryRecord). lookup_in h object.now rs name.now folder) e ∙ sym q

    -- and so do the lookup over flat numbers and the one over an array of structs
    pub array_as_flat : (count : ℕ) (records : List EntryRecord) → records_of flat.now ≡ take count records
        → (κs' : Lfts 2) (v : AtExit (ended_of 2 array-kinds.ps array-kinds.r) κs')
        → array-reads.Post κs' (object, (h, (count, (records, (name, (folder, tt)))))) y v → x ≡ y
    array_as_flat count records e κs' v q = p ∙ ap (λ (rs : List EntryRecord). lookup_in h object.now rs name.now folder) e ∙ sym q
