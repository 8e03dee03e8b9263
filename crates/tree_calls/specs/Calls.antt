-- The public calls on trees, each by its own contract, and what the answers of those that refuse say: entries, reading, lookup, writing, the text of a
-- listing. Assumes nothing.
use Rattle.std.specs.Prelude.{List, [], ◌∷◌, Err, Ok, Result}
use Rattle.ground.specs.Basics.{pick}
use Rattle.entry.specs.Record.{flat}
use Rattle.entry.specs.Decode.{decoded_verdict}
use Rattle.entry.specs.declared.Step.{Step}
use Rattle.lookup.specs.declared.Looked.{Looked}
use Rattle.output.proofs as output
use Rattle.entry.proofs as entry
use Rattle.entry_record.proofs as entry_record
use Rattle.doubles.proofs as doubles
use Rattle.rules.proofs as rules
use Rattle.names.proofs as names
use Rattle.reading.proofs as reading
use Rattle.strict.proofs as strict
use Rattle.lookup.proofs as lookup
use Rattle.listing_text.proofs as listing
use Rattle.part_words.proofs as part_words
use Rattle.probe.proofs as probe
use Rattle.record_slice.proofs as slice
use Rattle.record_slice.specs.contracts.bisect_records as records_fn
use Rattle.lookups.proofs as lookups
use Rattle.tree_write.proofs as tree
use Rattle.loose_header.proofs as loose
use Rattle.call.specs.Call.{Call, call, Input, Said, Deed}
use Rattle.call.specs.Walked.{Walked}
use Rattle.call.specs.Deeds.{of_verdict, of_answer, of_gate, reads, stores, writes}
use Rattle.entry.specs.declared.Cursor.{Cursor}
use Rattle.entry.specs.declared.EntryRecord.{EntryRecord}
use Rattle.ground.specs.declared.Verdict.{Verdict}

-- the record of an entry that was read
abbrev pub of_decoded : Result (EntryRecord × Cursor) Verdict → Said
of_decoded (Ok (e, next)) = record { verdict = decoded_verdict (Ok (e, next)); counts = flat e }
of_decoded (Err v) = of_verdict (decoded_verdict (Err v))

-- whether an entry was found, and its record
abbrev pub of_step : Step → Said
of_step x = record { verdict = x.verdict; counts = pick x.found 1 0 ∷ flat x.entry }

abbrev pub of_looked : Looked → Said
of_looked x = record { verdict = x.verdict; counts = x.index ∷ x.compared ∷ [] }

-- ---- entries

abbrev pub cursor_step : Deed
cursor_step = reads (call entry.Cursor.step.Kinds.ps entry.Cursor.step.Kinds.r entry.Cursor.step.Reads.Asked entry.Cursor.step.Reads.Post) (λ i x. of_step x)

abbrev pub cursor_decode : Deed
cursor_decode = reads (call entry.Cursor.decode.Kinds.ps entry.Cursor.decode.Kinds.r entry.Cursor.decode.Reads.Asked entry.Cursor.decode.Reads.Post) (λ i x. of_decoded x)

abbrev pub put_entry : Deed
put_entry = stores (call entry_record.put_entry.Kinds.ps entry_record.put_entry.Kinds.r entry_record.put_entry.Reads.Asked entry_record.put_entry.Reads.Post) (λ i. i.args.0.now) (λ i o. o.last.0.now)

abbrev pub entry_questions : List Call
entry_questions =
    call entry_record.entry_at.Kinds.ps entry_record.entry_at.Kinds.r entry_record.entry_at.Reads.Asked entry_record.entry_at.Reads.Post
    ∷ call entry_record.well_formed.Kinds.ps entry_record.well_formed.Kinds.r entry_record.well_formed.Reads.Asked entry_record.well_formed.Reads.Post
    ∷ call entry_record.is_folder.Kinds.ps entry_record.is_folder.Kinds.r entry_record.is_folder.Reads.Asked entry_record.is_folder.Reads.Post
    ∷ []

-- ---- reading

abbrev pub rule_bounds : Deed
rule_bounds = reads (call rules.rule_bounds.Kinds.ps rules.rule_bounds.Kinds.r rules.rule_bounds.Reads.Asked rules.rule_bounds.Reads.Post) (λ i x. of_gate x)

abbrev pub rule_questions : List Call
rule_questions =
    call rules.mode_permitted.Kinds.ps rules.mode_permitted.Kinds.r rules.mode_permitted.Reads.Asked rules.mode_permitted.Reads.Post
    ∷ call names.name_number.Kinds.ps names.name_number.Kinds.r names.name_number.Reads.Asked names.name_number.Reads.Post
    ∷ call names.reserved_number.Kinds.ps names.reserved_number.Kinds.r names.reserved_number.Reads.Asked names.reserved_number.Reads.Post
    ∷ []

abbrev pub place_entry : Deed
place_entry = stores (call doubles.place_entry.Kinds.ps doubles.place_entry.Kinds.r doubles.place_entry.Reads.Asked doubles.place_entry.Reads.Post) (λ i. i.args.0.now) (λ i o. o.last.0.now)

abbrev pub open_entry : Deed
open_entry = stores (call doubles.open_entry.Kinds.ps doubles.open_entry.Kinds.r doubles.open_entry.Reads.Asked doubles.open_entry.Reads.Post) (λ i. i.args.0.now) (λ i o. o.last.0.now)

abbrev pub finish_reading : Deed
finish_reading = stores (call reading.finish.Kinds.ps reading.finish.Kinds.r reading.finish.Reads.Asked reading.finish.Reads.Post) (λ i. i.args.1.1.1.0.now) (λ i o. o.last.1.1.1.0.now)

abbrev pub read_tree : Deed
read_tree = writes (call reading.read_tree.Kinds.ps reading.read_tree.Kinds.r reading.read_tree.Reads.Asked reading.read_tree.Reads.Post) (λ i x. x) (λ i. i.args.1.1.0.now) (λ i o. o.last.1.1.0.now)

abbrev pub read_tree_strict : Deed
read_tree_strict = writes (call strict.read_tree_strict.Kinds.ps strict.read_tree_strict.Kinds.r strict.read_tree_strict.Reads.Asked strict.read_tree_strict.Reads.Post) (λ i x. x) (λ i. i.args.1.1.1.0.now) (λ i o. o.last.1.1.1.0.now)

-- ---- lookup

abbrev pub bisect_entry : Deed
bisect_entry = reads (call lookup.bisect_entry.Kinds.ps lookup.bisect_entry.Kinds.r lookup.bisect_entry.Reads.Asked lookup.bisect_entry.Reads.Post) (λ i x. of_looked x)

abbrev pub bisect_any : Deed
bisect_any = reads (call lookup.bisect_any.Kinds.ps lookup.bisect_any.Kinds.r lookup.bisect_any.Reads.Asked lookup.bisect_any.Reads.Post) (λ i x. of_looked x)

abbrev pub bisect_array : Deed
bisect_array = reads (call slice.bisect_array.Kinds.ps slice.bisect_array.Kinds.r slice.bisect_array.Reads.Asked slice.bisect_array.Reads.Post) (λ i x. of_looked x)

abbrev pub bisect_records : Walked
bisect_records = record { ended = records_fn.ended; contract = λ M 𝓤. records_fn.clauses; said = λ κs x. of_looked x }

abbrev pub bisect_entries : Deed
bisect_entries =
    writes (call lookups.bisect_entries.Kinds.ps lookups.bisect_entries.Kinds.r lookups.bisect_entries.Reads.Asked lookups.bisect_entries.Reads.Post) (λ i x. x)
    (λ i. i.args.1.1.1.1.1.0.now) (λ i o. o.last.1.1.1.1.1.0.now)

-- a search under way, by the answer that it holds
abbrev pub lookup_start : Deed
lookup_start = reads (call probe.start.Kinds.ps probe.start.Kinds.r probe.start.Reads.Asked probe.start.Reads.Post) (λ i x. of_looked x.looked)

abbrev pub lookup_step : Deed
lookup_step = reads (call probe.step.Kinds.ps probe.step.Kinds.r probe.step.Reads.Asked probe.step.Reads.Post) (λ i x. of_looked x.looked)

abbrev pub lookup_answer : Deed
lookup_answer = reads (call probe.answer.Kinds.ps probe.answer.Kinds.r probe.answer.Reads.Asked probe.answer.Reads.Post) (λ i x. of_looked x)

-- what the step and the answer are handed
abbrev pub step_given : Input lookup_step.call → Said
step_given i = of_looked i.args.1.1.1.0.looked

abbrev pub answer_given : Input lookup_answer.call → Said
answer_given i = of_looked i.args.0.looked

abbrev pub lookup_questions : List Call
lookup_questions =
    call lookup.most_comparisons.Kinds.ps lookup.most_comparisons.Kinds.r lookup.most_comparisons.Reads.Asked lookup.most_comparisons.Reads.Post
    ∷ []

-- ---- writing trees

abbrev pub tree_size : Deed
tree_size = reads (call tree.tree_size.Kinds.ps tree.tree_size.Kinds.r tree.tree_size.Reads.Asked tree.tree_size.Reads.Post) (λ i x. of_answer x)

abbrev pub write_tree : Deed
write_tree = writes (call tree.write_tree.Kinds.ps tree.write_tree.Kinds.r tree.write_tree.Reads.Asked tree.write_tree.Reads.Post) (λ i x. x) (λ i. i.args.1.1.1.0.now) (λ i o. o.last.1.1.1.0.now)

abbrev pub loose_header : Deed
loose_header = writes (call loose.loose_header.Kinds.ps loose.loose_header.Kinds.r loose.loose_header.Reads.Asked loose.loose_header.Reads.Post) (λ i x. x) (λ i. i.args.1.1.0.now) (λ i o. o.last.1.1.0.now)

abbrev pub digit_questions : List Call
digit_questions = call loose.decimal_of.Kinds.ps loose.decimal_of.Kinds.r loose.decimal_of.Reads.Asked loose.decimal_of.Reads.Post ∷ []

-- an answer held to the room that is lent, and the answer that it is handed
abbrev pub fit : Deed
fit = reads (call output.fit.Kinds.ps output.fit.Kinds.r output.fit.Reads.Asked output.fit.Reads.Post) (λ i x. of_answer x)

abbrev pub fit_given : Input fit.call → Said
fit_given i = of_answer i.args.1.0

-- ---- the text of a listing

abbrev pub put_part : Deed
put_part = stores (call part_words.put_part.Kinds.ps part_words.put_part.Kinds.r part_words.put_part.Reads.Asked part_words.put_part.Reads.Post) (λ i. i.args.0.now) (λ i o. o.last.0.now)

abbrev pub put_listing : Deed
put_listing = record {
  call = call listing.put_listing.Kinds.ps listing.put_listing.Kinds.r listing.put_listing.Reads.Asked listing.put_listing.Reads.Post;
  before = λ i. i.args.1.1.0.now ∷ [];
  after = λ i o. o.last.1.1.0.now ∷ [];
  handed = λ i o. [];
  said = λ i o. of_verdict o.answer.verdict;
}
