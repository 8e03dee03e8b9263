-- The public calls on commits, each by its own contract, and what the answers of those that refuse say. Assumes nothing.
use Rattle.std.specs.Prelude.{ℕ, List, [], ◌∷◌}
use Rattle.header.specs.declared.CommitParts.{CommitParts}
use Rattle.commit_read.specs.declared.CommitRead.{CommitRead}
use Rattle.actor.proofs as actor
use Rattle.header.proofs as header
use Rattle.commit_line.proofs as commit_line
use Rattle.extra_header.proofs as extra_header
use Rattle.commit_value.proofs as commit_value
use Rattle.unfold.proofs as folded
use Rattle.commit_fields.proofs as commit_fields
use Rattle.commit_read.proofs as commit
use Rattle.commit_check.proofs as check
use Rattle.commit_write.proofs as written
use Rattle.call.specs.Call.{Call, call, Said, Deed}
use Rattle.call.specs.Deeds.{of_verdict, of_answer, reads, stores, writes}

-- both counts, and the places of all parts
abbrev pub of_commit : CommitRead → Said
of_commit x = record { verdict = x.verdict; counts = x.parents ∷ x.headers ∷ places x.parts }
  where
    places : CommitParts → List ℕ
    places p =
        p.tree
        ∷ p.author_start
        ∷ p.author_end
        ∷ p.committer_start
        ∷ p.committer_end
        ∷ p.encoding
        ∷ p.encoding_start
        ∷ p.encoding_end
        ∷ p.message_start
        ∷ p.message_end
        ∷ []

-- ---- commits

abbrev pub unfold_value : Deed
unfold_value = writes (call folded.«unfold».Kinds.ps folded.«unfold».Kinds.r folded.«unfold».Reads.Asked folded.«unfold».Reads.Post) (λ i x. x) (λ i. i.args.1.1.0.now) (λ i o. o.last.1.1.0.now)

abbrev pub put_byte : Deed
put_byte = stores (call commit_value.put_byte.Kinds.ps commit_value.put_byte.Kinds.r commit_value.put_byte.Reads.Asked commit_value.put_byte.Reads.Post) (λ i. i.args.0.now) (λ i o. o.last.0.now)

abbrev pub put_value : Deed
put_value = stores (call commit_value.put_value.Kinds.ps commit_value.put_value.Kinds.r commit_value.put_value.Reads.Asked commit_value.put_value.Reads.Post) (λ i. i.args.0.now) (λ i o. o.last.0.now)

abbrev pub put_header : Deed
put_header = stores (call header.put_header.Kinds.ps header.put_header.Kinds.r header.put_header.Reads.Asked header.put_header.Reads.Post) (λ i. i.args.0.now) (λ i o. o.last.0.now)

-- it is lent two lists
abbrev pub read_commit : Deed
read_commit =
    record {
      call = call commit.read_commit.Kinds.ps commit.read_commit.Kinds.r commit.read_commit.Reads.Asked commit.read_commit.Reads.Post;
      before = λ i. i.args.1.1.0.now ∷ i.args.1.1.1.0.now ∷ [];
      after = λ i o. o.last.1.1.0.now ∷ o.last.1.1.1.0.now ∷ [];
      handed = λ i o. [];
      said = λ i o. of_commit o.answer;
    }

abbrev pub check_commit : Deed
check_commit = reads (call check.check_commit.Kinds.ps check.check_commit.Kinds.r check.check_commit.Reads.Asked check.check_commit.Reads.Post) (λ i x. of_verdict x)

abbrev pub commit_size : Deed
commit_size = reads (call written.commit_size.Kinds.ps written.commit_size.Kinds.r written.commit_size.Reads.Asked written.commit_size.Reads.Post) (λ i x. of_answer x)

abbrev pub write_commit : Deed
write_commit = writes (call written.write_commit.Kinds.ps written.write_commit.Kinds.r written.write_commit.Reads.Asked written.write_commit.Reads.Post) (λ i x. x) (λ i. i.args.1.1.1.1.1.0.now) (λ i o. o.last.1.1.1.1.1.0.now)

abbrev pub commit_questions : List Call
commit_questions =
    call actor.is_actor.Kinds.ps actor.is_actor.Kinds.r actor.is_actor.Reads.Asked actor.is_actor.Reads.Post
    ∷ call commit_line.id_line.Kinds.ps commit_line.id_line.Kinds.r commit_line.id_line.Reads.Asked commit_line.id_line.Reads.Post
    ∷ call commit_line.value_line.Kinds.ps commit_line.value_line.Kinds.r commit_line.value_line.Reads.Asked commit_line.value_line.Reads.Post
    ∷ call extra_header.extra_at.Kinds.ps extra_header.extra_at.Kinds.r extra_header.extra_at.Reads.Asked extra_header.extra_at.Reads.Post
    ∷ call extra_header.is_folded.Kinds.ps extra_header.is_folded.Kinds.r extra_header.is_folded.Reads.Asked extra_header.is_folded.Reads.Post
    ∷ call commit_value.encoding_fault.Kinds.ps commit_value.encoding_fault.Kinds.r commit_value.encoding_fault.Reads.Asked commit_value.encoding_fault.Reads.Post
    ∷ call commit_fields.decide.Kinds.ps commit_fields.decide.Kinds.r commit_fields.decide.Reads.Asked commit_fields.decide.Reads.Post
    ∷ call header.header_at.Kinds.ps header.header_at.Kinds.r header.header_at.Reads.Asked header.header_at.Reads.Post
    ∷ call header.well_formed.Kinds.ps header.well_formed.Kinds.r header.well_formed.Reads.Asked header.well_formed.Reads.Post
    ∷ []
