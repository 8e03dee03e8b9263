-- The second demand in one place: what joins the calls to Git's format in plain words, over the definitions that their contracts name (docs/FORMAT.md).
-- `proofs/Demand2.antt` proves it. Assumes nothing.
use Rattle.std.specs.Prelude.{ℕ, ◌+◌, ◌-◌, ◌*◌, ◌/◌, ◌%◌, ◌^◌, ◌≤◌, ◌<◌, ◌≡◌, Bool, true, false, ◌&&◌, List, [], ◌∷◌, ◌++◌, ◌⊎◌, ◌↔◌, length, get_or, take, drop, Some}
use Rattle.ground.specs.Scan.{free_of}
use Rattle.ground.specs.Verdict.{fine, most_bytes, most_records}
use Rattle.ground.specs.declared.Verdict.{Verdict}
use Rattle.mode.specs.Read.{is_octal, text_len, settle, read_mode}
use Rattle.mode.specs.Write.{write_mode}
use Rattle.order.specs.Order.{by_number, then_by, name_order}
use Rattle.entry.specs.Record.{records_of, name_of, id_of}
use Rattle.entry.specs.Decode.{step_of}
use Rattle.entry.specs.declared.EntryRecord.{EntryRecord}
use Rattle.entry.specs.declared.Cursor.{Cursor}
use Rattle.reading.specs.Listing.{listing}
use Rattle.reading.specs.Whole.{read_answer, read_records}
use Rattle.tree_round.specs.Demand.{ReadsBack}
use Rattle.actor.specs.Actor.{is_actor}
use Rattle.actor.specs.Form.{ActorForm}
use Rattle.header.specs.Record.{width}
use Rattle.commit_read.specs.Read.{commit_answer, commit_parents, commit_headers}
use Rattle.grammar.specs.Grammar.{Commit, CommitForm, commit_bytes}
use Rattle.commit_grammar.specs.Named.{named}
use Rattle.commit_grammar.specs.Claims.{FoldedExactly, UnfoldsToLines}
use Rattle.commit_grammar.specs.Refused.{RefusedCommits}
use Rattle.commit_round.specs.Claims as round
use Rattle.commit_round.specs.Claims.{AcceptedRewrites, FoldLine, FoldLines, FoldGains, FoldUnfolds, UnfoldedFolds}
use Rattle.demands.specs.Sentences.{CursorSentences, LookupSentences, SizeSentences}
use Rattle.std.specs.declared.cmp.Ordering.{Ordering}
use Rattle.std.specs.declared.cmp.Ordering.TheVariants.{Equal, Greater, Less}

-- ---- modes

-- what octal digits say by their places: eight times as much with each place to the left
unfoldable pub octal : List ℕ → ℕ
octal [] = 0
octal (b ∷ bs) = (b - 48) * 8 ^ length bs + octal bs

-- all of them are octal digits
abbrev pub are_octal : List ℕ → Bool
are_octal [] = true
are_octal (b ∷ bs) = is_octal b && are_octal bs

-- the mode text at the front of some bytes
abbrev pub text_in : List ℕ → List ℕ
text_in s = take (text_len s) s

pub record OfModeTexts : Type 0 where
  -- a mode that is read has a text of at most seven octal digits, and its number is what they say by their places, modulo 65,536; but 16384 from a text
  -- that begins with `0` is kept as 49152
  pub by_places : (s : List ℕ) (m n : ℕ) → read_mode s ≡ Some (record { internal = m }, n)
      → (are_octal (text_in s) ≡ true) × (length (text_in s) ≤ 7) × (m ≡ settle (octal (text_in s) % 65536) (get_or s 0 0))
  -- the text of a mode, a space and anything behind it read as that mode: every one but 0 and those from 49153 to 53247
  pub written_reads : (m : ℕ) (rest : List ℕ) → 0 < m → m < 65536 → (m ≤ 49152) ⊎ (53248 ≤ m)
      → read_mode (write_mode m ++ 32 ∷ rest) ≡ Some (record { internal = m }, length (write_mode m) + 1)

-- ---- order

-- the plain order of bytes: the first two that differ decide, and what ends first is below
unfoldable pub byte_order : List ℕ → List ℕ → Ordering
byte_order [] [] = Equal
byte_order [] (y ∷ b) = Less
byte_order (x ∷ a) [] = Greater
byte_order (x ∷ a) (y ∷ b) = then_by (by_number x y) (byte_order a b)

-- a name as Git sorts it: a folder's has a slash behind it
abbrev pub sorted : List ℕ → Bool → List ℕ
sorted a true = a ++ 47 ∷ []
sorted a false = a

pub record OfOrder : Type 0 where
  -- names without a slash stand in the plain order of bytes, each as Git sorts it
  pub order_as_documented : (a : List ℕ) (s : Bool) (b : List ℕ) (t : Bool) → free_of 47 a ≡ true → free_of 47 b ≡ true
      → name_order a s b t ≡ byte_order (sorted a s) (sorted b t)

-- ---- trees

-- an entry of an object, as Git lays it out: a mode text, a space, a name, NUL, an id; what follows it begins at the next place
pub record EntryForm (h : ℕ) (s : List ℕ) (at next : ℕ) (e : EntryRecord) : Type 0 where
  pub text : List ℕ
  pub laid : drop at s ≡ text ++ 32 ∷ (name_of s e ++ 0 ∷ (id_of h s e ++ drop next s))
  -- the text is at most seven octal digits, which say the mode by their places
  pub digits : are_octal text ≡ true
  pub few : length text ≤ 7
  pub mode : e.mode ≡ settle (octal text % 65536) (get_or (drop at s) 0 0)
  -- the name has no NUL, and the id has h bytes
  pub nulless : free_of 0 (name_of s e) ≡ true
  pub sized : length (id_of h s e) ≡ h

-- stepping from a cursor meets these records one after the other, and then none, with this verdict
abbrev pub Steps : ℕ → List ℕ → Cursor → List EntryRecord → Verdict → Type 0
Steps h s c [] v = ((step_of h s c).found ≡ false) × ((step_of h s c).verdict ≡ v)
Steps h s c (e ∷ es) v = ((step_of h s c).found ≡ true) × ((step_of h s c).entry ≡ e) × Steps h s (step_of h s c).next es v

-- a plain reading that is done, or refused for an entry: the bounds and the room refuse nothing
abbrev pub ReadOut : ℕ → List ℕ → List ℕ → Type 0
ReadOut h s lent = let v = (read_answer h s (listing h s) lent).verdict in (v.number ≡ 0) ⊎ (v.number ≡ 3)

pub record OfTrees : Type 0 where
  -- what a step finds where the cursor stands is an entry as Git lays it out, and the cursor goes on behind it
  pub found_is_entry : (h : ℕ) (s : List ℕ) (c : Cursor) → (step_of h s c).found ≡ true → EntryForm h s c.at (step_of h s c).next.at (step_of h s c).entry
  -- stepping from 0 comes to the end, with the verdict of the reading
  pub stepping_ends : (h : ℕ) (s lent : List ℕ) → ReadOut h s lent
      → (es : List EntryRecord) × Steps h s (record { at = 0 }) es (read_answer h s (listing h s) lent).verdict
  -- whatever stepping from 0 meets is what the reading gives: the verdict, and where it is done the records in the lent list
  pub steps_are_reading : (h : ℕ) (s lent : List ℕ) → ReadOut h s lent → let a = read_answer h s (listing h s) lent in
      (es : List EntryRecord) (v : Verdict) → Steps h s (record { at = 0 }) es v
      → (v ≡ a.verdict) × (v.number ≡ 0 → take a.count (records_of (read_records h s (listing h s) lent)) ≡ es)
  -- what was written reads back
  pub reads_back : ReadsBack
  -- where a step leaves the cursor, what a lookup returns besides its verdict, and sizes
  pub cursor : CursorSentences
  pub lookup : LookupSentences
  pub sizes : SizeSentences

-- ---- commits

pub record OfCommitBytes : Type 0 where
  -- a value passes as an author's or committer's exactly when it has the actor form
  pub actor_exactly : (v : List ℕ) → (is_actor v ≡ true) ↔ ActorForm v
  -- what is read is a commit by the grammar, and the bytes are its bytes
  pub read_is_commit : (s : List ℕ) (h : ℕ) (ps hs : List ℕ) → (commit_answer s h ps hs).verdict ≡ fine
      → let c = named h s (commit_answer s h ps hs) (commit_parents s h ps hs) (commit_headers s h ps hs) in (s ≡ commit_bytes c) × CommitForm h c
  -- every commit by the grammar, within the bounds and with room, is read, and what is named is that commit
  pub commit_is_read : (h : ℕ) (c : Commit) (ps hs : List ℕ) → CommitForm h c → (h ≡ 20) ⊎ (h ≡ 32) → length (commit_bytes c) ≤ most_bytes
      → length ps ≤ most_records → length hs / width ≤ most_records → length c.parents ≤ length ps → length c.headers ≤ length hs / width
      → let s = commit_bytes c in
      ((commit_answer s h ps hs).verdict ≡ fine) × (named h s (commit_answer s h ps hs) (commit_parents s h ps hs) (commit_headers s h ps hs) ≡ c)
  -- what is refused, in the grammar's words: the first field that is missing or malformed, and the bytes before it
  pub refused_commits : RefusedCommits
  -- a value is folded exactly when it has the folded form, and unfolds to its lines
  pub folded_exactly : FoldedExactly
  pub unfolds_to_lines : UnfoldsToLines

pub record OfCommitWriting : Type 0 where
  -- what was written reads back; what was accepted is written as itself
  pub reads_back : round.ReadsBack
  pub accepted_rewrites : AcceptedRewrites
  -- how a value is folded: one line, several, without a last LF; and back
  pub fold_line : FoldLine
  pub fold_lines : FoldLines
  pub fold_gains : FoldGains
  pub fold_unfolds : FoldUnfolds
  pub unfolded_folds : UnfoldedFolds

pub record SecondDemand : Type 0 where
  pub of_mode_texts : OfModeTexts
  pub of_order : OfOrder
  pub of_trees : OfTrees
  pub of_commit_bytes : OfCommitBytes
  pub of_commit_writing : OfCommitWriting
