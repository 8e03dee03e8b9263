-- Where the parts of a commit stand, or the first field that fails (docs/FORMAT.md, "Commits" and "Numbers"). Assumes nothing.
use Rattle.std.specs.Prelude.{ℕ, ◌+◌, ◌*◌, List, length, get_or, eqb, Err, None, Ok, Option, Result, Some}
use Rattle.ground.specs.Basics.{pick, part}
use Rattle.ground.specs.Verdict.{verdict}
use Rattle.actor.specs.Actor.{is_actor}
use Rattle.header.specs.Words.{tree_word, author_word, committer_word, encoding_word}
use Rattle.commit_line.specs.Line.{id_at, line_at}
use Rattle.commit_fields.specs.Parents.{parent_count}
use Rattle.commit_fields.specs.Headers.{heads, tally}
use Rattle.commit_fields.specs.declared.Refusal.{Refusal}
use Rattle.commit_fields.specs.declared.Encoding.{Encoding}
use Rattle.commit_fields.specs.declared.HeaderCount.{HeaderCount}
use Rattle.commit_fields.specs.declared.Found.{Found}

-- a number of the table, its place, and the field that failed
abbrev pub refusal : ℕ → ℕ → ℕ → Refusal
refusal number place field = record { verdict = verdict number place; field = field }

-- an author's or committer's line: 11 with its field where it is missing, 12 where its value has not the actor form
unfoldable pub actor_of : List ℕ → ℕ → ℕ → Option (ℕ × ℕ) → Result (ℕ × ℕ) Refusal
actor_of s at field None = Err (refusal 11 at field)
actor_of s at field (Some (from, to)) = pick (is_actor (part from to s)) (Ok (from, to)) (Err (refusal 12 at 0))

unfoldable pub actor_at : List ℕ → ℕ → List ℕ → ℕ → Result (ℕ × ℕ) Refusal
actor_at s at word field = actor_of s at field (line_at word s at)

-- the encoding's value, if its line is there, and the place after it
unfoldable pub encoding_of : ℕ → Option (ℕ × ℕ) → Encoding
encoding_of at None = record { mark = 0; start = 0; end = 0; next = at }
encoding_of at (Some (from, to)) = record { mark = 1; start = from; end = to; next = to + 1 }

unfoldable pub encoding_at : List ℕ → ℕ → Encoding
encoding_at s at = encoding_of at (line_at encoding_word s at)

-- what is found after n parents: author a to e, committer b to f, the encoding, the headers, and the message after the blank line
abbrev pub found_of : List ℕ → ℕ → ℕ → ℕ → ℕ → ℕ → Encoding → HeaderCount → Found
found_of s n a e b f enc k =
    record {
      parents = n;
      headers = k.count;
      first = enc.next;
      parts =
          record {
            tree = 5;
            author_start = a;
            author_end = e;
            committer_start = b;
            committer_end = f;
            encoding = enc.mark;
            encoding_start = enc.start;
            encoding_end = enc.end;
            message_start = k.end + 1;
            message_end = length s;
          };
    }

-- the blank line, field 4
unfoldable pub blank_of : List ℕ → ℕ → ℕ → ℕ → ℕ → ℕ → Encoding → HeaderCount → Result Found Refusal
blank_of s n a e b f enc k = pick (eqb (get_or s k.end 0) 10) (Ok (found_of s n a e b f enc k)) (Err (refusal 11 k.end 4))

-- what follows the committer: encoding, headers, blank line
unfoldable pub ending_of : List ℕ → ℕ → ℕ → ℕ → ℕ → ℕ → Result Found Refusal
ending_of s n a e b f = blank_of s n a e b f (encoding_at s (f + 1)) (tally 0 (heads s (encoding_at s (f + 1)).next))

-- the committer, field 3, and what follows
unfoldable pub with_committer : List ℕ → ℕ → ℕ → ℕ → Result (ℕ × ℕ) Refusal → Result Found Refusal
with_committer s n a e (Err r) = Err r
with_committer s n a e (Ok (b, f)) = ending_of s n a e b f

-- the author, field 2, and what follows
unfoldable pub with_author : List ℕ → ℕ → Result (ℕ × ℕ) Refusal → Result Found Refusal
with_author s n (Err r) = Err r
with_author s n (Ok (a, e)) = with_committer s n a e (actor_at s (e + 1) committer_word 3)

-- both, from a place on
unfoldable pub people_of : List ℕ → ℕ → ℕ → Result Found Refusal
people_of s n at = with_author s n (actor_at s at author_word 2)

-- the tree, field 1, in a line of 2H + 6 bytes; then the parents
unfoldable pub fields_of : List ℕ → ℕ → Result Found Refusal
fields_of s h =
    pick (id_at tree_word h s 0)
    (people_of s (parent_count h s (6 + 2 * h)) (6 + 2 * h + parent_count h s (6 + 2 * h) * (8 + 2 * h)))
    (Err (refusal 11 0 1))
