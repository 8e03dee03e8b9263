-- What was read may be written: the parts of an accepted commit and the fronts of the lent lists pass every check (`read-sound`), so that,
-- with its ids in lower case and its encoding not empty, it is written as itself and nothing refuses (`accepted_rewrites`).
-- Assumes nothing.
use Prim.Native.Nat.{ℕ, ◌-◌, ◌*◌, ◌/◌, ◌≤◌, max}
use mathlib.Core.Path.{◌≡◌, refl, ap, sym, subst, ◌∙◌}
use mathlib.Core.List.{List, [], ◌∷◌, ◌++◌, map}
use native.Mathlib.Omega.{arith}
use lib.ListN.{length, take, drop, length-take}
use Rattle.ground.specs.Verdict.{fine, counted, most_bytes}
use Rattle.ground.proofs.Laws.{gate_open, id_small}
use Rattle.header.specs.Record.{width}
use Rattle.header.specs.declared.HeaderRecord.{HeaderRecord}
use Rattle.commit_fields.specs.Headers.{heads, rest_heads, records_of, flats}
use Rattle.commit_read.specs.Read.{commit_outcome, commit_answer, commit_parents, commit_headers, answer_in, headers_in}
use Rattle.commit_fields.specs.declared.Found.{Found}
use Rattle.commit_fields.proofs.Laws.{outcome_inverse, outcome_fits, tally-count}
use Rattle.grammar.specs.Grammar.{Encoding, absent, given, Commit, EncodingForm, CommitForm}
use Rattle.grammar.specs.Named.{records_from}
use Rattle.commit_grammar.proofs.Refusals.{BadOutcome, outcome_bad}
use Rattle.commit_grammar.proofs.Theorems.{records_back, read_is_commit}
use Rattle.commit_check.specs.Check.{headers_of, header_fits, passing}
use Rattle.commit_check.specs.Sound.{Sound}
use Rattle.commit_check.proofs.Laws.{records-length}
use Rattle.commit_write.specs.Written.{lower_hex}
use Rattle.commit_write.specs.Write as write
use Rattle.commit_write.proofs.Done.{writes}
use Rattle.commit_round.specs.Claims.{parents_front, headers_front, AcceptedRewrites}
use Rattle.commit_round.specs.Round.{LowerIds}
use Rattle.commit_round.proofs.Fronts.{front_records, headers-there, fronts_name, read_written}
use Rattle.commit_round.proofs.Accepted.{AllFit, PartsFit, parts-fit, heads-fit, id-fits, ids_fit}
use Rattle.commit_fields.specs.declared.Refusal.{Refusal}
use Rattle.std.specs.Prelude.{Err, Ok, Result}

-- ---- what was found

record ReadFound (s : List ℕ) (h : ℕ) (ps hs : List ℕ) : Type 0 where
  found : Found
  whole : commit_outcome s h ps hs ≡ Ok found

read_found : (s : List ℕ) (h : ℕ) (ps hs : List ℕ) → (commit_answer s h ps hs).verdict ≡ fine → ReadFound s h ps hs
unfolding answer_in
read_found s h ps hs v = by (commit_outcome s h ps hs) refl (outcome_bad s h (length ps) (length hs / width)) v
  where
    by : (o : Result Found Refusal) → commit_outcome s h ps hs ≡ o → BadOutcome o → (answer_in o).verdict ≡ fine → ReadFound s h ps hs
    by (Err r) q b v = absurd (b v)
    by (Ok x) q b v = record { found = x; whole = q }

module _ (s : List ℕ) (h : ℕ) (ps hs : List ℕ) (x : Found) (q : commit_outcome s h ps hs ≡ Ok x) where
  parts_are : (commit_answer s h ps hs).parts ≡ x.parts
  unfolding answer_in
  parts_are = rw q

  parents_are : (commit_answer s h ps hs).parents ≡ x.parents
  unfolding answer_in
  parents_are = rw q

  headers_are : (commit_answer s h ps hs).headers ≡ x.headers
  unfolding answer_in
  headers_are = rw q

  stored_are : commit_headers s h ps hs ≡ flats (records_of (heads s x.first)) ++ drop (x.headers * width) hs
  unfolding headers_in
  stored_are = rw q

  -- the front of the lent headers is the records found
  front_are : (commit_answer s h ps hs).verdict ≡ fine → headers_of (take ((commit_answer s h ps hs).headers * width) (commit_headers s h ps hs)) ≡ records_of (heads s x.first)
  front_are v =
      let l = records_of (heads s x.first) in
      let f = outcome_fits s h (length ps) (length hs / width) x q in
      let n : x.headers ≡ length l = f.headers_are ∙ tally-count 0 (heads s x.first) ∙ omega arith in
      let m : (commit_answer s h ps hs).headers ≡ length l = headers_are ∙ n in
      front_records (commit_headers s h ps hs) (commit_answer s h ps hs).headers (headers-there s h ps hs v)
      ∙ ap (λ (k : ℕ). records_from 0 k (commit_headers s h ps hs)) m
      ∙ ap (records_from 0 (length l)) stored_are
      ∙ records_back [] 0 refl l (drop (x.headers * width) hs)

  all_fit : AllFit s (heads s x.first)
  unfolding rest_heads
  all_fit = heads-fit (length s - 0) s x.first

module _ (s : List ℕ) (h : ℕ) (ps hs : List ℕ) (v : (commit_answer s h ps hs).verdict ≡ fine) (room : ℕ) (m : room ≤ most_bytes) where
  sound-by : (x : Found) → commit_outcome s h ps hs ≡ Ok x → Sound h s (commit_answer s h ps hs).parts (parents_front s h ps hs) (headers_front s h ps hs) room
  sound-by x q =
      let o = outcome_inverse s h (length ps) (length hs / width) x q in
      let g = gate_open h (length s) (max (length ps) (length hs / width)) o.0 in
      let c = (read_is_commit s h ps hs v).1 in
      let small = (id_small h g.0).0 in
      let p : PartsFit s (commit_answer s h ps hs).parts = subst (PartsFit s) (sym (parts_are s h ps hs x q)) (parts-fit s h x o.1) in
      let hl : headers_of (headers_front s h ps hs) ≡ records_of (heads s x.first) = front_are s h ps hs x q v in
      record {
        id_length = g.0;
        bytes_most = g.1;
        room_most = m;
        parents_most = omega (arith, length-take (commit_answer s h ps hs).parents (commit_parents s h ps hs), parents_are s h ps hs x q, o.2, g.2);
        headers_most = omega (arith, length-take ((commit_answer s h ps hs).headers * width) (commit_headers s h ps hs), headers_are s h ps hs x q, o.3, g.2);
        tree = id-fits h s (commit_answer s h ps hs).parts.tree (omega (arith, small)) c.tree;
        parents_pass = ids_fit h s (parents_front s h ps hs) (omega (arith, small)) c.parents;
        author = p.author;
        committer = p.committer;
        encoding = p.encoding;
        headers_pass =
            ap (λ (l : List HeaderRecord). passing (map (header_fits s) l)) hl ∙ all_fit s h ps hs x q ∙ ap length (sym hl)
            ∙ records-length 0 (length (headers_front s h ps hs) / width) (headers_front s h ps hs);
        message = p.message;
      }

  pub read-sound : Sound h s (commit_answer s h ps hs).parts (parents_front s h ps hs) (headers_front s h ps hs) room
  read-sound = let k = read_found s h ps hs v in sound-by k.found k.whole

-- ---- the theorem

allowed : (e : Encoding) → EncodingForm e → (e ≡ given [] → ⊥) → write.encoding_refusal e ≡ 0
unfolding write.encoding_refusal
allowed absent f n = refl
allowed (given []) f n = absurd (n refl)
allowed (given (b ∷ bs)) f n = rw f

pub accepted_rewrites : AcceptedRewrites
accepted_rewrites s h ps hs v room l m c e t d n =
    let same = sym (fronts_name s h ps hs v ∙ sym e) in
    let f : CommitForm h c = rw e (read_is_commit s h ps hs v).1 in
    let w = read_written s h ps hs v (subst (λ (y : Commit). lower_hex y.tree ≡ y.tree) same t) (subst (λ (y : Commit). LowerIds y.parents) same d) in
    let a : write.encoding_refusal c.encoding ≡ 0 = allowed c.encoding f.encoding n in
    let k = writes h s (commit_answer s h ps hs).parts (parents_front s h ps hs) (headers_front s h ps hs) room (read-sound s h ps hs v room m)
    (ap (λ (y : Commit). write.encoding_refusal y.encoding) (sym same) ∙ a) (rw w l) in
    (k ∙ ap (λ (y : List ℕ). counted (length y)) w, w)
