-- Reading finds a commit exactly where the bytes are those of one: over the fields, without the lent lists. Assumes nothing.
use Prim.Native.Nat.{ℕ, ◌+◌, ◌*◌}
use mathlib.Core.Path.{◌≡◌, refl, ap, sym, ◌∙◌}
use mathlib.Core.Bool.{true, false}
use mathlib.Core.List.{List, ◌∷◌, ◌++◌, map}
use native.Mathlib.Omega.{arith}
use lib.ListN.{length, drop}
use Rattle.ground.specs.Basics.{part}
use Rattle.ground.proofs.Laws.{part-from, is_false}
use Rattle.actor.proofs.Form.{actor_form, form_actor, actor_one-line}
use Rattle.actor.specs.Form.{ActorForm}
use Rattle.header.specs.Words.{tree_word, parent_word, author_word, committer_word}
use Rattle.commit_line.specs.Line.{word_at}
use Rattle.commit_line.proofs.Laws.{id-line-no}
use Rattle.commit_fields.specs.Parents.{parent_at, parent_starts}
use Rattle.commit_fields.specs.Headers.{heads, records_of, tally}
use Rattle.commit_fields.specs.Fields.{actor_at, encoding_at, found_of, fields_of}
use Rattle.commit_fields.specs.declared.Found.{Found}
use Rattle.commit_fields.proofs.Laws.{actor_good, actor_parts, ending-is, people-both, fields-are, Parts, fields-parts, blank_fits, tally-count}
use Rattle.grammar.specs.Grammar.{Header, Encoding, Commit, line, parents_bytes, encoding_bytes, headers_bytes, commit_bytes, CommitForm}
use Rattle.grammar.specs.Named.{id_named, header_named, commit_of}
use Rattle.commit_grammar.proofs.Pieces.{cut, part_none, after, byte-is, byte-after, value-part, line_after, word_read, id-read, id-stands, value_read, value-stands}
use Rattle.commit_grammar.proofs.Parents.{parents-read, parents_stand}
use Rattle.commit_grammar.proofs.Headers.{headers-read, headers_stand}
use Rattle.commit_grammar.proofs.Encodings.{encoding_named, encoding-read, encoding-stands}
use Rattle.std.specs.Prelude.{Ok}

-- the commit that was found
abbrev pub found_commit : ℕ → List ℕ → Found → Commit
found_commit h s x = commit_of h s x.parts (parent_starts x.parents h (6 + 2 * h)) (records_of (heads s x.first))

-- ---- an author's or committer's line

actor_read : (s : List ℕ) (at : ℕ) (w : List ℕ) (field a e : ℕ) → actor_at s at w field ≡ Ok (a, e)
    → ActorForm (part a e s) × (drop at s ≡ line w (part a e s) ++ drop (e + 1) s)
actor_read s at w field a e q =
    let k = actor_parts s at w field a e q in
    (actor_form (part a e s) k.1, (value_read w s at a e k.0).1)

actor_stands : (s : List ℕ) (at : ℕ) (w : List ℕ) (field : ℕ) (v r : List ℕ) → ActorForm v → drop at s ≡ line w v ++ r
    → actor_at s at w field ≡ Ok (at + length w + 1, at + length w + 1 + length v)
actor_stands s at w field v r f e =
    actor_good s at w field _ _ (value-stands w s at v r (actor_one-line v f) e) (rw (value-part s at w v r e) (form_actor v f))

-- ---- what is found is a commit

found-whole : (s : List ℕ) (h : ℕ) (x : Found) → Parts s h x → (s ≡ commit_bytes (found_commit h s x)) × CommitForm h (found_commit h s x)
unfolding commit_bytes
found-whole s h x k =
    let n = k.count in
    let enc = encoding_at s (k.f + 1) in
    let c = tally 0 (heads s enc.next) in
    let p = 6 + 2 * h + n * (8 + 2 * h) in
    let hs = map (header_named s) (records_of (heads s enc.next)) in
    let ds = map (id_named h s) (parent_starts n h (6 + 2 * h)) in
    let tree = id-read tree_word h s 0 k.tree in
    let z : 5 + 2 * h + 1 ≡ 6 + 2 * h = omega arith in
    let t0 : s ≡ line tree_word (id_named h s 5) ++ drop (6 + 2 * h) s = rw z at tree.1 in
    let parents = parents-read h s (6 + 2 * h) in
    let ps = rw (← k.counted) at parents in
    let author = actor_read s p author_word 2 k.a k.e k.author in
    let committer = actor_read s (k.e + 1) committer_word 3 k.b k.f k.committer in
    let encoding = encoding-read s (k.f + 1) in
    let headers = headers-read s enc.next in
    let blank : drop c.end s ≡ 10 ∷ drop (c.end + 1) s = rw (part_none s c.end, k.blank) at
    (cut s c.end c.end (omega arith) (blank_fits s c.end k.blank)) in
    let message : part (c.end + 1) (length s) s ≡ drop (c.end + 1) s = part-from s (c.end + 1) in
    let t5 : drop enc.next s ≡ headers_bytes hs ++ 10 ∷ part (c.end + 1) (length s) s =
    headers.bytes ∙ ap (λ (l : List ℕ). headers_bytes hs ++ l) (blank ∙ ap (λ (l : List ℕ). 10 ∷ l) (sym message)) in
    let t4 = encoding.bytes ∙ ap (λ (l : List ℕ). encoding_bytes (encoding_named s enc) ++ l) t5 in
    let t3 = committer.1 ∙ ap (λ (l : List ℕ). line committer_word (part k.b k.f s) ++ l) t4 in
    let t2 = author.1 ∙ ap (λ (l : List ℕ). line author_word (part k.a k.e s) ++ l) t3 in
    let t1 = ps.bytes ∙ ap (λ (l : List ℕ). parents_bytes ds ++ l) t2 in
    rw k.found (
      t0 ∙ ap (λ (l : List ℕ). line tree_word (id_named h s 5) ++ l) t1,
      record {
        tree = tree.0;
        parents = ps.forms;
        author = author.0;
        committer = committer.0;
        encoding = encoding.form;
        headers = headers.forms;
        first = encoding.first hs _ headers.forms t5;
      },
    )

-- what reading finds in some bytes is a commit, and the bytes are its bytes
pub found-is-commit : (s : List ℕ) (h : ℕ) (x : Found) → fields_of s h ≡ Ok x → (s ≡ commit_bytes (found_commit h s x)) × CommitForm h (found_commit h s x)
found-is-commit s h x q = found-whole s h x (fields-parts s h x q)

-- ---- a commit is found

same-commit : (c : Commit) (tree : List ℕ) (parents : List (List ℕ)) (author committer : List ℕ) (encoding : Encoding) (headers : List Header)
    (message : List ℕ)
    → tree ≡ c.tree → parents ≡ c.parents → author ≡ c.author → committer ≡ c.committer → encoding ≡ c.encoding → headers ≡ c.headers → message ≡ c.message
    → record { tree = tree; parents = parents; author = author; committer = committer; encoding = encoding; headers = headers; message = message } ≡ c
same-commit c t p a m e h g i j k l n o q = rw (i, j, k, l, n, o, q)

-- an author's line is no parent's line
no_parent : (h : ℕ) (s : List ℕ) (at : ℕ) (v r : List ℕ) → drop at s ≡ line author_word v ++ r → parent_at h s at ≡ false
unfolding parent_at
no_parent h s at v r e = id-line-no parent_word h s at (is_false (word_at parent_word s at) never)
  where
    never : word_at parent_word s at ≡ true → ⊥
    never w =
        let z : parent_word ++ 32 ∷ drop (at + length parent_word + 1) s ≡ line author_word v ++ r = sym (word_read parent_word s at w) ∙ e in
        let y : ◌≡◌ {A = ℕ} 112 97 = cc in
        omega arith

pub record CommitFound (h : ℕ) (s : List ℕ) (c : Commit) : Type 0 where
  pub found : Found
  pub read : fields_of s h ≡ Ok found
  pub named_is : found_commit h s found ≡ c
  pub parents_are : found.parents ≡ length c.parents
  pub headers_are : found.headers ≡ length (records_of (heads s found.first))

-- the bytes of a commit are read as that commit
pub commit-is-found : (h : ℕ) (s : List ℕ) (c : Commit) → CommitForm h c → s ≡ commit_bytes c → CommitFound h s c
unfolding commit_bytes
commit-is-found h s c k t0 =
    let n = length c.parents in
    let w = 8 + 2 * h in
    let t5 = headers_bytes c.headers ++ 10 ∷ c.message in
    let t4 = encoding_bytes c.encoding ++ t5 in
    let t3 = line committer_word c.committer ++ t4 in
    let t2 = line author_word c.author ++ t3 in
    let t1 = parents_bytes c.parents ++ t2 in
    -- the tree
    let tree = id-stands tree_word h s 0 c.tree t1 k.tree t0 in
    let long : 5 + length c.tree ≡ 5 + 2 * h = omega (arith, k.tree.long) in
    let tree-part : id_named h s 5 ≡ c.tree = rw long at (value-part s 0 tree_word c.tree t1 t0) in
    let z : 5 + length c.tree + 1 ≡ 6 + 2 * h = omega (arith, k.tree.long) in
    let e1 : drop (6 + 2 * h) s ≡ t1 = rw z at (line_after s 0 tree_word c.tree t1 t0) in
    -- the parents
    let ps = parents_stand c.parents h s (6 + 2 * h) 0 t2 k.parents e1 (λ p q. no_parent h s p c.author t3 q) (omega arith) in
    let p = 6 + 2 * h + n * w in
    let e2 : drop p s ≡ t2 = ps.rest in
    -- author and committer
    let a = p + 6 + 1 in
    let e = a + length c.author in
    let author = actor_stands s p author_word 2 c.author t3 k.author e2 in
    let e3 : drop (e + 1) s ≡ t3 = line_after s p author_word c.author t3 e2 in
    let b = e + 1 + 9 + 1 in
    let f = b + length c.committer in
    let committer = actor_stands s (e + 1) committer_word 3 c.committer t4 k.committer e3 in
    let e4 : drop (f + 1) s ≡ t4 = line_after s (e + 1) committer_word c.committer t4 e3 in
    -- encoding, headers, blank line, message
    let enc = encoding_at s (f + 1) in
    let es = encoding-stands s (f + 1) c.encoding c.headers c.message k.encoding k.headers k.first e4 in
    let hs = headers_stand c.headers s enc.next 0 c.message k.headers es.rest (omega arith) in
    let count = tally 0 (heads s enc.next) in
    let e6 : drop count.end s ≡ 10 ∷ c.message =
    ap (λ (i : ℕ). drop i s) hs.end_is ∙ after s enc.next (headers_bytes c.headers) (10 ∷ c.message) es.rest in
    let x = found_of s n a e b f enc count in
    let read : fields_of s h ≡ Ok x =
    fields-are s h tree n (sym ps.counted)
    ∙ people-both s n p a e author b f committer
    ∙ ending-is s n a e b f enc count refl refl (byte-is s count.end 10 c.message e6) in
    record {
      found = x;
      read = read;
      named_is =
          same-commit c _ _ _ _ _ _ _ tree-part ps.named_are (value-part s p author_word c.author t3 e2)
          (value-part s (e + 1) committer_word c.committer t4 e3) es.named_is hs.named_are
          (part-from s (count.end + 1) ∙ byte-after s count.end 10 c.message e6);
      parents_are = refl;
      headers_are = tally-count 0 (heads s enc.next) ∙ omega arith;
    }
