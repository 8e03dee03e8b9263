-- Commits that are refused: every way through the fields, and the grammar's words for it (specs/Refused.antt). Assumes nothing.
use Prim.Native.Nat.{ℕ, zero, suc, ◌+◌, ◌-◌, ◌*◌, ◌/◌, ◌<◌, ◌≤◌}
use mathlib.Core.Path.{◌≡◌, refl, ap, sym, subst, ◌∙◌}
use mathlib.Core.Bool.{Bool, true, false, true≢false}
use mathlib.Core.List.{List, [], ◌∷◌, ◌++◌, map, append_assoc}
use mathlib.Core.Logic.{◌⊎◌, inl, inr, ⊎_elim}
use native.Mathlib.Nat.{suc-mul, zero-mul}
use native.Mathlib.Omega.{arith}
use lib.ListN.{length, get_or, drop, length-append, length-drop}
use lib.Dec.{leb}
use borrow.Author.Tests.{leb-true, leb-false}
use Rattle.ground.specs.Basics.{pick, part}
use Rattle.ground.specs.Verdict.{verdict}
use Rattle.ground.specs.declared.Verdict.{Verdict}
use Rattle.ground.proofs.Laws.{equal, is_false}
use Rattle.actor.specs.Actor.{is_actor}
use Rattle.actor.specs.Form.{ActorForm}
use Rattle.actor.proofs.Form.{actor_form, form_actor, actor_one-line}
use Rattle.header.specs.Words.{tree_word, parent_word, author_word, committer_word, encoding_word}
use Rattle.commit_line.specs.Line.{id_at, line_at}
use Rattle.extra_header.specs.Extra.{extra_at}
use Rattle.header.specs.Record.{width}
use Rattle.commit_line.proofs.Laws.{line-parts, line-fits}
use Rattle.extra_header.proofs.Laws.{extra_next}
use Rattle.commit_fields.specs.Parents.{parent_at, parents_from, rest_parents, parent_count, parent_starts}
use Rattle.commit_fields.specs.Headers.{Heads, heads_from, rest_heads, heads, records_of, tally}
use Rattle.commit_fields.specs.Fields.{refusal, actor_at, encoding_at, ending_of, people_of, fields_of}
use Rattle.commit_read.specs.Read.{refused_read, commit_answer, commit_outcome}
use Rattle.commit_fields.specs.declared.Refusal.{Refusal}
use Rattle.commit_fields.specs.declared.Found.{Found}
use Rattle.commit_read.specs.declared.CommitRead.{CommitRead}
use Rattle.commit_fields.proofs.Laws.{parent_fits, parents-fit, actor_missing, actor_bad, actor_good, actor_fits, encoding-none, encoding-some, ending-no, ending-is, people-author, people-committer, people-both, fields-no, fields-are, tree-fits, outcome_field, outcome_parents, outcome_headers, outcome_whole}
use Rattle.commit_read.proofs.Laws.{answer_fails, answer-whole}
use Rattle.grammar.specs.Grammar.{line, parents_bytes, encoding_bytes, headers_bytes, HexForms}
use Rattle.grammar.specs.Named.{id_named, header_named}
use Rattle.commit_grammar.specs.Refused.{
  NoIdLine,
  NoLine,
  BadActor,
  AfterParents,
  AfterAuthor,
  AfterCommitter,
  AfterHeaders,
  Begins,
  Refuses,
  RefusedCommits,
}
use Rattle.grammar.proofs.Laws.{line-length, part_length}
use Rattle.commit_grammar.proofs.Pieces.{after, id-read, id-stands, value_read, value-stands, value-part, line_after}
use Rattle.commit_grammar.proofs.Parents.{parents-read, parents_stand}
use Rattle.commit_grammar.proofs.Headers.{from-none, from_more, headers-read}
use Rattle.commit_grammar.proofs.Encodings.{encoding_named, encoding-read}
use Rattle.commit_grammar.proofs.Longest.{byte_front, ends_read, headers-taken, encoding-taken}
use Rattle.commit_grammar.proofs.Fields.{found_commit, found-is-commit, commit-is-found}
use Rattle.header.specs.declared.HeaderRecord.{HeaderRecord}
use Rattle.std.specs.Prelude.{Err, None, Ok, Option, Result, Some}

-- ---- lines that do not stand

module _ (w : List ℕ) (h : ℕ) (s : List ℕ) (at : ℕ) where
  none-at : id_at w h s at ≡ false → NoIdLine w h (drop at s)
  none-at q id r f e = true≢false (sym (id-stands w h s at id r f e) ∙ q)

  at_none : NoIdLine w h (drop at s) → id_at w h s at ≡ false
  at_none n = is_false (id_at w h s at) (λ e. let k = id-read w h s at e in n _ _ k.0 k.1)

module _ (w s : List ℕ) (at : ℕ) where
  missing-none : line_at w s at ≡ None → NoLine w (drop at s)
  missing-none q v r f e = let k = value-stands w s at v r f e in let z : ◌≡◌ {A = ℕ} 0 1 = cc in omega arith

  none-missing : NoLine w (drop at s) → line_at w s at ≡ None
  none-missing n = by (line_at w s at) refl
    where
      by : (l : Option (ℕ × ℕ)) → line_at w s at ≡ l → l ≡ None
      by None q = refl
      by (Some (a, e)) q = let k = value_read w s at a e q in absurd (n (part a e s) (drop (e + 1) s) k.0 k.1)

-- ---- an author's or committer's line

-- one of the form stands from a place on, its value from a to e
record There (w s : List ℕ) (at a e : ℕ) : Type 0 where
  form : ActorForm (part a e s)
  bytes : drop at s ≡ line w (part a e s) ++ drop (e + 1) s
  size : at + length (line w (part a e s)) ≡ e + 1

data PersonWay (w s : List ℕ) (at field : ℕ) : Type 0 where
  missing : NoLine w (drop at s) → actor_at s at w field ≡ Err (refusal 11 at field) → PersonWay w s at field
  formless : BadActor w (drop at s) → actor_at s at w field ≡ Err (refusal 12 at 0) → PersonWay w s at field
  there : (a e : ℕ) → There w s at a e → actor_at s at w field ≡ Ok (a, e) → PersonWay w s at field

person_way : (w s : List ℕ) (at field : ℕ) → PersonWay w s at field
person_way w s at field = by (line_at w s at) refl
  where
    by : (l : Option (ℕ × ℕ)) → line_at w s at ≡ l → PersonWay w s at field
    by None q = missing (missing-none w s at q) (actor_missing s at w field q)
    by (Some (a, e)) q = go (is_actor (part a e s)) refl
      where
        go : (b : Bool) → is_actor (part a e s) ≡ b → PersonWay w s at field
        go false b =
            let k = value_read w s at a e q in
            formless
            (record {
              value = part a e s;
              rest = drop (e + 1) s;
              one_line = k.0;
              whole = k.1;
              formless = λ f. true≢false (sym (form_actor (part a e s) f) ∙ b);
            })
            (actor_bad s at w field a e q b)
        go true b =
            let k = value_read w s at a e q in
            let p = line-parts w s at a e q in
            let i = line-fits w s at a e q in
            there a e
            (record {
              form = actor_form (part a e s) b;
              bytes = k.1;
              size = omega (arith, line-length w (part a e s), part_length s a e i.0 (omega (arith, i.1)), p.1, i.0);
            })
            (actor_good s at w field a e q b)

-- what stands is read
module _ (w s : List ℕ) (at field : ℕ) where
  none_read : NoLine w (drop at s) → actor_at s at w field ≡ Err (refusal 11 at field)
  none_read n = actor_missing s at w field (none-missing w s at n)

  bad-read : BadActor w (drop at s) → actor_at s at w field ≡ Err (refusal 12 at 0)
  bad-read b =
      let v = b.value in
      let p : part (at + length w + 1) (at + length w + 1 + length v) s ≡ v = value-part s at w v b.rest b.whole in
      actor_bad s at w field _ _ (value-stands w s at v b.rest b.one_line b.whole)
      (ap is_actor p ∙ is_false (is_actor v) (λ e. b.formless (actor_form v e)))

  good-read : (v r : List ℕ) → ActorForm v → drop at s ≡ line w v ++ r → actor_at s at w field ≡ Ok (at + length w + 1, at + length w + 1 + length v)
  good-read v r f e =
      actor_good s at w field _ _ (value-stands w s at v r (actor_one-line v f) e) (ap is_actor (value-part s at w v r e) ∙ form_actor v f)

-- ---- tree and parents

-- past the parents that are counted no other stands
parents-stop : (h : ℕ) (s : List ℕ) (at : ℕ) → parent_at h s (at + parent_count h s at * (8 + 2 * h)) ≡ false
unfolding rest_parents parents_from
parents-stop h s at = from (length s - 0) at (omega arith)
  where
    from : (left at : ℕ) → length s ≤ at + left → parent_at h s (at + parents_from left h s at * (8 + 2 * h)) ≡ false
    from zero at k =
        let z : at + 0 * (8 + 2 * h) ≡ at = rw (zero-mul (8 + 2 * h)) (omega arith) in
        rw z (is_false (parent_at h s at) (λ q. omega (arith, parent_fits h s at q)))
    from (suc left) at k = go (parent_at h s at) refl (from left (at + (8 + 2 * h)) (omega arith))
      where
        go : (t : Bool) → parent_at h s at ≡ t
            → parent_at h s (at + (8 + 2 * h) + parents_from left h s (at + (8 + 2 * h)) * (8 + 2 * h)) ≡ false
            → parent_at h s (at + pick t (suc (parents_from left h s (at + (8 + 2 * h)))) 0 * (8 + 2 * h)) ≡ false
        go true q ih =
            let n = parents_from left h s (at + (8 + 2 * h)) in
            let z : at + suc n * (8 + 2 * h) ≡ at + (8 + 2 * h) + n * (8 + 2 * h) = rw (suc-mul n (8 + 2 * h)) (omega arith) in
            rw z ih
        go false q ih = let z : at + 0 * (8 + 2 * h) ≡ at = rw (zero-mul (8 + 2 * h)) (omega arith) in rw z q

module _ (h : ℕ) (s : List ℕ) where
  abbrev n : ℕ
  n = parent_count h s (6 + 2 * h)

  abbrev p : ℕ
  p = 6 + 2 * h + n * (8 + 2 * h)

  parents-there : id_at tree_word h s 0 ≡ true → AfterParents h s p (drop p s)
  unfolding parent_at
  parents-there q =
      let t = id-read tree_word h s 0 q in
      let z : 5 + 2 * h + 1 ≡ 6 + 2 * h = omega arith in
      let d = id_named h s 5 in
      let ds = map (id_named h s) (parent_starts n h (6 + 2 * h)) in
      let t0 : s ≡ line tree_word d ++ drop (6 + 2 * h) s = rw z at t.1 in
      let ps = parents-read h s (6 + 2 * h) in
      let w : s ≡ (line tree_word d ++ parents_bytes ds) ++ drop p s
      = t0 ∙ ap (λ (l : List ℕ). line tree_word d ++ l) ps.bytes ∙ sym (append_assoc (line tree_word d) (parents_bytes ds) (drop p s)) in
      let i = parents-fit h s (6 + 2 * h) (tree-fits s h q) in
      record {
        tree = d;
        parents = ds;
        tree_form = t.0;
        parents_form = ps.forms;
        whole = w;
        bytes = omega (arith, ap length w, length-append (line tree_word d ++ parents_bytes ds) (drop p s), length-drop p s, i);
        longest = none-at parent_word h s p (parents-stop h s (6 + 2 * h));
      }

parents-length : (h : ℕ) (ds : List (List ℕ)) → HexForms h ds → length (parents_bytes ds) ≡ length ds * (8 + 2 * h)
unfolding parents_bytes
parents-length h [] f = sym (zero-mul (8 + 2 * h))
parents-length h (d ∷ ds) f =
    length-append (line parent_word d) (parents_bytes ds)
    ∙ rw (suc-mul (length ds) (8 + 2 * h), parents-length h ds f.1) (omega (arith, line-length parent_word d, f.0.long))

-- where they stand, the fields go on from there
record FieldsFrom (h : ℕ) (s : List ℕ) (k : ℕ) (r : List ℕ) : Type 0 where
  count : ℕ
  go_on : fields_of s h ≡ people_of s count k
  rest : drop k s ≡ r

fields-from : (h : ℕ) (s : List ℕ) (k : ℕ) (r : List ℕ) → AfterParents h s k r → FieldsFrom h s k r
unfolding parent_at
fields-from h s k r A =
    let ds = A.parents in
    let t0 : s ≡ line tree_word A.tree ++ (parents_bytes ds ++ r) = A.whole ∙ append_assoc (line tree_word A.tree) (parents_bytes ds) r in
    let t = id-stands tree_word h s 0 A.tree (parents_bytes ds ++ r) A.tree_form t0 in
    let z : 5 + length A.tree + 1 ≡ 6 + 2 * h = omega (arith, A.tree_form.long) in
    let e1 : drop (6 + 2 * h) s ≡ parents_bytes ds ++ r = rw z at (line_after s 0 tree_word A.tree (parents_bytes ds ++ r) t0) in
    let ends : (i : ℕ) → drop i s ≡ r → parent_at h s i ≡ false
    = λ i e. at_none parent_word h s i (subst (NoIdLine parent_word h) (sym e) A.longest) in
    let ps = parents_stand ds h s (6 + 2 * h) 0 r A.parents_form e1 ends (omega arith) in
    let j : 6 + 2 * h + length ds * (8 + 2 * h) ≡ k
    = omega (
      arith,
      A.bytes,
      length-append (line tree_word A.tree) (parents_bytes ds),
      line-length tree_word A.tree,
      A.tree_form.long,
      parents-length h ds A.parents_form,
    ) in
    record {
      count = length ds;
      go_on = fields-are s h t (length ds) (sym ps.counted) ∙ ap (people_of s (length ds)) j;
      rest = sym (ap (λ (i : ℕ). drop i s) j) ∙ ps.rest;
    }

-- past an author of the form
record AuthorFrom (h : ℕ) (s : List ℕ) (k : ℕ) (r : List ℕ) : Type 0 where
  count : ℕ
  start : ℕ
  a : ℕ
  e : ℕ
  go_on : fields_of s h ≡ people_of s count start
  author : actor_at s start author_word 2 ≡ Ok (a, e)
  next : e + 1 ≡ k
  rest : drop k s ≡ r

author-from : (h : ℕ) (s : List ℕ) (k : ℕ) (r : List ℕ) → AfterAuthor h s k r → AuthorFrom h s k r
author-from h s k r A =
    let v = A.author in
    let at = A.start in
    let f = fields-from h s at (line author_word v ++ r) A.before in
    let z : at + 6 + 1 + length v + 1 ≡ k = omega (arith, A.bytes, line-length author_word v) in
    record {
      count = f.count;
      start = at;
      a = at + 6 + 1;
      e = at + 6 + 1 + length v;
      go_on = f.go_on;
      author = good-read author_word s at 2 v r A.form f.rest;
      next = z;
      rest = sym (ap (λ (i : ℕ). drop i s) z) ∙ line_after s at author_word v r f.rest;
    }

-- ---- every way through the fields

data Way (h : ℕ) (s : List ℕ) : Type 0 where
  treeless : NoIdLine tree_word h s → fields_of s h ≡ Err (refusal 11 0 1) → Way h s
  authorless : (k : ℕ) (r : List ℕ) → AfterParents h s k r → NoLine author_word r → fields_of s h ≡ Err (refusal 11 k 2) → Way h s
  bad-author : (k : ℕ) (r : List ℕ) → AfterParents h s k r → BadActor author_word r → fields_of s h ≡ Err (refusal 12 k 0) → Way h s
  committerless : (k : ℕ) (r : List ℕ) → AfterAuthor h s k r → NoLine committer_word r → fields_of s h ≡ Err (refusal 11 k 3) → Way h s
  bad-committer : (k : ℕ) (r : List ℕ) → AfterAuthor h s k r → BadActor committer_word r → fields_of s h ≡ Err (refusal 12 k 0) → Way h s
  blankless : (k : ℕ) (r : List ℕ) → AfterHeaders h s k r → (get_or r 0 0 ≡ 10 → ⊥) → fields_of s h ≡ Err (refusal 11 k 4) → Way h s
  whole : (x : Found) → fields_of s h ≡ Ok x → Way h s

-- ---- the end of the headers lies within the bytes

within : (left : ℕ) (s : List ℕ) (at m : ℕ) → at ≤ length s → (tally m (heads_from left s at)).end ≤ length s
unfolding heads_from tally
within zero s at m p = p
within (suc left) s at m p = by (extra_at s at) refl (λ next q. within left s next (m + 1) q)
  where
    by : (x : Option (HeaderRecord × ℕ)) → extra_at s at ≡ x → ((next : ℕ) → next ≤ length s → (tally (m + 1) (heads_from left s next)).end ≤ length s)
        → (tally m (heads_from (suc left) s at)).end ≤ length s
    by None q ih = subst (λ (l : Heads). (tally m l).end ≤ length s) (sym (from-none left s at q)) p
    by (Some (x, next)) q ih = subst (λ (l : Heads). (tally m l).end ≤ length s) (sym (from_more left s at x next q)) (ih next (extra_next s at q).1)

encoding-within : (s : List ℕ) (at : ℕ) → at ≤ length s → (encoding_at s at).next ≤ length s
encoding-within s at p = by (line_at encoding_word s at) refl
  where
    by : (l : Option (ℕ × ℕ)) → line_at encoding_word s at ≡ l → (encoding_at s at).next ≤ length s
    by None q = rw (encoding-none s at q) p
    by (Some (a, e)) q = rw (encoding-some s at a e q) (omega (arith, (line-fits encoding_word s at a e q).1))

headers-within : (s : List ℕ) (at : ℕ) → at ≤ length s → (tally 0 (heads s at)).end ≤ length s
unfolding rest_heads
headers-within s at p = within (length s - 0) s at 0 p

-- past the committer: an encoding or none, and headers
headers-there : (h : ℕ) (s : List ℕ) (at : ℕ) → at ≤ length s → AfterCommitter h s at (drop at s)
    → AfterHeaders h s (tally 0 (heads s (encoding_at s at).next)).end (drop (tally 0 (heads s (encoding_at s at).next)).end s)
headers-there h s at p A =
    let enc = encoding_at s at in
    let end = (tally 0 (heads s enc.next)).end in
    let xs = map (header_named s) (records_of (heads s enc.next)) in
    let E = encoding_bytes (encoding_named s enc) in
    let e = encoding-read s at in
    let k = headers-read s enc.next in
    let b : drop at s ≡ E ++ (headers_bytes xs ++ drop end s) = e.bytes ∙ ap (λ (l : List ℕ). E ++ l) k.bytes in
    let i = encoding-within s at p in
    let j = headers-within s enc.next i in
    record {
      start = at;
      encoding = encoding_named s enc;
      headers = xs;
      before = subst (AfterCommitter h s at) b A;
      encoding_form = e.form;
      headers_form = k.forms;
      first = e.first xs (drop end s) k.forms k.bytes;
      taken = (ends_read s enc.next).taken;
      longest = (ends_read s enc.next).longest;
      bytes =
          omega (
            arith,
            ap length b,
            length-append E (headers_bytes xs ++ drop end s),
            length-append (headers_bytes xs) (drop end s),
            length-drop at s,
            length-drop end s,
            j,
          );
    }

module _ (h : ℕ) (s : List ℕ) where
  ending_way : (c a e b f : ℕ) → f < length s → AfterCommitter h s (f + 1) (drop (f + 1) s) → fields_of s h ≡ ending_of s c a e b f → Way h s
  ending_way c a e b f p A q = by (equal (get_or s (tally 0 (heads s (encoding_at s (f + 1)).next)).end 0) 10)
    where
      by : (get_or s (tally 0 (heads s (encoding_at s (f + 1)).next)).end 0 ≡ 10) ⊎ (get_or s (tally 0 (heads s (encoding_at s (f + 1)).next)).end 0 ≡ 10 → ⊥)
          → Way h s
      by (inl g) = whole _ (q ∙ ending-is s c a e b f (encoding_at s (f + 1)) (tally 0 (heads s (encoding_at s (f + 1)).next)) refl refl g)
      by (inr g) =
          blankless _ _ (headers-there h s (f + 1) (omega arith) A)
          (λ z. g (byte_front s (tally 0 (heads s (encoding_at s (f + 1)).next)).end ∙ z))
          (q ∙ ending-no s c a e b f (encoding_at s (f + 1)) (tally 0 (heads s (encoding_at s (f + 1)).next)) refl refl g)

  committer_way : (c p a e : ℕ) → fields_of s h ≡ people_of s c p → actor_at s p author_word 2 ≡ Ok (a, e) → AfterAuthor h s (e + 1) (drop (e + 1) s) → Way h s
  committer_way c p a e q u A = by (person_way committer_word s (e + 1) 3)
    where
      by : PersonWay committer_word s (e + 1) 3 → Way h s
      by (missing n v) = committerless (e + 1) (drop (e + 1) s) A n (q ∙ people-committer s c p a e u (refusal 11 (e + 1) 3) v)
      by (formless n v) = bad-committer (e + 1) (drop (e + 1) s) A n (q ∙ people-committer s c p a e u (refusal 12 (e + 1) 0) v)
      by (there b f t v) =
          ending_way c a e b f (actor_fits s (e + 1) committer_word 3 b f v)
          (record { start = e + 1; committer = part b f s; before = subst (AfterAuthor h s (e + 1)) t.bytes A; form = t.form; bytes = t.size })
          (q ∙ people-both s c p a e u b f v)

  author_way : (c p : ℕ) → fields_of s h ≡ people_of s c p → AfterParents h s p (drop p s) → Way h s
  author_way c p q A = by (person_way author_word s p 2)
    where
      by : PersonWay author_word s p 2 → Way h s
      by (missing n v) = authorless p (drop p s) A n (q ∙ people-author s c p (refusal 11 p 2) v)
      by (formless n v) = bad-author p (drop p s) A n (q ∙ people-author s c p (refusal 12 p 0) v)
      by (there a e t v) =
          committer_way c p a e q v
          (record { start = p; author = part a e s; before = subst (AfterParents h s p) t.bytes A; form = t.form; bytes = t.size })

  way : Way h s
  way = by (id_at tree_word h s 0) refl
    where
      by : (t : Bool) → id_at tree_word h s 0 ≡ t → Way h s
      by false q = treeless (none-at tree_word h s 0 q) (fields-no s h q)
      by true q = author_way (n h s) (p h s) (fields-are s h q (n h s) refl) (parents-there h s q)

-- ---- numbers, places and fields apart

record Same (n k f m j g : ℕ) : Type 0 where
  number : n ≡ m
  place : k ≡ j
  field : f ≡ g

same : (s : List ℕ) (h n k f m j g : ℕ) → fields_of s h ≡ Err (refusal n k f) → fields_of s h ≡ Err (refusal m j g) → Same n k f m j g
same s h n k f m j g p q =
    let z : refusal n k f ≡ refusal m j g = cc in
    record {
      number = ap (λ (x : Refusal). x.verdict.number) z;
      place = ap (λ (x : Refusal). x.verdict.place) z;
      field = ap (λ (x : Refusal). x.field) z;
    }

never : {A : Type 0} (s : List ℕ) (h : ℕ) (x : Found) (r : Refusal) → fields_of s h ≡ Ok x → fields_of s h ≡ Err r → A
never s h x r p q = let z : ◌≡◌ {A = ℕ} 0 1 = cc in absurd (omega arith)

module _ (s : List ℕ) (h k : ℕ) where
  to_treeless : fields_of s h ≡ Err (refusal 11 k 1) → (k ≡ 0) × NoIdLine tree_word h s
  to_treeless q = by (way h s)
    where
      by : Way h s → (k ≡ 0) × NoIdLine tree_word h s
      by (treeless t w) = ((same s h 11 k 1 11 0 1 q w).place, t)
      by (authorless j r A x w) = absurd (omega (arith, (same s h 11 k 1 11 j 2 q w).field))
      by (bad-author j r A x w) = absurd (omega (arith, (same s h 11 k 1 12 j 0 q w).field))
      by (committerless j r A x w) = absurd (omega (arith, (same s h 11 k 1 11 j 3 q w).field))
      by (bad-committer j r A x w) = absurd (omega (arith, (same s h 11 k 1 12 j 0 q w).field))
      by (blankless j r A x w) = absurd (omega (arith, (same s h 11 k 1 11 j 4 q w).field))
      by (whole x w) = never s h x _ w q

  to_authorless : fields_of s h ≡ Err (refusal 11 k 2) → (r : List ℕ) × AfterParents h s k r × NoLine author_word r
  to_authorless q = by (way h s)
    where
      by : Way h s → (r : List ℕ) × AfterParents h s k r × NoLine author_word r
      by (treeless t w) = absurd (omega (arith, (same s h 11 k 2 11 0 1 q w).field))
      by (authorless j r A x w) = (r, subst (λ (i : ℕ). AfterParents h s i r) (sym (same s h 11 k 2 11 j 2 q w).place) A, x)
      by (bad-author j r A x w) = absurd (omega (arith, (same s h 11 k 2 12 j 0 q w).field))
      by (committerless j r A x w) = absurd (omega (arith, (same s h 11 k 2 11 j 3 q w).field))
      by (bad-committer j r A x w) = absurd (omega (arith, (same s h 11 k 2 12 j 0 q w).field))
      by (blankless j r A x w) = absurd (omega (arith, (same s h 11 k 2 11 j 4 q w).field))
      by (whole x w) = never s h x _ w q

  to_committerless : fields_of s h ≡ Err (refusal 11 k 3) → (r : List ℕ) × AfterAuthor h s k r × NoLine committer_word r
  to_committerless q = by (way h s)
    where
      by : Way h s → (r : List ℕ) × AfterAuthor h s k r × NoLine committer_word r
      by (treeless t w) = absurd (omega (arith, (same s h 11 k 3 11 0 1 q w).field))
      by (authorless j r A x w) = absurd (omega (arith, (same s h 11 k 3 11 j 2 q w).field))
      by (bad-author j r A x w) = absurd (omega (arith, (same s h 11 k 3 12 j 0 q w).field))
      by (committerless j r A x w) = (r, subst (λ (i : ℕ). AfterAuthor h s i r) (sym (same s h 11 k 3 11 j 3 q w).place) A, x)
      by (bad-committer j r A x w) = absurd (omega (arith, (same s h 11 k 3 12 j 0 q w).field))
      by (blankless j r A x w) = absurd (omega (arith, (same s h 11 k 3 11 j 4 q w).field))
      by (whole x w) = never s h x _ w q

  abbrev BadOne : Type 0
  BadOne = ((r : List ℕ) × AfterParents h s k r × BadActor author_word r) ⊎ ((r : List ℕ) × AfterAuthor h s k r × BadActor committer_word r)

  to_bad : fields_of s h ≡ Err (refusal 12 k 0) → BadOne
  to_bad q = by (way h s)
    where
      by : Way h s → BadOne
      by (treeless t w) = absurd (omega (arith, (same s h 12 k 0 11 0 1 q w).number))
      by (authorless j r A x w) = absurd (omega (arith, (same s h 12 k 0 11 j 2 q w).number))
      by (bad-author j r A x w) = inl (r, subst (λ (i : ℕ). AfterParents h s i r) (sym (same s h 12 k 0 12 j 0 q w).place) A, x)
      by (committerless j r A x w) = absurd (omega (arith, (same s h 12 k 0 11 j 3 q w).number))
      by (bad-committer j r A x w) = inr (r, subst (λ (i : ℕ). AfterAuthor h s i r) (sym (same s h 12 k 0 12 j 0 q w).place) A, x)
      by (blankless j r A x w) = absurd (omega (arith, (same s h 12 k 0 11 j 4 q w).number))
      by (whole x w) = never s h x _ w q

  to_blankless : fields_of s h ≡ Err (refusal 11 k 4) → (r : List ℕ) × AfterHeaders h s k r × (get_or r 0 0 ≡ 10 → ⊥)
  to_blankless q = by (way h s)
    where
      by : Way h s → (r : List ℕ) × AfterHeaders h s k r × (get_or r 0 0 ≡ 10 → ⊥)
      by (treeless t w) = absurd (omega (arith, (same s h 11 k 4 11 0 1 q w).field))
      by (authorless j r A x w) = absurd (omega (arith, (same s h 11 k 4 11 j 2 q w).field))
      by (bad-author j r A x w) = absurd (omega (arith, (same s h 11 k 4 12 j 0 q w).field))
      by (committerless j r A x w) = absurd (omega (arith, (same s h 11 k 4 11 j 3 q w).field))
      by (bad-committer j r A x w) = absurd (omega (arith, (same s h 11 k 4 12 j 0 q w).field))
      by (blankless j r A x w) = (r, subst (λ (i : ℕ). AfterHeaders h s i r) (sym (same s h 11 k 4 11 j 4 q w).place) A, x)
      by (whole x w) = never s h x _ w q

  -- ---- what stands so is refused so

  from_treeless : NoIdLine tree_word h s → fields_of s h ≡ Err (refusal 11 0 1)
  from_treeless n = fields-no s h (at_none tree_word h s 0 n)

  from_authorless : (r : List ℕ) → AfterParents h s k r → NoLine author_word r → fields_of s h ≡ Err (refusal 11 k 2)
  from_authorless r A n =
      let f = fields-from h s k r A in
      f.go_on ∙ people-author s f.count k (refusal 11 k 2) (none_read author_word s k 2 (subst (NoLine author_word) (sym f.rest) n))

  from-bad-author : (r : List ℕ) → AfterParents h s k r → BadActor author_word r → fields_of s h ≡ Err (refusal 12 k 0)
  from-bad-author r A n =
      let f = fields-from h s k r A in
      f.go_on ∙ people-author s f.count k (refusal 12 k 0) (bad-read author_word s k 2 (subst (BadActor author_word) (sym f.rest) n))

  from-committer : (r : List ℕ) (f : AuthorFrom h s k r) (x : Refusal) → actor_at s k committer_word 3 ≡ Err x → fields_of s h ≡ Err x
  from-committer r f x q =
      f.go_on ∙ people-committer s f.count f.start f.a f.e f.author x (ap (λ (i : ℕ). actor_at s i committer_word 3) f.next ∙ q)

  from_committerless : (r : List ℕ) → AfterAuthor h s k r → NoLine committer_word r → fields_of s h ≡ Err (refusal 11 k 3)
  from_committerless r A n =
      let f = author-from h s k r A in
      from-committer r f (refusal 11 k 3) (none_read committer_word s k 3 (subst (NoLine committer_word) (sym f.rest) n))

  from-bad-committer : (r : List ℕ) → AfterAuthor h s k r → BadActor committer_word r → fields_of s h ≡ Err (refusal 12 k 0)
  from-bad-committer r A n =
      let f = author-from h s k r A in
      from-committer r f (refusal 12 k 0) (bad-read committer_word s k 3 (subst (BadActor committer_word) (sym f.rest) n))

-- with all four there, the fields are whole or fail at the blank line
from_blankless : (s : List ℕ) (h k : ℕ) (r : List ℕ) → AfterCommitter h s k r → ((x : Found) → fields_of s h ≡ Ok x → ⊥)
    → (j : ℕ) × (fields_of s h ≡ Err (refusal 11 j 4))
from_blankless s h k r A none =
    let v = A.committer in
    let g = author-from h s A.start (line committer_word v ++ r) A.before in
    let u = good-read committer_word s A.start 3 v r A.form g.rest in
    let w = ap (λ (i : ℕ). actor_at s i committer_word 3) g.next ∙ u in
    let q = g.go_on ∙ people-both s g.count g.start g.a g.e g.author _ _ w in
    by g.count g.a g.e _ _ q
  where
    by : (c a e b f : ℕ) → fields_of s h ≡ ending_of s c a e b f → (j : ℕ) × (fields_of s h ≡ Err (refusal 11 j 4))
    by c a e b f q = go (equal (get_or s (tally 0 (heads s (encoding_at s (f + 1)).next)).end 0) 10)
      where
        go : (get_or s (tally 0 (heads s (encoding_at s (f + 1)).next)).end 0 ≡ 10) ⊎ (get_or s (tally 0 (heads s (encoding_at s (f + 1)).next)).end 0 ≡ 10 → ⊥)
            → (j : ℕ) × (fields_of s h ≡ Err (refusal 11 j 4))
        go (inl y) = absurd (none _ (q ∙ ending-is s c a e b f (encoding_at s (f + 1)) (tally 0 (heads s (encoding_at s (f + 1)).next)) refl refl y))
        go (inr y) = (_, q ∙ ending-no s c a e b f (encoding_at s (f + 1)) (tally 0 (heads s (encoding_at s (f + 1)).next)) refl refl y)

-- with the headers there too and no LF after them, they fail there
from-headers : (s : List ℕ) (h k : ℕ) (r : List ℕ) → AfterHeaders h s k r → (get_or r 0 0 ≡ 10 → ⊥) → fields_of s h ≡ Err (refusal 11 k 4)
from-headers s h k r A none =
    let xs = A.headers in
    let E = encoding_bytes A.encoding in
    let R = headers_bytes xs ++ r in
    let C = A.before in
    let v = C.committer in
    let g = author-from h s C.start (line committer_word v ++ (E ++ R)) C.before in
    let u = good-read committer_word s C.start 3 v (E ++ R) C.form g.rest in
    let w = ap (λ (i : ℕ). actor_at s i committer_word 3) g.next ∙ u in
    let f = C.start + 9 + 1 + length v in
    let z : f + 1 ≡ A.start = omega (arith, C.bytes, line-length committer_word v) in
    let e0 : drop (f + 1) s ≡ E ++ R = line_after s C.start committer_word v (E ++ R) g.rest in
    let q = g.go_on ∙ people-both s g.count g.start g.a g.e g.author _ f w in
    let i : f < length s = actor_fits s C.start committer_word 3 _ f u in
    let es = encoding-taken s (f + 1) A.encoding xs r A.encoding_form A.headers_form A.first A.longest e0 in
    let enc = encoding_at s (f + 1) in
    let j : enc.next ≡ f + 1 + length E
    = omega (
      arith,
      ap length e0,
      ap length es.rest,
      length-append E R,
      length-drop (f + 1) s,
      length-drop enc.next s,
      encoding-within s (f + 1) (omega arith),
    ) in
    let hs = headers-taken xs s enc.next 0 r A.headers_form A.taken A.longest es.rest (omega arith) in
    let end : (tally 0 (heads s enc.next)).end ≡ k = hs.end_is ∙ omega (arith, j, z, A.bytes) in
    let there : drop (tally 0 (heads s enc.next)).end s ≡ r
    = ap (λ (x : ℕ). drop x s) hs.end_is ∙ after s enc.next (headers_bytes xs) r es.rest in
    let n : get_or s (tally 0 (heads s enc.next)).end 0 ≡ 10 → ⊥
    = λ y. none (ap (λ (l : List ℕ). get_or l 0 0) (sym there) ∙ sym (byte_front s (tally 0 (heads s enc.next)).end) ∙ y) in
    q ∙ ending-no s g.count g.a g.e _ f enc (tally 0 (heads s enc.next)) refl refl n ∙ ap (λ (x : ℕ). Err (refusal 11 x 4)) end

-- ---- the call

same-refusal : (r : Refusal) (n k f : ℕ) → r.verdict ≡ verdict n k → r.field ≡ f → r ≡ refusal n k f
same-refusal r n k f p q =
    ap (λ (v : Verdict). let x : Refusal = record { verdict = v; field = r.field } in x) p
    ∙ ap (λ (i : ℕ). let x : Refusal = record { verdict = verdict n k; field = i } in x) q

module _ (s : List ℕ) (h : ℕ) (ps hs : List ℕ) (g : Begins s h ps hs) where
  -- a refused field is the call's refusal
  answers : (r : Refusal) → fields_of s h ≡ Err r → commit_answer s h ps hs ≡ refused_read r
  answers r q = answer_fails (commit_outcome s h ps hs) r (outcome_field s h (length ps) (length hs / width) g r q)

  -- whole fields are done, or refused 4
  done_or_room : (x : Found) → fields_of s h ≡ Ok x → ((commit_answer s h ps hs).verdict.number ≡ 0) ⊎ ((commit_answer s h ps hs).verdict.number ≡ 4)
  done_or_room x q = go (leb x.parents (length ps)) refl (leb x.headers (length hs / width)) refl
    where
      go : (a : Bool) → leb x.parents (length ps) ≡ a → (b : Bool) → leb x.headers (length hs / width) ≡ b
          → ((commit_answer s h ps hs).verdict.number ≡ 0) ⊎ ((commit_answer s h ps hs).verdict.number ≡ 4)
      go false a b c =
          inr (ap (λ (y : CommitRead). y.verdict.number)
          (answer_fails (commit_outcome s h ps hs) _ (outcome_parents s h (length ps) (length hs / width) g x q (leb-false x.parents (length ps) a))))
      go true a false c =
          inr (ap (λ (y : CommitRead). y.verdict.number)
          (answer_fails (commit_outcome s h ps hs) _
          (outcome_headers s h (length ps) (length hs / width) g x q (leb-true x.parents (length ps) a) (leb-false x.headers (length hs / width) c))))
      go true a true c =
          inl (ap (λ (y : CommitRead). y.verdict.number)
          (answer-whole (commit_outcome s h ps hs) _
          (outcome_whole s h (length ps) (length hs / width) g x q (leb-true x.parents (length ps) a) (leb-true x.headers (length hs / width) c))))

  -- a refusal of 11 or 12 is a refused field
  asks : (n k f : ℕ) → 4 < n → Refuses s h ps hs n k f → fields_of s h ≡ Err (refusal n k f)
  asks n k f l e = by (fields_of s h) refl
    where
      m : (commit_answer s h ps hs).verdict.number ≡ n
      m = ap (λ (y : CommitRead). y.verdict.number) e

      apart : ((commit_answer s h ps hs).verdict.number ≡ 0) ⊎ ((commit_answer s h ps hs).verdict.number ≡ 4) → ⊥
      apart (inl z) = omega (arith, m)
      apart (inr z) = omega (arith, m)

      by : (o : Result Found Refusal) → fields_of s h ≡ o → o ≡ Err (refusal n k f)
      by (Err r) q =
          let z : refused_read r ≡ refused_read (refusal n k f) = sym (answers r q) ∙ e in
          ap Err (same-refusal r n k f (ap (λ (y : CommitRead). y.verdict) z) (ap (λ (y : CommitRead). y.field) z))
      by (Ok x) q = absurd (apart (done_or_room x q))

pub refused_commits : RefusedCommits
refused_commits =
    record {
      no_tree = λ s h ps hs k g. (
        (λ e. to_treeless s h k (asks s h ps hs g 11 k 1 (omega arith) e)),
        (λ w. answers s h ps hs g (refusal 11 k 1) (from_treeless s h k w.1 ∙ ap (λ (i : ℕ). Err (refusal 11 i 1)) (sym w.0))),
      );
      no_author = λ s h ps hs k g. (
        (λ e. to_authorless s h k (asks s h ps hs g 11 k 2 (omega arith) e)),
        (λ w. answers s h ps hs g (refusal 11 k 2) (from_authorless s h k w.0 w.1 w.2)),
      );
      no_committer = λ s h ps hs k g. (
        (λ e. to_committerless s h k (asks s h ps hs g 11 k 3 (omega arith) e)),
        (λ w. answers s h ps hs g (refusal 11 k 3) (from_committerless s h k w.0 w.1 w.2)),
      );
      bad_actor = λ s h ps hs k g. (
        (λ e. to_bad s h k (asks s h ps hs g 12 k 0 (omega arith) e)),
        (λ w. answers s h ps hs g (refusal 12 k 0)
            (⊎_elim (λ y. from-bad-author s h k y.0 y.1 y.2) (λ y. from-bad-committer s h k y.0 y.1 y.2) w)),
      );
      no_blank = λ s h ps hs k g. (
        (λ e. to_blankless s h k (asks s h ps hs g 11 k 4 (omega arith) e)),
        (λ w. answers s h ps hs g (refusal 11 k 4) (from-headers s h k w.0 w.1 w.2)),
      );
      no_commit = λ s h ps hs g. (
        (λ w.
            let q = asks s h ps hs g 11 w.0 4 (omega arith) w.1 in
            let b = to_blankless s h w.0 q in
            ((b.1.start, _, b.1.before), (λ c f e. let x = commit-is-found h s c f e in never s h x.found _ x.read q))),
        (λ w.
            let j = from_blankless s h w.0.0 w.0.1 w.0.2 (λ x q. let y = found-is-commit s h x q in w.1 (found_commit h s x) y.1 y.0) in
            (j.0, answers s h ps hs g (refusal 11 j.0 4) j.1)),
      );
    }
