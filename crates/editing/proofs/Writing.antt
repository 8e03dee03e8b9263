-- A table is written in one way, and a done edit gives the changed table as written. Assumes nothing.
use Prim.Native.Nat.{ℕ, ◌+◌, ◌≤◌, max}
use native.Mathlib.Omega.{arith}
use mathlib.Core.Bool.{Bool, true, false, false≢true, ◌&&◌}
use mathlib.Core.Path.{◌≡◌, refl, ap, sym, subst, ◌∙◌}
use mathlib.Core.List.Memᴰ
use mathlib.Core.List.{List, [], ◌∷◌, Memᴰ}
use mathlib.Core.Logic.{◌⊎◌, inl, inr}
use borrow.Author.Tests.{eqb-true, leb-true}
use lib.Dec.{eqb, leb, ltb}
use lib.ListN.{length, take, drop}
use lib.Seq.{take-append_seam}
use Rattle.ground.specs.Basics.{pick}
use Rattle.ground.specs.Scan.{same_bytes}
use Rattle.ground.specs.Verdict.{verdict, counted, refused, stored, most_bytes, most_records}
use Rattle.ground.specs.declared.Verdict.{Verdict}
use Rattle.ground.specs.declared.Answer.{Answer}
use Rattle.ground.proofs.Laws.{same_refl, same_true, stored-done, gate_fine}
use Rattle.output.specs.Output.{gated, fitted}
use Rattle.output.proofs.Laws.{fitted-done}
use Rattle.entry.specs.Entry.{Entry, entry_bytes, entries_of, as_written}
use Rattle.rules.specs.Rules.{git_rules}
use Rattle.rules.specs.Gate.{rule_gate}
use Rattle.rules.proofs.Laws.{rule_bytes, rule_known}
use Rattle.reading.specs.Listing.{listing, records_in, tally}
use Rattle.strict.specs.Strict.{cut, strictly}
use Rattle.strict.proofs.Laws.{strict-refuses}
use Rattle.one_listing.specs.Sound.{Distinct, SoundListing}
use Rattle.one_listing.proofs.Back.{listed, read_written, names-listed}
use Rattle.one_listing.proofs.Cutting.{sound_writable, sound-again, sound_uncut}
use Rattle.one_listing.proofs.Settling.{set_settles}
use Rattle.one_listing.proofs.Present.{git_ok, plainly, git_one-listing}
use Rattle.edit.specs.Table.{remove_from, put_in, Held, none, held, is_held, Table, table_of, table_put, table_remove}
use Rattle.edit.specs.Edit.{entries_in, new_no, size_of, putting, removing, on_counted, put_answer, remove_answer}
use Rattle.edit.proofs.Answers.{stopped_refuses, removed_le}
use Rattle.editing.specs.Demand.{Written, OneWriting, FromAccepted, AcceptedAgain, Missing}
use Rattle.editing.proofs.Tables.{put-table, remove-table}
use Rattle.editing.proofs.Sounds.{put-sound, remove-sound}
use Rattle.std.specs.Prelude.{Err, Ok, Result, ⊤}

-- ---- a sound listing by its table

mem-held : (es : List Entry) → Distinct es → (e : Entry) → Memᴰ e es → table_of es e.name ≡ held e.mode e.id
unfolding table_of
mem-held [] d e m = absurd (Memᴰ.not-nil m)
mem-held (a ∷ es) d e m = go (mem-held es d.1 e) (Memᴰ.cases_cons m) (same_bytes a.name e.name) refl
  where
    go : (Memᴰ e es → table_of es e.name ≡ held e.mode e.id) → (e ≡ a) ⊎ Memᴰ e es → (v : Bool) → same_bytes a.name e.name ≡ v
        → pick v (held a.mode a.id) (table_of es e.name) ≡ held e.mode e.id
    go ih (inl q) true s = sym (ap (λ (x : Entry). held x.mode x.id) q)
    go ih (inl q) false s = absurd (false≢true (sym s ∙ ap (λ (x : Entry). same_bytes a.name x.name) q ∙ same_refl a.name))
    go ih (inr i) true s = absurd (d.0 e i (same_true a.name e.name s))
    go ih (inr i) false s = ih i

same-held : {a b : ℕ} {i j : List ℕ} → held a i ≡ held b j → (a ≡ b) × (i ≡ j)
same-held e = (cc, cc)

held-mem : (es : List Entry) (e : Entry) → table_of es e.name ≡ held e.mode e.id → Memᴰ e es
unfolding table_of
held-mem [] e q = let z : ◌≡◌ {A = ℕ} 0 1 = cc in absurd (omega arith)
held-mem (a ∷ es) e q = go (held-mem es e) (same_bytes a.name e.name) refl q
  where
    go : (table_of es e.name ≡ held e.mode e.id → Memᴰ e es) → (v : Bool) → same_bytes a.name e.name ≡ v
        → pick v (held a.mode a.id) (table_of es e.name) ≡ held e.mode e.id → Memᴰ e (a ∷ es)
    go ih true s q =
        let h = same-held q in
        let n : a.name ≡ e.name = same_true a.name e.name s in
        let same : ◌≡◌ {A = Entry} (record { mode = e.mode; name = e.name; id = e.id }) (record { mode = a.mode; name = a.name; id = a.id })
        = rw (sym h.0, sym n, sym h.1) in
        Memᴰ.head same
    go ih false s q = Memᴰ.tail (ih q)

pub same-listing : (k h : ℕ) (es fs : List Entry) → SoundListing k h es → SoundListing k h fs → ((n : List ℕ) → table_of es n ≡ table_of fs n) → es ≡ fs
same-listing k h es fs p q t =
    set_settles (git_rules k) (git_ok k) h es fs [] [] ((plainly k h es).0 p) ((plainly k h fs).0 q)
    (λ x m. held-mem fs x (sym (t x.name) ∙ mem-held es p.2 x m)) (λ x m. held-mem es x (t x.name ∙ mem-held fs q.2 x m))

pub one_writing : OneWriting
one_writing k h t s u v w =
    v.bytes ∙ ap as_written (same-listing k h v.listing w.listing v.sound w.sound (λ n. v.holds n ∙ sym (w.holds n))) ∙ sym w.bytes

pub from_accepted : FromAccepted
from_accepted k h s lent es set id short few a =
    let o = (git_one-listing k h s lent es id short few).0 a in
    record {
      rules = set;
      id = id;
      listing = es;
      sound = (plainly k h es).1 o.0;
      bytes = o.2;
      holds = λ n. refl;
      short = short;
      few = omega (arith, o.1, few);
    }

pub accepted_again : AcceptedAgain
accepted_again k h t s w lent few room =
    (git_one-listing k h s lent w.listing w.id w.short few).1 ((plainly k h w.listing).0 w.sound, room, w.bytes)

-- ---- the entries of an object are those that it was written from

pub entries-written : (k h : ℕ) (es : List Entry) → SoundListing k h es → length es ≤ most_records → entries_in h (as_written es) ≡ es
entries-written k h es p few =
    let s = (plainly k h es).0 p in
    let w = sound_writable (git_rules k) (git_ok k) h [] es s in
    ap (λ l. entries_of h (as_written es) (records_in l)) (read_written h most_records 0 es w few) ∙ names-listed h [] es w
    ∙ sound-again (git_rules k) (git_ok k) h [] es s

-- ---- what a done edit went through

zero_is : (a : Answer) (v : Verdict) → a ≡ refused v → (v.number ≡ 0 → ⊥) → a.verdict.number ≡ 0 → ⊥
zero_is a v e f z = f (ap (λ (x : Answer). x.verdict.number) (sym e) ∙ z)

-- behind a gate, of an object that was counted
done-counted : (k h m : ℕ) (s : List ℕ) (a : Answer) → (gated (rule_gate k h m 0) (on_counted (tally 0 (strictly (git_rules k) h s)) a)).verdict.number ≡ 0
    → (m ≤ most_bytes) × (gated (rule_gate k h m 0) (on_counted (tally 0 (strictly (git_rules k) h s)) a) ≡ a)
unfolding gated on_counted
done-counted k h m s a z = go (rule_gate k h m 0) refl (tally 0 (strictly (git_rules k) h s)) refl z
  where
    go : (g : Result ⊤ Verdict) → rule_gate k h m 0 ≡ g → (c : Result ℕ Verdict) → tally 0 (strictly (git_rules k) h s) ≡ c → (gated g (on_counted c a)).verdict.number ≡ 0
        → (m ≤ most_bytes) × (gated g (on_counted c a) ≡ a)
    go (Err v) e c d z = absurd (strict-refuses k h m 0 v e z)
    go (Ok tt) e (Err v) d z = absurd (stopped_refuses k h s v d z)
    go (Ok tt) e (Ok n) d z = (rule_bytes k h m 0 e, refl)

-- what is given, where the answer is a count
taken : (a : Answer) (l out : List ℕ) → a ≡ counted (length l) → take a.count (stored a.verdict l out) ≡ l
taken a l out e = rw e (ap (take (length l)) (stored-done (counted (length l)).verdict l out refl) ∙ take-append_seam l (drop (length l) out))

module _ (k h : ℕ) (t : Table) (s : List ℕ) (w : Written k h t s) where
  abbrev es : List Entry
  es = w.listing

  entries_are : entries_in h s ≡ es
  entries_are = ap (entries_in h) w.bytes ∙ entries-written k h es w.sound w.few

  module _ (new : Entry) (out : List ℕ) (z : (put_answer k h s new (length out)).verdict.number ≡ 0) where
    put-parts : (max (max (length s) (length new.name)) (max (length new.id) (length out)) ≤ most_bytes)
        × (put_answer k h s new (length out) ≡ putting (length out) (new_no (git_rules k) h new) new es)
    unfolding put_answer
    put-parts =
        let d = done-counted k h (max (max (length s) (length new.name)) (max (length new.id) (length out))) s
        (putting (length out) (new_no (git_rules k) h new) new (entries_in h s)) z in
        (d.0, d.1 ∙ ap (putting (length out) (new_no (git_rules k) h new) new) entries_are)

    putting-done : (new_no (git_rules k) h new ≡ 0) × (length (put_in new es) ≤ most_records) × (length (as_written (put_in new es)) ≤ length out)
        × (putting (length out) (new_no (git_rules k) h new) new es ≡ counted (length (as_written (put_in new es))))
    unfolding putting size_of
    putting-done = go (eqb (new_no (git_rules k) h new) 0) refl (leb (length (put_in new es)) most_records) refl (ap (λ (x : Answer). x.verdict.number) (sym put-parts.1) ∙ z)
      where
        go : (a : Bool) → eqb (new_no (git_rules k) h new) 0 ≡ a → (b : Bool) → leb (length (put_in new es)) most_records ≡ b
            → (pick a (fitted (length out) (pick b (counted (length (as_written (put_in new es)))) (refused (verdict 2 0)))) (refused (verdict (new_no (git_rules k) h new) 0))).verdict.number ≡ 0
            → (new_no (git_rules k) h new ≡ 0) × (length (put_in new es) ≤ most_records) × (length (as_written (put_in new es)) ≤ length out)
            × (pick a (fitted (length out) (pick b (counted (length (as_written (put_in new es)))) (refused (verdict 2 0)))) (refused (verdict (new_no (git_rules k) h new) 0)) ≡ counted (length (as_written (put_in new es))))
        go true p true q y =
            let f = fitted-done (length out) (counted (length (as_written (put_in new es)))) y in
            (eqb-true (new_no (git_rules k) h new) 0 p, leb-true (length (put_in new es)) most_records q, f.1, f.2)
        go true p false q y = absurd (two (fitted-done (length out) (refused (verdict 2 0)) y).0)
          where
            two : ◌≡◌ {A = ℕ} 2 0 → ⊥
            two e = omega arith
        go false p b q y = absurd (false≢true (sym p ∙ eqb-zero (new_no (git_rules k) h new) y))
          where
            eqb-zero : (i : ℕ) → i ≡ 0 → eqb i 0 ≡ true
            eqb-zero i e = rw e

    put-given : take (put_answer k h s new (length out)).count (stored (put_answer k h s new (length out)).verdict (as_written (put_in new (entries_in h s))) out)
        ≡ as_written (put_in new es)
    put-given =
        ap (λ l. take (put_answer k h s new (length out)).count (stored (put_answer k h s new (length out)).verdict (as_written (put_in new l)) out)) entries_are
        ∙ taken (put_answer k h s new (length out)) (as_written (put_in new es)) out (put-parts.1 ∙ putting-done.3)

    pub put_written : (v : Written k h (table_put new t)
        (take (put_answer k h s new (length out)).count (stored (put_answer k h s new (length out)).verdict (as_written (put_in new (entries_in h s))) out)))
        × (v.listing ≡ put_in new es)
    unfolding table_put
    put_written = (
      record {
        rules = w.rules;
        id = w.id;
        listing = put_in new es;
        sound = put-sound k h new es putting-done.0 w.sound;
        bytes = put-given;
        holds = λ n. put-table new es n ∙ ap (λ x. pick (same_bytes new.name n) (held new.mode new.id) x) (w.holds n);
        short = subst (λ l. length l ≤ most_bytes) (sym put-given) (omega (arith, putting-done.2, put-parts.0));
        few = putting-done.1;
      },
      refl,
    )

  module _ (name out : List ℕ) (z : (remove_answer k h s name (length out)).verdict.number ≡ 0) where
    remove-parts : (max (length s) (max (length name) (length out)) ≤ most_bytes) × (remove_answer k h s name (length out) ≡ removing (length out) name es)
    unfolding remove_answer
    remove-parts =
        let d = done-counted k h (max (length s) (max (length name) (length out))) s (removing (length out) name (entries_in h s)) z in
        (d.0, d.1 ∙ ap (removing (length out) name) entries_are)

    removing-done : (length (as_written (remove_from name es)) ≤ length out) × (removing (length out) name es ≡ counted (length (as_written (remove_from name es))))
    unfolding removing
    removing-done = go (is_held (table_of es name)) (ap (λ (x : Answer). x.verdict.number) (sym remove-parts.1) ∙ z)
      where
        go : (a : Bool) → (pick a (fitted (length out) (counted (length (as_written (remove_from name es))))) (refused (verdict 15 0))).verdict.number ≡ 0
            → (length (as_written (remove_from name es)) ≤ length out)
            × (pick a (fitted (length out) (counted (length (as_written (remove_from name es))))) (refused (verdict 15 0)) ≡ counted (length (as_written (remove_from name es))))
        go true y = let f = fitted-done (length out) (counted (length (as_written (remove_from name es)))) y in (f.1, f.2)
        go false y = absurd (omega arith)

    remove-given : take (remove_answer k h s name (length out)).count (stored (remove_answer k h s name (length out)).verdict (as_written (remove_from name (entries_in h s))) out)
        ≡ as_written (remove_from name es)
    remove-given =
        ap (λ l. take (remove_answer k h s name (length out)).count (stored (remove_answer k h s name (length out)).verdict (as_written (remove_from name l)) out)) entries_are
        ∙ taken (remove_answer k h s name (length out)) (as_written (remove_from name es)) out (remove-parts.1 ∙ removing-done.1)

    pub remove-written : (v : Written k h (table_remove name t)
        (take (remove_answer k h s name (length out)).count (stored (remove_answer k h s name (length out)).verdict (as_written (remove_from name (entries_in h s))) out)))
        × (v.listing ≡ remove_from name es)
    unfolding table_remove
    remove-written = (
      record {
        rules = w.rules;
        id = w.id;
        listing = remove_from name es;
        sound = remove-sound k h name es w.sound;
        bytes = remove-given;
        holds = λ n. remove-table name es n ∙ ap (λ x. pick (same_bytes name n) none x) (w.holds n);
        short = subst (λ l. length l ≤ most_bytes) (sym remove-given) (omega (arith, removing-done.0, remove-parts.0));
        few = omega (arith, w.few, removed_le name es);
      },
      refl,
    )

-- ---- a removal of what is not there

none-not-held : (x : Held) → is_held x ≡ false → x ≡ none
unfolding is_held
none-not-held none e = refl
none-not-held (held m i) e = absurd (false≢true (sym e))

held-not-none : (x : Held) → is_held x ≡ true → x ≡ none → ⊥
unfolding is_held
held-not-none none e q = false≢true e
held-not-none (held m i) e q = let z : ◌≡◌ {A = ℕ} 0 1 = cc in absurd (omega arith)

not_fifteen : (room n : ℕ) → fitted room (counted n) ≡ refused (verdict 15 0) → ⊥
unfolding fitted
not_fifteen room n e = go (ltb room n) e
  where
    go : (b : Bool) → pick (true && b) (refused (verdict 8 n)) (counted n) ≡ refused (verdict 15 0) → ⊥
    go true e = let z : ◌≡◌ {A = ℕ} 8 15 = ap (λ (x : Answer). x.verdict.number) e in absurd (omega arith)
    go false e = let z : ◌≡◌ {A = ℕ} 0 15 = ap (λ (x : Answer). x.verdict.number) e in absurd (omega arith)

tally-listed : (n at : ℕ) (es : List Entry) → tally n (listed at es) ≡ Ok (n + length es)
unfolding tally listed
tally-listed n at [] = ap Ok (omega arith)
tally-listed n at (e ∷ es) = tally-listed (n + 1) (at + length (entry_bytes e)) es ∙ ap Ok (omega arith)

-- the strict reader counts the entries of a table as written
counts-written : (k h : ℕ) (es : List Entry) → SoundListing k h es → length es ≤ most_records → tally 0 (strictly (git_rules k) h (as_written es)) ≡ Ok (length es)
counts-written k h es p few =
    let s = (plainly k h es).0 p in
    let w = sound_writable (git_rules k) (git_ok k) h [] es s in
    let z : 0 + length es ≡ length es = omega arith in
    ap (λ l. tally 0 (cut (git_rules k) h (as_written es) [] l)) (read_written h most_records 0 es w few)
    ∙ ap (tally 0) (sound_uncut (git_rules k) (git_ok k) h [] [] es s) ∙ tally-listed 0 0 es ∙ ap Ok z

pub missing : Missing
unfolding remove_answer gated on_counted removing
missing k h t s name room w a b =
    let es = w.listing in
    let m = max (length s) (max (length name) room) in
    let g : rule_gate k h m 0 ≡ Ok tt = rule_known k h m 0 w.rules ∙ gate_fine h m 0 w.id (omega (arith, w.short, a, b)) (omega arith) in
    let c : tally 0 (strictly (git_rules k) h s) ≡ Ok (length es)
    = ap (λ x. tally 0 (strictly (git_rules k) h x)) w.bytes ∙ counts-written k h es w.sound w.few in
    let i : entries_in h s ≡ es = ap (entries_in h) w.bytes ∙ entries-written k h es w.sound w.few in
    let q : remove_answer k h s name room ≡ pick (is_held (table_of es name)) (fitted room (counted (length (as_written (remove_from name es))))) (refused (verdict 15 0))
    = rw (g, c, i) in
    ((λ e. sym (w.holds name) ∙ went (is_held (table_of es name)) refl (sym q ∙ e)), (λ e. q ∙ comes (is_held (table_of es name)) refl (w.holds name ∙ e)))
  where
    went : (v : Bool) → is_held (table_of w.listing name) ≡ v
        → pick v (fitted room (counted (length (as_written (remove_from name w.listing))))) (refused (verdict 15 0)) ≡ refused (verdict 15 0) → table_of w.listing name ≡ none
    went true p e = absurd (not_fifteen room (length (as_written (remove_from name w.listing))) e)
    went false p e = none-not-held (table_of w.listing name) p

    comes : (v : Bool) → is_held (table_of w.listing name) ≡ v → table_of w.listing name ≡ none
        → pick v (fitted room (counted (length (as_written (remove_from name w.listing))))) (refused (verdict 15 0)) ≡ refused (verdict 15 0)
    comes true p e = absurd (held-not-none (table_of w.listing name) p e)
    comes false p e = refl
