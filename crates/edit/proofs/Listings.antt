-- The walk's bytes are the edited listing as written. Assumes nothing.
use Prim.Native.Nat.{ℕ, zero, suc, ◌+◌, ◌-◌, ◌≤◌, ◌<◌}
use mathlib.Core.Bool.{Bool, true, false}
use mathlib.Core.Path.{◌≡◌, refl, ap, sym, ◌∙◌}
use mathlib.Core.List.{List, [], ◌∷◌, ◌++◌, append_assoc, map}
use native.Mathlib.Omega.{arith}
use lib.ListN.{length, drop, length-append}
use lib.Seq.{drop-append_seam, take_at}
use Rattle.ground.specs.Basics.{pick, part}
use Rattle.ground.specs.Scan.{same_bytes}
use Rattle.ground.specs.Verdict.{most_bytes, most_records}
use Rattle.mode.specs.Mode.{is_tree}
use Rattle.entry.specs.Record.{name_of, folder_of}
use Rattle.entry.specs.Entry.{Entry, entry_bytes, as_written, entry_of, entries_of}
use Rattle.entry.specs.Decode.{decode}
use Rattle.entry.specs.declared.EntryRecord.{EntryRecord}
use Rattle.rules.specs.Rules.{git_rules, stands_before}
use Rattle.reading.specs.Listing.{entry, follow, plain, listing, records_in, tally}
use Rattle.reading.proofs.Laws.{plain-none, tally-length}
use Rattle.strict.specs.Strict.{strictly}
use Rattle.strict.proofs.Laws.{strict-plain}
use Rattle.one_listing.specs.Again.{again_entry}
use Rattle.one_listing.specs.Sound.{Sound}
use Rattle.one_listing.proofs.Back.{Writable, AllWritable, record_for, listed, bytes-length, record_names, read_written}
use Rattle.one_listing.proofs.Cutting.{uncut_sound, sound_writable, sound-again}
use Rattle.one_listing.proofs.Present.{git_ok}
use Rattle.edit_walk.specs.Walk.{ahead, carried, kept_in, walk_bytes, walk_of}
use Rattle.edit_walk.specs.declared.Walked.{Walked}
use Rattle.edit_walk.proofs.Laws as walk
use Rattle.edit.specs.Table.{remove_from, insert, put_in}
use Rattle.edit.specs.Edit.{entries_in}
use Rattle.entry.specs.declared.Cursor.{Cursor}
use Rattle.ground.specs.declared.Verdict.{Verdict}
use Rattle.std.specs.Prelude.{Err, Ok, Result}

-- ---- the walk over a listing is the two edits

-- the entries of the new one's name are left out, and the new one is put where it belongs unless it is done with
unfoldable pub edited : Bool → Entry → List Entry → List Entry
edited true new [] = []
edited false new [] = new ∷ []
edited true new (e ∷ es) = pick (same_bytes e.name new.name) (edited true new es) (e ∷ edited true new es)
edited false new (e ∷ es) =
    pick (same_bytes e.name new.name) (edited false new es)
    (pick (stands_before e new) (e ∷ edited false new es) (new ∷ e ∷ edited true new es))

pub edited_removes : (new : Entry) (es : List Entry) → edited true new es ≡ remove_from new.name es
unfolding edited remove_from
edited_removes new [] = refl
edited_removes new (e ∷ es) = ap (λ (l : List Entry). pick (same_bytes e.name new.name) l (e ∷ l)) (edited_removes new es)

pub edited_puts : (new : Entry) (es : List Entry) → edited false new es ≡ put_in new es
unfolding edited remove_from insert put_in
edited_puts new [] = refl
edited_puts new (e ∷ es) = go (edited_puts new es) (same_bytes e.name new.name) (stands_before e new) refl
  where
    go : edited false new es ≡ insert new (remove_from new.name es) → (u v : Bool) → stands_before e new ≡ v
        → pick u (edited false new es) (pick v (e ∷ edited false new es) (new ∷ e ∷ edited true new es)) ≡ insert new (pick u (remove_from new.name es) (e ∷ remove_from new.name es))
    go ih true v q = ih
    go ih false true q = rw q (ap (λ (l : List Entry). e ∷ l) ih)
    go ih false false q = rw q (ap (λ (l : List Entry). new ∷ e ∷ l) (edited_removes new es))

-- ---- a listing as written, carried over

module _ (h : ℕ) (new : Entry) where
  piece_is : (p r : List ℕ) (e : Entry) → Writable h e → part (length p) ((record_for (length p) e).id_start + h) (p ++ (entry_bytes e ++ r)) ≡ entry_bytes e
  unfolding record_for
  piece_is p r e f =
      rw (drop-append_seam p (entry_bytes e ++ r)) (take_at (entry_bytes e) r ((record_for (length p) e).id_start + h - length p) (omega (arith, bytes-length h e f r)))

  module _ (p r : List ℕ) (e : Entry) (f : Writable h e) (g : again_entry e ≡ e) where
    named : entry_of h (p ++ (entry_bytes e ++ r)) (record_for (length p) e) ≡ e
    named = record_names h e f r p ∙ g

    name-is : name_of (p ++ (entry_bytes e ++ r)) (record_for (length p) e) ≡ e.name
    unfolding entry_of
    name-is = ap (λ (x : Entry). x.name) named

    ahead-is : ahead (p ++ (entry_bytes e ++ r)) (record_for (length p) e) new.name (is_tree new.mode) ≡ stands_before e new
    unfolding ahead stands_before entry_of folder_of
    ahead-is = ap (λ (x : Entry). stands_before x new) named

  abbrev Again : List Entry → Type 0
  Again [] = Unit {0}
  Again (e ∷ es) = (again_entry e ≡ e) × Again es

  written_one : (l : List ℕ) → l ++ [] ≡ l
  written_one [] = refl
  written_one (x ∷ l) = ap (λ (r : List ℕ). x ∷ r) (written_one l)

  bytes-join : (e : Entry) (es : List Entry) (placed u v : Bool) → same_bytes e.name new.name ≡ u → stands_before e new ≡ v
      → pick u (as_written (edited placed new es)) (pick placed (entry_bytes e ++ as_written (edited placed new es)) (pick v (entry_bytes e ++ as_written (edited placed new es)) (entry_bytes new ++ (entry_bytes e ++ as_written (edited true new es)))))
      ≡ as_written (edited placed new (e ∷ es))
  unfolding as_written edited
  bytes-join e es true true v q w = rw q refl
  bytes-join e es true false v q w = rw q refl
  bytes-join e es false true v q w = rw q refl
  bytes-join e es false false true q w = rw (q, w) refl
  bytes-join e es false false false q w = rw (q, w) refl

  kept-join : (e : Entry) (es : List Entry) (u : Bool) → same_bytes e.name new.name ≡ u
      → pick u (length (remove_from new.name es)) (1 + length (remove_from new.name es)) ≡ length (remove_from new.name (e ∷ es))
  unfolding remove_from
  kept-join e es true q = rw q refl
  kept-join e es false q = rw q (omega arith)

  carried-written : (placed : Bool) (p : List ℕ) (es : List Entry) → AllWritable h es → Again es
      → carried h (p ++ as_written es) new placed (listed (length p) es) ≡ as_written (edited placed new es)
  unfolding carried listed as_written edited
  carried-written true p [] f g = refl
  carried-written false p [] f g = sym (written_one (entry_bytes new))
  carried-written placed p (e ∷ es) f g =
      let r : List ℕ = as_written es in
      let q : (p ++ entry_bytes e) ++ r ≡ p ++ (entry_bytes e ++ r) = append_assoc p (entry_bytes e) r in
      let l : length (p ++ entry_bytes e) ≡ length p + length (entry_bytes e) = length-append p (entry_bytes e) in
      let i : carried h (p ++ (entry_bytes e ++ r)) new placed (listed (length p + length (entry_bytes e)) es) ≡ as_written (edited placed new es)
      = rw (q, l) at (carried-written placed (p ++ entry_bytes e) es f.1 g.1) in
      let j : carried h (p ++ (entry_bytes e ++ r)) new true (listed (length p + length (entry_bytes e)) es) ≡ as_written (edited true new es)
      = rw (q, l) at (carried-written true (p ++ entry_bytes e) es f.1 g.1) in
      rw (name-is p r e f.0 g.0, ahead-is p r e f.0 g.0, piece_is p r e f.0, i, j) (bytes-join e es placed (same_bytes e.name new.name) (stands_before e new) refl refl)

  kept-written : (p : List ℕ) (es : List Entry) → AllWritable h es → Again es
      → kept_in (p ++ as_written es) new.name (listed (length p) es) ≡ length (remove_from new.name es)
  unfolding kept_in listed as_written remove_from
  kept-written p [] f g = refl
  kept-written p (e ∷ es) f g =
      let r : List ℕ = as_written es in
      let q : (p ++ entry_bytes e) ++ r ≡ p ++ (entry_bytes e ++ r) = append_assoc p (entry_bytes e) r in
      let l : length (p ++ entry_bytes e) ≡ length p + length (entry_bytes e) = length-append p (entry_bytes e) in
      let i : kept_in (p ++ (entry_bytes e ++ r)) new.name (listed (length p + length (entry_bytes e)) es) ≡ length (remove_from new.name es)
      = rw (q, l) at (kept-written (p ++ entry_bytes e) es f.1 g.1) in
      rw (name-is p r e f.0 g.0, i) (kept-join e es (same_bytes e.name new.name) refl)

-- ---- an object that was counted strictly

again-each : (h : ℕ) (new : Entry) (es : List Entry) → map again_entry es ≡ es → Again h new es
again-each h new [] q = tt
again-each h new (e ∷ es) q = (cc, again-each h new es (cc))

tally_least : (h k m n to : ℕ) (b : List ℕ) → tally (m + 1) (plain h k to b) ≡ Ok n → m + 1 ≤ n
tally_least h k m n to b t = omega (arith, tally-length (m + 1) (plain h k to b) n t)

tally-exact : (h k at : ℕ) (b : List ℕ) (m n : ℕ) → tally m (plain h k at b) ≡ Ok n → (plain h (n - m) at b ≡ plain h k at b) × (n ≤ m + k)
unfolding plain follow tally
tally-exact h zero at [] m n t = let e : m ≡ n = cc in (plain-none h (n - m) at, omega arith)
tally-exact h (suc k) at [] m n t = let e : m ≡ n = cc in (plain-none h (n - m) at, omega arith)
tally-exact h zero at (x ∷ xs) m n t = let z : ◌≡◌ {A = ℕ} 0 1 = cc in absurd (omega arith)
tally-exact h (suc k) at (x ∷ xs) m n t = cases (λ to b u. tally-exact h k to b (m + 1) n u) (decode h at (x ∷ xs)) refl t
  where
    cases : ((to : ℕ) (b : List ℕ) → tally (m + 1) (plain h k to b) ≡ Ok n → (plain h (n - (m + 1)) to b ≡ plain h k to b) × (n ≤ m + 1 + k))
        → (d : Result (EntryRecord × Cursor) Verdict) → decode h at (x ∷ xs) ≡ d → tally m (follow (plain h k) at (x ∷ xs) d) ≡ Ok n
        → (plain h (n - m) at (x ∷ xs) ≡ follow (plain h k) at (x ∷ xs) d) × (n ≤ m + suc k)
    cases rec (Err v) q t = let z : ◌≡◌ {A = ℕ} 0 1 = cc in absurd (omega arith)
    cases rec (Ok (e, next)) q t = more (tally_least h k m n next.at (drop (next.at - at) (x ∷ xs)) t) (rec next.at (drop (next.at - at) (x ∷ xs)) t)
      where
        more : m + 1 ≤ n → (plain h (n - (m + 1)) next.at (drop (next.at - at) (x ∷ xs)) ≡ plain h k next.at (drop (next.at - at) (x ∷ xs))) × (n ≤ m + 1 + k)
            → (plain h (n - m) at (x ∷ xs) ≡ entry at e (plain h k next.at (drop (next.at - at) (x ∷ xs)))) × (n ≤ m + suc k)
        more g f =
            let u : n - m ≡ suc (n - (m + 1)) = omega arith in
            (rw (u, q, f.0), omega (arith, f.1))

module _ (k h : ℕ) (s : List ℕ) (n : ℕ) (big : 6 < h) (t : tally 0 (strictly (git_rules k) h s) ≡ Ok n) where
  plain-is : strictly (git_rules k) h s ≡ listing h s
  plain-is = strict-plain (git_rules k) h s n t

  exact : (plain h (n - 0) 0 s ≡ listing h s) × (n ≤ 0 + most_records)
  exact = tally-exact h most_records 0 s 0 n (ap (tally 0) (sym plain-is) ∙ t)

  pub counted-few : n ≤ 1048576
  counted-few = omega (arith, exact.1)

  pub sound-is : Sound (git_rules k) h [] (entries_in h s) × (s ≡ as_written (entries_in h s))
  sound-is = uncut_sound (git_rules k) (git_ok k) h s big most_records 0 0 n [] s refl t

  pub entries-count : length (entries_in h s) ≡ n
  entries-count =
      let z : 0 + length (records_in (listing h s)) ≡ n = sym (tally-length 0 (listing h s) n (ap (tally 0) (sym plain-is) ∙ t)) in
      map-length h s (records_in (listing h s)) ∙ omega (arith, z)
    where
      map-length : (h : ℕ) (s : List ℕ) (rs : List EntryRecord) → length (entries_of h s rs) ≡ length rs
      map-length h s [] = refl
      map-length h s (r ∷ rs) = ap suc (map-length h s rs)

  writable : AllWritable h (entries_in h s)
  writable = sound_writable (git_rules k) (git_ok k) h [] (entries_in h s) sound-is.0

  listed-is : plain h n 0 s ≡ listed 0 (entries_in h s)
  listed-is =
      let z : n - 0 ≡ n = omega arith in
      ap (λ (i : ℕ). plain h i 0 s) (sym z) ∙ exact.0 ∙ ap (plain h most_records 0) sound-is.1
      ∙ read_written h most_records 0 (entries_in h s) writable (omega (arith, entries-count, exact.1))

  module _ (new : Entry) where
    agains : Again h new (entries_in h s)
    agains = again-each h new (entries_in h s) (sound-again (git_rules k) (git_ok k) h [] (entries_in h s) sound-is.0)

    pub walk-bytes : (placed : Bool) → carried h s new placed (plain h n 0 s) ≡ as_written (edited placed new (entries_in h s))
    walk-bytes placed =
        ap (carried h s new placed) listed-is ∙ ap (λ (x : List ℕ). carried h x new placed (listed 0 (entries_in h s))) sound-is.1 ∙ carried-written h new placed [] (entries_in h s) writable agains

    pub walk_kept : kept_in s new.name (plain h n 0 s) ≡ length (remove_from new.name (entries_in h s))
    walk_kept =
        ap (kept_in s new.name) listed-is ∙ ap (λ (x : List ℕ). kept_in x new.name (listed 0 (entries_in h s))) sound-is.1 ∙ kept-written h new [] (entries_in h s) writable agains

    -- ---- what the walk answers, within the bounds

    module _ (a : length s ≤ most_bytes) (b : length new.name ≤ most_bytes) (c : length new.id ≤ most_bytes) where
      pub kept-is : (placed : Bool) (w : Walked) → w ≡ walk_of h s n new placed → w.kept ≡ length (remove_from new.name (entries_in h s))
      kept-is placed w e = ap (λ (x : Walked). x.kept) e ∙ walk.walk_kept h s n new placed a b c counted-few ∙ walk_kept

      used_is : (placed : Bool) (w : Walked) → w ≡ walk_of h s n new placed → w.used ≡ length (as_written (edited placed new (entries_in h s)))
      used_is placed w e = ap (λ (x : Walked). x.used) e ∙ walk.walk_used h s n new placed a b c counted-few ∙ ap length (walk-bytes placed)

      bytes-are : (placed : Bool) → walk_bytes h s n new placed ≡ as_written (edited placed new (entries_in h s))
      bytes-are placed = walk.walk_bytes_are h s n new placed a b c counted-few ∙ walk-bytes placed

      pub put_used : (w : Walked) → w ≡ walk_of h s n new false → w.used ≡ length (as_written (put_in new (entries_in h s)))
      put_used w e = used_is false w e ∙ ap (λ (l : List Entry). length (as_written l)) (edited_puts new (entries_in h s))

      pub put-bytes : walk_bytes h s n new false ≡ as_written (put_in new (entries_in h s))
      put-bytes = bytes-are false ∙ ap as_written (edited_puts new (entries_in h s))

      pub remove_used : (w : Walked) → w ≡ walk_of h s n new true → w.used ≡ length (as_written (remove_from new.name (entries_in h s)))
      remove_used w e = used_is true w e ∙ ap (λ (l : List Entry). length (as_written l)) (edited_removes new (entries_in h s))

      pub remove-bytes : walk_bytes h s n new true ≡ as_written (remove_from new.name (entries_in h s))
      remove-bytes = bytes-are true ∙ ap as_written (edited_removes new (entries_in h s))
