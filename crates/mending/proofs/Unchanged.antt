-- An object that is strict under rule set 2 is written unchanged, and all its entries are kept. Assumes nothing.
use Prim.Native.Nat.{ℕ, ◌+◌, ◌-◌, ◌≤◌}
use native.Mathlib.Omega.{arith}
use mathlib.Core.Path.{◌≡◌, refl, ap, ◌∙◌}
use mathlib.Core.Logic.{inl, inr, ⊎_elim}
use mathlib.Core.Bool.{true, false}
use mathlib.Core.List.{List, [], ◌∷◌, ◌++◌, map, append_assoc, Memᴰ}
use lib.ListN.{length, length-append}
use lib.Seq.{take-append_seam, drop-append_seam}
use Rattle.ground.specs.Scan.{same_bytes}
use Rattle.ground.specs.Verdict.{most_records}
use Rattle.ground.proofs.Laws.{same_refl, same_true, is_false}
use Rattle.mode.specs.Mode.{value_of, sort_of, executes, kind_of, is_tree}
use Rattle.mode.specs.Table.{rows, row_at, written_of}
use Rattle.mode.specs.Write.{write_mode}
use Rattle.order.specs.Order.{is_below, name_order, opposite}
use Rattle.order.proofs.Laws.{order_flip}
use Rattle.entry.specs.Record.{name_of, id_of}
use Rattle.entry.specs.Entry.{Entry, entry_bytes, as_written, entry_of}
use Rattle.entry.specs.declared.EntryRecord.{EntryRecord}
use Rattle.rules.specs.Rules.{git_rules, name_number, stands_before}
use Rattle.reading.specs.Listing.{listing, records_in}
use Rattle.strict.specs.Strict.{text_of}
use Rattle.one_listing.specs.Again.{again_entry}
use Rattle.one_listing.specs.Demand.{Accepts}
use Rattle.one_listing.specs.Sound.{Five, SoundEntry, Ascending, EachSound, Sound}
use Rattle.one_listing.specs.Sound as sound
use Rattle.one_listing.proofs.Back.{Writable, record_for, listed, bytes_append, record_names, read_written}
use Rattle.one_listing.proofs.Cutting.{sound_writable, sound-again}
use Rattle.one_listing.proofs.Theorem.{accepts_sound}
use Rattle.one_listing.proofs.Present.{git_ok, plainly}
use Rattle.sorting.specs.Sort.{Ascends}
use Rattle.sorting.proofs.Sorted.{sort-done}
use Rattle.fate.specs.Fate.{stays_mode, own_mode, own_text, fate_of}
use Rattle.fate.proofs.Laws.{fate_kept}
use Rattle.mend.specs.Mend.{among, fate_in, names_after, fates_from, kept_from, fates_of, mended_entry, mended}
use Rattle.mend_kept.proofs.Bytes.{own-text}
use Rattle.mend_kept.proofs.Fates.{All}
use Rattle.std.specs.declared.cmp.Ordering.TheVariants.{Greater}

-- ---- one of the five modes is its kind's own

five_stays : (m : ℕ) → Five m → (stays_mode m ≡ true) × (own_mode m ≡ m)
unfolding stays_mode own_mode kind_of sort_of value_of executes written_of row_at rows
five_stays m (inl p) = rw p (refl, refl)
five_stays m (inr (inl p)) = rw p (refl, refl)
five_stays m (inr (inr (inl p))) = rw p (refl, refl)
five_stays m (inr (inr (inr (inl p)))) = rw p (refl, refl)
five_stays m (inr (inr (inr (inr p)))) = rw p (refl, refl)

five_of : (h : ℕ) (e : Entry) → SoundEntry 2 h e → Five e.mode
five_of h e s = ⊎_elim (λ f. f) (λ f. absurd (let z : ◌≡◌ {A = ℕ} 2 1 = f.0 in omega arith)) s.mode

-- ---- one entry where it was written

fate_zero : (s : List ℕ) (names : List (List ℕ)) (r : EntryRecord) (t n : List ℕ) (m : ℕ) → text_of s r.text_start r ≡ t → name_of s r ≡ n
    → r.mode ≡ m → name_number n ≡ 0 → stays_mode m ≡ true → among names n ≡ false → same_bytes t (own_text m) ≡ true → fate_in s names r ≡ 0
unfolding fate_in
fate_zero s names r t n m a b c z q f y =
    let w : fate_of (name_number (name_of s r)) r.mode (among names (name_of s r)) (text_of s r.text_start r) ≡ fate_of (name_number n) m (among names n) t =
    rw (a, b, c) refl in
    w ∙ fate_kept (name_number n) m (among names n) t z q f ∙ rw y refl

module _ (h : ℕ) (p r : List ℕ) (before : List Entry) (e : Entry) (s : sound.Permitted (git_rules 2) h before e) (each : SoundEntry 2 h e) where
  writable : Writable h e
  writable = (sound_writable (git_rules 2) (git_ok 2) h before (e ∷ []) (s, tt)).0

  again : again_entry e ≡ e
  again = let q = sound-again (git_rules 2) (git_ok 2) h before (e ∷ []) (s, tt) in cc

  named : entry_of h (p ++ (entry_bytes e ++ r)) (record_for (length p) e) ≡ e
  named = record_names h e writable r p ∙ again

  text : text_of (p ++ (entry_bytes e ++ r)) (length p) (record_for (length p) e) ≡ write_mode e.mode
  unfolding text_of record_for
  text =
      let z : length p + (length (write_mode e.mode) + 1) - 1 - length p ≡ length (write_mode e.mode) = omega arith in
      rw (z, drop-append_seam p (entry_bytes e ++ r), bytes_append h e writable r) (take-append_seam (write_mode e.mode) (32 ∷ (e.name ++ 0 ∷ (e.id ++ r))))

  name-is : name_of (p ++ (entry_bytes e ++ r)) (record_for (length p) e) ≡ e.name
  unfolding entry_of
  name-is = ap (λ (x : Entry). x.name) named

  mode-is : (record_for (length p) e).mode ≡ e.mode
  unfolding entry_of
  mode-is = ap (λ (x : Entry). x.mode) named

  id-is : id_of h (p ++ (entry_bytes e ++ r)) (record_for (length p) e) ≡ e.id
  unfolding entry_of
  id-is = ap (λ (x : Entry). x.id) named

  place : (record_for (length p) e).text_start ≡ length p
  unfolding record_for
  place = refl

  same_text : same_bytes (write_mode e.mode) (own_text e.mode) ≡ true
  same_text =
      let w = five_stays e.mode (five_of h e each) in
      let z : own_text e.mode ≡ write_mode e.mode = own-text e.mode ∙ ap write_mode w.1 in
      rw z (same_refl (write_mode e.mode))

  kept : (names : List (List ℕ)) → among names e.name ≡ false → fate_in (p ++ (entry_bytes e ++ r)) names (record_for (length p) e) ≡ 0
  unfolding git_rules
  kept names f =
      let w = five_stays e.mode (five_of h e each) in
      fate_zero (p ++ (entry_bytes e ++ r)) names (record_for (length p) e) (write_mode e.mode) e.name e.mode
      (ap (λ (k : ℕ). text_of (p ++ (entry_bytes e ++ r)) k (record_for (length p) e)) place ∙ text) name-is mode-is s.named w.0 f same_text

  mended-is : mended_entry h (p ++ (entry_bytes e ++ r)) (record_for (length p) e) ≡ e
  unfolding mended_entry
  mended-is = let w = five_stays e.mode (five_of h e each) in rw (name-is, id-is, mode-is, w.1) refl

-- ---- all of them

abbrev pub Zero : ℕ → Type 0
Zero f = f ≡ 0

-- no entry's name is one of some names
abbrev Apart : List (List ℕ) → List Entry → Type 0
Apart names es = (b : Entry) → Memᴰ b es → among names b.name ≡ false

apart_next : (e : Entry) (es : List Entry) (names : List (List ℕ)) → Apart names (e ∷ es) → ((b : Entry) → Memᴰ b es → e.name ≡ b.name → ⊥)
    → Apart (e.name ∷ names) es
unfolding among
apart_next e es names a d b m =
    let z : same_bytes e.name b.name ≡ false = is_false (same_bytes e.name b.name) (λ t. d b m (same_true e.name b.name t)) in
    rw (z, a b (Memᴰ.tail m)) refl

record Unmended (h : ℕ) (s : List ℕ) (names : List (List ℕ)) (rs : List EntryRecord) (es : List Entry) : Type 0 where
  pub zeros : All Zero (fates_from s names rs)
  pub kept : kept_from s names rs ≡ rs
  pub listed : map (mended_entry h s) rs ≡ es

all_same : (h : ℕ) (p : List ℕ) (before es : List Entry) (names : List (List ℕ)) → Sound (git_rules 2) h before es → EachSound 2 h es → sound.Distinct es → Apart names es
    → Unmended h (p ++ as_written es) names (records_in (listed (length p) es)) es
unfolding as_written listed records_in fates_from kept_from names_after
all_same h p before [] names s each d a = record { zeros = tt; kept = refl; listed = refl }
all_same h p before (e ∷ es) names s each d a =
    let w : List ℕ = p ++ (entry_bytes e ++ as_written es) in
    let f : fate_in (p ++ (entry_bytes e ++ as_written es)) names (record_for (length p) e) ≡ 0 =
    kept h p (as_written es) before e s.0 each.0 names (a e (Memᴰ.head refl)) in
    let n = name-is h p (as_written es) before e s.0 each.0 in
    let m = mended-is h p (as_written es) before e s.0 each.0 in
    let q : (p ++ entry_bytes e) ++ as_written es ≡ p ++ (entry_bytes e ++ as_written es) = append_assoc p (entry_bytes e) (as_written es) in
    let l : length (p ++ entry_bytes e) ≡ length p + length (entry_bytes e) = length-append p (entry_bytes e) in
    let ih : Unmended h (p ++ (entry_bytes e ++ as_written es)) (e.name ∷ names) (records_in (listed (length p + length (entry_bytes e)) es)) es =
    rw (q, l) at (all_same h (p ++ entry_bytes e) (e ∷ before) es (e.name ∷ names) s.1 each.1 d.1 (apart_next e es names a d.0)) in
    record {
      zeros = (f, rw (f, n) ih.zeros);
      kept = rw (f, n, ih.kept) refl;
      listed = rw (m, ih.listed) refl;
    }

up : (es : List Entry) → Ascending es → Ascends stands_before es
unfolding Ascends stands_before
up [] a = tt
up (x ∷ []) a = tt
up (x ∷ y ∷ es) a =
    let f : name_order y.name (is_tree y.mode) x.name (is_tree x.mode) ≡ Greater =
    order_flip x.name (is_tree x.mode) y.name (is_tree y.mode) ∙ ap opposite a.0 in
    (ap is_below f, up (y ∷ es) a.1)

-- a sound listing as written is mended to itself
sound-same : (h : ℕ) (es : List Entry) → Sound (git_rules 2) h [] es → length es ≤ most_records
    → (mended h (as_written es) ≡ as_written es) × All Zero (fates_of h (as_written es))
unfolding mended among
sound-same h es s few =
    let w = (plainly 2 h es).1 s in
    let r : listing h (as_written es) ≡ listed 0 es = read_written h most_records 0 es (sound_writable (git_rules 2) (git_ok 2) h [] es s) few in
    let x = all_same h [] [] es [] s w.0 w.2 (λ b m. refl) in
    (rw (r, x.kept, x.listed) (ap as_written (sort-done stands_before es (up es w.1))), rw r x.zeros)

pub same_object : (h : ℕ) (s lent : List ℕ) (es : List Entry) → length es ≤ most_records → Accepts (git_rules 2) h s lent es
    → (mended h s ≡ s) × All Zero (fates_of h s)
same_object h s lent es few a =
    let w = accepts_sound (git_rules 2) (git_ok 2) h s lent es a in
    rw w.2 (sound-same h es w.0 few)
