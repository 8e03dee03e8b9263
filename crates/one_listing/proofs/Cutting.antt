-- What rules cut: a sound listing as written is not cut, and what is not cut is a sound listing as written. Assumes nothing.
use Prim.Native.Nat.{ℕ, zero, suc, ◌+◌, ◌-◌, ◌≤◌, ◌<◌}
use native.Mathlib.Omega.{arith}
use native.Mathlib.Numerals.{add-one}
use mathlib.Core.Path.{◌≡◌, refl, ap, sym, subst, ◌∙◌}
use mathlib.Core.Bool.{Bool, true, false, ◌||◌, false≢true}
use mathlib.Core.List.{List, [], ◌∷◌, ◌++◌, append_assoc, map}
use lib.Dec.{eqb}
use lib.ListN.{length, get_or, take, drop, length-append, length-drop, take-append-drop}
use lib.Seq.{drop-drop, drop-cons, append_snoc, take-append_seam, take_at, drop-append_seam, length-take-le}
use borrow.Author.Tests.{eq-eqb, eqb-true}
use Rattle.ground.specs.Basics.{pick}
use Rattle.ground.specs.Scan.{count_to, same_bytes}
use Rattle.ground.specs.Verdict.{verdict}
use Rattle.ground.proofs.Laws.{same_refl, same_true, count-is}
use Rattle.mode.specs.Read.{read_mode}
use Rattle.mode_text.specs.Write.{shown}
use Rattle.mode_text.specs.Write.{write_mode, again}
use Rattle.mode.specs.declared.EntryMode.{EntryMode}
use Rattle.mode_table.specs.declared.Written.{Written}
use Rattle.mode_round.proofs.Again.{written_reads}
use Rattle.mode_round.proofs.Space.{mode-space}
use Rattle.entry.specs.Record.{name_of, id_of}
use Rattle.entry.specs.Entry.{Entry, entry_bytes, as_written, entry_of, entries_of}
use Rattle.entry.specs.Decode.{decode}
use Rattle.entry.specs.declared.EntryRecord.{EntryRecord}
use Rattle.entry.specs.declared.Cursor.{Cursor}
use Rattle.entry.proofs.Laws.{Parts, decode-parts}
use Rattle.rules.specs.Rules.{Rules, or_else, is_text, judge}
use Rattle.reading.specs.Listing.{Listing, stop, entry, follow, plain, records_in, tally}
use Rattle.strict.specs.Strict.{text_of, cut}
use Rattle.strict.proofs.Laws.{cut-fine}
use Rattle.one_listing.specs.Sound.{is_mode, Permitted, Sound}
use Rattle.one_listing.specs.Lawful.{RowOk, RowsOk, RulesOk}
use Rattle.one_listing.specs.Again.{again_entry}
use Rattle.one_listing.proofs.Back.{Writable, AllWritable, record_for, listed, bytes_append, record_names}
use Rattle.ground.specs.declared.Verdict.{Verdict}
use Rattle.std.specs.Prelude.{Err, Ok, Result, Some}
use Rattle.ground.proofs.Pairs.{some_parts}

-- ---- modes and texts of the rows

record ModeOk (rows : List Written) (m : ℕ) : Type 0 where
  known : is_mode rows m ≡ true
  listed : is_text rows (write_mode m) ≡ true
  some : m ≡ 0 → ⊥
  small : m < 65536
  same : again m ≡ m

or_right : (a b : Bool) → b ≡ true → (a || b) ≡ true
or_right true b e = refl
or_right false b e = e

or_left : (a b : Bool) → a ≡ true → (a || b) ≡ true
or_left true b e = refl
or_left false b e = absurd (false≢true e)

more : (r : Written) (rs : List Written) (m : ℕ) → ModeOk rs m → ModeOk (r ∷ rs) m
unfolding is_mode
more r rs m o =
    record {
      known = or_right (eqb r.mode m) (is_mode rs m) o.known;
      listed = or_right (same_bytes (write_mode m) (shown r.text)) (is_text rs (write_mode m)) o.listed;
      some = o.some;
      small = o.small;
      same = o.same;
    }

here : (r : Written) (rs : List Written) → RowOk r → ModeOk (r ∷ rs) r.mode
unfolding is_mode
here r rs o =
    record {
      known = or_left (eqb r.mode r.mode) (is_mode rs r.mode) (eq-eqb r.mode r.mode refl);
      listed = or_left (same_bytes (write_mode r.mode) (shown r.text)) (is_text rs (write_mode r.mode)) (rw o.written (same_refl (write_mode r.mode)));
      some = o.some;
      small = o.small;
      same = o.same;
    }

mode_ok : (rows : List Written) (m : ℕ) → RowsOk rows → is_mode rows m ≡ true → ModeOk rows m
unfolding is_mode
mode_ok [] m o e = absurd (false≢true e)
mode_ok (r ∷ rs) m o e = go (mode_ok rs m o.1) (eqb r.mode m) refl e
  where
    go : (is_mode rs m ≡ true → ModeOk rs m) → (v : Bool) → eqb r.mode m ≡ v → (v || is_mode rs m) ≡ true → ModeOk (r ∷ rs) m
    go ih true q e = subst (λ (x : ℕ). ModeOk (r ∷ rs) x) (eqb-true r.mode m q) (here r rs o.0)
    go ih false q e = more r rs m (ih e)

text_ok : (rows : List Written) (t : List ℕ) → RowsOk rows → is_text rows t ≡ true → (m : ℕ) × (write_mode m ≡ t) × ModeOk rows m
text_ok [] t o e = absurd (false≢true e)
text_ok (r ∷ rs) t o e = go (text_ok rs t o.1) (same_bytes t (shown r.text)) refl e
  where
    go : (is_text rs t ≡ true → (m : ℕ) × (write_mode m ≡ t) × ModeOk rs m) → (v : Bool) → same_bytes t (shown r.text) ≡ v → (v || is_text rs t) ≡ true
        → (m : ℕ) × (write_mode m ≡ t) × ModeOk (r ∷ rs) m
    go ih true q e = (r.mode, sym o.0.written ∙ sym (same_true t (shown r.text) q), here r rs o.0)
    go ih false q e = let i : (m : ℕ) × (write_mode m ≡ t) × ModeOk rs m = ih e in (i.0, i.1, more r rs i.0 i.2)

-- ---- what the rules said

or-zero : (i j : ℕ) → or_else i j ≡ 0 → (i ≡ 0) × (j ≡ 0)
or-zero zero j e = (refl, e)
or-zero (suc i) j e = absurd (omega arith)

passed : (v : Bool) → ◌≡◌ {A = ℕ} (pick v 0 5) 0 → v ≡ true
passed true e = refl
passed false e = absurd (omega arith)

judge-zero : (R : Rules) (before : List Entry) (text : List ℕ) (e : Entry) → judge R before text e ≡ 0
    → (is_text R.modes text ≡ true) × (R.name_no e.name ≡ 0) × (R.after_no before e ≡ 0)
unfolding judge
judge-zero R before text e z =
    let a = or-zero (pick (is_text R.modes text) 0 5) _ z in
    let b = or-zero (R.name_no e.name) (R.after_no before e) a.1 in
    (passed (is_text R.modes text) a.0, b.0, b.1)

judge-made : (R : Rules) (before : List Entry) (text : List ℕ) (e : Entry) → is_text R.modes text ≡ true → R.name_no e.name ≡ 0 → R.after_no before e ≡ 0
    → judge R before text e ≡ 0
unfolding judge
judge-made R before text e a b c = rw (a, b, c)

-- ---- a sound listing as written is not cut

module _ (R : Rules) (ok : RulesOk R) (h : ℕ) where
  permitted_writable : (before : List Entry) (e : Entry) → Permitted R h before e → Writable h e
  permitted_writable before e p =
      let m = mode_ok R.modes e.mode ok.modes p.known in
      record { mode = m.small; some = m.some; name = ok.names e.name p.named; id = p.sized }

  pub sound_writable : (before es : List Entry) → Sound R h before es → AllWritable h es
  sound_writable before [] s = tt
  sound_writable before (e ∷ es) s = (permitted_writable before e s.0, sound_writable (e ∷ before) es s.1)

  permitted-again : (before : List Entry) (e : Entry) → Permitted R h before e → again_entry e ≡ e
  unfolding again_entry
  permitted-again before e p = rw (mode_ok R.modes e.mode ok.modes p.known).same

  pub sound-again : (before es : List Entry) → Sound R h before es → map again_entry es ≡ es
  sound-again before [] s = refl
  sound-again before (e ∷ es) s =
      let a = permitted-again before e s.0 in
      let b = sound-again (e ∷ before) es s.1 in
      cc

  -- the mode text that is read where e was written
  text-written : (p r : List ℕ) (before : List Entry) (e : Entry) → Permitted R h before e → text_of (p ++ (entry_bytes e ++ r)) (length p) (record_for (length p) e) ≡ write_mode e.mode
  unfolding text_of record_for
  text-written p r before e s =
      let z : length p + (length (write_mode e.mode) + 1) - 1 - length p ≡ length (write_mode e.mode) = omega arith in
      rw (z, drop-append_seam p (entry_bytes e ++ r), bytes_append h e (permitted_writable before e s) r)
      (take-append_seam (write_mode e.mode) (32 ∷ (e.name ++ 0 ∷ (e.id ++ r))))

  pub sound_uncut : (p : List ℕ) (before es : List Entry) → Sound R h before es → cut R h (p ++ as_written es) before (listed (length p) es) ≡ listed (length p) es
  unfolding as_written listed cut
  sound_uncut p before [] s = refl
  sound_uncut p before (e ∷ es) s =
      let w : List ℕ = p ++ (entry_bytes e ++ as_written es) in
      let a : entry_of h w (record_for (length p) e) ≡ e = record_names h e (permitted_writable before e s.0) (as_written es) p ∙ permitted-again before e s.0 in
      let t : text_of w (length p) (record_for (length p) e) ≡ write_mode e.mode = text-written p (as_written es) before e s.0 in
      let j : judge R before (text_of w (length p) (record_for (length p) e)) (entry_of h w (record_for (length p) e)) ≡ 0
      = rw (a, t) (judge-made R before (write_mode e.mode) e (mode_ok R.modes e.mode ok.modes s.0.known).listed s.0.named s.0.placed) in
      let q : (p ++ entry_bytes e) ++ as_written es ≡ w = append_assoc p (entry_bytes e) (as_written es) in
      let l : length (p ++ entry_bytes e) ≡ length p + length (entry_bytes e) = length-append p (entry_bytes e) in
      let i : cut R h w (e ∷ before) (listed (length p + length (entry_bytes e)) es) ≡ listed (length p + length (entry_bytes e)) es
      = rw (q, l) at (sound_uncut (p ++ entry_bytes e) (e ∷ before) es s.1) in
      cut-fine R h w before (length p) (record_for (length p) e) (listed (length p + length (entry_bytes e)) es) j
      ∙ ap (entry (length p) (record_for (length p) e)) (ap (λ (x : Entry). cut R h w (x ∷ before) (listed (length p + length (entry_bytes e)) es)) a ∙ i)

-- ---- what is not cut is a sound listing as written

-- an entry's bytes past its mode text, put together again
rejoin : (h : ℕ) (c : List ℕ) → count_to 0 c + 1 + h ≤ length c
    → take (count_to 0 c) c ++ 0 ∷ (take h (drop (count_to 0 c + 1) c) ++ drop (count_to 0 c + 1 + h) c) ≡ c
rejoin h c p =
    let t : ℕ = count_to 0 c in
    let d : drop (t + 1 + h) c ≡ drop h (drop (t + 1) c) = sym (drop-drop h (t + 1) c) in
    let i : take h (drop (t + 1) c) ++ drop (t + 1 + h) c ≡ drop (t + 1) c = rw d (take-append-drop h (drop (t + 1) c)) in
    let n : get_or c t 0 ≡ 0 = count-is 0 c (omega arith) in
    let g : drop t c ≡ 0 ∷ drop (t + 1) c = rw (add-one t) (drop-cons c t 0 (omega arith) ∙ ap (λ (x : ℕ). x ∷ drop (suc t) c) n) in
    rw (i, ← g) (take-append-drop t c)

-- a permitted text in front of a space: the mode that was read is the one it is written for
row_read : (rows : List Written) (b : List ℕ) (m n : ℕ) → RowsOk rows → read_mode b ≡ Some (record { internal = m }, n) → 7 < length b → is_text rows (take (n - 1) b) ≡ true
    → (take n b ≡ write_mode m ++ 32 ∷ []) × (is_mode rows m ≡ true)
row_read rows b m n ok e p t =
    let s = mode-space b m n e p in
    let row = text_ok rows (take (n - 1) b) ok t in
    let k : ℕ = row.0 in
    let w : List ℕ = write_mode k in
    let o : ModeOk rows k = row.2 in
    let y : n ≡ suc (n - 1) = omega (arith, s.0) in
    let d : drop (n - 1) b ≡ 32 ∷ drop n b
    = drop-cons b (n - 1) 0 (omega (arith, s.0, s.1)) ∙ ap (λ (x : ℕ). x ∷ drop (suc (n - 1)) b) s.2 ∙ ap (λ (x : ℕ). 32 ∷ drop x b) (sym y) in
    let c : b ≡ w ++ 32 ∷ drop n b = sym (take-append-drop (n - 1) b) ∙ ap (λ (l : List ℕ). l ++ drop (n - 1) b) (sym row.1) ∙ ap (λ (l : List ℕ). w ++ l) d in
    let f : read_mode b ≡ Some (record { internal = again k }, length w + 1) = ap read_mode c ∙ written_reads k (drop n b) o.some o.small in
    let g : Some (record { internal = m }, n) ≡ Some (record { internal = again k }, length w + 1) = sym e ∙ f in
    let parts = some_parts g in
    let i : m ≡ k = ap (λ (x : EntryMode). x.internal) parts.0 ∙ o.same in
    let l : n ≡ length w + 1 = parts.1 in
    let u : take n (w ++ 32 ∷ drop n b) ≡ w ++ 32 ∷ []
    = ap (take n) (sym (append_snoc w 32 (drop n b))) ∙ take_at (w ++ 32 ∷ []) (drop n b) n (simp length-append (omega arith)) in
    (ap (take n) c ∙ u ∙ ap (λ (x : ℕ). write_mode x ++ 32 ∷ []) (sym i), rw i o.known)

module _ (h : ℕ) (s : List ℕ) (at : ℕ) (b : List ℕ) (here-is : drop at s ≡ b) (e : EntryRecord) (next : Cursor) (P : Parts h at b e next) where
  abbrev c : List ℕ
  c = drop P.size b

  abbrev t : ℕ
  t = count_to 0 c

  start_is : e.name_start ≡ at + P.size
  start_is = ap (λ (x : EntryRecord). x.name_start) P.laid

  end_is : e.name_end ≡ at + P.size + t
  end_is = ap (λ (x : EntryRecord). x.name_end) P.laid

  id-is : e.id_start ≡ at + P.size + (t + 1)
  id-is = ap (λ (x : EntryRecord). x.id_start) P.laid

  there : (k : ℕ) → drop (at + P.size + k) s ≡ drop k c
  there k = sym (drop-drop k (at + P.size) s) ∙ ap (drop k) (sym (drop-drop P.size at s) ∙ ap (drop P.size) here-is)

  text-is : text_of s at e ≡ take (P.size - 1) b
  unfolding text_of
  text-is = let z : e.name_start - 1 - at ≡ P.size - 1 = omega (arith, start_is) in rw (z, here-is)

  pub name-is : name_of s e ≡ take t c
  unfolding name_of
  name-is =
      let z : e.name_end - e.name_start ≡ t = omega (arith, start_is, end_is) in
      let d : drop e.name_start s ≡ c = ap (λ (x : ℕ). drop x s) start_is ∙ sym (drop-drop P.size at s) ∙ ap (drop P.size) here-is in
      rw (z, d)

  id-bytes : id_of h s e ≡ take h (drop (t + 1) c)
  unfolding id_of
  id-bytes = ap (λ (x : ℕ). take h (drop x s)) id-is ∙ ap (take h) (there (t + 1))

  rest-is : drop (next.at - at) b ≡ drop (t + 1 + h) c
  rest-is = let z : next.at - at ≡ P.size + (t + 1 + h) = omega (arith, P.past) in rw z (sym (drop-drop (t + 1 + h) P.size b))

  pub rest-there : drop next.at s ≡ drop (next.at - at) b
  rest-there =
      let z : at + (next.at - at) ≡ next.at = omega (arith, P.past) in
      sym (ap (drop (next.at - at)) (sym here-is) ∙ drop-drop (next.at - at) at s ∙ ap (λ (x : ℕ). drop x s) z)

  pub id-sized : length (id_of h s e) ≡ h
  id-sized = ap length id-bytes ∙ length-take-le h (drop (t + 1) c) (omega (arith, length-drop (t + 1) c, P.inside))

  -- the bytes are a text and a space, the name and NUL, the id, and what follows
  pub laid_out : (w : List ℕ) → take P.size b ≡ w ++ 32 ∷ [] → b ≡ w ++ 32 ∷ (name_of s e ++ 0 ∷ (id_of h s e ++ drop (next.at - at) b))
  laid_out w q =
      sym (rw (name-is, id-bytes, rest-is)
      (ap (λ (l : List ℕ). w ++ 32 ∷ l) (rejoin h c P.inside) ∙ sym (append_snoc w 32 c) ∙ ap (λ (l : List ℕ). l ++ c) (sym q)
      ∙ take-append-drop P.size b))

  -- the bytes are those of the entry and what follows
  pub bytes-are : take P.size b ≡ write_mode e.mode ++ 32 ∷ [] → b ≡ entry_bytes (entry_of h s e) ++ drop (next.at - at) b
  unfolding entry_bytes entry_of
  bytes-are w =
      let r : List ℕ = drop (next.at - at) b in
      laid_out (write_mode e.mode) w
      ∙ sym (append_assoc (write_mode e.mode) (32 ∷ (name_of s e ++ 0 ∷ id_of h s e)) r
      ∙ ap (λ (l : List ℕ). write_mode e.mode ++ 32 ∷ l) (append_assoc (name_of s e) (0 ∷ id_of h s e) r))

  -- an entry that the rules permit, whose mode text is one of theirs
  pub entry-sound : (R : Rules) → RulesOk R → 6 < h → (before : List Entry) → judge R before (text_of s at e) (entry_of h s e) ≡ 0
      → Permitted R h before (entry_of h s e) × (b ≡ entry_bytes (entry_of h s e) ++ drop (next.at - at) b)
  unfolding entry_of
  entry-sound R ok o before j =
      let z = judge-zero R before (text_of s at e) (entry_of h s e) j in
      let big : 7 < length b = omega (arith, length-drop P.size b, P.inside) in
      let w = row_read R.modes b e.mode P.size ok.modes P.reads big (rw text-is at z.0) in
      (record { known = w.1; named = z.1; placed = z.2; sized = id-sized }, bytes-are w.0)

pub uncut_sound : (R : Rules) → RulesOk R → (h : ℕ) (s : List ℕ) → 6 < h → (k at m n : ℕ) (before : List Entry) (b : List ℕ) → drop at s ≡ b
    → tally m (cut R h s before (plain h k at b)) ≡ Ok n
    → Sound R h before (entries_of h s (records_in (plain h k at b))) × (b ≡ as_written (entries_of h s (records_in (plain h k at b))))
unfolding plain follow cut tally records_in as_written
uncut_sound R ok h s o zero at m n before [] q t = (tt, refl)
uncut_sound R ok h s o zero at m n before (x ∷ xs) q t = let z : ◌≡◌ {A = ℕ} 0 1 = cc in absurd (omega arith)
uncut_sound R ok h s o (suc k) at m n before [] q t = (tt, refl)
uncut_sound R ok h s o (suc k) at m n before (x ∷ xs) q t = go (λ i p c. uncut_sound R ok h s o k i (m + 1) n p c) (x ∷ xs) q (decode h at (x ∷ xs)) refl t
  where
    Out : List Entry → List ℕ → Listing → Type 0
    Out p b l = Sound R h p (entries_of h s (records_in l)) × (b ≡ as_written (entries_of h s (records_in l)))

    turn : (b : List ℕ) → drop at s ≡ b → (e : EntryRecord) (next : Cursor) → Parts h at b e next → (v : Bool) → eqb (judge R before (text_of s at e) (entry_of h s e)) 0 ≡ v
        → (l : Listing) → (tally (m + 1) (cut R h s (entry_of h s e ∷ before) l) ≡ Ok n → Out (entry_of h s e ∷ before) (drop (next.at - at) b) l)
        → tally m (pick v (entry at e (cut R h s (entry_of h s e ∷ before) l)) (stop (verdict (judge R before (text_of s at e) (entry_of h s e)) at))) ≡ Ok n
        → Out before b (entry at e l)
    turn b q e next P true j l ih t =
        let w = entry-sound h s at b q e next P R ok o before (eqb-true _ 0 j) in
        let i = ih t in
        ((w.0, i.0), w.1 ∙ ap (λ (r : List ℕ). entry_bytes (entry_of h s e) ++ r) i.1)
    turn b q e next P false j l ih t = let z : ◌≡◌ {A = ℕ} 0 1 = cc in absurd (omega arith)

    go : ((i : ℕ) (p : List Entry) (c : List ℕ) → drop i s ≡ c → tally (m + 1) (cut R h s p (plain h k i c)) ≡ Ok n → Out p c (plain h k i c))
        → (b : List ℕ) → drop at s ≡ b → (d : Result (EntryRecord × Cursor) Verdict) → decode h at b ≡ d → tally m (cut R h s before (follow (plain h k) at b d)) ≡ Ok n → Out before b (follow (plain h k) at b d)
    go ih b q (Ok (e, next)) d t =
        let P = decode-parts h at b e next d in
        turn b q e next P (eqb (judge R before (text_of s at e) (entry_of h s e)) 0) refl (plain h k next.at (drop (next.at - at) b))
        (ih next.at (entry_of h s e ∷ before) (drop (next.at - at) b) (rest-there h s at b q e next P)) t
    go ih b q (Err v) d t = let z : ◌≡◌ {A = ℕ} 0 1 = cc in absurd (omega arith)
