-- The bytes of the entries that are kept: how they are stored, and that they are the entries as written. Assumes nothing.
use Prim.Native.Nat.{ℕ, suc, ◌+◌, ◌-◌, ◌*◌, ◌/◌, ◌<◌, ◌≤◌}
use native.Mathlib.Omega.{arith}
use native.Mathlib.Numerals.{add-one}
use mathlib.Core.Path.{◌≡◌, refl, ap, sym, ◌∙◌}
use mathlib.Core.List.{List, [], ◌∷◌, ◌++◌, append_assoc}
use lib.ListN.{length, get_or, take, drop, length-append, length-take, length-drop, drop_of_length-le}
use lib.Seq.{sets, drop-cons, drop-drop, length-take-le, take-add}
use Rattle.ground.specs.Basics.{part}
use Rattle.ground.specs.Scan.{count_to}
use Rattle.ground.specs.Verdict.{most_bytes}
use Rattle.ground.specs.declared.Verdict.{Verdict}
use Rattle.ground.proofs.Laws.{sets_append, count-is}
use Rattle.mode.specs.Mode.{kind_of}
use Rattle.mode.specs.Table.{rows, row_at, written_of, shown}
use Rattle.mode.specs.Write.{write_mode, trimmed}
use Rattle.mode_table.specs.declared.EntryKind.{EntryKind}
use Rattle.mode_table.specs.declared.EntryKind.TheVariants.{Tree, Blob, BlobExecutable, Link, Commit}
use Rattle.entry.specs.Record.{name_of, id_of}
use Rattle.entry.specs.Entry.{entry_bytes}
use Rattle.entry.specs.Decode.{decode}
use Rattle.entry.specs.declared.EntryRecord.{EntryRecord}
use Rattle.entry.specs.declared.Cursor.{Cursor}
use Rattle.entry.proofs.Laws.{decode-inside, decode-parts}
use Rattle.strict.proofs.Strictly.{decoded_within}
use Rattle.fate.specs.Fate.{own_mode, own_text}
use Rattle.fate.proofs.Laws.{own-few}
use Rattle.mend_kept.specs.Kept.{mended_entry}
use Rattle.mend_kept.specs.Code.{kept_bytes, bytes_at, all_bytes}
use Rattle.std.specs.Prelude.{Err, Ok, Result}

pub own-most : (m : ℕ) → length (own_text m) ≤ 6
unfolding own_text
own-most m =
    let w = own-few (kind_of m) in
    omega (arith, w.0, length-take-le (written_of (kind_of m)).text.len (written_of (kind_of m)).text.bytes w.1)

-- ---- one entry stored

module _ (h : ℕ) (s : List ℕ) (x at : ℕ) (out : List ℕ) where
  pub one-broken : (v : Verdict) → decode h (x / 2) (drop (x / 2) s) ≡ Err v
      → (at ≡ at + length (bytes_at h s x)) × (out ≡ sets out at (bytes_at h s x))
  unfolding kept_bytes
  one-broken v d =
      let z : bytes_at h s x ≡ [] = ap (kept_bytes s) d in
      (omega (arith, ap length z), sym (ap (sets out at) z))

  pub one-whole : (e : EntryRecord) (next : Cursor) → decode h (x / 2) (drop (x / 2) s) ≡ Ok (e, next) → (text : List ℕ) → text ≡ own_text e.mode
      → (first after : List ℕ) (name r : ℕ) → first ≡ sets out at (text ++ 32 ∷ []) → name ≡ at + length text + 1
      → after ≡ sets first name (part e.name_start next.at s) → r ≡ name + (next.at - e.name_start)
      → (r ≡ at + length (bytes_at h s x)) × (after ≡ sets out at (bytes_at h s x))
  unfolding kept_bytes
  one-whole e next d text t first after name r f n a q =
      let piece : List ℕ = part e.name_start next.at s in
      let w = decoded_within h s (x / 2) e next d in
      let i = decode-inside h s (x / 2) e next d in
      let z : bytes_at h s x ≡ (text ++ 32 ∷ []) ++ part e.name_start next.at s = ap (kept_bytes s) d ∙ rw t (sym (append_assoc (own_text e.mode) (32 ∷ []) (part e.name_start next.at s))) in
      let l : length (part e.name_start next.at s) ≡ next.at - e.name_start =
      length-take-le (next.at - e.name_start) (drop e.name_start s) (omega (arith, length-drop e.name_start s)) in
      let k : length (text ++ 32 ∷ []) ≡ length text + 1 = length-append text (32 ∷ []) in
      let m : name ≡ at + length (text ++ 32 ∷ []) = omega (arith, k, n) in (
        omega (arith, ap length z, length-append (text ++ 32 ∷ []) (part e.name_start next.at s), k, l, q, n),
        a ∙ rw (f, m) (sym (sets_append out at (text ++ 32 ∷ []) (part e.name_start next.at s))) ∙ sym (ap (sets out at) z),
      )

-- no entry has more bytes than the object and seven
pub bytes_le : (h : ℕ) (s : List ℕ) (x : ℕ) → length (bytes_at h s x) ≤ length s + 7
unfolding kept_bytes
bytes_le h s x = go (decode h (x / 2) (drop (x / 2) s))
  where
    go : (d : Result (EntryRecord × Cursor) Verdict) → length (kept_bytes s d) ≤ length s + 7
    go (Ok (e, next)) =
        omega (
          arith,
          length-append (own_text e.mode) (32 ∷ part e.name_start next.at s),
          own-most e.mode,
          length-take (next.at - e.name_start) (drop e.name_start s),
          length-drop e.name_start s,
        )
    go (Err v) = omega arith

-- ---- all of them

pub record Writing (h : ℕ) (s list out₀ out : List ℕ) (i at : ℕ) : Type 0 where
  pub size : length out ≡ length out₀
  pub few : at ≤ i * 1073741900
  pub same : sets out₀ 0 (all_bytes h s list) ≡ sets out at (all_bytes h s (drop i list))

pub writing_start : (h : ℕ) (s list out : List ℕ) → Writing h s list out out 0 0
writing_start h s list out = record { size = refl; few = omega arith; same = refl }

module _ (h : ℕ) (s list out₀ out : List ℕ) (i at : ℕ) (g : Writing h s list out₀ out i at) where
  pub writing_end : length list ≤ i → out ≡ sets out₀ 0 (all_bytes h s list)
  unfolding all_bytes
  writing_end p = sym (g.same ∙ rw (drop_of_length-le list {i = i} p) refl)

  pub writing-turn : i < length list → length s ≤ most_bytes → (x : ℕ) → x ≡ get_or list i 0 → (k : ℕ) → k ≡ at + length (bytes_at h s x)
      → (after : List ℕ) → length after ≡ length out → after ≡ sets out at (bytes_at h s x) → Writing h s list out₀ after (i + 1) k
  unfolding all_bytes
  writing-turn p b x q k m after l w =
      let n : i + 1 ≡ suc i = add-one i in
      let c : drop i list ≡ x ∷ drop (suc i) list = rw q (drop-cons list i 0 p) in
      record {
        size = l ∙ g.size;
        few = omega (arith, m, bytes_le h s x, g.few);
        same = g.same ∙ ap (λ (l : List ℕ). sets out at (all_bytes h s l)) c
            ∙ sets_append out at (bytes_at h s x) (all_bytes h s (drop (suc i) list)) ∙ rw (w, m, n) refl;
      }

-- ---- they are the entries as written

own-written : (k : EntryKind) → shown (written_of k).text ≡ write_mode (written_of k).mode
unfolding written_of row_at rows write_mode trimmed
own-written Tree = refl
own-written Blob = refl
own-written BlobExecutable = refl
own-written Link = refl
own-written Commit = refl

pub own-text : (m : ℕ) → own_text m ≡ write_mode (own_mode m)
unfolding own_text own_mode
own-text m = own-written (kind_of m)

module _ (h : ℕ) (s : List ℕ) (at : ℕ) (e : EntryRecord) (next : Cursor) (d : decode h at (drop at s) ≡ Ok (e, next)) where
  -- from its name on an entry has its name, NUL and its id
  name-then-id : part e.name_start next.at s ≡ name_of s e ++ 0 ∷ id_of h s e
  unfolding name_of id_of
  name-then-id =
      let w = decoded_within h s at e next d in
      let i = decode-inside h s at e next d in
      let p = decode-parts h at (drop at s) e next d in
      let b : List ℕ = drop e.name_start s in
      let start : e.name_start ≡ at + p.size = ap (λ (x : EntryRecord). x.name_start) p.laid in
      let ends : e.name_end ≡ at + p.size + count_to 0 (drop p.size (drop at s)) = ap (λ (x : EntryRecord). x.name_end) p.laid in
      let same : drop p.size (drop at s) ≡ drop e.name_start s = drop-drop p.size at s ∙ ap (λ (k : ℕ). drop k s) (sym start) in
      let c : e.name_end - e.name_start ≡ count_to 0 (drop e.name_start s) = rw (← same) (omega arith) in
      let l = length-drop e.name_start s in
      let nul : get_or (drop e.name_start s) (e.name_end - e.name_start) 0 ≡ 0 = rw c (count-is 0 (drop e.name_start s) (omega (arith, c))) in
      let all : next.at - e.name_start ≡ (e.name_end - e.name_start) + suc h = omega arith in
      let g : drop (e.name_end - e.name_start) (drop e.name_start s) ≡ 0 ∷ drop (suc (e.name_end - e.name_start)) (drop e.name_start s) =
      drop-cons (drop e.name_start s) (e.name_end - e.name_start) 0 (omega arith) ∙ rw nul refl in
      let f : drop (suc (e.name_end - e.name_start)) (drop e.name_start s) ≡ drop e.id_start s =
      drop-drop (suc (e.name_end - e.name_start)) e.name_start s
      ∙ ap (λ (k : ℕ). drop k s) (let z : e.name_start + suc (e.name_end - e.name_start) ≡ e.id_start = omega arith in z) in
      rw all (take-add (e.name_end - e.name_start) (suc h) (drop e.name_start s)
      ∙ ap (λ (r : List ℕ). take (e.name_end - e.name_start) (drop e.name_start s) ++ r) (rw (g, f) refl))

  pub kept-bytes : kept_bytes s (decode h at (drop at s)) ≡ entry_bytes (mended_entry h s e)
  unfolding kept_bytes entry_bytes mended_entry
  kept-bytes = ap (kept_bytes s) d ∙ rw (own-text e.mode, name-then-id) refl

  pub bytes-size : length (entry_bytes (mended_entry h s e)) ≡ length (own_text e.mode) + 1 + (e.id_start + h - e.name_start)
  unfolding kept_bytes
  bytes-size =
      let w = decoded_within h s at e next d in
      let i = decode-inside h s at e next d in
      let z : kept_bytes s (Ok (e, next)) ≡ entry_bytes (mended_entry h s e) = ap (kept_bytes s) (sym d) ∙ kept-bytes in
      omega (
        arith,
        ap length z,
        length-append (own_text e.mode) (32 ∷ part e.name_start next.at s),
        length-take-le (next.at - e.name_start) (drop e.name_start s) (omega (arith, length-drop e.name_start s)),
      )
