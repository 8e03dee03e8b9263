-- The new object is never longer: no text of a kind's own mode is longer than a text that was read as such a mode. Assumes nothing.
use Prim.Native.Nat.{ℕ, zero, suc, ◌+◌, ◌-◌, ◌*◌, ◌%◌, ◌≤◌}
use native.Mathlib.Omega.{arith}
use native.Mathlib.Decide.{dec_le}
use mathlib.Core.Path.{◌≡◌, refl, ap, sym, ◌∙◌}
use mathlib.Core.Bool.{Bool, true, false, ◌&&◌, ◌||◌}
use mathlib.Core.List.{List, [], ◌∷◌, map}
use mathlib.Core.Logic.{◌⊎◌, inl, inr, ⊎_elim}
use lib.Dec.{eqb, leb}
use lib.ListN.{length, get_or, take, drop, length-append, length-drop, length-take}
use borrow.Author.Tests.{eqb-true, ne_eqb, leb-true}
use Rattle.ground.specs.Basics.{pick}
use Rattle.mode.specs.Mode.{top_bits, value_of, sort_of, kind_of, is_tree}
use Rattle.mode.specs.Read.{octal_from, text_len, settle, rest_at, mode_of, read_mode}
use Rattle.mode.specs.Table.{rows, row_at, written_of, shown}
use Rattle.mode_table.specs.declared.EntryKind.TheVariants.{Tree}
use Rattle.mode.specs.declared.EntryMode.{EntryMode}
use Rattle.mode.proofs.Laws.{read-parts, read-text, rest_more, text_le}
use Rattle.entry.specs.Entry.{entry_bytes, as_written}
use Rattle.entry.specs.Decode.{decode}
use Rattle.entry.specs.declared.EntryRecord.{EntryRecord}
use Rattle.entry.specs.declared.Cursor.{Cursor}
use Rattle.entry.proofs.Laws.{decode-inside, decode-parts}
use Rattle.fate.specs.Fate.{stays_mode, own_text}
use Rattle.mend.specs.Mend.{fate_in, is_kept, names_after, kept_from, mended_entry}
use Rattle.mend_kept.proofs.Bytes.{own-most, bytes-size}
use Rattle.mend_kept.proofs.Fates.{Reads}
use Rattle.mend_kept.proofs.Sorts.{kept-mode}
use Rattle.std.specs.Prelude.{Ok, Some}
use Rattle.ground.proofs.Pairs.{some_parts}

-- ---- few digits say a small number

abbrev top : ℕ → ℕ → ℕ
top zero b = b
top (suc n) b = top n (b * 8 + 7)

module _ (first rest m n : ℕ) where
  digits-most : (ds : List ℕ) (sum b : ℕ) → sum ≤ b → mode_of first rest (octal_from sum ds) ≡ Some (record { internal = m }, n)
      → (v : ℕ) × (v ≤ top (length ds) b) × (settle v first ≡ m)
  unfolding octal_from
  digits-most [] sum b p e =
      (sum, p, ap (λ (y : EntryMode). y.internal) (some_parts e).0)
  digits-most (d ∷ ds) sum b p e = go (λ x q r. digits-most ds x (b * 8 + 7) q r) (leb 48 d) refl (leb d 55) refl
    where
      go : ((x : ℕ) → x ≤ b * 8 + 7 → mode_of first rest (octal_from x ds) ≡ Some (record { internal = m }, n) → (v : ℕ) × (v ≤ top (length ds) (b * 8 + 7)) × (settle v first ≡ m))
          → (t : Bool) → leb 48 d ≡ t → (u : Bool) → leb d 55 ≡ u → (v : ℕ) × (v ≤ top (length ds) (b * 8 + 7)) × (settle v first ≡ m)
      go ih true q true r = ih ((sum * 8 + (d - 48)) % 0o200000) (omega (arith, leb-true d 55 r)) (rw (q, r) at e)
      go ih true q false r = let f = rw (q, r) at e in let z : ◌≡◌ {A = ℕ} 0 1 = cc in absurd (omega arith)
      go ih false q u r = let f = rw q at e in let z : ◌≡◌ {A = ℕ} 0 1 = cc in absurd (omega arith)

four_top : (k v : ℕ) → k ≤ 4 → v ≤ top k 0 → v ≤ 4095
four_top zero v p q = omega arith
four_top (suc zero) v p q = omega arith
four_top (suc (suc zero)) v p q = omega arith
four_top (suc (suc (suc zero))) v p q = omega arith
four_top (suc (suc (suc (suc zero)))) v p q = q
four_top (suc (suc (suc (suc (suc k))))) v p q = absurd (omega arith)

five_top : (k v : ℕ) → k ≤ 5 → v ≤ top k 0 → v ≤ 32767
five_top zero v p q = omega arith
five_top (suc zero) v p q = omega arith
five_top (suc (suc zero)) v p q = omega arith
five_top (suc (suc (suc zero))) v p q = omega arith
five_top (suc (suc (suc (suc zero)))) v p q = omega arith
five_top (suc (suc (suc (suc (suc zero))))) v p q = q
five_top (suc (suc (suc (suc (suc (suc k)))))) v p q = absurd (omega arith)

-- ---- and so a mode of one of the four sorts needs its digits

low_value : (m : ℕ) → m ≤ 32767 → sort_of m ≡ top_bits m
unfolding sort_of value_of
low_value m p = rw (ne_eqb (top_bits m) 0o140000 (omega arith)) refl

settled : (v first : ℕ) → (settle v first ≡ v) ⊎ ((settle v first ≡ 49152) × (v ≡ 16384))
unfolding settle
settled v first = go (eqb v 16384) refl (eqb first 48)
  where
    go : (a : Bool) → eqb v 16384 ≡ a → (b : Bool) → (pick (a && b) 49152 v ≡ v) ⊎ ((pick (a && b) 49152 v ≡ 49152) × (v ≡ 16384))
    go true p true = inr (refl, eqb-true v 16384 p)
    go true p false = inl refl
    go false p b = inl refl

tree_five : (m : ℕ) → is_tree m ≡ true → length (own_text m) ≡ 5
unfolding own_text kind_of is_tree written_of row_at rows
tree_five m p =
    let z : sort_of m ≡ 0o40000 = eqb-true (sort_of m) 0o40000 p in
    rw z five
  where
    five : length (shown (written_of Tree).text) ≡ 5
    five = refl

low-tree : (m : ℕ) → m ≤ 32767 → stays_mode m ≡ true → is_tree m ≡ true
unfolding stays_mode is_tree
low-tree m p q =
    let z = low_value m p in
    let a : eqb (sort_of m) 0o100000 ≡ false = ne_eqb (sort_of m) 0o100000 (omega (arith, z)) in
    let b : eqb (sort_of m) 0o120000 ≡ false = ne_eqb (sort_of m) 0o120000 (omega (arith, z)) in
    let d : eqb (sort_of m) 0o160000 ≡ false = ne_eqb (sort_of m) 0o160000 (omega (arith, z)) in
    go (eqb (sort_of m) 0o40000) (rw (a, b, d) at q)
  where
    go : (c : Bool) → (c || false) ≡ true → c ≡ true
    go true q = refl
    go false q = q

low-none : (m : ℕ) → m ≤ 4095 → stays_mode m ≡ true → ⊥
unfolding is_tree
low-none m p q =
    let t : sort_of m ≡ 0o40000 = eqb-true (sort_of m) 0o40000 (low-tree m (omega arith) q) in
    omega (arith, low_value m (omega arith))

padded : is_tree 49152 ≡ true
unfolding is_tree sort_of value_of
padded = refl

-- a mode that stays was read from a text as long as its kind's own at least
text_enough : (b : List ℕ) (m n : ℕ) → read_mode b ≡ Some (record { internal = m }, n) → stays_mode m ≡ true → length (own_text m) ≤ text_len b
text_enough b m n e q =
    let p = read-parts b m n e in
    let l : length (take (text_len b) b) ≡ text_len b = omega (arith, length-take (text_len b) b, text_le b) in
    let r = sym (read-text b (λ z. omega (arith, p.some)) (text_len b) refl p.few) ∙ e in
    let w = digits-most (get_or b 0 0) (rest_at (text_len b) (length b)) m n (take (text_len b) b) 0 0 (omega arith) r in
    elim (dec_le (text_len b) 4) [
      | yes few ↦ absurd (four w.0 (four_top (length (take (text_len b) b)) w.0 (omega arith) w.1) (settled w.0 (get_or b 0 0)) w.2)
      | no few ↦
          elim (dec_le (text_len b) 5) [
            | yes five ↦ omega (arith, tree_five m (tree w.0 (five_top (length (take (text_len b) b)) w.0 (omega arith) w.1) (settled w.0 (get_or b 0 0)) w.2))
            | no more ↦ omega (arith, own-most m)
          ]
    ]
  where
    four : (v : ℕ) {w : ℕ} → v ≤ 4095 → (w ≡ v) ⊎ ((w ≡ 49152) × (v ≡ 16384)) → w ≡ m → ⊥
    four v k s z = ⊎_elim (λ f. low-none m (omega (arith, f, z)) q) (λ f. omega (arith, f.1)) s

    tree : (v : ℕ) {w : ℕ} → v ≤ 32767 → (w ≡ v) ⊎ ((w ≡ 49152) × (v ≡ 16384)) → w ≡ m → is_tree m ≡ true
    tree v k s z = ⊎_elim (λ f. low-tree m (omega (arith, f, z)) q) (λ f. rw (sym z ∙ f.0) padded) s

-- ---- an entry, and all of them

entry-shorter : (h : ℕ) (s : List ℕ) (at : ℕ) (e : EntryRecord) (next : Cursor) → 20 ≤ h → decode h at (drop at s) ≡ Ok (e, next) → stays_mode e.mode ≡ true
    → length (entry_bytes (mended_entry h s e)) + at ≤ next.at
entry-shorter h s at e next long d q =
    let p = decode-parts h at (drop at s) e next d in
    let i = decode-inside h s at e next d in
    let start : e.name_start ≡ at + p.size = ap (λ (x : EntryRecord). x.name_start) p.laid in
    let r = read-parts (drop at s) e.mode p.size p.reads in
    let w = text_enough (drop at s) e.mode p.size p.reads q in
    let l = length-drop p.size (drop at s) in
    let m : p.size ≡ text_len (drop at s) + 1 = r.rest ∙ rest_more (text_len (drop at s)) (length (drop at s)) (omega (arith, p.inside, r.few)) in
    omega (arith, bytes-size h s at e next d)

pub kept-shorter : (h : ℕ) (s : List ℕ) → 20 ≤ h → (at : ℕ) (es : List EntryRecord) (names : List (List ℕ)) → Reads h s at es → at ≤ length s
    → length (as_written (map (mended_entry h s) (kept_from s names es))) + at ≤ length s
unfolding kept_from as_written
kept-shorter h s long at [] names r p = omega arith
kept-shorter h s long at (e ∷ es) names r p =
    let i = decode-inside h s at e r.0 r.1 in
    go (is_kept (fate_in s names e)) refl (kept-shorter h s long r.0.at es (names_after s names e) r.2 i.4)
  where
    go : (b : Bool) → is_kept (fate_in s names e) ≡ b
        → length (as_written (map (mended_entry h s) (kept_from s (names_after s names e) es))) + r.0.at ≤ length s
        → length (as_written (map (mended_entry h s) (pick b (e ∷ kept_from s (names_after s names e) es) (kept_from s (names_after s names e) es)))) + at ≤ length s
    go true k ih =
        omega (
          arith,
          entry-shorter h s at e r.0 long r.1 (kept-mode s names e k),
          length-append (entry_bytes (mended_entry h s e)) (as_written (map (mended_entry h s) (kept_from s (names_after s names e) es))),
        )
    go false k ih = let i = decode-inside h s at e r.0 r.1 in omega arith
