-- The walk of the code over an object, turn by turn. Assumes nothing.
use Prim.Native.Nat.{ℕ, zero, suc, ◌+◌, ◌-◌, ◌*◌, ◌≤◌, ◌<◌}
use mathlib.Core.Bool.{Bool, true, false}
use mathlib.Core.Path.{◌≡◌, refl, ap, sym, subst, ◌∙◌}
use mathlib.Core.List.{List, [], ◌∷◌, ◌++◌}
use native.Mathlib.Omega.{arith}
use lib.ListN.{length, drop, length-drop, length-append}
use lib.Seq.{sets, drop-drop, length-take-le}
use Rattle.ground.specs.Basics.{pick, part}
use Rattle.ground.specs.Scan.{same_bytes}
use Rattle.ground.specs.declared.Verdict.{Verdict}
use Rattle.ground.proofs.Laws.{sets_append}
use Rattle.mode.specs.Mode.{is_tree}
use Rattle.order.specs.Order.{is_below, name_order}
use Rattle.entry.specs.Record.{name_of, folder_of}
use Rattle.entry.specs.Entry.{Entry, entry_bytes}
use Rattle.entry.specs.Decode.{decode}
use Rattle.entry.specs.declared.EntryRecord.{EntryRecord}
use Rattle.entry.specs.declared.Cursor.{Cursor}
use Rattle.entry.proofs.Laws.{decode-inside}
use Rattle.reading.specs.Listing.{Listing, done, entry, follow, plain}
use Rattle.reading.proofs.Laws.{plain-some}
use Rattle.edit_turn.specs.Turns.{fate_of, turned, turn_of, turn_at}
use Rattle.edit_turn.specs.declared.Fate.TheVariants.{Out, Over, Behind}
use Rattle.edit_turn.proofs.Laws.{Leads, turn_leads}
use Rattle.edit_walk.specs.Walk.{ahead, tail, carried, kept_in}
use Rattle.edit_turn.specs.declared.Fate.{Fate}
use Rattle.std.specs.Prelude.{Err, None, Ok, Option, Result, Some}

-- ---- what is left

abbrev pub rest_of : ℕ → List ℕ → ℕ → ℕ → Listing
rest_of h s left at = plain h left at (drop at s)

-- the bytes that a turn and all after it give, and the entries that they carry over
unfoldable pub bytes_after : ℕ → List ℕ → Entry → Bool → ℕ → ℕ → Option (Fate × ℕ) → List ℕ
bytes_after h s new placed k at None = tail new placed
bytes_after h s new placed k at (Some (Out, next)) = carried h s new placed (rest_of h s k next)
bytes_after h s new placed k at (Some (Over, next)) = part at next s ++ carried h s new placed (rest_of h s k next)
bytes_after h s new placed k at (Some (Behind, next)) = entry_bytes new ++ (part at next s ++ carried h s new true (rest_of h s k next))

unfoldable pub kept_after : ℕ → List ℕ → Entry → ℕ → Option (Fate × ℕ) → ℕ
kept_after h s new k None = 0
kept_after h s new k (Some (Out, next)) = kept_in s new.name (rest_of h s k next)
kept_after h s new k (Some (Over, next)) = 1 + kept_in s new.name (rest_of h s k next)
kept_after h s new k (Some (Behind, next)) = 1 + kept_in s new.name (rest_of h s k next)

module _ (h : ℕ) (s : List ℕ) (new : Entry) (placed : Bool) where
  pub none_left : (at : ℕ) (b : List ℕ) → (carried h s new placed (plain h 0 at b) ≡ tail new placed) × (kept_in s new.name (plain h 0 at b) ≡ 0)
  unfolding plain carried kept_in
  none_left at [] = (refl, refl)
  none_left at (x ∷ xs) = (refl, refl)

  broken : (k at : ℕ) (b : List ℕ) (v : Verdict) → decode h at b ≡ Err v
      → (carried h s new placed (plain h (suc k) at b) ≡ tail new placed) × (kept_in s new.name (plain h (suc k) at b) ≡ 0)
  unfolding plain follow carried kept_in
  broken k at [] v q = (refl, refl)
  broken k at (x ∷ xs) v q = rw q (refl, refl)

  whole : (k at : ℕ) (e : EntryRecord) (next : Cursor) → decode h at (drop at s) ≡ Ok (e, next) → rest_of h s (suc k) at ≡ entry at e (rest_of h s k next.at)
  unfolding follow
  whole k at e next q =
      let f = decode-inside h s at e next q in
      let some : 0 < length (drop at s) = omega (arith, length-drop at s, f.0, f.1, f.2, f.3, f.4) in
      let same : at + (next.at - at) ≡ next.at = omega (arith, f.0, f.1, f.2, f.3) in
      plain-some h k at (drop at s) some ∙ rw (q, drop-drop (next.at - at) at s, same)

  bytes_fate : (k at next : ℕ) (e : EntryRecord) → next ≡ e.id_start + h
      → carried h s new placed (entry at e (rest_of h s k next)) ≡ bytes_after h s new placed k at (turned next (fate_of (name_of s e) (folder_of e) new.name (is_tree new.mode) placed))
  unfolding carried bytes_after fate_of ahead
  bytes_fate k at next e n = rw (← n) (go (same_bytes (name_of s e) new.name) placed (is_below (name_order (name_of s e) (folder_of e) new.name (is_tree new.mode))))
    where
      l : Listing
      l = rest_of h s k next

      go : (u p v : Bool)
          → pick u (carried h s new p l) (pick p (part at next s ++ carried h s new p l) (pick v (part at next s ++ carried h s new p l) (entry_bytes new ++ (part at next s ++ carried h s new true l))))
          ≡ bytes_after h s new p k at (turned next (pick u Out (pick p Over (pick v Over Behind))))
      go true p v = refl
      go false true v = refl
      go false false true = refl
      go false false false = refl

  kept_fate : (k at next : ℕ) (e : EntryRecord)
      → kept_in s new.name (entry at e (rest_of h s k next)) ≡ kept_after h s new k (turned next (fate_of (name_of s e) (folder_of e) new.name (is_tree new.mode) placed))
  unfolding kept_in kept_after fate_of
  kept_fate k at next e = go (same_bytes (name_of s e) new.name) placed (is_below (name_order (name_of s e) (folder_of e) new.name (is_tree new.mode)))
    where
      l : Listing
      l = rest_of h s k next

      go : (u p v : Bool) → pick u (kept_in s new.name l) (1 + kept_in s new.name l) ≡ kept_after h s new k (turned next (pick u Out (pick p Over (pick v Over Behind))))
      go true p v = refl
      go false true v = refl
      go false false true = refl
      go false false false = refl

  turned_by : (k at : ℕ) (d : Result (EntryRecord × Cursor) Verdict) → decode h at (drop at s) ≡ d
      → (carried h s new placed (rest_of h s (suc k) at) ≡ bytes_after h s new placed k at (turn_of s new.name (is_tree new.mode) placed d))
      × (kept_in s new.name (rest_of h s (suc k) at) ≡ kept_after h s new k (turn_of s new.name (is_tree new.mode) placed d))
  unfolding turn_of bytes_after kept_after
  turned_by k at (Err v) q = broken k at (drop at s) v q
  turned_by k at (Ok (e, next)) q =
      let f = decode-inside h s at e next q in
      (ap (carried h s new placed) (whole k at e next q) ∙ bytes_fate k at next.at e f.3, ap (kept_in s new.name) (whole k at e next q) ∙ kept_fate k at next.at e)

  -- a turn, where entries are left
  pub turning : (left at : ℕ) (t : Option (Fate × ℕ)) → 0 < left → t ≡ turn_at h s at new.name (is_tree new.mode) placed
      → (carried h s new placed (rest_of h s left at) ≡ bytes_after h s new placed (left - 1) at t) × (kept_in s new.name (rest_of h s left at) ≡ kept_after h s new (left - 1) t)
  unfolding turn_at
  turning zero at t g q = absurd (omega arith)
  turning (suc k) at t g q =
      let z : k ≡ suc k - 1 = omega arith in
      rw q
      (subst (λ (x : ℕ). (carried h s new placed (rest_of h s (suc k) at) ≡ bytes_after h s new placed x at (turn_of s new.name (is_tree new.mode) placed (decode h at (drop at s)))) × (kept_in s new.name (rest_of h s (suc k) at) ≡ kept_after h s new x (turn_of s new.name (is_tree new.mode) placed (decode h at (drop at s)))))
      z (turned_by k at (decode h at (drop at s)) refl))

-- ---- the loop

pub record Walking (h count : ℕ) (s : List ℕ) (new : Entry) (done : Bool) (out₀ out : List ℕ) (left at used kept : ℕ) (placed : Bool) : Type 0 where
  pub few : left ≤ 1048576
  pub small : used ≤ (1048576 - left) * 4294967296
  pub fewer : kept ≤ 1048576 - left
  pub lent : length out ≡ length out₀
  pub size : used + length (carried h s new placed (rest_of h s left at)) ≡ length (carried h s new done (plain h count 0 s))
  pub keeps : kept + kept_in s new.name (rest_of h s left at) ≡ kept_in s new.name (plain h count 0 s)
  pub stores : sets out used (carried h s new placed (rest_of h s left at)) ≡ sets out₀ 0 (carried h s new done (plain h count 0 s))

module _ (h count : ℕ) (s : List ℕ) (new : Entry) (done : Bool) (out : List ℕ) where
  pub walking_start : count ≤ 1048576 → Walking h count s new done out out count 0 0 0 done
  walking_start g =
      record { few = g; small = omega arith; fewer = omega arith; lent = refl; size = omega arith; keeps = omega arith; stores = refl }

-- what is promised at the end
abbrev pub Ends : ℕ → ℕ → List ℕ → Entry → Bool → List ℕ → ℕ → ℕ → List ℕ → Type 0
Ends h count s new was out₀ used kept out =
    (used ≡ length (carried h s new was (plain h count 0 s))) × ((kept ≡ kept_in s new.name (plain h count 0 s))
    × (out ≡ sets out₀ 0 (carried h s new was (plain h count 0 s))))

part_length : (c d : ℕ) (s : List ℕ) → c ≤ d → d ≤ length s → length (part c d s) ≡ d - c
part_length c d s g h = length-take-le (d - c) (drop c s) (omega (arith, length-drop c s))

module _ (h count : ℕ) (s : List ℕ) (new : Entry) (done : Bool) (out₀ out : List ℕ) (left at used kept : ℕ) (placed : Bool)
    (w : Walking h count s new done out₀ out left at used kept placed) where
  module _ (z : left ≡ 0) where
    rest-none : (carried h s new placed (rest_of h s left at) ≡ tail new placed) × (kept_in s new.name (rest_of h s left at) ≡ 0)
    rest-none = rw z (none_left h s new placed at (drop at s))

    ends-kept : kept ≡ kept_in s new.name (plain h count 0 s)
    ends-kept = omega (arith, w.keeps, rest-none.1)

    ends_used : used + length (tail new placed) ≡ length (carried h s new done (plain h count 0 s))
    ends_used = ap (λ (l : List ℕ). used + length l) (sym rest-none.0) ∙ w.size

    ends-stores : sets out used (tail new placed) ≡ sets out₀ 0 (carried h s new done (plain h count 0 s))
    ends-stores = ap (sets out used) (sym rest-none.0) ∙ w.stores

    -- all is read, and the new entry is placed, or is put last
    pub ends-placed : placed ≡ true → Ends h count s new done out₀ used kept out
    ends-placed p = (
      omega (arith, subst (λ (b : Bool). used + length (tail new b) ≡ length (carried h s new done (plain h count 0 s))) p ends_used),
      (
        ends-kept,
        subst (λ (b : Bool). sets out used (tail new b) ≡ sets out₀ 0 (carried h s new done (plain h count 0 s))) p ends-stores,
      ),
    )

    pub ends_last : placed ≡ false → (end : ℕ) (after : List ℕ) → end ≡ used + length (entry_bytes new) → after ≡ sets out used (entry_bytes new)
        → Ends h count s new done out₀ end kept after
    ends_last p end after e a = (
      e ∙ subst (λ (b : Bool). used + length (tail new b) ≡ length (carried h s new done (plain h count 0 s))) p ends_used,
      (
        ends-kept,
        a ∙ subst (λ (b : Bool). sets out used (tail new b) ≡ sets out₀ 0 (carried h s new done (plain h count 0 s))) p ends-stores,
      ),
    )

  module _ (g : 0 < left) (tree : Bool) (i : tree ≡ is_tree new.mode) (t : Option (Fate × ℕ)) (turns : t ≡ turn_at h s at new.name tree placed) where
    q : t ≡ turn_at h s at new.name (is_tree new.mode) placed
    q = turns ∙ ap (λ (b : Bool). turn_at h s at new.name b placed) i

    now-is : (carried h s new placed (rest_of h s left at) ≡ bytes_after h s new placed (left - 1) at t) × (kept_in s new.name (rest_of h s left at) ≡ kept_after h s new (left - 1) t)
    now-is = turning h s new placed left at t g q

    size_now : used + length (bytes_after h s new placed (left - 1) at t) ≡ length (carried h s new done (plain h count 0 s))
    size_now = ap (λ (l : List ℕ). used + length l) (sym now-is.0) ∙ w.size

    keeps_now : kept + kept_after h s new (left - 1) t ≡ kept_in s new.name (plain h count 0 s)
    keeps_now = ap (λ (n : ℕ). kept + n) (sym now-is.1) ∙ w.keeps

    stores_now : sets out used (bytes_after h s new placed (left - 1) at t) ≡ sets out₀ 0 (carried h s new done (plain h count 0 s))
    stores_now = ap (sets out used) (sym now-is.0) ∙ w.stores

    pub walking_end : t ≡ None → Walking h count s new done out₀ out 0 at used kept placed
    unfolding bytes_after kept_after
    walking_end e =
        let n = none_left h s new placed at (drop at s) in
        record {
          few = omega arith;
          small = omega (arith, w.small, w.few);
          fewer = omega (arith, w.fewer, w.few);
          lent = w.lent;
          size = rw n.0 (rw e at size_now);
          keeps = rw n.1 (rw e at keeps_now);
          stores = rw n.0 (rw e at stores_now);
        }

    pub walking_drop : (next : ℕ) → t ≡ Some (Out, next) → Walking h count s new done out₀ out (left - 1) next used kept placed
    unfolding bytes_after kept_after
    walking_drop next e =
        record {
          few = omega (arith, w.few);
          small = omega (arith, w.small, w.few);
          fewer = omega (arith, w.fewer, w.few);
          lent = w.lent;
          size = rw e at size_now;
          keeps = rw e at keeps_now;
          stores = rw e at stores_now;
        }

    leads-on : Leads (length s) at t
    leads-on = subst (Leads (length s) at) (sym turns) (turn_leads h s at new.name tree placed)

    pub keep_leads : (next : ℕ) → t ≡ Some (Over, next) → (at ≤ next) × (next ≤ length s)
    keep_leads next e = subst (Leads (length s) at) e leads-on

    pub first_leads : (next : ℕ) → t ≡ Some (Behind, next) → (at ≤ next) × (next ≤ length s)
    first_leads next e = subst (Leads (length s) at) e leads-on

    module _ (next : ℕ) (small : length s ≤ 1073741824) (lead : (at ≤ next) × (next ≤ length s)) where
      abbrev piece : List ℕ
      piece = part at next s

      piece-length : length piece ≡ next - at
      piece-length = part_length at next s lead.0 lead.1

      pub walking_keep : t ≡ Some (Over, next) → (after : List ℕ) → length after ≡ length out → after ≡ sets out used piece
          → Walking h count s new done out₀ after (left - 1) next (used + (next - at)) (kept + 1) placed
      unfolding bytes_after kept_after
      walking_keep e after m a =
          let rest : List ℕ = carried h s new placed (rest_of h s (left - 1) next) in
          let sz : used + length (piece ++ rest) ≡ length (carried h s new done (plain h count 0 s)) = rw e at size_now in
          let ks : kept + (1 + kept_in s new.name (rest_of h s (left - 1) next)) ≡ kept_in s new.name (plain h count 0 s) = rw e at keeps_now in
          let st : sets out used (piece ++ rest) ≡ sets out₀ 0 (carried h s new done (plain h count 0 s)) = rw e at stores_now in
          record {
            few = omega (arith, w.few);
            small = omega (arith, w.small, w.few, lead.0, lead.1, small);
            fewer = omega (arith, w.fewer, w.few);
            lent = m ∙ w.lent;
            size = omega (arith, sz, length-append piece rest, piece-length);
            keeps = omega (arith, ks);
            stores = subst (λ (x : ℕ). sets after x rest ≡ sets out₀ 0 (carried h s new done (plain h count 0 s))) (ap (λ (n : ℕ). used + n) piece-length) (rw a (sym (sets_append out used piece rest) ∙ st));
          }

      pub walking_first : t ≡ Some (Behind, next) → (from : ℕ) (mid after : List ℕ) → from ≡ used + length (entry_bytes new) → from ≤ used + 2147483656
          → mid ≡ sets out used (entry_bytes new) → length mid ≡ length out → length after ≡ length mid → after ≡ sets mid from piece
          → Walking h count s new done out₀ after (left - 1) next (from + (next - at)) (kept + 1) true
      unfolding bytes_after kept_after
      walking_first e from mid after f b c k m a =
          let rest : List ℕ = carried h s new true (rest_of h s (left - 1) next) in
          let sz : used + length (entry_bytes new ++ (piece ++ rest)) ≡ length (carried h s new done (plain h count 0 s)) = rw e at size_now in
          let ks : kept + (1 + kept_in s new.name (rest_of h s (left - 1) next)) ≡ kept_in s new.name (plain h count 0 s) = rw e at keeps_now in
          let st : sets out used (entry_bytes new ++ (piece ++ rest)) ≡ sets out₀ 0 (carried h s new done (plain h count 0 s)) = rw e at stores_now in
          record {
            few = omega (arith, w.few);
            small = omega (arith, w.small, w.few, lead.0, lead.1, small, b);
            fewer = omega (arith, w.fewer, w.few);
            lent = m ∙ k ∙ w.lent;
            size = omega (arith, sz, length-append (entry_bytes new) (piece ++ rest), length-append piece rest, piece-length, f);
            keeps = omega (arith, ks);
            stores =
                subst (λ (x : ℕ). sets after x rest ≡ sets out₀ 0 (carried h s new done (plain h count 0 s))) (ap (λ (n : ℕ). from + n) piece-length)
                (rw (a, c, f) (sym (sets_append out used (entry_bytes new) (piece ++ rest) ∙ sets_append (sets out used (entry_bytes new)) (used + length (entry_bytes new)) piece rest) ∙ st));
          }
