-- Laws of one record that is stored piece by piece, of strict reading without room, and of the answer. Assumes nothing.
use Prim.Native.Nat.{ℕ, ◌+◌, ◌-◌, ◌*◌, ◌≤◌, max}
use native.Mathlib.Omega.{arith}
use mathlib.Core.Path.{◌≡◌, refl, ap, sym, subst, ◌∙◌}
use mathlib.Core.Bool.{Bool, true, false}
use mathlib.Core.List.{List, [], ◌∷◌, ◌++◌}
use lib.Dec.{leb}
use lib.ListN.{length, take, drop, length-append, length-take, length-drop}
use lib.Seq.{sets, take-append_seam}
use Rattle.ground.specs.Basics.{pick}
use Rattle.ground.specs.Verdict.{verdict, fine, counted, refused, most_bytes, most_records, id_length, gate_of, stored}
use Rattle.ground.specs.declared.Verdict.{Verdict}
use Rattle.ground.specs.declared.Answer.{Answer}
use Rattle.ground.proofs.Laws.{id-is, id_small, gate_fine, sets_append, stored-done, id-made, gate_open}
use Rattle.output.specs.Output.{fitted}
use Rattle.output.proofs.Laws.{fitted-fine, gated_open, gated-shut}
use Rattle.entry.specs.Record.{name_of, id_of}
use Rattle.entry.specs.Entry.{entry_of}
use Rattle.entry.specs.declared.EntryRecord.{EntryRecord}
use Rattle.rules.specs.Rules.{or_else, is_text, judge, modes_of, permitted, is_dot_git, name_number, is_after, after_number, git_rules}
use Rattle.doubles.specs.Doubles.{named_before}
use Rattle.rules.specs.Gate.{rule_gate}
use Rattle.rules.proofs.Laws.{rule_known, rule_open}
use Rattle.reading.specs.Listing.{listing, tally}
use Rattle.reading.specs.Whole.{in_room}
use Rattle.reading.proofs.Laws.{Stops, tally_stops, plain_stops, answer-counted}
use Rattle.strict.specs.Strict.{strictly, strict_answer}
use Rattle.strict.proofs.Laws.{cut_stops, cut-refuses}
use Rattle.hex_of_id.specs.Hex.{hex_of, hex_answer}
use Rattle.hex_of_id.proofs.Laws.{hex-length, hex_open}
use Rattle.tree_text.specs.Text.{front_text, front_of, record_text}
use Rattle.tree_text.specs.declared.Front.{Front}
use Rattle.tree_text.proofs.Laws.{front-is}
use Rattle.tree_export.specs.Export.{text_in, counted_in, export_answer}
use Rattle.tree_export.specs.Code.{Added, settled}
use Rattle.std.specs.Prelude.{Err, Ok, Result}

-- ---- one piece after another

pub added_then : {out a b : List ℕ} {at p q : ℕ} {t u : List ℕ} → Added out at t a p → Added a p u b q → Added out at (t ++ u) b q
added_then {out} {a} {b} {at} {p} {q} {t} {u} x y = record {
  place = rw (length-append t u) (omega (arith, x.place, y.place));
  stores = y.stores ∙ rw (x.place, x.stores) (sym (sets_append out at t u));
}

added_of : (out after : List ℕ) (at next : ℕ) (piece whole : List ℕ) → piece ≡ whole → after ≡ sets out at piece → next ≡ at + length whole → Added out at whole after next
added_of out after at next piece whole e s p = record { place = p; stores = s ∙ ap (sets out at) e }

-- ---- one record

-- the digits of an id are stored in 64 bytes, at their front
digits-done : (id lent : List ℕ) (h : ℕ) → length id ≡ h → id_length h ≡ true → length lent ≡ 64 → (hex_answer id (length lent)).verdict.number ≡ 0
digits-done id lent h e i l =
    let j = id-is h i in
    let k = id_small h j in
    let g : gate_of (length id) (length lent) 0 ≡ Ok tt = gate_fine (length id) (length lent) 0 (rw e j) (omega arith) (omega arith) in
    let a = hex_open id (length lent) g ∙ fitted-fine (length lent) (counted (2 * length id)) refl (omega arith) in
    ap (λ (x : Answer). x.verdict.number) a

digits-there : (id lent : List ℕ) (h : ℕ) → length id ≡ h → id_length h ≡ true → length lent ≡ 64
    → take (2 * h) (stored (hex_answer id (length lent)).verdict (hex_of id) lent) ≡ hex_of id
digits-there id lent h e i l =
    let v = digits-done id lent h e i l in
    let n : 2 * h ≡ length (hex_of id) = omega (arith, hex-length id) in
    rw (stored-done (hex_answer id (length lent)).verdict (hex_of id) lent v, n) (take-append_seam (hex_of id) _)

-- the 64 bytes stay so many
pub digits-kept : (id lent digits : List ℕ) → id_length (length id) ≡ true → length lent ≡ 64
    → digits ≡ stored (hex_answer id (length lent)).verdict (hex_of id) lent → length digits ≡ 64
digits-kept id lent digits i m d =
    let v = digits-done id lent (length id) refl i m in
    let k = id_small (length id) (id-is (length id) i) in
    ap length (d ∙ stored-done (hex_answer id (length lent)).verdict (hex_of id) lent v) ∙ simp (length-append, length-drop) (omega (arith, hex-length id))

-- an id's digits and a tab stored
pub digits_added : (id lent digits out after : List ℕ) (at : ℕ) → id_length (length id) ≡ true → length lent ≡ 64
    → digits ≡ stored (hex_answer id (length lent)).verdict (hex_of id) lent → after ≡ sets out at (take (2 * length id) digits ++ 9 ∷ [])
    → Added out at (hex_of id ++ 9 ∷ []) after (at + 2 * length id + 1) × (at + 2 * length id + 1 ≤ at + 65)
digits_added id lent digits out after at i m d s =
    let k = id_small (length id) (id-is (length id) i) in
    let t : take (2 * length id) digits ≡ hex_of id = ap (take (2 * length id)) d ∙ digits-there id lent (length id) refl i m in
    let n : length (hex_of id ++ 9 ∷ []) ≡ 2 * length id + 1 = simp length-append (omega (arith, hex-length id)) in
    (added_of out after at _ _ (hex_of id ++ 9 ∷ []) (ap (λ (r : List ℕ). r ++ 9 ∷ []) t) s (omega (arith, n)), omega (arith, k.1))

-- what stands before them stored
pub front_added : (front : Front) (mode : ℕ) (out after : List ℕ) (at : ℕ) → front ≡ front_of mode → after ≡ sets out at (take front.len front.bytes)
    → Added out at (front_text mode) after (at + front.len) × (at + front.len ≤ at + 14)
front_added front mode out after at f s =
    let F = front-is front mode f in
    (added_of out after at (at + front.len) _ (front_text mode) F.3 s (omega (arith, F.0)), omega (arith, F.1))

module _ (h : ℕ) (s : List ℕ) (e : EntryRecord) (w : (e.name_start ≤ e.name_end) × (e.name_end ≤ length s) × (e.id_start + h ≤ length s)) where
  pub id-sized : length (id_of h s e) ≡ h
  unfolding id_of
  id-sized = simp (length-take, length-drop) (omega arith)

  pub name-sized : length (name_of s e) ≡ e.name_end - e.name_start
  unfolding name_of
  name-sized = simp (length-take, length-drop) (omega arith)

  pub id-there : take (e.id_start + h - e.id_start) (drop e.id_start s) ≡ id_of h s e
  unfolding id_of
  id-there = let z : e.id_start + h - e.id_start ≡ h = omega arith in rw z

  pub id-fits : id_length h ≡ true → id_length (length (take (e.id_start + h - e.id_start) (drop e.id_start s))) ≡ true
  id-fits i = ap id_length (ap length id-there ∙ id-sized) ∙ i

  -- its three pieces stored
  pub record_added : (out a b c : List ℕ) (at hex name : ℕ) → Added out at (front_text e.mode) a hex × (hex ≤ at + 14)
      → Added a hex (hex_of (take (e.id_start + h - e.id_start) (drop e.id_start s)) ++ 9 ∷ []) b name × (name ≤ hex + 65)
      → length s ≤ most_bytes → c ≡ sets b name (take (e.name_end - e.name_start) (drop e.name_start s) ++ 0 ∷ [])
      → Added out at (record_text (entry_of h s e)) c (name + (e.name_end - e.name_start) + 1)
      × (name + (e.name_end - e.name_start) + 1 ≤ at + 1073741905)
  unfolding record_text entry_of name_of
  record_added out a b c at hex name x y l z =
      let o : length (name_of s e ++ 0 ∷ []) ≡ e.name_end - e.name_start + 1 = simp length-append (omega (arith, name-sized)) in
      let d : Added a hex (hex_of (id_of h s e) ++ 9 ∷ []) b name = subst (λ (i : List ℕ). Added a hex (hex_of i ++ 9 ∷ []) b name) id-there y.0 in
      (added_then (added_then x.0 d) (added_of b c _ _ _ (name_of s e ++ 0 ∷ []) refl z (omega (arith, o))), omega (arith, x.1, y.1))

-- ---- strict reading without room

not-four : (a b c d e : Bool) → or_else (pick a 0 5) (or_else (or_else (pick b 0 6) (pick c 18 0)) (or_else (pick d 0 7) (pick e 17 0))) ≡ 4 → ⊥
not-four false b c d e q = omega arith
not-four true false c d e q = omega arith
not-four true true true d e q = omega arith
not-four true true false false e q = omega arith
not-four true true false true true q = omega arith
not-four true true false true false q = omega arith

abbrev NotFour : Verdict → Type 0
NotFour v = v.number ≡ 4 → ⊥

strict-not-four : (k h : ℕ) (s : List ℕ) → Stops NotFour (strictly (git_rules k) h s)
unfolding judge git_rules name_number after_number
strict-not-four k h s =
    cut_stops NotFour (git_rules k)
    (λ before text e at z. not-four (is_text (modes_of k) text) (permitted e.name) (is_dot_git e.name) (is_after before e) (named_before before e.name))
    h s [] (listing h s) (plain_stops NotFour (λ q. omega arith) (λ at j p q. omega arith) h most_records 0 s)

pub stops_not-four : (k h : ℕ) (s : List ℕ) (v : Verdict) → tally 0 (strictly (git_rules k) h s) ≡ Err v → v.number ≡ 4 → ⊥
stops_not-four k h s v t = tally_stops NotFour 0 (strictly (git_rules k) h s) v (strict-not-four k h s) t

module _ (k h : ℕ) (s lent : List ℕ) (a : Answer) (p : a ≡ strict_answer k h s lent) (l : length lent ≡ 1) (g : rule_gate k h (length s) 0 ≡ Ok tt) where
  without_room : (c : Result ℕ Verdict) → tally 0 (strictly (git_rules k) h s) ≡ c → a ≡ in_room 0 c
  without_room c t = p ∙ rw l (answer-counted (strictly (git_rules k) h s) (rule_gate k h (length s) 0) 0 g t)

  pub settled-some : a.verdict.number ≡ 4 → fine ≡ settled (tally 0 (strictly (git_rules k) h s))
  settled-some f = go (tally 0 (strictly (git_rules k) h s)) refl
    where
      go : (c : Result ℕ Verdict) → tally 0 (strictly (git_rules k) h s) ≡ c → fine ≡ settled c
      go (Ok n) t = refl
      go (Err v) t =
          absurd
          (tally_stops NotFour 0 (strictly (git_rules k) h s) v (strict-not-four k h s) t (sym (ap (λ (x : Answer). x.verdict.number) (without_room (Err v) t)) ∙ f))

  pub settled_other : (a.verdict.number ≡ 4 → ⊥) → a.verdict ≡ settled (tally 0 (strictly (git_rules k) h s))
  settled_other f = go (tally 0 (strictly (git_rules k) h s)) refl
    where
      few : (n : ℕ) (v : Bool) → ((pick v (counted n) (refused (verdict 4 n))).verdict.number ≡ 4 → ⊥) → (pick v (counted n) (refused (verdict 4 n))).verdict ≡ fine
      few n true z = refl
      few n false z = absurd (z refl)

      go : (c : Result ℕ Verdict) → tally 0 (strictly (git_rules k) h s) ≡ c → a.verdict ≡ settled c
      go (Ok n) t =
          let e = without_room (Ok n) t in
          ap (λ (x : Answer). x.verdict) e ∙ few n (leb n 0) (λ z. f (ap (λ (x : Answer). x.verdict.number) e ∙ z))
      go (Err v) t = ap (λ (x : Answer). x.verdict) (without_room (Err v) t)

-- ---- the measure

stops_bad : (k h : ℕ) (s : List ℕ) (v : Verdict) → tally 0 (strictly (git_rules k) h s) ≡ Err v → v.number ≡ 0 → ⊥
stops_bad k h s v t = tally_stops (λ (w : Verdict). w.number ≡ 0 → ⊥) 0 (strictly (git_rules k) h s) v (cut-refuses (git_rules k) h s) t

module _ (k h : ℕ) (s : List ℕ) (v : Verdict) (p : v ≡ settled (tally 0 (strictly (git_rules k) h s))) where
  pub measured-bad : (v.number ≡ 0 → ⊥) → refused v ≡ counted_in h s (tally 0 (strictly (git_rules k) h s))
  unfolding counted_in
  measured-bad n = go (tally 0 (strictly (git_rules k) h s)) p
    where
      go : (c : Result ℕ Verdict) → v ≡ settled c → refused v ≡ counted_in h s c
      go (Ok m) q = absurd (n (ap (λ (x : Verdict). x.number) q))
      go (Err w) q = ap refused q

  pub measured-fine : v.number ≡ 0 → (n : ℕ) → n ≡ 0 + length (text_in h s) → counted n ≡ counted_in h s (tally 0 (strictly (git_rules k) h s))
  unfolding counted_in
  measured-fine z n e = go (tally 0 (strictly (git_rules k) h s)) refl p
    where
      go : (c : Result ℕ Verdict) → tally 0 (strictly (git_rules k) h s) ≡ c → v ≡ settled c → counted n ≡ counted_in h s c
      go (Ok m) t q = ap counted (omega (arith, e))
      go (Err w) t q = absurd (stops_bad k h s w t (sym (ap (λ (x : Verdict). x.number) q) ∙ z))

-- where it is done it is the length of the text
pub counted-length : (h : ℕ) (s : List ℕ) (k : ℕ)
    → (counted_in h s (tally 0 (strictly (git_rules k) h s))).verdict.number ≡ 0 → (counted_in h s (tally 0 (strictly (git_rules k) h s))).count ≡ length (text_in h s)
unfolding counted_in
counted-length h s k = go (tally 0 (strictly (git_rules k) h s)) refl
  where
    go : (c : Result ℕ Verdict) → tally 0 (strictly (git_rules k) h s) ≡ c → (counted_in h s c).verdict.number ≡ 0 → (counted_in h s c).count ≡ length (text_in h s)
    go (Ok n) t z = refl
    go (Err v) t z = absurd (stops_bad k h s v t z)

-- and every entry was counted
pub counted_total : (h : ℕ) (s : List ℕ) (k : ℕ)
    → (counted_in h s (tally 0 (strictly (git_rules k) h s))).verdict.number ≡ 0 → (n : ℕ) × (tally 0 (strictly (git_rules k) h s) ≡ Ok n)
unfolding counted_in
counted_total h s k = go (tally 0 (strictly (git_rules k) h s)) refl
  where
    go : (c : Result ℕ Verdict) → tally 0 (strictly (git_rules k) h s) ≡ c → (counted_in h s c).verdict.number ≡ 0 → (n : ℕ) × (tally 0 (strictly (git_rules k) h s) ≡ Ok n)
    go (Ok n) t z = (n, t)
    go (Err v) t z = absurd (stops_bad k h s v t z)

-- ---- the answer

module _ (k h : ℕ) (s : List ℕ) (room m : ℕ) (e : m ≡ max (length s) room) where
  pub export_shut : (v : Verdict) → rule_gate k h m 0 ≡ Err v → export_answer k h s room ≡ refused v
  unfolding export_answer
  export_shut v g = gated-shut _ v _ (ap (λ (x : ℕ). rule_gate k h x 0) (sym e) ∙ g)

  pub export_open : rule_gate k h m 0 ≡ Ok tt → export_answer k h s room ≡ fitted room (counted_in h s (tally 0 (strictly (git_rules k) h s)))
  unfolding export_answer
  export_open g = gated_open _ _ (ap (λ (x : ℕ). rule_gate k h x 0) (sym e) ∙ g)

  -- what a gate that is open says
  pub began : rule_gate k h m 0 ≡ Ok tt → (rule_gate k h (length s) 0 ≡ Ok tt) × (id_length h ≡ true) × (length s ≤ most_bytes)
  began g =
      let i = rule_open k h m 0 g in
      let o = gate_open h m 0 (sym (rule_known k h m 0 i) ∙ g) in
      (rule_known k h (length s) 0 i ∙ gate_fine h (length s) 0 o.0 (omega (arith, o.1)) (omega arith), id-made h o.0, omega (arith, o.1))

-- the same of a call on the object alone
pub began_here : (k h : ℕ) (s : List ℕ) → rule_gate k h (length s) 0 ≡ Ok tt → (id_length h ≡ true) × (length s ≤ most_bytes)
began_here k h s g =
    let o = gate_open h (length s) 0 (sym (rule_known k h (length s) 0 (rule_open k h (length s) 0 g)) ∙ g) in
    (id-made h o.0, o.1)
