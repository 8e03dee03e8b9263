-- Trees as text keep their promises, whatever outcomes the contracts of the calls allow: from the theorems of `importing`. Assumes nothing.
use Prim.Native.Nat.{ℕ, ◌≤◌}
use mathlib.Core.Path.{◌≡◌, ap, sym, subst, ◌∙◌}
use mathlib.Core.List.{List, ◌++◌}
use lib.ListN.{length, take, drop}
use Rattle.ground.specs.Verdict.{counted, most_bytes, most_records, stored}
use Rattle.ground.specs.declared.Answer.{Answer}
use Rattle.ground.proofs.Laws.{stored-done}
use Rattle.entry.specs.Record.{many}
use Rattle.entry.specs.Entry.{as_written}
use Rattle.one_listing.specs.Sound.{SoundListing}
use Rattle.one_listing.specs.Demand.{SameSet}
use Rattle.sorting.specs.Sort.{Perm}
use Rattle.hex_of_id.specs.Demand.{Bytes}
use Rattle.tree_text.specs.Text.{as_text}
use Rattle.tree_export.specs.Export.{text_in, export_answer}
use Rattle.text_import.specs.Import.{texts, imported, import_answer}
use Rattle.importing.specs.Importing.{given, Done}
use Rattle.importing.specs.Back.{ExportDone, SaysListing}
use Rattle.importing.proofs.Theorem.{whole, importing}
use Rattle.importing.proofs.Back.{export_says, same_object}
use Rattle.importing.proofs.Laid.{same_text}
use Rattle.demands.specs.Demand3 as strict
use Rattle.demands.proofs.Demand3.{third_demand}
use Rattle.paper.specs.Exchange as call
use Rattle.paper.specs.Exchange.{Export, Import, Exported, Imported, Alike, Wrote, Exchanges}
use Rattle.paper.proofs.Mended.{taken, same_accepts}

-- a call whose answer counts what it stored, in what it leaves
settled : (answer a : Answer) (bytes lent after : List ℕ) → answer ≡ a → a ≡ counted (length bytes) → after ≡ stored a.verdict bytes lent
    → (take answer.count after ≡ bytes) × Wrote answer lent after (take answer.count after)
settled answer a bytes lent after p q r =
    let z = ap (λ (x : Answer). x.verdict.number) q in
    let t = taken a.verdict bytes lent after answer.count z (ap (λ (x : Answer). x.count) (p ∙ q)) r in (
      t,
      record {
        counts = p ∙ q ∙ ap (λ (l : List ℕ). counted (length l)) (sym t);
        leaves = r ∙ stored-done a.verdict bytes lent z ∙ ap (λ (l : List ℕ). l ++ drop (length l) lent) (sym t);
      },
    )

-- ---- a run that is done

module _ (e : Export) (z : Exported e) where
  export_done : ExportDone (call.export_set e) (call.export_id e) (call.object e) (length (call.export_room e))
  export_done = sym (ap (λ (a : Answer). a.verdict.number) e.meets.0) ∙ z

  exported : (call.written e ≡ text_in (call.export_id e) (call.object e))
      × Wrote e.came.answer (call.export_room e) e.came.last.1.1.1.0.now (call.written e)
  exported =
      settled e.came.answer (export_answer (call.export_set e) (call.export_id e) (call.object e) (length (call.export_room e)))
      (text_in (call.export_id e) (call.object e)) (call.export_room e) _ e.meets.0 (export_says _ _ _ _ export_done).1 e.meets.1

  says : SaysListing (call.export_set e) (call.export_id e) (call.object e) (call.written e)
  says =
      subst (λ (l : List ℕ). SaysListing (call.export_set e) (call.export_id e) (call.object e) l) (sym exported.0) (export_says _ _ _ _ export_done).0

module _ (c : Import) (z : Imported c) where
  abbrev k : ℕ
  k = call.rule_set c

  abbrev h : ℕ
  h = call.id_length c

  abbrev s : List ℕ
  s = call.text c

  import_done : Done k h s (length (call.room c))
  import_done = sym (ap (λ (a : Answer). a.verdict.number) c.meets.0) ∙ z

  made : (call.made c ≡ imported (texts k h s)) × Wrote c.came.answer (call.room c) c.came.last.1.1.1.0.now (call.made c)
  made =
      settled c.came.answer (import_answer k h s (length (call.room c))) (imported (texts k h s)) (call.room c) _ c.meets.0
      (importing.counts k h s (length (call.room c)) import_done) c.meets.1

  accepted : (d : strict.Strict) → strict.object d ≡ call.made c → strict.id_length d ≡ h → strict.rule_set d ≡ k
      → length (call.listing c) ≤ many (length (strict.lent d)) → many (length (strict.lent d)) ≤ most_records → strict.Returns d (call.listing c)
  accepted d o i r room few =
      (third_demand.the_call d (call.listing c)).1 (
        subst strict.OneSet (sym r) (whole k h s (length (call.room c)) import_done).set,
        same_accepts k (strict.rule_set d) h (strict.id_length d) (imported (texts k h s)) (strict.object d) (strict.lent d) (call.listing c) (sym r) (sym i)
            (sym (o ∙ made.0)) (importing.accepted k h s (length (call.room c)) (strict.lent d) import_done room few),
      )

  import_says : SoundListing k h (call.listing c) × (call.made c ≡ as_written (call.listing c)) × Perm (call.listing c) (call.said c)
  import_says = let w = importing.says k h s (length (call.room c)) import_done in (w.0, made.0 ∙ w.1, w.2)

-- ---- one call after the other

back-again : (e : Export) → Exported e → Bytes (call.object e) → (c : Import) → Alike e c → call.text c ≡ call.written e
    → length (call.object e) ≤ length (call.room c) → length (call.room c) ≤ most_bytes → Imported c × (call.made c ≡ call.object e)
back-again e z f c a t p q =
    let w = same_object (call.export_set e) (call.export_id e) (call.object e) (length (call.export_room e)) (length (call.room c)) f (export_done e z) p q in
    let x = t ∙ (exported e z).0 in
    let n = c.meets.0 ∙ same_answer (sym a.1) (sym a.0) x (length (call.room c)) ∙ w.0 in
    let d = ap (λ (y : Answer). y.verdict.number) n in
    (d, (made c d).0 ∙ same-imported (sym a.1) (sym a.0) x ∙ w.1)
  where
    same_answer : {k l h i : ℕ} {s t : List ℕ} → k ≡ l → h ≡ i → s ≡ t → (room : ℕ) → import_answer k h s room ≡ import_answer l i t room
    same_answer p q r room = cc

    same-imported : {k l h i : ℕ} {s t : List ℕ} → k ≡ l → h ≡ i → s ≡ t → imported (texts k h s) ≡ imported (texts l i t)
    same-imported p q r = cc

out-again : (c : Import) → Imported c → (e : Export) → Alike e c → call.object e ≡ call.made c → length (as_text (call.listing c)) ≤ length (call.export_room e)
    → length (call.export_room e) ≤ most_bytes → Exported e × (call.written e ≡ as_text (call.listing c))
out-again c z e a o p q =
    let w = importing.exported (call.rule_set c) (call.id_length c) (call.text c) (length (call.room c)) (length (call.export_room e)) (import_done c z) p q in
    let x = o ∙ (made c z).0 in
    let n = e.meets.0 ∙ same_answer a.1 a.0 x (length (call.export_room e)) ∙ w.1 in
    let d = ap (λ (y : Answer). y.verdict.number) n in
    (d, (exported e d).0 ∙ same-text_in a.0 x ∙ w.0)
  where
    same_answer : {k l h i : ℕ} {s t : List ℕ} → k ≡ l → h ≡ i → s ≡ t → (room : ℕ) → export_answer k h s room ≡ export_answer l i t room
    same_answer p q r room = cc

    same-text_in : {h i : ℕ} {s t : List ℕ} → h ≡ i → s ≡ t → text_in h s ≡ text_in i t
    same-text_in p q = cc

one_set : (k l h i : ℕ) (s t : List ℕ) (room space : ℕ) → k ≡ l → h ≡ i → Done k h s room → Done l i t space → SameSet (given k h s) (given l i t)
    → imported (texts k h s) ≡ imported (texts l i t)
one_set k l h i s t room space p q d =
    subst (λ (x : ℕ). Done x i t space → SameSet (given k h s) (given x i t) → imported (texts k h s) ≡ imported (texts x i t)) p
    (subst (λ (x : ℕ). Done k x t space → SameSet (given k h s) (given k x t) → imported (texts k h s) ≡ imported (texts k x t)) q
    (λ e f. importing.same_set k h s t room space d e f))

pub exchanges : Exchanges
exchanges = record {
  export_says = says;
  export_writes = λ e z. (exported e z).1;
  import_says = import_says;
  import_writes = λ c z. (made c z).1;
  accepted = accepted;
  same_object = back-again;
  same_records = out-again;
  same_text = λ c z a. (same_text (call.rule_set c) (call.id_length c) (call.text c) (length (call.room c)) (import_done c z)).1 a;
  same_set = λ c d z y i r f.
      (made c z).0
      ∙ one_set (call.rule_set c) (call.rule_set d) (call.id_length c) (call.id_length d) (call.text c) (call.text d) (length (call.room c)) (length (call.room d)) r i
      (import_done c z) (import_done d y) f
      ∙ sym (made d y).0;
}
