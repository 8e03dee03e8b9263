-- Many lookups in one call are the single call's: by the theorems of `lookups`. Assumes nothing.
use Prim.Native.Nat.{ℕ, ◌*◌}
use mathlib.Core.Path.{◌≡◌, sym, ap, subst, ◌∙◌}
use mathlib.Core.Bool.{Bool}
use mathlib.Core.List.{List}
use mathlib.Core.Logic.{◌⊎◌}
use lib.ListN.{take, drop}
use Rattle.entry.specs.Record.{records_of}
use Rattle.lookup.specs.Lookup.{lookup_in}
use Rattle.lookup.specs.declared.Looked.{Looked}
use Rattle.lookups.specs.Many.{width, kept}
use Rattle.lookups.proofs.Theorems.{each_single, first_met}
use Rattle.paper.specs.Many.{before, ManyLookups}

same-lookup : {h k : ℕ} {object thing records lent name word : List ℕ} {folder sort : Bool} → object ≡ thing → h ≡ k → records ≡ lent → name ≡ word → folder ≡ sort
    → lookup_in h object (records_of records) name folder ≡ lookup_in k thing (records_of lent) word sort
same-lookup a b c d e = cc

pub many_lookups : ManyLookups
many_lookups = record {
  each_single = λ i o m n e.
      let t = each_single _ _ _ _ _ (before i) n (sym m.0 ∙ e) in (
        t.0,
        λ j l s a r k.
            let w = t.1 j l in
            let x = sym (k ∙ same-lookup a.object a.h a.records a.name a.sort) in (
              ap (λ (q : List ℕ). take width (drop (j * width) q)) m.1 ∙ w.0 ∙ ap kept x,
              subst (λ (q : Looked). (q.verdict.number ≡ 0) ⊎ (q.verdict.number ≡ 15)) x w.1,
            ),
      );
  first_met = λ i o m j e.
      let t = first_met _ _ _ _ _ (before i) j (sym m.0 ∙ e) in
      (t.0, t.1, t.2, m.1 ∙ t.3);
}
