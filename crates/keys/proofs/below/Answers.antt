-- `keys::below` meets its contract. Assumes nothing.
use mathlib.Core.Path.{refl, sym, ◌∙◌}
use native.Mathlib.Omega.{arith}
use Prim.Native.Nat.{◌%◌}
use Rattle.keys.proofs.Keys.{elements, name-length}
use Rattle.keys.proofs.below.Goals as goal
use Rattle.std.specs.declared.cmp.Ordering.TheVariants.{Equal, Greater, Less}

pub returns-in-Less : goal.returns-in-Less
returns-in-Less c =
    let args = c.args in
    let begin = c.begin-a in
    let begin2 = c.begin-b in
    let names = c.names in
    let enum_told = c.in-Less in
    elements args.text.now args.mark args.width args.x args.y _ _ begin.ensures begin2.ensures Less
    (sym enum_told.is ∙ names.ensures) _ _ refl refl

pub returns-in-Greater : goal.returns-in-Greater
returns-in-Greater c =
    let args = c.args in
    let begin = c.begin-a in
    let begin2 = c.begin-b in
    let names = c.names in
    let enum-told2 = c.in-Greater in
    elements args.text.now args.mark args.width args.x args.y _ _ begin.ensures begin2.ensures Greater
    (sym enum-told2.is ∙ names.ensures) _ _ refl refl

pub returns-in-Equal : goal.returns-in-Equal
returns-in-Equal c =
    let args = c.args in
    let begin = c.begin-a in
    let begin2 = c.begin-b in
    let names = c.names in
    let enum-told3 = c.in-Equal in
    let end = c.end in
    let end2 = c.end-in-Equal in
    let below-same = c.below_same in
    below-same.ensures ∙ elements args.text.now args.mark args.width args.x args.y _ _ begin.ensures begin2.ensures Equal
    (sym enum-told3.is ∙ names.ensures) _ _ (name-length args.text.now args.mark args.width _ _ (args.x % 2) end.ensures (omega arith))
    (name-length args.text.now args.mark args.width _ _ (args.y % 2) end2.ensures (omega arith))
