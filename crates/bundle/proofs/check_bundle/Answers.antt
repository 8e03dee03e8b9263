-- `bundle::check_bundle` meets its contract. Assumes nothing.
use mathlib.Core.Path.{refl, sym, ◌∙◌}
use Rattle.bundle.proofs.Laws.{check_is}
use Rattle.bundle.proofs.check_bundle.Goals as goal
use Rattle.std.specs.Prelude.{None, Some}

pub returns-in-None : goal.returns-in-None
returns-in-None c =
    let read-header = c.read_header in
    let enum_told = c.in-None in
    let open_bundle = c.open_bundle in
    let tell = c.tell in
    check_is _ None _ _ _ (sym read-header.ensures ∙ enum_told.is) refl open_bundle.ensures tell.ensures

pub returns-in-Some : goal.returns-in-Some
returns-in-Some c =
    let read-header = c.read_header in
    let k = c.in-Some in
    let open-bundle2 = c.open_bundle-in-Some in
    let tell2 = c.tell-in-Some in
    check_is _ (Some _) _ _ _ (sym read-header.ensures ∙ k.is) refl open-bundle2.ensures tell2.ensures
