-- `text_import::element` meets its contract. Assumes nothing.
use mathlib.Core.Path.{ap, ◌∙◌}
use mathlib.Core.Bool.{true}
use Rattle.text_import.specs.Code.{element_of}
use Rattle.text_import.proofs.Walk.{element_file, element_folder}
use Rattle.text_import.proofs.element.Goals as goal

pub returns-then-is_tree : goal.returns-then-is_tree
returns-then-is_tree c =
    let args = c.args in
    let front-mode = c.front_mode in
    let is-tree = c.is_tree in
    let if1 = c.if-is_tree in
    element_folder args.at _ is-tree.ensures if1.true ∙ ap (element_of true args.at) front-mode.ensures

pub returns : goal.returns
returns c =
    let args = c.args in
    let front-mode = c.front_mode in
    let is-tree = c.is_tree in
    let if1 = c.if-is_tree in
    element_file args.at _ is-tree.ensures if1.false ∙ ap (element_of true args.at) front-mode.ensures
