-- `text_record::said_number` meets its contract. Assumes nothing.
use Rattle.text_record.proofs.Laws.{said-mode, said-word, said-name}
use Rattle.text_record.proofs.said_number.Goals as goal

pub returns-then-front_mode-eq0 : goal.returns-then-front_mode-eq0
returns-then-front_mode-eq0 c =
    let args = c.args in
    let first = c.first in
    let bare = c.bare in
    let mode-permitted = c.mode_permitted in
    let if1 = c.if-mode_permitted in
    let front-mode = c.front_mode in
    let if2 = c.if-front_mode-eq0 in
    said-word args.rules args.b.now args.name.now first.ensures bare.ensures mode-permitted.ensures if1.true front-mode.ensures
    if2.true

pub returns-then-mode_permitted : goal.returns-then-mode_permitted
returns-then-mode_permitted c =
    let args = c.args in
    let first = c.first in
    let bare = c.bare in
    let mode-permitted = c.mode_permitted in
    let if1 = c.if-mode_permitted in
    let front-mode = c.front_mode in
    let if2 = c.if-front_mode-eq0 in
    let name-number = c.name_number in
    said-name args.rules args.b.now args.name.now first.ensures bare.ensures mode-permitted.ensures if1.true front-mode.ensures
    if2.false name-number.ensures

pub returns : goal.returns
returns c =
    let args = c.args in
    let first = c.first in
    let bare = c.bare in
    let mode-permitted = c.mode_permitted in
    let if1 = c.if-mode_permitted in
    said-mode args.rules args.b.now args.name.now first.ensures bare.ensures mode-permitted.ensures if1.false
