-- `text_form::word_len` meets its contract. Assumes nothing.
use mathlib.Core.Path.{sym}
use Rattle.ground.specs.Basics.{ascii}
use Rattle.text_form.proofs.Laws.{begun, word-blob, word-tree, word-commit, word_none}
use Rattle.text_form.proofs.word_len.Goals as goal

pub returns-then-same_bytes : goal.returns-then-same_bytes
returns-then-same_bytes c =
    let args = c.args in
    let first = c.first in
    let same_bytes = c.same_bytes in
    let if1 = c.if-same_bytes in
    sym (word-blob args.b.now (begun (ascii "blob ") args.b.now first.ensures same_bytes.ensures if1.true))

pub returns-then-same_bytes-2 : goal.returns-then-same_bytes-2
returns-then-same_bytes-2 c =
    let args = c.args in
    let first = c.first in
    let same_bytes = c.same_bytes in
    let if1 = c.if-same_bytes in
    let first2 = c.first-2 in
    let same-bytes2 = c.same_bytes-2 in
    let if2 = c.if-same_bytes-2 in
    sym (word-tree args.b.now (begun (ascii "blob ") args.b.now first.ensures same_bytes.ensures if1.false)
    (begun (ascii "tree ") args.b.now first2.ensures same-bytes2.ensures if2.true))

pub returns-then-same_bytes-3 : goal.returns-then-same_bytes-3
returns-then-same_bytes-3 c =
    let args = c.args in
    let first = c.first in
    let same_bytes = c.same_bytes in
    let if1 = c.if-same_bytes in
    let first2 = c.first-2 in
    let same-bytes2 = c.same_bytes-2 in
    let if2 = c.if-same_bytes-2 in
    let first3 = c.first-3 in
    let same-bytes3 = c.same_bytes-3 in
    let if3 = c.if-same_bytes-3 in
    sym (word-commit args.b.now (begun (ascii "blob ") args.b.now first.ensures same_bytes.ensures if1.false)
    (begun (ascii "tree ") args.b.now first2.ensures same-bytes2.ensures if2.false)
    (begun (ascii "commit ") args.b.now first3.ensures same-bytes3.ensures if3.true))

pub returns : goal.returns
returns c =
    let args = c.args in
    let first = c.first in
    let same_bytes = c.same_bytes in
    let if1 = c.if-same_bytes in
    let first2 = c.first-2 in
    let same-bytes2 = c.same_bytes-2 in
    let if2 = c.if-same_bytes-2 in
    let first3 = c.first-3 in
    let same-bytes3 = c.same_bytes-3 in
    let if3 = c.if-same_bytes-3 in
    sym (word_none args.b.now (begun (ascii "blob ") args.b.now first.ensures same_bytes.ensures if1.false)
    (begun (ascii "tree ") args.b.now first2.ensures same-bytes2.ensures if2.false)
    (begun (ascii "commit ") args.b.now first3.ensures same-bytes3.ensures if3.false))
