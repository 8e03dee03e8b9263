-- `commit_write::put_commit` meets its contract: the pieces in turn are the commit. Assumes nothing.
use Rattle.commit_write.proofs.Laws.{tree_asks, parents_asks, author_asks, committer_asks, encoding_asks, headers_asks, message_asks, commit-put}
use mathlib.Core.Path.{◌∙◌}
use Rattle.commit_write.proofs.put_commit.Goals as goal

pub put_id_line-a-requires : goal.put_id_line-a-requires
put_id_line-a-requires c =
    let r = (let a = c.args in
    tree_asks a.h a.bytes.now a.parts a.parents.now a.headers.now c.requires) in
    record { h_in_bounds = r.0; h_bound = r.1 }

pub put_parents-b-requires : goal.put_parents-b-requires
put_parents-b-requires c =
    let r = (let a = c.args in
    parents_asks a.h a.bytes.now a.parts a.parents.now a.headers.now c.requires c.put_id_line-a.ensures.value) in
    record { parents_value = r.0; h_bound = r.1 }

pub put_line-c-requires : goal.put_line-c-requires
put_line-c-requires c =
    let r = (let a = c.args in
    author_asks a.h a.bytes.now a.parts a.parents.now a.headers.now c.requires c.put_id_line-a.ensures.value
    c.put_parents-b.ensures.value) in
    record { from_le_to = r.0; from_bound = r.1 }

pub put_line-d-requires : goal.put_line-d-requires
put_line-d-requires c =
    let r = (let a = c.args in
    committer_asks a.h a.bytes.now a.parts a.parents.now a.headers.now c.requires c.put_id_line-a.ensures.value
    c.put_parents-b.ensures.value
    c.put_line-c.ensures.value) in
    record { from_le_to = r.0; from_bound = r.1 }

pub put_encoding-e-requires : goal.put_encoding-e-requires
put_encoding-e-requires c =
    let r = (let a = c.args in
    encoding_asks a.h a.bytes.now a.parts a.parents.now a.headers.now c.requires c.put_id_line-a.ensures.value
    c.put_parents-b.ensures.value
    c.put_line-c.ensures.value c.put_line-d.ensures.value) in
    record { p_value = r.0; bytes_len_bound = r.1 }

pub put_headers-f-requires : goal.put_headers-f-requires
put_headers-f-requires c =
    let r = (let a = c.args in
    headers_asks a.h a.bytes.now a.parts a.parents.now a.headers.now c.requires c.put_id_line-a.ensures.value
    c.put_parents-b.ensures.value
    c.put_line-c.ensures.value c.put_line-d.ensures.value c.put_encoding-e.ensures.value) in
    record { headers_value = r.0; bytes_len_bound = r.1 }

pub put_message-requires : goal.put_message-requires
put_message-requires c =
    let r = (let a = c.args in
    message_asks a.h a.bytes.now a.parts a.parents.now a.headers.now c.requires c.put_id_line-a.ensures.value
    c.put_parents-b.ensures.value
    c.put_line-c.ensures.value c.put_line-d.ensures.value c.put_encoding-e.ensures.value
    c.put_headers-f.ensures.value) in
    record { from_le_to = r.0; from_bound = r.1 }

pub shape_of-out : goal.shape_of-out
shape_of-out c =
    c.put_message.auto.out ∙ c.put_headers-f.auto.out ∙ c.put_encoding-e.auto.out
    ∙ c.put_line-d.auto.out ∙ c.put_line-c.auto.out ∙ c.put_parents-b.auto.out ∙ c.put_id_line-a.auto.out

pub returns : goal.returns
returns c =
    let r = (let args = c.args in
    commit-put args.h args.bytes.now args.parts args.parents.now args.headers.now args.out.now
    c.put_id_line-a.ensures.value c.put_id_line-a.ensures.out_after c.put_parents-b.ensures.value
    c.put_parents-b.ensures.out_after
    c.put_line-c.ensures.value c.put_line-c.ensures.out_after c.put_line-d.ensures.value c.put_line-d.ensures.out_after
    c.put_encoding-e.ensures.value c.put_encoding-e.ensures.out_after c.put_headers-f.ensures.value
    c.put_headers-f.ensures.out_after
    c.put_message.ensures.value c.put_message.ensures.out_after) in
    record { value = r.0; out_after = r.1 }
