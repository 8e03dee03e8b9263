-- `listing_text::put_listing` meets its contract. Assumes nothing.
use mathlib.Core.Path.{sym, ◌∙◌}
use Rattle.listing_text.proofs.Room.{told-any, told_other}
use Rattle.listing_text.proofs.put_listing.Goals as goal

pub list_any-requires : goal.list_any-requires
list_any-requires c = sym c.is_id_length.ensures ∙ c.if-is_id_length.true

pub returns-then-is_id_length : goal.returns-then-is_id_length
returns-then-is_id_length c =
    let r = (let args = c.args in
    let is-id-length = c.is_id_length in
    let if1 = c.if-is_id_length in
    let list_any = c.list_any in
    told-any args.h args.object.now _ _ _ (sym is-id-length.ensures ∙ if1.true) list_any.ensures.listed list_any.ensures.out) in
    record { listed = r.0; out = r.1 }

pub returns : goal.returns
returns c =
    let r = (let args = c.args in
    let is-id-length = c.is_id_length in
    let if1 = c.if-is_id_length in
    let add-refusal = c.add_refusal-len in
    told_other args.h args.object.now (sym is-id-length.ensures ∙ if1.false) add-refusal.ensures) in
    record { listed = r.0; out = r.1 }
