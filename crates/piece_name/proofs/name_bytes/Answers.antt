-- `piece_name::name_bytes` meets its contract. Assumes nothing.
use native.Mathlib.Omega.{arith}
use mathlib.Core.Path.{sym}
use lib.Seq.{length-take-le}
use Rattle.piece_name.proofs.Names.{bytes-are}
use Rattle.piece_name.proofs.name_bytes.Goals as goal

pub slice_bounds-find_nul-end : goal.slice_bounds-find_nul-end
slice_bounds-find_nul-end c =
    let args = c.args in
    let shorter = c.shorter-n in
    sym (length-take-le shorter.result args.bytes.now (omega (arith, shorter.ensures)))

pub returns : goal.returns
returns c =
    let args = c.args in
    let shorter = c.shorter-n in
    bytes-are args.room args.bytes.now shorter.result c.find_nul.result shorter.ensures c.find_nul.ensures
