-- `text_import::write_all` meets its contract. Assumes nothing.
use Rattle.text_import.proofs.Bytes.{Writing}
use Rattle.text_import.proofs.write_all.Given as goal

abbrev pub invariant-loop-x : goal.invariant-loop-x
invariant-loop-x l = Writing l.rules l.h l.text l.list l.initial.out l.out l.x-index l.at
