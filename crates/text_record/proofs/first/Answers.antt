-- `text_record::first` meets its contract. Assumes nothing.
use Prim.Native.Nat.{ℕ}
use native.Mathlib.Nat.{sub-zero}
use native.Mathlib.Omega.{arith}
use mathlib.Core.Path.{sym, ap}
use lib.ListN.{take}
use lib.Seq.{take_all}
use Rattle.text_record.proofs.first.Goals as goal

pub returns-then-s-n : goal.returns-then-s-n
returns-then-s-n c = sym (take_all c.args.n c.args.s.now (omega arith))

pub returns : goal.returns
returns c = ap (λ (k : ℕ). take k c.args.s.now) (sub-zero c.args.n)
