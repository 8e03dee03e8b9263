-- `names::is_reserved` meets its contract. Assumes nothing.
use Rattle.std.proofs.Common.{sym, arith}
use Rattle.names.proofs.Laws.{reserved_length, reserved_second}
use Rattle.names.proofs.is_reserved.Goals as goal

pub returns-in_default-4 : goal.returns-in_default-4
returns-in_default-4 c = sym (reserved_length c.args.name.now (λ e. omega arith) (λ e. omega arith) (λ e. omega arith) (λ e. omega arith))

pub returns-in_default-7 : goal.returns-in_default-7
returns-in_default-7 c = sym (reserved_second c.args.name.now (omega arith) (λ e. omega (arith, e)))

pub returns-in_default-9 : goal.returns-in_default-9
returns-in_default-9 c = sym (reserved_length c.args.name.now (λ e. omega arith) (λ e. omega arith) (λ e. omega arith) (λ e. omega arith))
