-- `number_at` meets its contract.
use Rattle.std.proofs.Common.{◌-◌, refl, arith}
use Rattle.file.proofs.Digits.{read_none, read_more, read_few}
use Rattle.file.proofs.numbers.number_at.Goals as goal

pub loop-i-init : goal.loop-i-init
loop-i-init c = read_none c.args.bytes.now c.args.at c.args.width

pub overflow_mul-x : goal.overflow_mul-x
overflow_mul-x c = omega (arith, read_few _ _ _ _ _ c.loop-i.invariant (omega arith) (omega arith))

pub overflow_add-x : goal.overflow_add-x
overflow_add-x c =
    omega (arith, c.type_inv.bytes (c.loop-i.i - 1), read_few _ _ _ _ _ c.loop-i.invariant (omega arith) (omega arith))

pub loop-i-preserved : goal.loop-i-preserved
loop-i-preserved c =
    read_more _ _ _ _ (c.loop-i.i - 1) _ c.loop-i.invariant (omega arith) refl (omega (arith, c.type_inv.bytes (c.loop-i.i - 1)))
