-- `mark_place` meets its contract.
use Rattle.std.proofs.Common.{arith}
use Rattle.table_order.specs.Turn.{mark_place}
use Rattle.table_order.proofs.cores.mark_place.Goals as goal

pub returns-then-reversed : goal.returns-then-reversed
unfolding mark_place
returns-then-reversed c = (simp c.if-reversed.true, omega arith)

pub returns-else-reversed : goal.returns-else-reversed
unfolding mark_place
returns-else-reversed c = (simp c.if-reversed.false, omega arith)
