-- `read_column` meets its contract.
use Rattle.std.proofs.Common.{refl, arith}
use Rattle.columns.proofs.Lists.{painted_none, painted_more, painted_done}
use Rattle.file.specs.Input.{column}
use Rattle.file.proofs.cores.read_column.Goals as goal

pub loop-i-init : goal.loop-i-init
loop-i-init c = painted_none _ _ _

pub loop-i-preserved : goal.loop-i-preserved
loop-i-preserved c = painted_more _ _ _ _ _ _ (omega arith) (omega arith) c.number_at.ensures.0 c.loop-i.invariant

pub returns : goal.returns
unfolding column
returns c = painted_done _ _ _ _ _ _ c.loop-i.invariant (omega arith) refl
