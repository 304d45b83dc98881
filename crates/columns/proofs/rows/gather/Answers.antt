-- `gather` meets its contract.
use Rattle.std.proofs.Common.{arith}
use Rattle.columns.specs.Columns.{cell}
use Rattle.columns.proofs.Lists.{painted_none, painted_more, painted_done, listed-map}
use Rattle.columns.proofs.rows.gather.Goals as goal

pub loop-i-init : goal.loop-i-init
loop-i-init c = painted_none _ _ _

pub loop-i-preserved : goal.loop-i-preserved
loop-i-preserved c = painted_more _ _ _ _ _ _ (omega arith) (omega arith) c.cell_of.ensures c.loop-i.invariant

pub returns : goal.returns
returns c = painted_done _ _ _ _ _ _ c.loop-i.invariant (omega arith) (listed-map (cell c.args.a.now) c.args.order.now)
