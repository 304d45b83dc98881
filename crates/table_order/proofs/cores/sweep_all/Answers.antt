-- `sweep_all` meets its contract.
use Rattle.table_order.proofs.Searches.{swept_cycle}
use Rattle.table_order.proofs.cores.sweep_all.Goals as goal

pub returns-in_default : goal.returns-in_default
returns-in_default c = swept_cycle _ _ _ c.in_default.ensures
