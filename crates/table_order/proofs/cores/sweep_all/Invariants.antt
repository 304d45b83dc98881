-- The loop of `sweep_all`: the searches from the states before root are over.
use Rattle.table.specs.Lts.{lts_of}
use Rattle.table_order.specs.Order.{next}
use Rattle.table_order.specs.Machine.{Idle}
use Rattle.table_order.proofs.cores.sweep_all.Given as goal

abbrev pub invariant-loop-root : goal.invariant-loop-root
invariant-loop-root l = let t = lts_of l.system in Idle (next t l.hidden) t.n t.m l.root l.marks l.count
