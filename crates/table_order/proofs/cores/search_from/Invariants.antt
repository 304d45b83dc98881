-- The loop of `search_from`: the search stands where the last turn has left it.
use Rattle.std.proofs.Common.{◌+◌}
use Rattle.table.specs.Lts.{lts_of}
use Rattle.table_order.specs.Order.{next, sweep}
use Rattle.table_order.specs.Machine.{stack_of, Machine}
use Rattle.table_order.specs.Turn.{measure}
use Rattle.table_order.proofs.cores.search_from.Given as goal

abbrev pub invariant-loop-next : goal.invariant-loop-next
invariant-loop-next l =
    let t = lts_of l.system in
    Machine (next t l.hidden) t.n t.m (l.root + 1) (sweep (next t l.hidden) t.n (l.root + 1)) l.marks (stack_of l.next.top l.stack) l.next.count

abbrev pub decreases-loop-next : goal.decreases-loop-next
decreases-loop-next l = let t = lts_of l.system in measure (next t l.hidden) t.n l.marks (stack_of l.next.top l.stack)
