-- The loop of `push_successors`: the rows seen are pushed, as far as they offer a state that is not yet visited.
use Rattle.table_order.specs.Machine.{stack_of}
use Rattle.table_order.proofs.Rows.{Offer, sofar}
use Rattle.table_order.proofs.cores.push_successors.Given as goal

abbrev pub invariant-loop-i : goal.invariant-loop-i
invariant-loop-i l =
    Offer (sofar l.hidden l.system.source.now l.system.label.now l.system.target.now l.s l.i) l.marks (stack_of l.top l.fn.stack) l.stack l.top l.high
