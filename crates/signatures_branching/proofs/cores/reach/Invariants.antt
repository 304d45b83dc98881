-- The loop of `reach`: the pairs of the states visited are pushed.
use Rattle.std.proofs.Common.{◌-◌}
use Rattle.table.specs.Lts.{lts_of}
use Rattle.signatures_branching.specs.Visiting.{Visits}
use Rattle.signatures_branching.proofs.cores.reach.Given as goal

abbrev pub invariant-loop-head : goal.invariant-loop-head
invariant-loop-head l =
    Visits (lts_of l.system) l.element_to_block l.b l.state l.marks l.queue l.head l.tail l.pushed_labels l.pushed_blocks l.d

abbrev pub decreases-loop-head : goal.decreases-loop-head
decreases-loop-head l = l.system.table.n - l.head
