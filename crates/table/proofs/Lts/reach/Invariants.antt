-- The loop of `reach`: the search so far.
use Rattle.std.proofs.Common.{◌-◌}
use Rattle.table.specs.Lts.{lts_of}
use Rattle.table.specs.Reach.{edge}
use Rattle.table.specs.Search.{Search}
use Rattle.table.proofs.Lts.reach.Given as goal

abbrev pub invariant-loop-head : goal.invariant-loop-head
invariant-loop-head l = Search (edge (lts_of l.self) l.hidden) l.self.table.n l.state l.marks l.queue l.head l.tail

abbrev pub decreases-loop-head : goal.decreases-loop-head
decreases-loop-head l = l.self.table.n - l.head
