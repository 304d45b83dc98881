use Rattle.std.proofs.Common.{◌≤◌, ◌-◌}
use Rattle.file.specs.Layout.{counted}
use Rattle.reduce.proofs.input.count_more.Given as goal

abbrev pub invariant-loop-size : goal.invariant-loop-size
invariant-loop-size l = l.held ≤ l.size

abbrev pub decreases-loop-size : goal.decreases-loop-size
decreases-loop-size l = counted - l.size
