-- `taken` meets its contract.
use Rattle.std.proofs.Common.{rules}
use Rattle.table.specs.Reach.{takes}
use Rattle.table.proofs.cores.taken.Goals as goal

pub returns-then-not-hidden : goal.returns-then-not-hidden
unfolding takes
returns-then-not-hidden c = search rules

pub returns-else-not-hidden : goal.returns-else-not-hidden
unfolding takes
returns-else-not-hidden c = search rules
