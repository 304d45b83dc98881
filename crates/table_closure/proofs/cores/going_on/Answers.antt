-- `going_on` meets its contract.
use Rattle.std.proofs.Common.{rules}
use Rattle.table_closure.specs.Closure.{going_on}
use Rattle.table_closure.proofs.cores.going_on.Goals as goal

pub returns-then-marked_split-it : goal.returns-then-marked_split-it
unfolding going_on
returns-then-marked_split-it c = search rules

pub returns-else-marked_split-it : goal.returns-else-marked_split-it
unfolding going_on
returns-else-marked_split-it c = search rules
