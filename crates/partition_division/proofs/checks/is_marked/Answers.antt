-- `is_marked` meets its contract.
use Rattle.std.proofs.Common.{rules}
use Rattle.partition.specs.Marked.{marked_from}
use Rattle.partition_division.proofs.checks.is_marked.Goals as goal

pub returns-then-at-b : goal.returns-then-at-b
unfolding marked_from
returns-then-at-b c = search rules

pub returns-else-at-b : goal.returns-else-at-b
unfolding marked_from
returns-else-at-b c = search rules
