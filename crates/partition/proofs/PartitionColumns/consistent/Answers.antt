-- `consistent` meets its contract.
use Rattle.std.proofs.Common.{rules}
use Rattle.partition.specs.Partition.{consistentb}
use Rattle.partition.proofs.PartitionColumns.consistent.Goals as goal

pub returns-then-lies_ok : goal.returns-then-lies_ok
unfolding consistentb
returns-then-lies_ok c = search rules

pub returns-else-lies_ok : goal.returns-else-lies_ok
unfolding consistentb
returns-else-lies_ok c = search rules
