-- `all_long` meets its contract.
use Rattle.partition.specs.Partition.{longb}
use Rattle.partition.proofs.PartitionColumns.all_long.Goals as goal

pub returns : goal.returns
unfolding longb
returns c = c.long.ensures
