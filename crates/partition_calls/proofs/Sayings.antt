-- What an answer that holds a partition says determines it.
use Rattle.std.specs.Prelude.{◌≡◌}
use Rattle.columns.specs.Answers.{Answer}
use Rattle.columns.proofs.Saying.{same_said}
use Rattle.partition_calls.specs.declared.BlockPartition.{BlockPartition}
use Rattle.partition_calls.specs.Saying.{partition_values, said_partition}

same_values : (a b : BlockPartition) → partition_values a ≡ partition_values b → a ≡ b
same_values a b e =
    let n : a.n ≡ b.n = cc in
    let c : a.count ≡ b.count = cc in
    λ i. record { n = n i; count = c i }

pub same_partition : (a b : Answer BlockPartition) → said_partition a ≡ said_partition b → a ≡ b
same_partition = same_said partition_values same_values
