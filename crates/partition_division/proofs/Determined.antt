-- Any two results that the contract of `partition_marked_with` allows are equal. The cells are the partition, with the block count that
-- the answer says, and the work slices.
use Rattle.std.specs.Prelude.{ℕ, List}
use Rattle.columns.specs.Determined.{Determined}
use Rattle.columns.proofs.Determined.{determined}
use Rattle.partition.specs.Partition.{Partition}
use Rattle.partition_division.specs.Division.{Work, said_division, partition_marked_with}
use Rattle.partition_division.proofs.Sayings.{same_division}

pub partition_marked_with_lem : (p : Partition) (b : ℕ) (v : List ℕ) (w : Work) → Determined said_division (partition_marked_with p b v w)
partition_marked_with_lem p b v w = determined same_division
