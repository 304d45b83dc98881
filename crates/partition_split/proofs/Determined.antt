-- Any two results that the contract of `split_marked` allows are equal. The cells are the partition, with the block count that the
-- answer says.
use Rattle.std.specs.Prelude.{ℕ, List}
use Rattle.columns.specs.Answers.{said_number}
use Rattle.columns.specs.Determined.{Determined}
use Rattle.columns.proofs.Determined.{determined}
use Rattle.columns.proofs.Saying.{same_number}
use Rattle.partition.specs.Partition.{Partition}
use Rattle.partition_split.specs.Split.{split_marked}

pub split_marked_lem : (p : Partition) (b : ℕ) (c : List ℕ) → Determined said_number (split_marked p b c)
split_marked_lem p b c = determined same_number
