-- What an answer says that holds a partition: n and the block count. And the block count after an answer that says it.
use Rattle.std.specs.Prelude.{ℕ, ◌-◌, List, [], ◌∷◌, length, slice_index_or}
use Rattle.columns.specs.Answers.{Answer, Said, done, refused, said_by}
use Rattle.partition_calls.specs.declared.BlockPartition.{BlockPartition}

abbrev pub partition_values : BlockPartition → List ℕ
partition_values p = p.n ∷ p.count ∷ []

abbrev pub said_partition : Answer BlockPartition → Said
said_partition a = said_by partition_values a

-- the block count after a call that may change it: the last number that it says, and the old count where it is refused
abbrev pub count_said : Said → ℕ → ℕ
count_said (done values) old = slice_index_or values (length values - 1) old
count_said (refused _ _) old = old
