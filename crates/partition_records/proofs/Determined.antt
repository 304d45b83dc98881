-- Any two results that the contract of a host form allows are equal.
use Prim.Native.Nat.{ℕ}
use mathlib.Core.List.{List}
use Rattle.columns.specs.Answers.{said}
use Rattle.columns.specs.Determined.{Determined}
use Rattle.columns.proofs.Determined.{determined}
use Rattle.columns.proofs.Saying.{same_answer}
use Rattle.partition.specs.declared.block.Block.{Block}
use Rattle.partition_records.specs.Records.{swap_records}
use Rattle.partition_records.specs.Unmark.{unmark_all}

pub unmark_all_lem : (b : Block) → Determined said (unmark_all b)
unmark_all_lem b = determined same_answer

-- elements, offsets, block numbers and records; n, the block count, and the two indices
pub swap-blocks : (e o b : List ℕ) (bs : List Block) (n count l r : ℕ) → Determined said (swap_records e o b bs n count l r)
swap-blocks e o b bs n count l r = determined same_answer
