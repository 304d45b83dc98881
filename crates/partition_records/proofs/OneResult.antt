-- Any two results that the contract of a host form allows are equal.
use Rattle.columns.specs.OneResult.{OneResult}
use Rattle.columns.proofs.OneResult.{skip, determined}
use Rattle.columns.proofs.Saying.{same_answer}
use Rattle.partition_records.specs.contracts.swapping.swap_blocks as swap_said
use Rattle.partition_records.specs.contracts.unmarking.unmark_all as unmark_said
use Rattle.partition_records.proofs.swapping.swap_blocks as swap
use Rattle.partition_records.proofs.unmarking.unmark_all as unmark

-- the block
pub unmark_all_lem : OneResult unmark_said.ended unmark.Reads.Learnt
unmark_all_lem κs a r q x y = determined same_answer (λ c. (c, tt)) r q

-- the states' blocks, and the records
pub swap-blocks : OneResult swap_said.ended swap.Reads.Learnt
swap-blocks κs a r q x y = determined same_answer (λ c. skip 3 (c.0, (c.1, skip 2 tt))) r q
