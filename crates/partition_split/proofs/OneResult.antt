-- Any two results that the contract of `split_marked` allows are equal.
use Rattle.columns.specs.OneResult.{OneResult}
use Rattle.columns.proofs.OneResult.{skip, determined}
use Rattle.columns.proofs.Saying.{same_number}
use Rattle.partition_split.specs.contracts.split_marked as call_said
use Rattle.partition_split.proofs.split_marked as call

-- the six columns
pub split_marked_lem : OneResult call_said.ended call.Reads.Learnt
split_marked_lem κs a r q x y =
    determined same_number
    (λ c. skip 1 (c.elements, (c.element_offset, (c.element_to_block, (c.begin, (c.marked_split, (c.end, skip 2 tt))))))) r q
