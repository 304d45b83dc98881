-- Any two results that the contract of `partition_marked_with` allows are equal.
use Rattle.std.specs.Prelude.{[], ◌∷◌}
use Rattle.columns.specs.OneResult.{OneResult}
use Rattle.columns.proofs.OneResult.{skip, works, determined}
use Rattle.partition_division.proofs.Sayings.{same_division}
use Rattle.partition_division.specs.contracts.partition_marked_with as call_said
use Rattle.partition_division.proofs.partition_marked_with as call

-- the six columns of the partition, and the work slices
pub partition_marked_with_lem : OneResult call_said.ended call.Reads.Learnt
partition_marked_with_lem κs a r q x y =
    determined same_division
    (λ c.
    let p = c.0 in
    let work = works 3 (c.1.old_elements ∷ c.1.block_sizes ∷ c.1.spare ∷ []) in
    skip 1 (p.elements, (p.element_offset, (p.element_to_block, (p.begin, (p.marked_split, (p.end, skip 2 work))))))) r q
