-- Any two results that the contract of a call on a partition allows are equal.
use Rattle.std.specs.Prelude.{◌≡◌}
use mathlib.Core.Path.{refl, sym, ◌∙◌}
use contract.Lifetimes.{Lfts}
use denote.Triple.Clauses.{Lasts, at_exit}
use denote.Triple.Entry.{Args, Res}
use Rattle.columns.specs.OneResult.{OneResult}
use Rattle.columns.proofs.OneResult.{skip, determined_answer, determined}
use Rattle.columns.proofs.Saying.{same_answer, same_number, same_flag}
use Rattle.partition.proofs.Sayings.{same_block}
use Rattle.partition_calls.specs.contracts.BlockPartition as calls_said
use Rattle.partition_calls.proofs.BlockPartition as calls
use Rattle.partition_calls.specs.contracts.BlockPartition.iter_block.{ended}
use Rattle.partition_calls.proofs.BlockPartition.iter_block.Reads.{Learnt}
use Rattle.partition_calls.proofs.Sayings.{same_partition}

-- the six columns
pub new : OneResult calls_said.new.ended calls.new.Reads.Learnt
new κs a r q x y =
    determined same_partition
    (λ c. skip 1 (c.elements, (c.element_offset, (c.element_to_block, (c.begin, (c.marked_split, (c.end, tt))))))) r q

pub num_of_blocks_lem : OneResult calls_said.num_of_blocks.ended calls.num_of_blocks.Reads.Learnt
num_of_blocks_lem κs a r q x y e f = (determined_answer same_number r q e f, refl)

pub len : OneResult calls_said.len.ended calls.len.Reads.Learnt
len κs a r q x y e f = (determined_answer same_number r q e f, refl)

pub block_number_lem : OneResult calls_said.block_number.ended calls.block_number.Reads.Learnt
block_number_lem κs a r q x y e f = (determined_answer same_number r q e f, refl)

pub is_element_marked_lem : OneResult calls_said.is_element_marked.ended calls.is_element_marked.Reads.Learnt
is_element_marked_lem κs a r q x y e f = (determined_answer same_flag r q e f, refl)

pub read_block_lem : OneResult calls_said.read_block.ended calls.read_block.Reads.Learnt
read_block_lem κs a r q x y e f = (determined_answer same_block r q e f, refl)

-- `iter_block` answers a part of the lent elements: two that it may answer have the same cells, and lie at the same place
pub iter_block_lem :
    (κs : Lfts ended.signature.lifetimes) (a : Args ended.signature κs) (r q : Res ended.signature κs) (x y : Lasts ended κs a)
    → Learnt κs a r (at_exit ended κs a x) → Learnt κs a q (at_exit ended κs a y) → (r.now ≡ q.now) × (r.ref_ptr ≡ q.ref_ptr)
iter_block_lem κs a r q x y e f = (e.0 ∙ sym f.0, e.1 ∙ sym f.1)

pub iter_block_refusal_lem : OneResult calls_said.iter_block_refusal.ended calls.iter_block_refusal.Reads.Learnt
iter_block_refusal_lem κs a r q x y e f = (determined_answer same_answer r q e f, refl)

-- elements, offsets and splits
pub mark_element_lem : OneResult calls_said.mark_element.ended calls.mark_element.Reads.Learnt
mark_element_lem κs a r q x y =
    determined same_answer (λ c. skip 1 (c.elements, (c.element_offset, skip 2 (c.marked_split, skip 2 tt)))) r q

-- the states' blocks, and the block table
pub swap-blocks : OneResult calls_said.swap_blocks.ended calls.swap_blocks.Reads.Learnt
swap-blocks κs a r q x y =
    determined same_answer (λ c. skip 3 (c.element_to_block, (c.begin, (c.marked_split, (c.end, skip 2 tt))))) r q
