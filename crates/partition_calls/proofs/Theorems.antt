-- The calls on a partition, in reading order.

-- What they do, in the words of document 01.
pub use Rattle.partition.proofs.Theorems.{new_partition_done, iter_some, iter_empty, mark_element_done, swap_blocks_done}
-- No other result is possible.
pub use Rattle.partition_calls.proofs.Sayings.{same_partition}
pub use Rattle.partition_calls.proofs.Determined.{
  new,
  num_of_blocks_lem,
  len,
  block_number_lem,
  is_element_marked_lem,
  read_block_lem,
  iter_block_lem,
  iter_block_refusal_lem,
  mark_element_lem,
  swap-blocks,
}
