-- The rounds on a partition in columns, in reading order.

-- The block count of a consistent partition is the number of its blocks.
pub use Rattle.refinement_partition.proofs.Counts.{count_blocks}
-- `partition_marked_with` of a block that is wholly marked divides it by its numbers: a turn of a round.
pub use Rattle.refinement_partition.proofs.Divisions.{divides, turn}
-- A round that has made more blocks goes on, one that has not has ended; there are fewer rounds than blocks.
pub use Rattle.refinement_partition.proofs.Runs.{round_more, round_done, rounds_below}
