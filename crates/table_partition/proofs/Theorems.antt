-- A table and a partition in one call, in reading order.

-- Every test holds exactly for a right table, a consistent partition and the room.
pub use Rattle.table_partition.proofs.Refusals.{both_of, of_both}
-- What a call goes by that takes a state or a block as well and is not refused.
pub use Rattle.table_partition.proofs.Refusals.{both_ready}
