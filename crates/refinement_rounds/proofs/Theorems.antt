-- A round, and the rounds until nothing splits, in reading order.

-- A block whose states are numbered by signature can be divided, and divided it is the next turn of the round.
pub use Rattle.refinement_rounds.proofs.OneBlock.{tell, dense, ready, divided-next}
-- After the last block the round is done, and a round by stored signatures is one by the signatures themselves.
pub use Rattle.refinement_rounds.proofs.AllBlocks.{all_done}
pub use Rattle.refinement_rounds.proofs.Steps.{by_signatures}
-- The rounds: they start with one block, are fewer than n, go on where the block count grew, and have ended where it did not.
pub use Rattle.refinement_rounds.proofs.Steps.{go_start, go_few, go_more, go_done}
