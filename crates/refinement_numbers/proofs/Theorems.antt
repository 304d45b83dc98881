-- The numbers by least member, handed out state by state, in reading order.

-- At the start nothing is handed out; a block that is met for the first time gets the next number, and one that was met has its own.
pub use Rattle.refinement_numbers.proofs.Hands.{give_none, give_new, give_old}
-- At the end every state has the number of its block, by least member, and there are as many as blocks.
pub use Rattle.refinement_numbers.proofs.Hands.{give_done}
