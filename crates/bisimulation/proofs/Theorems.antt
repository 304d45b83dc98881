-- Bisimulations and quotients, in reading order.

-- Being bisimilar is an equivalence across tables.
pub use Rattle.bisimulation.proofs.Bisimulations.{bisimilar_same, bisimilar_turned, bisimilar_composed}
-- The steps of a quotient are those of the states, from block to block; its rows ascend, and are no more than those of the table.
pub use Rattle.bisimulation.proofs.Quotients.{quotient_in, quotient_out, quotient_ascending, quotient_few}
-- Where sharing a block is a bisimulation, each step of a block is answered by every state in it, and each state is bisimilar to its block.
pub use Rattle.bisimulation.proofs.Quotients.{shares_bisimulation, block_answered, quotient_bisimulation}
-- Where each state is its own block, the quotient is the table.
pub use Rattle.bisimulation.proofs.Quotients.{quotient_own}
-- The rows between blocks make a valid table, and so do those of them that come from the rows that pass a test.
pub use Rattle.bisimulation.proofs.Tables.{quotient_valid, kept_valid}
