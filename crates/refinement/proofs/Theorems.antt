-- The rounds of any signature, in reading order: what is proved of the definitions of specs/Rounds, and how a partition in any numbering
-- goes along with them.

-- A round splits every block by signature under the partition that it starts with, and no further.
pub use Rattle.refinement.proofs.Rounds.{round_refines, after_refines}
-- A round splits nothing exactly if states that share a block have one signature; one that splits something makes more blocks.
pub use Rattle.refinement.proofs.Rounds.{stable_exactly, unstable_more}
-- A round splits something exactly if it is one of the first `splitting_rounds`, which are fewer than n; after them nothing splits.
pub use Rattle.refinement.proofs.Rounds.{rounds_exactly, rounds_most, rounds_stop, rounds_only, final_stays}
-- The final blocks are numbered by least member, with the numbers below their number, and no block of them splits.
pub use Rattle.refinement.proofs.Rounds.{final_numbered, final_below, final_onto, final_unsplit}
-- For blocks that are the same there is one numbering by least member, and a finer partition with no more blocks is the same.
pub use Rattle.refinement.proofs.Blocks.{by_least_unique, finer_same}
-- A partition in any numbering that is split by signature, round after round, has the blocks of the defined rounds, and at the end their
-- number and, numbered by least member, their blocks.
pub use Rattle.refinement.proofs.Ties.{next_round, last_round, run_start, run_more, run_done}
