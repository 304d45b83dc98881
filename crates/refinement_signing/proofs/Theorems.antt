-- The signatures of a round, stored and compared, in reading order.

-- The pairs of a state's rows are those that its strong signature is made of.
pub use Rattle.refinement_signing.proofs.OwnRows.{own_pairs}
-- Signatures laid one behind the other are found again by where they begin; so all states are signed.
pub use Rattle.refinement_signing.proofs.Laying.{lay_done}
pub use Rattle.refinement_signing.proofs.Turns.{turn_done}
-- Two states are alike exactly if their signatures are equal, and that is an equivalence.
pub use Rattle.refinement_signing.proofs.Comparisons.{alike_in, alike_out}
pub use Rattle.refinement_signing.proofs.Numberings.{alike_equivalence}
-- The states of a block are numbered by their signatures: an old number for a signature that was met, else the next.
pub use Rattle.refinement_signing.proofs.Numberings.{number_few, number_old, number_new}
