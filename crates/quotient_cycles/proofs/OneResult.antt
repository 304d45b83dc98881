-- Any two results that the contract of `tau_cycle_elimination_and_reorder` allows are equal.
use Rattle.columns.specs.OneResult.{OneResult}
use Rattle.columns.proofs.OneResult.{skip, works, determined}
use Rattle.quotient_cycles.proofs.Sayings.{same_reordered}
use Rattle.quotient_cycles.specs.contracts.tau_cycle_elimination_and_reorder as call_said
use Rattle.quotient_cycles.proofs.tau_cycle_elimination_and_reorder as call

-- the columns of the rows, and the work slices
pub tau_cycle_elimination_and_reorder_lem : OneResult call_said.ended call.Reads.Learnt
tau_cycle_elimination_and_reorder_lem κs a r q x y =
    determined same_reordered (λ c. skip 3 (c.0.0, (c.0.1.0, (c.0.1.1, works 9 c.1)))) r q
