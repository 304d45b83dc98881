-- Any two results that the contract of `tau_scc_decomposition` allows are equal.
use Rattle.columns.specs.OneResult.{OneResult}
use Rattle.columns.proofs.OneResult.{skip, works, determined}
use Rattle.columns.proofs.Saying.{same_number}
use Rattle.quotient_components.specs.contracts.tau_scc_decomposition as call_said
use Rattle.quotient_components.proofs.tau_scc_decomposition as call

-- the numbers, and the work slices
pub tau_scc_decomposition_lem : OneResult call_said.ended call.Reads.Learnt
tau_scc_decomposition_lem κs a r q x y = determined same_number (λ c. skip 1 (c.0, works 7 c.1)) r q
