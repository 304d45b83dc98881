-- Any two results that the contract of the branching signature allows are equal.
use Rattle.columns.specs.OneResult.{OneResult}
use Rattle.columns.proofs.OneResult.{skip, works, determined}
use Rattle.columns.proofs.Saying.{same_number}
use Rattle.signatures_branching.specs.contracts.branching_bisim_signature as call_said
use Rattle.signatures_branching.proofs.branching_bisim_signature as call

-- the labels and blocks of the pairs, and the work slices
pub branching_bisim_signature_lem : OneResult call_said.ended call.Reads.Learnt
branching_bisim_signature_lem κs a r q x y = determined same_number (λ c. skip 4 (c.0.0, (c.0.1, works 6 c.1))) r q
