-- Any two results that the contract of the sorted branching signature allows are equal.
use Rattle.columns.specs.OneResult.{OneResult}
use Rattle.columns.proofs.OneResult.{skip, works, determined}
use Rattle.columns.proofs.Saying.{same_number}
use Rattle.signatures_sorted.specs.contracts.branching_bisim_signature_sorted as call_said
use Rattle.signatures_sorted.proofs.branching_bisim_signature_sorted as call

-- the labels and blocks of the pairs, and the work slices
pub branching_bisim_signature_sorted_lem : OneResult call_said.ended call.Reads.Learnt
branching_bisim_signature_sorted_lem κs a r q x y = determined same_number (λ c. skip 7 (c.0.0, (c.0.1, works 7 c.1))) r q
