-- Any two results that the contract of a signature, or of a call on tau_hat, allows are equal.
use mathlib.Core.Path.{refl}
use Rattle.columns.specs.OneResult.{OneResult}
use Rattle.columns.proofs.OneResult.{skip, works, determined_answer, determined}
use Rattle.columns.proofs.Saying.{same_number, same_flag}
use Rattle.signatures.specs.contracts.inductive as inductive_said
use Rattle.signatures.proofs.inductive as inductive
use Rattle.signatures.specs.contracts.strong as strong_said
use Rattle.signatures.proofs.strong as strong
use Rattle.signatures.specs.contracts.tau_hat as hat_said
use Rattle.signatures.proofs.tau_hat as hat

-- the labels and blocks of the pairs, and the work slices
pub strong_bisim_signature_lem : OneResult strong_said.strong_bisim_signature.ended strong.strong_bisim_signature.Reads.Learnt
strong_bisim_signature_lem κs a r q x y = determined same_number (λ c. skip 4 (c.0.0, (c.0.1, works 4 c.1))) r q

pub branching_bisim_signature_inductive_lem :
    OneResult inductive_said.branching_bisim_signature_inductive.ended inductive.branching_bisim_signature_inductive.Reads.Learnt
branching_bisim_signature_inductive_lem κs a r q x y = determined same_number (λ c. skip 5 (c.0.0, (c.0.1, works 4 c.1))) r q

pub tau_hat_lem : OneResult hat_said.tau_hat.ended hat.tau_hat.Reads.Learnt
tau_hat_lem κs a r q x y e f = (determined_answer same_number r q e f, refl)

pub is_tau_hat_lem : OneResult hat_said.is_tau_hat.ended hat.is_tau_hat.Reads.Learnt
is_tau_hat_lem κs a r q x y e f = (determined_answer same_flag r q e f, refl)
