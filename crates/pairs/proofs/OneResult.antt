-- Any two results that the contract of `is_subset_of` allows are equal.
use mathlib.Core.Path.{refl}
use Rattle.columns.specs.OneResult.{OneResult}
use Rattle.columns.proofs.OneResult.{determined_answer}
use Rattle.columns.proofs.Saying.{same_flag}
use Rattle.pairs.specs.contracts.is_subset_of as call_said
use Rattle.pairs.proofs.is_subset_of as call

pub is_subset_of_lem : OneResult call_said.ended call.Reads.Learnt
is_subset_of_lem κs a r q x y e f = (determined_answer same_flag r q e f, refl)
