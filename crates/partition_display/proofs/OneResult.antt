-- Any two results that the contract of `display` allows are equal.
use Rattle.columns.specs.OneResult.{OneResult}
use Rattle.columns.proofs.OneResult.{skip, determined}
use Rattle.columns.proofs.Saying.{same_number}
use Rattle.partition_display.specs.contracts.display as call_said
use Rattle.partition_display.proofs.display as call

-- the text
pub display : OneResult call_said.ended call.Reads.Learnt
display κs a r q x y = determined same_number (λ c. skip 2 (c, tt)) r q
