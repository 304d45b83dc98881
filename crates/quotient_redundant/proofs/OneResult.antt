-- Any two results that the contract of `remove_redundant_transitions` allows are equal.
use Rattle.columns.specs.OneResult.{OneResult}
use Rattle.columns.proofs.OneResult.{skip, works, determined}
use Rattle.table.proofs.Tables.{same_table}
use Rattle.quotient_redundant.specs.contracts.remove_redundant_transitions as call_said
use Rattle.quotient_redundant.proofs.remove_redundant_transitions as call

-- the columns of the rows, and the work slices
pub remove_redundant_transitions_lem : OneResult call_said.ended call.Reads.Learnt
remove_redundant_transitions_lem κs a r q x y =
    determined same_table (λ c. skip 1 (c.0.0, (c.0.1.0, (c.0.1.1, works 7 c.1)))) r q
