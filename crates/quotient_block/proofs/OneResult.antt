-- Any two results that the contract of `quotient_lts_block` allows are equal.
use Rattle.columns.specs.OneResult.{OneResult}
use Rattle.columns.proofs.OneResult.{skip, works, determined}
use Rattle.table.proofs.Tables.{same_table}
use Rattle.quotient_block.specs.contracts.quotient_lts_block as call_said
use Rattle.quotient_block.proofs.quotient_lts_block as call

-- the columns of the rows, and the work slices
pub quotient_lts_block_lem : OneResult call_said.ended call.Reads.Learnt
quotient_lts_block_lem κs a r q x y =
    determined same_table (λ c. skip 5 (c.0.0, (c.0.1.0, (c.0.1.1, works 6 c.1)))) r q
