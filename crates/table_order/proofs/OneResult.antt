-- Any two results that the contract of `sort_topological` allows are equal.
use Rattle.columns.specs.OneResult.{OneResult}
use Rattle.columns.proofs.OneResult.{skip, determined}
use Rattle.columns.proofs.Saying.{same_answer}
use Rattle.table_order.specs.contracts.sort_topological as call_said
use Rattle.table_order.proofs.sort_topological as call

-- the places, the marks and the stack
pub sort_topological_lem : OneResult call_said.ended call.Reads.Learnt
sort_topological_lem κs a r q x y = determined same_answer (λ c. skip 3 (c.0, (c.1.0, (c.1.1, tt)))) r q
