-- Any two results that the contract of `mark_backward_closure` allows are equal.
use Rattle.columns.specs.OneResult.{OneResult}
use Rattle.columns.proofs.OneResult.{skip, determined}
use Rattle.columns.proofs.Saying.{same_answer}
use Rattle.table_closure.specs.contracts.mark_backward_closure as call_said
use Rattle.table_closure.proofs.mark_backward_closure as call

-- elements, offsets and splits, the order and the spare
pub mark_backward_closure_lem : OneResult call_said.ended call.Reads.Learnt
mark_backward_closure_lem κs a r q x y =
    determined same_answer
    (λ c.
    skip 2 (c.0.elements, (c.0.element_offset, skip 2 (c.0.marked_split, skip 2 (c.1.0, (c.1.1, tt)))))) r q
