-- `mark_backward_closure` meets its contract.
use Rattle.std.proofs.Common.{length, refl, ap, ◌∙◌, arith}
use Rattle.columns.specs.Answers.{none, said}
use Rattle.columns.specs.Columns.{zeros}
use Rattle.columns.proofs.Saying.{numbered}
use Rattle.partition.specs.Partition.{parts}
use Rattle.table.specs.Lts.{lts_of}
use Rattle.table_closure.proofs.Answering.{closure_checked, closure_ready, closure_refused, closure_answered}
use Rattle.table_closure.proofs.mark_backward_closure.Goals as goal

pub returns-in-Err : goal.returns-in-Err
returns-in-Err c =
    let a = c.args in
    let t = lts_of a.system.now in
    let p =
    parts a.elements.now a.element_offset.now a.element_to_block.now a.begin.now a.marked_split.now a.end.now t.n a.count in
    closure_refused t p a.block_index a.order.now a.spare.now _
    (closure_checked t p a.block_index _ _ _ c.in-Err.ensures c.works_long-room.ensures) _ (numbered _) (ap said c.refused.ensures)

pub mark_backward_closure-requires-clause-valid : goal.mark_backward_closure-requires-clause-valid
mark_backward_closure-requires-clause-valid c =
    let a = c.args in
    let t = lts_of a.system.now in
    let p =
    parts a.elements.now a.element_offset.now a.element_to_block.now a.begin.now a.marked_split.now a.end.now t.n a.count in
    let q =
    closure_ready t p refl a.block_index (length a.order.now) (length a.spare.now) none
    (closure_checked t p a.block_index _ _ _ c.in_default.ensures c.works_long-room.ensures) refl in
    (q.valid, omega (arith, q.orders, c.clear.auto.a), omega (arith, q.spares, c.clear-2.auto.a))

pub mark_backward_closure-requires-clause-sound : goal.mark_backward_closure-requires-clause-sound
mark_backward_closure-requires-clause-sound c =
    let a = c.args in
    let t = lts_of a.system.now in
    let p =
    parts a.elements.now a.element_offset.now a.element_to_block.now a.begin.now a.marked_split.now a.end.now t.n a.count in
    let q =
    closure_ready t p refl a.block_index (length a.order.now) (length a.spare.now) none
    (closure_checked t p a.block_index _ _ _ c.in_default.ensures c.works_long-room.ensures) refl in
    (q.sound, q.known)

pub returns : goal.returns
returns c =
    let a = c.args in
    let t = lts_of a.system.now in
    let p =
    parts a.elements.now a.element_offset.now a.element_to_block.now a.begin.now a.marked_split.now a.end.now t.n a.count in
    let q = c.mark_backward_closure in
    closure_answered t p a.block_index a.order.now a.spare.now none
    (closure_checked t p a.block_index _ _ _ c.in_default.ensures c.works_long-room.ensures) _ refl (ap said c.done.ensures) _
    q.ensures.left_value _ _ (q.ensures.cleared.0 ∙ ap zeros c.clear.auto.a) (q.ensures.cleared.1 ∙ ap zeros c.clear-2.auto.a)
