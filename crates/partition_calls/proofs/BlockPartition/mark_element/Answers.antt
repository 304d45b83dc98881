-- `mark_element` meets its contract.
use Rattle.std.proofs.Common.{true, refl, ap, []}
use Rattle.columns.specs.Answers.{none, said}
use Rattle.columns.proofs.Saying.{numbered, left_refused, left_done}
use Rattle.partition.specs.Checks.{state_refusal}
use Rattle.partition.specs.Mark.{mark, mark_element}
use Rattle.partition.specs.Partition.{parts}
use Rattle.partition.proofs.Marks.{markable, mark_done}
use Rattle.partition.proofs.Refusals.{argument_ready}
use Rattle.partition_calls.proofs.BlockPartition.mark_element.Goals as goal

pub returns-in-Err : goal.returns-in-Err
unfolding mark_element
returns-in-Err c =
    let a = c.args in
    let p =
    parts a.elements.now a.element_offset.now a.element_to_block.now a.begin.now a.marked_split.now a.end.now a.self.n
    a.self.count in
    left_refused (state_refusal p a.element) _ c.in-Err.ensures p (mark p a.element) [] _ (numbered _) (ap said c.refused.ensures)

pub mark_element-requires : goal.mark_element-requires
mark_element-requires c =
    let a = c.args in
    let p =
    parts a.elements.now a.element_offset.now a.element_to_block.now a.begin.now a.marked_split.now a.end.now a.self.n
    a.self.count in
    let q = argument_ready p a.element a.self.n true none c.in_default.ensures refl in
    markable p a.element q.sound q.known

pub returns : goal.returns
unfolding mark_element
returns c =
    let a = c.args in
    let p =
    parts a.elements.now a.element_offset.now a.element_to_block.now a.begin.now a.marked_split.now a.end.now a.self.n
    a.self.count in
    left_done (state_refusal p a.element) none c.in_default.ensures p (mark p a.element) [] _ _ refl (ap said c.done.ensures)
    (mark_done p a.element _ c.mark_element.ensures)
