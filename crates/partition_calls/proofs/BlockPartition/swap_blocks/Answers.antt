-- `swap_blocks` meets its contract.
use Rattle.std.proofs.Common.{refl, ap, []}
use Rattle.columns.specs.Answers.{none, said}
use Rattle.columns.proofs.Saying.{numbered, left_refused, left_done}
use Rattle.partition.specs.Checks.{blocks_refusal}
use Rattle.partition.specs.Partition.{parts}
use Rattle.partition.specs.SwapBlocks.{swap, swap_blocks}
use Rattle.partition.proofs.Refusals.{blocks_ready}
use Rattle.partition.proofs.SwapLaws.{swappable, swap_done}
use Rattle.partition_calls.proofs.BlockPartition.swap_blocks.Goals as goal

pub returns-in-Err : goal.returns-in-Err
unfolding swap_blocks
returns-in-Err c =
    let a = c.args in
    let p =
    parts a.elements.now a.element_offset.now a.element_to_block.now a.begin.now a.marked_split.now a.end.now a.self.n
    a.self.count in
    left_refused (blocks_refusal p a.left_index a.right_index) _ c.in-Err.ensures p (swap p a.left_index a.right_index) [] _
    (numbered _) (ap said c.refused.ensures)

pub swap_blocks-requires : goal.swap_blocks-requires
swap_blocks-requires c =
    let a = c.args in
    let p =
    parts a.elements.now a.element_offset.now a.element_to_block.now a.begin.now a.marked_split.now a.end.now a.self.n
    a.self.count in
    let q = blocks_ready p a.left_index a.right_index none c.in_default.ensures refl in
    (swappable p q.sound _ q.left, swappable p q.sound _ q.right)

pub returns : goal.returns
unfolding swap_blocks
returns c =
    let a = c.args in
    let p =
    parts a.elements.now a.element_offset.now a.element_to_block.now a.begin.now a.marked_split.now a.end.now a.self.n
    a.self.count in
    let q = blocks_ready p a.left_index a.right_index none c.in_default.ensures refl in
    left_done (blocks_refusal p a.left_index a.right_index) none c.in_default.ensures p (swap p a.left_index a.right_index) [] _ _ refl
    (ap said c.done.ensures) (swap_done p q.sound _ _ q.left q.right _ c.swap_blocks.ensures)
