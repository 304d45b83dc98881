-- `new` meets its contract.
use Rattle.std.proofs.Common.{refl, ap, [], ◌∷◌}
use Rattle.columns.specs.Answers.{none}
use Rattle.columns.proofs.Saying.{numbered, left_refused, left_done}
use Rattle.partition.specs.Fresh.{fresh, new_refusal, new_partition}
use Rattle.partition.specs.Partition.{parts}
use Rattle.partition.proofs.Refusals.{new_ready}
use Rattle.partition_calls.specs.Saying.{said_partition}
use Rattle.partition_calls.proofs.BlockPartition.new.Goals as goal

pub returns-in-Err : goal.returns-in-Err
unfolding new_partition
returns-in-Err c =
    let a = c.args in
    let p =
    parts a.elements.now a.element_offset.now a.element_to_block.now a.begin.now a.marked_split.now a.end.now a.n 1 in
    left_refused (new_refusal p) _ c.in-Err.ensures p (fresh p) (a.n ∷ 1 ∷ []) _ (numbered _) (ap said_partition c.refused.ensures)

pub new-requires-clause-long : goal.new-requires-clause-long
unfolding new_refusal
new-requires-clause-long c =
    let a = c.args in
    let p =
    parts a.elements.now a.element_offset.now a.element_to_block.now a.begin.now a.marked_split.now a.end.now a.n 1 in
    (new_ready p none c.in_default.ensures refl).long

pub new-requires-clause-le_n : goal.new-requires-clause-le_n
unfolding new_refusal
new-requires-clause-le_n c =
    let a = c.args in
    let p =
    parts a.elements.now a.element_offset.now a.element_to_block.now a.begin.now a.marked_split.now a.end.now a.n 1 in
    let q = new_ready p none c.in_default.ensures refl in (q.some, q.small)

pub returns : goal.returns
unfolding new_partition
returns c =
    let a = c.args in
    let p =
    parts a.elements.now a.element_offset.now a.element_to_block.now a.begin.now a.marked_split.now a.end.now a.n 1 in
    left_done (new_refusal p) none c.in_default.ensures p (fresh p) (a.n ∷ 1 ∷ []) _ _ refl (ap said_partition c.done.ensures) c.new.ensures
