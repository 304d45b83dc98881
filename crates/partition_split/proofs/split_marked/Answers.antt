-- `split_marked` meets its contract.
use Rattle.std.proofs.Common.{refl, ap}
use Rattle.columns.specs.Answers.{none, said_number}
use Rattle.partition.specs.Partition.{parts}
use Rattle.partition_split.specs.Split.{split_refusal}
use Rattle.partition_split.proofs.Answering.{split_ready, split_refused, split_answered}
use Rattle.partition_split.proofs.split_marked.Goals as goal

pub returns-in-Err : goal.returns-in-Err
unfolding split_refusal
returns-in-Err c =
    let a = c.args in
    let p =
    parts a.elements.now a.element_offset.now a.element_to_block.now a.begin.now a.marked_split.now a.end.now a.partition.n
    a.partition.count in
    split_refused p a.block_index a.choice.now _ _ c.in-Err.ensures (ap said_number c.refused.ensures)

pub split_marked-after-requires-clause-sound : goal.split_marked-after-requires-clause-sound
unfolding split_refusal
split_marked-after-requires-clause-sound c =
    let a = c.args in
    let p =
    parts a.elements.now a.element_offset.now a.element_to_block.now a.begin.now a.marked_split.now a.end.now a.partition.n
    a.partition.count in
    (split_ready p a.block_index a.choice.now none c.in_default.ensures refl).sound

pub split_marked-after-requires-clause-b_lt_count : goal.split_marked-after-requires-clause-b_lt_count
unfolding split_refusal
split_marked-after-requires-clause-b_lt_count c =
    let a = c.args in
    let p =
    parts a.elements.now a.element_offset.now a.element_to_block.now a.begin.now a.marked_split.now a.end.now a.partition.n
    a.partition.count in
    let q = split_ready p a.block_index a.choice.now none c.in_default.ensures refl in (q.known, q.room)

pub returns : goal.returns
unfolding split_refusal
returns c =
    let a = c.args in
    let p =
    parts a.elements.now a.element_offset.now a.element_to_block.now a.begin.now a.marked_split.now a.end.now a.partition.n
    a.partition.count in
    split_answered p a.block_index a.choice.now _ c.in_default.ensures _ (ap said_number c.done.ensures) _ _ _ _ _ _
    c.split_marked-after.ensures
