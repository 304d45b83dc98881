-- `partition_marked_with` meets its contract.
use Rattle.std.proofs.Common.{[], ◌∷◌, length, refl, ap, ◌∙◌, arith}
use Rattle.columns.specs.Answers.{Said, none, done}
use Rattle.columns.specs.Columns.{zeros}
use Rattle.columns.proofs.Saying.{numbered, left_refused, left_done}
use Rattle.partition.specs.Partition.{Partition, parts}
use Rattle.partition_calls.specs.Saying.{count_said}
use Rattle.partition_division.specs.Divide.{partition_marked}
use Rattle.partition_division.specs.Division.{Work, work, cleared_work, division_refusal, partition_marked_with, said_division}
use Rattle.partition_division.proofs.Unfit.{division_ready}
use Rattle.partition_division.proofs.partition_marked_with.Goals as goal

-- what is said, and the columns with the block count that it says
abbrev leaves : Partition → Work → Said → Said × (Partition × Work)
leaves p w s =
    (s, (parts p.elements p.element_offset p.element_to_block p.begin p.marked_split p.end p.n (count_said s p.count), w))

pub returns-in-Err : goal.returns-in-Err
unfolding partition_marked_with division_refusal
returns-in-Err c =
    let a = c.args in
    let b = a.block_index in
    let v = a.numbers.now in
    let p =
    parts a.elements.now a.element_offset.now a.element_to_block.now a.begin.now a.marked_split.now a.end.now a.partition.n
    a.partition.count in
    let w = work a.old_elements.now a.block_sizes.now a.spare.now in
    let q = partition_marked p b v in
    ap (λ (x : _). leaves p w (said_division x)) c.refused.ensures
    ∙ left_refused (division_refusal p b v w) _ c.in-Err.ensures (p, w) (q, cleared_work w) (b ∷ p.count ∷ q.count ∷ []) _ (numbered _) refl

pub partition_marked_with-c-requires-clause-dividable : goal.partition_marked_with-c-requires-clause-dividable
partition_marked_with-c-requires-clause-dividable c =
    let a = c.args in
    let p =
    parts a.elements.now a.element_offset.now a.element_to_block.now a.begin.now a.marked_split.now a.end.now a.partition.n
    a.partition.count in
    let works = length a.old_elements.now ∷ length a.block_sizes.now ∷ length a.spare.now ∷ [] in
    (division_ready p a.block_index a.numbers.now works none c.in_default.ensures refl).ready

pub partition_marked_with-c-requires-clause-n_in_bounds : goal.partition_marked_with-c-requires-clause-n_in_bounds
partition_marked_with-c-requires-clause-n_in_bounds c =
    let a = c.args in
    let p =
    parts a.elements.now a.element_offset.now a.element_to_block.now a.begin.now a.marked_split.now a.end.now a.partition.n
    a.partition.count in
    let works = length a.old_elements.now ∷ length a.block_sizes.now ∷ length a.spare.now ∷ [] in
    let q = division_ready p a.block_index a.numbers.now works none c.in_default.ensures refl in
    omega (arith, q.numbers, q.rooms, c.clear.auto.a, c.clear-2.auto.a, c.clear-3.auto.a)

pub returns : goal.returns
unfolding partition_marked_with division_refusal
returns c =
    let a = c.args in
    let b = a.block_index in
    let v = a.numbers.now in
    let p =
    parts a.elements.now a.element_offset.now a.element_to_block.now a.begin.now a.marked_split.now a.end.now a.partition.n
    a.partition.count in
    let w = work a.old_elements.now a.block_sizes.now a.spare.now in
    let q = partition_marked p b v in
    let d = c.partition_marked_with-c in
    let l =
    parts d.new.elements d.new.element_offset d.new.element_to_block d.new.begin d.new.marked_split d.new.end a.partition.n
    a.partition.count in
    let e = d.ensures.0 in
    let z = d.ensures.1 in
    let z0 = z.0 ∙ ap zeros c.clear.auto.a in
    let z1 = z.1 ∙ ap zeros c.clear-2.auto.a in
    let z2 = z.2 ∙ ap zeros c.clear-3.auto.a in
    ap (λ (x : _). leaves l (work d.new.old_elements d.new.block_sizes d.new.spare) (said_division x)) c.done.ensures
    ∙ left_done (division_refusal p b v w) none c.in_default.ensures (p, w) (q, cleared_work w) (b ∷ p.count ∷ q.count ∷ []) _ _ refl
    (ap (λ (r : Partition). done (b ∷ p.count ∷ r.count ∷ [])) e)
    (λ i. (e i, record { old_elements = z0 i; block_sizes = z1 i; spare = z2 i }))
