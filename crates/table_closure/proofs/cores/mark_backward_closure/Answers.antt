-- `mark_backward_closure` meets its contract. Where nothing is marked, or nothing is unmarked, the definition reads no position.
use Rattle.std.proofs.Common.{false, refl, sym, ap, ◌∙◌}
use Rattle.columns.specs.Columns.{zeros}
use Rattle.columns.proofs.Lists.{front_zeros}
use Rattle.partition.specs.Partition.{parts}
use Rattle.table.specs.Lts.{lts_of}
use Rattle.table_closure.proofs.Closing.{goes, close_idle}
use Rattle.table_closure.proofs.Lifting.{listed, listed-close}
use Rattle.table_closure.proofs.cores.mark_backward_closure.Goals as goal

pub close_marks-requires-clause-listed : goal.close_marks-requires-clause-listed
close_marks-requires-clause-listed c =
    listed (lts_of c.args.system.now) c.requires.valid.0 c.args.element_to_block.now c.args.b _ _ c.list_inner-h.ensures.fact_2.0

pub returns-then-going_on-clause-left_value : goal.returns-then-going_on-clause-left_value
returns-then-going_on-clause-left_value c =
    let a = c.args in
    let t = lts_of a.system.now in
    let p =
    parts a.elements.now a.element_offset.now a.element_to_block.now a.begin.now a.marked_split.now a.end.now t.n a.count in
    let q = c.list_inner-h in
    listed-close t c.requires.valid.0 a.b p refl q.new.order q.result q.ensures.fact_2.0 c.requires.sound.1 c.requires.sound.0 _ c.close_marks.ensures

pub returns-then-going_on-clause-cleared : goal.returns-then-going_on-clause-cleared
returns-then-going_on-clause-cleared c =
    let q = c.list_inner-h in
    let l = q.ensures.fact_2 in
    (front_zeros q.result q.new.order c.clear.new.a l.0.room c.clear.ensures l.1 ∙ ap zeros q.auto.order, q.ensures.cleared)

pub returns-else-going_on-clause-left_value : goal.returns-else-going_on-clause-left_value
returns-else-going_on-clause-left_value c =
    let a = c.args in
    let t = lts_of a.system.now in
    let p =
    parts a.elements.now a.element_offset.now a.element_to_block.now a.begin.now a.marked_split.now a.end.now t.n a.count in
    close_idle t a.b p _ c.at-z.ensures.0
    (goes _ _ _ _ _ c.at-x.ensures.0 c.at.ensures.0 false (sym c.going_on.ensures ∙ c.if-going_on.false))
