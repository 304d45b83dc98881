-- `cores.remove_redundant_transitions` meets its contract.
use Rattle.std.proofs.Common.{sym, ◌∙◌, arith}
use lib.Seq.{length-take-le}
use Rattle.columns.proofs.Counting.{many-le}
use Rattle.table.specs.Lts.{lts_of}
use Rattle.quotient_redundant.specs.Redundant.{remains}
use Rattle.quotient_redundant.proofs.Redundancy.{remaining_count, remaining_over}
use Rattle.quotient_redundant.proofs.cores.remove_redundant_transitions.Goals as goal

pub slice_bounds-write_rows-end : goal.slice_bounds-write_rows-end
slice_bounds-write_rows-end c =
    let t = lts_of c.args.system.now in
    let q = c.find_remaining-r in
    omega (arith, q.ensures.value, many-le t.m (remains t), c.requires.m_in_bounds_2.0, q.auto.order)

pub slice_bounds-write_rows-end-2 : goal.slice_bounds-write_rows-end-2
slice_bounds-write_rows-end-2 c =
    let t = lts_of c.args.system.now in
    let q = c.find_remaining-r in
    let few = many-le t.m (remains t) in
    sym (length-take-le q.result q.new.order (omega (arith, q.ensures.value, few, c.requires.m_in_bounds_2.0, q.auto.order)))

pub write_rows-requires : goal.write_rows-requires
write_rows-requires c =
    let t = lts_of c.args.system.now in
    let q = c.find_remaining-r in
    let few = many-le t.m (remains t) in
    let l = length-take-le q.result q.new.order (omega (arith, q.ensures.value, few, c.requires.m_in_bounds_2.0, q.auto.order)) in
    let p = c.requires.m_in_bounds in
    let e = q.ensures.value in
    (omega (arith, l, e, few, p.0), omega (arith, l, e, few, p.1), omega (arith, l, e, few, p.2))

pub returns-clause-value : goal.returns-clause-value
returns-clause-value c = c.find_remaining-r.ensures.value ∙ sym (remaining_count (lts_of c.args.system.now))

pub returns-clause-out_left_value : goal.returns-clause-out_left_value
returns-clause-out_left_value c =
    let w = c.write_rows.ensures in
    remaining_over _ c.requires.valid _ _ _ _ _ _ _ c.find_remaining-r.ensures.order_value w.x_value w.y_value w.z_value
